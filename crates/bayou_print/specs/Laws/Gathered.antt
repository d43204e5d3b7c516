-- Lines that wait, one text after another.
use Rattle.std.proofs.Common.{◌≡◌, ℕ, List, [], ◌++◌, ◌∙◌, refl, ap, sym, subst, append_assoc}
use Rattle.std.proofs.lemmas.List.{append-nil}
use Rattle.bayou_streams.specs.Account.{Account, TakesBytes, TakesFront}
use Rattle.bayou_print.specs.Waiting.{Gathers, Stage}
use Rattle.bayou_streams.specs.Laws.Taken.{TakesBytes-nil, TakesBytes-trans}

pub Gathers-nil : (a : Stage) → Gathers a a [] []
Gathers-nil a = record { taken = []; split = refl; took = TakesBytes-nil a.output }

-- nothing happened, and the text is missing
pub Gathers-none : (a : Stage) (text : List ℕ) → Gathers a a text text
Gathers-none a text = record { taken = []; split = refl; took = TakesBytes-nil a.output }

pub Gathers-trans : (a b c : Stage) (first second missing : List ℕ) → Gathers a b first [] → Gathers b c second missing → Gathers a c (first ++ second) missing
Gathers-trans a b c first second missing one two = record {
  taken = one.taken ++ two.taken;
  split = sym (append_assoc a.waiting first second) ∙ ap (λ l. l ++ second) (one.split ∙ ap (λ l. one.taken ++ l) (append-nil b.waiting))
      ∙ append_assoc one.taken b.waiting second ∙ ap (λ l. one.taken ++ l) two.split ∙ sym (append_assoc one.taken two.taken (c.waiting ++ missing));
  took = TakesBytes-trans _ _ _ _ _ one.took two.took;
}

-- what stands after the text is missing too
pub Gathers-less : (a b : Stage) (text rest missing : List ℕ) → Gathers a b text missing → Gathers a b (text ++ rest) (missing ++ rest)
Gathers-less a b text rest missing some = record {
  taken = some.taken;
  split = sym (append_assoc a.waiting text rest) ∙ ap (λ l. l ++ rest) some.split ∙ append_assoc some.taken (b.waiting ++ missing) rest
      ∙ ap (λ l. some.taken ++ l) (append_assoc b.waiting missing rest);
  took = some.took;
}

-- a line is put after what waits, but for what is missing of it
pub put : (a mid b : Stage) (line missing : List ℕ) → Gathers a mid [] [] → b.output ≡ mid.output → mid.waiting ++ line ≡ b.waiting ++ missing → Gathers a b line missing
put a mid b line missing room same is = record {
  taken = room.taken;
  split = ap (λ l. l ++ line) (sym (append-nil a.waiting) ∙ room.split ∙ ap (λ l. room.taken ++ l) (append-nil mid.waiting)) ∙ append_assoc room.taken mid.waiting line
      ∙ ap (λ l. room.taken ++ l) is;
  took = subst (λ now. TakesBytes a.output now room.taken) (sym same) room.took;
}

-- what waited was written
pub written : (a b : Stage) → TakesBytes a.output b.output a.waiting → b.waiting ≡ [] → Gathers a b [] []
written a b took none = record {
  taken = a.waiting;
  split = ap (λ l. a.waiting ++ l) (sym (ap (λ l. l ++ []) none));
  took = took;
}

-- or a part of it, and the rest is gone
pub written_part : (a b : Stage) → TakesFront a.output b.output a.waiting → b.waiting ≡ [] → (missing : List ℕ) × Gathers a b [] missing
written_part a b (front, rest, split, took) none = (
  rest,
  record { taken = front; split = append-nil a.waiting ∙ split ∙ ap (λ l. front ++ l) (sym (ap (λ l. l ++ rest) none)); took = took },
)

-- where nothing waited before, a front of the text was taken
pub TakesBytes-front : (a b : Stage) (text missing : List ℕ) → a.waiting ≡ [] → Gathers a b text missing → TakesFront a.output b.output text
TakesBytes-front a b text missing none some = (some.taken, b.waiting ++ missing, sym (ap (λ l. l ++ text) none) ∙ some.split, some.took)

-- and then what waits was written, or a front of it
pub TakesBytes-rest : (a b : Stage) (c : Account) (text missing : List ℕ) → a.waiting ≡ [] → Gathers a b text missing → TakesFront b.output c b.waiting
    → TakesFront a.output c text
TakesBytes-rest a b c text missing none some (front, rest, split, took) = (
  some.taken ++ front,
  rest ++ missing,
  sym (ap (λ l. l ++ text) none) ∙ some.split ∙ ap (λ l. some.taken ++ (l ++ missing)) split ∙ ap (λ l. some.taken ++ l) (append_assoc front rest missing)
      ∙ sym (append_assoc some.taken front (rest ++ missing)),
  TakesBytes-trans _ _ _ _ _ some.took took,
)

pub TakesBytes-all : (a b : Stage) (c : Account) (text : List ℕ) → a.waiting ≡ [] → Gathers a b text [] → TakesBytes b.output c b.waiting → TakesBytes a.output c text
TakesBytes-all a b c text none some took =
    let split : text ≡ some.taken ++ b.waiting = sym (ap (λ l. l ++ text) none) ∙ some.split ∙ ap (λ l. some.taken ++ l) (append-nil b.waiting) in
    subst (TakesBytes a.output c) (sym split) (TakesBytes-trans _ _ _ _ _ some.took took)
