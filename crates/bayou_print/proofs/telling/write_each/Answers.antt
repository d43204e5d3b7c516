use Rattle.std.proofs.Common.{◌≡◌, ℕ, ◌+◌, ◌<◌, List, [], ◌++◌, ◌∙◌, ap, sym, length, drop, get_or, append_assoc, arith, subst}
use Rattle.std.specs.Prelude.{flat_map}
use Rattle.std.proofs.lemmas.List.{at_drop_more}
use Rattle.std.specs.Io.{IsEmptyOrEndsWith}
use Rattle.bayou_print.specs.Waiting.{Gathers, Stage, stage}
use Rattle.bayou_print.specs.Laws.Gathered.{Gathers-less, Gathers-none, Gathers-trans}
use Rattle.bayou_print.proofs.telling.write_each.Goals as goal

-- the lines from here on are the next one's text and those behind it
next_lines : {A : Type 0} (f : A → List ℕ) (all : List A) (i : ℕ) (next : A) (text : List ℕ) → i < length all → next ≡ get_or all i next → text ≡ f next
    → flat_map f (drop i all) ≡ text ++ flat_map f (drop (i + 1) all)
next_lines f all i next text within is written =
    at_drop_more (flat_map f) all i next within ∙ ap (λ shown. f shown ++ flat_map f (drop (i + 1) all)) (sym is)
    ∙ ap (λ line. line ++ flat_map f (drop (i + 1) all)) (sym written)

pub loop-part-preserved : goal.loop-part-preserved
loop-part-preserved g c =
    let (front, split, gathered, ready) = c.loop-part.invariant in
    let now = stage g.W.Write.contents in
    let f = g.P.Printer.text c.args.printer.now in
    let all = c.args.parts.now in
    let text = c.as_bytes.result.now in
    let rest = flat_map f (drop (c.loop-part.part-index + 1) all) in (
      front ++ text,
      split ∙ ap (λ l. front ++ l) (next_lines f all c.loop-part.part-index c.part-item.result text c.loop-part-test.true c.part-item.is
          (c.as_bytes.ensures.value ∙ c.in_ok-line.ensures)) ∙ sym (append_assoc front text rest),
      Gathers-trans (now c.args.output.now c.args.waiting.now) (now c.loop-part.output c.loop-part.waiting) (now c.print.new.output c.print.new.self) front text []
          gathered c.in_ok-print.ensures.whole,
      omega (arith, ready, c.in_ok-print.ensures.ready),
    )

pub print-requires : goal.print-requires
print-requires g c =
    subst (λ (l : List ℕ). IsEmptyOrEndsWith l 10) (sym (c.as_bytes.ensures.value ∙ c.in_ok-line.ensures)) (g.met.P.Printer.ends c.args.printer.now c.part-item.result)

-- the lines from this one on are missing, or a part of them
stopped : {A : Type 0} (f : A → List ℕ) (all : List A) (old now new : Stage) (front line rest missing : List ℕ) → flat_map f all ≡ front ++ (line ++ rest)
    → Gathers old now front [] → Gathers now new line missing → (missing : List ℕ) × Gathers old new (flat_map f all) missing
stopped f all old now new front line rest missing split before some = (
  missing ++ rest,
  subst (λ text. Gathers old new text (missing ++ rest)) (append_assoc front line rest ∙ sym split)
      (Gathers-less old new (front ++ line) rest missing (Gathers-trans old now new front line missing before some)),
)

pub returns-in_err-print-clause-part : goal.returns-in_err-print-clause-part
returns-in_err-print-clause-part g c =
    let now = stage g.W.Write.contents in
    let (front, split, gathered, ready) = c.loop-part.invariant in
    let (missing, some) = c.in_err-print.ensures.part in
    let f = g.P.Printer.text c.args.printer.now in
    let all = c.args.parts.now in
    let text = c.as_bytes.result.now in
    let rest = flat_map f (drop (c.loop-part.part-index + 1) all) in
    stopped f all (now c.args.output.now c.args.waiting.now) (now c.loop-part.output c.loop-part.waiting) (now c.print.new.output c.print.new.self) front text rest missing
    (split ∙ ap (λ l. front ++ l) (next_lines f all c.loop-part.part-index c.part-item.result text c.loop-part-test.true
    c.part-item.is (c.as_bytes.ensures.value ∙ c.in_ok-line.ensures))) gathered some

unfinished : (old now : Stage) (all front rest : List ℕ) → all ≡ front ++ rest → Gathers old now front [] → Gathers old now all rest
unfinished old now all front rest split before =
    subst (λ text. Gathers old now text rest) (sym split) (Gathers-trans old now now front rest rest before (Gathers-none now rest))

pub returns-in_err-line-clause-part : goal.returns-in_err-line-clause-part
returns-in_err-line-clause-part g c =
    let now = stage g.W.Write.contents in
    let (front, split, gathered, ready) = c.loop-part.invariant in
    let rest = flat_map (g.P.Printer.text c.args.printer.now) (drop c.loop-part.part-index c.args.parts.now) in
    (rest, unfinished (now c.args.output.now c.args.waiting.now) (now c.loop-part.output c.loop-part.waiting) _ front rest split gathered)
