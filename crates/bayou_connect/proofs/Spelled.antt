-- What a line does, by how it begins.
use Rattle.std.proofs.Common.{arith, ◌≡◌, ◌≢◌, ◌==◌, ◌∙◌, ◌∷◌, [], ℕ, List, Bool, true, false, IfOk, Result, Ok, Err, Some, ap, length, refl, subst, sym, true≢false}
use Rattle.std.proofs.lemmas.Bool.{eqb-true}
use Rattle.std.proofs.lemmas.Option.{none-some}
use Rattle.bayou_connect.specs.Speaking.{DoesLine, DoesScriptLine, DoesShort, DoesSpoken, is_of_script, spoken_of}
use Rattle.bayou_connect.specs.declared.desk.PersonDesk.{PersonDesk}
use Rattle.bayou_connect.specs.declared.doing.LineBecame.{LineBecame}
use Rattle.bayou_connect.specs.declared.doing.LineBecame.TheVariants as became
use Rattle.bayou_connect.specs.declared.doing.SpokenLine.TheVariants.{Help, Quit}
use Rattle.bayou_connect.specs.declared.fault.ConnectFault.{ConnectFault}
use Rattle.bayou_streams.specs.Account.{Account}

-- there is no byte where there is none
some_none : (byte : ℕ) (bytes : List ℕ) → byte ∷ bytes ≡ [] → ⊥
some_none byte bytes is = let same : length (byte ∷ bytes) ≡ 0 = ap (λ (xs : List ℕ). length xs) is in absurd (omega (arith, same))

-- a script's line doesn't end the lines
never_quits : (line : List ℕ) (result : Result LineBecame ConnectFault) (old new : PersonDesk) (before after : Account) (Q : Type 0)
    → IfOk result (DoesScriptLine line old new before after) → IfOk result (λ done. done ≡ became.Quit → Q)
never_quits line (Err fault) old new before after Q does = tt
never_quits line (Ok end) old new before after Q does = λ is. absurd (subst (λ (b : LineBecame). DoesScriptLine line old new before after b) is does)

of_script : (line bytes : List ℕ) (result : Result LineBecame ConnectFault) (old new : PersonDesk) (before after : Account)
    → IfOk result (DoesScriptLine line old new before after) → DoesLine line (91 ∷ bytes) result old new before after
of_script line bytes result old new before after does = record {
  blank = λ is. absurd (some_none 91 bytes is);
  spoken = record {
    quits = λ is. absurd (none-some Quit is);
    ends = never_quits line result old new before after (spoken_of (91 ∷ bytes) ≡ Some Quit) does;
    helps = λ is. absurd (none-some Help is);
  };
  script = λ is. does;
  short = λ some is. absurd (true≢false is);
}

pub does_script_line : (line words : List ℕ) (result : Result LineBecame ConnectFault) (old new : PersonDesk) (before after : Account) → is_of_script words ≡ true
    → IfOk result (DoesScriptLine line old new before after) → DoesLine line words result old new before after
does_script_line line [] result old new before after is does = absurd (true≢false (sym is))
does_script_line line (byte ∷ bytes) result old new before after is does =
    subst (λ (b : ℕ). DoesLine line (b ∷ bytes) result old new before after) (sym (eqb-true byte 91 is)) (of_script line bytes result old new before after does)

pub does_short_line : (line words : List ℕ) (result : Result LineBecame ConnectFault) (old new : PersonDesk) (before after : Account) → words ≢ [] → is_of_script words ≡ false
    → DoesSpoken (spoken_of words) result old new before after → IfOk result (DoesShort words old new before after) → DoesLine line words result old new before after
does_short_line line words result old new before after some is spoken does = record {
  blank = λ none. absurd (some none);
  spoken = spoken;
  script = λ so. absurd (true≢false (sym so ∙ is));
  short = λ some is. does;
}

is_done : LineBecame → Bool
is_done became.Done = true
is_done (became.Wrong wrong) = false
is_done became.Quit = false
is_done became.Ended = false

done_quit : became.Done ≡ became.Quit → ⊥
unfolding is_done
done_quit is = true≢false (ap (λ (b : LineBecame). is_done b) is)

pub does_nothing : (line words : List ℕ) (desk : PersonDesk) (account : Account) → words ≡ [] → DoesLine line words (Ok became.Done) desk desk account account
does_nothing line words desk account is = subst (λ (w : List ℕ). DoesLine line w (Ok became.Done) desk desk account account) (sym is) (record {
  blank = λ none. (refl, refl, refl);
  spoken = record {
    quits = λ so. absurd (none-some Quit so);
    ends = λ so. absurd (done_quit so);
    helps = λ so. absurd (none-some Help so);
  };
  script = λ so. absurd (true≢false (sym so));
  short = λ some none. absurd (some refl);
})

-- a line of no byte is empty
pub empty_of : (words : List ℕ) → (length words == 0) ≡ true → words ≡ []
empty_of [] is = refl
empty_of (byte ∷ bytes) is = let none : length (byte ∷ bytes) ≡ 0 = eqb-true (length (byte ∷ bytes)) 0 is in absurd (omega (arith, none))

-- and one that has some isn't
pub some_of : (words : List ℕ) → (length words == 0) ≡ false → words ≢ []
some_of words is none = true≢false (sym (ap (λ (w : List ℕ). length w == 0) none) ∙ is)
