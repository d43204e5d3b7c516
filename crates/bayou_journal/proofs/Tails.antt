-- The end of what was read is the end of what the device holds.
use Rattle.std.proofs.Common.{◌≡◌, inl, inr, ◌<◌, ◌∙◌, ℕ, ◌-◌, ◌≤◌, List, Some, ap, arith, drop, length, length-drop, subst, if◌then◌else◌, None}
use Rattle.std.proofs.lemmas.List.{drop-drop}
use Rattle.std.proofs.lemmas.Bool.{le-leb}
use Rattle.std.specs.Option.{ForSome}
use Rattle.bayou_journal.specs.Careful.{Ended, IsLeft, behind, end_of}
use Rattle.bayou_journal.specs.declared.torn.Tear.{Tear}
use Rattle.bayou_journal.specs.declared.torn.Tear.TheVariants.{Unfinished, Whole}
use Rattle.bayou_journal.specs.Torn.{IsTear}

last_of : (content : List ℕ) (len : ℕ) → len ≤ length content → length content - len ≤ length (drop (length content - 8226) content)
    → drop (length (drop (length content - 8226) content) - (length content - len)) (drop (length content - 8226) content) ≡ drop len content
last_of content len within kept =
    let size = length-drop (length content - 8226) content in
    drop-drop (length (drop (length content - 8226) content) - (length content - len)) (length content - 8226) content ∙ ap (λ (n : ℕ). drop n content) (omega (arith, within, kept, size))

pub is_behind : (content : List ℕ) (len : ℕ) → len ≤ length content → (end_of content).size - len ≤ length (end_of content).tail → behind (end_of content) len ≡ Some (drop len content)
is_behind content len within kept = ap (λ b. if b then Some (drop (length (end_of content).tail - (length content - len)) (end_of content).tail) else None) (le-leb ((end_of content).size - len) (length (end_of content).tail) kept) ∙ ap Some (last_of content len within kept)

pub is_tear : (content : List ℕ) (len : ℕ) (ended : Ended) (tear : Tear) → ended ≡ end_of content → len ≤ length content → ended.size - len ≤ length ended.tail
    → ForSome (behind ended len) (λ bytes. IsLeft ended.size bytes tear × (length bytes ≡ ended.size - len)) → IsLeft (length content) (drop len content) tear
is_tear content len ended tear is within kept torn =
    subst (λ (e : Ended). IsLeft e.size (drop len content) tear) is (torn (drop len content) (ap (λ e. behind e len) is ∙ is_behind content len within (subst (λ (e : Ended). e.size - len ≤ length e.tail) is kept))).0

-- what no append of an entry may have left is no front of a header either, where there is more
pub none_left : (size : ℕ) (bytes : List ℕ) → (size < 10 → ⊥) → ((tear : Tear) → ¬ IsTear bytes tear) → (tear : Tear) → ¬ IsLeft size bytes tear
none_left size bytes long none Unfinished = λ left. elim left [ inl short ↦ long short | inr torn ↦ none Unfinished torn ]
none_left size bytes long none Whole = none Whole
