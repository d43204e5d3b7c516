-- What bytes spell, and their faults, exclude one another.
use Rattle.std.proofs.Common.{◌≡◌, ℕ, ◌≤◌, true, false, inl, inr, ◌⊎◌, List, length, Ok, Err, sym, ◌∙◌, refl, arith}
use Rattle.std.specs.Prelude.{IsUtf8}
use Rattle.std.specs.Str.{is_utf8}
use Rattle.std.proofs.lemmas.Bool.{cases_lt}
use Rattle.std.proofs.lemmas.Str.{IsUtf8-from_is_utf8, is_utf8-from_IsUtf8}
use Rattle.bayou_base.specs.declared.limits.TheConstants.{MAX_LINE_BYTES}
use Rattle.bayou_text.specs.Laws.Inner.LineTable.{spells_from_line, line_from_spells}
use Rattle.bayou_text.specs.declared.line.LineFault.{LineFault}
use Rattle.bayou_text.specs.declared.line.LineFault.TheVariants.{BadShape, NotJson}
use Rattle.bayou_text.specs.declared.line.Shape.TheVariants.{Line}
use Rattle.bayou_text.specs.Lines.{text_line, IsFaultOf, too_long, no_text, no_line}
use Rattle.bayou_text.specs.Reading.{Parsed}
use Rattle.bayou_text.specs.Said.{Said}
use Rattle.bayou_text.specs.Table.{Spells}

same_ok : (a b : Said) → ◌≡◌ {A = Parsed Said} (Ok a) (Ok b) → a ≡ b
same_ok a b same = cc

same_err : (a b : LineFault) → ◌≡◌ {A = Parsed Said} (Err a) (Err b) → a ≡ b
same_err a b same = cc

ok_or_err : (line : Said) (fault : LineFault) → ◌≡◌ {A = Parsed Said} (Ok line) (Err fault) → ⊥
ok_or_err line fault same = cc

pub one_line : (bytes : List ℕ) (one other : Said) → Spells bytes one → Spells bytes other → one ≡ other
one_line bytes one other is also = same_ok one other (sym (line_from_spells bytes one is) ∙ line_from_spells bytes other also)

pub line_or_fault : (bytes : List ℕ) (line : Said) (fault : LineFault) → Spells bytes line → ¬ IsFaultOf bytes fault
line_or_fault bytes line fault spells (too_long long is) = omega (arith, spells.in_length, long)
line_or_fault bytes line fault spells (no_text short broken is) = broken spells.utf8
line_or_fault bytes line fault spells (no_line legible is) = ok_or_err line fault (sym (line_from_spells bytes line spells) ∙ is)

pub one_fault : (bytes : List ℕ) (one other : LineFault) → IsFaultOf bytes one → IsFaultOf bytes other → one ≡ other
one_fault bytes one other (too_long long is) (too_long also same) = is ∙ sym same
one_fault bytes one other (too_long long is) (no_text short broken same) = absurd (omega (arith, long, short))
one_fault bytes one other (too_long long is) (no_line legible same) = absurd (omega (arith, long, legible.0))
one_fault bytes one other (no_text short broken is) (too_long long same) = absurd (omega (arith, long, short))
one_fault bytes one other (no_text short broken is) (no_text also too same) = is ∙ sym same
one_fault bytes one other (no_text short broken is) (no_line legible same) = absurd (broken legible.1)
one_fault bytes one other (no_line legible is) (too_long long same) = absurd (omega (arith, long, legible.0))
one_fault bytes one other (no_line legible is) (no_text short broken same) = absurd (broken legible.1)
one_fault bytes one other (no_line legible is) (no_line also same) = same_err one other (sym is ∙ same)

-- of bytes that are looked into
looked_into : (bytes : List ℕ) → length bytes ≤ MAX_LINE_BYTES → IsUtf8 bytes → ((line : Said) × Spells bytes line) ⊎ ((fault : LineFault) × IsFaultOf bytes fault)
looked_into bytes short text =
    elim (text_line bytes) as (λ read. text_line bytes ≡ read → ((line : Said) × Spells bytes line) ⊎ ((fault : LineFault) × IsFaultOf bytes fault)) [
      | Ok line ↦ λ is. inl (line, spells_from_line bytes line short text is)
      | Err fault ↦ λ is. inr (fault, no_line (short, text) is)
    ] refl

pub either_is : (bytes : List ℕ) → ((line : Said) × Spells bytes line) ⊎ ((fault : LineFault) × IsFaultOf bytes fault)
either_is bytes =
    elim (cases_lt MAX_LINE_BYTES (length bytes)) as (λ _. ((line : Said) × Spells bytes line) ⊎ ((fault : LineFault) × IsFaultOf bytes fault)) [
      | inl long ↦ inr (BadShape Line, too_long long refl)
      | inr short ↦ elim (is_utf8 bytes) as (λ t. is_utf8 bytes ≡ t → ((line : Said) × Spells bytes line) ⊎ ((fault : LineFault) × IsFaultOf bytes fault)) [
        | true ↦ λ text. looked_into bytes short (IsUtf8-from_is_utf8 bytes text)
        | false ↦ λ broken. inr (NotJson, no_text short (λ text. let both : true ≡ false = sym (is_utf8-from_IsUtf8 bytes text) ∙ broken in cc) refl)
      ] refl
    ]
