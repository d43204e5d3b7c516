-- A number that `clap` takes is the one that is asked for.
use Rattle.std.proofs.Common.{◌≡◌, ◌∙◌, ◌<◌, ◌^◌, if◌then◌else◌, ℕ, Bool, List, [], ◌∷◌, Option, Some, Result, true, false, ap, refl, sym, subst, le-leb, length, lt-ltb, ltb-true, true≢false, unwrap_or}
use Rattle.std.specs.Prelude.{pos}
use Rattle.std.specs.Str.Parse.{IsNumeral, ParsesUnsigned, digits_value, without_leading_plus}
use Rattle.clap.proofs.CallerReads.{signed_reads}
use Rattle.clap.proofs.ValueTestLemmas.{accepts-Accepts}
use Rattle.clap.proofs.WalkLemmas.{both}
use Rattle.clap.specs.Kinds.{Kinds, or_else}
use Rattle.clap.specs.ValueTests.{is_signed_in}
use Rattle.clap.specs.Words.{ReadsOne, Text, without_minus}
use Rattle.clap.specs.declared.error.kind.ErrorKind.{ErrorKind}
use Rattle.clap.specs.declared.builder.value_parser.ValueParser.TheVariants.{Signed}
use Rattle.bayou_command.specs.Options.{number_read, number_within}
use Rattle.bayou_command.proofs.Given.{digits_from, digits_pass, is_number, number_inside}

abbrev Parses : Text → Result ℕ (Unit {0}) → Type 0
Parses text number = ParsesUnsigned 32 10 text number

passes : (digits : List ℕ) → IsNumeral 10 digits × (digits_value 10 digits < 2 ^ 32) → is_number digits ≡ true
passes digits h = rw (lt-ltb 0 (length digits) h.0.0, digits_pass digits h.0.1, lt-ltb (digits_value 10 digits) (2 ^ 32) h.1) refl

reads : (text : Text) → ReadsOne Parses text (number_read text)
reads text = go (is_number (without_leading_plus text)) refl
  where
    go : (b : Bool) → is_number (without_leading_plus text) ≡ b → ReadsOne Parses text (number_read text)
    go true t =
        let outer = both _ _ t in
        let inner = both _ _ outer.0 in
        rw t (((ltb-true _ _ inner.0, digits_from (without_leading_plus text) inner.1), ltb-true _ _ outer.1), refl)
    go false t = rw t (tt, λ h. true≢false (sym (passes (without_leading_plus text) h) ∙ t))

pub number_kept : (least most : ℕ) (text : Text) → most < 2 ^ 32 → is_signed_in (pos least) (pos most) text ≡ true
    → number_within least most (number_read (without_minus text)) ≡ Some (digits_value 10 (without_leading_plus (without_minus text)))
number_kept least most text fits is =
    let read = signed_reads (Unit {0}) Parses 32 least most text (number_read (without_minus text)) (reads (without_minus text)) (λ u x g. g) fits
    (accepts-Accepts false (Signed (pos least) (pos most)) text is) in
    let value = subst (λ (r : Option ℕ). ReadsOne Parses (without_minus text) r) read.1 (reads (without_minus text)) in
    sym (number_inside least most read.0 _ (sym read.1) (le-leb _ _ read.2) (le-leb _ _ read.3)) ∙ ap Some value.1

pub number_taken : (least most other : ℕ) (text : Text) → most < 2 ^ 32 → is_signed_in (pos least) (pos most) text ≡ true
    → unwrap_or (number_within least most (number_read (without_minus text))) other ≡ digits_value 10 (without_leading_plus (without_minus text))
number_taken least most other text fits is = ap (λ number. unwrap_or number other) (number_kept least most text fits is)

-- what a walk tells of a value: this kind unless it passes, where the steps around it find nothing
abbrev pub told : ErrorKind → Bool → Kinds
told kind passes = or_else (or_else (or_else (or_else (or_else (if passes then [] else kind ∷ []) []) []) []) []) []
