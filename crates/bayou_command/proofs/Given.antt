-- What `clap`'s getters say of the options behind `serve`.
use Rattle.std.proofs.Common.{◌≡◌, ◌∙◌, ◌^◌, ◌&&◌, ◌||◌, ℕ, Bool, List, [], ◌∷◌, Option, None, Some, Result, Ok, Err, true, false, ap, refl, length, nat_lt, lt-ltb, ltb-true}
use Rattle.std.specs.Prelude.{nat_le, option_and_then}
use Rattle.std.specs.List.{list_all}
use Rattle.std.specs.Char.{digit_value}
use Rattle.std.specs.Str.Parse.{AllDigits, ParsesUnsigned, digits_value, without_leading_plus}
use Rattle.clap.proofs.WalkLemmas.{both, first_value-rows, one_text-rows}
use Rattle.clap.specs.ValueTests.{is_numeral}
use Rattle.clap.specs.Words.{ReadsOne, Text, first_value, one_of, one_text, rows_of}
use Rattle.clap.specs.declared.parser.matches.Found.{Found}
use Rattle.bayou_command.specs.Options.{flag_of, is_true, number_read, number_within}

pub digits_pass : (ds : List ℕ) → AllDigits 10 ds → list_all (λ d. nat_lt (digit_value d) 10) ds ≡ true
digits_pass [] h = refl
digits_pass (d ∷ ds) h = rw (lt-ltb (digit_value d) 10 h.0) (digits_pass ds h.1)

pub digits_from : (ds : List ℕ) → list_all (λ d. nat_lt (digit_value d) 10) ds ≡ true → AllDigits 10 ds
digits_from [] e = tt
digits_from (d ∷ ds) e =
    let parts = both _ _ e in
    (ltb-true _ _ parts.0, digits_from ds parts.1)

abbrev pub is_number : List ℕ → Bool
is_number ds = is_numeral ds && nat_lt (digits_value 10 ds) (2 ^ 32)

module _ {E : Type 0} (G : List ℕ → Result ℕ E → Type 0) (only : (u : List ℕ) (x : Result ℕ E) → G u x → ParsesUnsigned 32 10 u x) where
  -- a number of 32 bits is read from a text where it is one
  pub number_given : (text : Text) (number : Option ℕ) → ReadsOne G text number → number ≡ number_read text
  number_given text (Some n) h =
      let got = only text (Ok n) h in
      let digits = without_leading_plus text in
      rw (lt-ltb 0 (length digits) got.0.0.0, digits_pass digits got.0.0.1, lt-ltb (digits_value 10 digits) (2 ^ 32) got.0.1) (ap Some got.1)
  number_given text None h = go (is_number (without_leading_plus text)) refl
    where
      go : (b : Bool) → is_number (without_leading_plus text) ≡ b → None ≡ number_read text
      go false t = rw t refl
      go true t =
          let outer = both _ _ t in
          let inner = both _ _ outer.0 in
          absurd (only text (Err h.0) h.1 ((ltb-true _ _ inner.0, digits_from (without_leading_plus text) inner.1), ltb-true _ _ outer.1))

  -- and so of an option
  pub number_asked : (found : Found) (name : Text) (number : Option ℕ) → (one_text found name ≡ None → number ≡ None)
      → ((text : Text) → one_text found name ≡ Some text → ReadsOne G text number) → number ≡ option_and_then number_read (one_of name (rows_of found))
  number_asked found name number none value = go (one_text found name) refl ∙ ap (option_and_then number_read) (one_text-rows found name)
    where
      go : (o : Option Text) → one_text found name ≡ o → number ≡ option_and_then number_read o
      go None e = none e
      go (Some text) e = number_given text number (value text e)

pub number_inside : (least most n : ℕ) (o : Option ℕ) → Some n ≡ o → nat_le least n ≡ true → nat_le n most ≡ true → Some n ≡ number_within least most o
number_inside least most n o is above below = rw (← is, above, below) refl

pub number_below : (least most n : ℕ) (o : Option ℕ) → Some n ≡ o → nat_le least n ≡ false → None ≡ number_within least most o
number_below least most n o is below = rw (← is, below) refl

pub number_above : (least most n : ℕ) (o : Option ℕ) → Some n ≡ o → nat_le least n ≡ true → nat_le n most ≡ false → None ≡ number_within least most o
number_above least most n o is above past = rw (← is, above, past) refl

pub number_missing : (least most : ℕ) (o : Option ℕ) → None ≡ o → None ≡ number_within least most o
number_missing least most o is = ap (number_within least most) is

-- a flag is there where its text is the one for it
pub flag_named : (found : Found) (name : Text) (given : Option Text) → given ≡ first_value found name → is_true given ≡ flag_of name (rows_of found)
flag_named found name given is = ap is_true (is ∙ first_value-rows found name)

-- an argument that isn't global leaves a command with as many as it had
pub stays_local : (had is_global : Bool) → is_global ≡ false → (had || is_global) ≡ had
stays_local true is_global none = refl
stays_local false is_global none = none
