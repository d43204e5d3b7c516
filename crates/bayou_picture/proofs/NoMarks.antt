-- No byte of an escaped text means something within marks.
use Rattle.std.proofs.Common.{◌≡◌, ◌==◌, ◌++◌, ◌∷◌, ◌&&◌, ℕ, List, [], All, Bool, true, false, refl, codes, cond, not, ap, sym, ◌∙◌}
use Rattle.std.proofs.lemmas.Bool.{eqb-false}
use Rattle.std.proofs.lemmas.List.Elements.{All-append, All-cons, All-nil}
use Rattle.std.specs.List.{list_all}
use Rattle.bayou_picture.specs.Escape.{IsNoMark, escaped, escaped_byte}

-- which bytes are no marks
abbrev plain : ℕ → Bool
plain byte = not (byte == 60) && (not (byte == 62) && (not (byte == 34) && not (byte == 39)))

parts : (a b c d : Bool) → (not a && (not b && (not c && not d))) ≡ true → (a ≡ false) × (b ≡ false) × (c ≡ false) × (d ≡ false)
parts true b c d is = cc
parts false true c d is = cc
parts false false true d is = cc
parts false false false true is = cc
parts false false false false is = (refl, refl, refl, refl)

no_mark : (byte : ℕ) → plain byte ≡ true → IsNoMark byte
no_mark byte is =
    let each = parts (byte == 60) (byte == 62) (byte == 34) (byte == 39) is in
    (eqb-false byte 60 each.0, eqb-false byte 62 each.1, eqb-false byte 34 each.2, eqb-false byte 39 each.3)

two : (a b : Bool) → (a && b) ≡ true → (a ≡ true) × (b ≡ true)
two true b is = (refl, is)
two false b is = cc

all_plain : (bytes : List ℕ) → list_all plain bytes ≡ true → All IsNoMark bytes
all_plain [] is = All-nil IsNoMark
all_plain (byte ∷ bytes) is =
    let each = two (plain byte) (list_all plain bytes) is in
    All-cons IsNoMark byte bytes (no_mark byte each.0) (all_plain bytes each.1)

-- of a choice, where it holds of both
chosen : (test : Bool) (x y : List ℕ) → All IsNoMark x → (test ≡ false → All IsNoMark y) → All IsNoMark (cond test x y)
chosen true x y here there = here
chosen false x y here there = there refl

byte_none : (byte : ℕ) → All IsNoMark (escaped_byte byte)
byte_none byte =
    chosen (byte == 60) _ _ (all_plain (codes "&lt;") refl) (λ less. chosen (byte == 62) _ _ (all_plain (codes "&gt;") refl) (λ greater. chosen (byte == 38) _ _ (all_plain (codes "&amp;") refl)
    (λ and. chosen (byte == 34) _ _ (all_plain (codes "&quot;") refl) (λ double. chosen (byte == 39) _ _ (all_plain (codes "&#39;") refl)
    (λ single. All-cons IsNoMark byte [] (eqb-false byte 60 less, eqb-false byte 62 greater, eqb-false byte 34 double, eqb-false byte 39 single) (All-nil IsNoMark))))))

pub escaped_none : (bytes : List ℕ) → All IsNoMark (escaped bytes)
escaped_none [] = All-nil IsNoMark
escaped_none (byte ∷ bytes) = All-append IsNoMark (escaped_byte byte) (escaped bytes) (byte_none byte) (escaped_none bytes)
