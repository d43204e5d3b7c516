-- What was added piece by piece.
use Rattle.std.proofs.Common.{◌≡◌, ◌∙◌, ◌++◌, List, ap, append_assoc}

module _ {A : Type 0} where
  joined : (old one more a b : List A) → one ≡ old ++ a → more ≡ one ++ b → more ≡ old ++ (a ++ b)
  joined old one more a b first second = second ∙ ap (λ xs. xs ++ b) first ∙ append_assoc old a b

  pub three_pieces : (old one two three a b c : List A) → one ≡ old ++ a → two ≡ one ++ b → three ≡ two ++ c → three ≡ old ++ (a ++ (b ++ c))
  three_pieces old one more three a b c first second third = joined old one three a (b ++ c) first (joined one more three b c second third)

  pub four_pieces : (old one two three four a b c d : List A) → one ≡ old ++ a → two ≡ one ++ b → three ≡ two ++ c → four ≡ three ++ d
      → four ≡ old ++ (a ++ (b ++ (c ++ d)))
  four_pieces old one more three four a b c d first second third fourth =
      joined old one four a (b ++ (c ++ d)) first (three_pieces one more three four b c d second third fourth)

  pub five_pieces : (old one two three four five a b c d e : List A) → one ≡ old ++ a → two ≡ one ++ b → three ≡ two ++ c → four ≡ three ++ d → five ≡ four ++ e
      → five ≡ old ++ (a ++ (b ++ (c ++ (d ++ e))))
  five_pieces old one more three four five a b c d e first second third fourth fifth =
      joined old one five a (b ++ (c ++ (d ++ e))) first (four_pieces one more three four five b c d e second third fourth fifth)
