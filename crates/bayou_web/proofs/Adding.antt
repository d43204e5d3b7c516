-- What was added one by one stands at the end, in order.
use Rattle.std.proofs.Common.{◌≡◌, ◌∙◌, ◌++◌, ◌∷◌, [], List, ap, append_assoc}

module _ {A : Type 0} where
  pub after_four : (old one two three four : List A) (a b c d : A) → one ≡ old ++ a ∷ [] → two ≡ one ++ b ∷ [] → three ≡ two ++ c ∷ [] → four ≡ three ++ d ∷ []
      → four ≡ old ++ a ∷ b ∷ c ∷ d ∷ []
  after_four old one two three four a b c d first second third fourth =
      fourth ∙ ap (λ xs. xs ++ d ∷ []) (third ∙ ap (λ xs. xs ++ c ∷ []) (second ∙ ap (λ xs. xs ++ b ∷ []) first))
      ∙ append_assoc ((old ++ a ∷ []) ++ b ∷ []) (c ∷ []) (d ∷ [])
      ∙ append_assoc (old ++ a ∷ []) (b ∷ []) (c ∷ d ∷ [])
      ∙ append_assoc old (a ∷ []) (b ∷ c ∷ d ∷ [])
