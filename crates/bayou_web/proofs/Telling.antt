-- What was told, and what is said of it.
use Rattle.std.proofs.Common.{ℕ, List, Option, Some, None, Result, Ok, Err, MatchResult}

module _ {A E : Type 0} (items : A → List ℕ) (P Q : Option (List ℕ) → Type 0) where
  pub both_of : (told : Result A E) → MatchResult told (λ text. P (Some (items text))) (λ _. P None)
      → MatchResult told (λ text. Q (Some (items text))) (λ _. Q None) → (text : Option (List ℕ)) × P text × Q text
  both_of (Ok text) first second = (Some (items text), first, second)
  both_of (Err fault) first second = (None, first, second)
