-- What a person learns once.
use Rattle.std.specs.Prelude.{◌≡◌, ◌++◌, ◌∷◌, [], ℕ, List, if◌then◌else◌, length, nat_le, remove, string_bytes}
use Rattle.bayou_web_state.specs.declared.seen.NewsItem.{NewsItem}
use Rattle.bayou_web_state.specs.declared.seen.TheConstants.{MAX_NOTICES}

-- those that stay where one more comes
abbrev pub kept_notices : List NewsItem → List NewsItem
kept_notices notices = if nat_le MAX_NOTICES (length notices) then remove notices 0 else notices

-- the text is the last notice, of this number
pub record Notes (old new : List NewsItem) (count : ℕ) (said : List ℕ) : Type 0 where
  pub notice : NewsItem
  pub last : new ≡ kept_notices old ++ notice ∷ []
  pub number : notice.number ≡ count
  pub text : string_bytes notice.text ≡ said
