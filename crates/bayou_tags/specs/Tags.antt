-- The tags that a server keeps beside its Writes, as callers see them: this project's own.
use Rattle.std.specs.Prelude.{◌≡◌, ◌≢◌, ℕ, ◌≤◌, ◌⊎◌, List, Option, Some, All, AllPairs, Contains, IfSome}
use Rattle.bayou_base.specs.declared.tag.Tag.{Tag}

-- for each Write held its tag, or none, in order of receipt; the tag that comes, if there is one; and for how many more Writes
-- there is room
pub record TagList : Type 0 where
  pub tags : List (Option Tag)
  pub coming : Option Tag
  pub room : ℕ

-- no tag is at two places
abbrev pub AreDistinct : List (Option Tag) → Type 0
AreDistinct tags = AllPairs (λ earlier later. (tag : Tag) → earlier ≡ Some tag → later ≢ Some tag) tags

-- No tag has a greater run, and one of them has it; it is 0 where there is none.
pub record IsGreatestRun (tags : List (Option Tag)) (run : ℕ) : Type 0 where
  pub greatest : All (λ entry. IfSome entry (λ tag. tag.run ≤ run)) tags
  pub reached : (run ≡ 0) ⊎ ((tag : Tag) × Contains tags (Some tag) × (tag.run ≡ run))
