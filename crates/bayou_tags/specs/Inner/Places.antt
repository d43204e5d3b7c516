-- Where a map has tags.
use Rattle.std.specs.Prelude.{◌≡◌, ℕ, List, Option, Some, None, slice_index_or}
use Rattle.std.specs.BTreeMap.{is_at}
use Rattle.std.specs.Map.{lookup}
use Rattle.std.specs.declared.cmp.Ordering.{Ordering}
use Rattle.std.specs.Ordering.{nat_cmp, ordering_then}
use Rattle.bayou_base.specs.declared.tag.Tag.{Tag}

-- by session, then by run, then by number
abbrev pub tag_cmp : Tag → Tag → Ordering
tag_cmp a b = ordering_then (nat_cmp a.session.index b.session.index) (ordering_then (nat_cmp a.run b.run) (nat_cmp a.number b.number))

-- the place that the map has for the tag
abbrev pub place_in : List (Tag × ℕ) → Tag → Option ℕ
place_in places tag = lookup (is_at (tag_cmp tag)) places

-- The map has the place of each tag, and of no other.
pub record ArePlaced (places : List (Tag × ℕ)) (tags : List (Option Tag)) : Type 0 where
  pub placed : (tag : Tag) (at : ℕ) → slice_index_or tags at None ≡ Some tag → place_in places tag ≡ Some at
  pub there : (tag : Tag) (at : ℕ) → place_in places tag ≡ Some at → slice_index_or tags at None ≡ Some tag
