-- When nothing can come before a Write any more, as far as servers told what they held: this project's own. Of messages the same is known as
-- stability (Birman), and the least of all views as the minimum of a matrix clock (Wuu and Bernstein 1984).
use Rattle.std.specs.Prelude.{◌≡◌, ℕ, ◌<◌, ◌≤◌, ◌+◌, ◌++◌, ◌∷◌, List, All, Some, slice_get, slice_index, true}
use Rattle.bayou_base.specs.Order.{is_before}
use Rattle.bayou_base.specs.declared.wid.Wid.{Wid}
use Rattle.bayou_base.specs.Vector.{Covers}
use Rattle.bayou_lang.specs.declared.write.Write.{Write}
use Rattle.bayou_lang.specs.Writes.{count_of, in_stamp_order}

-- A view of a server is a vector that it told at some time; there is one of each server, by its place.

-- Each server is known to hold the Write of this name: every view covers it.
abbrev pub IsKnown : (count : ℕ) → (views : ℕ → List ℕ) → Wid → Type 0
IsKnown count views name = (place : ℕ) → place < count → Covers (views place) name.origin.index name.seq

-- The counts have, of each server, the Writes that it had made itself by its view.
abbrev pub CountOwn : (count : ℕ) → (views : ℕ → List ℕ) → (counts : List ℕ) → Type 0
CountOwn count views counts = (place : ℕ) → place < count → slice_index (views place) place ≤ slice_index counts place

-- The database has, of each server, the Writes that it had made itself by its view.
abbrev pub HasOwn : (count : ℕ) → (views : ℕ → List ℕ) → List Write → Type 0
HasOwn count views database = CountOwn count views (count_of database)

-- Of these Writes the first are known, and the next one, if there is one, isn't: they are the longest such front.
pub record IsKnownFront (count : ℕ) (views : ℕ → List ℕ) (writes first : List Write) : Type 0 where
  pub later : List Write
  pub order : writes ≡ first ++ later
  pub known : All (λ write. IsKnown count views write.wid) first
  pub longest : (next : Write) (others : List Write) → later ≡ next ∷ others → ¬ IsKnown count views next.wid

-- Each of the Writes comes before the next one by its stamp: they are in stamp order, and no two have one stamp.
abbrev pub AreRising : List Write → Type 0
AreRising writes = (place : ℕ) (one next : Write) → slice_get writes place ≡ Some one → slice_get writes (place + 1) ≡ Some next → is_before one.stamp next.stamp ≡ true

-- In stamp order the database begins with these Writes, each server is known to hold each of them, and the next one, if there is one, isn't
-- known so: it is the longest such beginning.
abbrev pub IsKnownBeginning : (count : ℕ) → (views : ℕ → List ℕ) → (database first : List Write) → Type 0
IsKnownBeginning count views database first = IsKnownFront count views (in_stamp_order database) first
