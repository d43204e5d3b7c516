-- What was heard of servers: of each its views, joined, or nothing.
use Rattle.std.specs.Prelude.{◌≡◌, ℕ, ◌<◌, if◌then◌else◌, List, [], ◌∷◌, Option, None, Some, nat_le, slice_get, slice_index, slice_index_or, slice_set}
use Rattle.bayou_base.specs.declared.limits.TheConstants.{SERVERS}
use Rattle.bayou_base.specs.Vector.{joined, raised}
use Rattle.bayou_lang.specs.declared.write.Write.{Write}

-- Of each server of the store this was heard.
abbrev pub AreHeard : (count : ℕ) → (heard : List (Option (List ℕ))) → (views : ℕ → List ℕ) → Type 0
AreHeard count heard views = (place : ℕ) → place < count → slice_get heard place ≡ Some (Some (views place))

-- one more view of a server, beside what was heard of it before
abbrev pub beside : Option (List ℕ) → List ℕ → Option (List ℕ)
beside None view = Some view
beside (Some before) view = Some (joined before view)

-- one more view of the server of this place
abbrev pub heard_with : List (Option (List ℕ)) → (place : ℕ) → (view : List ℕ) → List (Option (List ℕ))
heard_with heard place view = slice_set heard place (beside (slice_index_or heard place None) view)

-- What a Write tells: as it was made its server held what the Write says, and then the Write too.
abbrev pub view_by : Write → List ℕ
view_by write = raised write.deps write.wid

-- what each of the Writes tells of its server
abbrev pub heard_by : List (Option (List ℕ)) → List Write → List (Option (List ℕ))
heard_by heard [] = heard
heard_by heard (write ∷ writes) = heard_by (heard_with heard write.wid.origin.index (view_by write)) writes

-- the view of the server of this place, unless it had made more by it than the vector counts
abbrev pub within : (vector : List ℕ) → (place : ℕ) → Option (List ℕ) → Option (List ℕ)
within vector place None = None
within vector place (Some view) = if nat_le (slice_index view place) (slice_index vector place) then Some view else None

-- the first of two, where there is one, and else the second
abbrev pub either : Option (List ℕ) → Option (List ℕ) → Option (List ℕ)
either None second = second
either (Some first) second = Some first

-- Of each server that view of these, and else of the others, by which it had made no more than the vector counts.
abbrev pub AreChosen : (vector : List ℕ) → (heard others chosen : List (Option (List ℕ))) → Type 0
AreChosen vector heard others chosen =
    (place : ℕ) → place < SERVERS → slice_get chosen place ≡ Some (either (within vector place (slice_index_or heard place None)) (within vector place (slice_index_or others place None)))
