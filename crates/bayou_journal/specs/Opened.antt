-- What an opening found, as its callers see it: this project's own.
use Rattle.std.specs.Prelude.{ℕ, ◌≤◌, ◌-◌, List, take, drop}
use Rattle.bayou_journal.specs.Versions.{Body, body_in}
use Rattle.bayou_journal.specs.declared.opened.Place.{Place}

-- the bodies that the chain tells, and how many bytes after it were cut
pub record Found : Type 0 where
  pub bodies : List Body
  pub dropped : ℕ

-- the body at a place of the bytes
abbrev pub body_at : List ℕ → Place → Body
body_at bytes place = body_in place.version (take (place.end - place.start) (drop place.start bytes))

-- the place lies within so many bytes
abbrev pub IsWithin : ℕ → Place → Type 0
IsWithin count place = (place.start ≤ place.end) × (place.end ≤ count)
