-- How a chain is read, and what an opening finds so: this project's own.
use Rattle.std.specs.Prelude.{◌≡◌, ℕ, ◌≤◌, ◌-◌, List, ◌++◌, All, length, map}
use Rattle.bayou_journal.specs.Chain.{AreBodies, chain_end, journal}
use Rattle.bayou_journal.specs.Opened.{IsWithin, body_at}
use Rattle.bayou_journal.specs.Opening.{Finds}
use Rattle.bayou_journal.specs.Versions.{Records, bodies_in, end_of, told, version_behind, version_of}
use Rattle.bayou_journal.specs.declared.opened.Place.{Place}

-- The bytes are the server's journal with some entries, and a rest: the bodies that these tell lie at the places, and the version
-- and the digest are those after the entries.
pub record IsRead (version server : ℕ) (bytes : List ℕ) (places : List Place) (now : ℕ) (last rest : List ℕ) : Type 0 where
  pub bodies : List (List ℕ)
  pub split : bytes ≡ journal version server bodies ++ rest
  pub sizes : AreBodies bodies
  pub tells : map (body_at bytes) places ≡ told version bodies
  pub now_is : now ≡ version_behind version bodies
  pub ends : last ≡ chain_end version server bodies
  pub within : All (IsWithin (length bytes)) places

-- The same of the entries that an opening finds, which end there.
pub record IsFound (server : ℕ) (bytes : List ℕ) (places : List Place) (now : ℕ) (last : List ℕ) (end : ℕ) : Type 0 where
  pub records : Records
  pub finds : Finds server bytes records (length bytes - end)
  pub tells : map (body_at bytes) places ≡ bodies_in records
  pub now_is : now ≡ version_of records
  pub ends : last ≡ end_of server records
  pub within : All (IsWithin (length bytes)) places
  pub end_within : end ≤ length bytes
