-- Versions of a journal's format, and the marks that raise one within a chain: this project's own.
use Rattle.std.specs.Prelude.{◌==◌, ℕ, ◌<◌, ◌≤◌, List, [], ◌∷◌, ◌++◌, Option, None, Some, unwrap_or, nat_lt, nat_le, ◌&&◌, if◌then◌else◌}
use Rattle.std.specs.Option.{option_map_or}
use Rattle.bayou_base.specs.declared.limits.TheConstants.{OLD_SERVERS}
use Rattle.bayou_journal.specs.declared.format.TheConstants.{FIRST_VERSION, NEWEST_VERSION, WIDE_VERSION}
use Rattle.bayou_journal.specs.Chain.{IsLongestChain, chain_end, journal}

-- from the first to the newest
abbrev pub IsVersion : ℕ → Type 0
IsVersion version = (FIRST_VERSION ≤ version) × (version ≤ NEWEST_VERSION)

-- a version that the journal of this server may have: before the wide version there were fewer servers
abbrev pub IsVersionOf : (server version : ℕ) → Type 0
IsVersionOf server version = IsVersion version × (version < WIDE_VERSION → server < OLD_SERVERS)

-- The version that a body marks where the chain has this one: its one byte is a later version. Any other body marks none.
abbrev pub marked : ℕ → List ℕ → Option ℕ
marked version (mark ∷ []) = if nat_lt version mark && nat_le mark NEWEST_VERSION then Some mark else None
marked version [] = None
marked version (first ∷ second ∷ others) = None

-- what a journal tells: a body, in the version that the chain has there
pub record Body : Type 0 where
  pub version : ℕ
  pub bytes : List ℕ

abbrev pub body_in : ℕ → List ℕ → Body
body_in version bytes = record { version = version; bytes = bytes }

-- A header's version, and the bodies of the entries after it, marks too.
pub record Records : Type 0 where
  pub version : ℕ
  pub bodies : List (List ℕ)

-- the version that a chain has after these bodies
abbrev pub version_behind : ℕ → List (List ℕ) → ℕ
version_behind version [] = version
version_behind version (body ∷ bodies) = version_behind (unwrap_or (marked version body) version) bodies

-- The bodies, each in its version; a mark is none of them.
abbrev pub told : ℕ → List (List ℕ) → List Body
told version [] = []
told version (body ∷ bodies) = option_map_or (λ later. told later bodies) (marked version body) (body_in version body ∷ told version bodies)

-- the same of records
abbrev pub bodies_in : Records → List Body
bodies_in records = told records.version records.bodies

abbrev pub version_of : Records → ℕ
version_of records = version_behind records.version records.bodies

-- the server's journal with these records, and the digest that the next entry stands after
abbrev pub journal_of : ℕ → Records → List ℕ
journal_of server records = journal records.version server records.bodies

abbrev pub end_of : ℕ → Records → List ℕ
end_of server records = chain_end records.version server records.bodies

-- the mark of the newest version
abbrev pub newest_mark : List ℕ
newest_mark = NEWEST_VERSION ∷ []

-- the same records, and after them the mark of the newest version where they haven't got it
abbrev pub raised : Records → Records
raised records =
    if version_of records == NEWEST_VERSION then records
    else record records { bodies = records.bodies ++ newest_mark ∷ [] }

-- the bytes are the server's journal with these records and a rest at whose front no entry stands
pub record AreLongest (server : ℕ) (bytes : List ℕ) (records : Records) (rest : List ℕ) : Type 0 where
  pub known : IsVersionOf server records.version
  pub chain : IsLongestChain records.version server bytes records.bodies rest
