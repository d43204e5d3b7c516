-- A journal's bytes: this project's own. The digests are those of SHA-256 (FIPS 180-4).
use Rattle.std.specs.Prelude.{◌≡◌, ℕ, ◌+◌, ◌<◌, ◌≤◌, List, [], ◌∷◌, ◌++◌, length}
use Rattle.std.specs.Int.{w16, to_be_bytes}
use Rattle.bayou_base.specs.declared.limits.TheConstants.{MAX_BODY_BYTES}
use Rattle.bayou_device.specs.Device.{BeginsWith}
use Rattle.bayou_journal.specs.declared.format.TheConstants.{DIGEST_BYTES, LENGTH_BYTES, MAGIC}
use Rattle.sha2.specs.Sha256.{sha256}

-- what every journal begins with, in a version of the format
abbrev pub name : ℕ → List ℕ
name version = MAGIC ++ version ∷ []

-- the header of a server's journal, in that version
abbrev pub header : ℕ → ℕ → List ℕ
header version server = MAGIC ++ version ∷ server ∷ []

-- what an entry may carry
pub record IsBody (body : List ℕ) : Type 0 where
  pub some : 0 < length body
  pub within : length body ≤ MAX_BODY_BYTES

-- each of them
abbrev pub AreBodies : List (List ℕ) → Type 0
AreBodies [] = Unit {0}
AreBodies (body ∷ bodies) = IsBody body × AreBodies bodies

-- a body after its length, in two bytes, the high one first
abbrev pub sized : List ℕ → List ℕ
sized body = to_be_bytes w16 (length body) ++ body

-- the digest of an entry: over the digest before it, its length and its body
abbrev pub link : List ℕ → List ℕ → List ℕ
link before body = sha256 (before ++ sized body)

-- an entry after the digest before it
abbrev pub entry : List ℕ → List ℕ → List ℕ
entry before body = sized body ++ link before body

-- entries of these bodies, one after the other
abbrev pub entries : List ℕ → List (List ℕ) → List ℕ
entries before [] = []
entries before (body ∷ bodies) = entry before body ++ entries (link before body) bodies

-- how many bytes they have
abbrev pub entries_bytes : List (List ℕ) → ℕ
entries_bytes [] = 0
entries_bytes (body ∷ bodies) = LENGTH_BYTES + length body + DIGEST_BYTES + entries_bytes bodies

-- the digest of the last of them
abbrev pub last_link : List ℕ → List (List ℕ) → List ℕ
last_link before [] = before
last_link before (body ∷ bodies) = last_link (link before body) bodies

-- the digest that the first entry stands after
abbrev pub first_link : ℕ → ℕ → List ℕ
first_link version server = sha256 (header version server)

-- the digest that the next entry stands after
abbrev pub chain_end : ℕ → ℕ → List (List ℕ) → List ℕ
chain_end version server bodies = last_link (first_link version server) bodies

-- the journal of a server with these bodies, in a version of the format
abbrev pub journal : ℕ → ℕ → List (List ℕ) → List ℕ
journal version server bodies = header version server ++ entries (first_link version server) bodies

-- no entry of any body stands there, after that digest
abbrev pub NoEntry : List ℕ → List ℕ → Type 0
NoEntry before bytes = (body : List ℕ) → IsBody body → BeginsWith (entry before body) bytes → ⊥

-- the bytes are the server's journal with these bodies and a rest at whose front no entry stands
pub record IsLongestChain (version server : ℕ) (bytes : List ℕ) (bodies : List (List ℕ)) (rest : List ℕ) : Type 0 where
  pub split : bytes ≡ journal version server bodies ++ rest
  pub sizes : AreBodies bodies
  pub longest : NoEntry (chain_end version server bodies) rest
