-- Digests of an origin's Writes: this project's own chain over SHA-256 (FIPS 180-4). A Write is here its bytes as it travels, without a tag.
use Rattle.std.specs.Prelude.{◌≡◌, ◌≢◌, ℕ, List, [], ◌∷◌, ◌++◌, replicate, take}
use Rattle.std.specs.Int.{w64, from_be_bytes}
use Rattle.bayou_greeting.specs.declared.origin_digests.OriginDigests.{OriginDigests}
use Rattle.sha2.specs.Sha256.{sha256}

-- the digest of one Write more
abbrev pub next_digest : List ℕ → List ℕ → List ℕ
next_digest before write = sha256 (before ++ write)

-- and of several
abbrev pub digest_behind : List ℕ → List (List ℕ) → List ℕ
digest_behind before [] = before
digest_behind before (write ∷ writes) = digest_behind (next_digest before write) writes

-- the digest of no Write is 32 zeros
abbrev pub no_writes : List ℕ
no_writes = replicate 32 0

-- the digest of an origin's first Writes, in their order
abbrev pub digest_of : List (List ℕ) → List ℕ
digest_of writes = digest_behind no_writes writes

-- what is reported of a digest: its first eight bytes, as a number
abbrev pub short : List ℕ → ℕ
short digest = from_be_bytes w64 (take 8 digest)

-- the short digest after each Write
abbrev pub shorts_behind : List ℕ → List (List ℕ) → List ℕ
shorts_behind before [] = []
shorts_behind before (write ∷ writes) = short (next_digest before write) ∷ shorts_behind (next_digest before write) writes

-- the digests are those of these Writes
pub record AreDigestsOf (digests : OriginDigests) (writes : List (List ℕ)) : Type 0 where
  pub last : digests.last ≡ digest_of writes
  pub kept : digests.kept.items ≡ shorts_behind no_writes writes

-- two messages that aren't one, whose short digests are the same
pub record Collision : Type 0 where
  pub one : List ℕ
  pub other : List ℕ
  pub differ : one ≢ other
  pub meet : short (sha256 one) ≡ short (sha256 other)
