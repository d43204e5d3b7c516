-- What digests of a server say of its Writes: this project's own. A Write is here its bytes as it travels, without a tag.
use Rattle.std.specs.Prelude.{◌≡◌, ◌≢◌, ◌≤◌, ◌<◌, ◌++◌, ◌∷◌, [], ℕ, All, IfSome, List, None, Option, Some, get_or, length, map, slice_get, slice_index, take}
use Rattle.bayou_base.specs.declared.server.ServerId.{ServerId}
use Rattle.bayou_greeting.specs.OriginDigests.{AreDigestsOf, digest_of, short}
use Rattle.bayou_greeting.specs.declared.origin_digests.OriginDigests.{OriginDigests}
use Rattle.bayou_serve.specs.declared.held_digests.HeldDigests.{HeldDigests}
use Rattle.bayou_serve.specs.declared.held_digests.DigestSpan.{DigestSpan}
use Rattle.bayou_wire.specs.declared.greeting.Held.{Held}

-- these Writes of that origin were read, in this order
pub record HasRead (held : HeldDigests) (origin : ServerId) (writes : List (List ℕ)) : Type 0 where
  pub digests : OriginDigests
  pub found : slice_get held.origins origin.index ≡ Some digests
  pub are_of : AreDigestsOf digests writes

-- what is reported of the first so many of these Writes
abbrev pub digest_at : List (List ℕ) → (count : ℕ) → ℕ
digest_at writes count = short (digest_of (take count writes))

-- that is reported where there are so many, and nothing where there are fewer
pub record TellsAt (writes : List (List ℕ)) (count : ℕ) (told : Option ℕ) : Type 0 where
  pub held : count ≤ length writes → told ≡ Some (digest_at writes count)
  pub beyond : length writes < count → told ≡ None

-- there are as many of these Writes as somebody holds of that origin, and their digest isn't the one that was sent
abbrev pub DifferFrom : List (List ℕ) → Held → ServerId → Type 0
DifferFrom writes told origin = (slice_index told.vector origin.index ≤ length writes) × (digest_at writes (slice_index told.vector origin.index) ≢ slice_index told.digests origin.index)

-- Digests are sent at these counts, in their order, up to the first count of which there are fewer Writes.
pub record TellsUpTo (writes : List (List ℕ)) (counts digests : List ℕ) : Type 0 where
  pub number : ℕ
  pub within : number ≤ length counts
  pub held : All (λ count. count ≤ length writes) (take number counts)
  pub told : digests ≡ map (digest_at writes) (take number counts)
  pub stopped : IfSome (slice_get counts number) (λ count. length writes < count)

-- A span is narrowed by what was sent at these counts. The first so many digests are those of these Writes; the next one, where so many Writes are held, isn't.
pub record Narrows (writes : List (List ℕ)) (counts told : List ℕ) (span narrow : DigestSpan) : Type 0 where
  pub same : ℕ
  pub within : same ≤ length counts
  pub held : All (λ count. count ≤ length writes) (take same counts)
  pub as_told : take same told ≡ map (digest_at writes) (take same counts)
  pub differs : same < length counts → slice_index counts same ≤ length writes → slice_index told same ≢ digest_at writes (slice_index counts same)
  pub low : narrow.low ≡ slice_index (span.low ∷ counts) same
  pub high : narrow.high ≡ get_or counts same span.high
