-- Version vectors (Terry et al. 1994): for each server the number of its Writes that are held.
use Rattle.std.specs.Prelude.{◌≡◌, ℕ, ◌<◌, ◌≤◌, List, [], ◌∷◌, All, length, max, slice_index, slice_set}
use Rattle.bayou_base.specs.declared.limits.TheConstants.{SERVERS, MAX_WRITES}
use Rattle.bayou_base.specs.declared.wid.Wid.{Wid}

-- one count for each server, and none above what a log can hold
pub record AreCounts (counts : List ℕ) : Type 0 where
  pub one_each : length counts ≡ SERVERS
  pub in_range : All (λ count. count ≤ MAX_WRITES) counts

-- the Write `seq` of the server is counted
abbrev pub Covers : List ℕ → ℕ → ℕ → Type 0
Covers counts server seq = seq ≤ slice_index counts server

-- no count is smaller than the other's
abbrev pub Dominates : List ℕ → List ℕ → Type 0
Dominates counts least = (server : ℕ) → server < SERVERS → slice_index least server ≤ slice_index counts server

-- every Write that the other counts is counted
abbrev pub CoversAllOf : List ℕ → List ℕ → Type 0
CoversAllOf counts others = (server seq : ℕ) → server < SERVERS → 0 < seq → seq ≤ MAX_WRITES → Covers others server seq → Covers counts server seq

-- for each server the greater of the two counts
abbrev pub joined : List ℕ → List ℕ → List ℕ
joined (count ∷ counts) (other ∷ others) = max count other ∷ joined counts others
joined [] others = []
joined (count ∷ counts) [] = []

-- the counts with the Write counted too: its server's count is the greater of what it was and the Write's seq
abbrev pub raised : List ℕ → Wid → List ℕ
raised counts wid =
    slice_set counts wid.origin.index (max (slice_index counts wid.origin.index) wid.seq)
