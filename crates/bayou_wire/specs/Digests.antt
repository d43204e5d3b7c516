-- Digests as numbers: the first eight bytes of each.
use Rattle.std.specs.Prelude.{◌≡◌, ℕ, ◌<◌, ◌^◌, List, length}
use Rattle.std.specs.List.{AllByRecursion}
use Rattle.bayou_base.specs.declared.limits.TheConstants.{SERVERS}

-- it has eight bytes
abbrev pub IsDigest : ℕ → Type 0
IsDigest digest = digest < 2 ^ 64

-- one for each server
abbrev pub AreDigests : List ℕ → Type 0
AreDigests digests = (length digests ≡ SERVERS) × AllByRecursion IsDigest digests
