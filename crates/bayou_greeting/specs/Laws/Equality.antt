-- What is one where its number is.
use Rattle.std.proofs.Common.{◌≡◌, ℕ, ◌<◌, ◌≤◌, ap, subst}
use Rattle.std.specs.Coded.{×_prop, le_prop}
use Rattle.bayou_base.specs.declared.limits.TheConstants.{SERVERS}
use Rattle.bayou_base.specs.declared.server.ServerId.{ServerId}
use Rattle.bayou_wire.specs.declared.greeting.ServerCount.{ServerCount}

pub one_server : (a b : ServerId) → a.index ≡ b.index → a ≡ b
one_server a b same = subst (λ (n : ℕ). (within : n < SERVERS) → a ≡ record { index = n; in_range = within }) same (λ within. ap (λ w. record { index = a.index; in_range = w }) (le_prop a.in_range within)) b.in_range

pub one_count : (a b : ServerCount) → a.count ≡ b.count → a ≡ b
one_count a b same =
    subst (λ (n : ℕ). (within : (0 < n) × (n ≤ SERVERS)) → a ≡ record { count = n; in_range = within }) same
    (λ within. ap (λ w. record { count = a.count; in_range = w }) (×_prop le_prop le_prop a.in_range within)) b.in_range
