-- Counts of all Writes but a server's own.
use Rattle.std.proofs.Common.{◌≡◌, ◌⊎◌, inl, inr, ℕ, ◌<◌, ◌≤◌, All, arith, get_or, replicate, slice_set, subst, sym, ◌∙◌}
use Rattle.std.proofs.lemmas.Bool.{cases_order}
use Rattle.std.proofs.lemmas.Grind.{get_or-set_at}
use Rattle.std.proofs.lemmas.List.{get_or-replicate, get_or-set_other, length-replicate, length-set}
use Rattle.bayou_base.specs.declared.limits.TheConstants.{MAX_WRITES, SERVERS}

-- none is above the greatest count
pub all_within : (server own : ℕ) → server < SERVERS → own ≤ MAX_WRITES → All (λ count. count ≤ MAX_WRITES) (slice_set (replicate SERVERS MAX_WRITES) server own)
all_within server own among few place d within = by (cases_order place server)
  where
    most : place < SERVERS
    most = omega (arith, within, length-set (replicate SERVERS MAX_WRITES) server own, length-replicate SERVERS MAX_WRITES)

    other : (place ≡ server → ⊥) → get_or (slice_set (replicate SERVERS MAX_WRITES) server own) place d ≤ MAX_WRITES
    other differs =
        subst (λ count. count ≤ MAX_WRITES) (sym (get_or-set_other (replicate SERVERS MAX_WRITES) server place own d differs ∙ get_or-replicate SERVERS place MAX_WRITES d most)) (omega arith)

    by : (place ≡ server) ⊎ ((place < server) ⊎ (server < place)) → get_or (slice_set (replicate SERVERS MAX_WRITES) server own) place d ≤ MAX_WRITES
    by (inl same) = subst (λ count. count ≤ MAX_WRITES) (sym (get_or-set_at (replicate SERVERS MAX_WRITES) server place own d same (omega (arith, among, length-replicate SERVERS MAX_WRITES)))) few
    by (inr (inl before)) = other (λ same. omega (arith, same, before))
    by (inr (inr behind)) = other (λ same. omega (arith, same, behind))
