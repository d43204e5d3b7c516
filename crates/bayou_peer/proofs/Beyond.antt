-- What a server asks of another of its own Writes.
use Rattle.std.proofs.Common.{◌≡◌, ◌⊎◌, inl, inr, ℕ, ◌<◌, ◌≤◌, List, [], ◌∷◌, All, Contains, true, false, cond, nat_lt, replicate, slice_index, refl, sym, ap, ◌∙◌, subst, arith}
use Rattle.std.proofs.lemmas.Bool.{cases_order}
use Rattle.std.proofs.lemmas.Bool.Decides.{nat_tests}
use Rattle.std.proofs.lemmas.List.{get_or-replicate, get_or-set_other, get_or-set_same, length-replicate}
use Rattle.std.proofs.lemmas.List.Elements.{All-cons, All-nil}
use Rattle.bayou_base.specs.declared.limits.TheConstants.{MAX_WRITES, SERVERS}
use Rattle.bayou_lang.specs.declared.write.Write.{Write}
use Rattle.bayou_lang.specs.Laws.SetOfWrites.{Contains-from_is_in, IsIn, IsIn-from_contains, IsIn-in_stamp_order}
use Rattle.bayou_lang.specs.Writes.{in_stamp_order, lacking_of, missed_by}
use Rattle.bayou_peer.specs.Losing.{IsBeyond, all_but}

-- the count of this server
own_at : (server own : ℕ) → server < SERVERS → slice_index (all_but server own) server ≡ own
own_at server own among = get_or-set_same (replicate SERVERS MAX_WRITES) server own 0 (omega (arith, among, length-replicate SERVERS MAX_WRITES))

-- and of another
other_at : (server own other : ℕ) → other < SERVERS → (other ≡ server → ⊥) → slice_index (all_but server own) other ≡ MAX_WRITES
other_at server own other among differs = get_or-set_other (replicate SERVERS MAX_WRITES) server other own 0 differs ∙ get_or-replicate SERVERS other MAX_WRITES 0 among

-- a Write that isn't counted is one of those
is_beyond : (server own : ℕ) (write : Write) → server < SERVERS → slice_index (all_but server own) write.wid.origin.index < write.wid.seq → IsBeyond server own write
is_beyond server own write among missed = by (cases_order write.wid.origin.index server)
  where
    differs : (write.wid.origin.index ≡ server → ⊥) → IsBeyond server own write
    differs apart =
        let most : slice_index (all_but server own) write.wid.origin.index ≡ MAX_WRITES = other_at server own write.wid.origin.index write.wid.origin.in_range apart in
        absurd (omega (arith, missed, most, write.wid.in_range.1))

    by : (write.wid.origin.index ≡ server) ⊎ ((write.wid.origin.index < server) ⊎ (server < write.wid.origin.index)) → IsBeyond server own write
    by (inl same) =
        let count : slice_index (all_but server own) write.wid.origin.index ≡ own = ap (slice_index (all_but server own)) same ∙ own_at server own among in
        (same, omega (arith, missed, count))
    by (inr (inl before)) = differs (λ same. omega (arith, same, before))
    by (inr (inr behind)) = differs (λ same. omega (arith, same, behind))

-- and the other way round
is_missed : (server own : ℕ) (write : Write) → server < SERVERS → IsBeyond server own write → slice_index (all_but server own) write.wid.origin.index < write.wid.seq
is_missed server own write among (same, beyond) =
    let count : slice_index (all_but server own) write.wid.origin.index ≡ own = ap (slice_index (all_but server own)) same ∙ own_at server own among in
    omega (arith, beyond, count)

missed_beyond : (server own : ℕ) (writes : List Write) → server < SERVERS → All (IsBeyond server own) (missed_by (all_but server own) writes)
missed_beyond server own [] among = All-nil (IsBeyond server own)
missed_beyond server own (write ∷ writes) among =
    let counts = all_but server own in
    let rest = missed_beyond server own writes among in
    elim (nat_lt (slice_index counts write.wid.origin.index) write.wid.seq) as
    (λ t. nat_lt (slice_index counts write.wid.origin.index) write.wid.seq ≡ t → All (IsBeyond server own) (cond t (write ∷ missed_by counts writes) (missed_by counts writes))) [
      | true ↦ λ is. All-cons (IsBeyond server own) write (missed_by counts writes) (is_beyond server own write among (grind (arith, nat_tests))) rest
      | false ↦ λ isnt. rest
    ] refl

-- what is asked for are such Writes alone
pub asked_own : (server own : ℕ) (held : List Write) → server < SERVERS → All (IsBeyond server own) (lacking_of (all_but server own) held)
asked_own server own held among = missed_beyond server own (in_stamp_order held) among

-- a Write that isn't counted stays
stays : (server own : ℕ) (write other : Write) (writes : List Write) → server < SERVERS → IsBeyond server own write → (other ≡ write) ⊎ IsIn write (missed_by (all_but server own) writes)
    → IsIn write (missed_by (all_but server own) (other ∷ writes))
stays server own write other writes among beyond here =
    let counts = all_but server own in
    elim (nat_lt (slice_index counts other.wid.origin.index) other.wid.seq) as
    (λ t. nat_lt (slice_index counts other.wid.origin.index) other.wid.seq ≡ t → IsIn write (cond t (other ∷ missed_by counts writes) (missed_by counts writes))) [
      | true ↦ λ is. here
      | false ↦ λ isnt. elim here as (λ _. IsIn write (missed_by counts writes)) [
        | inl same ↦
            let missed : slice_index counts other.wid.origin.index < other.wid.seq =
            subst (λ (w : Write). slice_index counts w.wid.origin.index < w.wid.seq) (sym same) (is_missed server own write among beyond) in
            absurd (let covered : other.wid.seq ≤ slice_index counts other.wid.origin.index = grind (arith, nat_tests) in omega (arith, covered, missed))
        | inr later ↦ later
      ]
    ] refl

missed_each : (server own : ℕ) (writes : List Write) (write : Write) → server < SERVERS → IsBeyond server own write → IsIn write writes → IsIn write (missed_by (all_but server own) writes)
missed_each server own [] write among beyond here = here
missed_each server own (other ∷ writes) write among beyond (inl is) = stays server own write other writes among beyond (inl is)
missed_each server own (other ∷ writes) write among beyond (inr later) =
    stays server own write other writes among beyond (inr (missed_each server own writes write among beyond later))

-- and each of them
pub asked_each : (server own : ℕ) (held : List Write) (write : Write) → server < SERVERS → Contains held write → IsBeyond server own write → Contains (lacking_of (all_but server own) held) write
asked_each server own held write among (place, inside, is) beyond =
    Contains-from_is_in write (lacking_of (all_but server own) held)
    (missed_each server own (in_stamp_order held) write among beyond (IsIn-in_stamp_order write held (IsIn-from_contains write held place inside is)))
