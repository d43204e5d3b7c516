-- What the counts of a beginning lack is what comes later.
use Rattle.std.proofs.Common.{◌≡◌, ◌⊎◌, inl, inr, ◌≤◌, ◌<◌, ◌+◌, ℕ, suc, true, false, List, [], ◌∷◌, ◌++◌, All, cond, get_or, length, nat_lt, sym, ◌∙◌, ap, refl, arith, slice_index, subst}
use Rattle.std.proofs.lemmas.Bool.{cases_order}
use Rattle.std.proofs.lemmas.Bool.Decides.{nat_tests}
use Rattle.std.proofs.lemmas.List.{get_or-append-add, get_or_append_left, get_or_default, length-append}
use Rattle.std.proofs.lemmas.List.Elements.{filter-append}
use Rattle.bayou_lang.specs.declared.write.Write.{Write}
use Rattle.bayou_lang.specs.Laws.Equality.{server-ext, wid-ext}
use Rattle.bayou_lang.specs.Writes.{HaveDistinctWids, IsPrefixClosed, count_of, in_stamp_order, lacking_of, missed_by}

-- nothing that is counted is lacked
missed_none : (counts : List ℕ) (writes : List Write) → All (λ write. write.wid.seq ≤ slice_index counts write.wid.origin.index) writes → missed_by counts writes ≡ []
missed_none counts [] all = refl
missed_none counts (write ∷ writes) all =
    let here : write.wid.seq ≤ slice_index counts write.wid.origin.index = all 0 write (omega arith) in
    let rest = missed_none counts writes (λ k d within. all (suc k) d (omega (arith, within))) in
    elim (nat_lt (slice_index counts write.wid.origin.index) write.wid.seq) as
    (λ t. nat_lt (slice_index counts write.wid.origin.index) write.wid.seq ≡ t → cond t (write ∷ missed_by counts writes) (missed_by counts writes) ≡ []) [
      | true ↦ λ is. absurd (grind (arith, nat_tests))
      | false ↦ λ isnt. rest
    ] refl

-- all that isn't counted is
missed_all : (counts : List ℕ) (writes : List Write) → All (λ write. slice_index counts write.wid.origin.index < write.wid.seq) writes → missed_by counts writes ≡ writes
missed_all counts [] all = refl
missed_all counts (write ∷ writes) all =
    let here : slice_index counts write.wid.origin.index < write.wid.seq = all 0 write (omega arith) in
    let rest = missed_all counts writes (λ k d within. all (suc k) d (omega (arith, within))) in
    elim (nat_lt (slice_index counts write.wid.origin.index) write.wid.seq) as
    (λ t. nat_lt (slice_index counts write.wid.origin.index) write.wid.seq ≡ t → cond t (write ∷ missed_by counts writes) (missed_by counts writes) ≡ write ∷ writes) [
      | true ↦ λ is. ap (λ l. write ∷ l) rest
      | false ↦ λ isnt. absurd (grind (arith, nat_tests))
    ] refl

-- a later Write has none of the names that are counted
later_is_missed : (first later : List Write) → HaveDistinctWids (first ++ later) → IsPrefixClosed first → All (λ write. slice_index (count_of first) write.wid.origin.index < write.wid.seq) later
later_is_missed first later distinct closed k d within = by (cases_order (slice_index (count_of first) write.wid.origin.index) write.wid.seq)
  where
    write : Write
    write = get_or later k d

    counted : write.wid.seq ≤ slice_index (count_of first) write.wid.origin.index → ⊥
    counted low =
        let (j, other, among, is, (origin, seq)) = closed.none_missing write.wid.origin.index write.wid.seq write.wid.in_range.0 low in
        let one : get_or (first ++ later) j other ≡ other = get_or_append_left first later other j among ∙ is in
        let two : get_or (first ++ later) (length first + k) other ≡ write = get_or-append-add first later k other ∙ get_or_default later k other d within in
        let far : length first + k < length (first ++ later) = omega (arith, within, length-append first later) in
        distinct j (length first + k) other (omega (arith, among)) far
        (ap (λ w. w.wid) one ∙ wid-ext other.wid write.wid (server-ext other.wid.origin write.wid.origin origin) seq ∙ sym (ap (λ w. w.wid) two))

    by : (slice_index (count_of first) write.wid.origin.index ≡ write.wid.seq) ⊎ ((slice_index (count_of first) write.wid.origin.index < write.wid.seq) ⊎ (write.wid.seq < slice_index (count_of first) write.wid.origin.index)) → slice_index (count_of first) write.wid.origin.index < write.wid.seq
    by (inl same) = absurd (counted (omega (arith, same)))
    by (inr (inl less)) = less
    by (inr (inr more)) = absurd (counted (omega (arith, more)))

-- what the counts of a beginning lack is what comes after it
pub what_is_left : (database first later : List Write) → in_stamp_order database ≡ first ++ later → HaveDistinctWids (in_stamp_order database) → IsPrefixClosed first
    → lacking_of (count_of first) database ≡ later
what_is_left database first later order distinct closed =
    ap (missed_by (count_of first)) order ∙ filter-append _ first later
    ∙ ap (λ l. l ++ missed_by (count_of first) later) (missed_none (count_of first) first closed.none_beyond)
    ∙ missed_all (count_of first) later (later_is_missed first later (subst HaveDistinctWids order distinct) closed)
