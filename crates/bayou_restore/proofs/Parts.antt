-- Of a fitting list, and of another that has Writes of it alone: what counts cover is in both, if the other counts it.
use Rattle.std.proofs.Common.{◌≡◌, ℕ, zero, suc, ◌+◌, ◌<◌, ◌≤◌, inl, inr, true, false, cond, max, nat_le, List, [], ◌∷◌, ◌++◌, get_or, length, slice_index, All, Contains, ap, sym, refl, subst, arith}
use Rattle.std.proofs.lemmas.Bool.Decides.{nat_tests}
use Rattle.std.proofs.lemmas.List.Elements.{All-cons, All-contains, Contains-append_left, Contains-get_or}
use Rattle.bayou_base.specs.Vector.{Covers, Dominates}
use Rattle.bayou_lang.specs.declared.write.Write.{Write}
use Rattle.bayou_lang.specs.Laws.Clocks.{IsBound, IsReached, one_of_name, reached_bound}
use Rattle.bayou_lang.specs.Laws.Equality.{server-ext, wid-ext}
use Rattle.bayou_lang.specs.Laws.Fitting.{fitting-front, fitting_is_prefix_closed}
use Rattle.bayou_lang.specs.Writes.{AreFitting, Fits, count_of, covered_by, greatest_clock}

-- the list has the Write between these
pub record Split (writes : List Write) (write : Write) : Type 0 where
  pub before : List Write
  pub after : List Write
  pub is : writes ≡ before ++ write ∷ after

split_at : (writes : List Write) (write : Write) (k : ℕ) → k < length writes → get_or writes k write ≡ write → Split writes write
split_at [] write k within is = absurd (omega arith)
split_at (first ∷ writes) write zero within is = record { before = []; after = writes; is = ap (λ (w : Write). w ∷ writes) is }
split_at (first ∷ writes) write (suc k) within is =
    let rest = split_at writes write k (omega (arith, within)) is in
    record { before = first ∷ rest.before; after = rest.after; is = ap (λ (l : List Write). first ∷ l) rest.is }

pub split_of : (writes : List Write) (write : Write) → Contains writes write → Split writes write
split_of writes write among = split_at writes write among.0 among.1 among.2

-- what stands before a Write of the list is of the list
pub of_front : (writes : List Write) (write other : Write) → (split : Split writes write) → Contains split.before other → Contains writes other
of_front writes write other split among =
    subst (λ (l : List Write). Contains l other) (sym split.is) (Contains-append_left split.before (write ∷ split.after) other among)

pub front_fits : (count : ℕ) (writes : List Write) (write : Write) → AreFitting count writes → (split : Split writes write) → AreFitting count split.before
front_fits count writes write fitting split =
    fitting-front count split.before (write ∷ split.after) (subst (AreFitting count) split.is fitting)

-- a Write that the counts of a fitting list cover is there, under its name
pub record Named (writes : List Write) (server seq : ℕ) : Type 0 where
  pub write : Write
  pub among : Contains writes write
  pub origin : write.wid.origin.index ≡ server
  pub number : write.wid.seq ≡ seq

pub named : (count : ℕ) (writes : List Write) (server seq : ℕ) → AreFitting count writes → 0 < seq → seq ≤ slice_index (count_of writes) server → Named writes server seq
named count writes server seq fitting some below =
    let any = (fitting_is_prefix_closed count writes fitting).none_missing server seq some below in
    record { write = any.1; among = (any.0, any.2, any.3); origin = any.4.0; number = any.4.1 }

-- A Write of the whole list that the part counts is one of the part.
pub of_part : (count : ℕ) (writes part : List Write) (write : Write) → AreFitting count writes → AreFitting count part → All (λ held. Contains writes held) part
    → Contains writes write → Covers (count_of part) write.wid.origin.index write.wid.seq → Contains part write
of_part count writes part write fitting part_fits inside among counted =
    let there = named count part write.wid.origin.index write.wid.seq part_fits write.wid.in_range.0 counted in
    let same = wid-ext there.write.wid write.wid (server-ext there.write.wid.origin write.wid.origin there.origin) there.number in
    let one = one_of_name count writes there.write write fitting (All-contains (λ (held : Write). Contains writes held) part there.write inside there.among) among same in
    subst (λ (w : Write). Contains part w) one there.among

-- the greatest of the clocks that are covered bounds them
pub covered_bound : (counts : List ℕ) (writes : List Write) → IsBound counts writes (greatest_clock (covered_by counts writes))
covered_bound counts [] = λ k d within. absurd (omega arith)
covered_bound counts (write ∷ writes) =
    let covered = covered_by counts writes in
    elim (nat_le write.wid.seq (slice_index counts write.wid.origin.index)) as (λ t. nat_le write.wid.seq (slice_index counts write.wid.origin.index) ≡ t → IsBound counts (write ∷ writes) (greatest_clock (cond t (write ∷ covered) covered))) [
      | true ↦ λ is.
          let most = greatest_clock (write ∷ covered) in
          let Bounded : Write → Type 0 = λ write. write.wid.seq ≤ slice_index counts write.wid.origin.index → write.stamp.clock ≤ most in
          All-cons Bounded write writes (λ within. omega arith) (λ k d inside within. omega (arith, covered_bound counts writes k d inside within))
      | false ↦ λ isnt.
          let most = greatest_clock covered in
          let Bounded : Write → Type 0 = λ write. write.wid.seq ≤ slice_index counts write.wid.origin.index → write.stamp.clock ≤ most in
          All-cons Bounded write writes (λ within. absurd (grind (arith, nat_tests))) (covered_bound counts writes)
    ] refl

reached_behind : (counts : List ℕ) (first : Write) (writes : List Write) (clock : ℕ) → IsReached counts writes clock → IsReached counts (first ∷ writes) clock
reached_behind counts first writes clock (inl none) = inl none
reached_behind counts first writes clock (inr found) = inr (found.0, (suc found.1.0, omega (arith, found.1.1), found.1.2), found.2, found.3)

-- and one of them has it
covered_reached : (counts : List ℕ) (writes : List Write) → IsReached counts writes (greatest_clock (covered_by counts writes))
covered_reached counts [] = inl refl
covered_reached counts (write ∷ writes) =
    let covered = covered_by counts writes in
    let rest = reached_behind counts write writes (greatest_clock covered) (covered_reached counts writes) in
    elim (nat_le write.wid.seq (slice_index counts write.wid.origin.index)) as (λ t. nat_le write.wid.seq (slice_index counts write.wid.origin.index) ≡ t → IsReached counts (write ∷ writes) (greatest_clock (cond t (write ∷ covered) covered))) [
      | true ↦ λ is.
          let within : write.wid.seq ≤ slice_index counts write.wid.origin.index = grind (arith, nat_tests) in
          elim (nat_le (greatest_clock covered) write.stamp.clock) as (λ t. nat_le (greatest_clock covered) write.stamp.clock ≡ t → IsReached counts (write ∷ writes) (max write.stamp.clock (greatest_clock covered))) [
            | true ↦ λ less.
                let here : write.stamp.clock ≡ max write.stamp.clock (greatest_clock covered) = grind (arith, nat_tests) in
                inr (write, (0, omega arith, refl), within, here)
            | false ↦ λ more.
                let there : greatest_clock covered ≡ max write.stamp.clock (greatest_clock covered) = grind (arith, nat_tests) in
                subst (IsReached counts (write ∷ writes)) there rest
          ] refl
      | false ↦ λ isnt. rest
    ] refl

-- Of the whole list and of a part that counts them all, the counts cover the same greatest clock.
pub same_clock : (count : ℕ) (writes part : List Write) (counts : List ℕ) → AreFitting count writes → AreFitting count part → All (λ held. Contains writes held) part
    → Dominates (count_of part) counts → greatest_clock (covered_by counts part) ≡ greatest_clock (covered_by counts writes)
same_clock count writes part counts fitting part_fits inside greater =
    let clock = greatest_clock (covered_by counts part) in
    let bounds : IsBound counts writes clock = λ k d within covered.
    let write = get_or writes k d in
    let among = of_part count writes part write fitting part_fits inside (Contains-get_or writes k d within) (omega (arith, covered, greater write.wid.origin.index write.wid.origin.in_range)) in
    subst (λ (w : Write). w.wid.seq ≤ slice_index counts w.wid.origin.index → w.stamp.clock ≤ clock) among.2 (covered_bound counts part among.0 write among.1) covered in
    reached_bound counts writes clock bounds (whole (covered_reached counts part))
  where
    whole : IsReached counts part (greatest_clock (covered_by counts part)) → IsReached counts writes (greatest_clock (covered_by counts part))
    whole (inl none) = inl none
    whole (inr found) = inr (found.0, All-contains (λ (held : Write). Contains writes held) part found.0 inside found.1, found.2, found.3)

-- The same of a Write's past, in what stands before it and in a part that counts all of it.
pub clock_again : (count : ℕ) (writes part : List Write) (write : Write) → AreFitting count writes → AreFitting count part → All (λ held. Contains writes held) part
    → Contains writes write → Dominates (count_of part) write.deps → write.stamp.clock ≡ greatest_clock (covered_by write.deps part) + 1
clock_again count writes part write fitting part_fits inside among greater =
    let split = split_of writes write among in
    let fits : Fits count split.before write = fitting split.before write split.after split.is in
    let front = same_clock count writes split.before write.deps fitting (front_fits count writes write fitting split)
    (λ k d within. of_front writes write (get_or split.before k d) split (Contains-get_or split.before k d within)) fits.0.deps in
    let back = same_clock count writes part write.deps fitting part_fits inside greater in
    omega (arith, fits.1.clock, front, back)
