-- The first of the Writes that are due fits those that are held.
use Rattle.std.proofs.Common.{◌≡◌, ℕ, ◌+◌, ◌<◌, ◌≤◌, inl, inr, true, false, List, slice_index, All, Contains, sym, ◌∙◌, subst, arith}
use Rattle.std.proofs.lemmas.Bool.{cases_lt}
use Rattle.std.proofs.lemmas.Bool.Decides.{nat_tests}
use Rattle.std.proofs.lemmas.List.Elements.{All-contains}
use Rattle.bayou_base.specs.declared.limits.TheConstants.{SERVERS}
use Rattle.bayou_base.specs.declared.stamp.Stamp.{Stamp}
use Rattle.bayou_base.specs.Order.{is_before}
use Rattle.bayou_base.specs.Vector.{Covers, Dominates}
use Rattle.bayou_lang.specs.declared.write.Write.{Write}
use Rattle.bayou_lang.specs.Writes.{AreFitting, Fits, count_of, covered_by, greatest_clock}
use Rattle.bayou_restore.specs.Inner.Counting.{IsDue, IsFirstDue}
use Rattle.bayou_restore.proofs.Parts.{Split, clock_again, covered_bound, front_fits, named, of_front, split_of}

-- the counts cover, with each Write of the list, all that this counts
abbrev pub IsClosed : List Write → List ℕ → Type 0
IsClosed writes counts = (other : Write) → Contains writes other → Covers counts other.wid.origin.index other.wid.seq → Dominates counts other.deps

earlier_clock : (a b : Stamp) → a.clock < b.clock → is_before a b ≡ true
earlier_clock a b less = grind (arith, nat_tests)

-- what a Write counts has a lesser clock
counted_earlier : (count : ℕ) (writes : List Write) (write other : Write) → AreFitting count writes → (split : Split writes write) → Contains split.before other
    → Covers write.deps other.wid.origin.index other.wid.seq → is_before other.stamp write.stamp ≡ true
counted_earlier count writes write other fitting split among counted =
    let fits : Fits count split.before write = fitting split.before write split.after split.is in
    let clock = greatest_clock (covered_by write.deps split.before) in
    let below = All-contains (λ (w : Write). w.wid.seq ≤ slice_index write.deps w.wid.origin.index → w.stamp.clock ≤ clock) split.before other (covered_bound write.deps split.before) among counted in
    earlier_clock other.stamp write.stamp (omega (arith, below, fits.1.clock))

module _ (count : ℕ) (writes held : List Write) (counts : List ℕ) (fitting : AreFitting count writes) (closed : IsClosed writes counts) where
  -- nothing that it counts is missing: the first that is would be due, and come before it
  none_missing : (write : Write) → IsFirstDue SERVERS counts (count_of held) writes write → (server : ℕ) → server < SERVERS
      → slice_index (count_of held) server < slice_index write.deps server → ⊥
  none_missing write first server known missing =
      let split = split_of writes write first.among in
      let fits : Fits count split.before write = fitting split.before write split.after split.is in
      let seq = slice_index (count_of held) server + 1 in
      let before = named count split.before server seq (front_fits count writes write fitting split) (omega arith) (omega (arith, missing, fits.0.deps server known)) in
      let other = before.write in
      let among = of_front writes write other split before.among in
      let by_write = subst (λ s. other.wid.seq ≤ slice_index write.deps s) (sym before.origin) (omega (arith, before.number, missing)) in
      let behind = subst (λ s. slice_index (count_of held) s < other.wid.seq) (sym before.origin) (omega (arith, before.number)) in
      let reached = closed write first.among first.counted server known in
      let counted = subst (λ s. other.wid.seq ≤ slice_index counts s) (sym before.origin) (omega (arith, before.number, missing, reached)) in
      let not_earlier = All-contains (λ (w : Write). w.wid.origin.index < SERVERS → IsDue counts (count_of held) w → is_before w.stamp write.stamp ≡ false)
      writes other first.first among other.wid.origin.in_range (behind, counted) in
      let earlier = counted_earlier count writes write other fitting split before.among by_write in
      let both : true ≡ false = sym earlier ∙ not_earlier in
      cc

  pub due_fits : (write : Write) → AreFitting count held → All (λ w. Contains writes w) held → IsFirstDue SERVERS counts (count_of held) writes write → Fits count held write
  due_fits write held_fits inside first =
      let split = split_of writes write first.among in
      let fits : Fits count split.before write = fitting split.before write split.after split.is in
      let reaches : Dominates (count_of held) write.deps = λ server known.
      elim (cases_lt (slice_index (count_of held) server) (slice_index write.deps server)) as (λ _. slice_index write.deps server ≤ slice_index (count_of held) server) [
        | inl missing ↦ absurd (none_missing write first server known missing)
        | inr enough ↦ enough
      ] in (
        record { origin = fits.0.origin; next = first.next; deps = reaches },
        record { own = fits.1.own; clock = clock_again count writes held write fitting held_fits inside first.among reaches },
      )
