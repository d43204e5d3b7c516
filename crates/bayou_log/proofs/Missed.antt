-- The first Write that a server lacks, found among the next ones of the servers.
use Rattle.std.proofs.Common.{◌≡◌, ℕ, ◌+◌, ◌<◌, ◌≤◌, true, false, cond, nat_lt, List, Option, Some, None, length, get_or, slice_index, All, Contains, ap, sym, ◌∙◌, refl, subst, arith}
use Rattle.std.proofs.lemmas.Bool.Decides.{nat_tests}
use Rattle.bayou_base.specs.declared.stamp.Stamp.{Stamp}
use Rattle.bayou_base.specs.declared.limits.TheConstants.{SERVERS}
use Rattle.bayou_base.specs.Order.{is_before}
use Rattle.bayou_base.specs.Vector.{Dominates}
use Rattle.bayou_lang.specs.declared.write.Write.{Write}
use Rattle.bayou_lang.specs.Laws.Equality.{server-ext, wid-ext}
use Rattle.bayou_lang.specs.Laws.Fitting.{fitting_clocks_rise, fitting_is_prefix_closed}
use Rattle.bayou_lang.specs.Laws.Lacking.{one_of_wid}
use Rattle.bayou_lang.specs.Laws.SetOfWrites.{not_before_itself}
use Rattle.bayou_lang.specs.Laws.StampOrder.{is_before-asym, is_before-cotrans}
use Rattle.bayou_lang.specs.Writes.{count_of, AreFitting}
use Rattle.bayou_log.specs.Inner.Lacking.{earlier_of, IsFirst, IsFirstMissed}

-- the Write of the server behind those that are counted, if it is held
abbrev pub IsNextOf : ℕ → List ℕ → List Write → Option Write → Type 0
IsNextOf server counts writes (Some write) = Contains writes write × (write.wid.origin.index ≡ server) × (write.wid.seq ≡ slice_index counts server + 1)
IsNextOf server counts writes None = slice_index (count_of writes) server ≤ slice_index counts server

not_before : (a b : Stamp) → (is_before a b ≡ true → ⊥) → is_before a b ≡ false
not_before a b never = elim (is_before a b) as (λ t. is_before a b ≡ t → t ≡ false) [ true ↦ λ is. absurd (never is) | false ↦ λ isnt. refl ] refl

later_clock : (a b : Stamp) → b.clock < a.clock → is_before a b ≡ false
later_clock a b less = grind (arith, nat_tests)

-- no Write of the server that isn't counted comes before its next one
own_later : (count : ℕ) (writes : List Write) (server : ℕ) (counts : List ℕ) (write : Write) → AreFitting count writes → IsNextOf server counts writes (Some write)
    → (k : ℕ) (d : Write) → k < length writes → (get_or writes k d).wid.origin.index ≡ server → slice_index counts server < (get_or writes k d).wid.seq
    → is_before (get_or writes k d).stamp write.stamp ≡ false
own_later count writes server counts write fitting (held, origin, next) k d within at missed =
    let other = get_or writes k d in
    let same_server : write.wid.origin ≡ other.wid.origin = server-ext write.wid.origin other.wid.origin (origin ∙ sym at) in
    elim (nat_lt write.wid.seq other.wid.seq) as (λ t. nat_lt write.wid.seq other.wid.seq ≡ t → is_before other.stamp write.stamp ≡ false) [
      | true ↦ λ is.
          let earlier : write.wid.seq < other.wid.seq = grind (arith, nat_tests) in
          let rises = subst (λ (w : Write). w.wid.origin ≡ other.wid.origin → w.wid.seq < other.wid.seq → w.stamp.clock < other.stamp.clock) held.2
          (fitting_clocks_rise count writes fitting held.0 write held.1 k d within) in
          later_clock other.stamp write.stamp (rises same_server earlier)
      | false ↦ λ isnt.
          let equal : other.wid.seq ≡ write.wid.seq = grind (arith, nat_tests, missed, next) in
          let one : other ≡ write = one_of_wid count writes write fitting held k d within (wid-ext other.wid write.wid (sym same_server) equal) in
          subst (λ (w : Write). is_before w.stamp write.stamp ≡ false) (sym one) (not_before write.stamp write.stamp (not_before_itself write))
    ] refl

-- no Write of the server is beyond its count
own_counted : (count : ℕ) (writes : List Write) (server : ℕ) (counts : List ℕ) → AreFitting count writes → slice_index (count_of writes) server ≤ slice_index counts server
    → (k : ℕ) (d : Write) → k < length writes → (get_or writes k d).wid.origin.index ≡ server → (get_or writes k d).wid.seq ≤ slice_index counts server
own_counted count writes server counts fitting covered k d within at =
    let beyond = subst (λ s. (get_or writes k d).wid.seq ≤ slice_index (count_of writes) s) at ((fitting_is_prefix_closed count writes fitting).none_beyond k d within) in
    omega (arith, beyond, covered)

-- one server more
first_more : (count : ℕ) (writes : List Write) (server : ℕ) (counts : List ℕ) (found : Write) → IsFirst server counts writes found
    → ((k : ℕ) (d : Write) → k < length writes → (get_or writes k d).wid.origin.index ≡ server → slice_index counts server < (get_or writes k d).wid.seq
    → is_before (get_or writes k d).stamp found.stamp ≡ false) → IsFirst (server + 1) counts writes found
first_more count writes server counts found first own = record {
  held = first.held;
  next = first.next;
  first = λ k d within below missed.
      let other = get_or writes k d in
      elim (nat_lt other.wid.origin.index server) as (λ t. nat_lt other.wid.origin.index server ≡ t → is_before other.stamp found.stamp ≡ false) [
        | true ↦ λ is. first.first k d within (grind (arith, nat_tests)) missed
        | false ↦ λ isnt.
            let at : other.wid.origin.index ≡ server = grind (arith, nat_tests, below) in
            own k d within at (subst (λ s. slice_index counts s < other.wid.seq) at missed)
      ] refl;
}

-- the server's next Write, where none of the others is before it
next_first : (count : ℕ) (writes : List Write) (server : ℕ) (counts : List ℕ) (write : Write) → AreFitting count writes → IsNextOf server counts writes (Some write)
    → All (λ other. other.wid.origin.index < server → slice_index counts other.wid.origin.index < other.wid.seq → is_before other.stamp write.stamp ≡ false) writes
    → IsFirst (server + 1) counts writes write
next_first count writes server counts write fitting next others =
    let found : IsFirst server counts writes write = record {
      held = next.0;
      next = next.2 ∙ ap (λ s. slice_index counts s + 1) (sym next.1);
      first = others;
    } in
    first_more count writes server counts write found (own_later count writes server counts write fitting next)

-- The earlier of the first of so many servers and of the next of one more server is the first of all of these.
pub first_of_more : (count : ℕ) (writes : List Write) (server : ℕ) (counts : List ℕ) (found next : Option Write) → AreFitting count writes
    → IsFirstMissed server counts writes found → IsNextOf server counts writes next → IsFirstMissed (server + 1) counts writes (earlier_of found next)
first_of_more count writes server counts None None fitting covered none =
    λ k d within below.
    let other = get_or writes k d in
    elim (nat_lt other.wid.origin.index server) as (λ t. nat_lt other.wid.origin.index server ≡ t → other.wid.seq ≤ slice_index counts other.wid.origin.index) [
      | true ↦ λ is. covered k d within (grind (arith, nat_tests))
      | false ↦ λ isnt.
          let at : other.wid.origin.index ≡ server = grind (arith, nat_tests, below) in
          subst (λ s. other.wid.seq ≤ slice_index counts s) (sym at) (own_counted count writes server counts fitting none k d within at)
    ] refl
first_of_more count writes server counts None (Some write) fitting covered next =
    next_first count writes server counts write fitting next (λ k d within below missed. absurd (omega (arith, covered k d within below, missed)))
first_of_more count writes server counts (Some found) None fitting first none =
    first_more count writes server counts found first (λ k d within at missed. absurd (omega (arith, own_counted count writes server counts fitting none k d within at, missed)))
first_of_more count writes server counts (Some found) (Some write) fitting first next =
    elim (is_before write.stamp found.stamp)
    as (λ t. is_before write.stamp found.stamp ≡ t → IsFirstMissed (server + 1) counts writes (cond t (Some write) (Some found))) [
      | true ↦ λ before.
          next_first count writes server counts write fitting next (λ k d within below missed.
          let other = get_or writes k d in
          not_before other.stamp write.stamp (λ h.
          let both : true ≡ false =
          sym (is_before-cotrans other.stamp write.stamp found.stamp h (is_before-asym write.stamp found.stamp before)) ∙ first.first k d within below missed in
          cc))
      | false ↦ λ after.
          first_more count writes server counts found first (λ k d within at missed.
          let other = get_or writes k d in
          not_before other.stamp found.stamp (λ h.
          let both : true ≡ false =
          sym (is_before-cotrans other.stamp found.stamp write.stamp h after) ∙ own_later count writes server counts write fitting next k d within at missed in
          cc))
    ] refl

-- counts that dominate those of the Writes miss none
pub none_missed : (count : ℕ) (writes : List Write) (counts : List ℕ) → AreFitting count writes → Dominates counts (count_of writes) → IsFirstMissed SERVERS counts writes None
none_missed count writes counts fitting greater = λ k d within below.
    let other = get_or writes k d in
    omega (arith, (fitting_is_prefix_closed count writes fitting).none_beyond k d within, greater other.wid.origin.index below)

-- of fewer servers
pub first_of_fewer : (writes : List Write) (fewer servers : ℕ) (counts : List ℕ) (found : Option Write) → fewer ≤ servers → IsFirstMissed servers counts writes found → IsFirstMissed fewer counts writes found
first_of_fewer writes fewer servers counts None less covered = λ k d within below. covered k d within (omega (arith, below, less))
first_of_fewer writes fewer servers counts (Some found) less first = record {
  held = first.held;
  next = first.next;
  first = λ k d within below missed. first.first k d within (omega (arith, below, less)) missed;
}
