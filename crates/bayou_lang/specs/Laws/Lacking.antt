-- What a server lacks of a list of Writes, from the first one on.
use Rattle.std.proofs.Common.{◌≡◌, ◌≢◌, ℕ, zero, suc, ◌+◌, ◌<◌, ◌≤◌, inl, inr, Bool, true, false, cond, max, nat_lt, ◌==◌, List, [], ◌∷◌, length, take, drop, get_or, slice_index, All, Contains, ap, sym, ◌∙◌, refl, subst, arith}
use Rattle.std.proofs.lemmas.Bool.Decides.{nat_tests}
use Rattle.std.proofs.lemmas.List.{get_or_default, get_or-set_same, get_or-set_other, length-set}
use Rattle.std.proofs.lemmas.List.Elements.{All-cons, All-head, All-tail, All-weaker}
use Rattle.bayou_base.specs.declared.limits.TheConstants.{SERVERS}
use Rattle.bayou_base.specs.declared.stamp.Stamp.{Stamp}
use Rattle.bayou_base.specs.declared.wid.Wid.{Wid}
use Rattle.bayou_base.specs.Order.{is_before}
use Rattle.bayou_base.specs.Vector.{raised}
use Rattle.bayou_lang.specs.declared.write.Write.{Write}
use Rattle.bayou_lang.specs.Laws.Equality.{server-ext, wid-ext}
use Rattle.bayou_lang.specs.Laws.Fitting.{fitting_clocks_rise, fitting_distinct_stamps, fitting_distinct_wids, fitting_is_prefix_closed, Rises}
use Rattle.bayou_lang.specs.Laws.SetOfWrites.{All-from_in_stamp_order, All-in_stamp_order, All-is_in, Contains-from_is_in, IsIn, IsIn-from_contains, IsIn-from_in_stamp_order, IsIn-in_stamp_order, IsStrict, IsStrict-in_stamp_order, not_before_itself}
use Rattle.bayou_lang.specs.Laws.StampOrder.{is_before-asym}
use Rattle.bayou_lang.specs.Writes.{in_stamp_order, lacking_of, missed_by, count_of, raised_by, AreFitting}

-- the counts don't cover the Write
abbrev is_missed : List ℕ → Write → Bool
is_missed counts write = nat_lt (slice_index counts write.wid.origin.index) write.wid.seq

-- the count of the server whose next Write is counted too
raised-next : (counts : List ℕ) (wid : Wid) → wid.origin.index < length counts → wid.seq ≡ slice_index counts wid.origin.index + 1
    → slice_index (raised counts wid) wid.origin.index ≡ slice_index counts wid.origin.index + 1
raised-next counts wid within next =
    let i = wid.origin.index in
    let greater : max (slice_index counts i) wid.seq ≡ slice_index counts i + 1 = omega (arith, next) in
    get_or-set_same counts i (max (slice_index counts i) wid.seq) 0 within ∙ greater

-- the counts with a server's next Write miss what they missed, but for that one
missed-raised : (counts : List ℕ) (write other : Write) → write.wid.origin.index < length counts → write.wid.seq ≡ slice_index counts write.wid.origin.index + 1
    → other.wid ≢ write.wid → is_missed (raised counts write.wid) other ≡ is_missed counts other
missed-raised counts write other within next differ =
    let i = write.wid.origin.index in
    let o = other.wid.origin.index in
    elim (i == o) as (λ t. (i == o) ≡ t → is_missed (raised counts write.wid) other ≡ is_missed counts other) [
      | true ↦ λ is.
          let same : i ≡ o = grind (arith, nat_tests) in
          let count : slice_index (raised counts write.wid) o ≡ slice_index counts o + 1 =
          subst (λ s. slice_index (raised counts write.wid) s ≡ slice_index counts s + 1) same (raised-next counts write.wid within next) in
          let seqs : other.wid.seq ≢ slice_index counts o + 1 =
          λ e. differ (wid-ext other.wid write.wid (server-ext other.wid.origin write.wid.origin (sym same)) (e ∙ sym (next ∙ ap (λ s. slice_index counts s + 1) same))) in
          let shifted : nat_lt (slice_index counts o + 1) other.wid.seq ≡ nat_lt (slice_index counts o) other.wid.seq = grind (arith, nat_tests, seqs) in
          ap (λ n. nat_lt n other.wid.seq) count ∙ shifted
      | false ↦ λ isnt.
          let apart : o ≢ i = λ e. grind (arith, nat_tests) in
          ap (λ n. nat_lt n other.wid.seq) (get_or-set_other counts i o (max (slice_index counts i) write.wid.seq) 0 apart)
    ] refl

-- a Write that is covered still is
covered-raised : (counts : List ℕ) (write other : Write) → write.wid.origin.index < length counts → is_missed counts other ≡ false → is_missed (raised counts write.wid) other ≡ false
covered-raised counts write other within covered =
    let i = write.wid.origin.index in
    let o = other.wid.origin.index in
    elim (i == o) as (λ t. (i == o) ≡ t → is_missed (raised counts write.wid) other ≡ false) [
      | true ↦ λ is.
          let same : i ≡ o = grind (arith, nat_tests) in
          let count : slice_index (raised counts write.wid) o ≡ max (slice_index counts o) write.wid.seq =
          subst (λ s. slice_index (raised counts write.wid) s ≡ max (slice_index counts s) write.wid.seq) same
          (get_or-set_same counts i (max (slice_index counts i) write.wid.seq) 0 within) in
          let still : nat_lt (max (slice_index counts o) write.wid.seq) other.wid.seq ≡ false = grind (arith, nat_tests, covered) in
          ap (λ n. nat_lt n other.wid.seq) count ∙ still
      | false ↦ λ isnt.
          let apart : o ≢ i = λ e. grind (arith, nat_tests) in
          ap (λ n. nat_lt n other.wid.seq) (get_or-set_other counts i o (max (slice_index counts i) write.wid.seq) 0 apart) ∙ covered
    ] refl

-- where the Write isn't among them
missed_by-others : (counts : List ℕ) (write : Write) (writes : List Write) → write.wid.origin.index < length counts → write.wid.seq ≡ slice_index counts write.wid.origin.index + 1
    → All (λ other. other.wid ≢ write.wid) writes → missed_by counts writes ≡ missed_by (raised counts write.wid) writes
missed_by-others counts write [] within next others = refl
missed_by-others counts write (other ∷ writes) within next others =
    let Other : Write → Type 0 = λ other. other.wid ≢ write.wid in
    let told = raised counts write.wid in
    let rest = missed_by-others counts write writes within next (All-tail Other other writes others) in
    ap (λ list. cond (is_missed counts other) (other ∷ list) list) rest
    ∙ ap (λ t. cond t (other ∷ missed_by told writes) (missed_by told writes)) (sym (missed-raised counts write other within next (All-head Other other writes others)))

-- What is missed begins with the Write, where it is the next of its server's and no other that is missed comes before it.
missed_by-first : (counts : List ℕ) (write : Write) (writes : List Write) → IsStrict writes → IsIn write writes → All (λ other. other.wid ≡ write.wid → other ≡ write) writes
    → write.wid.origin.index < length counts → write.wid.seq ≡ slice_index counts write.wid.origin.index + 1
    → All (λ other. slice_index counts other.wid.origin.index < other.wid.seq → is_before other.stamp write.stamp ≡ false) writes
    → missed_by counts writes ≡ write ∷ missed_by (raised counts write.wid) writes
missed_by-first counts write [] strict here one within next first = absurd here
missed_by-first counts write (other ∷ writes) strict (inl is) one within next first =
    let told = raised counts write.wid in
    let One : Write → Type 0 = λ held. held.wid ≡ write.wid → held ≡ write in
    let Later : Write → Type 0 = λ held. is_before other.stamp held.stamp ≡ true in
    let Other : Write → Type 0 = λ held. held.wid ≢ write.wid in
    let own : is_missed counts write ≡ true = grind (arith, nat_tests, next) in
    let count = raised-next counts write.wid within next in
    let counted : is_missed told write ≡ false = grind (arith, nat_tests, next, count) in
    let others : All Other writes = λ k d inside e.
    let held = get_or writes k d in
    let same : held ≡ other = All-tail One other writes one k d inside e ∙ sym is in
    not_before_itself other (subst (λ (w : Write). is_before other.stamp w.stamp ≡ true) same (strict.0 k d inside)) in
    ap (λ (w : Write). cond (is_missed counts w) (w ∷ missed_by counts writes) (missed_by counts writes)) is
    ∙ ap (λ t. cond t (write ∷ missed_by counts writes) (missed_by counts writes)) own
    ∙ ap (λ list. write ∷ list) (missed_by-others counts write writes within next others)
    ∙ ap (λ t. write ∷ cond t (write ∷ missed_by told writes) (missed_by told writes)) (sym counted)
    ∙ ap (λ (w : Write). write ∷ cond (is_missed told w) (w ∷ missed_by told writes) (missed_by told writes)) (sym is)
missed_by-first counts write (other ∷ writes) strict (inr later) one within next first =
    let told = raised counts write.wid in
    let One : Write → Type 0 = λ held. held.wid ≡ write.wid → held ≡ write in
    let First : Write → Type 0 = λ held. slice_index counts held.wid.origin.index < held.wid.seq → is_before held.stamp write.stamp ≡ false in
    let Later : Write → Type 0 = λ held. is_before other.stamp held.stamp ≡ true in
    let before : is_before other.stamp write.stamp ≡ true = All-is_in Later write writes strict.0 later in
    let covered : is_missed counts other ≡ false =
    elim (is_missed counts other) as (λ t. is_missed counts other ≡ t → t ≡ false) [
      | true ↦ λ is.
          let missed : slice_index counts other.wid.origin.index < other.wid.seq = grind (arith, nat_tests) in
          let both : true ≡ false = sym before ∙ All-head First other writes first missed in
          cc
      | false ↦ λ isnt. refl
    ] refl in
    let rest = missed_by-first counts write writes strict.1 later (All-tail One other writes one) within next (All-tail First other writes first) in
    ap (λ t. cond t (other ∷ missed_by counts writes) (missed_by counts writes)) covered
    ∙ rest
    ∙ ap (λ t. write ∷ cond t (other ∷ missed_by told writes) (missed_by told writes)) (sym (covered-raised counts write other within covered))

-- no other Write of a fitting list has its name
pub one_of_wid : (count : ℕ) (writes : List Write) (write : Write) → AreFitting count writes → Contains writes write → All (λ other. other.wid ≡ write.wid → other ≡ write) writes
one_of_wid count writes write fitting (place, inside, is) k d within same =
    let distinct = fitting_distinct_wids count writes fitting in
    let at : get_or writes place d ≡ write = get_or_default writes place d write inside ∙ is in
    let wids : (get_or writes k d).wid ≡ (get_or writes place d).wid = same ∙ ap (λ (w : Write). w.wid) (sym at) in
    elim (nat_lt k place) as (λ t. nat_lt k place ≡ t → get_or writes k d ≡ write) [
      | true ↦ λ is. absurd (distinct k place d (grind (arith, nat_tests)) inside wids)
      | false ↦ λ isnt.
          elim (nat_lt place k) as (λ t. nat_lt place k ≡ t → get_or writes k d ≡ write) [
            | true ↦ λ is. absurd (distinct place k d (grind (arith, nat_tests)) within (sym wids))
            | false ↦ λ isnt_too. let one : k ≡ place = grind (arith, nat_tests) in ap (λ p. get_or writes p d) one ∙ at
          ] refl
    ] refl

-- What is lacking begins with a held Write that is the next of its server's, where no other that isn't counted comes before it; the
-- others are what is lacking once it is counted.
pub lacking_of-first : (count : ℕ) (counts : List ℕ) (writes : List Write) (write : Write) → AreFitting count writes → length counts ≡ SERVERS
    → Contains writes write → write.wid.seq ≡ slice_index counts write.wid.origin.index + 1
    → All (λ other. slice_index counts other.wid.origin.index < other.wid.seq → is_before other.stamp write.stamp ≡ false) writes
    → lacking_of counts writes ≡ write ∷ lacking_of (raised counts write.wid) writes
lacking_of-first count counts writes write fitting one_each held next first =
    let within : write.wid.origin.index < length counts = omega (arith, write.wid.origin.in_range, one_each) in
    missed_by-first counts write (in_stamp_order writes) (IsStrict-in_stamp_order writes (fitting_distinct_stamps count writes fitting))
    (IsIn-in_stamp_order write writes (IsIn-from_contains write writes held.0 held.1 held.2))
    (All-in_stamp_order (λ other. other.wid ≡ write.wid → other ≡ write) writes (one_of_wid count writes write fitting held)) within next
    (All-in_stamp_order (λ other. slice_index counts other.wid.origin.index < other.wid.seq → is_before other.stamp write.stamp ≡ false) writes first)

missed_by-none : (counts : List ℕ) (writes : List Write) → All (λ write. write.wid.seq ≤ slice_index counts write.wid.origin.index) writes → missed_by counts writes ≡ []
missed_by-none counts [] covered = refl
missed_by-none counts (write ∷ writes) covered =
    let Covered : Write → Type 0 = λ write. write.wid.seq ≤ slice_index counts write.wid.origin.index in
    let within : write.wid.seq ≤ slice_index counts write.wid.origin.index = All-head Covered write writes covered in
    let here : is_missed counts write ≡ false = grind (arith, nat_tests) in
    ap (λ t. cond t (write ∷ missed_by counts writes) (missed_by counts writes)) here ∙ missed_by-none counts writes (All-tail Covered write writes covered)

-- nothing is lacking where each Write is counted
pub lacking_of-none : (counts : List ℕ) (writes : List Write) → All (λ write. write.wid.seq ≤ slice_index counts write.wid.origin.index) writes → lacking_of counts writes ≡ []
lacking_of-none counts writes covered =
    missed_by-none counts (in_stamp_order writes) (All-in_stamp_order (λ write. write.wid.seq ≤ slice_index counts write.wid.origin.index) writes covered)

-- the Write is missed, and no other that is missed comes before it
abbrev IsFirstOf : List ℕ → Write → List Write → Type 0
IsFirstOf counts write writes =
    (slice_index counts write.wid.origin.index < write.wid.seq)
    × All (λ other. slice_index counts other.wid.origin.index < other.wid.seq → is_before other.stamp write.stamp ≡ false) writes

-- the first of what is missed
missed_by-head : (counts : List ℕ) (writes : List Write) (write : Write) (rest : List Write) → IsStrict writes → missed_by counts writes ≡ write ∷ rest
    → IsIn write writes × IsFirstOf counts write writes
missed_by-head counts [] write rest strict is = absurd (omega (arith, ap length is))
missed_by-head counts (other ∷ writes) write rest strict is =
    let First : Write → Write → Type 0 = λ write held. slice_index counts held.wid.origin.index < held.wid.seq → is_before held.stamp write.stamp ≡ false in
    let Later : Write → Type 0 = λ held. is_before other.stamp held.stamp ≡ true in
    elim (is_missed counts other)
    as (λ t. is_missed counts other ≡ t → cond t (other ∷ missed_by counts writes) (missed_by counts writes) ≡ write ∷ rest
    → IsIn write (other ∷ writes) × IsFirstOf counts write (other ∷ writes)) [
      | true ↦ λ missed same.
          let one : other ≡ write = cc in
          let here : slice_index counts other.wid.origin.index < other.wid.seq = grind (arith, nat_tests) in
          let itself : is_before other.stamp other.stamp ≡ false =
          elim (is_before other.stamp other.stamp) as (λ t. is_before other.stamp other.stamp ≡ t → t ≡ false) [ true ↦ λ h. absurd (not_before_itself other h) | false ↦ λ h. refl ] refl in
          let all : All (First other) (other ∷ writes) =
          All-cons (First other) other writes (λ _. itself) (All-weaker Later (First other) (λ held before _. is_before-asym other.stamp held.stamp before) writes strict.0) in
          (inl one, subst (λ (w : Write). IsFirstOf counts w (other ∷ writes)) one (here, all))
      | false ↦ λ covered same.
          let deeper = missed_by-head counts writes write rest strict.1 same in
          let never : slice_index counts other.wid.origin.index < other.wid.seq → ⊥ = λ h. grind (arith, nat_tests) in
          (inr deeper.0, (deeper.1.0, All-cons (First write) other writes (λ h. absurd (never h)) deeper.1.1))
    ] refl is

clocks_order : (a b : Stamp) → a.clock < b.clock → is_before a b ≡ false → ⊥
clocks_order a b less not_before = grind (arith, nat_tests)

-- no other Write of its server that is missed has a lesser seq
is_next : (count : ℕ) (counts : List ℕ) (writes : List Write) (write : Write) → AreFitting count writes → Contains writes write → IsFirstOf counts write writes
    → write.wid.seq ≡ slice_index counts write.wid.origin.index + 1
is_next count counts writes write fitting held (missed, first) =
    let server = write.wid.origin.index in
    let next = slice_index counts server + 1 in
    let closed = fitting_is_prefix_closed count writes fitting in
    let beyond = subst (λ (w : Write). w.wid.seq ≤ slice_index (count_of writes) w.wid.origin.index) held.2 (closed.none_beyond held.0 write held.1) in
    let found = closed.none_missing server next (omega arith) (omega (arith, missed, beyond)) in
    let other = found.1 in
    let same_server : other.wid.origin ≡ write.wid.origin = server-ext other.wid.origin write.wid.origin found.4.0 in
    let seq : other.wid.seq ≡ next = found.4.1 in
    elim (nat_lt next write.wid.seq) as (λ t. nat_lt next write.wid.seq ≡ t → write.wid.seq ≡ next) [
      | true ↦ λ is.
          let rises = subst (λ (w : Write). Rises w write) found.3
          (subst (λ (w : Write). Rises (get_or writes found.0 other) w) held.2 (fitting_clocks_rise count writes fitting found.0 other found.2 held.0 write held.1)) in
          let earlier : other.wid.seq < write.wid.seq = grind (arith, nat_tests) in
          let before : other.stamp.clock < write.stamp.clock = rises same_server earlier in
          let there : slice_index counts other.wid.origin.index < other.wid.seq = omega (arith, seq, ap (slice_index counts) found.4.0) in
          let not_before = subst (λ (w : Write). slice_index counts w.wid.origin.index < w.wid.seq → is_before w.stamp write.stamp ≡ false) found.3
          (first found.0 other found.2) there in
          absurd (clocks_order other.stamp write.stamp before not_before)
      | false ↦ λ isnt. grind (arith, nat_tests, missed)
    ] refl

-- What is lacking is, once its first so many Writes are counted, the others.
lacking_of-others : (count most : ℕ) (counts : List ℕ) (writes list : List Write) → AreFitting count writes → length counts ≡ SERVERS → lacking_of counts writes ≡ list
    → lacking_of (raised_by counts (take most list)) writes ≡ drop most list
lacking_of-others count zero counts writes list fitting one_each is = is
lacking_of-others count (suc most) counts writes [] fitting one_each is = is
lacking_of-others count (suc most) counts writes (write ∷ rest) fitting one_each is =
    let head = missed_by-head counts (in_stamp_order writes) write rest (IsStrict-in_stamp_order writes (fitting_distinct_stamps count writes fitting)) is in
    let held = Contains-from_is_in write writes (IsIn-from_in_stamp_order write writes head.0) in
    let First : Write → Type 0 = λ other. slice_index counts other.wid.origin.index < other.wid.seq → is_before other.stamp write.stamp ≡ false in
    let first = All-from_in_stamp_order First writes head.1.1 in
    let next = is_next count counts writes write fitting held (head.1.0, first) in
    let told = raised counts write.wid in
    let as_many : length told ≡ SERVERS =
    length-set counts write.wid.origin.index (max (slice_index counts write.wid.origin.index) write.wid.seq) ∙ one_each in
    let others = lacking_of-first count counts writes write fitting one_each held next first in
    lacking_of-others count most told writes rest fitting as_many (ap (drop 1) (sym others ∙ is))

-- of a fitting list
pub lacking_of-goes_on : (count most : ℕ) (counts : List ℕ) (writes : List Write) → AreFitting count writes → length counts ≡ SERVERS
    → lacking_of (raised_by counts (take most (lacking_of counts writes))) writes ≡ drop most (lacking_of counts writes)
lacking_of-goes_on count most counts writes fitting one_each = lacking_of-others count most counts writes (lacking_of counts writes) fitting one_each refl
