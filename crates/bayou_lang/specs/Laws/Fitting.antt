-- Laws of lists of Writes each of which fits those before it: what such a list keeps as one more is added.
use Rattle.std.proofs.Common.{◌≡◌, ◌≢◌, ◌↔◌, ℕ, zero, suc, ◌+◌, ◌<◌, ◌≤◌, Bool, true, false, cond, max, nat_le, nat_lt, replicate, All, Any, List, [], ◌∷◌, ◌++◌, length, drop, set, get_or, slice_index, ◌⊎◌, inl, inr, ap, sym, ◌∙◌, refl, subst, arith, append_assoc, length-append}
use Rattle.std.specs.List.{filter}
use Rattle.std.proofs.lemmas.Bool.{cases_eq, cases_lt}
use Rattle.std.proofs.lemmas.Bool.Decides.{nat_tests}
use Rattle.std.proofs.lemmas.List.{append-nil, length-replicate, length-set, set_comm, get_or-set_same, get_or-set_other}
use Rattle.std.proofs.lemmas.List.Elements.{All-cons, All-contains, All-push, All-weaker, Contains-append_left}
use Rattle.std.proofs.lemmas.List.Quantifiers.{Any-push, all_pairs_push}
use Rattle.bayou_base.specs.declared.limits.TheConstants.{SERVERS}
use Rattle.bayou_base.specs.declared.wid.Wid.{Wid}
use Rattle.bayou_base.specs.declared.server.ServerId.{ServerId}
use Rattle.bayou_base.specs.declared.stamp.Stamp.{Stamp}
use Rattle.bayou_base.specs.Order.{is_before}
use Rattle.bayou_base.specs.Vector.{Covers, Dominates}
use Rattle.bayou_lang.specs.declared.program.Program.{Program}
use Rattle.bayou_lang.specs.declared.write.Write.{Write}
use Rattle.bayou_lang.specs.Laws.Equality.{server-ext, wid-ext}
use Rattle.bayou_lang.specs.Writes.{counted, count_of, covered_by, greatest_clock, AreFitting, Fits, HaveDistinctStamps, HaveDistinctWids, IsNextWrite, IsPrefixClosed, IsSound}

-- one more Write of each of two servers, in either order
counted-comm : (counts : List ℕ) (a b : Wid) → counted (counted counts a) b ≡ counted (counted counts b) a
counted-comm counts a b =
    let i = a.origin.index in
    let j = b.origin.index in
    elim (cases_eq i j) as (λ _. counted (counted counts a) b ≡ counted (counted counts b) a) [
      | inl same ↦
          let bumped = λ (list : List ℕ) (k : ℕ). set list k (get_or list k 0 + 1) in
          ap (bumped (bumped counts i)) (sym same) ∙ ap (λ k. bumped (bumped counts k) i) same
      | inr differ ↦
          let back : j ≢ i = λ e. differ (sym e) in
          ap (λ n. set (counted counts a) j (n + 1)) (get_or-set_other counts i j (get_or counts i 0 + 1) 0 back)
          ∙ set_comm counts i j (get_or counts i 0 + 1) (get_or counts j 0 + 1) differ
          ∙ sym (ap (λ n. set (counted counts b) i (n + 1)) (get_or-set_other counts j i (get_or counts j 0 + 1) 0 differ))
    ]

-- the counts of a list with one more Write after it
pub count_of-push : (writes : List Write) (write : Write) → count_of (writes ++ write ∷ []) ≡ counted (count_of writes) write.wid
count_of-push [] write = refl
count_of-push (held ∷ writes) write =
    ap (λ counts. counted counts held.wid) (count_of-push writes write) ∙ counted-comm (count_of writes) write.wid held.wid

-- there is a count for each server
pub length-count_of : (writes : List Write) → length (count_of writes) ≡ SERVERS
length-count_of [] = length-replicate {A = ℕ} SERVERS 0
length-count_of (write ∷ writes) =
    length-set (count_of writes) write.wid.origin.index (get_or (count_of writes) write.wid.origin.index 0 + 1) ∙ length-count_of writes

-- the Write's server has one Write more
pub counted-own : (writes : List Write) (write : Write) → slice_index (counted (count_of writes) write.wid) write.wid.origin.index ≡ slice_index (count_of writes) write.wid.origin.index + 1
counted-own writes write =
    let here : write.wid.origin.index < length (count_of writes) = omega (arith, write.wid.origin.in_range, length-count_of writes) in
    get_or-set_same (count_of writes) write.wid.origin.index (get_or (count_of writes) write.wid.origin.index 0 + 1) 0 here

-- and each other server as many as before
pub counted-other : (counts : List ℕ) (wid : Wid) (server : ℕ) → wid.origin.index ≢ server → slice_index (counted counts wid) server ≡ slice_index counts server
counted-other counts wid server differ = get_or-set_other counts wid.origin.index server (get_or counts wid.origin.index 0 + 1) 0 (λ e. differ (sym e))

-- a server's count as one more Write is counted
counted-steps : (writes : List Write) (write : Write) (server : ℕ)
    → (slice_index (counted (count_of writes) write.wid) server ≡ slice_index (count_of writes) server)
    ⊎ ((write.wid.origin.index ≡ server) × (slice_index (counted (count_of writes) write.wid) server ≡ slice_index (count_of writes) server + 1))
counted-steps writes write server =
    let counts = count_of writes in
    elim (cases_eq write.wid.origin.index server)
    as (λ _. (slice_index (counted counts write.wid) server ≡ slice_index counts server)
    ⊎ ((write.wid.origin.index ≡ server) × (slice_index (counted counts write.wid) server ≡ slice_index counts server + 1))) [
      | inl same ↦
          let more : ℕ → Type 0 = λ k. slice_index (counted counts write.wid) k ≡ slice_index counts k + 1 in
          inr (same, subst more same (counted-own writes write))
      | inr differ ↦ inl (counted-other counts write.wid server differ)
    ]

get_or-zeros : (n s : ℕ) → let none : ℕ = 0 in get_or (replicate n none) s none ≡ none
get_or-zeros zero s = refl
get_or-zeros (suc n) zero = refl
get_or-zeros (suc n) (suc s) = get_or-zeros n s

-- no server has more Writes in the list than there are
pub count_of-most : (writes : List Write) (server : ℕ) → slice_index (count_of writes) server ≤ length writes
count_of-most [] server = omega (arith, get_or-zeros SERVERS server)
count_of-most (write ∷ writes) server =
    elim (counted-steps writes write server) as (λ _. slice_index (counted (count_of writes) write.wid) server ≤ length (write ∷ writes)) [
      | inl same ↦ omega (arith, count_of-most writes server)
      | inr more ↦ omega (arith, more.1, count_of-most writes server)
    ]

-- the greatest clock of a list with one more Write after it
pub greatest_clock-push : (writes : List Write) (write : Write) → greatest_clock (writes ++ write ∷ []) ≡ max (greatest_clock writes) write.stamp.clock
greatest_clock-push [] write = omega arith
greatest_clock-push (first ∷ writes) write = omega (arith, greatest_clock-push writes write)

filter_clock-most : (p : Write → Bool) (writes : List Write) → greatest_clock (filter p writes) ≤ greatest_clock writes
filter_clock-most p [] = omega arith
filter_clock-most p (write ∷ writes) =
    let rest = filter p writes in
    elim (p write) as (λ t. greatest_clock (cond t (write ∷ rest) rest) ≤ max write.stamp.clock (greatest_clock writes)) [
      | true ↦ omega (arith, filter_clock-most p writes)
      | false ↦ omega (arith, filter_clock-most p writes)
    ]

filter_clock-grows : (p : Write → Bool) (write : Write) (writes : List Write) → greatest_clock (filter p writes) ≤ greatest_clock (filter p (write ∷ writes))
filter_clock-grows p write writes =
    let rest = filter p writes in
    elim (p write) as (λ t. greatest_clock rest ≤ greatest_clock (cond t (write ∷ rest) rest)) [ true ↦ omega arith | false ↦ omega arith ]

-- each Write that a filter keeps has at most the greatest clock of those
filter_clock-least : (p : Write → Bool) (writes : List Write) → All (λ held. p held ≡ true → held.stamp.clock ≤ greatest_clock (filter p writes)) writes
filter_clock-least p [] = λ k d within. absurd (omega arith)
filter_clock-least p (write ∷ writes) =
    let Early : List Write → Write → Type 0 = λ list held. p held ≡ true → held.stamp.clock ≤ greatest_clock (filter p list) in
    All-cons (Early (write ∷ writes)) write writes (λ kept. rw kept (omega arith))
    (All-weaker (Early writes) (Early (write ∷ writes))
    (λ held early kept. omega (arith, early kept, filter_clock-grows p write writes)) writes (filter_clock-least p writes))

-- no clock is greater than the greatest
pub greatest_clock-least : (writes : List Write) → All (λ held. held.stamp.clock ≤ greatest_clock writes) writes
greatest_clock-least [] = λ k d within. absurd (omega arith)
greatest_clock-least (write ∷ writes) =
    let Early : List Write → Write → Type 0 = λ list held. held.stamp.clock ≤ greatest_clock list in
    All-cons (Early (write ∷ writes)) write writes (omega arith)
    (All-weaker (Early writes) (Early (write ∷ writes)) (λ held early. omega (arith, early)) writes (greatest_clock-least writes))

-- counts that no seq is beyond cover all Writes
pub covered_by-all : (counts : List ℕ) (writes : List Write) → All (λ write. write.wid.seq ≤ slice_index counts write.wid.origin.index) writes → covered_by counts writes ≡ writes
covered_by-all counts [] all = refl
covered_by-all counts (write ∷ writes) all =
    let below : write.wid.seq ≤ slice_index counts write.wid.origin.index = all 0 write (omega arith) in
    let covered : nat_le write.wid.seq (slice_index counts write.wid.origin.index) ≡ true = grind (arith, nat_tests) in
    let rest : covered_by counts writes ≡ writes = covered_by-all counts writes (λ k d within. all (suc k) d (omega arith)) in
    rw covered (ap (λ list. write ∷ list) rest)

-- a Write of a list with one more after it is that one, or one of the list
before_or_last : (writes before after : List Write) (last write : Write) → writes ++ last ∷ [] ≡ before ++ write ∷ after
    → ((writes ≡ before) × (last ≡ write)) ⊎ ((rest : List Write) × (writes ≡ before ++ write ∷ rest))
before_or_last [] [] after last write same = inl (refl, cc)
before_or_last [] (first ∷ before) after last write same = absurd (omega (arith, ap length same, length-append before (write ∷ after)))
before_or_last (held ∷ writes) [] after last write same = let one : held ≡ write = cc in inr (writes, ap (λ w. w ∷ writes) one)
before_or_last (held ∷ writes) (first ∷ before) after last write same =
    let heads : held ≡ first = cc in
    let tails : writes ++ last ∷ [] ≡ before ++ write ∷ after = ap (drop 1) same in
    elim (before_or_last writes before after last write tails)
    as (λ _. ((held ∷ writes ≡ first ∷ before) × (last ≡ write)) ⊎ ((rest : List Write) × (held ∷ writes ≡ first ∷ before ++ write ∷ rest))) [
      | inl is ↦ let list = is.0 in inl (cc, is.1)
      | inr deeper ↦ let list = deeper.1 in inr (deeper.0, cc)
    ]

pub AreFitting-empty : (count : ℕ) → AreFitting count []
AreFitting-empty count before write after same = absurd (omega (arith, ap length same, length-append before (write ∷ after)))

pub AreFitting-push : (count : ℕ) (writes : List Write) (write : Write) → AreFitting count writes → Fits count writes write → AreFitting count (writes ++ write ∷ [])
AreFitting-push count writes write fitting fits before other after same =
    elim (before_or_last writes before after write other same) as (λ _. Fits count before other) [
      | inl is ↦ subst (λ held. Fits count held other) is.0 (subst (Fits count writes) is.1 fits)
      | inr deeper ↦ fitting before other deeper.0 deeper.1
    ]

-- the front of a fitting list
pub fitting-front : (count : ℕ) (before after : List Write) → AreFitting count (before ++ after) → AreFitting count before
fitting-front count before after fitting front write rest same =
    fitting front write (rest ++ after) (ap (λ list. list ++ after) same ∙ append_assoc front (write ∷ rest) after)

-- What no Writes have, and a list keeps as a fitting Write is added, each fitting list has: from a front of it on.
fitting-onward : (count : ℕ) (P : List Write → Type 0)
    → ((held : List Write) (write : Write) → AreFitting count held → Fits count held write → P held → P (held ++ write ∷ []))
    → (before after : List Write) → P before → AreFitting count (before ++ after) → P (before ++ after)
fitting-onward count P more before [] here fitting = subst P (sym (append-nil before)) here
fitting-onward count P more before (write ∷ after) here fitting =
    let whole : before ++ write ∷ [] ++ after ≡ before ++ (write ∷ after) = append_assoc before (write ∷ []) after in
    let next = more before write (fitting-front count before (write ∷ after) fitting) (fitting before write after refl) here in
    subst P whole (fitting-onward count P more (before ++ write ∷ []) after next (subst (AreFitting count) (sym whole) fitting))

fitting-induction : (count : ℕ) (P : List Write → Type 0) → P []
    → ((held : List Write) (write : Write) → AreFitting count held → Fits count held write → P held → P (held ++ write ∷ []))
    → (writes : List Write) → AreFitting count writes → P writes
fitting-induction count P none more writes fitting = fitting-onward count P more [] writes none fitting

-- the counts cover no greater clock than the greatest
pub covered_clock-most : (counts : List ℕ) (writes : List Write) → greatest_clock (covered_by counts writes) ≤ greatest_clock writes
covered_clock-most counts writes = filter_clock-most (λ (held : Write). nat_le held.wid.seq (slice_index counts held.wid.origin.index)) writes

-- a fitting Write's clock is at most one more than the greatest
clock-next : (count : ℕ) (held : List Write) (write : Write) → Fits count held write → write.stamp.clock ≤ greatest_clock held + 1
clock-next count held write fits = omega (arith, fits.1.clock, covered_clock-most write.deps held)

-- no clock is greater than the number of the Writes
pub greatest_clock-most : (count : ℕ) (writes : List Write) → AreFitting count writes → greatest_clock writes ≤ length writes
greatest_clock-most count =
    fitting-induction count (λ writes. greatest_clock writes ≤ length writes) (omega arith)
    (λ held write fitting fits most. omega (arith, greatest_clock-push held write, clock-next count held write fits, most, length-append held (write ∷ [])))

-- the Write is of this server and has this seq
abbrev IsNamed : ℕ → ℕ → Write → Type 0
IsNamed server seq write = (write.wid.origin.index ≡ server) × (write.wid.seq ≡ seq)

Any-front : (P : Write → Type 0) (xs ys : List Write) → Any P xs → Any P (xs ++ ys)
Any-front P xs ys any =
    let there = Contains-append_left xs ys any.1 (any.0, any.2, any.3) in
    (there.0, any.1, there.1, there.2, any.4)

prefix_closed-empty : IsPrefixClosed []
prefix_closed-empty = record {
  none_beyond = λ k d within. absurd (omega arith);
  none_missing = λ server seq some below. absurd (omega (arith, get_or-zeros SERVERS server));
}

prefix_closed-push : (count : ℕ) (held : List Write) (write : Write) → Fits count held write → IsPrefixClosed held → IsPrefixClosed (held ++ write ∷ [])
prefix_closed-push count held write fits closed =
    let old = count_of held in
    let new = counted old write.wid in
    let pushed : count_of (held ++ write ∷ []) ≡ new = count_of-push held write in
    let Below : List ℕ → Write → Type 0 = λ counts held. held.wid.seq ≤ slice_index counts held.wid.origin.index in
    let below : All (Below new) (held ++ write ∷ []) =
    All-push (Below new) held write
    (All-weaker (Below old) (Below new)
    (λ other seq. elim (counted-steps held write other.wid.origin.index) as (λ _. Below new other) [
      | inl same ↦ omega (arith, same, seq)
      | inr more ↦ omega (arith, more.1, seq)
    ]) held closed.none_beyond)
    (omega (arith, counted-own held write, fits.0.next)) in
    record {
      none_beyond = subst (λ counts. All (Below counts) (held ++ write ∷ [])) (sym pushed) below;
      none_missing = λ server seq some within.
          let within_new : seq ≤ slice_index new server = omega (arith, within, ap (λ counts. slice_index counts server) pushed) in
          let front : seq ≤ slice_index old server → Any (IsNamed server seq) (held ++ write ∷ []) = λ before.
          Any-front (IsNamed server seq) held (write ∷ []) (closed.none_missing server seq some before) in
          elim (counted-steps held write server) as (λ _. Any (IsNamed server seq) (held ++ write ∷ [])) [
            | inl same ↦ front (omega (arith, same, within_new))
            | inr more ↦ elim (cases_lt (slice_index old server) seq) as (λ _. Any (IsNamed server seq) (held ++ write ∷ [])) [
              | inl last ↦
                  let before : slice_index old write.wid.origin.index ≡ slice_index old server = ap (slice_index old) more.0 in
                  Any-push (IsNamed server seq) held write (more.0, omega (arith, fits.0.next, more.1, within_new, before))
              | inr earlier ↦ front earlier
            ]
          ];
    }

-- of each server the Writes of a fitting list are its first ones
pub fitting_is_prefix_closed : (count : ℕ) (writes : List Write) → AreFitting count writes → IsPrefixClosed writes
fitting_is_prefix_closed count =
    fitting-induction count IsPrefixClosed prefix_closed-empty (λ held write fitting fits closed. prefix_closed-push count held write fits closed)

-- a Write that fits has another name than each that is held
pub fits_new_wid : (count : ℕ) (held : List Write) (write : Write) → AreFitting count held → Fits count held write → All (λ other. other.wid ≢ write.wid) held
fits_new_wid count held write fitting fits k d within same =
    let other = get_or held k d in
    let below : other.wid.seq ≤ slice_index (count_of held) other.wid.origin.index = (fitting_is_prefix_closed count held fitting).none_beyond k d within in
    let one : other.wid.seq ≡ write.wid.seq = ap (λ wid. wid.seq) same in
    let at : slice_index (count_of held) other.wid.origin.index ≡ slice_index (count_of held) write.wid.origin.index =
    ap (λ (wid : Wid). slice_index (count_of held) wid.origin.index) same in
    omega (arith, fits.0.next)

-- and another stamp: its server held all of its own before it, and its clock is greater than theirs
pub fits_new_stamp : (count : ℕ) (held : List Write) (write : Write) → AreFitting count held → Fits count held write → All (λ other. other.stamp ≢ write.stamp) held
fits_new_stamp count held write fitting fits k d within same =
    let other = get_or held k d in
    let at : other.wid.origin ≡ write.wid.origin = other.one_origin ∙ ap (λ (stamp : Stamp). stamp.origin) same ∙ sym write.one_origin in
    let below : other.wid.seq ≤ slice_index (count_of held) other.wid.origin.index = (fitting_is_prefix_closed count held fitting).none_beyond k d within in
    let own_count : slice_index (count_of held) other.wid.origin.index ≡ slice_index (count_of held) write.wid.origin.index =
    ap (λ (server : ServerId). slice_index (count_of held) server.index) at in
    let own_dep : slice_index write.deps other.wid.origin.index ≡ slice_index write.deps write.wid.origin.index =
    ap (λ (server : ServerId). slice_index write.deps server.index) at in
    let within_deps : other.wid.seq ≤ slice_index write.deps other.wid.origin.index = omega (arith, fits.0.next, fits.1.own) in
    let covered : nat_le other.wid.seq (slice_index write.deps other.wid.origin.index) ≡ true = grind (arith, nat_tests) in
    let early : other.stamp.clock ≤ greatest_clock (covered_by write.deps held) =
    filter_clock-least (λ (held : Write). nat_le held.wid.seq (slice_index write.deps held.wid.origin.index)) held k d within covered in
    let one : other.stamp.clock ≡ write.stamp.clock = ap (λ (stamp : Stamp). stamp.clock) same in
    omega (arith, fits.1.clock)

-- no two Writes of a fitting list have one name
pub fitting_distinct_wids : (count : ℕ) (writes : List Write) → AreFitting count writes → HaveDistinctWids writes
fitting_distinct_wids count =
    fitting-induction count HaveDistinctWids (λ i j d before within. absurd (omega arith))
    (λ held write fitting fits distinct. all_pairs_push (λ a b. a.wid ≢ b.wid) held write distinct (fits_new_wid count held write fitting fits))

-- and no two have one stamp
pub fitting_distinct_stamps : (count : ℕ) (writes : List Write) → AreFitting count writes → HaveDistinctStamps writes
fitting_distinct_stamps count =
    fitting-induction count HaveDistinctStamps (λ i j d before within. absurd (omega arith))
    (λ held write fitting fits distinct. all_pairs_push (λ a b. a.stamp ≢ b.stamp) held write distinct (fits_new_stamp count held write fitting fits))

-- of two Writes of one origin the later one has the greater clock
abbrev pub Rises : Write → Write → Type 0
Rises one other = one.wid.origin ≡ other.wid.origin → one.wid.seq < other.wid.seq → one.stamp.clock < other.stamp.clock

-- a Write that fits has a greater clock than each of its origin before it
rises-fits : (count : ℕ) (held : List Write) (write : Write) → AreFitting count held → Fits count held write → All (λ other. Rises other write) held
rises-fits count held write fitting fits k d within at earlier =
    let other = get_or held k d in
    let own_dep : slice_index write.deps other.wid.origin.index ≡ slice_index write.deps write.wid.origin.index =
    ap (λ (server : ServerId). slice_index write.deps server.index) at in
    let within_deps : other.wid.seq ≤ slice_index write.deps other.wid.origin.index = omega (arith, earlier, fits.1.own, own_dep) in
    let covered : nat_le other.wid.seq (slice_index write.deps other.wid.origin.index) ≡ true = grind (arith, nat_tests) in
    let early : other.stamp.clock ≤ greatest_clock (covered_by write.deps held) =
    filter_clock-least (λ (held : Write). nat_le held.wid.seq (slice_index write.deps held.wid.origin.index)) held k d within covered in
    omega (arith, fits.1.clock, early)

-- and none before it is of a greater seq
rises-held : (count : ℕ) (held : List Write) (write : Write) → AreFitting count held → Fits count held write → All (λ other. Rises write other) held
rises-held count held write fitting fits k d within at later =
    let other = get_or held k d in
    let below : other.wid.seq ≤ slice_index (count_of held) other.wid.origin.index = (fitting_is_prefix_closed count held fitting).none_beyond k d within in
    let own_count : slice_index (count_of held) write.wid.origin.index ≡ slice_index (count_of held) other.wid.origin.index =
    ap (λ (server : ServerId). slice_index (count_of held) server.index) at in
    absurd (omega (arith, later, below, own_count, fits.0.next))

-- within one origin clocks rise with the seq
pub fitting_clocks_rise : (count : ℕ) (writes : List Write) → AreFitting count writes → All (λ one. All (Rises one) writes) writes
fitting_clocks_rise count =
    fitting-induction count (λ writes. All (λ one. All (Rises one) writes) writes) (λ k d within. absurd (omega arith))
    (λ held write fitting fits rise.
    let all = held ++ write ∷ [] in
    All-push (λ one. All (Rises one) all) held write
    (λ k d within. All-push (Rises (get_or held k d)) held write (rise k d within) (rises-fits count held write fitting fits k d within))
    (All-push (Rises write) held write (rises-held count held write fitting fits) (λ at later. absurd (omega (arith, later)))))

-- the counts that are no smaller than a fitting list's own cover all of it
pub covered_by-fitting : (count : ℕ) (writes : List Write) (counts : List ℕ) → AreFitting count writes → Dominates counts (count_of writes) → covered_by counts writes ≡ writes
covered_by-fitting count writes counts fitting greater =
    let closed = fitting_is_prefix_closed count writes fitting in
    covered_by-all counts writes (λ k d within.
    let held = get_or writes k d in
    omega (arith, closed.none_beyond k d within, greater held.wid.origin.index held.wid.origin.in_range))

-- the next Write of one of the servers fits those that it holds
pub next_fits : (count : ℕ) (writes : List Write) (server : ℕ) (asked : Program) (write : Write) → AreFitting count writes → server < count
    → IsNextWrite writes server asked write → Fits count writes write
next_fits count writes server asked write fitting known next =
    let all : covered_by write.deps writes ≡ writes =
    ap (λ counts. covered_by counts writes) next.deps ∙ covered_by-fitting count writes (count_of writes) fitting (λ server inside. omega arith) in
    let at : slice_index (count_of writes) write.wid.origin.index ≡ slice_index (count_of writes) server = ap (slice_index (count_of writes)) next.origin in
    let same : (other : ℕ) → slice_index write.deps other ≡ slice_index (count_of writes) other = λ other. ap (λ counts. slice_index counts other) next.deps in (
      record {
        origin = omega (arith, next.origin);
        next = omega (arith, next.seq);
        deps = λ other inside. omega (arith, same other);
      },
      record {
        own = omega (arith, next.seq, same write.wid.origin.index);
        clock = next.clock ∙ sym (ap (λ list. greatest_clock list + 1) all);
      },
    )

-- the next Write of a server comes after every Write that it holds
pub next_is_latest : (writes : List Write) (server : ℕ) (asked : Program) (write : Write) → IsNextWrite writes server asked write
    → All (λ held. is_before held.stamp write.stamp ≡ true) writes
next_is_latest writes server asked write next k d within =
    let held = get_or writes k d in
    let early : held.stamp.clock < write.stamp.clock = omega (arith, greatest_clock-least writes k d within, next.clock) in
    let less : nat_lt held.stamp.clock write.stamp.clock ≡ true = grind (arith, nat_tests) in
    rw less refl

pub IsSound-empty : (server count : ℕ) → IsSound server count []
IsSound-empty server count = record {
  fitting = AreFitting-empty count;
  own = λ before write after same. absurd (omega (arith, ap length same, length-append before (write ∷ after)));
}

pub IsSound-push : (server count : ℕ) (writes : List Write) (write : Write) → IsSound server count writes → Fits count writes write
    → (write.wid.origin.index ≡ server → write.deps ≡ count_of writes) → IsSound server count (writes ++ write ∷ [])
IsSound-push server count writes write sound fits says = record {
  fitting = AreFitting-push count writes write sound.fitting fits;
  own = λ before other after same is_own.
      elim (before_or_last writes before after write other same) as (λ _. other.deps ≡ count_of before) [
        | inl is ↦
            let Says : Write → List Write → Type 0 = λ one held. one.wid.origin.index ≡ server → one.deps ≡ count_of held in
            subst (Says other) is.0 (subst (λ one. Says one writes) is.1 says) is_own
        | inr deeper ↦ sound.own before other deeper.0 deeper.1 is_own
      ];
}

-- the front of a sound list
pub IsSound-front : (server count : ℕ) (before after : List Write) → IsSound server count (before ++ after) → IsSound server count before
IsSound-front server count before after sound = record {
  fitting = fitting-front count before after sound.fitting;
  own = λ front write rest same. sound.own front write (rest ++ after) (ap (λ list. list ++ after) same ∙ append_assoc front (write ∷ rest) after);
}

-- a fitting list has a Write of a name exactly where its counts cover it
pub covered-where_held : (count : ℕ) (writes : List Write) (name : Wid) → AreFitting count writes
    → Any (λ write. write.wid ≡ name) writes ↔ Covers (count_of writes) name.origin.index name.seq
covered-where_held count writes name fitting =
    let closed = fitting_is_prefix_closed count writes fitting in (
      λ any.
          let below : All (λ write. Covers (count_of writes) write.wid.origin.index write.wid.seq) writes = closed.none_beyond in
          let there : Covers (count_of writes) any.1.wid.origin.index any.1.wid.seq =
          All-contains (λ write. Covers (count_of writes) write.wid.origin.index write.wid.seq) writes any.1 below (any.0, any.2, any.3) in
          subst (λ (wid : Wid). Covers (count_of writes) wid.origin.index wid.seq) any.4 there,
      λ covered.
          let any = closed.none_missing name.origin.index name.seq name.in_range.0 covered in
          (any.0, any.1, any.2, any.3, wid-ext any.1.wid name (server-ext any.1.wid.origin name.origin any.4.0) any.4.1),
    )
