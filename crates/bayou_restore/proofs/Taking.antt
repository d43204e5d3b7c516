-- The Writes that a server takes before it makes one of its own again.
use Rattle.std.proofs.Common.{◌≡◌, ◌≢◌, ◌==◌, ℕ, ◌+◌, ◌<◌, ◌≤◌, ◌⊎◌, inl, inr, Bool, true, false, max, List, [], ◌∷◌, ◌++◌, Option, None, Some, Result, Ok, Err, IsSome, length, length-append, slice_index, slice_set, All, Contains, ap, sym, ◌∙◌, refl, subst, arith}
use Rattle.std.specs.List.{filter}
use Rattle.std.proofs.lemmas.Bool.{cases_eq, cases_lt}
use Rattle.std.proofs.lemmas.List.{append-nil, ext_get_or, get_or-set_other, get_or-set_same, get_or_append_left}
use Rattle.std.proofs.lemmas.List.Elements.{All-cons, All-contains, All-head, All-push, All-tail, filter-append}
use Rattle.bayou_base.specs.declared.limits.TheConstants.{SERVERS}
use Rattle.bayou_base.specs.declared.tag.Tag.{Tag}
use Rattle.bayou_base.specs.declared.wid.Wid.{Wid}
use Rattle.bayou_base.specs.Vector.{Dominates, raised}
use Rattle.bayou_device.specs.declared.device.Device.{Ghosts}
use Rattle.bayou_lang.specs.declared.write.Write.{Write}
use Rattle.bayou_lang.specs.Laws.Fitting.{count_of-push, fitting_is_prefix_closed, length-count_of}
use Rattle.bayou_lang.specs.Writes.{AreFitting, Fits, count_of, counted}
use Rattle.bayou_restore.specs.Gathering.{Gathering}
use Rattle.bayou_restore.specs.Inner.Counting.{AreAllDue, AreDue, IsDue, IsDueFirst, IsFirstDue}
use Rattle.bayou_restore.specs.Inner.Steps.{AreTagsUpTo, IsSameServer, MayComeNext, Stands, TakesBefore, untaken_as}
use Rattle.bayou_restore.specs.Restoring.{own_of}
use Rattle.bayou_lang.specs.Laws.Clocks.{one_of_name}
use Rattle.bayou_restore.proofs.Gap.{length-raised}
use Rattle.bayou_restore.proofs.Next.{due_fits}
use Rattle.bayou_restore.proofs.Parts.{front_fits, named, of_front, split_of}
use Rattle.bayou_server.specs.Server.{Core, ServerState, own_count}
use Rattle.bayou_server.specs.Stored.{IsStored}
use Rattle.bayou_server.specs.Laws.TakesAll.{all_taken}
use Rattle.bayou_server.specs.Takes.{Takes}
use Rattle.bayou_server.specs.TakesAll.{TakesAll, TakesAt, TakesEach, TakingEnds}
use Rattle.bayou_server.specs.declared.answer.Took.{Took}
use Rattle.bayou_server.specs.declared.answer.Took.TheVariants.{New, Had}
use Rattle.bayou_server.specs.declared.answer.RefusedWrite.{RefusedWrite}
use Rattle.bayou_server.specs.declared.answer.TookAll.{TookAll}
use Rattle.bayou_server.specs.declared.fault.TakeFault.{TakeFault}
use Rattle.bayou_server.specs.declared.fault.TakeFault.TheVariants.{Conflict, Down, OwnLost, Gap, BadStamp, LogFull, OutOfMemory, Journal}

-- what each Write that is taken leaves as it was
pub record Goes (gathering : Gathering) (old new : Core) : Type 0 where
  pub stands : Stands gathering new
  pub same : IsSameServer old new
  pub own : own_of old.id new.held ≡ own_of old.id old.held
  pub number : own_count new ≡ own_count old

same_as : (old new : Core) → new ≡ old → IsSameServer old new
same_as old new is = record { id = ap (λ (c : Core). c.id) is; count = ap (λ (c : Core). c.count) is; limit = ap (λ (c : Core). c.limit) is }

All-front : (P : Write → Type 0) (xs ys : List Write) → All P (xs ++ ys) → All P xs
All-front P xs ys all k e within =
    subst P (get_or_append_left xs ys e k within) (all k e (omega (arith, within, length-append xs ys)))

goes_nowhere : (gathering : Gathering) (core : Core) → Stands gathering core → Goes gathering core core
goes_nowhere gathering core stands = record { stands = stands; same = record { id = refl; count = refl; limit = refl }; own = refl; number = refl }

goes_on : (gathering : Gathering) (a b c : Core) → Goes gathering a b → Goes gathering b c → Goes gathering a c
goes_on gathering a b c first second = record {
  stands = second.stands;
  same = record {
    id = second.same.id ∙ first.same.id;
    count = second.same.count ∙ first.same.count;
    limit = second.same.limit ∙ first.same.limit;
  };
  own = ap (λ (n : ℕ). own_of n c.held) (sym first.same.id) ∙ second.own ∙ ap (λ (n : ℕ). own_of n b.held) first.same.id ∙ first.own;
  number = second.number ∙ first.number;
}

-- another server's Write adds nothing to a server's own
pub own_of-other : (server : ℕ) (held : List Write) (write : Write) → write.wid.origin.index ≢ server → own_of server (held ++ write ∷ []) ≡ own_of server held
own_of-other server held write other =
    let IsOwn : Write → Bool = λ w. w.wid.origin.index == server in
    let none : filter IsOwn (write ∷ []) ≡ [] = elim (write.wid.origin.index == server) as (λ t. write.wid.origin.index == server ≡ t → filter IsOwn (write ∷ []) ≡ []) [
      | true ↦ λ is. absurd (other (grind (arith)))
      | false ↦ λ isnt. rw isnt refl
    ] refl in
    filter-append IsOwn held (write ∷ []) ∙ ap (λ l. own_of server held ++ l) none ∙ append-nil (own_of server held)

module _ {D : Type 0} (d : Ghosts D) where
  -- one that is taken
  step_goes : (gathering : Gathering) (old new : ServerState D) (given : Write) (took : Took) → Stands gathering old.core → Contains gathering.writes given
      → TakesAt d old given (Ok took) new → Goes gathering old.core new.core
  step_goes gathering old new given Had stands among takes =
      let same : old.core ≡ new.core = sym takes.takes.1 in
      subst (Goes gathering old.core) same (goes_nowhere gathering old.core stands)
  step_goes gathering old new given New stands among takes =
      let is = takes.takes.2 in
      let UpTo : ℕ → Option Tag → Type 0 = λ most one. (t : Tag) → one ≡ Some t → t.number ≤ most in
      let held = ap (λ (c : Core). c.held) is in
      let tags = ap (λ (c : Core). c.tags) is in
      let inside = All-push (λ w. Contains gathering.writes w) old.core.held given stands.others among in
      let last : UpTo (own_count new.core) None = λ t same. absurd (cc) in
      let before : All (UpTo (own_count new.core)) old.core.tags = λ k e within t same. omega (arith, takes.own, stands.tags k e within t same) in
      let all = All-push (UpTo (own_count new.core)) old.core.tags None before last in
      record {
        stands = record {
          up = ap (λ (c : Core). c.doubt) is ∙ stands.up;
          count = ap (λ (c : Core). c.count) is ∙ stands.count;
          others = subst (λ (l : List Write). All (λ w. Contains gathering.writes w) l) (sym held) inside;
          fitting = stands.fitting;
          tags = subst (λ (l : List (Option Tag)). AreTagsUpTo (own_count new.core) l) (sym tags) all;
        };
        same = record { id = ap (λ (c : Core). c.id) is; count = ap (λ (c : Core). c.count) is; limit = ap (λ (c : Core). c.limit) is };
        own = ap (own_of old.core.id) held ∙ own_of-other old.core.id old.core.held given takes.takes.0.fit.foreign.foreign;
        number = takes.own;
      }

  -- all that were taken
  pub each_goes : (gathering : Gathering) (old mid : ServerState D) (front : List Write) (tooks : List Took) → Stands gathering old.core → All (λ w. Contains gathering.writes w) front
      → TakesEach (TakesAt d) old front tooks mid → Goes gathering old.core mid.core
  each_goes gathering old mid [] [] stands inside same = subst (λ (s : ServerState D). Goes gathering old.core s.core) (sym same) (goes_nowhere gathering old.core stands)
  each_goes gathering old mid [] (took ∷ tooks) stands inside none = absurd none
  each_goes gathering old mid (write ∷ front) [] stands inside none = absurd none
  each_goes gathering old mid (write ∷ front) (took ∷ tooks) stands inside each =
      let IsAmong : Write → Type 0 = λ w. Contains gathering.writes w in
      let first = step_goes gathering old each.0 write took stands (All-head IsAmong write front inside) each.1 in
      goes_on gathering old.core each.0.core mid.core first (each_goes gathering each.0 mid front tooks first.stands (All-tail IsAmong write front inside) each.2)

  pub each_stored : (old mid : ServerState D) (front : List Write) (tooks : List Took) → d.is_modelled → TakesEach (TakesAt d) old front tooks mid → IsStored d old → IsStored d mid
  each_stored old mid [] [] modelled same stored = subst (IsStored d) (sym same) stored
  each_stored old mid [] (took ∷ tooks) modelled none stored = absurd none
  each_stored old mid (write ∷ front) [] modelled none stored = absurd none
  each_stored old mid (write ∷ front) (took ∷ tooks) modelled each stored =
      each_stored each.0 mid front tooks modelled each.2 (each.1.stored modelled stored)

  -- one that was due is counted then
  step_counted : (gathering : Gathering) (counts : List ℕ) (old new : ServerState D) (write : Write) (took : Took) → IsFirstDue SERVERS counts (count_of old.core.held) gathering.writes write
      → TakesAt d old write (Ok took) new → count_of new.core.held ≡ raised (count_of old.core.held) write.wid
  step_counted gathering counts old new write Had first takes =
      let below = All-contains (λ (w : Write). w.wid.seq ≤ slice_index (count_of old.core.held) w.wid.origin.index) old.core.held write
      (fitting_is_prefix_closed old.core.count old.core.held takes.sound.0.holds.sound.fitting).none_beyond takes.takes.0 in
      absurd (omega (arith, below, first.next))
  step_counted gathering counts old new write New first takes =
      let told = count_of old.core.held in
      let server = write.wid.origin.index in
      let same : slice_index told server + 1 ≡ max (slice_index told server) write.wid.seq = more (slice_index told server) write.wid.seq first.next in
      ap (λ (c : Core). count_of c.held) takes.takes.2 ∙ count_of-push old.core.held write ∙ ap (slice_set told server) same
    where
      more : (n seq : ℕ) → seq ≡ n + 1 → n + 1 ≡ max n seq
      more n seq next = omega (arith, next)

  -- what is due behind those that were taken
  pub each_due : (gathering : Gathering) (counts behind : List ℕ) (old mid : ServerState D) (front rest : List Write) (tooks : List Took)
      → AreDue counts gathering.writes (count_of old.core.held) (front ++ rest) behind → TakesEach (TakesAt d) old front tooks mid
      → AreDue counts gathering.writes (count_of mid.core.held) rest behind
  each_due gathering counts behind old mid [] rest [] due same =
      subst (λ (s : ServerState D). AreDue counts gathering.writes (count_of s.core.held) rest behind) (sym same) due
  each_due gathering counts behind old mid [] rest (took ∷ tooks) due none = absurd none
  each_due gathering counts behind old mid (write ∷ front) rest [] due none = absurd none
  each_due gathering counts behind old mid (write ∷ front) rest (took ∷ tooks) due each =
      let counted = step_counted gathering counts old each.0 write took due.0 each.1 in
      each_due gathering counts behind each.0 mid front rest tooks
      (subst (λ (t : List ℕ). AreDue counts gathering.writes t (front ++ rest) behind) (sym counted) due.1) each.2

-- what is due is of the list
pub due_inside : (counts : List ℕ) (writes : List Write) (told : List ℕ) (due : List Write) (behind : List ℕ) → AreDue counts writes told due behind → All (λ w. Contains writes w) due
due_inside counts writes told [] behind are = λ k e within. absurd (omega (arith, within))
due_inside counts writes told (write ∷ due) behind are =
    All-cons (λ w. Contains writes w) write due are.0.among (due_inside counts writes (raised told write.wid) due behind are.1)

raised_below : (counts told : List ℕ) (wid : Wid) → length told ≡ SERVERS → Dominates counts told → wid.seq ≤ slice_index counts wid.origin.index → Dominates counts (raised told wid)
raised_below counts told wid each below counted server known =
    let at = wid.origin.index in
    let value = max (slice_index told at) wid.seq in
    elim (cases_eq at server) as (λ _. slice_index (raised told wid) server ≤ slice_index counts server) [
      | inl same ↦
          let here : slice_index (raised told wid) at ≡ value = get_or-set_same told at value 0 (omega (arith, wid.origin.in_range, each)) in
          let most : value ≤ slice_index counts at = both (slice_index told at) wid.seq (slice_index counts at) (below at wid.origin.in_range) counted in
          subst (λ (s : ℕ). slice_index (raised told wid) s ≤ slice_index counts s) same (omega (arith, here, most))
      | inr other ↦
          let there : slice_index (raised told wid) server ≡ slice_index told server = get_or-set_other told at server value 0 (λ e. other (sym e)) in
          omega (arith, there, below server known)
    ]
  where
    both : (a b c : ℕ) → a ≤ c → b ≤ c → max a b ≤ c
    both a b c first second = omega (arith, first, second)

-- no more is told of than is counted
due_below : (counts : List ℕ) (writes : List Write) (told : List ℕ) (due : List Write) (behind : List ℕ) → length told ≡ SERVERS → Dominates counts told
    → AreDue counts writes told due behind → Dominates counts behind
due_below counts writes told [] behind each below same = subst (Dominates counts) (sym same) below
due_below counts writes told (write ∷ due) behind each below are =
    due_below counts writes (raised told write.wid) due behind (length-raised told write.wid ∙ each) (raised_below counts told write.wid each below are.0.counted) are.1

-- Where nothing more is due, all that an own Write of the list counts is told of, and nothing else.
all_told : (gathering : Gathering) (own : Write) (behind : List ℕ) → AreFitting gathering.count gathering.writes → Contains gathering.writes own → length own.deps ≡ SERVERS
    → length behind ≡ SERVERS → Dominates own.deps behind → IsDueFirst SERVERS own.deps behind gathering.writes None → behind ≡ own.deps
all_told gathering own behind fitting among each told_each below none =
    ext_get_or 0 behind own.deps (told_each ∙ sym each) (λ server within.
    let known : server < SERVERS = omega (arith, within, told_each) in
    elim (cases_lt (slice_index behind server) (slice_index own.deps server)) as (λ _. slice_index behind server ≡ slice_index own.deps server) [
      | inl less ↦ absurd (missed server known less)
      | inr enough ↦ omega (arith, enough, below server known)
    ])
  where
    missed : (server : ℕ) → server < SERVERS → slice_index behind server < slice_index own.deps server → ⊥
    missed server known less =
        let split = split_of gathering.writes own among in
        let fits : Fits gathering.count split.before own = fitting split.before own split.after split.is in
        let last = named gathering.count split.before server (slice_index own.deps server) (front_fits gathering.count gathering.writes own fitting split) (omega (arith, less)) (fits.0.deps server known) in
        let other = last.write in
        let is_among = of_front gathering.writes own other split last.among in
        let is_behind = subst (λ s. slice_index behind s < other.wid.seq) (sym last.origin) (omega (arith, last.number, less)) in
        let is_counted = subst (λ s. other.wid.seq ≤ slice_index own.deps s) (sym last.origin) (omega (arith, last.number)) in
        All-contains (λ (w : Write). w.wid.origin.index < SERVERS → ¬ IsDue own.deps behind w) gathering.writes other none is_among other.wid.origin.in_range (is_behind, is_counted)

-- nothing is left where as many were taken as there were
pub none_left : {S : Type 0} (takes : S → Write → Result Took TakeFault → S → Type 0) (old new : S) (given left : List Write) (told : TookAll) → TakesAll takes old given left told new
    → told.refused ≡ None → (left ≡ []) ⊎ (told.taken + told.had ≡ length given) → left ≡ []
none_left takes old new given left told all none (inl nothing) = nothing
none_left {S} takes old new given left told all none (inr whole) =
    let ends : TakingEnds takes all.mid given all.front left None new = subst (λ fault. TakingEnds takes all.mid given all.front left fault new) none all.ends in
    let number = all_taken takes old all.mid all.front all.tooks all.each in
    empty left (omega (arith, whole, all.taken, all.had, number, ap length ends.0, length-append all.front left))
  where
    empty : (left : List Write) → length left ≡ 0 → left ≡ []
    empty [] nothing = refl
    empty (write ∷ left) nothing = absurd (omega (arith, nothing))

-- a server that refuses a Write is the same one
refused_same : (old : Core) (given : Write) (fault : TakeFault) (new : Core) → Takes old given (Err fault) new → IsSameServer old new
refused_same old given Conflict new takes = same_as old new takes.1
refused_same old given Down new takes = same_as old new takes.2
refused_same old given OwnLost new takes = same_as old new takes.3
refused_same old given Gap new takes = same_as old new takes.2
refused_same old given BadStamp new takes = same_as old new takes.3
refused_same old given LogFull new takes = same_as old new takes.2
refused_same old given OutOfMemory new takes = same_as old new takes.1
refused_same old given Journal new takes =
    record { id = ap (λ (c : Core). c.id) takes.2; count = ap (λ (c : Core). c.count) takes.2; limit = ap (λ (c : Core). c.limit) takes.2 }

module _ {D : Type 0} (d : Ghosts D) (gathering : Gathering) (old : ServerState D) (own : Write) (due : List Write) (stands : Stands gathering old.core)
    (all_due : AreAllDue own.deps gathering.writes (count_of old.core.held) due) where
  -- all were taken
  pub taken_all : (new : ServerState D) (told : TookAll) → length own.deps ≡ SERVERS → TakesAll (TakesAt d) old due [] told new → told.refused ≡ None
      → TakesBefore gathering old.core own (Ok tt) new.core × IsSameServer old.core new.core × (d.is_modelled → IsStored d old → IsStored d new)
  taken_all new told each all none =
      let ends : TakingEnds (TakesAt d) all.mid due all.front [] None new = subst (λ fault. TakingEnds (TakesAt d) all.mid due all.front [] fault new) none all.ends in
      let whole : TakesEach (TakesAt d) old all.front all.tooks new = subst (λ (s : ServerState D). TakesEach (TakesAt d) old all.front all.tooks s) (sym ends.1) all.each in
      let behind = all_due.0 in
      let front_due = subst (λ (l : List Write). AreDue own.deps gathering.writes (count_of old.core.held) l behind) ends.0 all_due.1 in
      let inside = subst (λ (l : List Write). All (λ w. Contains gathering.writes w) l) (ends.0 ∙ append-nil all.front) (due_inside own.deps gathering.writes (count_of old.core.held) due behind all_due.1) in
      let goes = each_goes d gathering old new all.front all.tooks stands inside whole in
      let last : behind ≡ count_of new.core.held = each_due d gathering own.deps behind old new all.front [] all.tooks front_due whole in
      let counts : MayComeNext gathering.writes old.core own → count_of new.core.held ≡ own.deps = λ may.
      sym last ∙ all_told gathering own behind stands.fitting may.among.0 each (ap length last ∙ length-count_of new.core.held)
      (due_below own.deps gathering.writes (count_of old.core.held) due behind (length-count_of old.core.held) may.reaches all_due.1) all_due.2 in (
        (goes.stands, goes.own, goes.number, counts),
        goes.same,
        λ modelled stored. each_stored d old new all.front all.tooks modelled whole stored,
      )

  -- one was refused, which is due behind those that were taken
  module _ (mid new : ServerState D) (refused : Write) (behind : List ℕ) (left : List Write) (goes : Goes gathering old.core mid.core)
      (rest : AreDue own.deps gathering.writes (count_of mid.core.held) (refused ∷ left) behind) where
    fits_there : MayComeNext gathering.writes old.core own → AreFitting mid.core.count mid.core.held → Fits mid.core.count mid.core.held refused
    fits_there may held_fits =
        let fits = due_fits gathering.count gathering.writes mid.core.held own.deps stands.fitting may.closed refused
        (subst (λ (n : ℕ). AreFitting n mid.core.held) goes.stands.count held_fits) goes.stands.others rest.0 in
        subst (λ (n : ℕ). Fits n mid.core.held refused) (sym goes.stands.count) fits

    -- it is no own one
    no_own : MayComeNext gathering.writes old.core own → refused.wid.origin.index ≡ mid.core.id → ⊥
    no_own may at =
        let next = ap (λ (s : ℕ). slice_index (count_of mid.core.held) s) at in
        let most = ap (λ (s : ℕ). slice_index own.deps s) (at ∙ goes.same.id) in
        omega (arith, next, most, rest.0.next, rest.0.counted, may.next, goes.number)

    refused_due : (fault : TakeFault) (number : ℕ) → TakesAt d mid refused (Err fault) new → TakesBefore gathering old.core own (Err (untaken_as fault number)) new.core
    refused_due Conflict number takes = λ may.
        let another = takes.takes.0 in
        let among = All-contains (λ (w : Write). Contains gathering.writes w) mid.core.held another.other goes.stands.others another.among in
        another.differs (one_of_name gathering.count gathering.writes another.other refused stands.fitting among rest.0.among another.name)
    refused_due Down number takes = λ may.
        let down : IsSome {T = Write} None = subst IsSome goes.stands.up takes.takes.1 in
        absurd (cc)
    refused_due OwnLost number takes = λ may. no_own may takes.takes.2
    refused_due Gap number takes = λ may. takes.takes.1 (fits_there may takes.sound.0.holds.sound.fitting).0
    refused_due BadStamp number takes = λ may. takes.takes.2 (fits_there may takes.sound.0.holds.sound.fitting).1
    refused_due LogFull number takes = ap (λ (c : Core). length c.held) takes.takes.2 ∙ takes.takes.1 ∙ sym (ap (λ (c : Core). c.limit) takes.takes.2)
    refused_due OutOfMemory number takes = tt
    refused_due Journal number takes = subst IsSome (sym (ap (λ (c : Core). c.doubt) takes.takes.2)) refl

  pub taken_some : (new : ServerState D) (left : List Write) (told : TookAll) (told_of : RefusedWrite) (number : ℕ) → TakesAll (TakesAt d) old due left told new → told.refused ≡ Some told_of
      → TakesBefore gathering old.core own (Err (untaken_as told_of.fault number)) new.core × IsSameServer old.core new.core
  taken_some new left told told_of number all some =
      let ends : TakingEnds (TakesAt d) all.mid due all.front left (Some told_of) new = subst (λ f. TakingEnds (TakesAt d) all.mid due all.front left f new) some all.ends in
      let refused = ends.0 in
      let behind = all_due.0 in
      let IsAmong : Write → Type 0 = λ w. Contains gathering.writes w in
      let inside = subst (λ (l : List Write). All IsAmong l) ends.1 (due_inside own.deps gathering.writes (count_of old.core.held) due behind all_due.1) in
      let goes = each_goes d gathering old all.mid all.front all.tooks stands (All-front IsAmong all.front (refused ∷ left) inside) all.each in
      let front_due = subst (λ (l : List Write). AreDue own.deps gathering.writes (count_of old.core.held) l behind) ends.1 all_due.1 in
      let rest = each_due d gathering own.deps behind old all.mid all.front (refused ∷ left) all.tooks front_due all.each in
      let after = refused_same all.mid.core refused told_of.fault new.core ends.2.takes in (
        refused_due all.mid new refused behind left goes rest told_of.fault number ends.2,
        record { id = after.id ∙ goes.same.id; count = after.count ∙ goes.same.count; limit = after.limit ∙ goes.same.limit },
      )
