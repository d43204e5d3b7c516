-- What is final stays final: a Write above what its server told that it had made has all that the server told that it held in its past.
use Rattle.std.proofs.Common.{◌≡◌, ◌⊎◌, inl, inr, ℕ, zero, suc, ◌+◌, ◌<◌, ◌≤◌, true, false, not, max, List, [], ◌∷◌, ◌++◌, All, Contains, Option, Result, Ok, Err, length, slice_index, slice_set, ap, sym, ◌∙◌, refl, subst, arith}
use Rattle.std.proofs.lemmas.Bool.{cases_lt}
use Rattle.std.proofs.lemmas.List.{append-nil, append_assoc, map-append}
use Rattle.std.proofs.lemmas.List.Elements.{All-contains, All-contains_itself, All-weaker, Contains-append_left}
use Rattle.bayou_base.specs.declared.answer.Seen.{Seen}
use Rattle.bayou_base.specs.declared.asks.Asks.{Asks}
use Rattle.bayou_base.specs.declared.server.ServerId.{ServerId}
use Rattle.bayou_base.specs.declared.stamp.Stamp.{Stamp}
use Rattle.bayou_base.specs.declared.wid.Wid.{Wid}
use Rattle.bayou_base.specs.Order.{is_before}
use Rattle.bayou_base.specs.Vector.{Covers, joined, raised}
use Rattle.bayou_final.specs.Known.{HasOwn, IsKnown, IsKnownBeginning}
use Rattle.bayou_lang.specs.declared.program.Program.{Program}
use Rattle.bayou_lang.specs.declared.write.Write.{Write}
use Rattle.bayou_lang.specs.Database.{empty}
use Rattle.bayou_lang.specs.Laws.Fitting.{count_of-push, counted-other, counted-own, fitting-front, fitting_distinct_stamps, length-count_of}
use Rattle.bayou_lang.specs.Laws.SetOfWrites.{Contains-from_is_in, IsIn, IsIn-from_in_stamp_order, IsIn-in_stamp_order, IsStrict, IsStrict-in_stamp_order, in_stamp_order-same_writes}
use Rattle.bayou_lang.specs.Writes.{AreFitting, HaveSameWrites, count_of, in_stamp_order}
use Rattle.bayou_log.specs.Laws.Append.{after_writes-append, listed_after-append}
use Rattle.bayou_log.specs.Listing.{listed_after}
use Rattle.bayou_log.specs.Replay.{after_writes}
use Rattle.bayou_judge.specs.History.{IsFrontOf}
use Rattle.bayou_server.specs.declared.answer.Written.{Written}
use Rattle.bayou_server.specs.declared.answer.Written.TheVariants as written
use Rattle.bayou_server.specs.declared.fault.Behind.{Behind}
use Rattle.bayou_server.specs.declared.fault.WriteFault.{WriteFault}
use Rattle.bayou_server.specs.declared.fault.WriteFault.TheVariants as writing
use Rattle.bayou_world.specs.declared.event.Event.{Event}
use Rattle.bayou_world.specs.declared.reply.Reply.{Reply}
use Rattle.bayou_world.specs.declared.reply.Reply.TheVariants as replies
use Rattle.bayou_world.specs.Final.{AreViews, BeginsWith, Had, IsFinal, IsKnownStamp, IsView, Leads, TellsRead, TellsWrite, up_to}
use Rattle.bayou_world.specs.Inner.Good.{AreGoodServers, IsGoodMachine, IsHome}
use Rattle.bayou_world.specs.Inner.Told.{IsToldMachine}
use Rattle.bayou_world.specs.Machine.{Asking, Machine, Made, ServerSets, SessionSets, writes}
use Rattle.bayou_world.specs.Runs.{Run, first_machine}
use Rattle.bayou_world.specs.Steps.{AgainStep, AskStep, ReadStep, RefusesWrite, WriteStep, first_asking}
use Rattle.bayou_world.specs.Tags.{MayAskAgain}
use Rattle.bayou_world.proofs.Collecting.{held_on}
use Rattle.bayou_world.proofs.Growing.{HaveGrown, front_grows}
use Rattle.bayou_world.proofs.Homes.{fitting_at, home_of_had, home_of_held, one_write, past_is_before, stands_behind}
use Rattle.bayou_world.proofs.InOrder.{Reaches, beginning_same, begins_so, begins_too, is_in, longest_known, not_itself, strict_filter, strict_same}
use Rattle.bayou_world.proofs.Lists.{Contains-filter, Contains-from_filter, Contains-later, Contains-map, Contains-map_from, same_number, split_at}
use Rattle.bayou_world.proofs.Running.{run_is_good, run_is_tagged}
use Rattle.bayou_world.proofs.Telling.{run_is_told}
use Rattle.bayou_world.proofs.Vectors.{named}

-- ---- databases that servers had

whole_front : (list : List Write) → IsFrontOf list list
whole_front list = ([], sym (append-nil list))

-- each Write of one fits those before it
front_fitting : (count limit : ℕ) (servers : ℕ → ServerSets) → AreGoodServers count limit servers → (place : ℕ) (database : List Write) → IsFrontOf (writes (servers place).held) database → AreFitting count database
front_fitting count limit servers good place database front = fitting-front count database front.0 (subst (AreFitting count) front.1 (fitting_at count limit servers good place))

front_origin : (count limit : ℕ) (servers : ℕ → ServerSets) → AreGoodServers count limit servers → (place : ℕ) (database : List Write) → IsFrontOf (writes (servers place).held) database
    → (write : Write) → Contains database write → write.wid.origin.index < count
front_origin count limit servers good place database front write has =
    let at = split_at database write has in
    (front_fitting count limit servers good place database front at.0 write at.1 at.2).0.origin

-- the view is of a front of what the server holds
pub record IsViewOf (servers : ℕ → ServerSets) (place : ℕ) (view : List ℕ) : Type 0 where
  pub database : List Write
  pub front : IsFrontOf (writes (servers place).held) database
  pub is : view ≡ count_of database

abbrev pub HaveViews : (count : ℕ) → (ℕ → ServerSets) → (ℕ → List ℕ) → Type 0
HaveViews count servers views = (place : ℕ) → place < count → IsViewOf servers place (views place)

abbrev view_grows : (old new : ℕ → ServerSets) → HaveGrown old new → (place : ℕ) (view : List ℕ) → IsViewOf old place view → IsViewOf new place view
view_grows old new grown place view is = record { database = is.database; front = front_grows old new grown place is.database is.front; is = is.is }

-- what a view covers is in the database that it is of
view_has : (count limit : ℕ) (servers : ℕ → ServerSets) → AreGoodServers count limit servers → (place : ℕ) (view : List ℕ) → (is : IsViewOf servers place view)
    → (held : Made) → IsHome servers held → Covers view held.write.wid.origin.index held.write.wid.seq → Contains is.database held.write
view_has count limit servers good place view is held home covers =
    let name = held.write.wid in
    let covered : Covers (count_of is.database) name.origin.index name.seq = subst (λ v. Covers v name.origin.index name.seq) is.is covers in
    let at = Contains-map_from (λ (w : Write). w.wid) is.database name ((named count is.database name (front_fitting count limit servers good place is.database is.front)).1 covered) in
    let there = home_of_had count limit servers good place is.database is.front at.0 at.1 in
    subst (Contains is.database) (one_write count limit servers good there.0 held at.0 held.write there.2 home there.1 refl at.2) at.1

-- ---- a Write above what its server told

-- a front that hasn't the element is a front of what stands before it
front_before : {X : Type 0} (front rest before : List X) (x : X) (after : List X) → front ++ rest ≡ before ++ x ∷ after → (Contains front x → ⊥) → (more : List X) × (before ≡ front ++ more)
front_before [] rest before x after same without = (before, refl)
front_before (first ∷ front) rest [] x after same without = let is : first ≡ x = cc in absurd (without (0, omega arith, is))
front_before (first ∷ front) rest (other ∷ before) x after same without =
    let head : first ≡ other = cc in
    let tail : front ++ rest ≡ before ++ x ∷ after = cc in
    let deeper = front_before front rest before x after tail (λ has. without (Contains-later first front x has)) in
    (deeper.0, sym (ap (λ z. z ∷ before) head) ∙ ap (λ zs. first ∷ zs) deeper.1)

-- It was made behind each database that its server had with fewer Writes of its own.
pub past_has : (count limit : ℕ) (servers : ℕ → ServerSets) → AreGoodServers count limit servers → (made : Made) → IsHome servers made
    → (database : List Write) → IsFrontOf (writes (servers made.write.wid.origin.index).held) database → slice_index (count_of database) made.write.wid.origin.index < made.write.wid.seq
    → (write : Write) → Contains database write → Contains made.past write
past_has count limit servers good made home database front beyond write has =
    let place = made.write.wid.origin.index in
    let stands = stands_behind count limit servers good made home in
    let split : writes (servers place).held ≡ writes stands.before ++ made.write ∷ writes stands.after =
    ap writes stands.split ∙ map-append (λ (m : Made). m.write) stands.before (made ∷ stands.after) in
    let fitting = front_fitting count limit servers good place database front in
    let without : Contains database made.write → ⊥ = λ there.
    let covered = (named count database made.write.wid fitting).0 (Contains-map (λ (w : Write). w.wid) database made.write there) in
    absurd (omega (arith, covered, beyond)) in
    let more = front_before database front.0 (writes stands.before) made.write (writes stands.after) (sym front.1 ∙ split) without in
    subst (λ list. Contains list write) (sym stands.past) (subst (λ list. Contains list write) (sym more.1) (Contains-append_left database more.0 write has))

-- It has each Write in its past that every server is known to hold, and comes after it.
pub is_later : (count limit : ℕ) (servers : ℕ → ServerSets) → AreGoodServers count limit servers → (views : ℕ → List ℕ) → HaveViews count servers views
    → (made : Made) → IsHome servers made → made.write.wid.origin.index < count → slice_index (views made.write.wid.origin.index) made.write.wid.origin.index < made.write.wid.seq
    → (known : Made) → IsHome servers known → IsKnown count views known.write.wid → Contains made.past known.write × (is_before known.write.stamp made.write.stamp ≡ true)
is_later count limit servers good views have made home inside beyond known known_home is_known =
    let place = made.write.wid.origin.index in
    let view = have place inside in
    let has = view_has count limit servers good place (views place) view known known_home (is_known place inside) in
    let past = past_has count limit servers good made home view.database view.front (subst (λ v. slice_index v place < made.write.wid.seq) view.is beyond) known.write has in
    (past, past_is_before count limit servers good made home known.write past)

-- ---- what two databases have, of whatever servers and times

-- a server had the database, and holds more than as the views were told
record HadLater (count : ℕ) (told : ℕ → ServerSets) (database : List Write) : Type 0 where
  limit : ℕ
  servers : ℕ → ServerSets
  good : AreGoodServers count limit servers
  grown : HaveGrown told servers
  place : ℕ
  front : IsFrontOf (writes (servers place).held) database

module _ (count : ℕ) (told : ℕ → ServerSets) (views : ℕ → List ℕ) (have : HaveViews count told views) where
  -- a Write that its server had made by its view is in each database that has what that server had made by then
  own_is_had : (xs ys : List Write) → HadLater count told xs → HadLater count told ys → HasOwn count views ys
      → (write : Write) → Contains xs write → write.wid.seq ≤ slice_index (views write.wid.origin.index) write.wid.origin.index → Contains ys write
  own_is_had xs ys first second own write has below =
      let maker = write.wid.origin.index in
      let inside = front_origin count first.limit first.servers first.good first.place xs first.front write has in
      let view = have maker inside in
      let view_first = view_grows told first.servers first.grown maker (views maker) view in
      let mine = home_of_had count first.limit first.servers first.good first.place xs first.front write has in
      let covers : Covers (views maker) mine.0.write.wid.origin.index mine.0.write.wid.seq = subst (λ (w : Write). Covers (views maker) w.wid.origin.index w.wid.seq) (sym mine.1) below in
      let in_view : Contains view.database write = subst (Contains view.database) mine.1 (view_has count first.limit first.servers first.good maker (views maker) view_first mine.0 mine.2 covers) in
      let there = home_of_had count second.limit second.servers second.good maker view.database (front_grows told second.servers second.grown maker view.database view.front) write in_view in
      let covered : Covers (count_of ys) maker write.wid.seq = omega (arith, below, own maker inside) in
      let at = Contains-map_from (λ (w : Write). w.wid) ys write.wid
      ((named count ys write.wid (front_fitting count second.limit second.servers second.good second.place ys second.front)).1 covered) in
      let also = home_of_had count second.limit second.servers second.good second.place ys second.front at.0 at.1 in
      subst (Contains ys) (one_write count second.limit second.servers second.good also.0 there.0 at.0 write also.2 there.2 also.1 there.1 at.2) at.1

  -- and so is one that doesn't come after a Write that every server is known to hold
  final_is_had : (xs ys : List Write) → HadLater count told xs → HadLater count told ys → HasOwn count views ys → (stamp : Stamp) → IsKnownStamp count views xs stamp
      → (write : Write) → Contains xs write → is_before stamp write.stamp ≡ false → Contains ys write
  final_is_had xs ys first second own stamp known write has early =
      let maker = write.wid.origin.index in
      elim (cases_lt (slice_index (views maker) maker) write.wid.seq) as (λ _. Contains ys write) [
        | inl beyond ↦
            let mine = home_of_had count first.limit first.servers first.good first.place xs first.front write has in
            let that = home_of_had count first.limit first.servers first.good first.place xs first.front known.write known.there in
            let inside = front_origin count first.limit first.servers first.good first.place xs first.front write has in
            let Above : Write → Type 0 = λ w. slice_index (views w.wid.origin.index) w.wid.origin.index < w.wid.seq in
            let later = is_later count first.limit first.servers first.good views (λ place within. view_grows told first.servers first.grown place (views place) (have place within)) mine.0 mine.2
            (subst (λ (w : Write). w.wid.origin.index < count) (sym mine.1) inside) (subst Above (sym mine.1) beyond)
            that.0 that.2 (subst (λ (w : Write). IsKnown count views w.wid) (sym that.1) known.known) in
            let after : is_before stamp write.stamp ≡ true =
            subst (λ (s : Stamp). is_before s write.stamp ≡ true) known.is
            (subst (λ (w : Write). is_before w.stamp write.stamp ≡ true) that.1 (subst (λ (w : Write). is_before that.0.write.stamp w.stamp ≡ true) mine.1 later.1)) in
            let both : true ≡ false = sym after ∙ early in
            absurd (cc)
        | inr below ↦ own_is_had xs ys first second own write has below
      ]

  -- what is known is there too
  known_is_had : (xs ys : List Write) → HadLater count told xs → HadLater count told ys → HasOwn count views ys → (stamp : Stamp) → IsKnownStamp count views xs stamp → IsKnownStamp count views ys stamp
  known_is_had xs ys first second own stamp known =
      let inside = front_origin count first.limit first.servers first.good first.place xs first.front known.write known.there in record {
        write = known.write;
        there = own_is_had xs ys first second own known.write known.there (known.known known.write.wid.origin.index inside);
        known = known.known;
        is = known.is;
      }

-- ---- the lists

passes : (stamp : Stamp) (write : Write) → not (is_before stamp write.stamp) ≡ true → is_before stamp write.stamp ≡ false
passes stamp write passed = elim (is_before stamp write.stamp) as (λ t. not t ≡ true → t ≡ false) [ true ↦ λ e. sym e | false ↦ λ e. refl ] passed

kept_in : (stamp : Stamp) (xs ys : List Write) → ((write : Write) → Contains xs write → is_before stamp write.stamp ≡ false → Contains ys write)
    → (write : Write) → Contains (up_to stamp xs) write → Contains (up_to stamp ys) write
kept_in stamp xs ys each write has =
    let p = λ (w : Write). not (is_before stamp w.stamp) in
    let from = Contains-from_filter p (in_stamp_order xs) write has in
    let there = each write ((in_stamp_order-same_writes xs write).1 from.0) (passes stamp write from.1) in
    Contains-filter p (in_stamp_order ys) write ((in_stamp_order-same_writes ys write).0 there) from.1

begins_with : (first later database : List Write) → in_stamp_order database ≡ first ++ later → BeginsWith first database
begins_with first later database order = record {
  later = later;
  order = order;
  outcomes = (listed_after later (after_writes first empty), ap (λ list. listed_after list empty) order ∙ listed_after-append first later empty);
  left = ap (λ list. after_writes list empty) order ∙ after_writes-append first later empty;
}

strict_database : (count : ℕ) (told : ℕ → ServerSets) (database : List Write) → HadLater count told database → IsStrict (in_stamp_order database)
strict_database count told database at =
    IsStrict-in_stamp_order database (fitting_distinct_stamps count database (front_fitting count at.limit at.servers at.good at.place database at.front))

module _ (count : ℕ) (told : ℕ → ServerSets) (views : ℕ → List ℕ) (have : HaveViews count told views) where
  -- up to a known Write both have the same, and begin with that
  same_begins : (stamp : Stamp) (xs ys : List Write) → HadLater count told xs → HadLater count told ys
      → HasOwn count views xs → HasOwn count views ys → IsKnownStamp count views xs stamp → (up_to stamp xs ≡ up_to stamp ys) × BeginsWith (up_to stamp xs) xs × BeginsWith (up_to stamp xs) ys
  same_begins stamp xs ys first second own_xs own_ys known =
      let known_ys = known_is_had count told views have xs ys first second own_ys stamp known in
      let same : HaveSameWrites (up_to stamp xs) (up_to stamp ys) = λ write. (
        kept_in stamp xs ys (final_is_had count told views have xs ys first second own_ys stamp known) write,
        kept_in stamp ys xs (final_is_had count told views have ys xs second first own_xs stamp known_ys) write,
      ) in
      let p = λ (w : Write). not (is_before stamp w.stamp) in
      let strict_xs = strict_database count told xs first in
      let strict_ys = strict_database count told ys second in
      let equal : up_to stamp xs ≡ up_to stamp ys = strict_same (up_to stamp xs) (up_to stamp ys) (strict_filter p (in_stamp_order xs) strict_xs) (strict_filter p (in_stamp_order ys) strict_ys) same in
      let split_xs = begins_so stamp (in_stamp_order xs) strict_xs in
      let split_ys = begins_so stamp (in_stamp_order ys) strict_ys in (
        equal,
        begins_with (up_to stamp xs) split_xs.0 xs split_xs.1,
        begins_with (up_to stamp xs) split_ys.0 ys (split_ys.1 ∙ ap (λ list. list ++ split_ys.0) (sym equal)),
      )

  abbrev Known : Write → Type 0
  Known write = IsKnown count views write.wid

  -- what doesn't come after a known Write of the one is in the other
  reaches : (xs ys : List Write) → HadLater count told xs → HadLater count told ys → HasOwn count views ys → Reaches Known (in_stamp_order xs) (in_stamp_order ys)
  reaches xs ys first second own known write has is_known there early =
      let stamp : IsKnownStamp count views xs known.stamp = record { write = known; there = Contains-from_is_in known xs (IsIn-from_in_stamp_order known xs has); known = is_known; is = refl } in
      let in_xs = Contains-from_is_in write xs (IsIn-from_in_stamp_order write xs there) in
      IsIn-in_stamp_order write ys (is_in ys write (final_is_had count told views have xs ys first second own known.stamp stamp write in_xs early))

  -- the longest known beginning of the one is that of the other
  same_beginning : (xs ys beginning : List Write) → HadLater count told xs → HadLater count told ys → HasOwn count views xs → HasOwn count views ys
      → IsKnownBeginning count views xs beginning → IsKnownBeginning count views ys beginning × BeginsWith beginning ys
  same_beginning xs ys beginning first second own_xs own_ys is =
      let strict = subst IsStrict is.order (strict_database count told xs first) in
      let there = subst (λ list. Reaches Known list (in_stamp_order ys)) is.order (reaches xs ys first second own_ys) in
      let back = subst (Reaches Known (in_stamp_order ys)) is.order (reaches ys xs second first own_xs) in
      let other = beginning_same Known beginning is.later (in_stamp_order ys) strict (strict_database count told ys second) is.known is.longest there back in (
        record { later = other.0; order = other.1; known = is.known; longest = other.2 },
        begins_with beginning other.0 ys other.1,
      )

  -- Each server that goes on from its view begins with it too, whatever it lacks.
  beginning_there : (xs beginning : List Write) → HadLater count told xs → HasOwn count views xs → IsKnownBeginning count views xs beginning
      → (limit : ℕ) (servers : ℕ → ServerSets) → AreGoodServers count limit servers → HaveGrown told servers → (place : ℕ) → place < count → BeginsWith beginning (writes (servers place).held)
  beginning_there xs beginning first own is limit servers good grown place inside =
      let ys = writes (servers place).held in
      let second : HadLater count told ys = record { limit = limit; servers = servers; good = good; grown = grown; place = place; front = whole_front ys } in
      let view = have place inside in
      let has : (write : Write) → IsIn write beginning → IsIn write (in_stamp_order ys) = λ write there.
      let in_first = Contains-from_is_in write beginning there in
      let in_order = subst (λ list. Contains list write) (sym is.order) (Contains-append_left beginning is.later write in_first) in
      let mine = home_of_had count first.limit first.servers first.good first.place xs first.front write ((in_stamp_order-same_writes xs write).1 in_order) in
      let known = All-contains Known beginning write is.known in_first in
      let in_view = view_has count first.limit first.servers first.good place (views place) (view_grows told first.servers first.grown place (views place) view) mine.0 mine.2
      (subst (λ (w : Write). Covers (views place) w.wid.origin.index w.wid.seq) (sym mine.1) (known place inside)) in
      let front = front_grows told servers grown place view.database view.front in
      let held : Contains ys write = subst (λ list. Contains list write) (sym front.1) (Contains-append_left view.database front.0 write (subst (Contains view.database) mine.1 in_view)) in
      IsIn-in_stamp_order write ys (is_in ys write held) in
      let back = subst (Reaches Known (in_stamp_order ys)) is.order (reaches ys xs second first own) in
      let other = begins_too Known beginning is.later (in_stamp_order ys) (subst IsStrict is.order (strict_database count told xs first)) (strict_database count told ys second) is.known has back in
      begins_with beginning other.0 ys other.1

-- ---- the longest known beginning of a database

-- it can be told whether a Write is known
tells_known : (count : ℕ) (views : ℕ → List ℕ) (name : Wid) → IsKnown count views name ⊎ (IsKnown count views name → ⊥)
tells_known zero views name = inl (λ place inside. absurd (omega (arith, inside)))
tells_known (suc count) views name =
    elim (cases_lt (slice_index (views count) name.origin.index) name.seq) as (λ _. IsKnown (suc count) views name ⊎ (IsKnown (suc count) views name → ⊥)) [
      | inl beyond ↦ inr (λ known. absurd (omega (arith, beyond, known count (omega arith))))
      | inr covered ↦ elim (tells_known count views name) as (λ _. IsKnown (suc count) views name ⊎ (IsKnown (suc count) views name → ⊥)) [
        | inl known ↦ inl (λ place inside. elim (cases_lt place count) as (λ _. Covers (views place) name.origin.index name.seq) [
          | inl below ↦ known place below
          | inr last ↦ let same : count ≡ place = omega (arith, inside, last) in subst (λ n. Covers (views n) name.origin.index name.seq) same covered
        ])
        | inr unknown ↦ inr (λ known. unknown (λ place inside. known place (omega (arith, inside))))
      ]
    ]

pub some_beginning : (count : ℕ) (views : ℕ → List ℕ) (database : List Write) → (first : List Write) × IsKnownBeginning count views database first
some_beginning count views database =
    let longest = longest_known (λ write. IsKnown count views write.wid) (λ write. tells_known count views write.wid) (in_stamp_order database) in
    (longest.0, record { later = longest.1; order = longest.2; known = longest.3; longest = longest.4 })

-- each Write of it is final
pub final_beginning : (count : ℕ) (views : ℕ → List ℕ) (database first : List Write) → HasOwn count views database → IsKnownBeginning count views database first → All (IsFinal count views database) first
final_beginning count views database first own is =
    All-weaker (Contains first) (IsFinal count views database) (λ write has.
    let known = All-contains (λ (w : Write). IsKnown count views w.wid) first write is.known has in
    let there : Contains database write = (in_stamp_order-same_writes database write).1 (subst (λ list. Contains list write) (sym is.order) (Contains-append_left first is.later write has)) in
    record { there = there; own = own; stamp = write.stamp; known = record { write = write; there = there; known = known; is = refl }; not_later = not_itself write }) first (All-contains_itself first)

-- ---- counts only rise

counts_rise : (held later : List Write) (server : ℕ) → slice_index (count_of held) server ≤ slice_index (count_of (held ++ later)) server
counts_rise held [] server = omega (arith, ap (λ list. slice_index (count_of list) server) (append-nil held))
counts_rise held (write ∷ later) server =
    let rest = counts_rise (held ++ write ∷ []) later server in
    let whole : slice_index (count_of ((held ++ write ∷ []) ++ later)) server ≡ slice_index (count_of (held ++ write ∷ later)) server =
    ap (λ list. slice_index (count_of list) server) (append_assoc held (write ∷ []) later) in
    let pushed = ap (λ counts. slice_index counts server) (count_of-push held write) in
    elim (same_number write.wid.origin.index server) as (λ _. slice_index (count_of held) server ≤ slice_index (count_of (held ++ write ∷ later)) server) [
      | inl own ↦
          let more = subst (λ n. slice_index (count_of (held ++ write ∷ [])) n ≡ slice_index (count_of held) n + 1) own
          (ap (λ counts. slice_index counts write.wid.origin.index) (count_of-push held write) ∙ counted-own held write) in
          omega (arith, rest, whole, more)
      | inr other ↦
          let same = pushed ∙ counted-other (count_of held) write.wid server other in
          omega (arith, rest, whole, same)
    ]

pub own_on : (old new : Machine) → Leads old new → (count : ℕ) (views : ℕ → List ℕ) (place : ℕ)
    → HasOwn count views (writes (old.servers place).held) → HasOwn count views (writes (new.servers place).held)
own_on old new (events, replies, run) count views place own server inside =
    let grown = held_on old new events replies run place in
    let all : writes (new.servers place).held ≡ writes (old.servers place).held ++ writes grown.0 = ap writes grown.1 ∙ map-append (λ (m : Made). m.write) (old.servers place).held grown.0 in
    let rise = counts_rise (writes (old.servers place).held) (writes grown.0) server in
    let whole = ap (λ list. slice_index (count_of list) server) all in
    omega (arith, own server inside, rise, whole)

-- ---- of two views of a server the one is behind the other

fronts_ordered : {X : Type 0} (xs rest ys other : List X) → xs ++ rest ≡ ys ++ other → ((more : List X) × (ys ≡ xs ++ more)) ⊎ ((more : List X) × (xs ≡ ys ++ more))
fronts_ordered [] rest ys other same = inl (ys, refl)
fronts_ordered (x ∷ xs) rest [] other same = inr (x ∷ xs, refl)
fronts_ordered (x ∷ xs) rest (y ∷ ys) other same =
    let head : x ≡ y = cc in
    let tail : xs ++ rest ≡ ys ++ other = cc in
    elim (fronts_ordered xs rest ys other tail) as (λ _. ((more : List _) × (y ∷ ys ≡ (x ∷ xs) ++ more)) ⊎ ((more : List _) × (x ∷ xs ≡ (y ∷ ys) ++ more))) [
      | inl deeper ↦ inl (deeper.0, ap (λ zs. y ∷ zs) deeper.1 ∙ ap (λ z. z ∷ (xs ++ deeper.0)) (sym head))
      | inr deeper ↦ inr (deeper.0, ap (λ zs. x ∷ zs) deeper.1 ∙ ap (λ z. z ∷ (ys ++ deeper.0)) head)
    ]

joined_above : (xs ys : List ℕ) → length xs ≡ length ys → ((server : ℕ) → slice_index xs server ≤ slice_index ys server) → joined xs ys ≡ ys
joined_above [] [] same below = refl
joined_above [] (y ∷ ys) same below = absurd (omega (arith, same))
joined_above (x ∷ xs) [] same below = absurd (omega (arith, same))
joined_above (x ∷ xs) (y ∷ ys) same below =
    let first : x ≤ y = below 0 in
    let greater : max x y ≡ y = omega (arith, first) in
    ap (λ n. n ∷ joined xs ys) greater ∙ ap (λ list. y ∷ list) (joined_above xs ys (omega (arith, same)) (λ server. below (suc server)))

joined_below : (xs ys : List ℕ) → length xs ≡ length ys → ((server : ℕ) → slice_index ys server ≤ slice_index xs server) → joined xs ys ≡ xs
joined_below [] [] same below = refl
joined_below [] (y ∷ ys) same below = absurd (omega (arith, same))
joined_below (x ∷ xs) [] same below = absurd (omega (arith, same))
joined_below (x ∷ xs) (y ∷ ys) same below =
    let first : y ≤ x = below 0 in
    let greater : max x y ≡ x = omega (arith, first) in
    ap (λ n. n ∷ joined xs ys) greater ∙ ap (λ list. x ∷ list) (joined_below xs ys (omega (arith, same)) (λ server. below (suc server)))

-- the join is the counts of the longer one
joined_fronts : (whole xs ys : List Write) → IsFrontOf whole xs → IsFrontOf whole ys → (joined (count_of xs) (count_of ys) ≡ count_of xs) ⊎ (joined (count_of xs) (count_of ys) ≡ count_of ys)
joined_fronts whole xs ys (rest, one) (other, two) =
    let long : length (count_of xs) ≡ length (count_of ys) = length-count_of xs ∙ sym (length-count_of ys) in
    elim (fronts_ordered xs rest ys other (sym one ∙ two)) as (λ _. (joined (count_of xs) (count_of ys) ≡ count_of xs) ⊎ (joined (count_of xs) (count_of ys) ≡ count_of ys)) [
      | inl more ↦ inr (joined_above (count_of xs) (count_of ys) long
          (λ server. subst (λ list. slice_index (count_of xs) server ≤ slice_index (count_of list) server) (sym more.1) (counts_rise xs more.0 server)))
      | inr more ↦ inl (joined_below (count_of xs) (count_of ys) long
          (λ server. subst (λ list. slice_index (count_of ys) server ≤ slice_index (count_of list) server) (sym more.1) (counts_rise ys more.0 server)))
    ]

-- ---- over runs

runs_on : (old : Machine) (events : List Event) (replies : List Reply) (mid : Machine) (more : List Event) (told : List Reply) (new : Machine)
    → Run old events replies mid → Run mid more told new → Run old (events ++ more) (replies ++ told) new
runs_on old [] [] mid more told new one two = subst (λ m. Run m more told new) one two
runs_on old [] (reply ∷ replies) mid more told new one two = absurd one
runs_on old (event ∷ events) [] mid more told new one two = absurd one
runs_on old (event ∷ events) (reply ∷ replies) mid more told new (next, step, rest) two = (next, step, runs_on next events replies mid more told new rest two)

module _ (count limit capacity : ℕ) (asks : ℕ → Option Asks) where
  abbrev IsReached : Machine → Type 0
  IsReached machine = Leads (first_machine count limit capacity asks) machine

  reached_on : (told now : Machine) → IsReached told → Leads told now → IsReached now
  reached_on told now (events, replies, run) (more, also, on) =
      (events ++ more, replies ++ also, runs_on (first_machine count limit capacity asks) events replies told more also now run on)

  reached_good : (now : Machine) → IsReached now → IsGoodMachine now
  reached_good now (events, replies, run) = run_is_good count limit capacity asks events replies now run

  reached_told : (now : Machine) → IsReached now → IsToldMachine count asks now
  reached_told now (events, replies, run) = run_is_told count limit capacity asks events replies now run

  reached_servers : (now : Machine) → IsReached now → AreGoodServers count now.limit now.servers
  reached_servers now reached = subst (λ n. AreGoodServers n now.limit now.servers) (reached_told now reached).count_is (reached_good now reached).servers

  had_front : (now : Machine) → IsReached now → (place : ℕ) (database : List Write) → Had now place database → IsFrontOf (writes (now.servers place).held) database
  had_front now reached place database had = All-contains (IsFrontOf (writes (now.servers place).held)) (now.servers place).had database ((reached_good now reached).servers place).had had

  views_of : (told : Machine) → IsReached told → (views : ℕ → List ℕ) → AreViews told views → HaveViews count told.servers views
  views_of told reached views are place inside =
      let view = are place (omega (arith, inside, (reached_told told reached).count_is)) in
      record { database = view.database; front = had_front told reached place view.database view.had; is = view.is }

  grown_on : (told now : Machine) → Leads told now → HaveGrown told.servers now.servers
  grown_on told now (more, also, on) = held_on told now more also on

  had_later : (told now : Machine) → IsReached told → Leads told now → (place : ℕ) (database : List Write) → Had now place database → HadLater count told.servers database
  had_later told now reached on place database had =
      let reached_now = reached_on told now reached on in record {
        limit = now.limit;
        servers = now.servers;
        good = reached_servers now reached_now;
        grown = grown_on told now on;
        place = place;
        front = had_front now reached_now place database had;
      }

  -- what is held at some time is a database that the server had, later on
  pub had_on : (mid : Machine) → IsReached mid → (last : Machine) → Leads mid last → (place : ℕ) → Had last place (writes (mid.servers place).held)
  had_on mid reached last on place =
      let held = writes (mid.servers place).held in
      ((reached_told last (reached_on mid last reached on)).servers place).had held (front_grows mid.servers last.servers (grown_on mid last on) place held (whole_front held))

  -- a Write that each server had as its view was told is known
  pub known_on : (told : Machine) → IsReached told → (views : ℕ → List ℕ) → AreViews told views
      → (write : Write) → ((place : ℕ) (database : List Write) → place < count → Had told place database → views place ≡ count_of database → Contains database write) → IsKnown count views write.wid
  known_on told reached views are write each place inside =
      let view = are place (omega (arith, inside, (reached_told told reached).count_is)) in
      let fitting = front_fitting count told.limit told.servers (reached_servers told reached) place view.database (had_front told reached place view.database view.had) in
      let covered = (named count view.database write.wid fitting).0 (Contains-map (λ (w : Write). w.wid) view.database write (each place view.database inside view.had view.is)) in
      subst (λ v. Covers v write.wid.origin.index write.wid.seq) (sym view.is) covered

  -- and a Write that is known each server had, if it is held anywhere
  pub holds_on : (told : Machine) → IsReached told → (views : ℕ → List ℕ) → AreViews told views → (now : Machine) → Leads told now → (server : ℕ) (made : Made) → Contains (now.servers server).held made
      → IsKnown count views made.write.wid → (place : ℕ) (database : List Write) → place < count → Had told place database → views place ≡ count_of database → Contains database made.write
  holds_on told reached views are now on server made has known place database inside had is =
      let good = reached_servers now (reached_on told now reached on) in
      let view : IsViewOf told.servers place (views place) = record { database = database; front = had_front told reached place database had; is = is } in
      view_has count now.limit now.servers good place (views place) (view_grows told.servers now.servers (grown_on told now on) place (views place) view)
      made (home_of_held count now.limit now.servers good server made has) (known place inside)

  pub later_on : (told : Machine) → IsReached told → (views : ℕ → List ℕ) → AreViews told views
      → (now : Machine) → Leads told now → (server place : ℕ) (made known : Made) → Contains (now.servers server).held made → Contains (now.servers place).held known
      → slice_index (views made.write.wid.origin.index) made.write.wid.origin.index < made.write.wid.seq → IsKnown count views known.write.wid
      → Contains made.past known.write × (is_before known.write.stamp made.write.stamp ≡ true)
  later_on told reached views are now on server place made known has has_known beyond is_known =
      let good = reached_servers now (reached_on told now reached on) in
      let have = views_of told reached views are in
      let held = writes (now.servers server).held in
      is_later count now.limit now.servers good views (λ other inside. view_grows told.servers now.servers (grown_on told now on) other (views other) (have other inside))
      made (home_of_held count now.limit now.servers good server made has)
      (front_origin count now.limit now.servers good server held (whole_front held) made.write (Contains-map (λ (m : Made). m.write) (now.servers server).held made has)) beyond
      known (home_of_held count now.limit now.servers good place known has_known) is_known

  pub same_on : (told : Machine) → IsReached told → (views : ℕ → List ℕ) → AreViews told views
      → (one other : Machine) → Leads told one → Leads told other → (server place : ℕ) (database another : List Write) → Had one server database → Had other place another
      → HasOwn count views database → HasOwn count views another → (stamp : Stamp) → IsKnownStamp count views database stamp
      → (up_to stamp database ≡ up_to stamp another) × BeginsWith (up_to stamp database) database × BeginsWith (up_to stamp database) another
  same_on told reached views are one other on also server place database another had had_too own own_too stamp known =
      same_begins count told.servers views (views_of told reached views are) stamp database another
      (had_later told one reached on server database had) (had_later told other reached also place another had_too) own own_too known

  pub final_on : (told : Machine) → IsReached told → (views : ℕ → List ℕ) → AreViews told views
      → (one other : Machine) → Leads told one → Leads told other → (server place : ℕ) (database another : List Write) → Had one server database → Had other place another
      → HasOwn count views another → (write : Write) → IsFinal count views database write → IsFinal count views another write
  final_on told reached views are one other on also server place database another had had_too own write final =
      let have = views_of told reached views are in
      let first = had_later told one reached on server database had in
      let second = had_later told other reached also place another had_too in record {
        there = final_is_had count told.servers views have database another first second own final.stamp final.known write final.there final.not_later;
        own = own;
        stamp = final.stamp;
        known = known_is_had count told.servers views have database another first second own final.stamp final.known;
        not_later = final.not_later;
      }

  pub beginning_on : (told : Machine) → IsReached told → (views : ℕ → List ℕ) → AreViews told views
      → (one other : Machine) → Leads told one → Leads told other → (server place : ℕ) (database another : List Write) → Had one server database → Had other place another
      → HasOwn count views database → HasOwn count views another → (first : List Write) → IsKnownBeginning count views database first
      → IsKnownBeginning count views another first × BeginsWith first another
  beginning_on told reached views are one other on also server place database another had had_too own own_too first is =
      same_beginning count told.servers views (views_of told reached views are) database another first
      (had_later told one reached on server database had) (had_later told other reached also place another had_too) own own_too is

  pub everywhere_on : (told : Machine) → IsReached told → (views : ℕ → List ℕ) → AreViews told views
      → (one other : Machine) → Leads told one → Leads told other → (server : ℕ) (database first : List Write) → Had one server database
      → HasOwn count views database → IsKnownBeginning count views database first → (place : ℕ) → place < count → BeginsWith first (writes (other.servers place).held)
  everywhere_on told reached views are one other on also server database first had own is =
      beginning_there count told.servers views (views_of told reached views are) database first (had_later told one reached on server database had) own is
      other.limit other.servers (reached_servers other (reached_on told other reached also)) (grown_on told other also)

  -- ---- what answers tell

  held_view : (now : Machine) → IsReached now → (place : ℕ) (view : List ℕ) → view ≡ count_of (writes (now.servers place).held) → IsView now place view
  held_view now reached place view is =
      let held = writes (now.servers place).held in
      record { database = held; had = ((reached_told now reached).servers place).had held (whole_front held); is = is }

  past_view : (now : Machine) → IsReached now → (place : ℕ) (made : Made) → Contains (now.servers place).held made → made.write.wid.origin.index ≡ place → (view : List ℕ) → view ≡ count_of made.past
      → IsView now place view
  past_view now reached place made has own view is =
      let servers = now.servers in
      let good = reached_servers now reached in
      let stands = stands_behind count now.limit servers good made (home_of_held count now.limit servers good place made has) in
      let there : (servers place).held ≡ stands.before ++ made ∷ stands.after = ap (λ n. (servers n).held) (sym own) ∙ stands.split in
      let split : writes (servers place).held ≡ made.past ++ writes (made ∷ stands.after) =
      ap writes there ∙ map-append (λ (m : Made). m.write) stands.before (made ∷ stands.after) ∙ ap (λ list. list ++ writes (made ∷ stands.after)) (sym stands.past) in
      record { database = made.past; had = ((reached_told now reached).servers place).had made.past (writes (made ∷ stands.after), split); is = is }

  pub told_by_read : (now : Machine) → IsReached now
      → (who place : ℕ) (key : List ℕ) (answer : Result Seen Behind) (new : Machine) → ReadStep now who place key (replies.Read answer) new → (view : List ℕ) → TellsRead answer view → IsView now place view
  told_by_read now reached who place key answer new (ReadStep.skipped cannot is same) view tells = absurd (cc)
  told_by_read now reached who place key answer new (ReadStep.behind session entry may not_may is entry_is same) view tells =
      let one : answer ≡ Err (record { vector = count_of (writes (now.servers place).held) }) = cc in
      held_view now reached place view (subst (λ a. TellsRead a view) one tells)
  told_by_read now reached who place key answer new (ReadStep.served session entry seen may covered value vector is entry_is same) view tells =
      let one : answer ≡ Ok seen = cc in
      held_view now reached place view (subst (λ a. TellsRead a view) one tells ∙ vector)

  refusal_tells : (most : ℕ) (session : SessionSets) (server : ServerSets) (fault : WriteFault) → RefusesWrite most session server fault → (view : List ℕ) → TellsWrite (Err fault) view → view ≡ count_of (writes server.held)
  refusal_tells most session server (writing.Behind vector) (up, not_may, is) view tells = tells ∙ is
  refusal_tells most session server writing.TagUsed refused view tells = absurd tells
  refusal_tells most session server writing.Down refused view tells = absurd tells
  refusal_tells most session server writing.LogFull refused view tells = absurd tells
  refusal_tells most session server writing.OutOfMemory refused view tells = absurd tells
  refusal_tells most session server writing.Journal refused view tells = absurd tells

  told_by_asking : (now : Machine) → IsReached now → (who : ℕ) (session : SessionSets) (asking : Asking) (answer : Result Written WriteFault) (new : Machine) → AskStep now who session asking answer new
      → (view : List ℕ) → TellsWrite answer view → IsView now asking.server view
  told_by_asking now reached who session asking answer new (AskStep.refused entry fault refused is entry_is same) view tells =
      held_view now reached asking.server view (refusal_tells now.limit session (now.servers asking.server) fault refused view (subst (λ a. TellsWrite a view) is tells))
  told_by_asking now reached who session asking answer new (AskStep.doubted entry made makes is entry_is same) view tells = absurd (subst (λ a. TellsWrite a view) is tells)
  told_by_asking now reached who session asking answer new (AskStep.accepted entry made accepted makes told_is is entry_is same) view tells =
      held_view now reached asking.server view (subst (λ a. TellsWrite a view) is tells ∙ told_is.deps ∙ ap count_of makes.past)

  pub told_by_program : (now : Machine) → IsReached now
      → (who place : ℕ) (program : Program) (answer : Result Written WriteFault) (new : Machine) → WriteStep now who place program (replies.Wrote answer) new → (view : List ℕ) → TellsWrite answer view → IsView now place view
  told_by_program now reached who place program answer new (WriteStep.skipped cannot is same) view tells = absurd (cc)
  told_by_program now reached who place program answer new (WriteStep.asked session other may asks_it is) view tells =
      let one : answer ≡ other = cc in
      told_by_asking now reached who session (first_asking place session program) other new asks_it view (subst (λ a. TellsWrite a view) one tells)

  pub told_by_repeat : (now : Machine) → IsReached now
      → (who : ℕ) (server : ServerId) (answer : Result Written WriteFault) (new : Machine) → AgainStep now who (replies.AskedAgain server answer) new → (view : List ℕ) → TellsWrite answer view → IsView now server.index view
  told_by_repeat now reached who server answer new (AgainStep.skipped cannot is same) view tells = absurd (cc)
  told_by_repeat now (events, told_are, run) who server answer new (AgainStep.known session asking entry made accepted may holds told_is (by, by_is, is) entry_is same) view tells =
      let one : answer ≡ Ok (written.Known accepted) = cc in
      let there : server ≡ by = cc in
      let may_again : MayAskAgain now who asking = record { session = session; there = may.begin.there; asked = may.asked } in
      let own = ((run_is_tagged count limit capacity asks events told_are now run).again who asking may_again made (inl (asking.server, holds.held)) holds.under).server in
      subst (λ n. IsView now n view) (sym (ap (λ (s : ServerId). s.index) there ∙ by_is))
      (past_view now (events, told_are, run) asking.server made holds.held own view (subst (λ a. TellsWrite a view) one tells ∙ told_is.deps))
  told_by_repeat now reached who server answer new (AgainStep.asked session asking other may none asks_it (by, by_is, is)) view tells =
      let one : answer ≡ other = cc in
      let there : server ≡ by = cc in
      subst (λ n. IsView now n view) (sym (ap (λ (s : ServerId). s.index) there ∙ by_is))
      (told_by_asking now reached who session asking other new asks_it view (subst (λ a. TellsWrite a view) one tells))

  -- what a Write that is held says that its server held, and that with the Write itself, are views of its server
  pub told_by_write : (now : Machine) → IsReached now → (place : ℕ) (made : Made) → Contains (now.servers place).held made
      → IsView now made.write.wid.origin.index made.write.deps × IsView now made.write.wid.origin.index (raised made.write.deps made.write.wid)
  told_by_write now reached place made has =
      let good = reached_servers now reached in
      let maker = made.write.wid.origin.index in
      let servers = now.servers in
      let stands = stands_behind count now.limit servers good made (home_of_held count now.limit servers good place made has) in
      let split : writes (servers maker).held ≡ made.past ++ made.write ∷ writes stands.after =
      ap writes stands.split ∙ map-append (λ (m : Made). m.write) stands.before (made ∷ stands.after) ∙ ap (λ list. list ++ made.write ∷ writes stands.after) (sym stands.past) in
      let longer : writes (servers maker).held ≡ (made.past ++ made.write ∷ []) ++ writes stands.after = split ∙ sym (append_assoc made.past (made.write ∷ []) (writes stands.after)) in
      let had = ((reached_told now reached).servers maker).had in
      let greater : max (slice_index (count_of made.past) maker) made.write.wid.seq ≡ slice_index (count_of made.past) maker + 1 = omega (arith, stands.fits.0.next) in
      let counts : raised made.write.deps made.write.wid ≡ count_of (made.past ++ made.write ∷ []) =
      ap (λ counts. raised counts made.write.wid) stands.deps ∙ ap (λ n. slice_set (count_of made.past) maker n) greater ∙ sym (count_of-push made.past made.write) in (
        record { database = made.past; had = had made.past (made.write ∷ writes stands.after, split); is = stands.deps },
        record { database = made.past ++ made.write ∷ []; had = had (made.past ++ made.write ∷ []) (writes stands.after, longer); is = counts },
      )

  -- of two views of a server the join is one of them
  pub join_on : (now : Machine) → IsReached now → (place : ℕ) (view other : List ℕ) → IsView now place view → IsView now place other → IsView now place (joined view other)
  join_on now reached place view other one two =
      let same : joined view other ≡ joined (count_of one.database) (count_of two.database) = ap (λ v. joined v other) one.is ∙ ap (joined (count_of one.database)) two.is in
      elim (joined_fronts (writes (now.servers place).held) one.database two.database (had_front now reached place one.database one.had) (had_front now reached place two.database two.had))
      as (λ _. IsView now place (joined view other)) [
        | inl first ↦ record { database = one.database; had = one.had; is = same ∙ first }
        | inr second ↦ record { database = two.database; had = two.had; is = same ∙ second }
      ]
