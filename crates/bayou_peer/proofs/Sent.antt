-- What a pull makes of Writes that are sent to it: its bytes are read in one way.
use Rattle.std.proofs.Common.{◌≡◌, ◌≢◌, ◌⊎◌, inl, inr, ℕ, ◌+◌, ◌<◌, ◌≤◌, ◌^◌, zero, suc, List, [], ◌∷◌, ◌++◌, Option, None, Some, Result, Ok, Err, IfErr, true, false, cond, nat_le, length, take, refl, sym, ap, ◌∙◌, subst, arith, append_assoc, append-nil, length-append}
use Rattle.std.proofs.lemmas.Bool.Decides.{nat_tests}
use Rattle.std.proofs.lemmas.List.{length-take, take_all}
use Rattle.std.specs.List.{AllByRecursion}
use Rattle.bayou_base.specs.declared.wid.Wid.{Wid}
use Rattle.bayou_lang.specs.declared.write.Write.{Write}
use Rattle.bayou_lang.specs.Ranges.{IsWrite}
use Rattle.bayou_frames.specs.declared.fault.ChannelFault.TheVariants as faults
use Rattle.bayou_peer.specs.declared.fault.PullFault.{PullFault}
use Rattle.bayou_peer.specs.declared.fault.PullFault.TheVariants.{Stream, Refused}
use Rattle.bayou_peer.specs.declared.pulling.PullStopped.{PullStopped}
use Rattle.bayou_peer.specs.declared.pulling.Pulled.{Pulled}
use Rattle.bayou_peer.specs.Meeting.{IsCutOff, Meets, MeetsStopped, TakesFirst, coming, cut_answer}
use Rattle.bayou_peer.specs.Pulls.{EndsInMemory, EndsOf, HasNoPlace, PullEnds, PullStops, Received, Ways}
use Rattle.bayou_wire.specs.Laws.Frames.{begins_one, faulty_on, not_faulty, not_partial, partial_not_faulty}
use Rattle.bayou_frames.specs.Spelled.{answer_bytes, items_of}
use Rattle.bayou_wire.specs.declared.fault.DecodeFault.{DecodeFault}
use Rattle.bayou_wire.specs.declared.frame.Frame.{Frame}
use Rattle.bayou_wire.specs.declared.frame.Frame.TheVariants.{Item, End}
use Rattle.bayou_wire.specs.Spelling.{IsFrame}
use Rattle.bayou_wire.specs.Stream.{IsFaulty, IsPartial, spelling, spellings}

-- ---- frames

whole_is_some : (frame : Frame) (behind : List ℕ) → IsFrame frame → spelling frame ++ behind ≡ [] → ⊥
whole_is_some frame behind is none = not_partial [] frame behind is (sym none) tt

item_is_no_end : (write : Write) (number : ℕ) → Item write ≡ End number → ⊥
item_is_no_end write number same = cc

one_number : (one other : ℕ) → End one ≡ End other → one ≡ other
one_number one other same = cc

one_write : (one other : Write) → Item one ≡ Item other → one ≡ other
one_write one other same = cc

-- ---- Items

-- no Item stands there
abbrev NoItem : List ℕ → Type 0
NoItem tail = (write : Write) (more : List ℕ) → IsWrite write → spelling (Item write) ++ more ≡ tail → ⊥

-- what begins with Items, and is Items and no more of them, begins with the first of those
record Begins (given sent : List Write) (behind tail : List ℕ) : Type 0 where
  pub left : List Write
  pub split : sent ≡ given ++ left
  pub rest : behind ≡ spellings (items_of left) ++ tail
  pub each : AllByRecursion IsWrite left

begins : (given sent : List Write) (behind tail : List ℕ) → AllByRecursion IsWrite given → AllByRecursion IsWrite sent → NoItem tail
    → spellings (items_of given) ++ behind ≡ spellings (items_of sent) ++ tail → Begins given sent behind tail
begins [] sent behind tail each all none same = record { left = sent; split = refl; rest = same; each = all }
begins (write ∷ given) [] behind tail each all none same =
    absurd (none write (spellings (items_of given) ++ behind) each.0 (sym (append_assoc (spelling (Item write)) (spellings (items_of given)) behind) ∙ same))
begins (write ∷ given) (next ∷ sent) behind tail each all none same =
    let apart = begins_one (Item write) (Item next) (spellings (items_of given) ++ behind) (spellings (items_of sent) ++ tail) each.0 all.0
    (sym (append_assoc (spelling (Item write)) (spellings (items_of given)) behind) ∙ same ∙ append_assoc (spelling (Item next)) (spellings (items_of sent)) tail) in
    let rest = begins given sent behind tail each.1 all.1 none apart.1 in
    record {
      left = rest.left;
      split = ap (λ l. next ∷ l) rest.split ∙ ap (λ (w : Write). w ∷ (given ++ rest.left)) (sym (one_write write next apart.0));
      rest = rest.rest;
      each = rest.each;
    }

-- ---- what is sent

AllByRecursion-take : (n : ℕ) (writes : List Write) → AllByRecursion IsWrite writes → AllByRecursion IsWrite (take n writes)
AllByRecursion-take zero writes each = tt
AllByRecursion-take (suc n) [] each = tt
AllByRecursion-take (suc n) (write ∷ writes) each = (each.0, AllByRecursion-take n writes each.1)

each_comes : (cut : Option ℕ) (sent : List Write) → AllByRecursion IsWrite sent → AllByRecursion IsWrite (coming cut sent)
each_comes None sent each = each
each_comes (Some items) sent each = AllByRecursion-take items sent each

length-coming : (cut : Option ℕ) (sent : List Write) → length (coming cut sent) ≤ length sent
length-coming None sent = omega arith
length-coming (Some items) sent = omega (arith, length-take items sent)

-- the answer are the Items that come, and then nothing where it is cut, or the End
record Tails (cut : Option ℕ) (sent : List Write) (tail : List ℕ) : Type 0 where
  pub whole : cut_answer cut sent ≡ spellings (items_of (coming cut sent)) ++ tail
  pub which : (IsCutOff cut sent × (tail ≡ [])) ⊎ ((¬ (IsCutOff cut sent)) × (coming cut sent ≡ sent) × (tail ≡ spelling (End (length sent))))

tails_some : (items : ℕ) (sent : List Write) → (tail : List ℕ) × Tails (Some items) sent tail
tails_some items sent =
    elim (nat_le items (length sent)) as (λ t. nat_le items (length sent) ≡ t → (tail : List ℕ) × Tails (Some items) sent tail) [
      | true ↦ λ is. (
        [],
        record {
          whole = ap (λ t. cond t (spellings (items_of (take items sent))) (answer_bytes sent)) is ∙ sym (append-nil (spellings (items_of (take items sent))));
          which = inl (grind (arith, nat_tests, is), refl);
        },
      )
      | false ↦ λ isnt.
          let more : length sent < items = grind (arith, nat_tests, isnt) in
          let all : take items sent ≡ sent = take_all items sent (omega (arith, more)) in (
            spelling (End (length sent)),
            record {
              whole = ap (λ t. cond t (spellings (items_of (take items sent))) (answer_bytes sent)) isnt
                  ∙ ap (λ (l : List Write). spellings (items_of l) ++ spelling (End (length sent))) (sym all);
              which = inr (λ within. omega (arith, more, within), all, refl);
            },
          )
    ] refl

tails : (cut : Option ℕ) (sent : List Write) → (tail : List ℕ) × Tails cut sent tail
tails None sent = (spelling (End (length sent)), record { whole = refl; which = inr (λ none. none, refl, refl) })
tails (Some items) sent = tails_some items sent

tail_is_no_item : (cut : Option ℕ) (sent : List Write) (tail : List ℕ) → length sent < 2 ^ 32 → Tails cut sent tail → NoItem tail
tail_is_no_item cut sent tail few t write more is same = elim t.which [
  | inl cut_off ↦ whole_is_some (Item write) more is (same ∙ cut_off.1)
  | inr ends ↦
      let apart = begins_one (Item write) (End (length sent)) more [] is few (same ∙ ends.2 ∙ sym (append-nil (spelling (End (length sent))))) in
      item_is_no_end write (length sent) apart.0
]

-- ---- what is received of it

module _ {S : Type 0} (ways : Ways S) (cut : Option ℕ) (sent : List Write) (few : length sent < 2 ^ 32) (each : AllByRecursion IsWrite sent) (tail : List ℕ) (t : Tails cut sent tail) (start : S) where
  -- the Items that were taken are the first that come
  record Front (now : S) (rest : List ℕ) (taken had : ℕ) : Type 0 where
    pub left : List Write
    pub first : TakesFirst ways (coming cut sent) start now taken had left
    pub behind : rest ≡ spellings (items_of left) ++ tail
    pub valid : AllByRecursion IsWrite left
    pub number : taken + had + length left ≡ length (coming cut sent)

  front : (now : S) (read rest after : List ℕ) (taken had : ℕ) → cut_answer cut sent ≡ read ++ after → Received ways start now read rest taken had
      → Front now (rest ++ after) taken had
  front now read rest after taken had whole r =
      let same : spellings (items_of r.writes) ++ (rest ++ after) ≡ spellings (items_of (coming cut sent)) ++ tail =
      sym (append_assoc (spellings (items_of r.writes)) rest after) ∙ ap (λ l. l ++ after) (sym r.whole) ∙ sym whole ∙ t.whole in
      let b = begins r.writes (coming cut sent) (rest ++ after) tail r.each (each_comes cut sent each) (tail_is_no_item cut sent tail few t) same in
      record {
        left = b.left;
        first = record { given = r.writes; tooks = r.tooks; split = b.split; took = r.took; new = r.new; held = r.held };
        behind = b.rest;
        valid = b.each;
        number = omega (arith, r.number, ap length b.split, length-append r.writes b.left);
      }

  -- nothing is left, and no End comes
  abbrev IsCut : (now : S) → ℕ → ℕ → Type 0
  IsCut now taken had = IsCutOff cut sent × TakesFirst ways (coming cut sent) start now taken had []

  less_than_a_frame : (now : S) (rest : List ℕ) (taken had : ℕ) → IsPartial rest → Front now rest taken had → IsCut now taken had
  less_than_a_frame now rest taken had partial f = elim f.left as (λ left. f.left ≡ left → IsCut now taken had) [
    | [] ↦ λ is.
        let none : rest ≡ tail = f.behind ∙ ap (λ (l : List Write). spellings (items_of l) ++ tail) is in
        elim t.which [
          | inl cut_off ↦ (cut_off.0, subst (λ (l : List Write). TakesFirst ways (coming cut sent) start now taken had l) is f.first)
          | inr ends ↦ absurd (not_partial rest (End (length sent)) [] few (none ∙ ends.2 ∙ sym (append-nil (spelling (End (length sent))))) partial)
        ]
    | write ∷ left ↦ λ is.
        let valid = subst (AllByRecursion IsWrite) is f.valid in
        absurd (not_partial rest (Item write) (spellings (items_of left) ++ tail) valid.0
        (f.behind ∙ ap (λ (l : List Write). spellings (items_of l) ++ tail) is ∙ append_assoc (spelling (Item write)) (spellings (items_of left)) tail) partial)
  ] refl

  -- an Item comes where one is left
  an_item : (now : S) (write : Write) (behind : List ℕ) (taken had : ℕ) → IsWrite write → Front now (spelling (Item write) ++ behind) taken had
      → (left : List Write) × TakesFirst ways (coming cut sent) start now taken had (write ∷ left)
  an_item now write behind taken had is f = elim f.left as (λ left. f.left ≡ left → (left : List Write) × TakesFirst ways (coming cut sent) start now taken had (write ∷ left)) [
    | [] ↦ λ none.
        absurd (tail_is_no_item cut sent tail few t write behind is (f.behind ∙ ap (λ (l : List Write). spellings (items_of l) ++ tail) none))
    | next ∷ left ↦ λ some.
        let valid = subst (AllByRecursion IsWrite) some f.valid in
        let apart = begins_one (Item write) (Item next) behind (spellings (items_of left) ++ tail) is valid.0
        (f.behind ∙ ap (λ (l : List Write). spellings (items_of l) ++ tail) some ∙ append_assoc (spelling (Item next)) (spellings (items_of left)) tail) in (
          left,
          subst (λ (l : List Write). TakesFirst ways (coming cut sent) start now taken had l)
              (some ∙ ap (λ (w : Write). w ∷ left) (sym (one_write write next apart.0))) f.first,
        )
  ] refl

  -- an End comes where none is left
  abbrev IsEnded : (now : S) → ℕ → ℕ → Type 0
  IsEnded now taken had = (¬ (IsCutOff cut sent)) × TakesFirst ways (coming cut sent) start now taken had []

  an_end : (now : S) (number : ℕ) (behind : List ℕ) (taken had : ℕ) → number < 2 ^ 32 → Front now (spelling (End number) ++ behind) taken had
      → IsEnded now taken had × (number ≡ length sent)
  an_end now number behind taken had within f = elim f.left as (λ left. f.left ≡ left → IsEnded now taken had × (number ≡ length sent)) [
    | [] ↦ λ none.
        let at_tail : spelling (End number) ++ behind ≡ tail = f.behind ∙ ap (λ (l : List Write). spellings (items_of l) ++ tail) none in
        elim t.which [
          | inl cut_off ↦ absurd (whole_is_some (End number) behind within (at_tail ∙ cut_off.1))
          | inr ends ↦
              let apart = begins_one (End number) (End (length sent)) behind [] within few (at_tail ∙ ends.2 ∙ sym (append-nil (spelling (End (length sent))))) in
              ((ends.0, subst (λ (l : List Write). TakesFirst ways (coming cut sent) start now taken had l) none f.first), one_number number (length sent) apart.0)
        ]
    | next ∷ left ↦ λ some.
        let valid = subst (AllByRecursion IsWrite) some f.valid in
        let apart = begins_one (End number) (Item next) behind (spellings (items_of left) ++ tail) within valid.0
        (f.behind ∙ ap (λ (l : List Write). spellings (items_of l) ++ tail) some ∙ append_assoc (spelling (Item next)) (spellings (items_of left)) tail) in
        absurd (item_is_no_end next number (sym apart.0))
  ] refl

  no_fault : (now : S) (rest : List ℕ) (fault : DecodeFault) (taken had : ℕ) → IsFaulty rest fault → Front now rest taken had → ⊥
  no_fault now rest fault taken had faulty f = elim f.left as (λ left. f.left ≡ left → ⊥) [
    | [] ↦ λ none.
        let at_tail : rest ≡ tail = f.behind ∙ ap (λ (l : List Write). spellings (items_of l) ++ tail) none in
        elim t.which [
          | inl cut_off ↦ partial_not_faulty [] fault tt (subst (λ (l : List ℕ). IsFaulty l fault) (at_tail ∙ cut_off.1) faulty)
          | inr ends ↦ not_faulty rest (End (length sent)) [] fault few (at_tail ∙ ends.2 ∙ sym (append-nil (spelling (End (length sent))))) faulty
        ]
    | next ∷ left ↦ λ some.
        let valid = subst (AllByRecursion IsWrite) some f.valid in
        not_faulty rest (Item next) (spellings (items_of left) ++ tail) fault valid.0
        (f.behind ∙ ap (λ (l : List Write). spellings (items_of l) ++ tail) some ∙ append_assoc (spelling (Item next)) (spellings (items_of left)) tail) faulty
  ] refl

  -- a frame that has no place doesn't come
  has_place : (now : S) (frame : Frame) (behind : List ℕ) (taken had : ℕ) → IsFrame frame → HasNoPlace (taken + had) frame → Front now (spelling frame ++ behind) taken had → ⊥
  has_place now frame behind taken had is none f = elim f.left as (λ left. f.left ≡ left → ⊥) [
    | [] ↦ λ nothing.
        let at_tail : spelling frame ++ behind ≡ tail = f.behind ∙ ap (λ (l : List Write). spellings (items_of l) ++ tail) nothing in
        elim t.which [
          | inl cut_off ↦ whole_is_some frame behind is (at_tail ∙ cut_off.1)
          | inr ends ↦
              let apart = begins_one frame (End (length sent)) behind [] is few (at_tail ∙ ends.2 ∙ sym (append-nil (spelling (End (length sent))))) in
              let other : length sent ≢ taken + had = subst (HasNoPlace (taken + had)) apart.0 none in
              other (omega (arith, f.number, ap length nothing, ap length ends.1))
        ]
    | next ∷ left ↦ λ some.
        let valid = subst (AllByRecursion IsWrite) some f.valid in
        let apart = begins_one frame (Item next) behind (spellings (items_of left) ++ tail) is valid.0
        (f.behind ∙ ap (λ (l : List Write). spellings (items_of l) ++ tail) some ∙ append_assoc (spelling (Item next)) (spellings (items_of left)) tail) in
        subst (HasNoPlace (taken + had)) apart.0 none
  ] refl

  -- how a pull of it ends early
  stops_now : (now : S) (read after : List ℕ) (before : Pulled) (name : Option Wid) (fault : PullFault) → cut_answer cut sent ≡ read ++ after → PullStops ways start now read (after ≡ []) before name fault
      → EndsInMemory fault → MeetsStopped ways sent cut start before fault now
  stops_now now read after before name (Refused refusal) whole (mid, write, behind, is, r, refused, same, named) in_memory =
      let f = front mid read _ after before.taken before.had whole r in
      let item = an_item mid write (behind ++ after) before.taken before.had is
      (subst (λ (l : List ℕ). Front mid l before.taken before.had) (append_assoc (spelling (Item write)) behind after) f) in
      (mid, write, item.0, item.1, refused)
  stops_now now read after before name (Stream faults.Cut) whole (ended, (rest, partial, r), unnamed) in_memory =
      let f = front now read rest after before.taken before.had whole r in
      let at_end : rest ++ after ≡ rest = ap (λ (l : List ℕ). rest ++ l) ended ∙ append-nil rest in
      let less = less_than_a_frame now rest before.taken before.had partial (subst (λ (l : List ℕ). Front now l before.taken before.had) at_end f) in
      (less.0, less.1)
  stops_now now read after before name (Stream faults.Read) whole ends in_memory = absurd in_memory
  stops_now now read after before name (Stream faults.TooManyTurns) whole ends in_memory = absurd in_memory
  stops_now now read after before name (Stream faults.OutOfMemory) whole (rest, r, unnamed) in_memory =
      let f = front now read rest after before.taken before.had whole r in (f.left, f.first)
  stops_now now read after before name (Stream faults.Write) whole ends in_memory = absurd in_memory
  stops_now now read after before name (Stream faults.BadFrame) whole (rest, inl bad, r, unnamed) in_memory =
      let f = front now read rest after before.taken before.had whole r in
      no_fault now (rest ++ after) bad.0 before.taken before.had (faulty_on rest after bad.0 bad.1) f
  stops_now now read after before name (Stream faults.BadFrame) whole (rest, inr bad, r, unnamed) in_memory =
      let f = front now read rest after before.taken before.had whole r in
      let same : rest ++ after ≡ spelling bad.0 ++ (bad.1 ++ after) = ap (λ l. l ++ after) bad.3 ∙ append_assoc (spelling bad.0) bad.1 after in
      has_place now bad.0 (bad.1 ++ after) before.taken before.had bad.2 bad.4 (subst (λ (l : List ℕ). Front now l before.taken before.had) same f)

  -- how a pull of it ends
  meets_now : (now : S) (read after : List ℕ) (result : Result Pulled PullStopped) → cut_answer cut sent ≡ read ++ after → PullEnds ways start now read (after ≡ []) result
      → IfErr result (λ stopped. EndsInMemory stopped.fault) → Meets ways sent cut start result now
  meets_now now read after (Ok pulled) whole (behind, r) in_memory =
      let f = front now read _ after pulled.taken pulled.had whole r in
      let few_taken : pulled.taken + pulled.had < 2 ^ 32 = omega (arith, few, f.number, length-coming cut sent) in
      (an_end now (pulled.taken + pulled.had) (behind ++ after) pulled.taken pulled.had few_taken
      (subst (λ (l : List ℕ). Front now l pulled.taken pulled.had) (append_assoc (spelling (End (pulled.taken + pulled.had))) behind after) f)).0
  meets_now now read after (Err stopped) whole ends in_memory = stops_now now read after stopped.before stopped.refused stopped.fault whole ends in_memory

-- How a pull ends whose input is the answer of these Writes, cut or not.
pub meets : {S : Type 0} (ways : Ways S) (sent : List Write) (cut : Option ℕ) (start now : S) (result : Result Pulled PullStopped)
    → AllByRecursion IsWrite sent → length sent < 2 ^ 32 → EndsOf ways start now (cut_answer cut sent) result → IfErr result (λ stopped. EndsInMemory stopped.fault)
    → Meets ways sent cut start result now
meets ways sent cut start now result each few (read, after, whole, ends) in_memory =
    let (tail, t) = tails cut sent in
    meets_now ways cut sent few each tail t start now read after result whole ends in_memory
