-- Frames of a stream in pieces.
use Rattle.std.proofs.Common.{◌≡◌, ℕ, zero, suc, ◌-◌, ◌≤◌, List, [], ◌∷◌, ◌++◌, length, take, drop, Option, None, Some, Result, Ok, Err, refl, sym, ap, subst, ◌∙◌, append_assoc, arith, inl, inr}
use Rattle.std.specs.Prelude.{◌⊎◌}
use Rattle.std.specs.List.{flat_map, AllByRecursion}
use Rattle.std.proofs.lemmas.List.{append-nil, take_all, drop_at, take-append-drop, length-append}
use Rattle.bayou_wire.specs.declared.fault.DecodeFault.{DecodeFault}
use Rattle.bayou_wire.specs.declared.fault.DecodeFault.TheVariants.{TooLong, BadKind, BadBody, Trailing}
use Rattle.bayou_wire.specs.declared.frame.Frame.{Frame}
use Rattle.bayou_wire.specs.declared.stream.FeedFault.{FeedFault}
use Rattle.bayou_wire.specs.declared.stream.FeedFault.TheVariants as feeds
use Rattle.bayou_wire.specs.Spelling.{IsFrame, frame_bytes, packed}
use Rattle.bayou_wire.specs.Stream.{HasLength, HasPackedFault, Packs, IsFaultAt, IsFaulty, IsPartial, IsRest, Splits, Holds, TakesIn, Fed, Feeds, IsLeft, stream_of, frames_given, bytes_fed}
use Rattle.bayou_wire.specs.Inner.Reading.{IsRestOf, IsTaken}
use Rattle.bayou_wire.specs.Laws.Inner.Fronts.{frame_begins_one, partial_not_faulty, whole_not_faulty, whole_not_partial}

-- ---- what is held back

partial_short : (rest : List ℕ) → IsPartial rest → length rest ≤ 8194
partial_short [] p = omega arith
partial_short (high ∷ []) p = omega arith
partial_short (high ∷ low ∷ more) p = omega (arith, p.0, p.1)

-- a front of bytes that is long enough has the fault that the bytes have
length_front : (bytes : List ℕ) (len : ℕ) → HasLength bytes len → HasLength (take 8194 bytes) len
length_front bytes len h = (h.0, (take 8192 h.1.0, ap (take 8194) h.1.1))

take_beyond : (front rest : List ℕ) (n : ℕ) → length front ≤ n → take n (front ++ rest) ≡ front ++ take (n - length front) rest
take_beyond [] rest n le = let e : n - 0 ≡ n = omega arith in rw e refl
take_beyond (x ∷ front) rest zero le = absurd (omega arith)
take_beyond (x ∷ front) rest (suc n) le =
    let e : suc n - length (x ∷ front) ≡ n - length front = omega arith in
    rw e (ap (λ s. x ∷ s) (take_beyond front rest n (omega arith)))

packs_front : (bytes : List ℕ) (kind : ℕ) (payload more : List ℕ) → Packs bytes kind payload more → Packs (take 8194 bytes) kind payload (take (8194 - length (packed kind payload)) more)
packs_front bytes kind payload more p =
    let within : length (packed kind payload) ≤ 8194 = omega (arith, p.short) in
    record { short = p.short; begins = ap (take 8194) p.begins ∙ take_beyond (packed kind payload) more 8194 within }

packed_fault_front : (bytes : List ℕ) (fault : DecodeFault) → HasPackedFault bytes fault → HasPackedFault (take 8194 bytes) fault
packed_fault_front bytes fault h = (h.0, h.1, take (8194 - length (packed h.0 h.1)) h.2, packs_front bytes h.0 h.1 h.2 h.3, h.4)

faulty_front : (bytes : List ℕ) (fault : DecodeFault) → IsFaulty bytes fault → IsFaulty (take 8194 bytes) fault
faulty_front bytes TooLong f = (f.0, f.1, length_front bytes f.0 f.2)
faulty_front bytes BadKind f = packed_fault_front bytes BadKind f
faulty_front bytes BadBody (inl none) = inl (length_front bytes 0 none)
faulty_front bytes BadBody (inr f) = inr (packed_fault_front bytes BadBody f)
faulty_front bytes Trailing f = packed_fault_front bytes Trailing f

holds : (rest : List ℕ) (fault : Option DecodeFault) → IsRestOf rest fault → IsRest rest × Holds rest (take 8194 rest)
holds rest None partial = (inl partial, inl (partial, take_all 8194 rest (partial_short rest partial)))
holds rest (Some fault) f = (inr (fault, f), inr (fault, faulty_front rest fault f, (drop 8194 rest, sym (take-append-drop 8194 rest))))

-- what stands in a frame's place in what is held back of a rest is what stands there in the rest
fault_held : (rest : List ℕ) (fault : Option DecodeFault) → IsRestOf rest fault → IsFaultAt (take 8194 rest) fault
fault_held rest None partial = λ fault. partial_not_faulty (take 8194 rest) fault (subst IsPartial (sym (take_all 8194 rest (partial_short rest partial))) partial)
fault_held rest (Some fault) f = faulty_front rest fault f

pub nothing_stands : IsFaultAt [] None
nothing_stands fault = partial_not_faulty [] fault tt

no_fault_first : (rest : List ℕ) (frames : List Frame) (fault : Option DecodeFault) → IsRestOf rest fault → (frames ≡ [] → fault ≡ None) → frames ≡ [] → IsPartial rest
no_fault_first rest frames fault is none nothing = subst (IsRestOf rest) (none nothing) is

taken_rest : (bytes : List ℕ) (frames : List Frame) (left : ℕ) (fault : Option DecodeFault) (t : IsTaken bytes frames left fault) → drop (length bytes - left) bytes ≡ t.rest
taken_rest bytes frames left fault t =
    let front : List ℕ = flat_map frame_bytes frames in
    let n : length front ≡ length bytes - left = omega (arith, ap length t.whole, length-append front t.rest, t.size) in
    ap (drop (length bytes - left)) t.whole ∙ drop_at front t.rest (length bytes - left) n

pub keeps-frames : (bytes : List ℕ) (frames : List Frame) (left : ℕ) (fault : Option DecodeFault) → IsTaken bytes frames left fault → (frames ≡ [] → fault ≡ None)
    → TakesIn bytes frames (take 8194 (drop (length bytes - left) bytes))
keeps-frames bytes frames left fault t none =
    let h = holds t.rest fault t.is in
    rw (taken_rest bytes frames left fault t) (record {
      left = t.rest;
      splits = record { whole = t.whole; each = t.each; rest = h.0 };
      holds = h.1;
      no_fault = no_fault_first t.rest frames fault t.is none;
    })

pub keeps-behind : (bytes : List ℕ) (frames : List Frame) (left : ℕ) (fault : Option DecodeFault) → IsTaken bytes frames left fault
    → IsFaultAt (take 8194 (drop (length bytes - left) bytes)) fault
keeps-behind bytes frames left fault t = rw (taken_rest bytes frames left fault t) (fault_held t.rest fault t.is)

pub keeps-fault : (bytes : List ℕ) (frames : List Frame) (left : ℕ) (fault : DecodeFault) → IsTaken bytes frames left (Some fault) → frames ≡ [] → IsFaulty bytes fault
keeps-fault bytes frames left fault t nothing =
    let e : bytes ≡ t.rest = t.whole ∙ ap (λ fs. stream_of fs t.rest) nothing in
    subst (λ (s : List ℕ). IsFaulty s fault) (sym e) t.is

pub taken_left : (bytes : List ℕ) (frames : List Frame) (left : ℕ) (fault : Option DecodeFault) → IsTaken bytes frames left fault → left ≤ length bytes
taken_left bytes frames left fault t = omega (arith, ap length t.whole, length-append (flat_map frame_bytes frames) t.rest, t.size)

-- ---- a fault stays, whatever follows

length_on : (bytes more : List ℕ) (len : ℕ) → HasLength bytes len → HasLength (bytes ++ more) len
length_on bytes more len h = (h.0, (h.1.0 ++ more, ap (λ s. s ++ more) h.1.1))

packed_fault_on : (bytes more : List ℕ) (fault : DecodeFault) → HasPackedFault bytes fault → HasPackedFault (bytes ++ more) fault
packed_fault_on bytes more fault h =
    let p : Packs (bytes ++ more) h.0 h.1 (h.2 ++ more) = record { short = h.3.short; begins = ap (λ s. s ++ more) h.3.begins ∙ append_assoc (packed h.0 h.1) h.2 more } in
    (h.0, h.1, h.2 ++ more, p, h.4)

pub faulty_on : (bytes more : List ℕ) (fault : DecodeFault) → IsFaulty bytes fault → IsFaulty (bytes ++ more) fault
faulty_on bytes more TooLong f = (f.0, f.1, length_on bytes more f.0 f.2)
faulty_on bytes more BadKind f = packed_fault_on bytes more BadKind f
faulty_on bytes more BadBody (inl none) = inl (length_on bytes more 0 none)
faulty_on bytes more BadBody (inr f) = inr (packed_fault_on bytes more BadBody f)
faulty_on bytes more Trailing f = packed_fault_on bytes more Trailing f

-- ---- frames taken one after another

pub frames_push : (frames : List Frame) (frame : Frame) (bytes rest behind : List ℕ) → bytes ≡ stream_of frames rest → rest ≡ frame_bytes frame ++ behind → bytes ≡ stream_of (frames ++ frame ∷ []) behind
frames_push [] frame bytes rest behind e next = e ∙ next ∙ ap (λ s. s ++ behind) (sym (append-nil (frame_bytes frame)))
frames_push (f ∷ frames) frame bytes rest behind e next =
    let tail : flat_map frame_bytes frames ++ rest ≡ stream_of (frames ++ frame ∷ []) behind = frames_push frames frame (flat_map frame_bytes frames ++ rest) rest behind refl next in
    e ∙ append_assoc (frame_bytes f) (flat_map frame_bytes frames) rest ∙ ap (λ s. frame_bytes f ++ s) tail ∙ sym (append_assoc (frame_bytes f) (flat_map frame_bytes (frames ++ frame ∷ [])) behind)

pub all_push : (frames : List Frame) (frame : Frame) → AllByRecursion IsFrame frames → IsFrame frame → AllByRecursion IsFrame (frames ++ frame ∷ [])
all_push [] frame all is = (is, tt)
all_push (f ∷ frames) frame all is = (all.0, all_push frames frame all.1 is)

-- ---- one reading of a stream

rest_is_no_frame : (rest : List ℕ) (frame : Frame) (behind : List ℕ) → IsFrame frame → rest ≡ frame_bytes frame ++ behind → IsRest rest → ⊥
rest_is_no_frame rest frame behind is e (inl partial) = whole_not_partial rest frame behind is e partial
rest_is_no_frame rest frame behind is e (inr fault) = whole_not_faulty rest frame behind fault.0 is e fault.1

pub same_reading : (frames others : List Frame) (stream rest left : List ℕ) → Splits stream frames rest → Splits stream others left → (frames ≡ others) × (rest ≡ left)
same_reading [] [] stream rest left a b = (refl, sym a.whole ∙ b.whole)
same_reading [] (g ∷ others) stream rest left a b =
    absurd (rest_is_no_frame rest g (stream_of others left) b.each.0 (sym a.whole ∙ b.whole ∙ append_assoc (frame_bytes g) (flat_map frame_bytes others) left) a.rest)
same_reading (f ∷ frames) [] stream rest left a b =
    absurd (rest_is_no_frame left f (stream_of frames rest) a.each.0 (sym b.whole ∙ a.whole ∙ append_assoc (frame_bytes f) (flat_map frame_bytes frames) rest) b.rest)
same_reading (f ∷ frames) (g ∷ others) stream rest left a b =
    let e : frame_bytes f ++ stream_of frames rest ≡ frame_bytes g ++ stream_of others left =
    sym (append_assoc (frame_bytes f) (flat_map frame_bytes frames) rest) ∙ sym a.whole ∙ b.whole ∙ append_assoc (frame_bytes g) (flat_map frame_bytes others) left in
    let first = frame_begins_one f g (stream_of frames rest) (stream_of others left) a.each.0 b.each.0 e in
    let x : Splits (stream_of frames rest) frames rest = record { whole = refl; each = a.each.1; rest = a.rest } in
    let y : Splits (stream_of frames rest) others left = record { whole = first.1; each = b.each.1; rest = b.rest } in
    let others_same = same_reading frames others (stream_of frames rest) rest left x y in
    (cons_same f g frames others first.0 others_same.0, others_same.1)
  where
    cons_same : (f g : Frame) (fs gs : List Frame) → f ≡ g → fs ≡ gs → f ∷ fs ≡ g ∷ gs
    cons_same f g fs gs p q = ap (λ x. x ∷ fs) p ∙ ap (λ xs. g ∷ xs) q

-- ---- calls one after another

frames_before : (frames others : List Frame) (stream behind rest : List ℕ) → AllByRecursion IsFrame frames → stream ≡ stream_of frames behind → Splits behind others rest → Splits stream (frames ++ others) rest
frames_before [] others stream behind rest all e s = record { whole = e ∙ s.whole; each = s.each; rest = s.rest }
frames_before (f ∷ frames) others stream behind rest all e s =
    let tail = frames_before frames others (stream_of frames behind) behind rest all.1 refl s in
    record {
      whole = e ∙ append_assoc (frame_bytes f) (flat_map frame_bytes frames) behind ∙ ap (λ t. frame_bytes f ++ t) tail.whole ∙ sym (append_assoc (frame_bytes f) (flat_map frame_bytes (frames ++ others)) rest);
      each = (all.0, tail.each);
      rest = tail.rest;
    }

-- what the calls from here on read: what is held back, and the pieces
abbrev ReadOn : List ℕ → List (List ℕ) → List (Result (List Frame) FeedFault) → Option (List ℕ) → Type 0
ReadOn held pieces answers new = (rest : List ℕ) × Splits (held ++ bytes_fed pieces answers) (frames_given answers) rest × IsLeft new rest

-- once a fault was told, no frame is given
none_feeds : (pieces : List (List ℕ)) (answers : List (Result (List Frame) FeedFault)) (new : Option (List ℕ)) → Feeds None pieces answers new → (frames_given answers ≡ []) × (new ≡ None)
none_feeds [] [] new f = (refl, f)
none_feeds [] (answer ∷ answers) new f = absurd f
none_feeds (piece ∷ pieces) [] new f = absurd f
none_feeds (piece ∷ pieces) (Ok frames ∷ answers) new f = absurd f.1
none_feeds (piece ∷ pieces) (Err (feeds.Fault fault) ∷ answers) new f = absurd f.1
none_feeds (piece ∷ pieces) (Err feeds.OutOfMemory ∷ answers) new f = absurd f.1
none_feeds (piece ∷ pieces) (Err feeds.Failed ∷ answers) new f = none_feeds pieces answers new (subst (λ (m : Option (List ℕ)). Feeds m pieces answers new) f.1 f.2)

no_frames_from_fault : (bytes : List ℕ) (fault : DecodeFault) (frames : List Frame) (now : List ℕ) → IsFaulty bytes fault → TakesIn bytes frames now → ⊥
no_frames_from_fault bytes fault [] now f t = partial_not_faulty t.left fault (t.no_fault refl) (subst (λ (s : List ℕ). IsFaulty s fault) t.splits.whole f)
no_frames_from_fault bytes fault (g ∷ frames) now f t =
    whole_not_faulty bytes g (stream_of frames t.left) fault t.splits.each.0 (t.splits.whole ∙ append_assoc (frame_bytes g) (flat_map frame_bytes frames) t.left) f

-- where a fault is held back, no frame is given
faulty_feeds : (held : List ℕ) (fault : DecodeFault) (pieces : List (List ℕ)) (answers : List (Result (List Frame) FeedFault)) (new : Option (List ℕ)) → IsFaulty held fault → Feeds (Some held) pieces answers new
    → (frames_given answers ≡ []) × (((new ≡ Some held) × (bytes_fed pieces answers ≡ [])) ⊎ (new ≡ None))
faulty_feeds held fault [] [] new is f = (refl, inl (f, refl))
faulty_feeds held fault [] (answer ∷ answers) new is f = absurd f
faulty_feeds held fault (piece ∷ pieces) [] new is f = absurd f
faulty_feeds held fault (piece ∷ pieces) (Ok frames ∷ answers) new is f = absurd (impossible f.0 f.1)
  where
    impossible : (middle : Option (List ℕ)) → Fed (Some held) piece (Ok frames) middle → ⊥
    impossible None t = t
    impossible (Some now) t = no_frames_from_fault (held ++ piece) fault frames now (faulty_on held piece fault is) t
faulty_feeds held fault (piece ∷ pieces) (Err (feeds.Fault other) ∷ answers) new is f =
    let rest = none_feeds pieces answers new (after f.0 f.1 f.2) in
    (rest.0, inr rest.1)
  where
    after : (middle : Option (List ℕ)) → Fed (Some held) piece (Err (feeds.Fault other)) middle → Feeds middle pieces answers new → Feeds None pieces answers new
    after None t g = g
    after (Some now) t g = absurd t
faulty_feeds held fault (piece ∷ pieces) (Err feeds.OutOfMemory ∷ answers) new is f = absurd (f.1.1 fault is)
faulty_feeds held fault (piece ∷ pieces) (Err feeds.Failed ∷ answers) new is f = absurd f.1

held_rest : (rest held : List ℕ) → Holds rest held → IsRest held
held_rest rest held (inl h) = inl (subst IsPartial (sym h.1) h.0)
held_rest rest held (inr h) = inr (h.0, h.1)

holds_itself : (held : List ℕ) → IsRest held → Holds held held
holds_itself held (inl partial) = inl (partial, refl)
holds_itself held (inr f) = inr (f.0, f.1, ([], sym (append-nil held)))

-- the calls go on behind frames that were given, and a rest that is held back
after_frames : (held piece : List ℕ) (frames : List Frame) (now : List ℕ) (pieces : List (List ℕ)) (answers : List (Result (List Frame) FeedFault)) (new : Option (List ℕ))
    → (t : TakesIn (held ++ piece) frames now) → Feeds (Some now) pieces answers new → ReadOn now pieces answers new
    → (rest : List ℕ) × Splits (held ++ (piece ++ bytes_fed pieces answers)) (frames ++ frames_given answers) rest × IsLeft new rest
after_frames held piece frames now pieces answers new t f read =
    let fed : List ℕ = bytes_fed pieces answers in
    let whole : held ++ (piece ++ fed) ≡ stream_of frames (t.left ++ fed) =
    sym (append_assoc held piece fed) ∙ ap (λ s. s ++ fed) t.splits.whole ∙ append_assoc (flat_map frame_bytes frames) t.left fed in
    elim t.holds [
      | inl h ↦
          let same : Splits (t.left ++ fed) (frames_given answers) read.0 = subst (λ (s : List ℕ). Splits (s ++ fed) (frames_given answers) read.0) h.1 read.1 in
          (read.0, frames_before frames (frames_given answers) (held ++ (piece ++ fed)) (t.left ++ fed) read.0 t.splits.each whole same, read.2)
      | inr h ↦
          let stuck = faulty_feeds now h.0 pieces answers new h.1 f in
          let left_faulty : IsFaulty (t.left ++ fed) h.0 = faulty_on t.left fed h.0 (subst (λ (s : List ℕ). IsFaulty s h.0) (sym h.2.1) (faulty_on now h.2.0 h.0 h.1)) in
          let nothing : Splits (t.left ++ fed) [] (t.left ++ fed) = record { whole = refl; each = tt; rest = inr (h.0, left_faulty) } in
          let same : Splits (t.left ++ fed) (frames_given answers) (t.left ++ fed) = subst (λ (fs : List Frame). Splits (t.left ++ fed) fs (t.left ++ fed)) (sym stuck.0) nothing in
          let left : IsLeft new (t.left ++ fed) = elim stuck.1 [
            | inl stays ↦ subst (λ (o : Option (List ℕ)). IsLeft o (t.left ++ fed)) (sym stays.0) (inr (h.0, h.1, (h.2.0, ap (λ s. t.left ++ s) stays.1 ∙ append-nil t.left ∙ h.2.1)))
            | inr told ↦ subst (λ (o : Option (List ℕ)). IsLeft o (t.left ++ fed)) (sym told) (h.0, left_faulty)
          ] in
          (t.left ++ fed, frames_before frames (frames_given answers) (held ++ (piece ++ fed)) (t.left ++ fed) (t.left ++ fed) t.splits.each whole same, left)
    ]

takes_rest : (bytes : List ℕ) (frames : List Frame) (now : List ℕ) → TakesIn bytes frames now → IsRest now
takes_rest bytes frames now t = held_rest t.left now t.holds

feeds_on : (held : List ℕ) (pieces : List (List ℕ)) (answers : List (Result (List Frame) FeedFault)) (new : Option (List ℕ)) → IsRest held → Feeds (Some held) pieces answers new → ReadOn held pieces answers new
feeds_on held [] [] new is f =
    let e : held ++ [] ≡ held = append-nil held in
    (held, record { whole = e; each = tt; rest = is }, subst (λ (o : Option (List ℕ)). IsLeft o held) (sym f) (holds_itself held is))
feeds_on held [] (answer ∷ answers) new is f = absurd f
feeds_on held (piece ∷ pieces) [] new is f = absurd f
feeds_on held (piece ∷ pieces) (Ok frames ∷ answers) new is f =
    given (λ now rest g. feeds_on now pieces answers new rest g) f.0 f.1 f.2
  where
    given : ((now : List ℕ) → IsRest now → Feeds (Some now) pieces answers new → ReadOn now pieces answers new)
        → (middle : Option (List ℕ)) → Fed (Some held) piece (Ok frames) middle → Feeds middle pieces answers new
        → (rest : List ℕ) × Splits (held ++ (piece ++ bytes_fed pieces answers)) (frames ++ frames_given answers) rest × IsLeft new rest
    given on None t g = absurd t
    given on (Some now) t g = after_frames held piece frames now pieces answers new t g (on now (takes_rest (held ++ piece) frames now t) g)
feeds_on held (piece ∷ pieces) (Err (feeds.Fault fault) ∷ answers) new is f = told f.0 f.1 f.2
  where
    told : (middle : Option (List ℕ)) → Fed (Some held) piece (Err (feeds.Fault fault)) middle → Feeds middle pieces answers new
        → (rest : List ℕ) × Splits (held ++ piece) (frames_given answers) rest × IsLeft new rest
    told (Some now) t g = absurd t
    told None t g =
        let after = none_feeds pieces answers new g in
        let nothing : Splits (held ++ piece) [] (held ++ piece) = record { whole = refl; each = tt; rest = inr (fault, t) } in
        (held ++ piece, subst (λ (fs : List Frame). Splits (held ++ piece) fs (held ++ piece)) (sym after.0) nothing, subst (λ (o : Option (List ℕ)). IsLeft o (held ++ piece)) (sym after.1) (fault, t))
feeds_on held (piece ∷ pieces) (Err feeds.OutOfMemory ∷ answers) new is f =
    feeds_on held pieces answers new is (subst (λ (o : Option (List ℕ)). Feeds o pieces answers new) f.1.0 f.2)
feeds_on held (piece ∷ pieces) (Err feeds.Failed ∷ answers) new is f = absurd f.1

pub feeds_from_start : (pieces : List (List ℕ)) (answers : List (Result (List Frame) FeedFault)) (new : Option (List ℕ)) → Feeds (Some []) pieces answers new
    → (rest : List ℕ) × Splits (bytes_fed pieces answers) (frames_given answers) rest × IsLeft new rest
feeds_from_start pieces answers new f = feeds_on [] pieces answers new (inl tt) f
