-- What the first frame of an answer tells of Writes that a server lost.
use Rattle.std.proofs.Common.{◌≡◌, ◌≢◌, inl, inr, ℕ, ◌<◌, Bool, true, false, List, [], ◌∷◌, ◌++◌, All, Any, Contains, Result, Ok, Err, IfErr, length, refl, sym, ap, ◌∙◌, subst, arith, append_assoc, append-nil}
use Rattle.std.proofs.lemmas.List.Elements.{All-contains_itself, All-filter, All-head}
use Rattle.bayou_base.specs.declared.limits.TheConstants.{SERVERS}
use Rattle.bayou_frames.specs.declared.fault.ChannelFault.{ChannelFault}
use Rattle.bayou_frames.specs.declared.fault.ChannelFault.TheVariants as faults
use Rattle.bayou_frames.specs.First.{BeginsWith, FrameRead}
use Rattle.bayou_frames.specs.Spelled.{answer_bytes, items_of}
use Rattle.bayou_frames.specs.Stopping.{IsSendFault}
use Rattle.bayou_lang.specs.declared.write.Write.{Write}
use Rattle.bayou_lang.specs.Laws.SetOfWrites.{All-in_stamp_order}
use Rattle.bayou_lang.specs.Ranges.{IsWrite}
use Rattle.bayou_lang.specs.Writes.{in_stamp_order, lacking_of}
use Rattle.bayou_peer.proofs.Beyond.{asked_each, asked_own}
use Rattle.bayou_peer.specs.Losing.{IsBeyond, IsNoAnswer, LossRead, all_but}
use Rattle.bayou_wire.specs.declared.frame.Frame.{Frame}
use Rattle.bayou_wire.specs.declared.frame.Frame.TheVariants.{End, Item}
use Rattle.bayou_wire.specs.Laws.Frames.{begins_one, faulty_on, not_faulty, not_partial}
use Rattle.bayou_wire.specs.Spelling.{IsFrame}
use Rattle.bayou_wire.specs.Stream.{IsPartial, spelling, spellings}

-- ---- how a look ends

pub sending_ends : (server own : ℕ) (is_end : Type 0) (fault : ChannelFault) → IsSendFault fault → LossRead server own [] is_end (Err fault)
sending_ends server own is_end faults.Read is = absurd is
sending_ends server own is_end faults.TooManyTurns is = tt
sending_ends server own is_end faults.Write is = refl
sending_ends server own is_end faults.Cut is = absurd is
sending_ends server own is_end faults.BadFrame is = absurd is
sending_ends server own is_end faults.OutOfMemory is = tt

pub reading_ends : (server own : ℕ) (read : List ℕ) (is_end : Type 0) (fault : ChannelFault) → FrameRead read is_end (Err fault) → LossRead server own read is_end (Err fault)
reading_ends server own read is_end faults.Read e = e
reading_ends server own read is_end faults.TooManyTurns e = e
reading_ends server own read is_end faults.Write e = absurd e
reading_ends server own read is_end faults.Cut e = e
reading_ends server own read is_end faults.BadFrame e = inl e
reading_ends server own read is_end faults.OutOfMemory e = tt

pub frame_ends : (server own : ℕ) (read : List ℕ) (is_end : Type 0) (frame : Frame) (result : Result Bool ChannelFault) → BeginsWith read frame
    → (result ≡ Ok true → (write : Write) × IsBeyond server own write × (frame ≡ Item write))
    → (result ≡ Ok false → frame ≡ End 0)
    → IfErr result (λ fault. (fault ≡ faults.BadFrame) × (frame ≢ End 0) × ((write : Write) → IsBeyond server own write → frame ≢ Item write))
    → LossRead server own read is_end result
frame_ends server own read is_end frame (Ok true) begins lost kept bad = let (write, beyond, is) = lost refl in (write, beyond, subst (BeginsWith read) is begins)
frame_ends server own read is_end frame (Ok false) begins lost kept bad = subst (BeginsWith read) (kept refl) begins
frame_ends server own read is_end frame (Err faults.BadFrame) begins lost kept bad = inr (frame, begins, bad.1, bad.2)
frame_ends server own read is_end frame (Err faults.Read) begins lost kept bad = absurd (let same = bad.0 in cc)
frame_ends server own read is_end frame (Err faults.Write) begins lost kept bad = absurd (let same = bad.0 in cc)
frame_ends server own read is_end frame (Err faults.Cut) begins lost kept bad = absurd (let same = bad.0 in cc)
frame_ends server own read is_end frame (Err faults.TooManyTurns) begins lost kept bad = absurd (let same = bad.0 in cc)
frame_ends server own read is_end frame (Err faults.OutOfMemory) begins lost kept bad = absurd (let same = bad.0 in cc)

-- ---- an honest answer

-- what is asked for is held, and has a spelling
asked_held : (counts : List ℕ) (held : List Write) → All (Contains held) (lacking_of counts held)
asked_held counts held = All-filter _ (Contains held) (in_stamp_order held) (All-in_stamp_order (Contains held) held (All-contains_itself held))

asked_valid : (counts : List ℕ) (held : List Write) → All IsWrite held → All IsWrite (lacking_of counts held)
asked_valid counts held each = All-filter _ IsWrite (in_stamp_order held) (All-in_stamp_order IsWrite held each)

-- the frame that an answer begins with: the Item of its first Write, or an End of none
abbrev first_of : List Write → Frame
first_of [] = End 0
first_of (write ∷ writes) = Item write

-- and what is behind it
abbrev rest_of : List Write → List ℕ
rest_of [] = []
rest_of (write ∷ writes) = spellings (items_of writes) ++ spelling (End (length (write ∷ writes)))

first_is : (writes : List Write) → answer_bytes writes ≡ spelling (first_of writes) ++ rest_of writes
first_is [] = sym (append-nil (spelling (End 0)))
first_is (write ∷ writes) = append_assoc (spelling (Item write)) (spellings (items_of writes)) (spelling (End (length (write ∷ writes))))

first_valid : (writes : List Write) → All IsWrite writes → IsFrame (first_of writes)
first_valid [] each = omega arith
first_valid (write ∷ writes) each = All-head IsWrite write writes each

-- a frame that a front of the answer begins with is that one
one_first : (writes : List Write) (read left : List ℕ) (frame : Frame) → All IsWrite writes → answer_bytes writes ≡ read ++ left → BeginsWith read frame → frame ≡ first_of writes
one_first writes read left frame each whole (is, (behind, begins)) =
    let both : spelling frame ++ (behind ++ left) ≡ spelling (first_of writes) ++ rest_of writes =
    sym (append_assoc (spelling frame) behind left) ∙ ap (λ (l : List ℕ). l ++ left) (sym begins) ∙ sym whole ∙ first_is writes in
    (begins_one frame (first_of writes) (behind ++ left) (rest_of writes) is (first_valid writes each) both).0

-- an Item that comes first is of a Write that is asked for
first_item : (writes : List Write) (write : Write) → Item write ≡ first_of writes → (rest : List Write) × (writes ≡ write ∷ rest)
first_item [] write same = absurd (let e = same in cc)
first_item (first ∷ rest) write same = (rest, ap (λ (w : Write). w ∷ rest) (let e : write ≡ first = cc in sym e))

-- an End of none comes first only where nothing is asked for
first_end : (writes : List Write) → End 0 ≡ first_of writes → writes ≡ []
first_end [] same = refl
first_end (first ∷ rest) same = absurd (let e = same in cc)

pub lost_is_held : (server own : ℕ) (held : List Write) (read left : List ℕ) → server < SERVERS → All IsWrite held
    → answer_bytes (lacking_of (all_but server own) held) ≡ read ++ left → LossRead server own read (left ≡ []) (Ok true) → Any (IsBeyond server own) held
lost_is_held server own held read left among each whole (write, beyond, begins) =
    let asked = lacking_of (all_but server own) held in
    let (rest, is) = first_item asked write (one_first asked read left (Item write) (asked_valid (all_but server own) held each) whole begins) in
    let (place, inside, at) = All-head (Contains held) write rest (subst (All (Contains held)) is (asked_held (all_but server own) held)) in
    (place, write, inside, at, beyond)

pub kept_is_none : (server own : ℕ) (held : List Write) (read left : List ℕ) → server < SERVERS → All IsWrite held
    → answer_bytes (lacking_of (all_but server own) held) ≡ read ++ left → LossRead server own read (left ≡ []) (Ok false) → Any (IsBeyond server own) held → ⊥
kept_is_none server own held read left among each whole begins (place, write, inside, at, beyond) =
    let asked = lacking_of (all_but server own) held in
    let none : asked ≡ [] = first_end asked (one_first asked read left (End 0) (asked_valid (all_but server own) held each) whole begins) in
    let (where_at, within, is) = subst (λ (l : List Write). Contains l write) none (asked_each server own held write among (place, inside, at) beyond) in
    omega (arith, within)

pub never_bad : (server own : ℕ) (held : List Write) (read left : List ℕ) → server < SERVERS → All IsWrite held
    → answer_bytes (lacking_of (all_but server own) held) ≡ read ++ left → IsNoAnswer server own read → ⊥
never_bad server own held read left among each whole (inl (fault, faulty)) =
    let asked = lacking_of (all_but server own) held in
    not_faulty (read ++ left) (first_of asked) (rest_of asked) fault (first_valid asked (asked_valid (all_but server own) held each)) (sym whole ∙ first_is asked)
    (faulty_on read left fault faulty)
never_bad server own held read left among each whole (inr (frame, begins, no_end, no_item)) =
    let asked = lacking_of (all_but server own) held in
    by asked refl (one_first asked read left frame (asked_valid (all_but server own) held each) whole begins)
  where
    by : (writes : List Write) → lacking_of (all_but server own) held ≡ writes → frame ≡ first_of writes → ⊥
    by [] same first = no_end first
    by (write ∷ writes) same first =
        no_item write (All-head (IsBeyond server own) write writes (subst (All (IsBeyond server own)) same (asked_own server own held among))) first

pub never_cut : (server own : ℕ) (held : List Write) (read left : List ℕ) → All IsWrite held
    → answer_bytes (lacking_of (all_but server own) held) ≡ read ++ left → left ≡ [] → IsPartial read → ⊥
never_cut server own held read left each whole none partial =
    let asked = lacking_of (all_but server own) held in
    let all : read ≡ spelling (first_of asked) ++ rest_of asked = sym (append-nil read) ∙ ap (λ (l : List ℕ). read ++ l) (sym none) ∙ sym whole ∙ first_is asked in
    not_partial read (first_of asked) (rest_of asked) (first_valid asked (asked_valid (all_but server own) held each)) all partial
