-- How much of a reply was read, and how it grows by a frame.
use Rattle.std.proofs.Common.{arith, inl, inr, ◌≡◌, ◌≢◌, ◌⊎◌, Bool, true, false, ℕ, zero, suc, ◌+◌, ◌<◌, ◌≤◌, drop, List, [], ◌∷◌, ◌++◌, Option, None, Some, Ok, Err, refl, sym, ap, subst, ◌∙◌, append_assoc, length}
use Rattle.std.specs.List.{AllByRecursion}
use Rattle.std.specs.Bool.{IsTrue}
use Rattle.std.proofs.lemmas.List.{append-nil, length-append}
use Rattle.std.proofs.lemmas.Grind.{flat_map-append}
use Rattle.bayou_base.specs.declared.limits.TheConstants.{MAX_WRITES}
use Rattle.bayou_client.specs.Inner.Taking.{Ends, ReplyRead, TakesFrames}
use Rattle.bayou_client.specs.Replies.{Begins, IsLast, IsNoReply, IsReply, IsUnfinished}
use Rattle.bayou_lang.specs.declared.write.Write.{Write}
use Rattle.bayou_lang.specs.Ranges.{IsWrite}
use Rattle.bayou_frames.specs.declared.fault.ChannelFault.{ChannelFault}
use Rattle.bayou_frames.specs.declared.fault.ChannelFault.TheVariants as faults
use Rattle.bayou_frames.specs.Framing.{IsReadFault}
use Rattle.bayou_frames.specs.Spelled.{item_bytes}
use Rattle.bayou_wire.specs.declared.fault.DecodeFault.{DecodeFault}
use Rattle.bayou_wire.specs.declared.frame.Frame.{Frame}
use Rattle.bayou_wire.specs.declared.frame.Frame.TheVariants.{Item}
use Rattle.std.specs.Int.{w16, to_be_bytes}
use Rattle.bayou_wire.specs.Spelling.{IsFrame, kind_of, payload_bytes}
use Rattle.bayou_wire.specs.Stream.{IsFaulty, IsPartial, spelling, spellings}
use Rattle.bayou_wire.specs.Laws.Frames.{partial_not_faulty}

-- ---- one Item more

all_push : (writes : List Write) (write : Write) → AllByRecursion IsWrite writes → IsWrite write → AllByRecursion IsWrite (writes ++ write ∷ [])
all_push [] write all is = (is, tt)
all_push (w ∷ writes) write all is = (all.0, all_push writes write all.1 is)

item_bytes_push : (writes : List Write) (write : Write) (behind : List ℕ) → item_bytes writes ++ (spelling (Item write) ++ behind) ≡ item_bytes (writes ++ write ∷ []) ++ behind
item_bytes_push [] write behind = ap (λ s. s ++ behind) (sym (append-nil (spelling (Item write))))
item_bytes_push (w ∷ writes) write behind =
    append_assoc (spelling (Item w)) (item_bytes writes) (spelling (Item write) ++ behind)
    ∙ ap (λ s. spelling (Item w) ++ s) (item_bytes_push writes write behind)
    ∙ sym (append_assoc (spelling (Item w)) (item_bytes (writes ++ write ∷ [])) behind)

not_both : (b : Bool) → b ≡ true → b ≡ false → ⊥
not_both b is none = let bad : true ≡ false = sym is ∙ none in cc

-- an Item is kept
pub kept : (many : Bool) (read behind : List ℕ) (old now : List Write) (write : Write) (frame : Frame) → many ≡ true → frame ≡ Item write → now ≡ old ++ write ∷ []
    → length old < MAX_WRITES → IsFrame frame → Begins many read old (spelling frame ++ behind) → Begins many read now behind
kept many read behind old now write frame is_many same pushed room is before =
    let b = subst (λ (f : Frame). Begins many read old (spelling f ++ behind)) same before in
    rw pushed (record {
      whole = b.whole ∙ item_bytes_push old write behind;
      each = all_push old write b.each (subst (λ (f : Frame). IsFrame f) same is);
      few = λ none. absurd (not_both many is_many none);
      within = omega (arith, room, length-append old (write ∷ []));
    })

-- one Item more than a server holds
pub too_many : (many : Bool) (read behind : List ℕ) (writes : List Write) (write : Write) (frame : Frame) → frame ≡ Item write → MAX_WRITES ≤ length writes
    → Begins many read writes (spelling frame ++ behind) → IsNoReply many read
too_many many read behind writes write frame same full before =
    let b = subst (λ (f : Frame). Begins many read writes (spelling f ++ behind)) same before in
    (writes, spelling (Item write) ++ behind, b, inr (inr (write, behind, omega (arith, full, b.within), refl)))

-- an Item that isn't kept ends it
pub not_kept : (many : Bool) (read behind : List ℕ) (writes : List Write) (write : Write) (frame : Frame) (fault : ChannelFault) → frame ≡ Item write
    → (fault ≡ faults.OutOfMemory) ⊎ ((fault ≡ faults.BadFrame) × (MAX_WRITES ≤ length writes)) → Begins many read writes (spelling frame ++ behind) → Ends many read fault
not_kept many read behind writes write frame fault same (inl is) before = subst (Ends many read) (sym is) tt
not_kept many read behind writes write frame fault same (inr (is, full)) before =
    subst (Ends many read) (sym is) (too_many many read behind writes write frame same full before)

-- the rest in another way
pub rest_is : (many : Bool) (read : List ℕ) (writes : List Write) (rest left : List ℕ) → rest ≡ left → Begins many read writes rest → Begins many read writes left
rest_is many read writes rest left same b = subst (λ (s : List ℕ). Begins many read writes s) same b

-- a piece more was read, and it stands behind what stood there
pub more : (many : Bool) (read held piece : List ℕ) (writes : List Write) → Begins many read writes held → Begins many (read ++ piece) writes (held ++ piece)
more many read held piece writes b = record {
  whole = ap (λ s. s ++ piece) b.whole ∙ append_assoc (item_bytes writes) held piece;
  each = b.each;
  few = b.few;
  within = b.within;
}

-- nothing was read yet
pub nothing : (many : Bool) → Begins many [] [] []
nothing many = record { whole = refl; each = tt; few = λ _. refl; within = omega arith }

-- ---- where no reply stands

-- nothing has no fault
faulty_some : (bytes : List ℕ) (fault : DecodeFault) → IsFaulty bytes fault → bytes ≢ []
faulty_some bytes fault faulty none = partial_not_faulty [] fault tt (subst (λ (s : List ℕ). IsFaulty s fault) none faulty)

-- a fault behind the frames that came
pub bad_behind : (many : Bool) (read behind : List ℕ) (writes : List Write) (last : Option Frame) (fault : DecodeFault) → IsFaulty behind fault
    → TakesFrames many read behind writes (Ok last) → IsNoReply many read
bad_behind many read behind writes None fault faulty takes = (writes, behind, takes, inl (fault, faulty))
bad_behind many read behind writes (Some last) fault faulty takes =
    (writes, spelling last ++ behind, takes.0, inr (inl (last, behind, takes.1, faulty_some behind fault faulty, refl)))

-- something behind the last frame
pub more_behind : (many : Bool) (read behind : List ℕ) (writes : List Write) (last : Frame) → behind ≢ []
    → TakesFrames many read behind writes (Ok (Some last)) → IsNoReply many read
more_behind many read behind writes last some takes = (writes, spelling last ++ behind, takes.0, inr (inl (last, behind, takes.1, some, refl)))

spelling_begins : (frame : Frame) (frames : List Frame) (behind : List ℕ) → spellings (frame ∷ frames) ++ behind ≡ spelling frame ++ (spellings frames ++ behind)
spelling_begins frame frames behind = append_assoc (spelling frame) (spellings frames) behind

-- the last frame, with nothing behind it
pub whole_reply : (many : Bool) (read behind : List ℕ) (writes : List Write) (last : Frame) → behind ≡ []
    → TakesFrames many read behind writes (Ok (Some last)) → IsReply many read writes last
whole_reply many read behind writes last none takes = record {
  begins = rest_is many read writes (spelling last ++ behind) (spelling last) (ap (λ s. spelling last ++ s) none ∙ append-nil (spelling last)) takes.0;
  ends = takes.1;
}

-- ---- where reading ends

-- a fault of what came ends it wherever the input is
pub ends_anywhere : (many : Bool) (read : List ℕ) (is_end : Type 0) (fault : ChannelFault) → Ends many read fault → ReplyRead many read is_end (Err fault)
ends_anywhere many read is_end faults.Read h = absurd h
ends_anywhere many read is_end faults.Write h = absurd h
ends_anywhere many read is_end faults.Cut h = absurd h
ends_anywhere many read is_end faults.BadFrame h = h
ends_anywhere many read is_end faults.TooManyTurns h = absurd h
ends_anywhere many read is_end faults.OutOfMemory h = h

-- what was read is less than a reply where a read failed
pub fails_reading : (many : Bool) (read : List ℕ) (is_end : Type 0) (fault : ChannelFault) → IsReadFault fault → IsUnfinished many read → ReplyRead many read is_end (Err fault)
fails_reading many read is_end faults.Read is less = less
fails_reading many read is_end faults.Write is less = is
fails_reading many read is_end faults.Cut is less = absurd is
fails_reading many read is_end faults.BadFrame is less = absurd is
fails_reading many read is_end faults.TooManyTurns is less = less
fails_reading many read is_end faults.OutOfMemory is less = absurd is

-- ---- frames that came

none_behind : (rest behind : List ℕ) → behind ≢ [] → rest ++ behind ≢ []
none_behind [] behind some none = some none
none_behind (b ∷ rest) behind some none = let bad : length (b ∷ (rest ++ behind)) ≡ 0 = ap length none in omega (arith, bad)

spelling_some : (frame : Frame) → 0 < length (spelling frame)
unfolding spelling
spelling_some frame = omega (arith, length-append (to_be_bytes w16 (length (payload_bytes frame) + 1)) (kind_of frame ∷ payload_bytes frame))

some_behind : (frame : Frame) (more : List ℕ) → spelling frame ++ more ≢ []
some_behind frame more none = omega (arith, spelling_some frame, length-append (spelling frame) more, ap length none)

-- Items so far, and the next frame ends a reply, though there is more behind it
pub ends_before : (many : Bool) (read behind rest : List ℕ) (writes : List Write) (last : Frame) → behind ≢ [] → IsLast many last
    → Begins many read writes (spelling last ++ (rest ++ behind)) → IsNoReply many read
ends_before many read behind rest writes last some is b =
    (writes, spelling last ++ (rest ++ behind), b, inr (inl (last, rest ++ behind, is, none_behind rest behind some, refl)))

-- the newest frame stands behind the others
pub newest_behind : (others : List Frame) (newest : Frame) (frames : List Frame) (behind : List ℕ) → frames ≡ others ++ newest ∷ []
    → spellings frames ++ behind ≡ spellings others ++ (spelling newest ++ behind)
newest_behind others newest frames behind same =
    ap (λ fs. spellings fs ++ behind) same ∙ ap (λ s. s ++ behind) (flat_map-append spelling others (newest ∷ []) ∙ ap (λ s. spellings others ++ s) (append-nil (spelling newest)))
    ∙ append_assoc (spellings others) (spelling newest) behind

pub each_before : (others : List Frame) (newest : Frame) → AllByRecursion IsFrame (others ++ newest ∷ []) → AllByRecursion IsFrame others × IsFrame newest
each_before [] newest all = (tt, all.0)
each_before (f ∷ others) newest all = let (before, is) = each_before others newest all.1 in ((all.0, before), is)

-- more behind bytes of a frame
pub frame_some : (frame : Frame) (more : List ℕ) → spelling frame ++ more ≢ []
frame_some frame more none = some_behind frame more none

-- no frame is left
pub ended : (frames : List Frame) (i : ℕ) (behind : List ℕ) → length frames ≤ i → spellings (drop i frames) ++ behind ≡ behind
ended [] zero behind few = refl
ended [] (suc i) behind few = refl
ended (f ∷ frames) zero behind few = absurd (omega (arith, few))
ended (f ∷ frames) (suc i) behind few = ended frames i behind (omega (arith, few))

-- ---- a piece

-- what is held back isn't nothing: it stands behind the last frame
pub not_between : (many : Bool) (read rest : List ℕ) (now : Option (List ℕ)) (writes : List Write) (last : Option Frame) (frame : Frame) → last ≡ Some frame → IsPartial rest × (now ≡ Some rest)
    → (IsTrue false → now ≡ Some []) × (now ≡ Some [] → IsTrue false) → TakesFrames many read rest writes (Ok last) → IsNoReply many read
not_between many read rest now writes last frame is waits between takes =
    more_behind many read rest writes frame (λ none. let bad : false ≡ true = between.1 (waits.1 ∙ ap Some none) in cc)
    (subst (λ (o : Option Frame). TakesFrames many read rest writes (Ok o)) is takes)

same_held : (a b : List ℕ) → Some a ≡ Some b → a ≡ b
same_held a b same = cc

-- nothing is held back: the last frame ends what was read
pub whole_at : (many : Bool) (read rest : List ℕ) (now : Option (List ℕ)) (writes : List Write) (last : Option Frame) (frame : Frame) → last ≡ Some frame → IsPartial rest × (now ≡ Some rest)
    → now ≡ Some [] → TakesFrames many read rest writes (Ok last) → IsReply many read writes frame
whole_at many read rest now writes last frame is waits between takes =
    whole_reply many read rest writes frame (same_held rest [] (sym waits.1 ∙ between)) (subst (λ (o : Option Frame). TakesFrames many read rest writes (Ok o)) is takes)

-- no last frame so far
pub none_yet : (many : Bool) (read rest : List ℕ) (writes : List Write) (last : Option Frame) → last ≡ None → TakesFrames many read rest writes (Ok last) → Begins many read writes rest
none_yet many read rest writes last is takes = subst (λ (o : Option Frame). TakesFrames many read rest writes (Ok o)) is takes
