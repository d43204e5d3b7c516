-- Laws of frames in their spelling, for proofs of the crates above: bytes begin with one thing, and frames stand one after another.
use Rattle.std.proofs.Common.{arith, ◌≡◌, ◌<◌, ◌≤◌, ◌*◌, ℕ, zero, suc, ◌+◌, List, [], ◌∷◌, ◌++◌, length, length-append, drop, get_or, append_assoc, sym, ap, ◌∙◌}
use Rattle.std.proofs.lemmas.List.{drop_more}
use Rattle.std.specs.List.{AllByRecursion}
use Rattle.bayou_wire.specs.declared.fault.DecodeFault.{DecodeFault}
use Rattle.bayou_wire.specs.declared.frame.Frame.{Frame}
use Rattle.bayou_wire.specs.Spelling.{IsFrame, SpellsFrame}
use Rattle.bayou_wire.specs.Stream.{HasLength, IsFaulty, IsPartial, spelling, spellings}
use Rattle.bayou_wire.specs.Laws.Inner.Fronts as fronts

-- ---- what bytes begin with

-- bytes begin with one frame at most
pub begins_one : (a b : Frame) (x y : List ℕ) → IsFrame a → IsFrame b → spelling a ++ x ≡ spelling b ++ y → (a ≡ b) × (x ≡ y)
unfolding spelling
begins_one a b x y is_a is_b same = fronts.frame_begins_one a b x y is_a is_b same

-- bytes that begin with a frame have no fault
pub not_faulty : (bytes : List ℕ) (frame : Frame) (rest : List ℕ) (fault : DecodeFault) → IsFrame frame → bytes ≡ spelling frame ++ rest → IsFaulty bytes fault → ⊥
unfolding spelling
not_faulty bytes frame rest fault is same faulty = fronts.whole_not_faulty bytes frame rest fault is same faulty

-- bytes that begin with a frame are no part of one
pub not_partial : (bytes : List ℕ) (frame : Frame) (rest : List ℕ) → IsFrame frame → bytes ≡ spelling frame ++ rest → IsPartial bytes → ⊥
unfolding spelling
not_partial bytes frame rest is same partial = fronts.whole_not_partial bytes frame rest is same partial

-- a part of a frame has no fault
pub partial_not_faulty : (bytes : List ℕ) (fault : DecodeFault) → IsPartial bytes → IsFaulty bytes fault → ⊥
partial_not_faulty bytes fault partial faulty = fronts.partial_not_faulty bytes fault partial faulty

-- a fault stays, whatever follows
pub faulty_on : (bytes more : List ℕ) (fault : DecodeFault) → IsFaulty bytes fault → IsFaulty (bytes ++ more) fault
faulty_on bytes more fault faulty = fronts.faulty_more bytes more fault faulty

-- a frame has the length that its first bytes tell, and these two
pub spelling_length : (frame : Frame) (behind : List ℕ) (len : ℕ) → IsFrame frame → HasLength (spelling frame ++ behind) len → length (spelling frame) ≡ 2 + len
unfolding spelling
spelling_length frame behind len is has = fronts.frame_length frame behind len is has

-- ---- one frame

-- bytes that spell a frame are its spelling
pub spelling_of : (frame : Frame) (bytes : List ℕ) → SpellsFrame bytes frame → bytes ≡ spelling frame
unfolding spelling
spelling_of frame bytes spells = spells.spelled

-- a frame has three bytes at least
frame_size : (frame : Frame) → 3 ≤ length (spelling frame)
unfolding spelling
frame_size frame = omega arith

-- ---- frames one after another

-- each of some frames is a frame
pub frame_at : (frames : List Frame) (i : ℕ) (frame : Frame) → AllByRecursion IsFrame frames → i < length frames → frame ≡ get_or frames i frame → IsFrame frame
frame_at frames i frame all within same = rw same (at frames i all within)
  where
    at : (frames : List Frame) (i : ℕ) → AllByRecursion IsFrame frames → i < length frames → IsFrame (get_or frames i frame)
    at [] i all within = absurd (omega arith)
    at (f ∷ frames) zero all within = all.0
    at (f ∷ frames) (suc i) all within = at frames i all.1 (omega arith)

-- what is left of some frames begins with the next of them
pub next_frame : (frames : List Frame) (i : ℕ) (frame : Frame) (behind : List ℕ) → i < length frames → frame ≡ get_or frames i frame
    → spellings (drop i frames) ++ behind ≡ spelling frame ++ (spellings (drop (i + 1) frames) ++ behind)
next_frame frames i frame behind within same =
    ap (λ fs. spellings fs ++ behind) (drop_more frames i frame within)
    ∙ append_assoc (spelling (get_or frames i frame)) (spellings (drop (i + 1) frames)) behind
    ∙ ap (λ f. spelling f ++ (spellings (drop (i + 1) frames) ++ behind)) (sym same)

-- so many bytes have no more frames than a third
pub frames_size : (frames : List Frame) → 3 * length frames ≤ length (spellings frames)
frames_size [] = omega arith
frames_size (frame ∷ frames) = omega (arith, frame_size frame, frames_size frames, length-append (spelling frame) (spellings frames))
