-- What a pull has received so far, and how it grows by an Item.
use Rattle.std.proofs.Common.{arith, inr, ◌≡◌, Bool, true, ℕ, ◌+◌, ◌*◌, ◌<◌, ◌≤◌, length, List, [], ◌∷◌, ◌++◌, Option, None, Some, Result, Ok, Err, IfSome, IfOk, IfErr, refl, sym, ap, subst, ◌∙◌, append_assoc}
use Rattle.std.specs.List.{AllByRecursion}
use Rattle.std.proofs.lemmas.List.{append-nil, length-append}
use Rattle.bayou_lang.specs.declared.write.Write.{Write}
use Rattle.bayou_lang.specs.Ranges.{IsWrite}
use Rattle.bayou_base.specs.declared.limits.TheConstants.{MAX_TURNS, SERVERS}
use Rattle.bayou_peer.specs.declared.pulling.TheConstants.{PULL_TURN_BYTES}
use Rattle.bayou_base.specs.declared.wid.Wid.{Wid}
use Rattle.bayou_frames.specs.declared.fault.ChannelFault.{ChannelFault}
use Rattle.bayou_frames.specs.declared.fault.ChannelFault.TheVariants as faults
use Rattle.bayou_frames.specs.declared.fault.ChannelFault.TheVariants.{BadFrame}
use Rattle.bayou_frames.specs.Framing.{IsReadFault}
use Rattle.bayou_peer.specs.declared.fault.PullFault.{PullFault}
use Rattle.bayou_peer.specs.declared.fault.PullFault.TheVariants.{Stream, Refused}
use Rattle.bayou_peer.specs.declared.pulling.Pulled.{Pulled}
use Rattle.bayou_peer.specs.declared.pulling.Stop.{Stop}
use Rattle.bayou_peer.specs.Pulls.{HasNoPlace, PullEnds, PullStops, Received, Stands, Ways, nothing_pulled}
use Rattle.bayou_frames.specs.Spelled.{items_of}
use Rattle.bayou_frames.specs.Stopping.{IsSendFault}
use Rattle.bayou_peer.specs.Inner.Steps.{Goes, Standing}
use Rattle.bayou_peer.specs.Taking.{Lists, new_ones}
use Rattle.bayou_server.specs.TakesAll.{TakesEach, hads, news}
use Rattle.bayou_server.specs.Laws.TakesAll.{hads_push, news_push, one_took, takes_push}
use Rattle.bayou_server.specs.declared.answer.Took.{Took}
use Rattle.bayou_server.specs.declared.answer.Took.TheVariants.{New, Had}
use Rattle.bayou_server.specs.declared.fault.TakeFault.{TakeFault}
use Rattle.bayou_wire.specs.declared.frame.Frame.{Frame}
use Rattle.bayou_wire.specs.declared.frame.Frame.TheVariants.{End, Item}
use Rattle.bayou_wire.specs.Spelling.{IsFrame, program_bytes, vector_bytes}
use Rattle.bayou_wire.specs.Stream.{spelling, spellings}

-- ---- one more at the end

all_push : (writes : List Write) (write : Write) → AllByRecursion IsWrite writes → IsWrite write → AllByRecursion IsWrite (writes ++ write ∷ [])
all_push [] write all is = (is, tt)
all_push (w ∷ writes) write all is = (all.0, all_push writes write all.1 is)

items_push : (writes : List Write) (write : Write) (behind : List ℕ) → spellings (items_of writes) ++ (spelling (Item write) ++ behind) ≡ spellings (items_of (writes ++ write ∷ [])) ++ behind
items_push [] write behind = ap (λ s. s ++ behind) (sym (append-nil (spelling (Item write))))
items_push (w ∷ writes) write behind =
    append_assoc (spelling (Item w)) (spellings (items_of writes)) (spelling (Item write) ++ behind)
    ∙ ap (λ s. spelling (Item w) ++ s) (items_push writes write behind)
    ∙ sym (append_assoc (spelling (Item w)) (spellings (items_of (writes ++ write ∷ []))) behind)

module _ {S : Type 0} (takes : S → Write → Result Took TakeFault → S → Type 0) where
  ones_push : (start mid : S) (writes : List Write) (tooks : List Took) (write : Write) (took : Took) → TakesEach takes start writes tooks mid
      → new_ones (writes ++ write ∷ []) (tooks ++ took ∷ []) ≡ new_ones writes tooks ++ new_ones (write ∷ []) (took ∷ [])
  ones_push start mid [] [] write took same = refl
  ones_push start mid [] (t ∷ tooks) write took none = absurd none
  ones_push start mid (w ∷ writes) [] write took none = absurd none
  ones_push start mid (w ∷ writes) (New ∷ tooks) write took each = ap (λ ws. w ∷ ws) (ones_push each.0 mid writes tooks write took each.2)
  ones_push start mid (w ∷ writes) (Had ∷ tooks) write took each = ones_push each.0 mid writes tooks write took each.2

lists_known : (held : List Write) (write : Write) (took : Took) (new : Option (List Write)) → Lists (Some held) write (Ok took) new → new ≡ Some (held ++ new_ones (write ∷ []) (took ∷ []))
lists_known held write took None l = absurd l
lists_known held write New (Some after) l = ap Some l.1
lists_known held write Had (Some after) l = ap Some (l.1 ∙ sym (append-nil held))

lists_push : (start mid new : Option (List Write)) (ones : List Write) (write : Write) (took : Took) → IfSome start (λ held. mid ≡ Some (held ++ ones)) → Lists mid write (Ok took) new
    → IfSome start (λ held. new ≡ Some (held ++ (ones ++ new_ones (write ∷ []) (took ∷ []))))
lists_push None mid new ones write took h l = tt
lists_push (Some held) mid new ones write took h l =
    let known = lists_known (held ++ ones) write took new (subst (λ (o : Option (List Write)). Lists o write (Ok took) new) h l) in
    known ∙ ap Some (append_assoc held ones (new_ones (write ∷ []) (took ∷ [])))

lists_same : (mid new : Option (List Write)) (write : Write) (fault : TakeFault) → Lists mid write (Err fault) new → IfSome mid (λ held. new ≡ Some held)
lists_same None new write fault l = tt
lists_same (Some held) None write fault l = absurd l
lists_same (Some held) (Some after) write fault l = ap Some l

-- ---- an Item

-- The Item that stands next was taken.
pub received_took : {S : Type 0} (ways : Ways S) (start mid new : S) (read behind : List ℕ) (write given : Write) (took : Took) (taken had t h : ℕ) → given ≡ write → IsWrite write
    → ways.takes mid given (Ok took) new → Lists (ways.list mid) given (Ok took) (ways.list new) → t ≡ taken + news (took ∷ []) → h ≡ had + hads (took ∷ [])
    → Received ways start mid read (spelling (Item write) ++ behind) taken had → Received ways start new read behind t h
received_took {S} ways start mid new read behind write given took taken had t h same is takes lists more_taken more_had r =
    let last = subst (λ (w : Write). ways.takes mid w (Ok took) new) same takes in
    let listed = subst (λ (w : Write). Lists (ways.list mid) w (Ok took) (ways.list new)) same lists in
    record {
      writes = r.writes ++ write ∷ [];
      tooks = r.tooks ++ took ∷ [];
      whole = r.whole ∙ items_push r.writes write behind;
      each = all_push r.writes write r.each is;
      took = takes_push ways.takes start mid new r.writes r.tooks write took r.took last;
      holds = rw (ones_push ways.takes start mid r.writes r.tooks write took r.took)
          (lists_push (ways.list start) (ways.list mid) (ways.list new) (new_ones r.writes r.tooks) write took r.holds listed);
      new = more_taken ∙ ap (λ n. n + news (took ∷ [])) r.new ∙ sym (news_push r.tooks took);
      held = more_had ∙ ap (λ n. n + hads (took ∷ [])) r.held ∙ sym (hads_push r.tooks took);
      number = omega (arith, more_taken, more_had, r.number, one_took took, length-append r.writes (write ∷ []));
    }

-- The Item that stands next was refused.
pub received_refused : {S : Type 0} (ways : Ways S) (start mid new : S) (read behind : List ℕ) (write : Write) (fault : TakeFault) (before : Pulled) (refused : Option Wid) → IsWrite write
    → ways.takes mid write (Err fault) new → Lists (ways.list mid) write (Err fault) (ways.list new) → refused ≡ Some write.wid
    → Received ways start mid read (spelling (Item write) ++ behind) before.taken before.had → PullStops ways start new read ⊥ before refused (Refused fault)
received_refused {S} ways start mid new read behind write fault before refused is takes lists named r =
    (mid, write, behind, is, r, takes, lists_same (ways.list mid) (ways.list new) write fault lists, named)

-- ---- an End

-- Another frame stands next: an End of their number ends the pull, and any other has no place there.
pub received_end : {S : Type 0} (ways : Ways S) (start now : S) (read behind rest : List ℕ) (frame : Frame) (pulled : Pulled) (ended : Bool) → ended ≡ true → frame ≡ End (pulled.taken + pulled.had)
    → Received ways start now read (spelling frame ++ behind) pulled.taken pulled.had → Goes ways start now read rest pulled (Ok ended)
received_end {S} ways start now read behind rest frame pulled ended whole is r =
    rw whole (behind, subst (λ (f : Frame). Received ways start now read (spelling f ++ behind) pulled.taken pulled.had) is r)

pub received_other : {S : Type 0} (ways : Ways S) (start now : S) (read behind : List ℕ) (frame : Frame) (pulled : Pulled) → IsFrame frame → HasNoPlace (pulled.taken + pulled.had) frame
    → Received ways start now read (spelling frame ++ behind) pulled.taken pulled.had → PullStops ways start now read ⊥ pulled None (Stream BadFrame)
received_other {S} ways start now read behind frame pulled is none r = (spelling frame ++ behind, inr (frame, behind, is, refl, none), r, refl)

-- the rest in another way
pub received_rest : {S : Type 0} (ways : Ways S) (start now : S) (read rest left : List ℕ) (taken had : ℕ) → rest ≡ left → Received ways start now read rest taken had → Received ways start now read left taken had
received_rest {S} ways start now read rest left taken had same r = subst (λ (s : List ℕ). Received ways start now read s taken had) same r

-- a piece more was read, and it stands behind what stood there
pub received_more : {S : Type 0} (ways : Ways S) (start now : S) (read held piece : List ℕ) (taken had : ℕ) → Received ways start now read held taken had
    → Received ways start now (read ++ piece) (held ++ piece) taken had
received_more {S} ways start now read held piece taken had r = record {
  writes = r.writes;
  tooks = r.tooks;
  whole = ap (λ s. s ++ piece) r.whole ∙ append_assoc (spellings (items_of r.writes)) held piece;
  each = r.each;
  took = r.took;
  holds = r.holds;
  new = r.new;
  held = r.held;
  number = r.number;
}

-- ---- how many

counts_size : (counts : List ℕ) → length (vector_bytes counts) ≡ SERVERS * 4
unfolding vector_bytes
counts_size counts = refl

pub spellings-append : (xs ys : List Frame) → spellings (xs ++ ys) ≡ spellings xs ++ spellings ys
spellings-append [] ys = refl
spellings-append (x ∷ xs) ys = ap (λ l. spelling x ++ l) (spellings-append xs ys) ∙ sym (append_assoc (spelling x) (spellings xs) (spellings ys))

-- an Item has sixteen bytes at least, and many more
item_size : (write : Write) → 16 ≤ length (spelling (Item write))
unfolding spelling
item_size write = omega (arith, counts_size write.deps, length-append (vector_bytes write.deps) (program_bytes write.program))

items_size : (writes : List Write) → 16 * length writes ≤ length (spellings (items_of writes))
items_size [] = omega arith
items_size (write ∷ writes) = omega (arith, item_size write, items_size writes, length-append (spelling (Item write)) (spellings (items_of writes)))

-- so many bytes have no more Items than a sixteenth
pub few_items : (held piece rest : List ℕ) (frames behind : List Frame) (writes : List Write) (taken had limit : ℕ) → held ++ piece ≡ spellings frames ++ rest → frames ≡ items_of writes ++ behind
    → 16 * (taken + had) + (length held + length piece) ≤ limit → 16 * (taken + had + length writes) ≤ limit
few_items held piece rest frames behind writes taken had limit whole split few =
    omega (
      arith,
      few,
      items_size writes,
      ap length whole,
      length-append held piece,
      length-append (spellings frames) rest,
      ap (λ (l : List Frame). length (spellings l)) split,
      ap length (spellings-append (items_of writes) behind),
      length-append (spellings (items_of writes)) (spellings behind),
    )

-- what was received has no more bytes than were read
pub few_received : {S : Type 0} (ways : Ways S) (start now : S) (read held : List ℕ) (taken had : ℕ) → Received ways start now read held taken had → 16 * (taken + had) + length held ≤ length read
few_received {S} ways start now read held taken had r =
    omega (arith, items_size r.writes, ap length r.whole, r.number, length-append (spellings (items_of r.writes)) held)

-- ---- between two pieces

holds_start : (known : Option (List Write)) → IfSome known (λ held. known ≡ Some (held ++ []))
holds_start None = tt
holds_start (Some held) = ap Some (sym (append-nil held))

pub received_start : {S : Type 0} (ways : Ways S) (start : S) (taken had : ℕ) → taken ≡ 0 → had ≡ 0 → Received ways start start [] [] taken had
received_start {S} ways start taken had no_taken no_had = record {
  writes = [];
  tooks = [];
  whole = refl;
  each = tt;
  took = refl;
  holds = holds_start (ways.list start);
  new = no_taken;
  held = no_had;
  number = omega (arith, no_taken, no_had);
}

pub standing_start : {S : Type 0} (ways : Ways S) (start : S) (frames : Option (List ℕ)) (pulled : Pulled) → frames ≡ Some [] → pulled.taken ≡ 0 → pulled.had ≡ 0
    → Standing ways start start [] frames pulled
standing_start {S} ways start frames pulled waits taken had = record {
  held = [];
  partial = tt;
  waits = waits;
  received = received_start ways start pulled.taken pulled.had taken had;
}

pub stands : {S : Type 0} (ways : Ways S) (start now : S) (read : List ℕ) (frames : Option (List ℕ)) (pulled : Pulled) → Standing ways start now read frames pulled → Stands ways start now read pulled
stands {S} ways start now read frames pulled s = (s.held, s.partial, s.received)

-- what may end a read ends the pull between two pieces
pub ends_reading : {S : Type 0} (ways : Ways S) (start now : S) (read : List ℕ) (is_end : Type 0) (before : Pulled) (fault : ChannelFault) → IsReadFault fault → Stands ways start now read before
    → PullStops ways start now read is_end before None (Stream fault)
ends_reading {S} ways start now read is_end before faults.Read is s = (s, refl)
ends_reading {S} ways start now read is_end before faults.TooManyTurns is s = (s, refl)
ends_reading {S} ways start now read is_end before faults.Write is s = absurd is
ends_reading {S} ways start now read is_end before faults.Cut is s = absurd is
ends_reading {S} ways start now read is_end before faults.BadFrame is s = absurd is
ends_reading {S} ways start now read is_end before faults.OutOfMemory is s = absurd is

-- what ended the pull at a frame ended it, whether the input has ended or not
pub ends_anywhere : {S : Type 0} (ways : Ways S) (start now : S) (read : List ℕ) (is_end : Type 0) (before : Pulled) (refused : Option Wid) (fault : PullFault)
    → PullStops ways start now read ⊥ before refused fault → PullStops ways start now read is_end before refused fault
ends_anywhere {S} ways start now read is_end before refused (Refused fault) e = e
ends_anywhere {S} ways start now read is_end before refused (Stream faults.Read) e = e
ends_anywhere {S} ways start now read is_end before refused (Stream faults.TooManyTurns) e = e
ends_anywhere {S} ways start now read is_end before refused (Stream faults.Write) e = e
ends_anywhere {S} ways start now read is_end before refused (Stream faults.Cut) e = absurd e.0
ends_anywhere {S} ways start now read is_end before refused (Stream faults.BadFrame) e = e
ends_anywhere {S} ways start now read is_end before refused (Stream faults.OutOfMemory) e = e

-- no turn read more than a piece, so that the numbers stay small
pub standing_room : {S : Type 0} (ways : Ways S) (start now : S) (read : List ℕ) (frames : Option (List ℕ)) (pulled : Pulled) (s : Standing ways start now read frames pulled) (piece : List ℕ)
    (turns later first : ℕ) → length piece ≤ PULL_TURN_BYTES → length read + PULL_TURN_BYTES * turns ≤ PULL_TURN_BYTES * first → later < turns → first ≤ MAX_TURNS
    → 16 * (pulled.taken + pulled.had) + (length s.held + length piece) ≤ PULL_TURN_BYTES * MAX_TURNS
standing_room {S} ways start now read frames pulled s piece turns later first short room spent budget =
    let few = few_received ways start now read s.held pulled.taken pulled.had s.received in
    omega (arith, few, short, room, spent, budget)

-- ---- before anything was read

-- what may end the Offer's sending ends the pull before anything is read
pub ends_sending : {S : Type 0} (ways : Ways S) (start : S) (is_end : Type 0) (fault : ChannelFault) → IsSendFault fault → PullStops ways start start [] is_end nothing_pulled None (Stream fault)
ends_sending {S} ways start is_end faults.Read is = absurd is
ends_sending {S} ways start is_end faults.TooManyTurns is = (([], tt, received_start ways start 0 0 refl refl), refl)
ends_sending {S} ways start is_end faults.Write is = (refl, refl, refl, refl)
ends_sending {S} ways start is_end faults.Cut is = absurd is
ends_sending {S} ways start is_end faults.BadFrame is = absurd is
ends_sending {S} ways start is_end faults.OutOfMemory is = ([], received_start ways start 0 0 refl refl, refl)

-- a pull that has ended was given no more Writes than a sixteenth of the bytes
pub few_ended : {S : Type 0} (ways : Ways S) (start now : S) (read : List ℕ) (is_end : Type 0) (pulled : Pulled) → PullEnds ways start now read is_end (Ok pulled)
    → 16 * (pulled.taken + pulled.had) ≤ length read
few_ended {S} ways start now read is_end pulled e =
    let few = few_received ways start now read (spelling (End (pulled.taken + pulled.had)) ++ e.0) pulled.taken pulled.had e.1 in
    omega (arith, few)
