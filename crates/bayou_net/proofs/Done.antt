-- What has been served so far, and how it grows by a request.
use Rattle.std.proofs.Common.{arith, inr, ◌≡◌, ℕ, ◌+◌, ◌*◌, ◌≤◌, length, List, [], ◌∷◌, ◌++◌, Option, Some, Err, refl, sym, ap, subst, ◌∙◌, append_assoc}
use Rattle.std.proofs.KnownBytes.{Appends-nil, Appends-trans}
use Rattle.std.specs.Io.KnownBytes.{Appends}
use Rattle.std.specs.List.{AllByRecursion}
use Rattle.std.proofs.lemmas.List.{append-nil, length-append}
use Rattle.bayou_net.specs.Inner.Steps.{DoesOne, Waiting}
use Rattle.bayou_net.specs.Serving.{HasBroken, HasDone, HasServed, ServeEnds, Serves, ServesAll, Steps}
use Rattle.bayou_frames.specs.Laws.Bytes.{front_behind}
use Rattle.bayou_wire.specs.Laws.Frames.{frames_size}
use Rattle.bayou_frames.specs.declared.fault.ChannelFault.{ChannelFault}
use Rattle.bayou_frames.specs.declared.fault.ChannelFault.TheVariants as faults
use Rattle.bayou_frames.specs.Framing.{IsReadFault}
use Rattle.bayou_peer.specs.Offers.{Answers}
use Rattle.bayou_frames.specs.Spelled.{answer_bytes}
use Rattle.bayou_frames.specs.Stopping.{IsSendFault}
use Rattle.bayou_streams.specs.Written.{AppendsFront}
use Rattle.bayou_wire.specs.declared.frame.Frame.{Frame}
use Rattle.bayou_wire.specs.declared.frame.Frame.TheVariants.{Offer}
use Rattle.bayou_wire.specs.Spelling.{IsFrame}
use Rattle.bayou_wire.specs.Stream.{spelling, spellings}

-- ---- one more at the end

all_push : (requests : List Frame) (request : Frame) → AllByRecursion IsFrame requests → IsFrame request → AllByRecursion IsFrame (requests ++ request ∷ [])
all_push [] request all is = (is, tt)
all_push (r ∷ requests) request all is = (all.0, all_push requests request all.1 is)

spellings_push : (requests : List Frame) (request : Frame) (behind : List ℕ)
    → spellings requests ++ (spelling request ++ behind) ≡ spellings (requests ++ request ∷ []) ++ behind
spellings_push [] request behind = ap (λ s. s ++ behind) (sym (append-nil (spelling request)))
spellings_push (r ∷ requests) request behind =
    append_assoc (spelling r) (spellings requests) (spelling request ++ behind)
    ∙ ap (λ s. spelling r ++ s) (spellings_push requests request behind)
    ∙ sym (append_assoc (spelling r) (spellings (requests ++ request ∷ [])) behind)

-- so many bytes have no more frames than a third
pub few_requests : (held piece rest : List ℕ) (frames : List Frame) (number limit : ℕ) → held ++ piece ≡ spellings frames ++ rest
    → 3 * number + (length held + length piece) ≤ limit → 3 * (number + length frames) ≤ limit
few_requests held piece rest frames number limit whole few =
    omega (arith, few, frames_size frames, ap length whole, length-append held piece, length-append (spellings frames) rest)

module _ {S : Type 0} (steps : Steps S) where
  serves_push : (start mid new : S) (requests : List Frame) (request : Frame) (replies reply : List ℕ)
      → ServesAll steps start requests replies mid → Serves steps mid request reply new
      → ServesAll steps start (requests ++ request ∷ []) (replies ++ reply) new
  serves_push start mid new [] request replies reply (none, same) last = (
    new,
    reply,
    [],
    subst (λ (s : S). Serves steps s request reply new) same last,
    ap (λ text. text ++ reply) none ∙ sym (append-nil reply),
    (refl, refl),
  )
  serves_push start mid new (first ∷ requests) request replies reply (then, its, more, serves, split, others) last = (
    then,
    its,
    more ++ reply,
    serves,
    ap (λ text. text ++ reply) split ∙ append_assoc its more reply,
    serves_push then mid new requests request more reply others last,
  )

  -- the request that stands next was done
  done_one : (start mid new : S) (read behind : List ℕ) (request : Frame) (number : ℕ) (replies reply : List ℕ) → IsFrame request → Serves steps mid request reply new
      → HasDone steps start mid read (spelling request ++ behind) number replies → HasDone steps start new read behind (number + 1) (replies ++ reply)
  done_one start mid new read behind request number replies reply is last h = record {
    requests = h.requests ++ request ∷ [];
    whole = h.whole ∙ spellings_push h.requests request behind;
    each = all_push h.requests request h.each is;
    done = serves_push start mid new h.requests request replies reply h.done last;
    count = omega (arith, h.count, length-append h.requests (request ∷ []));
  }

  pub served_one : (start mid new : S) (read behind : List ℕ) (request : Frame) (number : ℕ) (before between after : Option (List ℕ)) → IsFrame request
      → ((reply : List ℕ) × Serves steps mid request reply new × Appends between after reply)
      → HasServed steps start mid read (spelling request ++ behind) number before between → HasServed steps start new read behind (number + 1) before after
  served_one start mid new read behind request number before between after is (reply, last, wrote) (replies, h, all) =
      (replies ++ reply, done_one start mid new read behind request number replies reply is last h, Appends-trans before between after replies reply all wrote)

  broken_one : (start mid new : S) (read behind : List ℕ) (request : Frame) (number : ℕ) (before between after : Option (List ℕ)) → IsFrame request
      → ((reply : List ℕ) × Serves steps mid request reply new × AppendsFront between after reply)
      → HasServed steps start mid read (spelling request ++ behind) number before between → HasBroken steps start new read before after
  broken_one start mid new read behind request number before between after is (reply, last, part) (replies, h, all) = (
    behind,
    number + 1,
    replies ++ reply,
    done_one start mid new read behind request number replies reply is last h,
    front_behind before between after replies reply all part,
  )

  -- nothing was done and nothing written
  same_served : (start mid new : S) (read rest : List ℕ) (number : ℕ) (before between after : Option (List ℕ)) → after ≡ between → new ≡ mid
      → HasServed steps start mid read rest number before between → HasServed steps start new read rest number before after
  same_served start mid new read rest number before between after wrote is h =
      subst (λ (s : S). HasServed steps start s read rest number before after) (sym is)
      (subst (λ (w : Option (List ℕ)). HasServed steps start mid read rest number before w) (sym wrote) h)

  -- what ends it at a frame
  pub ends_at_one : (start mid new : S) (read behind : List ℕ) (request : Frame) (number : ℕ) (before between after : Option (List ℕ)) (T : Type 0) (fault : ChannelFault) → IsFrame request
      → DoesOne {T = T} steps mid request between after (Err fault) new
      → HasServed steps start mid read (spelling request ++ behind) number before between → ServeEnds steps start new read before after ⊥ (Err fault)
  ends_at_one start mid new read behind request number before between after T faults.Read is none h = absurd none
  ends_at_one start mid new read behind request number before between after T faults.Cut is none h = absurd none
  ends_at_one start mid new read behind request number before between after T faults.BadFrame is (not, wrote, same) h = (
    spelling request ++ behind,
    number,
    inr (request, behind, is, refl, not),
    same_served start mid new read (spelling request ++ behind) number before between after wrote same h,
  )
  ends_at_one start mid new read behind request number before between after T faults.Write is does h =
      broken_one start mid new read behind request number before between after is does h
  ends_at_one start mid new read behind request number before between after T faults.TooManyTurns is does h =
      broken_one start mid new read behind request number before between after is does h
  ends_at_one start mid new read behind request number before between after T faults.OutOfMemory is does h =
      broken_one start mid new read behind request number before between after is does h

  -- an Offer whose answer was broken off
  pub offer_broken : (old new : S) (counts : List ℕ) (before after : Option (List ℕ)) (T : Type 0) (fault : ChannelFault) → IsSendFault fault
      → Answers (steps.list old) counts before after (Err fault) → new ≡ old → DoesOne {T = T} steps old (Offer counts) before after (Err fault) new
  offer_broken old new counts before after T faults.Read is answers same = absurd is
  offer_broken old new counts before after T faults.Cut is answers same = absurd is
  offer_broken old new counts before after T faults.BadFrame is answers same = absurd is
  offer_broken old new counts before after T faults.Write is (writes, lacks, sends) same = (answer_bytes writes, (writes, lacks, refl, same), sends.part)
  offer_broken old new counts before after T faults.TooManyTurns is (writes, lacks, sends) same = (answer_bytes writes, (writes, lacks, refl, same), sends.part)
  offer_broken old new counts before after T faults.OutOfMemory is (writes, lacks, sends) same = (answer_bytes writes, (writes, lacks, refl, same), sends.part)

  -- the rest in another way
  pub served_rest : (start now : S) (read rest left : List ℕ) (number : ℕ) (before after : Option (List ℕ)) → rest ≡ left
      → HasServed steps start now read rest number before after → HasServed steps start now read left number before after
  served_rest start now read rest left number before after same h =
      subst (λ (s : List ℕ). HasServed steps start now read s number before after) same h

  -- another writer with the same bytes, and another state that is the same
  pub served_at : {W : Type 0} (contents : W → Option (List ℕ)) (start now : S) (read rest : List ℕ) (number : ℕ) (before : Option (List ℕ)) (writer after : W) → after ≡ writer
      → HasServed steps start now read rest number before (contents writer) → HasServed steps start now read rest number before (contents after)
  served_at {W} contents start now read rest number before writer after same h =
      subst (λ (w : W). HasServed steps start now read rest number before (contents w)) (sym same) h

  -- a piece more was read, and it stands behind what stood there
  pub served_more : (start now : S) (read held piece : List ℕ) (number : ℕ) (before after : Option (List ℕ))
      → HasServed steps start now read held number before after → HasServed steps start now (read ++ piece) (held ++ piece) number before after
  served_more start now read held piece number before after (replies, h, wrote) = (
    replies,
    record {
      requests = h.requests;
      whole = ap (λ s. s ++ piece) h.whole ∙ append_assoc (spellings h.requests) held piece;
      each = h.each;
      done = h.done;
      count = h.count;
    },
    wrote,
  )

  -- what was served has no more bytes than were read
  pub few_served : (start now : S) (read held : List ℕ) (number : ℕ) (before after : Option (List ℕ))
      → HasServed steps start now read held number before after → 3 * number + length held ≤ length read
  few_served start now read held number before after (replies, h, wrote) =
      omega (arith, frames_size h.requests, ap length h.whole, h.count, length-append (spellings h.requests) held)

  -- ---- between two pieces

  served_start : (start : S) (before : Option (List ℕ)) (number : ℕ) → number ≡ 0 → HasServed steps start start [] [] number before before
  served_start start before number none =
      ([], record { requests = []; whole = refl; each = tt; done = (refl, refl); count = none }, Appends-nil before)

  pub waiting_start : (start : S) (frames : Option (List ℕ)) (number : ℕ) (before : Option (List ℕ)) → frames ≡ Some [] → number ≡ 0
      → Waiting steps start start [] frames number before before
  waiting_start start frames number before waits none =
      record { held = []; partial = tt; waits = waits; served = served_start start before number none }

  broken : (start now : S) (read rest : List ℕ) (number : ℕ) (before after : Option (List ℕ)) → HasServed steps start now read rest number before after
      → HasBroken steps start now read before after
  broken start now read rest number before after (replies, h, wrote) =
      (rest, number, replies, h, (replies, [], sym (append-nil replies), wrote))

  -- want of memory may come anywhere
  pub ends_wanting : (start now : S) (read rest : List ℕ) (number : ℕ) (before after : Option (List ℕ)) → HasServed steps start now read rest number before after
      → ServeEnds steps start now read before after ⊥ (Err faults.OutOfMemory)
  ends_wanting start now read rest number before after h = broken start now read rest number before after h

  -- what may end a read ends it between two pieces
  pub ends_reading : (start now : S) (read : List ℕ) (frames : Option (List ℕ)) (number : ℕ) (before after : Option (List ℕ)) (is_end : Type 0) (fault : ChannelFault) → IsReadFault fault
      → Waiting steps start now read frames number before after → ServeEnds steps start now read before after is_end (Err fault)
  ends_reading start now read frames number before after is_end faults.Read is w = (w.held, number, w.partial, w.served)
  ends_reading start now read frames number before after is_end faults.TooManyTurns is w = broken start now read w.held number before after w.served
  ends_reading start now read frames number before after is_end faults.Write is w = absurd is
  ends_reading start now read frames number before after is_end faults.Cut is w = absurd is
  ends_reading start now read frames number before after is_end faults.BadFrame is w = absurd is
  ends_reading start now read frames number before after is_end faults.OutOfMemory is w = absurd is

  -- what ended it at a frame ended it, whether the input has ended or not
  pub ends_anywhere : (start now : S) (read : List ℕ) (before after : Option (List ℕ)) (is_end : Type 0) (fault : ChannelFault) → ServeEnds steps start now read before after ⊥ (Err fault)
      → ServeEnds steps start now read before after is_end (Err fault)
  ends_anywhere start now read before after is_end faults.Read e = e
  ends_anywhere start now read before after is_end faults.TooManyTurns e = e
  ends_anywhere start now read before after is_end faults.Write e = e
  ends_anywhere start now read before after is_end faults.Cut e = absurd e.0
  ends_anywhere start now read before after is_end faults.BadFrame e = e
  ends_anywhere start now read before after is_end faults.OutOfMemory e = e
