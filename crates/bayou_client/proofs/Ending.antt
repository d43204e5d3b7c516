-- How a request over a link ends.
use Rattle.std.proofs.Common.{inl, inr, ◌≡◌, ◌≢◌, Bool, true, false, ℕ, List, [], Option, Result, Ok, Err, refl, not}
use Rattle.std.specs.Io.KnownBytes.{Appends}
use Rattle.std.specs.Prelude.{replicate}
use Rattle.bayou_base.specs.declared.limits.TheConstants.{SERVERS}
use Rattle.bayou_client.specs.declared.fault.LinkFault.{LinkFault}
use Rattle.bayou_client.specs.declared.fault.LinkFault.TheVariants.{Lost, BadFrame, Refused, OutOfMemory}
use Rattle.bayou_client.specs.declared.reading.Reply.{Reply}
use Rattle.bayou_client.specs.Exchange.{Asks, IsGone, Judges, LinkEnds, asks_read, asks_vector}
use Rattle.bayou_client.specs.Inner.Exchanging.{Exchanges, Opens}
use Rattle.bayou_client.specs.Inner.Faults.{told_fault}
use Rattle.bayou_client.specs.Inner.Taking.{ReplyRead}
use Rattle.bayou_frames.specs.declared.fault.ChannelFault.{ChannelFault}
use Rattle.bayou_frames.specs.declared.fault.ChannelFault.TheVariants as faults
use Rattle.bayou_frames.specs.Stopping.{IsSendFault, Stops}
use Rattle.bayou_streams.specs.Written.{AppendsFront}

-- the request wasn't sent whole
pub unsent : (many : Bool) (request : List ℕ) (before after : Option (List ℕ)) (was : Bool) (read_failed write_failed : Bool) (turns_left : ℕ) (is_end : Type 0) (fault : ChannelFault) → was ≡ false
    → IsSendFault fault → fault ≢ faults.OutOfMemory → Stops read_failed write_failed turns_left fault → AppendsFront before after request
    → Exchanges many request before after [] was true (IsGone read_failed write_failed turns_left is_end) (Err (told_fault fault))
unsent many request before after was rf wf turns is_end faults.Read was_open is some stops front = absurd is
unsent many request before after was rf wf turns is_end faults.Write was_open is some stops front = (refl, inr (was_open, inr (inl stops), inl (front, refl)))
unsent many request before after was rf wf turns is_end faults.Cut was_open is some stops front = absurd is
unsent many request before after was rf wf turns is_end faults.BadFrame was_open is some stops front = absurd is
unsent many request before after was rf wf turns is_end faults.TooManyTurns was_open is some stops front = (refl, inr (was_open, inr (inr (inl stops)), inl (front, refl)))
unsent many request before after was rf wf turns is_end faults.OutOfMemory was_open is some stops front = absurd (some refl)

-- the request was sent, and no whole reply came
pub unheard : (many : Bool) (request : List ℕ) (before after : Option (List ℕ)) (read : List ℕ) (was : Bool) (read_failed write_failed : Bool) (turns_left : ℕ) (is_end : Type 0) (fault : ChannelFault) → was ≡ false
    → ReplyRead many read is_end (Err fault) → Stops read_failed write_failed turns_left fault → Appends before after request
    → Exchanges many request before after read was true (IsGone read_failed write_failed turns_left is_end) (Err (told_fault fault))
unheard many request before after read was rf wf turns is_end faults.Read was_open less stops sent = (refl, inr (was_open, inl stops, inr (sent, less)))
unheard many request before after read was rf wf turns is_end faults.Write was_open less stops sent = absurd less
unheard many request before after read was rf wf turns is_end faults.Cut was_open less stops sent = (refl, inr (was_open, inr (inr (inr less.0)), inr (sent, less.1)))
unheard many request before after read was rf wf turns is_end faults.BadFrame was_open none stops sent = (was_open, refl, sent, none)
unheard many request before after read was rf wf turns is_end faults.TooManyTurns was_open less stops sent = (refl, inr (was_open, inr (inr (inl stops)), inr (sent, less)))
unheard many request before after read was rf wf turns is_end faults.OutOfMemory was_open less stops sent = (was_open, inr (refl, sent))

-- no whole reply was received
pub fails : {A : Type 0} (asks : Asks A) (request : List ℕ) (before after : Option (List ℕ)) (read : List ℕ) (was is : Bool) (gone : Type 0) (fault : LinkFault)
    → Exchanges asks.many request before after read was is gone (Err fault) → LinkEnds asks request before after read was is gone (Err fault)
fails asks request before after read was is gone Lost h = h
fails asks request before after read was is gone BadFrame h = (h.0, h.1, h.2, inl h.3)
fails asks request before after read was is gone (Refused refusal) h = absurd h
fails asks request before after read was is gone OutOfMemory h = h

-- a whole reply was received, and judged
pub judged : {A : Type 0} (asks : Asks A) (request : List ℕ) (before after : Option (List ℕ)) (read : List ℕ) (was mid is opened : Bool) (gone : Type 0) (reply : Reply) (told : Result A LinkFault)
    → Exchanges asks.many request before after read was mid gone (Ok reply) → Judges asks reply.writes.items reply.last told → Opens told opened → is ≡ not opened
    → LinkEnds asks request before after read was is gone told
judged asks request before after read was mid is opened gone reply (Ok answer) h judges opens closed =
    (h.0, rw (closed, opens) refl, h.1, (reply.writes.items, reply.last, h.2, judges))
judged asks request before after read was mid is opened gone reply (Err (Refused refusal)) h judges opens closed =
    (h.0, rw (closed, opens) refl, h.1, (reply.writes.items, reply.last, h.2, judges))
judged asks request before after read was mid is opened gone reply (Err BadFrame) h judges opens closed =
    (h.0, rw (closed, opens) refl, h.1, inr (reply.writes.items, reply.last, h.2, judges))
judged asks request before after read was mid is opened gone reply (Err Lost) h judges opens closed = absurd judges
judged asks request before after read was mid is opened gone reply (Err OutOfMemory) h judges opens closed = absurd judges

-- a read that needs nothing, whose vector alone is told, where there is no answer
pub tells_no_vector : (request : List ℕ) (before after : Option (List ℕ)) (read : List ℕ) (was is : Bool) (gone : Type 0) (fault : LinkFault)
    → LinkEnds (asks_read (replicate SERVERS 0)) request before after read was is gone (Err fault) → LinkEnds asks_vector request before after read was is gone (Err fault)
tells_no_vector request before after read was is gone Lost h = h
tells_no_vector request before after read was is gone (Refused refusal) h = h
tells_no_vector request before after read was is gone OutOfMemory h = h
tells_no_vector request before after read was is gone BadFrame h = (
  h.0,
  h.1,
  h.2,
  elim h.3 [
    | inl none ↦ inl none
    | inr replied ↦ inr (replied.0, replied.1, replied.2, (λ vector answers. replied.3.0 answers.0 answers.1, replied.3.1))
  ],
)
