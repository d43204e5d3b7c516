-- How one request over a link ends (Terry et al. 1994, in this project's own frames).
use Rattle.std.specs.Prelude.{◌≡◌, ◌⊎◌, ℕ, Bool, true, false, List, [], Option, Result, Ok, Err, length, replicate}
use Rattle.std.specs.Io.KnownBytes.{Appends}
use Rattle.bayou_base.specs.declared.answer.Accepted.{Accepted}
use Rattle.bayou_base.specs.declared.answer.Seen.{Seen}
use Rattle.bayou_base.specs.declared.server.ServerId.{ServerId}
use Rattle.bayou_base.specs.declared.limits.TheConstants.{SERVERS}
use Rattle.bayou_base.specs.declared.wid.Wid.{Wid}
use Rattle.bayou_base.specs.Refusal.{refuses_operation, refuses_reopening}
use Rattle.bayou_base.specs.Vector.{Dominates}
use Rattle.bayou_client.specs.declared.fault.LinkFault.{LinkFault}
use Rattle.bayou_client.specs.declared.fault.LinkFault.TheVariants.{Lost, BadFrame, Refused, OutOfMemory}
use Rattle.bayou_client.specs.Replies.{IsNoReply, IsReply, IsUnfinished}
use Rattle.bayou_lang.specs.declared.write.Write.{Write}
use Rattle.bayou_streams.specs.Written.{AppendsFront}
use Rattle.bayou_wire.specs.declared.frame.Frame.{Frame}
use Rattle.bayou_wire.specs.declared.frame.Frame.TheVariants as frames
use Rattle.bayou_base.specs.declared.refusal.Refusal.{Refusal}
use Rattle.std.specs.Global.{Vec}

-- What is asked: whether Items are asked for, which whole reply is which answer, and what it may be refused for.
pub record Asks (A : Type 0) : Type 1 where
  pub many : Bool
  pub answers : List Write → Frame → A → Type 0
  pub may_refuse : Refusal → Bool

-- a read is served by a Seen that has what was needed
abbrev pub asks_read : (need : List ℕ) → Asks Seen
asks_read need = record {
  many = false;
  answers = λ writes last seen. (last ≡ frames.Seen seen) × Dominates seen.vector need;
  may_refuse = refuses_operation;
}

-- a program is accepted by the server asked, which had what was needed
abbrev pub asks_write : (need : List ℕ) → ServerId → Asks Accepted
asks_write need server = record {
  many = false;
  answers = λ writes last accepted. (last ≡ frames.Accepted accepted) × Dominates accepted.deps need × (accepted.wid.origin.index ≡ server.index);
  may_refuse = refuses_operation;
}

-- what its server held is the vector of a Seen, to a read that needs nothing
abbrev pub asks_vector : Asks (List ℕ)
asks_vector = record {
  many = false;
  answers = λ writes last vector. (seen : Seen) × (asks_read (replicate SERVERS 0)).answers writes last seen × (vector ≡ seen.vector);
  may_refuse = refuses_operation;
}

abbrev pub asks_reopening : Asks (Option Wid)
asks_reopening = record { many = false; answers = λ writes last adopted. last ≡ frames.Reopened adopted; may_refuse = refuses_reopening }

-- a dump, or what a vector lacks, is the Writes of the Items, and an End of their number; it may be refused for anything
abbrev pub asks_dump : Asks (Vec Write)
asks_dump = record {
  many = true;
  answers = λ writes last dump. (dump.items ≡ writes) × (last ≡ frames.End (length writes));
  may_refuse = λ refusal. true;
}

-- the whole reply is a refusal, of what may be refused so
abbrev pub Refuses : {A : Type 0} → Asks A → List Write → Frame → Refusal → Type 0
Refuses asks writes last refusal = (writes ≡ []) × (last ≡ frames.Refused refusal) × (asks.may_refuse refusal ≡ true)

-- What a whole reply is to the request: its answer, or a refusal, or neither.
abbrev pub Judges : {A : Type 0} → Asks A → List Write → Frame → Result A LinkFault → Type 0
Judges asks writes last (Ok answer) = asks.answers writes last answer
Judges asks writes last (Err (Refused refusal)) = Refuses asks writes last refusal
Judges {A} asks writes last (Err BadFrame) = ((answer : A) → ¬ (asks.answers writes last answer)) × ((refusal : Refusal) → ¬ (Refuses asks writes last refusal))
Judges asks writes last (Err Lost) = ⊥
Judges asks writes last (Err OutOfMemory) = ⊥

-- a stream failed or has ended, or no turn is left
abbrev pub IsGone : (read_failed write_failed : Bool) → (turns_left : ℕ) → (is_end : Type 0) → Type 0
IsGone read_failed write_failed turns_left is_end = (read_failed ≡ true) ⊎ ((write_failed ≡ true) ⊎ ((turns_left ≡ 0) ⊎ is_end))

-- Nothing was received but less than a reply: nothing was sent over a link that was closed; or the streams ended it, with a front of the
-- request written, or all of it.
abbrev pub IsLost : Bool → (request : List ℕ) → (before after : Option (List ℕ)) → (read : List ℕ) → (was_closed : Bool) → (gone : Type 0) → Type 0
IsLost many request before after read was_closed gone =
    ((was_closed ≡ true) × (after ≡ before) × (read ≡ []))
    ⊎ ((was_closed ≡ false) × gone
    × ((AppendsFront before after request × (read ≡ [])) ⊎ (Appends before after request × IsUnfinished many read)))

-- Memory was wanting: before anything was sent, and then the link is open still; or once the whole request was sent, and then it is closed.
abbrev pub IsWanting : (request : List ℕ) → (before after : Option (List ℕ)) → (read : List ℕ) → (is_closed : Bool) → Type 0
IsWanting request before after read is_closed =
    ((is_closed ≡ false) × (after ≡ before) × (read ≡ [])) ⊎ ((is_closed ≡ true) × Appends before after request)

-- How a request ends: what was written and read, whether the link was closed and is closed, and where a stream is gone. It is open
-- exactly where the server's answer was received, and where nothing was sent for want of memory.
abbrev pub LinkEnds : {A : Type 0} → Asks A → (request : List ℕ) → (before after : Option (List ℕ)) → (read : List ℕ) → (was_closed is_closed : Bool) → (gone : Type 0) → Result A LinkFault → Type 0
LinkEnds asks request before after read was_closed is_closed gone (Ok answer) =
    (was_closed ≡ false) × (is_closed ≡ false) × Appends before after request
    × ((writes : List Write) × (last : Frame) × IsReply asks.many read writes last × asks.answers writes last answer)
LinkEnds asks request before after read was_closed is_closed gone (Err (Refused refusal)) =
    (was_closed ≡ false) × (is_closed ≡ false) × Appends before after request
    × ((writes : List Write) × (last : Frame) × IsReply asks.many read writes last × Refuses asks writes last refusal)
LinkEnds asks request before after read was_closed is_closed gone (Err BadFrame) =
    (was_closed ≡ false) × (is_closed ≡ true) × Appends before after request
    × (IsNoReply asks.many read
    ⊎ ((writes : List Write) × (last : Frame) × IsReply asks.many read writes last × Judges asks writes last (Err BadFrame)))
LinkEnds asks request before after read was_closed is_closed gone (Err Lost) =
    (is_closed ≡ true) × IsLost asks.many request before after read was_closed gone
LinkEnds asks request before after read was_closed is_closed gone (Err OutOfMemory) =
    (was_closed ≡ false) × IsWanting request before after read is_closed
