-- How what is asked beside one key ends.
use Rattle.std.proofs.Common.{inl, inr, ◌≡◌, ◌≢◌, Bool, true, false, ℕ, List, [], Option, Result, Ok, Err, refl, ap, not, subst}
use Rattle.std.specs.Io.KnownBytes.{Appends}
use Rattle.bayou_base.specs.declared.entry.Entry.{Entry}
use Rattle.bayou_base.specs.declared.server.ServerId.{ServerId}
use Rattle.bayou_client.specs.declared.fault.LinkFault.{LinkFault}
use Rattle.bayou_client.specs.declared.fault.LinkFault.TheVariants.{Lost, BadFrame, Refused, OutOfMemory}
use Rattle.bayou_client.specs.Exchange.{IsGone}
use Rattle.bayou_client.specs.Inner.Exchanging.{Opens}
use Rattle.bayou_client.specs.Inner.Faults.{told_fault}
use Rattle.bayou_client.specs.Inner.Fetching.{Fetches}
use Rattle.bayou_client.specs.Lookups.{HearsOf, IsAnswer, IsRefusal, IsUnanswered, JudgesReply, Lookup, LookupEnds, LookingUp, told_held}
use Rattle.bayou_client.specs.Operating.{Asking, IsEntered, begins_read, entered_of, heard_by}
use Rattle.bayou_frames.specs.declared.fault.ChannelFault.{ChannelFault}
use Rattle.bayou_frames.specs.declared.fault.ChannelFault.TheVariants as faults
use Rattle.bayou_frames.specs.Stopping.{Stops}
use Rattle.bayou_handshake.specs.Reading.{IsTextFault}
use Rattle.bayou_wire.specs.Greetings.{greeting_bytes}

-- a reply that is no answer is a refusal, or none
pub no_answer : {A : Type 0} (lookup : Lookup A) (reply : List ℕ) (fault : LinkFault) → IsUnanswered reply fault → ((answer : A) → ¬ (IsAnswer lookup reply answer)) → JudgesReply lookup reply (Err fault)
no_answer lookup reply Lost is none = is
no_answer lookup reply BadFrame is none = (none, is)
no_answer lookup reply (Refused refusal) is none = is
no_answer lookup reply OutOfMemory is none = is

-- no whole text was received
pub unread : {T : Type 0} (bytes : T → List ℕ) (request : List ℕ) (before after : Option (List ℕ)) (read : List ℕ) (was read_failed write_failed : Bool) (turns_left : ℕ) (is_end : Type 0) (fault : ChannelFault) → was ≡ false
    → IsTextFault fault → (fault ≡ faults.Cut → is_end) → Stops read_failed write_failed turns_left fault
    → Fetches bytes request before after read was true (IsGone read_failed write_failed turns_left is_end) (Err (told_fault fault))
unread bytes request before after read was rf wf turns is_end faults.Read was_open is ends stops = (refl, inr (was_open, inl stops))
unread bytes request before after read was rf wf turns is_end faults.Write was_open is ends stops = absurd is
unread bytes request before after read was rf wf turns is_end faults.Cut was_open is ends stops = (refl, inr (was_open, inr (inr (inr (ends refl)))))
unread bytes request before after read was rf wf turns is_end faults.BadFrame was_open is ends stops = absurd is
unread bytes request before after read was rf wf turns is_end faults.TooManyTurns was_open is ends stops = (refl, inr (was_open, inr (inr (inl stops))))
unread bytes request before after read was rf wf turns is_end faults.OutOfMemory was_open is ends stops = absurd is

-- a whole text was received, and judged
pub looked : {A T : Type 0} (lookup : Lookup A) (bytes : T → List ℕ) (before after : Option (List ℕ)) (read : List ℕ) (was mid is opened : Bool) (gone : Type 0) (text : T) (told : Result A LinkFault)
    → Fetches bytes (greeting_bytes lookup.asks) before after read was mid gone (Ok text) → JudgesReply lookup (bytes text) told → Opens told opened → is ≡ not opened
    → LookupEnds lookup before after read was is gone told
looked lookup bytes before after read was mid is opened gone text (Ok answer) h judges opens closed =
    (h.0, rw (closed, opens) refl, h.1, subst (λ (r : List ℕ). IsAnswer lookup r answer) h.2 judges)
looked lookup bytes before after read was mid is opened gone text (Err (Refused refusal)) h judges opens closed =
    (h.0, rw (closed, opens) refl, h.1, subst (λ (r : List ℕ). IsRefusal r refusal) h.2 judges)
looked lookup bytes before after read was mid is opened gone text (Err BadFrame) h judges opens closed =
    (h.0, rw (closed, opens) refl, h.1, subst (λ (r : List ℕ). JudgesReply lookup r (Err BadFrame)) h.2 judges)
looked lookup bytes before after read was mid is opened gone text (Err Lost) h judges opens closed = absurd judges
looked lookup bytes before after read was mid is opened gone text (Err OutOfMemory) h judges opens closed = absurd judges

-- what was said of it is told
pub hears_looking : {A : Type 0} (looking : LookingUp A) (server : ServerId) (old new : Asking) (before after : Option (List ℕ)) (read : List ℕ) (was is : Bool) (gone : Type 0) (said told : Result A LinkFault) (entry : Option Entry)
    → said ≡ told → LookupEnds looking.lookup before after read was is gone said → new ≡ heard_by (told_held looking) (begins_read old) told → IsEntered (begins_read old).session server (entered_of looking.what said) entry
    → HearsOf looking server old new before after read was is gone (record { told = told; entry = entry })
hears_looking {A} looking server old new before after read was is gone said told entry same ends becomes entered = record {
  ends = subst (λ (r : Result A LinkFault). LookupEnds looking.lookup before after read was is gone r) same ends;
  becomes = becomes;
  entered = subst (λ (r : Result A LinkFault). IsEntered (begins_read old).session server (entered_of looking.what r) entry) same entered;
}
