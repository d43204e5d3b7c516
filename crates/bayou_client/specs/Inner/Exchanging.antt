-- What the steps of a request come to. No public clause cites it.
use Rattle.std.specs.Prelude.{◌≡◌, ℕ, Bool, true, false, List, Option, Result, Ok, Err}
use Rattle.std.specs.Io.KnownBytes.{Appends}
use Rattle.bayou_client.specs.declared.fault.LinkFault.{LinkFault}
use Rattle.bayou_client.specs.declared.fault.LinkFault.TheVariants.{Lost, BadFrame, Refused, OutOfMemory}
use Rattle.bayou_client.specs.declared.reading.Reply.{Reply}
use Rattle.bayou_client.specs.Exchange.{IsLost, IsWanting}
use Rattle.bayou_client.specs.Replies.{IsNoReply, IsReply}

-- a whole reply was received, over a link that is closed until it is judged; or none
abbrev pub Exchanges : Bool → (request : List ℕ) → (before after : Option (List ℕ)) → (read : List ℕ) → (was_closed is_closed : Bool) → (gone : Type 0) → Result Reply LinkFault → Type 0
Exchanges many request before after read was_closed is_closed gone (Ok reply) =
    (was_closed ≡ false) × Appends before after request × IsReply many read reply.writes.items reply.last
Exchanges many request before after read was_closed is_closed gone (Err Lost) =
    (is_closed ≡ true) × IsLost many request before after read was_closed gone
Exchanges many request before after read was_closed is_closed gone (Err BadFrame) =
    (was_closed ≡ false) × (is_closed ≡ true) × Appends before after request × IsNoReply many read
Exchanges many request before after read was_closed is_closed gone (Err (Refused refusal)) = ⊥
Exchanges many request before after read was_closed is_closed gone (Err OutOfMemory) =
    (was_closed ≡ false) × IsWanting request before after read is_closed

-- the server's answer was received
abbrev pub Opens : {A : Type 0} → Result A LinkFault → Bool → Type 0
Opens (Ok answer) is = is ≡ true
Opens (Err (Refused refusal)) is = is ≡ true
Opens (Err Lost) is = is ≡ false
Opens (Err BadFrame) is = is ≡ false
Opens (Err OutOfMemory) is = is ≡ false
