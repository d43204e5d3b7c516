-- What the steps of asking beside one key come to. No public clause cites it.
use Rattle.std.specs.Prelude.{◌≡◌, ◌⊎◌, ℕ, Bool, true, false, List, [], Option, Result, Ok, Err}
use Rattle.std.specs.Io.KnownBytes.{Appends}
use Rattle.bayou_client.specs.declared.fault.LinkFault.{LinkFault}
use Rattle.bayou_client.specs.declared.fault.LinkFault.TheVariants.{Lost, BadFrame, Refused, OutOfMemory}

-- the bytes of a reply were received, over a link that is closed until they are judged; or none
abbrev pub Fetches : {T : Type 0} → (bytes : T → List ℕ) → (request : List ℕ) → (before after : Option (List ℕ)) → (read : List ℕ) → (was_closed is_closed : Bool) → (gone : Type 0) → Result T LinkFault → Type 0
Fetches bytes request before after read was_closed is_closed gone (Ok reply) = (was_closed ≡ false) × Appends before after request × (bytes reply ≡ read)
Fetches bytes request before after read was_closed is_closed gone (Err Lost) =
    (is_closed ≡ true) × (((was_closed ≡ true) × (after ≡ before) × (read ≡ [])) ⊎ ((was_closed ≡ false) × gone))
Fetches bytes request before after read was_closed is_closed gone (Err BadFrame) = ⊥
Fetches bytes request before after read was_closed is_closed gone (Err (Refused refusal)) = ⊥
Fetches bytes request before after read was_closed is_closed gone (Err OutOfMemory) = (was_closed ≡ false) × (is_closed ≡ false) × (after ≡ before) × (read ≡ [])
