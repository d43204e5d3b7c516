-- Reading greetings from left to right: what stands at the front of bytes, and the bytes after it. No public clause cites this.
use Rattle.std.proofs.lemmas.Bool.{ltb-true, leb-true}
use Rattle.std.specs.Prelude.{refl, ◌≡◌, ◌⊎◌, ℕ, Bool, true, false, List, [], ◌∷◌, Option, None, Some, Result, Ok, Err, length, take, drop, nat_lt, nat_le, ◌==◌, ◌||◌, if◌then◌else◌}
use Rattle.std.specs.Int.{w32, w64}
use Rattle.bayou_base.specs.declared.limits.TheConstants.{SERVERS}
use Rattle.bayou_wire.specs.declared.fault.DecodeFault.{DecodeFault}
use Rattle.bayou_wire.specs.declared.fault.DecodeFault.TheVariants as faults
use Rattle.bayou_wire.specs.declared.greeting.Greeting.{Greeting}
use Rattle.bayou_wire.specs.declared.greeting.Greeting.TheVariants as greetings
use Rattle.bayou_wire.specs.declared.greeting.Held.{Held}
use Rattle.bayou_wire.specs.declared.greeting.Hello.{Hello}
use Rattle.bayou_wire.specs.declared.greeting.Inquiry.{Inquiry}
use Rattle.bayou_wire.specs.declared.greeting.Known.{Known}
use Rattle.bayou_wire.specs.declared.greeting.Proving.{Proving}
use Rattle.bayou_wire.specs.declared.greeting.ServerCount.{ServerCount}
use Rattle.bayou_wire.specs.declared.greeting.Welcome.{Welcome}
use Rattle.bayou_wire.specs.declared.greeting_take.Unpacked.{Unpacked}
use Rattle.bayou_wire.specs.declared.layout.TheConstants as layout
use Rattle.bayou_wire.specs.Greetings.{IsGreeting, IsGreetingFault, greeting_kind, greeting_payload}
use Rattle.bayou_wire.specs.Inner.Lookups.{fate_asked_at, fate_at, optional_key_at, page_at, rows_asked_at}
use Rattle.bayou_wire.specs.Inner.Reading.{Read, ◌>>=◌, both, byte_at, list_at, made, number_at, server_of, times, vector_at}
use Rattle.bayou_wire.specs.Stream.{HasLength, IsFaulty, IsPartial, Packs}

-- ---- values

-- so many bytes
abbrev pub fixed_at : ℕ → List ℕ → Read (List ℕ)
fixed_at size bytes = if nat_lt (length bytes) size then None else Some (take size bytes, drop size bytes)

-- what a byte names
unfoldable pub named_at : {T : Type 0} → (ℕ → Option T) → List ℕ → Read T
named_at named bytes = byte_at bytes >>= λ byte. named byte.0 >>= λ x. Some (x, byte.1)

-- that there is none, as this byte says, or what the byte names
unfoldable pub named_or_at : {T : Type 0} → ℕ → (ℕ → Option T) → List ℕ → Read (Option T)
named_or_at none named [] = None
named_or_at none named (byte ∷ bytes) = if byte == none then Some (None, bytes) else made (λ x. Some x) (named_at named) (byte ∷ bytes)

-- so many servers, where a store has so many
abbrev pub count_if : (n : ℕ) (above below : Bool) → nat_lt 0 n ≡ above → nat_le n SERVERS ≡ below → Option ServerCount
count_if n true true above below = Some (record { count = n; in_range = (ltb-true 0 n above, leb-true n SERVERS below) })
count_if n true false above below = None
count_if n false true above below = None
count_if n false false above below = None

unfoldable pub count_of : ℕ → Option ServerCount
count_of n = count_if n (nat_lt 0 n) (nat_le n SERVERS) refl refl

-- that there is none, or that there is one, and it
unfoldable pub optional_at : {T : Type 0} → (List ℕ → Read T) → List ℕ → Read (Option T)
optional_at at [] = None
optional_at at (first ∷ bytes) =
    if first == layout.ABSENT then Some (None, bytes)
    else (if first == layout.PRESENT then made (λ x. Some x) at bytes else None)

-- a digest for each server
unfoldable pub digests_at : List ℕ → Read (List ℕ)
digests_at bytes = times SERVERS (number_at w64) bytes

unfoldable pub held_at : List ℕ → Read Held
held_at bytes = made (λ p. record { vector = p.0; digests = p.1 }) (both vector_at digests_at) bytes

-- ---- greetings

unfoldable pub hello_at : List ℕ → Read Hello
hello_at bytes =
    made (λ p. record { version = p.0; asked = p.1.0; from = p.1.1.0; servers = p.1.1.1.0; nonce = p.1.1.1.1 })
    (both byte_at (both (named_or_at layout.NO_SERVER server_of) (both (named_or_at layout.NO_SERVER server_of)
    (both (named_or_at layout.ANY_COUNT count_of) (fixed_at layout.NONCE_BYTES))))) bytes

unfoldable pub welcome_at : List ℕ → Read Welcome
welcome_at bytes =
    made (λ p. record { version = p.0; id = p.1.0; servers = p.1.1.0; name = p.1.1.1.0; nonce = p.1.1.1.1.0; proof = p.1.1.1.1.1 })
    (both byte_at (both (named_at server_of) (both (named_at count_of) (both optional_key_at
    (both (fixed_at layout.NONCE_BYTES) (fixed_at layout.PROOF_BYTES)))))) bytes

unfoldable pub proving_at : List ℕ → Read Proving
proving_at bytes = made (λ p. record { proof = p.0; held = p.1 }) (both (fixed_at layout.PROOF_BYTES) (optional_at held_at)) bytes

unfoldable pub known_at : List ℕ → Read Known
known_at bytes =
    made (λ p. record { vector = p.0; limit = p.1.0; digests = p.1.1.0; without = p.1.1.1 })
    (both vector_at (both (number_at w32) (both (optional_at digests_at) (named_or_at layout.NO_SERVER server_of)))) bytes

unfoldable pub inquiry_at : List ℕ → Read Inquiry
inquiry_at bytes =
    made (λ p. record { origin = p.0; counts = record { items = p.1 } })
    (both (named_at server_of) (list_at layout.DIGESTS_AT_ONCE (number_at w32))) bytes

unfoldable pub greeting_reply_at : ℕ → List ℕ → Read Greeting
greeting_reply_at kind bytes =
    if kind == layout.KIND_WELCOME then made greetings.Welcome welcome_at bytes
    else (if kind == layout.KIND_KNOWN then made greetings.Known known_at bytes
    else (if kind == layout.KIND_DIFFERS then made greetings.Differs (named_at server_of) bytes
    else (if kind == layout.KIND_DIGESTED
    then made (λ digests. greetings.Digested (record { items = digests })) (list_at layout.DIGESTS_AT_ONCE (number_at w64)) bytes
    else (if kind == layout.KIND_LISTED then made greetings.Listed page_at bytes
    else (if kind == layout.KIND_OUTCOME then made greetings.Outcome fate_at bytes
    else None)))))

unfoldable pub greeting_at : ℕ → List ℕ → Read Greeting
greeting_at kind bytes =
    if kind == layout.KIND_HELLO then made greetings.Hello hello_at bytes
    else (if kind == layout.KIND_PROOF then made greetings.Proof proving_at bytes
    else (if kind == layout.KIND_DIGESTS then made greetings.Digests inquiry_at bytes
    else (if kind == layout.KIND_LIST then made greetings.List rows_asked_at bytes
    else (if kind == layout.KIND_BECAME then made greetings.Became fate_asked_at bytes
    else greeting_reply_at kind bytes))))

-- whether some greeting has the kind
unfoldable pub is_greeting_kind : ℕ → Bool
is_greeting_kind kind =
    (kind == layout.KIND_HELLO) || (kind == layout.KIND_PROOF) || (kind == layout.KIND_DIGESTS) || (kind == layout.KIND_WELCOME)
    || (kind == layout.KIND_KNOWN) || (kind == layout.KIND_DIFFERS) || (kind == layout.KIND_DIGESTED)
    || (kind == layout.KIND_LIST) || (kind == layout.KIND_BECAME) || (kind == layout.KIND_LISTED) || (kind == layout.KIND_OUTCOME)

-- what bytes are as a kind and a payload, and what stands after it
abbrev pub IsUnpacked : List ℕ → Result Unpacked DecodeFault → Type 0
IsUnpacked bytes (Ok unpacked) = Packs bytes unpacked.kind unpacked.payload.now unpacked.behind.now
IsUnpacked bytes (Err faults.TooLong) = IsFaulty bytes faults.TooLong
IsUnpacked bytes (Err faults.BadBody) = IsPartial bytes ⊎ HasLength bytes 0
IsUnpacked bytes (Err faults.BadKind) = ⊥
IsUnpacked bytes (Err faults.Trailing) = ⊥

-- what a kind and a payload are, after which this stands
abbrev pub UnpackedAnswer : ℕ → List ℕ → List ℕ → Result Greeting DecodeFault → Type 0
UnpackedAnswer kind payload more (Ok greeting) =
    IsGreeting greeting × (greeting_kind greeting ≡ kind) × (payload ≡ greeting_payload greeting) × (more ≡ [])
UnpackedAnswer kind payload more (Err fault) = IsGreetingFault kind payload more fault
