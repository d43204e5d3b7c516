-- The bytes of greetings, which greetings have a spelling, and what decoding one answers: this project's own format. A greeting is packed as a
-- frame is: a kind and a payload after their length.
use Rattle.std.specs.Prelude.{◌≡◌, ◌≢◌, ◌⊎◌, ℕ, ◌<◌, ◌^◌, List, [], ◌∷◌, ◌++◌, Option, None, Some, Result, Ok, Err, length, IfSome}
use Rattle.std.specs.List.{flat_map}
use Rattle.std.specs.Int.{w64, to_be_bytes}
use Rattle.bayou_base.specs.Vector.{AreCounts}
use Rattle.bayou_base.specs.declared.server.ServerId.{ServerId}
use Rattle.bayou_lang.specs.Ranges.{AreAtMost, IsKey}
use Rattle.bayou_wire.specs.declared.fault.DecodeFault.{DecodeFault}
use Rattle.bayou_wire.specs.declared.fault.DecodeFault.TheVariants.{TooLong, BadKind, BadBody, Trailing}
use Rattle.bayou_wire.specs.declared.greeting.Greeting.{Greeting}
use Rattle.bayou_wire.specs.declared.greeting.Greeting.TheVariants as greetings
use Rattle.bayou_wire.specs.declared.greeting.Held.{Held}
use Rattle.bayou_wire.specs.declared.greeting.Hello.{Hello}
use Rattle.bayou_wire.specs.declared.greeting.Inquiry.{Inquiry}
use Rattle.bayou_wire.specs.declared.greeting.Known.{Known}
use Rattle.bayou_wire.specs.declared.greeting.Proving.{Proving}
use Rattle.bayou_wire.specs.declared.greeting.ServerCount.{ServerCount}
use Rattle.bayou_wire.specs.declared.greeting.Welcome.{Welcome}
use Rattle.bayou_wire.specs.declared.layout.TheConstants as layout
use Rattle.bayou_wire.specs.Digests.{AreDigests, IsDigest}
use Rattle.bayou_wire.specs.Lookups.{IsFate, IsFateAsked, IsPage, IsRowsAsked, fate_asked_bytes, fate_bytes, optional_key_bytes, page_bytes, rows_asked_bytes}
use Rattle.bayou_wire.specs.Spelling.{list_bytes, packed, u32_bytes, vector_bytes}
use Rattle.bayou_wire.specs.Stream.{HasLength, IsFaulty, IsPartial, Packs}

-- ---- values

-- a digest: a number of eight bytes
abbrev pub digest_bytes : ℕ → List ℕ
digest_bytes digest = to_be_bytes w64 digest

-- no server, or a server
abbrev pub optional_server_bytes : Option ServerId → List ℕ
optional_server_bytes None = layout.NO_SERVER ∷ []
optional_server_bytes (Some server) = server.index ∷ []

-- any number of servers, or this one
abbrev pub optional_count_bytes : Option ServerCount → List ℕ
optional_count_bytes None = layout.ANY_COUNT ∷ []
optional_count_bytes (Some servers) = servers.count ∷ []

-- that there is none, or that there is one, and it
abbrev pub optional_bytes : {T : Type 0} → (T → List ℕ) → Option T → List ℕ
optional_bytes spelling None = layout.ABSENT ∷ []
optional_bytes spelling (Some x) = layout.PRESENT ∷ spelling x

-- a digest for each server
abbrev pub digests_bytes : List ℕ → List ℕ
digests_bytes digests = flat_map digest_bytes digests

abbrev pub held_bytes : Held → List ℕ
held_bytes held = vector_bytes held.vector ++ digests_bytes held.digests

-- ---- greetings

abbrev pub hello_bytes : Hello → List ℕ
hello_bytes hello =
    hello.version ∷ (optional_server_bytes hello.asked ++ (optional_server_bytes hello.from ++ (optional_count_bytes hello.servers ++ hello.nonce)))

abbrev pub welcome_bytes : Welcome → List ℕ
welcome_bytes welcome =
    welcome.version ∷ (welcome.id.index ∷ (welcome.servers.count ∷ (optional_key_bytes welcome.name ++ (welcome.nonce ++ welcome.proof))))

abbrev pub proving_bytes : Proving → List ℕ
proving_bytes given = given.proof ++ optional_bytes held_bytes given.held

abbrev pub known_bytes : Known → List ℕ
known_bytes known =
    vector_bytes known.vector ++ (u32_bytes known.limit ++ (optional_bytes digests_bytes known.digests ++ optional_server_bytes known.without))

abbrev pub inquiry_bytes : Inquiry → List ℕ
inquiry_bytes inquiry = inquiry.origin.index ∷ list_bytes u32_bytes inquiry.counts.items

abbrev pub greeting_kind : Greeting → ℕ
greeting_kind (greetings.Hello hello) = layout.KIND_HELLO
greeting_kind (greetings.Proof given) = layout.KIND_PROOF
greeting_kind (greetings.Digests inquiry) = layout.KIND_DIGESTS
greeting_kind (greetings.Welcome welcome) = layout.KIND_WELCOME
greeting_kind (greetings.Known known) = layout.KIND_KNOWN
greeting_kind (greetings.Differs origin) = layout.KIND_DIFFERS
greeting_kind (greetings.Digested digests) = layout.KIND_DIGESTED
greeting_kind (greetings.List asked) = layout.KIND_LIST
greeting_kind (greetings.Became asked) = layout.KIND_BECAME
greeting_kind (greetings.Listed page) = layout.KIND_LISTED
greeting_kind (greetings.Outcome fate) = layout.KIND_OUTCOME

abbrev pub greeting_payload : Greeting → List ℕ
greeting_payload (greetings.Hello hello) = hello_bytes hello
greeting_payload (greetings.Proof given) = proving_bytes given
greeting_payload (greetings.Digests inquiry) = inquiry_bytes inquiry
greeting_payload (greetings.Welcome welcome) = welcome_bytes welcome
greeting_payload (greetings.Known known) = known_bytes known
greeting_payload (greetings.Differs origin) = origin.index ∷ []
greeting_payload (greetings.Digested digests) = list_bytes digest_bytes digests.items
greeting_payload (greetings.List asked) = rows_asked_bytes asked
greeting_payload (greetings.Became asked) = fate_asked_bytes asked
greeting_payload (greetings.Listed page) = page_bytes page
greeting_payload (greetings.Outcome fate) = fate_bytes fate

abbrev pub greeting_bytes : Greeting → List ℕ
greeting_bytes greeting = packed (greeting_kind greeting) (greeting_payload greeting)

-- which of them have a spelling

abbrev pub IsNonce : List ℕ → Type 0
IsNonce nonce = length nonce ≡ layout.NONCE_BYTES

abbrev pub IsProof : List ℕ → Type 0
IsProof given = length given ≡ layout.PROOF_BYTES

abbrev pub IsHeld : Held → Type 0
IsHeld held = AreCounts held.vector × AreDigests held.digests

abbrev pub IsHello : Hello → Type 0
IsHello hello = (hello.version < 256) × IsNonce hello.nonce

abbrev pub IsWelcome : Welcome → Type 0
IsWelcome welcome = (welcome.version < 256) × IfSome welcome.name IsKey × IsNonce welcome.nonce × IsProof welcome.proof

abbrev pub IsProving : Proving → Type 0
IsProving given = IsProof given.proof × IfSome given.held IsHeld

abbrev pub IsKnown : Known → Type 0
IsKnown known = AreCounts known.vector × (known.limit < 2 ^ 32) × IfSome known.digests AreDigests

abbrev pub IsInquiry : Inquiry → Type 0
IsInquiry inquiry = AreAtMost layout.DIGESTS_AT_ONCE (λ count. count < 2 ^ 32) inquiry.counts.items

abbrev pub IsGreeting : Greeting → Type 0
IsGreeting (greetings.Hello hello) = IsHello hello
IsGreeting (greetings.Proof given) = IsProving given
IsGreeting (greetings.Digests inquiry) = IsInquiry inquiry
IsGreeting (greetings.Welcome welcome) = IsWelcome welcome
IsGreeting (greetings.Known known) = IsKnown known
IsGreeting (greetings.Differs origin) = Unit {0}
IsGreeting (greetings.Digested digests) = AreAtMost layout.DIGESTS_AT_ONCE IsDigest digests.items
IsGreeting (greetings.List asked) = IsRowsAsked asked
IsGreeting (greetings.Became asked) = IsFateAsked asked
IsGreeting (greetings.Listed page) = IsPage page
IsGreeting (greetings.Outcome fate) = IsFate fate

-- ---- whole inputs

-- the bytes are the one spelling of the greeting
pub record SpellsGreeting (bytes : List ℕ) (greeting : Greeting) : Type 0 where
  pub is : IsGreeting greeting
  pub spelled : bytes ≡ greeting_bytes greeting

-- some greeting has this kind
abbrev pub IsGreetingKind : ℕ → Type 0
IsGreetingKind kind = (greeting : Greeting) × (greeting_kind greeting ≡ kind)

-- the payload begins with a whole payload of this kind, and this stands after it
abbrev pub GreetingBegins : ℕ → List ℕ → List ℕ → Type 0
GreetingBegins kind payload rest =
    (greeting : Greeting) × IsGreeting greeting × (greeting_kind greeting ≡ kind) × (payload ≡ greeting_payload greeting ++ rest)

-- what is wrong with a kind and a payload, after which this stands
abbrev pub IsGreetingFault : ℕ → List ℕ → List ℕ → DecodeFault → Type 0
IsGreetingFault kind payload more BadKind = ¬ (IsGreetingKind kind)
IsGreetingFault kind payload more Trailing = (rest : List ℕ) × (rest ++ more ≢ []) × GreetingBegins kind payload rest
IsGreetingFault kind payload more BadBody = IsGreetingKind kind × ((rest : List ℕ) → ¬ (GreetingBegins kind payload rest))
IsGreetingFault kind payload more TooLong = ⊥

-- the bytes begin with a whole kind and payload, of which this is wrong
abbrev pub HasGreetingFault : List ℕ → DecodeFault → Type 0
HasGreetingFault bytes fault =
    (kind : ℕ) × (payload : List ℕ) × (more : List ℕ) × Packs bytes kind payload more × IsGreetingFault kind payload more fault

-- What decoding a greeting answers. BadBody: less than a whole one, a length of 0, or a payload that isn't one of its kind.
abbrev pub GreetingAnswer : List ℕ → Result Greeting DecodeFault → Type 0
GreetingAnswer bytes (Ok greeting) = SpellsGreeting bytes greeting
GreetingAnswer bytes (Err TooLong) = IsFaulty bytes TooLong
GreetingAnswer bytes (Err BadKind) = HasGreetingFault bytes BadKind
GreetingAnswer bytes (Err BadBody) = IsPartial bytes ⊎ (HasLength bytes 0 ⊎ HasGreetingFault bytes BadBody)
GreetingAnswer bytes (Err Trailing) = HasGreetingFault bytes Trailing
