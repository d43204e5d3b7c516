-- Greetings: what is read is what was spelled, what is spelled is read, and of each input there is one answer.
use Rattle.std.proofs.Common.{◌≡◌, ◌≢◌, ℕ, ◌+◌, ◌*◌, ◌^◌, ◌<◌, ◌≤◌, Bool, true, false, cond, List, [], ◌∷◌, ◌++◌, length, take, drop, Option, None, Some, Result, Ok, Err, refl, sym, ap, subst, ◌∙◌, arith, inl, inr}
use Rattle.std.specs.Prelude.{◌==◌, ◌||◌, ◌⊎◌, ◌↔◌, nat_le, nat_lt, IsSome, IfSome}
use Rattle.std.specs.List.{flat_map}
use Rattle.std.specs.Int.{w32, w64}
use Rattle.std.specs.Coded.{×_prop, le_prop}
use Rattle.std.proofs.lemmas.Bool.{ltb-true, ltb-false, leb-true, leb-false, le-ltb, eqb-true}
use Rattle.std.proofs.lemmas.List.{append-nil, take_at, drop_at, take-append-drop, length-append, length-take, nil_from_length}
use Rattle.std.proofs.lemmas.Option.{none-some, same_Some, option_and_then_some}
use Rattle.bayou_base.specs.declared.limits.TheConstants.{SERVERS, MAX_FRAME_BYTES}
use Rattle.bayou_base.specs.declared.server.ServerId.{ServerId}
use Rattle.bayou_base.specs.declared.wid.Wid.{Wid}
use Rattle.bayou_lang.specs.Ranges.{AreAtMost}
use Rattle.bayou_wire.specs.declared.fault.DecodeFault.{DecodeFault}
use Rattle.bayou_wire.specs.declared.fault.DecodeFault.TheVariants.{TooLong, BadKind, BadBody, Trailing}
use Rattle.bayou_wire.specs.declared.frame.Frame.{Frame}
use Rattle.bayou_wire.specs.declared.frame.Frame.TheVariants as frames
use Rattle.bayou_wire.specs.declared.greeting.Greeting.{Greeting}
use Rattle.bayou_wire.specs.declared.greeting.Greeting.TheVariants as greetings
use Rattle.bayou_wire.specs.declared.greeting.Held.{Held}
use Rattle.bayou_wire.specs.declared.greeting.Hello.{Hello}
use Rattle.bayou_wire.specs.declared.greeting.Known.{Known}
use Rattle.bayou_wire.specs.declared.greeting.Proving.{Proving}
use Rattle.bayou_wire.specs.declared.greeting.ServerCount.{ServerCount}
use Rattle.bayou_wire.specs.declared.greeting.Welcome.{Welcome}
use Rattle.bayou_wire.specs.declared.layout.TheConstants as layout
use Rattle.bayou_wire.specs.declared.layout.TheConstants.{LENGTH_BYTES, NONCE_BYTES, PROOF_BYTES, DIGESTS_AT_ONCE}
use Rattle.bayou_wire.specs.Digests.{AreDigests, IsDigest}
use Rattle.bayou_wire.specs.Greetings.{digest_bytes, digests_bytes, optional_server_bytes, optional_count_bytes, optional_bytes, held_bytes, hello_bytes, welcome_bytes, proving_bytes, known_bytes, inquiry_bytes, greeting_kind, greeting_payload, greeting_bytes, IsHeld, IsHello, IsWelcome, IsProving, IsKnown, IsInquiry, IsGreeting, SpellsGreeting, IsGreetingKind, GreetingBegins, IsGreetingFault, GreetingAnswer}
use Rattle.bayou_wire.specs.Inner.Greetings.{fixed_at, named_at, named_or_at, count_if, count_of, optional_at, digests_at, held_at, hello_at, welcome_at, proving_at, known_at, inquiry_at, greeting_reply_at, greeting_at, is_greeting_kind, IsUnpacked, UnpackedAnswer}
use Rattle.bayou_wire.specs.Inner.Reading.{Read, ◌>>=◌, both, byte_at, is_kind, list_at, made, number_at, server_of, times, vector_at}
use Rattle.bayou_wire.specs.Spelling.{IsFrame, frame_bytes, kind_of, list_bytes, packed, payload_bytes, u32_bytes, vector_bytes}
use Rattle.bayou_wire.specs.Stream.{Packs, HasLength, IsFaulty, IsPartial}
use Rattle.bayou_wire.specs.Laws.Inner.Formats.{IsBytes, IsFormat, begins_one, none_begins, both_format, byte_format, chosen, list_format, made_again, made_format, made_takes, case_takes, number_format, times_takes, times_again, u32_format, vector_format, wide64}
use Rattle.bayou_wire.specs.Laws.Inner.Fronts.{frame_packs, has_one_length, length_at-has, one_packed, packed_length, packed_not_partial, partial_length}
use Rattle.bayou_wire.specs.Laws.Inner.Lookups.{fate_asked_format, fate_asked_size, fate_format, fate_size, optional_key_format, optional_key_size, page_format, page_size, rows_asked_format, rows_asked_size, same_format}
use Rattle.bayou_wire.specs.Lookups.{optional_key_bytes}
use Rattle.bayou_wire.specs.Inner.Lookups.{optional_key_at}
use Rattle.bayou_wire.specs.Laws.Inner.Payloads.{bare_takes, is_kind-false, link}
use Rattle.bayou_wire.specs.Laws.Inner.Readers.{server_of-from, server_of-is}
use Rattle.bayou_wire.specs.Laws.Inner.Vectors.{length-vector_bytes}

-- ---- values

u64_format : IsFormat IsDigest digest_bytes (number_at w64)
u64_format = number_format w64 (2 ^ 64) wide64

fixed_format : (size : ℕ) → IsFormat (λ (x : List ℕ). length x ≡ size) (λ x. x) (fixed_at size)
fixed_format size = record { takes = takes; again = again }
  where
    takes : (bytes : List ℕ) (x : List ℕ × List ℕ) → IsBytes bytes → fixed_at size bytes ≡ Some x → (length x.0 ≡ size) × (bytes ≡ x.0 ++ x.1)
    takes bytes x fits e =
        elim (chosen (nat_lt (length bytes) size) None (Some (take size bytes, drop size bytes)) (Some x) e) [
          | inl h ↦ absurd (none-some x h.1)
          | inr h ↦
              let long : size ≤ length bytes = ltb-false _ _ h.0 in
              let len : length (take size bytes) ≡ size = omega (arith, length-take size bytes) in
              subst (λ (v : List ℕ × List ℕ). (length v.0 ≡ size) × (bytes ≡ v.0 ++ v.1)) (same_Some (take size bytes, drop size bytes) x h.1)
              (len, sym (take-append-drop size bytes))
        ]

    again : (value rest : List ℕ) → length value ≡ size → fixed_at size (value ++ rest) ≡ Some (value, rest)
    again value rest is =
        let long : nat_lt (length (value ++ rest)) size ≡ false = le-ltb _ _ (omega (arith, length-append value rest)) in
        rw (long, take_at value rest size is, drop_at value rest size is) refl

abbrev Any : {T : Type 0} → T → Type 0
Any x = Unit {0}

named_format : {T : Type 0} (index : T → ℕ) (named : ℕ → Option T) → ((x : T) → named (index x) ≡ Some x) → ((n : ℕ) (x : T) → named n ≡ Some x → index x ≡ n)
    → IsFormat {T = T} Any (λ x. index x ∷ []) (named_at named)
unfolding named_at
named_format {T} index named is from = record { takes = takes; again = again }
  where
    takes : (bytes : List ℕ) (x : T × List ℕ) → IsBytes bytes → (byte_at bytes >>= λ byte. named byte.0 >>= λ y. Some (y, byte.1)) ≡ Some x → Unit {0} × (bytes ≡ (index x.0 ∷ []) ++ x.1)
    takes bytes x fits e =
        option_and_then_some (λ byte. named byte.0 >>= λ y. Some (y, byte.1)) (byte_at bytes) x e (λ byte first rest.
        option_and_then_some (λ y. Some (y, byte.1)) (named byte.0) x rest (λ y second same.
        let t = byte_format.takes bytes byte fits first in
        let whole : bytes ≡ (index y ∷ []) ++ byte.1 = rw (from byte.0 y second) t.1 in
        subst (λ (v : T × List ℕ). Unit {0} × (bytes ≡ (index v.0 ∷ []) ++ v.1)) (same_Some (y, byte.1) x same) (tt, whole)))

    again : (value : T) (rest : List ℕ) → Unit {0} → named_at named ((index value ∷ []) ++ rest) ≡ Some (value, rest)
    again value rest u = rw (is value) refl

named_or_format : {T : Type 0} (none : ℕ) (index : T → ℕ) (named : ℕ → Option T) (spells : Option T → List ℕ) → (none == none) ≡ true → spells None ≡ none ∷ []
    → ((x : T) → spells (Some x) ≡ index x ∷ []) → ((x : T) → (index x == none) ≡ false) → IsFormat {T = T} Any (λ x. index x ∷ []) (named_at named)
    → IsFormat {T = Option T} Any spells (named_or_at none named)
unfolding named_or_at
named_or_format {T} none index named spells same_none of_none of_some other format = record { takes = takes; again = again }
  where
    some : (bytes : List ℕ) (x : Option T × List ℕ) → IsBytes bytes → made (λ y. Some y) (named_at named) bytes ≡ Some x → Unit {0} × (bytes ≡ spells x.0 ++ x.1)
    some bytes x fits e =
        let t = made_takes (λ y. Some y) format bytes x fits e in
        let whole : bytes ≡ spells (Some t.0) ++ x.1 = rw (of_some t.0) t.3 in
        subst (λ (v : Option T). Unit {0} × (bytes ≡ spells v ++ x.1)) (sym t.2) (tt, whole)

    takes : (bytes : List ℕ) (x : Option T × List ℕ) → IsBytes bytes → named_or_at none named bytes ≡ Some x → Unit {0} × (bytes ≡ spells x.0 ++ x.1)
    takes [] x fits e = absurd (none-some x e)
    takes (byte ∷ bytes) x fits e =
        link byte none (Some (None, bytes)) (made (λ y. Some y) (named_at named) (byte ∷ bytes)) x e
        (λ same here. bare_takes Any spells none None tt of_none byte bytes x same here)
        (λ there. some (byte ∷ bytes) x fits there)

    again : (value : Option T) (rest : List ℕ) → Unit {0} → named_or_at none named (spells value ++ rest) ≡ Some (value, rest)
    again None rest u = rw (of_none, same_none) refl
    again (Some x) rest u = rw (of_some x, other x) (made_again (λ y. Some y) format x rest tt)

-- ---- how many servers there are

count_prop : (n : ℕ) → IsProp ((0 < n) × (n ≤ SERVERS))
count_prop n = ×_prop le_prop le_prop

count-ext : (c d : ServerCount) → c.count ≡ d.count → c ≡ d
count-ext c d same = subst (λ (n : ℕ). (within : (0 < n) × (n ≤ SERVERS)) → c ≡ record { count = n; in_range = within }) same (λ within. ap (λ w. record { count = c.count; in_range = w }) (count_prop c.count c.in_range within)) d.in_range

count_if-is : (n : ℕ) (above below : Bool) (a : nat_lt 0 n ≡ above) (b : nat_le n SERVERS ≡ below) (c : ServerCount) → c.count ≡ n → count_if n above below a b ≡ Some c
count_if-is n true true a b c same = ap (λ x. Some x) (count-ext _ c (sym same))
count_if-is n true false a b c same = let out : SERVERS < n = leb-false _ _ b in absurd (omega (arith, c.in_range.1))
count_if-is n false true a b c same = let out : n ≤ 0 = ltb-false _ _ a in absurd (omega (arith, c.in_range.0))
count_if-is n false false a b c same = let out : n ≤ 0 = ltb-false _ _ a in absurd (omega (arith, c.in_range.0))

count_of-is : (c : ServerCount) → count_of c.count ≡ Some c
unfolding count_of
count_of-is c = count_if-is c.count _ _ refl refl c refl

count_if-none : (n : ℕ) (above below : Bool) (a : nat_lt 0 n ≡ above) (b : nat_le n SERVERS ≡ below) → ¬ ((0 < n) × (n ≤ SERVERS)) → count_if n above below a b ≡ None
count_if-none n true true a b out = absurd (out (ltb-true 0 n a, leb-true n SERVERS b))
count_if-none n true false a b out = refl
count_if-none n false true a b out = refl
count_if-none n false false a b out = refl

pub count_of-given : (n : ℕ) (given : Option ServerCount) → IsSome given ↔ ((0 < n) × (n ≤ SERVERS)) → IfSome given (λ c. c.count ≡ n) → given ≡ count_of n
unfolding count_of
count_of-given n (Some c) within same = sym (count_if-is n _ _ refl refl c same)
count_of-given n None within same = sym (count_if-none n _ _ refl refl (λ h. absurd (let e : false ≡ true = within.1 h in cc)))

count_if-from : (n : ℕ) (above below : Bool) (a : nat_lt 0 n ≡ above) (b : nat_le n SERVERS ≡ below) (c : ServerCount) → count_if n above below a b ≡ Some c → c.count ≡ n
count_if-from n true true a b c same = ap (λ (d : ServerCount). d.count) (sym (same_Some _ c same))
count_if-from n true false a b c same = absurd (none-some c same)
count_if-from n false true a b c same = absurd (none-some c same)
count_if-from n false false a b c same = absurd (none-some c same)

count_of-from : (n : ℕ) (c : ServerCount) → count_of n ≡ Some c → c.count ≡ n
unfolding count_of
count_of-from n c same = count_if-from n _ _ refl refl c same

count_format : IsFormat {T = ServerCount} Any (λ c. c.count ∷ []) (named_at count_of)
count_format = named_format (λ c. c.count) count_of count_of-is count_of-from

server_format : IsFormat {T = ServerId} Any (λ s. s.index ∷ []) (named_at server_of)
server_format = named_format (λ s. s.index) server_of server_of-is server_of-from

-- no count is that of any number
not_any : (c : ServerCount) → (c.count == layout.ANY_COUNT) ≡ false
not_any c =
    elim (c.count == layout.ANY_COUNT) as (λ b. (c.count == layout.ANY_COUNT) ≡ b → b ≡ false) [
      | true ↦ λ e. absurd (omega (arith, c.in_range.0, eqb-true c.count layout.ANY_COUNT e))
      | false ↦ λ _. refl
    ] refl

-- no server's index is that of none
not_none : (s : ServerId) → (s.index == layout.NO_SERVER) ≡ false
not_none s =
    elim (s.index == layout.NO_SERVER) as (λ b. (s.index == layout.NO_SERVER) ≡ b → b ≡ false) [
      | true ↦ λ e. absurd (omega (arith, s.in_range, eqb-true s.index layout.NO_SERVER e))
      | false ↦ λ _. refl
    ] refl

optional_count_format : IsFormat {T = Option ServerCount} Any optional_count_bytes (named_or_at layout.ANY_COUNT count_of)
optional_count_format = named_or_format layout.ANY_COUNT (λ c. c.count) count_of optional_count_bytes refl refl (λ x. refl) not_any count_format

optional_server_format : IsFormat {T = Option ServerId} Any optional_server_bytes (named_or_at layout.NO_SERVER server_of)
optional_server_format = named_or_format layout.NO_SERVER (λ s. s.index) server_of optional_server_bytes refl refl (λ x. refl) not_none server_format

-- ---- what may be there

optional_format : {T : Type 0} {Is : T → Type 0} {spelling : T → List ℕ} {at : List ℕ → Read T} → IsFormat Is spelling at
    → IsFormat (λ (o : Option T). IfSome o Is) (optional_bytes spelling) (optional_at at)
unfolding optional_at
optional_format {T} {Is} {spelling} {at} format = record { takes = takes; again = again }
  where
    takes : (bytes : List ℕ) (x : Option T × List ℕ) → IsBytes bytes → optional_at at bytes ≡ Some x → IfSome x.0 Is × (bytes ≡ optional_bytes spelling x.0 ++ x.1)
    takes [] x fits e = absurd (none-some x e)
    takes (first ∷ bytes) x fits e =
        link first layout.ABSENT (Some (None, bytes)) (cond (first == layout.PRESENT) (made (λ y. Some y) at bytes) None) x e
        (λ same here. bare_takes (λ (o : Option T). IfSome o Is) (optional_bytes spelling) layout.ABSENT None tt refl first bytes x same here)
        (λ there. link first layout.PRESENT (made (λ y. Some y) at bytes) None x there
        (λ same here. case_takes (λ (o : Option T). IfSome o Is) (optional_bytes spelling) layout.PRESENT (λ y. Some y) format (λ y is. is) (λ y. refl) first bytes x fits same here)
        (λ none. absurd (none-some x none)))

    again : (value : Option T) (rest : List ℕ) → IfSome value Is → optional_at at (optional_bytes spelling value ++ rest) ≡ Some (value, rest)
    again None rest is = refl
    again (Some y) rest is = made_again (λ y. Some y) format y rest is

-- ---- digests

digests_format : IsFormat AreDigests digests_bytes digests_at
unfolding digests_at
digests_format = record {
  takes = λ bytes x fits e. let t = times_takes u64_format SERVERS bytes x fits e in ((t.0, t.1), t.2);
  again = λ digests rest are. ap (λ n. times n (number_at w64) (digests_bytes digests ++ rest)) (sym are.0) ∙ times_again u64_format digests rest are.1;
}

held_format : IsFormat IsHeld held_bytes held_at
unfolding held_at
held_format = record { takes = parts.takes; again = parts.again }
  where
    parts : IsFormat IsHeld held_bytes (made (λ (p : List ℕ × List ℕ). record { vector = p.0; digests = p.1 }) (both vector_at digests_at))
    parts = made_format _ (λ held. (held.vector, held.digests)) (λ x. refl) (λ x. refl) (both_format vector_format digests_format)

-- ---- greetings

hello_format : IsFormat IsHello hello_bytes hello_at
unfolding hello_at
hello_format = record { takes = parts.takes; again = parts.again }
  where
    parts : IsFormat IsHello hello_bytes (made (λ (p : ℕ × (Option ServerId × (Option ServerId × (Option ServerCount × List ℕ)))). record { version = p.0; asked = p.1.0; from = p.1.1.0; servers = p.1.1.1.0; nonce = p.1.1.1.1 })
        (both byte_at (both (named_or_at layout.NO_SERVER server_of) (both (named_or_at layout.NO_SERVER server_of) (both (named_or_at layout.ANY_COUNT count_of) (fixed_at NONCE_BYTES))))))
    parts = same_format IsHello (λ x is. (is.0, is.1.1.1.1)) (λ x is. (is.0, (tt, (tt, (tt, is.1)))))
        (made_format _ (λ hello. (hello.version, (hello.asked, (hello.from, (hello.servers, hello.nonce))))) (λ x. refl) (λ x. refl)
        (both_format byte_format (both_format optional_server_format (both_format optional_server_format (both_format optional_count_format (fixed_format NONCE_BYTES))))))

welcome_format : IsFormat IsWelcome welcome_bytes welcome_at
unfolding welcome_at
welcome_format = record { takes = parts.takes; again = parts.again }
  where
    parts : IsFormat IsWelcome welcome_bytes (made (λ (p : ℕ × (ServerId × (ServerCount × (Option (List ℕ) × (List ℕ × List ℕ))))). record { version = p.0; id = p.1.0; servers = p.1.1.0; name = p.1.1.1.0; nonce = p.1.1.1.1.0; proof = p.1.1.1.1.1 })
        (both byte_at (both (named_at server_of) (both (named_at count_of) (both optional_key_at (both (fixed_at NONCE_BYTES) (fixed_at PROOF_BYTES)))))))
    parts = same_format IsWelcome (λ x is. (is.0, is.1.1.1.0, is.1.1.1.1.0, is.1.1.1.1.1)) (λ x is. (is.0, (tt, (tt, (is.1, (is.2, is.3))))))
        (made_format _ (λ welcome. (welcome.version, (welcome.id, (welcome.servers, (welcome.name, (welcome.nonce, welcome.proof)))))) (λ x. refl) (λ x. refl)
        (both_format byte_format (both_format server_format (both_format count_format (both_format optional_key_format (both_format (fixed_format NONCE_BYTES) (fixed_format PROOF_BYTES)))))))

proving_format : IsFormat IsProving proving_bytes proving_at
unfolding proving_at
proving_format = record { takes = parts.takes; again = parts.again }
  where
    parts : IsFormat IsProving proving_bytes (made (λ (p : List ℕ × Option Held). record { proof = p.0; held = p.1 }) (both (fixed_at PROOF_BYTES) (optional_at held_at)))
    parts = made_format _ (λ given. (given.proof, given.held)) (λ x. refl) (λ x. refl) (both_format (fixed_format PROOF_BYTES) (optional_format held_format))

known_format : IsFormat IsKnown known_bytes known_at
unfolding known_at
known_format = record { takes = parts.takes; again = parts.again }
  where
    parts : IsFormat IsKnown known_bytes (made (λ (p : List ℕ × (ℕ × (Option (List ℕ) × Option ServerId))). record { vector = p.0; limit = p.1.0; digests = p.1.1.0; without = p.1.1.1 })
        (both vector_at (both (number_at w32) (both (optional_at digests_at) (named_or_at layout.NO_SERVER server_of)))))
    parts = same_format IsKnown (λ x is. (is.0, is.1.0, is.1.1.0)) (λ x is. (is.0, (is.1, (is.2, tt))))
        (made_format _ (λ known. (known.vector, (known.limit, (known.digests, known.without)))) (λ x. refl) (λ x. refl)
        (both_format vector_format (both_format u32_format (both_format (optional_format digests_format) optional_server_format))))

inquiry_format : IsFormat IsInquiry inquiry_bytes inquiry_at
unfolding inquiry_at
inquiry_format = record { takes = parts.takes; again = parts.again }
  where
    parts : IsFormat IsInquiry inquiry_bytes (made (λ (p : ServerId × List ℕ). record { origin = p.0; counts = record { items = p.1 } }) (both (named_at server_of) (list_at DIGESTS_AT_ONCE (number_at w32))))
    parts = same_format IsInquiry (λ x is. is.1) (λ x is. (tt, is))
        (made_format _ (λ inquiry. (inquiry.origin, inquiry.counts.items)) (λ x. refl) (λ x. refl) (both_format server_format (list_format DIGESTS_AT_ONCE u32_format)))

digested_format : IsFormat (AreAtMost DIGESTS_AT_ONCE IsDigest) (list_bytes digest_bytes) (list_at DIGESTS_AT_ONCE (number_at w64))
digested_format = list_format DIGESTS_AT_ONCE u64_format

-- ---- greetings by their kind

abbrev IsGreetingOf : ℕ → Greeting → Type 0
IsGreetingOf kind greeting = IsGreeting greeting × (greeting_kind greeting ≡ kind)

kind_takes : {A : Type 0} {IsA : A → Type 0} {a : A → List ℕ} {at : List ℕ → Read A} (is : ℕ) (make : A → Greeting)
    → IsFormat IsA a at → ((y : A) → IsA y → IsGreeting (make y)) → ((y : A) → greeting_kind (make y) ≡ is) → ((y : A) → greeting_payload (make y) ≡ a y)
    → (kind : ℕ) (bytes : List ℕ) (x : Greeting × List ℕ) → IsBytes bytes → (kind == is) ≡ true → made make at bytes ≡ Some x → IsGreetingOf kind x.0 × (bytes ≡ greeting_payload x.0 ++ x.1)
kind_takes is make format greeting kind_is spells kind bytes x fits same e =
    let t = made_takes make format bytes x fits e in
    let of_kind : greeting_kind (make t.0) ≡ kind = kind_is t.0 ∙ sym (eqb-true kind is same) in
    subst (λ (f : Greeting). IsGreetingOf kind f × (bytes ≡ greeting_payload f ++ x.1)) (sym t.2) ((greeting t.0 t.1, of_kind), rw (spells t.0) t.3)

reply_takes : (kind : ℕ) (bytes : List ℕ) (x : Greeting × List ℕ) → IsBytes bytes → greeting_reply_at kind bytes ≡ Some x → IsGreetingOf kind x.0 × (bytes ≡ greeting_payload x.0 ++ x.1)
unfolding greeting_reply_at
reply_takes kind bytes x fits e =
    link kind layout.KIND_WELCOME _ _ x e (λ same here. kind_takes layout.KIND_WELCOME greetings.Welcome welcome_format (λ y is. is) (λ y. refl) (λ y. refl) kind bytes x fits same here) (λ e.
    link kind layout.KIND_KNOWN _ _ x e (λ same here. kind_takes layout.KIND_KNOWN greetings.Known known_format (λ y is. is) (λ y. refl) (λ y. refl) kind bytes x fits same here) (λ e.
    link kind layout.KIND_DIFFERS _ _ x e (λ same here. kind_takes layout.KIND_DIFFERS greetings.Differs server_format (λ y is. is) (λ y. refl) (λ y. refl) kind bytes x fits same here) (λ e.
    link kind layout.KIND_DIGESTED _ _ x e (λ same here. kind_takes layout.KIND_DIGESTED (λ digests. greetings.Digested (record { items = digests })) digested_format (λ y is. is) (λ y. refl) (λ y. refl) kind bytes x fits same here) (λ e.
    link kind layout.KIND_LISTED _ _ x e (λ same here. kind_takes layout.KIND_LISTED greetings.Listed page_format (λ y is. is) (λ y. refl) (λ y. refl) kind bytes x fits same here) (λ e.
    link kind layout.KIND_OUTCOME _ _ x e (λ same here. kind_takes layout.KIND_OUTCOME greetings.Outcome fate_format (λ y is. is) (λ y. refl) (λ y. refl) kind bytes x fits same here) (λ none.
    absurd (none-some x none)))))))

greeting_takes : (kind : ℕ) (bytes : List ℕ) (x : Greeting × List ℕ) → IsBytes bytes → greeting_at kind bytes ≡ Some x → IsGreetingOf kind x.0 × (bytes ≡ greeting_payload x.0 ++ x.1)
unfolding greeting_at
greeting_takes kind bytes x fits e =
    link kind layout.KIND_HELLO _ _ x e (λ same here. kind_takes layout.KIND_HELLO greetings.Hello hello_format (λ y is. is) (λ y. refl) (λ y. refl) kind bytes x fits same here) (λ e.
    link kind layout.KIND_PROOF _ _ x e (λ same here. kind_takes layout.KIND_PROOF greetings.Proof proving_format (λ y is. is) (λ y. refl) (λ y. refl) kind bytes x fits same here) (λ e.
    link kind layout.KIND_DIGESTS _ _ x e (λ same here. kind_takes layout.KIND_DIGESTS greetings.Digests inquiry_format (λ y is. is) (λ y. refl) (λ y. refl) kind bytes x fits same here) (λ e.
    link kind layout.KIND_LIST _ _ x e (λ same here. kind_takes layout.KIND_LIST greetings.List rows_asked_format (λ y is. is) (λ y. refl) (λ y. refl) kind bytes x fits same here) (λ e.
    link kind layout.KIND_BECAME _ _ x e (λ same here. kind_takes layout.KIND_BECAME greetings.Became fate_asked_format (λ y is. is) (λ y. refl) (λ y. refl) kind bytes x fits same here) (λ e.
    reply_takes kind bytes x fits e)))))

greeting_again : (greeting : Greeting) (rest : List ℕ) → IsGreeting greeting → greeting_at (greeting_kind greeting) (greeting_payload greeting ++ rest) ≡ Some (greeting, rest)
unfolding greeting_at greeting_reply_at
greeting_again (greetings.Hello hello) rest is = made_again greetings.Hello hello_format hello rest is
greeting_again (greetings.Proof given) rest is = made_again greetings.Proof proving_format given rest is
greeting_again (greetings.Digests inquiry) rest is = made_again greetings.Digests inquiry_format inquiry rest is
greeting_again (greetings.Welcome welcome) rest is = made_again greetings.Welcome welcome_format welcome rest is
greeting_again (greetings.Known known) rest is = made_again greetings.Known known_format known rest is
greeting_again (greetings.Differs origin) rest is = made_again greetings.Differs server_format origin rest is
greeting_again (greetings.Digested digests) rest is = made_again (λ (xs : List ℕ). greetings.Digested (record { items = xs })) digested_format digests.items rest is
greeting_again (greetings.List asked) rest is = made_again greetings.List rows_asked_format asked rest is
greeting_again (greetings.Became asked) rest is = made_again greetings.Became fate_asked_format asked rest is
greeting_again (greetings.Listed page) rest is = made_again greetings.Listed page_format page rest is
greeting_again (greetings.Outcome fate) rest is = made_again greetings.Outcome fate_format fate rest is

pub greeting_format : (kind : ℕ) → IsFormat (IsGreetingOf kind) greeting_payload (greeting_at kind)
greeting_format kind = record { takes = greeting_takes kind; again = again }
  where
    again : (greeting : Greeting) (rest : List ℕ) → IsGreetingOf kind greeting → greeting_at kind (greeting_payload greeting ++ rest) ≡ Some (greeting, rest)
    again greeting rest is = ap (λ k. greeting_at k (greeting_payload greeting ++ rest)) (sym is.1) ∙ greeting_again greeting rest is.0

-- ---- kinds

kind_is_kind : (greeting : Greeting) → is_greeting_kind (greeting_kind greeting) ≡ true
unfolding is_greeting_kind
kind_is_kind (greetings.Hello hello) = refl
kind_is_kind (greetings.Proof given) = refl
kind_is_kind (greetings.Digests inquiry) = refl
kind_is_kind (greetings.Welcome welcome) = refl
kind_is_kind (greetings.Known known) = refl
kind_is_kind (greetings.Differs origin) = refl
kind_is_kind (greetings.Digested digests) = refl
kind_is_kind (greetings.List asked) = refl
kind_is_kind (greetings.Became asked) = refl
kind_is_kind (greetings.Listed page) = refl
kind_is_kind (greetings.Outcome fate) = refl

pub is_greeting_kind-false : (kind : ℕ) → is_greeting_kind kind ≡ false → IsGreetingKind kind → ⊥
is_greeting_kind-false kind none is = let e : true ≡ false = sym (kind_is_kind is.0) ∙ ap is_greeting_kind is.1 ∙ none in cc

some_server : ServerId
some_server = record { index = 0; in_range = omega arith }

some_wid : Wid
some_wid = record { origin = some_server; seq = 1; in_range = (omega arith, omega arith) }

some_hello : Hello
some_hello = record { version = 0; asked = None; from = None; servers = None; nonce = [] }

some_welcome : Welcome
some_welcome = record { version = 0; id = some_server; servers = record { count = 1; in_range = (omega arith, omega arith) }; name = None; nonce = []; proof = [] }

or_cases : (a b : Bool) → (a || b) ≡ true → (a ≡ true) ⊎ (b ≡ true)
or_cases true b e = inl refl
or_cases false b e = inr e

or_kind : (greeting : Greeting) (kind : ℕ) (before : Bool) → (before || (kind == greeting_kind greeting)) ≡ true → (before ≡ true → IsGreetingKind kind) → IsGreetingKind kind
or_kind greeting kind before e others =
    elim (or_cases before (kind == greeting_kind greeting) e) [
      | inl h ↦ others h
      | inr same ↦ (greeting, sym (eqb-true kind (greeting_kind greeting) same))
    ]

pub is_greeting_kind-true : (kind : ℕ) → is_greeting_kind kind ≡ true → IsGreetingKind kind
unfolding is_greeting_kind
is_greeting_kind-true kind e =
    or_kind (greetings.Outcome (record { vector = []; placed = None })) kind _ e (λ e.
    or_kind (greetings.Listed (record { vector = []; more = false; rows = record { items = [] } })) kind _ e (λ e.
    or_kind (greetings.Became (record { need = []; wid = some_wid })) kind _ e (λ e.
    or_kind (greetings.List (record { need = []; prefix = []; after = None; most = 0 })) kind _ e (λ e.
    or_kind (greetings.Digested (record { items = [] })) kind _ e (λ e.
    or_kind (greetings.Differs some_server) kind _ e (λ e.
    or_kind (greetings.Known (record { vector = []; limit = 0; digests = None; without = None })) kind _ e (λ e.
    or_kind (greetings.Welcome some_welcome) kind _ e (λ e.
    or_kind (greetings.Digests (record { origin = some_server; counts = record { items = [] } })) kind _ e (λ e.
    or_kind (greetings.Proof (record { proof = []; held = None })) kind _ e (λ e.
    (greetings.Hello some_hello, sym (eqb-true kind (greeting_kind (greetings.Hello some_hello)) e))))))))))))

-- ---- sizes

digests_size : (digests : List ℕ) → length (digests_bytes digests) ≡ 8 * length digests
digests_size [] = refl
digests_size (digest ∷ digests) = omega (arith, length-append (digest_bytes digest) (digests_bytes digests), digests_size digests)

counts_size : (counts : List ℕ) → length (flat_map u32_bytes counts) ≡ 4 * length counts
counts_size [] = refl
counts_size (count ∷ counts) = omega (arith, length-append (u32_bytes count) (flat_map u32_bytes counts), counts_size counts)

held_size : (held : Held) → IsHeld held → length (held_bytes held) ≡ 12 * SERVERS
held_size held is = omega (arith, length-append (vector_bytes held.vector) (digests_bytes held.digests), length-vector_bytes held.vector, digests_size held.digests, is.1.0)

optional_server_size : (server : Option ServerId) → length (optional_server_bytes server) ≡ 1
optional_server_size None = refl
optional_server_size (Some server) = refl

optional_count_size : (servers : Option ServerCount) → length (optional_count_bytes servers) ≡ 1
optional_count_size None = refl
optional_count_size (Some servers) = refl

optional_held_size : (held : Option Held) → IfSome held IsHeld → length (optional_bytes held_bytes held) ≤ 12 * SERVERS + 1
optional_held_size None is = omega arith
optional_held_size (Some held) is = omega (arith, held_size held is)

optional_digests_size : (digests : Option (List ℕ)) → IfSome digests AreDigests → length (optional_bytes digests_bytes digests) ≤ 8 * SERVERS + 1
optional_digests_size None is = omega arith
optional_digests_size (Some digests) is = omega (arith, digests_size digests, is.0)

hello_size : (hello : Hello) → IsHello hello → length (hello_bytes hello) ≤ 64
hello_size hello is =
    let server = optional_server_bytes hello.asked in
    let from = optional_server_bytes hello.from in
    let count = optional_count_bytes hello.servers in
    omega (
      arith,
      length-append server (from ++ (count ++ hello.nonce)),
      length-append from (count ++ hello.nonce),
      length-append count hello.nonce,
      optional_server_size hello.asked,
      optional_server_size hello.from,
      optional_count_size hello.servers,
      is.1,
    )

welcome_size : (welcome : Welcome) → IsWelcome welcome → length (welcome_bytes welcome) ≤ 128
welcome_size welcome is =
    let name = optional_key_bytes welcome.name in
    omega (arith, length-append name (welcome.nonce ++ welcome.proof), length-append welcome.nonce welcome.proof, optional_key_size welcome.name is.1, is.2, is.3)

proving_size : (given : Proving) → IsProving given → length (proving_bytes given) ≤ 256
proving_size given is = omega (arith, length-append given.proof (optional_bytes held_bytes given.held), optional_held_size given.held is.1, is.0)

known_size : (known : Known) → IsKnown known → length (known_bytes known) ≤ 256
known_size known is =
    let digests = optional_bytes digests_bytes known.digests in
    let without = optional_server_bytes known.without in
    omega (
      arith,
      length-append (vector_bytes known.vector) (u32_bytes known.limit ++ (digests ++ without)),
      length-append (u32_bytes known.limit) (digests ++ without),
      length-append digests without,
      length-vector_bytes known.vector,
      optional_digests_size known.digests is.2,
      optional_server_size known.without,
    )

pub greeting_is_short : (greeting : Greeting) → IsGreeting greeting → length (greeting_payload greeting) < MAX_FRAME_BYTES
greeting_is_short (greetings.Hello hello) is = omega (arith, hello_size hello is)
greeting_is_short (greetings.Proof given) is = omega (arith, proving_size given is)
greeting_is_short (greetings.Digests inquiry) is = omega (arith, counts_size inquiry.counts.items, is.0)
greeting_is_short (greetings.Welcome welcome) is = omega (arith, welcome_size welcome is)
greeting_is_short (greetings.Known known) is = omega (arith, known_size known is)
greeting_is_short (greetings.Differs origin) is = omega arith
greeting_is_short (greetings.Digested digests) is = omega (arith, digests_size digests.items, is.0)
greeting_is_short (greetings.List asked) is = omega (arith, rows_asked_size asked is)
greeting_is_short (greetings.Became asked) is = omega (arith, fate_asked_size asked)
greeting_is_short (greetings.Listed page) is = omega (arith, page_size page is)
greeting_is_short (greetings.Outcome fate) is = omega (arith, fate_size fate)

pub greeted_size : (bytes : List ℕ) (greeting : Greeting) → SpellsGreeting bytes greeting → length bytes ≤ LENGTH_BYTES + MAX_FRAME_BYTES
greeted_size bytes greeting s = omega (arith, ap length s.spelled, greeting_is_short greeting s.is)

-- ---- what a kind and a payload are

not_nil : (rest : List ℕ) → 1 ≤ length rest → rest ≢ []
not_nil rest some nothing = absurd (omega (arith, ap length nothing))

pub unpacked-none : (kind : ℕ) (payload more : List ℕ) → IsGreetingKind kind → greeting_at kind payload ≡ None → IsGreetingFault kind payload more BadBody
unpacked-none kind payload more is none = (is, λ rest begins. none_begins (greeting_format kind) payload none begins.0 rest (begins.1, begins.2) begins.3)

pub unpacked-whole : (kind : ℕ) (payload more rest : List ℕ) (greeting : Greeting) → IsBytes payload → greeting_at kind payload ≡ Some (greeting, rest) → length rest < 1 → length more < 1
    → UnpackedAnswer kind payload more (Ok greeting)
unpacked-whole kind payload more rest greeting fits e nothing none =
    let t = (greeting_format kind).takes payload (greeting, rest) fits e in
    let empty : rest ≡ [] = nil_from_length rest (omega arith) in
    (t.0.0, t.0.1, t.1 ∙ ap (λ s. greeting_payload greeting ++ s) empty ∙ append-nil (greeting_payload greeting), nil_from_length more (omega arith))

pub unpacked-more : (kind : ℕ) (payload more rest : List ℕ) (greeting : Greeting) → IsBytes payload → greeting_at kind payload ≡ Some (greeting, rest) → 1 ≤ length rest + length more
    → IsGreetingFault kind payload more Trailing
unpacked-more kind payload more rest greeting fits e some =
    let t = (greeting_format kind).takes payload (greeting, rest) fits e in
    (rest, not_nil (rest ++ more) (omega (arith, length-append rest more)), (greeting, t.0.0, t.0.1, t.1))

-- payloads of one kind: none begins another
one_payload : (kind : ℕ) (a b : Greeting) (x y : List ℕ) → IsGreetingOf kind a → IsGreetingOf kind b → greeting_payload a ++ x ≡ greeting_payload b ++ y → (a ≡ b) × (x ≡ y)
one_payload kind = begins_one (greeting_format kind)

abbrev whole_begins : (kind : ℕ) (payload more : List ℕ) (greeting : Greeting) → UnpackedAnswer kind payload more (Ok greeting) → GreetingBegins kind payload []
whole_begins kind payload more greeting w = (greeting, w.0, w.1, w.2 ∙ sym (append-nil (greeting_payload greeting)))

one_beginning : (kind : ℕ) (payload x y : List ℕ) (a : GreetingBegins kind payload x) (b : GreetingBegins kind payload y) → (a.0 ≡ b.0) × (x ≡ y)
one_beginning kind payload x y a b = one_payload kind a.0 b.0 x y (a.1, a.2) (b.1, b.2) (sym a.3 ∙ b.3)

-- a whole one has no fault
whole_no_fault : (kind : ℕ) (payload more : List ℕ) (greeting : Greeting) (fault : DecodeFault) → UnpackedAnswer kind payload more (Ok greeting) → IsGreetingFault kind payload more fault → ⊥
whole_no_fault kind payload more greeting TooLong w f = absurd f
whole_no_fault kind payload more greeting BadKind w f = f (greeting, w.1)
whole_no_fault kind payload more greeting BadBody w f = f.1 [] (whole_begins kind payload more greeting w)
whole_no_fault kind payload more greeting Trailing w f =
    let same = one_beginning kind payload [] f.0 (whole_begins kind payload more greeting w) f.2 in
    f.1 (ap (λ rest. rest ++ more) (sym same.1) ∙ w.3)

begins_has_kind : (kind : ℕ) (payload rest : List ℕ) → GreetingBegins kind payload rest → IsGreetingKind kind
begins_has_kind kind payload rest b = (b.0, b.2)

one_fault : (kind : ℕ) (payload more : List ℕ) (a b : DecodeFault) → IsGreetingFault kind payload more a → IsGreetingFault kind payload more b → a ≡ b
one_fault kind payload more TooLong b f g = absurd f
one_fault kind payload more BadKind TooLong f g = absurd g
one_fault kind payload more BadKind BadKind f g = refl
one_fault kind payload more BadKind BadBody f g = absurd (f g.0)
one_fault kind payload more BadKind Trailing f g = absurd (f (begins_has_kind kind payload g.0 g.2))
one_fault kind payload more BadBody TooLong f g = absurd g
one_fault kind payload more BadBody BadKind f g = absurd (g f.0)
one_fault kind payload more BadBody BadBody f g = refl
one_fault kind payload more BadBody Trailing f g = absurd (f.1 g.0 g.2)
one_fault kind payload more Trailing TooLong f g = absurd g
one_fault kind payload more Trailing BadKind f g = absurd (g (begins_has_kind kind payload f.0 f.2))
one_fault kind payload more Trailing BadBody f g = absurd (g.1 f.0 f.2)
one_fault kind payload more Trailing Trailing f g = refl

one_unpacked : (kind : ℕ) (payload more : List ℕ) (a b : Result Greeting DecodeFault) → UnpackedAnswer kind payload more a → UnpackedAnswer kind payload more b → a ≡ b
one_unpacked kind payload more (Ok v) (Ok w) a b =
    ap (λ x. Ok x) (one_beginning kind payload [] [] (whole_begins kind payload more v a) (whole_begins kind payload more w b)).0
one_unpacked kind payload more (Ok v) (Err fault) a b = absurd (whole_no_fault kind payload more v fault a b)
one_unpacked kind payload more (Err fault) (Ok w) a b = absurd (whole_no_fault kind payload more w fault b a)
one_unpacked kind payload more (Err f) (Err g) a b = ap (λ x. Err x) (one_fault kind payload more f g a b)

-- ---- whole inputs

-- a whole kind and payload, and what it is
abbrev ByWhole : List ℕ → Result Greeting DecodeFault → Type 0
ByWhole bytes answer = (kind : ℕ) × (payload : List ℕ) × (more : List ℕ) × Packs bytes kind payload more × UnpackedAnswer kind payload more answer

-- the four ways to an answer
abbrev Way : List ℕ → Result Greeting DecodeFault → Type 0
Way bytes answer =
    (IsPartial bytes × (answer ≡ Err BadBody)) ⊎ ((HasLength bytes 0 × (answer ≡ Err BadBody)) ⊎ ((IsFaulty bytes TooLong × (answer ≡ Err TooLong)) ⊎ ByWhole bytes answer))

way : (bytes : List ℕ) (answer : Result Greeting DecodeFault) → GreetingAnswer bytes answer → Way bytes answer
way bytes (Ok greeting) a =
    let packs : Packs bytes (greeting_kind greeting) (greeting_payload greeting) [] = record { short = greeting_is_short greeting a.is; begins = a.spelled ∙ sym (append-nil (greeting_bytes greeting)) } in
    inr (inr (inr (greeting_kind greeting, greeting_payload greeting, [], packs, (a.is, refl, refl, refl))))
way bytes (Err TooLong) a = inr (inr (inl (a, refl)))
way bytes (Err BadKind) a = inr (inr (inr a))
way bytes (Err BadBody) (inl partial) = inl (partial, refl)
way bytes (Err BadBody) (inr (inl none)) = inr (inl (none, refl))
way bytes (Err BadBody) (inr (inr a)) = inr (inr (inr a))
way bytes (Err Trailing) a = inr (inr (inr a))

one_whole : (bytes : List ℕ) (a b : Result Greeting DecodeFault) → ByWhole bytes a → ByWhole bytes b → a ≡ b
one_whole bytes a b v w =
    let same = one_packed bytes v.0 w.0 v.1 w.1 v.2 w.2 v.3 w.3 in
    one_unpacked w.0 w.1 w.2 a b
    (subst (λ (k : ℕ). UnpackedAnswer k w.1 w.2 a) same.0 (subst (λ (p : List ℕ). UnpackedAnswer v.0 p w.2 a) same.1 (subst (λ (m : List ℕ). UnpackedAnswer v.0 v.1 m a) same.2 v.4))) w.4

partial_not_long : (bytes : List ℕ) → IsPartial bytes → IsFaulty bytes TooLong → ⊥
partial_not_long bytes p f = absurd (omega (arith, f.1, (partial_length bytes f.0 f.2.1.0 p (length_at-has bytes f.0 f.2)).0))

whole_not_long : (bytes : List ℕ) (answer : Result Greeting DecodeFault) → ByWhole bytes answer → IsFaulty bytes TooLong → ⊥
whole_not_long bytes answer w f = absurd (omega (arith, f.1, w.3.short, packed_length bytes f.0 w.0 w.1 w.2 f.2 w.3))

whole_not_empty : (bytes : List ℕ) (answer : Result Greeting DecodeFault) → ByWhole bytes answer → HasLength bytes 0 → ⊥
whole_not_empty bytes answer w none = absurd (omega (arith, packed_length bytes 0 w.0 w.1 w.2 none w.3))

empty_not_long : (bytes : List ℕ) → HasLength bytes 0 → IsFaulty bytes TooLong → ⊥
empty_not_long bytes none f = absurd (omega (arith, f.1, has_one_length bytes f.0 0 f.2 none))

one_way : (bytes : List ℕ) (a b : Result Greeting DecodeFault) → Way bytes a → Way bytes b → a ≡ b
one_way bytes a b (inl p) (inl q) = p.1 ∙ sym q.1
one_way bytes a b (inl p) (inr (inl q)) = p.1 ∙ sym q.1
one_way bytes a b (inl p) (inr (inr (inl f))) = absurd (partial_not_long bytes p.0 f.0)
one_way bytes a b (inl p) (inr (inr (inr w))) = absurd (packed_not_partial bytes w.0 w.1 w.2 w.3 p.0)
one_way bytes a b (inr (inl p)) (inl q) = p.1 ∙ sym q.1
one_way bytes a b (inr (inl p)) (inr (inl q)) = p.1 ∙ sym q.1
one_way bytes a b (inr (inl p)) (inr (inr (inl f))) = absurd (empty_not_long bytes p.0 f.0)
one_way bytes a b (inr (inl p)) (inr (inr (inr w))) = absurd (whole_not_empty bytes b w p.0)
one_way bytes a b (inr (inr (inl f))) (inl q) = absurd (partial_not_long bytes q.0 f.0)
one_way bytes a b (inr (inr (inl f))) (inr (inl q)) = absurd (empty_not_long bytes q.0 f.0)
one_way bytes a b (inr (inr (inl f))) (inr (inr (inl g))) = f.1 ∙ sym g.1
one_way bytes a b (inr (inr (inl f))) (inr (inr (inr w))) = absurd (whole_not_long bytes b w f.0)
one_way bytes a b (inr (inr (inr v))) (inl q) = absurd (packed_not_partial bytes v.0 v.1 v.2 v.3 q.0)
one_way bytes a b (inr (inr (inr v))) (inr (inl q)) = absurd (whole_not_empty bytes a v q.0)
one_way bytes a b (inr (inr (inr v))) (inr (inr (inl g))) = absurd (whole_not_long bytes a v g.0)
one_way bytes a b (inr (inr (inr v))) (inr (inr (inr w))) = one_whole bytes a b v w

-- a greeting's answer is one
pub one_greeting_answer : (bytes : List ℕ) (a b : Result Greeting DecodeFault) → GreetingAnswer bytes a → GreetingAnswer bytes b → a ≡ b
one_greeting_answer bytes a b x y = one_way bytes a b (way bytes a x) (way bytes b y)

pub answer-packed : (bytes : List ℕ) (kind : ℕ) (payload more : List ℕ) (answer : Result Greeting DecodeFault) → Packs bytes kind payload more → UnpackedAnswer kind payload more answer
    → GreetingAnswer bytes answer
answer-packed bytes kind payload more (Ok greeting) p w =
    let whole : bytes ≡ greeting_bytes greeting =
    p.begins ∙ ap (λ m. packed kind payload ++ m) w.3 ∙ append-nil (packed kind payload) ∙ ap (λ b. packed kind b) w.2 ∙ ap (λ k. packed k (greeting_payload greeting)) (sym w.1) in
    record { is = w.0; spelled = whole }
answer-packed bytes kind payload more (Err TooLong) p w = absurd w
answer-packed bytes kind payload more (Err BadKind) p w = (kind, payload, more, p, w)
answer-packed bytes kind payload more (Err BadBody) p w = inr (inr (kind, payload, more, p, w))
answer-packed bytes kind payload more (Err Trailing) p w = (kind, payload, more, p, w)

pub answer-fault : (bytes : List ℕ) (fault : DecodeFault) → IsUnpacked bytes (Err fault) → GreetingAnswer bytes (Err fault)
answer-fault bytes TooLong f = f
answer-fault bytes BadKind f = absurd f
answer-fault bytes BadBody (inl partial) = inl partial
answer-fault bytes BadBody (inr none) = inr (inl none)
answer-fault bytes Trailing f = absurd f

-- no greeting begins another
pub greeting_begins_one : (a b : Greeting) (x y : List ℕ) → IsGreeting a → IsGreeting b → greeting_bytes a ++ x ≡ greeting_bytes b ++ y → (a ≡ b) × (x ≡ y)
greeting_begins_one a b x y is_a is_b same =
    let first : Packs (greeting_bytes a ++ x) (greeting_kind a) (greeting_payload a) x = record { short = greeting_is_short a is_a; begins = refl } in
    let second : Packs (greeting_bytes a ++ x) (greeting_kind b) (greeting_payload b) y = record { short = greeting_is_short b is_b; begins = same } in
    let e = one_packed (greeting_bytes a ++ x) _ _ _ _ _ _ first second in
    let p = one_payload (greeting_kind b) a b [] [] (is_a, e.0) (is_b, refl) (ap (λ s. s ++ []) e.1) in
    (p.0, e.2)

-- ---- greetings and frames

not_frame_kind : (greeting : Greeting) → is_kind (greeting_kind greeting) ≡ false
unfolding is_kind
not_frame_kind (greetings.Hello hello) = refl
not_frame_kind (greetings.Proof given) = refl
not_frame_kind (greetings.Digests inquiry) = refl
not_frame_kind (greetings.Welcome welcome) = refl
not_frame_kind (greetings.Known known) = refl
not_frame_kind (greetings.Differs origin) = refl
not_frame_kind (greetings.Digested digests) = refl
not_frame_kind (greetings.List asked) = refl
not_frame_kind (greetings.Became asked) = refl
not_frame_kind (greetings.Listed page) = refl
not_frame_kind (greetings.Outcome fate) = refl

-- in a frame's place a greeting is a fault
pub greeting_no_frame : (greeting : Greeting) (behind : List ℕ) → IsGreeting greeting → IsFaulty (greeting_bytes greeting ++ behind) BadKind
greeting_no_frame greeting behind is =
    (greeting_kind greeting, greeting_payload greeting, behind, record { short = greeting_is_short greeting is; begins = refl }, is_kind-false (greeting_kind greeting) (not_frame_kind greeting))

not_greeting_kind : (frame : Frame) → is_greeting_kind (kind_of frame) ≡ false
unfolding is_greeting_kind
not_greeting_kind (frames.Read need key) = refl
not_greeting_kind (frames.Write tag need program) = refl
not_greeting_kind frames.Reopen = refl
not_greeting_kind frames.Dump = refl
not_greeting_kind (frames.Offer vector) = refl
not_greeting_kind (frames.Seen seen) = refl
not_greeting_kind (frames.Accepted accepted) = refl
not_greeting_kind (frames.Refused refusal) = refl
not_greeting_kind (frames.Reopened adopted) = refl
not_greeting_kind (frames.Item write) = refl
not_greeting_kind (frames.End number) = refl

-- and a frame is one in a greeting's
pub frame_no_greeting : (frame : Frame) (behind : List ℕ) → IsFrame frame → GreetingAnswer (frame_bytes frame ++ behind) (Err BadKind)
frame_no_greeting frame behind is = (kind_of frame, payload_bytes frame, behind, frame_packs frame behind is, is_greeting_kind-false (kind_of frame) (not_greeting_kind frame))
