-- What stands in a frame's place is one thing: a whole frame, less than one, or one fault.
use Rattle.std.proofs.Common.{◌≡◌, ◌≢◌, ℕ, ◌+◌, ◌-◌, ◌*◌, ◌^◌, ◌<◌, ◌≤◌, false, ltb, List, [], ◌∷◌, ◌++◌, length, get_or, take, drop, None, Some, Result, Ok, Err, refl, sym, ap, subst, ◌∙◌, arith, inl, inr, append_assoc}
use Rattle.std.specs.Prelude.{◌⊎◌}
use Rattle.std.specs.Int.{w16, from_be_bytes, to_be_bytes}
use Rattle.std.proofs.lemmas.Bool.{le-ltb}
use Rattle.std.proofs.lemmas.List.{append-nil, nil_from_length, take_at, drop_at, take_all, take-append-drop, length-append, length-take}
use Rattle.std.proofs.lemmas.Nat.{be_bytes_2, from_be_bytes-to_be_bytes_2}
use Rattle.std.proofs.lemmas.Option.{none-some, same_Some}
use Rattle.bayou_base.specs.declared.limits.TheConstants.{MAX_FRAME_BYTES}
use Rattle.bayou_lang.specs.declared.write.Write.{Write}
use Rattle.bayou_wire.specs.declared.fault.DecodeFault.{DecodeFault}
use Rattle.bayou_wire.specs.declared.fault.DecodeFault.TheVariants.{TooLong, BadKind, BadBody, Trailing}
use Rattle.bayou_wire.specs.declared.frame.Frame.{Frame}
use Rattle.bayou_wire.specs.Spelling.{IsFrame, SpellsWrite, WriteAnswer, BeginsWithWrite, frame_bytes, write_bytes, kind_of, packed, payload_bytes}
use Rattle.bayou_wire.specs.Stream.{IsKind, PayloadBegins, IsPackedFault, Packs, HasLength, HasPackedFault, IsFaulty, IsPartial, FrameAnswer}
use Rattle.bayou_wire.specs.Inner.Reading.{Read, number_at, payload_at, write_at}
use Rattle.bayou_wire.specs.Laws.Inner.Formats.{IsBytes, IsBytes-take, IsFormat, IsWide, number_format, begins_one, none_begins, write_format}
use Rattle.bayou_wire.specs.Laws.Inner.Payloads.{IsFrameOf, payload_format}
use Rattle.bayou_wire.specs.Laws.Inner.Sizes.{payload_is_short}

pub wide16 : IsWide w16 (2 ^ 16)
wide16 = record {
  len = λ n. refl;
  back = λ bytes len fits. be_bytes_2 bytes _ len fits refl;
  again = λ n lt. from_be_bytes-to_be_bytes_2 n lt;
  below = λ bytes fits. omega (arith, fits 0, fits 1);
}

pub u16_format : IsFormat (λ n. n < 2 ^ 16) (to_be_bytes w16) (number_at w16)
u16_format = number_format w16 (2 ^ 16) wide16

-- the length that bytes begin with
abbrev pub length_at : List ℕ → Read ℕ
length_at bytes = number_at w16 bytes

pub length_at-packed : (bytes : List ℕ) (kind : ℕ) (payload more : List ℕ) → Packs bytes kind payload more → length_at bytes ≡ Some (length payload + 1, kind ∷ (payload ++ more))
length_at-packed bytes kind payload more p =
    let fits : length payload + 1 < 2 ^ 16 = omega (arith, p.short) in
    ap length_at p.begins ∙ u16_format.again (length payload + 1) (kind ∷ (payload ++ more)) fits

pub length_at-has : (bytes : List ℕ) (len : ℕ) (h : HasLength bytes len) → length_at bytes ≡ Some (len, h.1.0)
length_at-has bytes len h = ap length_at h.1.1 ∙ u16_format.again len h.1.0 h.0

-- two readings of one length are one
one_length : (bytes : List ℕ) (m n : ℕ) (x y : List ℕ) → length_at bytes ≡ Some (m, x) → length_at bytes ≡ Some (n, y) → (m ≡ n) × (x ≡ y)
one_length bytes m n x y a b =
    let pair : (m, x) ≡ (n, y) = same_Some (m, x) (n, y) (sym a ∙ b) in
    (ap (λ (p : ℕ × List ℕ). p.0) pair, ap (λ (p : ℕ × List ℕ). p.1) pair)

-- what is packed has one kind, one payload and one rest
pub one_packed : (bytes : List ℕ) (j k : ℕ) (p q x y : List ℕ) → Packs bytes j p x → Packs bytes k q y → (j ≡ k) × (p ≡ q) × (x ≡ y)
one_packed bytes j k p q x y a b =
    let e = one_length bytes (length p + 1) (length q + 1) (j ∷ (p ++ x)) (k ∷ (q ++ y)) (length_at-packed bytes j p x a) (length_at-packed bytes k q y b) in
    let len : length p ≡ length q = omega (arith, e.0) in
    let kind : j ≡ k = ap (head_or 0) e.1 in
    let body : p ++ x ≡ q ++ y = ap (drop 1) e.1 in
    (kind, sym (take_at p x (length p) refl) ∙ ap (take (length p)) body ∙ take_at q y (length p) (sym len), sym (drop_at p x (length p) refl) ∙ ap (drop (length p)) body ∙ drop_at q y (length p) (sym len))
  where
    head_or : ℕ → List ℕ → ℕ
    head_or d [] = d
    head_or d (h ∷ t) = h

-- a whole frame is packed
pub frame_packs : (frame : Frame) (more : List ℕ) → IsFrame frame → Packs (frame_bytes frame ++ more) (kind_of frame) (payload_bytes frame) more
frame_packs frame more is = record { short = payload_is_short frame is; begins = refl }

-- payloads of one kind: none begins another
one_payload : (kind : ℕ) (a b : Frame) (x y : List ℕ) → IsFrameOf kind a → IsFrameOf kind b → payload_bytes a ++ x ≡ payload_bytes b ++ y → (a ≡ b) × (x ≡ y)
one_payload kind = begins_one (payload_format kind)

pub frame_begins_one : (a b : Frame) (x y : List ℕ) → IsFrame a → IsFrame b → frame_bytes a ++ x ≡ frame_bytes b ++ y → (a ≡ b) × (x ≡ y)
frame_begins_one a b x y is_a is_b same =
    let packs : Packs (frame_bytes a ++ x) (kind_of b) (payload_bytes b) y = record { short = payload_is_short b is_b; begins = same } in
    let e = one_packed (frame_bytes a ++ x) _ _ _ _ _ _ (frame_packs a x is_a) packs in
    let p = one_payload (kind_of b) a b [] [] (is_a, e.0) (is_b, refl) (ap (λ s. s ++ []) e.1) in
    (p.0, e.2)

-- ---- whole Writes

pub write_answer-none : (bytes : List ℕ) → write_at bytes ≡ None → WriteAnswer bytes (Err BadBody)
write_answer-none bytes none rest begins = none_begins write_format bytes none begins.0 rest begins.1 begins.2

pub write_answer-whole : (bytes rest : List ℕ) (write : Write) → IsBytes bytes → write_at bytes ≡ Some (write, rest) → length rest < 1 → SpellsWrite bytes write
write_answer-whole bytes rest write fits e below =
    let t = write_format.takes bytes (write, rest) fits e in
    let nothing : rest ≡ [] = nil_from_length rest (omega arith) in
    record { is = t.0; spelled = t.1 ∙ ap (λ s. write_bytes write ++ s) nothing ∙ append-nil (write_bytes write) }

not_nil : (rest : List ℕ) → 1 ≤ length rest → rest ≢ []
not_nil rest some nothing = absurd (omega (arith, ap length nothing))

pub write_answer-more : (bytes rest : List ℕ) (write : Write) → IsBytes bytes → write_at bytes ≡ Some (write, rest) → 1 ≤ length rest → WriteAnswer bytes (Err Trailing)
write_answer-more bytes rest write fits e some =
    let t = write_format.takes bytes (write, rest) fits e in
    (rest, not_nil rest some, (write, t.0, t.1))

abbrev whole_write : (bytes : List ℕ) (write : Write) → SpellsWrite bytes write → BeginsWithWrite bytes []
whole_write bytes write s = (write, s.is, s.spelled ∙ sym (append-nil (write_bytes write)))

one_beginning : (bytes x y : List ℕ) (a : BeginsWithWrite bytes x) (b : BeginsWithWrite bytes y) → (a.0 ≡ b.0) × (x ≡ y)
one_beginning bytes x y a b = begins_one write_format a.0 b.0 x y a.1 b.1 (sym a.2 ∙ b.2)

-- a Write's answer is one
pub one_write_answer : (bytes : List ℕ) (a b : Result Write DecodeFault) → WriteAnswer bytes a → WriteAnswer bytes b → a ≡ b
one_write_answer bytes (Ok v) (Ok w) a b = ap (λ x. Ok x) (one_beginning bytes [] [] (whole_write bytes v a) (whole_write bytes w b)).0
one_write_answer bytes (Ok v) (Err Trailing) a b = absurd (b.1 (sym (one_beginning bytes [] b.0 (whole_write bytes v a) b.2).1))
one_write_answer bytes (Ok v) (Err BadBody) a b = absurd (b [] (whole_write bytes v a))
one_write_answer bytes (Ok v) (Err TooLong) a b = absurd b
one_write_answer bytes (Ok v) (Err BadKind) a b = absurd b
one_write_answer bytes (Err Trailing) (Ok w) a b = absurd (a.1 (sym (one_beginning bytes [] a.0 (whole_write bytes w b) a.2).1))
one_write_answer bytes (Err Trailing) (Err Trailing) a b = refl
one_write_answer bytes (Err Trailing) (Err BadBody) a b = absurd (b a.0 a.2)
one_write_answer bytes (Err Trailing) (Err TooLong) a b = absurd b
one_write_answer bytes (Err Trailing) (Err BadKind) a b = absurd b
one_write_answer bytes (Err BadBody) (Ok w) a b = absurd (a [] (whole_write bytes w b))
one_write_answer bytes (Err BadBody) (Err Trailing) a b = absurd (a b.0 b.2)
one_write_answer bytes (Err BadBody) (Err BadBody) a b = refl
one_write_answer bytes (Err BadBody) (Err TooLong) a b = absurd b
one_write_answer bytes (Err BadBody) (Err BadKind) a b = absurd b
one_write_answer bytes (Err TooLong) b a other = absurd a
one_write_answer bytes (Err BadKind) b a other = absurd a

-- ---- kinds and payloads

pub packed-none : (kind : ℕ) (payload : List ℕ) → IsKind kind → payload_at kind payload ≡ None → IsPackedFault kind payload BadBody
packed-none kind payload is none = (is, λ rest begins. none_begins (payload_format kind) payload none begins.0 rest (begins.1, begins.2) begins.3)

pub packed-whole : (kind : ℕ) (payload rest : List ℕ) (frame : Frame) → IsBytes payload → payload_at kind payload ≡ Some (frame, rest) → length rest < 1
    → IsFrame frame × (kind_of frame ≡ kind) × (payload ≡ payload_bytes frame)
packed-whole kind payload rest frame fits e below =
    let t = (payload_format kind).takes payload (frame, rest) fits e in
    let nothing : rest ≡ [] = nil_from_length rest (omega arith) in
    (t.0.0, t.0.1, t.1 ∙ ap (λ s. payload_bytes frame ++ s) nothing ∙ append-nil (payload_bytes frame))

pub packed-more : (kind : ℕ) (payload rest : List ℕ) (frame : Frame) → IsBytes payload → payload_at kind payload ≡ Some (frame, rest) → 1 ≤ length rest → IsPackedFault kind payload Trailing
packed-more kind payload rest frame fits e some =
    let t = (payload_format kind).takes payload (frame, rest) fits e in
    (rest, not_nil rest some, (frame, t.0.0, t.0.1, t.1))

-- ---- what stands in a frame's place

pub has_length : (bytes : List ℕ) (n : ℕ) → IsBytes bytes → 2 ≤ length bytes → n ≡ from_be_bytes w16 (get_or bytes 0 0 ∷ get_or bytes 1 0 ∷ []) → HasLength bytes n
has_length [] n fits long e = absurd (omega arith)
has_length (high ∷ []) n fits long e = absurd (omega arith)
has_length (high ∷ low ∷ more) n fits long e =
    let two : List ℕ = high ∷ low ∷ [] in
    let these : IsBytes two = λ i. IsBytes-take 2 (high ∷ low ∷ more) fits i in
    let spelled : to_be_bytes w16 n ≡ two = be_bytes_2 two n refl these e in
    let within : n < 2 ^ 16 = omega (arith, e, fits 0, fits 1) in
    (within, (more, ap (λ s. s ++ more) (sym spelled)))

pub faulty-packed : (bytes : List ℕ) (kind : ℕ) (payload more : List ℕ) (fault : DecodeFault) → Packs bytes kind payload more → IsPackedFault kind payload fault → IsFaulty bytes fault
faulty-packed bytes kind payload more TooLong p f = absurd f
faulty-packed bytes kind payload more BadKind p f = (kind, payload, more, p, f)
faulty-packed bytes kind payload more BadBody p f = inr (kind, payload, more, p, f)
faulty-packed bytes kind payload more Trailing p f = (kind, payload, more, p, f)

pack_of : (high low len : ℕ) (more : List ℕ) (kind : ℕ) (payload : List ℕ) → to_be_bytes w16 len ≡ high ∷ low ∷ [] → take len more ≡ kind ∷ payload → len ≤ length more
    → high ∷ low ∷ more ≡ packed kind payload ++ drop len more
pack_of high low len more kind payload two front enough =
    let size : length payload + 1 ≡ len = omega (arith, ap length front, length-take len more) in
    let behind : List ℕ = drop len more in
    let whole : more ≡ (kind ∷ payload) ++ behind = sym (take-append-drop len more) ∙ ap (λ s. s ++ behind) front in
    sym (ap (λ n. (to_be_bytes w16 n ++ (kind ∷ payload)) ++ behind) size ∙ ap (λ (s : List ℕ). (s ++ (kind ∷ payload)) ++ behind) two ∙ ap (λ s. high ∷ low ∷ s) (sym whole))

pub packs_at : (bytes front : List ℕ) (len : ℕ) → IsBytes bytes → 2 ≤ length bytes → len ≡ get_or bytes 0 0 * 256 + get_or bytes 1 0 → len ≤ MAX_FRAME_BYTES
    → len ≤ length (take (length bytes - 2) (drop 2 bytes)) → front ≡ take len (take (length bytes - 2) (drop 2 bytes)) → 1 ≤ length front
    → Packs bytes (get_or front 0 0) (take (length front - 1) (drop 1 front)) (drop len (drop 2 bytes))
packs_at [] front len fits long e within enough is some = absurd (omega arith)
packs_at (high ∷ []) front len fits long e within enough is some = absurd (omega arith)
packs_at (high ∷ low ∷ more) [] len fits long e within enough is some = absurd (omega arith)
packs_at (high ∷ low ∷ more) (kind ∷ payload) len fits long e within enough is some =
    let n : length (high ∷ low ∷ more) - 2 ≡ length more = omega arith in
    let all : take (length (high ∷ low ∷ more) - 2) more ≡ more = rw n (take_all (length more) more (omega arith)) in
    let count : len ≤ length more = omega (arith, ap length all) in
    let front_is : take len more ≡ kind ∷ payload = sym (is ∙ ap (take len) all) in
    let two : to_be_bytes w16 len ≡ high ∷ low ∷ [] = be_bytes_2 (high ∷ low ∷ []) len refl (IsBytes-take 2 (high ∷ low ∷ more) fits) e in
    let m : length (kind ∷ payload) - 1 ≡ length payload = omega arith in
    let payload_is : take (length (kind ∷ payload) - 1) payload ≡ payload = rw m (take_all (length payload) payload (omega arith)) in
    let size : length payload + 1 ≡ len = omega (arith, ap length front_is, length-take len more) in
    rw payload_is (record { short = omega arith; begins = pack_of high low len more kind payload two front_is count })

-- ---- one thing stands there

length_at-two : (high low : ℕ) (more : List ℕ) → length_at (high ∷ low ∷ more) ≡ Some (256 * high + low, more)
length_at-two high low more =
    let long : ltb (length (high ∷ low ∷ more)) 2 ≡ false = le-ltb _ _ (omega arith) in
    rw long (ap (λ n. Some (n, more)) (omega arith))

-- less than a frame has no length yet, or fewer bytes after it than it counts
pub partial_length : (bytes : List ℕ) (len : ℕ) (more : List ℕ) → IsPartial bytes → length_at bytes ≡ Some (len, more) → (len ≤ MAX_FRAME_BYTES) × (length more < len)
partial_length [] len more p e = absurd (none-some (len, more) e)
partial_length (high ∷ []) len more p e = absurd (none-some (len, more) e)
partial_length (high ∷ low ∷ bytes) len more p e =
    let same = one_length (high ∷ low ∷ bytes) (256 * high + low) len bytes more (length_at-two high low bytes) e in
    (omega (arith, same.0, p.0), omega (arith, same.0, ap length same.1, p.1))

pub packed_not_partial : (bytes : List ℕ) (kind : ℕ) (payload more : List ℕ) → Packs bytes kind payload more → IsPartial bytes → ⊥
packed_not_partial bytes kind payload more p partial =
    let l = partial_length bytes (length payload + 1) (kind ∷ (payload ++ more)) partial (length_at-packed bytes kind payload more p) in
    absurd (omega (arith, l.1, length-append payload more))

-- why a fault stands there
abbrev Cause : List ℕ → DecodeFault → Type 0
Cause bytes fault = ((fault ≡ TooLong) × ((len : ℕ) × (MAX_FRAME_BYTES < len) × HasLength bytes len)) ⊎ (((fault ≡ BadBody) × HasLength bytes 0) ⊎ HasPackedFault bytes fault)

cause : (bytes : List ℕ) (fault : DecodeFault) → IsFaulty bytes fault → Cause bytes fault
cause bytes TooLong f = inl (refl, f)
cause bytes BadKind f = inr (inr f)
cause bytes BadBody (inl zero_length) = inr (inl (refl, zero_length))
cause bytes BadBody (inr f) = inr (inr f)
cause bytes Trailing f = inr (inr f)

pub partial_not_faulty : (bytes : List ℕ) (fault : DecodeFault) → IsPartial bytes → IsFaulty bytes fault → ⊥
partial_not_faulty bytes fault partial f =
    elim (cause bytes fault f) [
      | inl long ↦ absurd (omega (arith, long.1.1, (partial_length bytes long.1.0 long.1.2.1.0 partial (length_at-has bytes long.1.0 long.1.2)).0))
      | inr (inl none) ↦ absurd (omega (arith, (partial_length bytes 0 none.1.1.0 partial (length_at-has bytes 0 none.1)).1))
      | inr (inr h) ↦ packed_not_partial bytes h.0 h.1 h.2 h.3 partial
    ]

pub has_one_length : (bytes : List ℕ) (m n : ℕ) → HasLength bytes m → HasLength bytes n → m ≡ n
has_one_length bytes m n a b = (one_length bytes m n a.1.0 b.1.0 (length_at-has bytes m a) (length_at-has bytes n b)).0

pub packed_length : (bytes : List ℕ) (len kind : ℕ) (payload more : List ℕ) → HasLength bytes len → Packs bytes kind payload more → len ≡ length payload + 1
packed_length bytes len kind payload more a p = (one_length bytes len (length payload + 1) a.1.0 (kind ∷ (payload ++ more)) (length_at-has bytes len a) (length_at-packed bytes kind payload more p)).0

begins_has_kind : (kind : ℕ) (payload rest : List ℕ) → PayloadBegins kind payload rest → IsKind kind
begins_has_kind kind payload rest b = (b.0, b.2)

one_packed_fault : (kind : ℕ) (payload : List ℕ) (a b : DecodeFault) → IsPackedFault kind payload a → IsPackedFault kind payload b → a ≡ b
one_packed_fault kind payload TooLong b f g = absurd f
one_packed_fault kind payload BadKind TooLong f g = absurd g
one_packed_fault kind payload BadKind BadKind f g = refl
one_packed_fault kind payload BadKind BadBody f g = absurd (f g.0)
one_packed_fault kind payload BadKind Trailing f g = absurd (f (begins_has_kind kind payload g.0 g.2))
one_packed_fault kind payload BadBody TooLong f g = absurd g
one_packed_fault kind payload BadBody BadKind f g = absurd (g f.0)
one_packed_fault kind payload BadBody BadBody f g = refl
one_packed_fault kind payload BadBody Trailing f g = absurd (f.1 g.0 g.2)
one_packed_fault kind payload Trailing TooLong f g = absurd g
one_packed_fault kind payload Trailing BadKind f g = absurd (g (begins_has_kind kind payload f.0 f.2))
one_packed_fault kind payload Trailing BadBody f g = absurd (g.1 f.0 f.2)
one_packed_fault kind payload Trailing Trailing f g = refl

one_cause : (bytes : List ℕ) (a b : DecodeFault) → Cause bytes a → Cause bytes b → a ≡ b
one_cause bytes a b (inl f) (inl g) = f.0 ∙ sym g.0
one_cause bytes a b (inl f) (inr (inl g)) = absurd (omega (arith, f.1.1, has_one_length bytes f.1.0 0 f.1.2 g.1))
one_cause bytes a b (inl f) (inr (inr g)) = absurd (omega (arith, f.1.1, g.3.short, packed_length bytes f.1.0 g.0 g.1 g.2 f.1.2 g.3))
one_cause bytes a b (inr (inl f)) (inl g) = absurd (omega (arith, g.1.1, has_one_length bytes g.1.0 0 g.1.2 f.1))
one_cause bytes a b (inr (inl f)) (inr (inl g)) = f.0 ∙ sym g.0
one_cause bytes a b (inr (inl f)) (inr (inr g)) = absurd (omega (arith, packed_length bytes 0 g.0 g.1 g.2 f.1 g.3))
one_cause bytes a b (inr (inr f)) (inl g) = absurd (omega (arith, g.1.1, f.3.short, packed_length bytes g.1.0 f.0 f.1 f.2 g.1.2 f.3))
one_cause bytes a b (inr (inr f)) (inr (inl g)) = absurd (omega (arith, packed_length bytes 0 f.0 f.1 f.2 g.1 f.3))
one_cause bytes a b (inr (inr f)) (inr (inr g)) =
    let same = one_packed bytes f.0 g.0 f.1 g.1 f.2 g.2 f.3 g.3 in
    one_packed_fault g.0 g.1 a b (subst (λ (k : ℕ). IsPackedFault k g.1 a) same.0 (subst (λ (p : List ℕ). IsPackedFault f.0 p a) same.1 f.4)) g.4

-- two faults in one place are one
pub one_fault : (bytes : List ℕ) (a b : DecodeFault) → IsFaulty bytes a → IsFaulty bytes b → a ≡ b
one_fault bytes a b f g = one_cause bytes a b (cause bytes a f) (cause bytes b g)

whole_packed_fault : (frame : Frame) (fault : DecodeFault) → IsFrame frame → IsPackedFault (kind_of frame) (payload_bytes frame) fault → ⊥
whole_packed_fault frame TooLong is f = absurd f
whole_packed_fault frame BadKind is f = f (frame, refl)
whole_packed_fault frame BadBody is f = f.1 [] (frame, is, refl, sym (append-nil (payload_bytes frame)))
whole_packed_fault frame Trailing is f =
    let same = one_payload (kind_of frame) frame f.2.0 [] f.0 (is, refl) (f.2.1, f.2.2) (append-nil (payload_bytes frame) ∙ f.2.3) in
    f.1 (sym same.1)

pub whole_not_faulty : (bytes : List ℕ) (frame : Frame) (rest : List ℕ) (fault : DecodeFault) → IsFrame frame → bytes ≡ frame_bytes frame ++ rest → IsFaulty bytes fault → ⊥
whole_not_faulty bytes frame rest fault is e f =
    let packs : Packs bytes (kind_of frame) (payload_bytes frame) rest = record { short = payload_is_short frame is; begins = e } in
    elim (cause bytes fault f) [
      | inl long ↦ absurd (omega (arith, long.1.1, packs.short, packed_length bytes long.1.0 (kind_of frame) (payload_bytes frame) rest long.1.2 packs))
      | inr (inl none) ↦ absurd (omega (arith, packed_length bytes 0 (kind_of frame) (payload_bytes frame) rest none.1 packs))
      | inr (inr h) ↦
          let same = one_packed bytes h.0 (kind_of frame) h.1 (payload_bytes frame) h.2 rest h.3 packs in
          whole_packed_fault frame fault is (subst (λ (k : ℕ). IsPackedFault k (payload_bytes frame) fault) same.0 (subst (λ (p : List ℕ). IsPackedFault h.0 p fault) same.1 h.4))
    ]

pub whole_not_partial : (bytes : List ℕ) (frame : Frame) (rest : List ℕ) → IsFrame frame → bytes ≡ frame_bytes frame ++ rest → IsPartial bytes → ⊥
whole_not_partial bytes frame rest is e = packed_not_partial bytes (kind_of frame) (payload_bytes frame) rest (record { short = payload_is_short frame is; begins = e })

-- the three ways to an answer
abbrev ByWhole : List ℕ → Result Frame DecodeFault → Type 0
ByWhole bytes answer = (frame : Frame) × (rest : List ℕ) × IsFrame frame × (bytes ≡ frame_bytes frame ++ rest) × (((rest ≡ []) × (answer ≡ Ok frame)) ⊎ ((rest ≢ []) × (answer ≡ Err Trailing)))

abbrev Way : List ℕ → Result Frame DecodeFault → Type 0
Way bytes answer = ByWhole bytes answer ⊎ ((IsPartial bytes × (answer ≡ Err BadBody)) ⊎ ((fault : DecodeFault) × IsFaulty bytes fault × (answer ≡ Err fault)))

way : (bytes : List ℕ) (answer : Result Frame DecodeFault) → FrameAnswer bytes answer → Way bytes answer
way bytes (Ok frame) a = inl (frame, [], a.is, a.spelled ∙ sym (append-nil (frame_bytes frame)), inl (refl, refl))
way bytes (Err TooLong) a = inr (inr (TooLong, a, refl))
way bytes (Err BadKind) a = inr (inr (BadKind, a, refl))
way bytes (Err BadBody) (inl partial) = inr (inl (partial, refl))
way bytes (Err BadBody) (inr a) = inr (inr (BadBody, a, refl))
way bytes (Err Trailing) (inl a) = inr (inr (Trailing, a, refl))
way bytes (Err Trailing) (inr a) = inl (a.0, a.1, a.2, a.4, inr (a.3, refl))

one_whole : (bytes : List ℕ) (a b : Result Frame DecodeFault) → ByWhole bytes a → ByWhole bytes b → a ≡ b
one_whole bytes a b v w =
    let same = frame_begins_one v.0 w.0 v.1 w.1 v.2 w.2 (sym v.3 ∙ w.3) in
    elim v.4 [
      | inl whole ↦ elim w.4 [
        | inl other ↦ whole.1 ∙ ap (λ f. Ok f) same.0 ∙ sym other.1
        | inr more ↦ absurd (more.0 (sym same.1 ∙ whole.0))
      ]
      | inr more ↦ elim w.4 [
        | inl other ↦ absurd (more.0 (same.1 ∙ other.0))
        | inr others ↦ more.1 ∙ sym others.1
      ]
    ]

one_way : (bytes : List ℕ) (a b : Result Frame DecodeFault) → Way bytes a → Way bytes b → a ≡ b
one_way bytes a b (inl v) (inl w) = one_whole bytes a b v w
one_way bytes a b (inl v) (inr (inl p)) = absurd (whole_not_partial bytes v.0 v.1 v.2 v.3 p.0)
one_way bytes a b (inl v) (inr (inr f)) = absurd (whole_not_faulty bytes v.0 v.1 f.0 v.2 v.3 f.1)
one_way bytes a b (inr (inl p)) (inl w) = absurd (whole_not_partial bytes w.0 w.1 w.2 w.3 p.0)
one_way bytes a b (inr (inl p)) (inr (inl q)) = p.1 ∙ sym q.1
one_way bytes a b (inr (inl p)) (inr (inr f)) = absurd (partial_not_faulty bytes f.0 p.0 f.1)
one_way bytes a b (inr (inr f)) (inl w) = absurd (whole_not_faulty bytes w.0 w.1 f.0 w.2 w.3 f.1)
one_way bytes a b (inr (inr f)) (inr (inl p)) = absurd (partial_not_faulty bytes f.0 p.0 f.1)
one_way bytes a b (inr (inr f)) (inr (inr g)) = f.2 ∙ ap (λ x. Err x) (one_fault bytes f.0 g.0 f.1 g.1) ∙ sym g.2

-- a frame's answer is one
pub one_frame_answer : (bytes : List ℕ) (a b : Result Frame DecodeFault) → FrameAnswer bytes a → FrameAnswer bytes b → a ≡ b
one_frame_answer bytes a b x y = one_way bytes a b (way bytes a x) (way bytes b y)

pub frame_answer-whole : (bytes rest : List ℕ) (frame : Frame) → IsFrame frame → bytes ≡ frame_bytes frame ++ rest → length rest < 1 → FrameAnswer bytes (Ok frame)
frame_answer-whole bytes rest frame is e below =
    record { is = is; spelled = e ∙ ap (λ s. frame_bytes frame ++ s) (nil_from_length rest (omega arith)) ∙ append-nil (frame_bytes frame) }

pub frame_answer-more : (bytes rest : List ℕ) (frame : Frame) → IsFrame frame → bytes ≡ frame_bytes frame ++ rest → 1 ≤ length rest → FrameAnswer bytes (Err Trailing)
frame_answer-more bytes rest frame is e some = inr (frame, rest, is, not_nil rest some, e)

pub frame_answer-faulty : (bytes : List ℕ) (fault : DecodeFault) → IsFaulty bytes fault → FrameAnswer bytes (Err fault)
frame_answer-faulty bytes TooLong f = f
frame_answer-faulty bytes BadKind f = f
frame_answer-faulty bytes BadBody f = inr f
frame_answer-faulty bytes Trailing f = inl f

-- ---- what comes after

packs_more : (bytes : List ℕ) (kind : ℕ) (payload behind more : List ℕ) → Packs bytes kind payload behind → Packs (bytes ++ more) kind payload (behind ++ more)
packs_more bytes kind payload behind more p =
    record { short = p.short; begins = ap (λ s. s ++ more) p.begins ∙ append_assoc (packed kind payload) behind more }

packed_fault_more : (bytes more : List ℕ) (fault : DecodeFault) → HasPackedFault bytes fault → HasPackedFault (bytes ++ more) fault
packed_fault_more bytes more fault h = (h.0, h.1, h.2 ++ more, packs_more bytes h.0 h.1 h.2 more h.3, h.4)

length_more : (bytes more : List ℕ) (len : ℕ) → HasLength bytes len → HasLength (bytes ++ more) len
length_more bytes more len h = (h.0, (h.1.0 ++ more, ap (λ s. s ++ more) h.1.1 ∙ append_assoc (to_be_bytes w16 len) h.1.0 more))

pub faulty_more : (bytes more : List ℕ) (fault : DecodeFault) → IsFaulty bytes fault → IsFaulty (bytes ++ more) fault
faulty_more bytes more TooLong f = (f.0, f.1, length_more bytes more f.0 f.2)
faulty_more bytes more BadKind f = packed_fault_more bytes more BadKind f
faulty_more bytes more BadBody (inl zero_length) = inl (length_more bytes more 0 zero_length)
faulty_more bytes more BadBody (inr f) = inr (packed_fault_more bytes more BadBody f)
faulty_more bytes more Trailing f = packed_fault_more bytes more Trailing f

pub frame_length : (frame : Frame) (behind : List ℕ) (len : ℕ) → IsFrame frame → HasLength (frame_bytes frame ++ behind) len → length (frame_bytes frame) ≡ 2 + len
frame_length frame behind len is h =
    let same = packed_length (frame_bytes frame ++ behind) len (kind_of frame) (payload_bytes frame) behind h (frame_packs frame behind is) in
    omega (arith, same, length-append (to_be_bytes w16 (length (payload_bytes frame) + 1)) (kind_of frame ∷ payload_bytes frame))
