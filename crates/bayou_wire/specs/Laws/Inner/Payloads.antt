-- Payloads: what is read is what was spelled, and what is spelled is read.
use Rattle.std.proofs.Common.{◌≡◌, ℕ, Bool, true, false, cond, List, [], ◌∷◌, ◌++◌, Option, None, Some, refl, sym, ap, subst, ◌∙◌, arith, inl, inr}
use Rattle.std.specs.Prelude.{◌==◌, ◌||◌, ◌⊎◌, IfSome}
use Rattle.std.proofs.lemmas.Bool.{eqb-true}
use Rattle.std.proofs.lemmas.Option.{none-some, same_Some}
use Rattle.bayou_base.specs.Vector.{AreCounts}
use Rattle.bayou_base.specs.declared.answer.Accepted.{Accepted}
use Rattle.bayou_base.specs.declared.answer.Seen.{Seen}
use Rattle.bayou_base.specs.declared.tag.Tag.{Tag}
use Rattle.bayou_base.specs.declared.value.Value.{Value}
use Rattle.bayou_base.specs.declared.value.Value.TheVariants.{Num, Text}
use Rattle.bayou_base.specs.declared.wid.Wid.{Wid}
use Rattle.bayou_lang.specs.declared.program.Program.{Program}
use Rattle.bayou_lang.specs.declared.write.Write.{Write}
use Rattle.bayou_base.specs.declared.refusal.TheConstants as refusal_codes
use Rattle.bayou_base.specs.declared.refusal.Refusal.{Refusal}
use Rattle.bayou_base.specs.declared.refusal.Refusal.TheVariants as refusals
use Rattle.bayou_wire.specs.declared.frame.Frame.{Frame}
use Rattle.bayou_wire.specs.declared.frame.Frame.TheVariants as frames
use Rattle.bayou_wire.specs.declared.layout.TheConstants as layout
use Rattle.bayou_lang.specs.Ranges.{IsKey, IsValue, IsProgram}
use Rattle.bayou_wire.specs.Spelling.{short_bytes, value_bytes, program_bytes, vector_bytes, tag_bytes, optional_value_bytes, optional_wid_bytes, refusal_bytes, kind_of, payload_bytes, IsRefusal, IsTag, IsFrame}
use Rattle.bayou_wire.specs.Stream.{IsKind}
use Rattle.bayou_wire.specs.Inner.Reading.{Read, both, made, key_at, value_at, program_at, vector_at, wid_at, tag_at, optional_value_at, optional_wid_at, refusal_at, seen_at, reply_at, payload_at, is_kind}
use Rattle.bayou_wire.specs.Laws.Inner.Formats.{IsBytes, IsFormat, both_format, made_takes, made_again, case_takes, u32_format, key_format, value_format, program_format, vector_format, wid_format, tag_format, accepted_format, write_format}

-- a test of a tag, and what is read on either side
pub link : {T P : Type 0} (tag is : ℕ) (first others : Read T) (x : T × List ℕ) → cond (tag == is) first others ≡ Some x
    → ((tag == is) ≡ true → first ≡ Some x → P) → (others ≡ Some x → P) → P
link {T} {P} tag is first others x e here there =
    elim (tag == is) as (λ b. (tag == is) ≡ b → cond b first others ≡ Some x → P) [
      | true ↦ λ same is_first. here same is_first
      | false ↦ λ _ is_other. there is_other
    ] refl e

-- a case with nothing after its tag
pub bare_takes : {T : Type 0} (Is : T → Type 0) (spelling : T → List ℕ) (tag : ℕ) (value : T) → Is value → spelling value ≡ tag ∷ []
    → (first : ℕ) (bytes : List ℕ) (x : T × List ℕ) → (first == tag) ≡ true → Some (value, bytes) ≡ Some x → Is x.0 × (first ∷ bytes ≡ spelling x.0 ++ x.1)
bare_takes {T} Is spelling tag value is spells first bytes x same e =
    let whole : first ∷ bytes ≡ spelling value ++ bytes = rw (spells, eqb-true first tag same) refl in
    subst (λ (v : T × List ℕ). Is v.0 × (first ∷ bytes ≡ spelling v.0 ++ v.1)) (same_Some (value, bytes) x e) (is, whole)

-- no value's tag is that of none
no_value_absent : (value : Value) (bytes rest : List ℕ) → layout.ABSENT ∷ bytes ≡ value_bytes value ++ rest → ⊥
no_value_absent (Num number) bytes rest e = cc
no_value_absent (Text text) bytes rest e = cc

abbrev pub IsOptionalValue : Option Value → Type 0
IsOptionalValue value = IfSome value IsValue

pub optional_value_format : IsFormat IsOptionalValue optional_value_bytes optional_value_at
unfolding optional_value_at
optional_value_format = record { takes = takes; again = again }
  where
    some : (bytes : List ℕ) (x : Option Value × List ℕ) → IsBytes bytes → made (λ value. Some value) value_at bytes ≡ Some x → IsOptionalValue x.0 × (bytes ≡ optional_value_bytes x.0 ++ x.1)
    some bytes x fits e =
        let t = made_takes (λ value. Some value) value_format bytes x fits e in
        subst (λ (v : Option Value). IsOptionalValue v × (bytes ≡ optional_value_bytes v ++ x.1)) (sym t.2) (t.1, t.3)

    takes : (bytes : List ℕ) (x : Option Value × List ℕ) → IsBytes bytes → optional_value_at bytes ≡ Some x → IsOptionalValue x.0 × (bytes ≡ optional_value_bytes x.0 ++ x.1)
    takes [] x fits e = absurd (none-some x e)
    takes (tag ∷ bytes) x fits e =
        link tag layout.ABSENT (Some (None, bytes)) (made (λ value. Some value) value_at (tag ∷ bytes)) x e
        (λ same here. bare_takes IsOptionalValue optional_value_bytes layout.ABSENT None tt refl tag bytes x same here)
        (λ there. some (tag ∷ bytes) x fits there)

    present : (value : Value) (rest : List ℕ) → IsValue value → optional_value_at (value_bytes value ++ rest) ≡ Some (Some value, rest)
    present (Num number) rest is = made_again (λ value. Some value) value_format (Num number) rest is
    present (Text text) rest is = made_again (λ value. Some value) value_format (Text text) rest is

    again : (value : Option Value) (rest : List ℕ) → IsOptionalValue value → optional_value_at (optional_value_bytes value ++ rest) ≡ Some (value, rest)
    again None rest is = refl
    again (Some value) rest is = present value rest is

-- every name of a Write, and none, has a spelling
abbrev pub IsOptionalWid : Option Wid → Type 0
IsOptionalWid wid = Unit {0}

pub optional_wid_format : IsFormat IsOptionalWid optional_wid_bytes optional_wid_at
unfolding optional_wid_at
optional_wid_format = record { takes = takes; again = again }
  where
    takes : (bytes : List ℕ) (x : Option Wid × List ℕ) → IsBytes bytes → optional_wid_at bytes ≡ Some x → IsOptionalWid x.0 × (bytes ≡ optional_wid_bytes x.0 ++ x.1)
    takes [] x fits e = absurd (none-some x e)
    takes (tag ∷ bytes) x fits e =
        link tag layout.ABSENT (Some (None, bytes)) (cond (tag == layout.PRESENT) (made (λ wid. Some wid) wid_at bytes) None) x e
        (λ same here. bare_takes IsOptionalWid optional_wid_bytes layout.ABSENT None tt refl tag bytes x same here)
        (λ there. link tag layout.PRESENT (made (λ wid. Some wid) wid_at bytes) None x there
        (λ same here. case_takes IsOptionalWid optional_wid_bytes layout.PRESENT (λ wid. Some wid) wid_format (λ y is. is) (λ y. refl) tag bytes x fits same here)
        (λ none. absurd (none-some x none)))

    again : (wid : Option Wid) (rest : List ℕ) → IsOptionalWid wid → optional_wid_at (optional_wid_bytes wid ++ rest) ≡ Some (wid, rest)
    again None rest is = refl
    again (Some wid) rest is = made_again (λ wid. Some wid) wid_format wid rest is

pub refusal_format : IsFormat IsRefusal refusal_bytes refusal_at
unfolding refusal_at
refusal_format = record { takes = takes; again = again }
  where
    takes : (bytes : List ℕ) (x : Refusal × List ℕ) → IsBytes bytes → refusal_at bytes ≡ Some x → IsRefusal x.0 × (bytes ≡ refusal_bytes x.0 ++ x.1)
    takes [] x fits e = absurd (none-some x e)
    takes (code ∷ bytes) x fits e =
        let is = IsRefusal in
        let spells = refusal_bytes in
        link code refusal_codes.CODE_DOWN _ _ x e (λ same here. bare_takes is spells refusal_codes.CODE_DOWN refusals.Down tt refl code bytes x same here) (λ e.
        link code refusal_codes.CODE_BEHIND _ _ x e (λ same here. case_takes is spells refusal_codes.CODE_BEHIND refusals.Behind vector_format (λ y is. is) (λ y. refl) code bytes x fits same here) (λ e.
        link code refusal_codes.CODE_LOG_FULL _ _ x e (λ same here. bare_takes is spells refusal_codes.CODE_LOG_FULL refusals.LogFull tt refl code bytes x same here) (λ e.
        link code refusal_codes.CODE_JOURNAL _ _ x e (λ same here. bare_takes is spells refusal_codes.CODE_JOURNAL refusals.Journal tt refl code bytes x same here) (λ e.
        link code refusal_codes.CODE_NOT_DOWN _ _ x e (λ same here. bare_takes is spells refusal_codes.CODE_NOT_DOWN refusals.NotDown tt refl code bytes x same here) (λ e.
        link code refusal_codes.CODE_BAD_RECORD _ _ x e (λ same here. case_takes is spells refusal_codes.CODE_BAD_RECORD refusals.BadRecord u32_format (λ y is. is) (λ y. refl) code bytes x fits same here) (λ e.
        link code refusal_codes.CODE_LOST _ _ x e (λ same here. bare_takes is spells refusal_codes.CODE_LOST refusals.Lost tt refl code bytes x same here) (λ e.
        link code refusal_codes.CODE_OUT_OF_MEMORY _ _ x e (λ same here. bare_takes is spells refusal_codes.CODE_OUT_OF_MEMORY refusals.OutOfMemory tt refl code bytes x same here) (λ e.
        link code refusal_codes.CODE_TAG_USED _ _ x e (λ same here. bare_takes is spells refusal_codes.CODE_TAG_USED refusals.TagUsed tt refl code bytes x same here) (λ none.
        absurd (none-some x none))))))))))

    again : (refusal : Refusal) (rest : List ℕ) → IsRefusal refusal → refusal_at (refusal_bytes refusal ++ rest) ≡ Some (refusal, rest)
    again refusals.Down rest is = refl
    again (refusals.Behind vector) rest is = made_again refusals.Behind vector_format vector rest is
    again refusals.LogFull rest is = refl
    again refusals.Journal rest is = refl
    again refusals.NotDown rest is = refl
    again (refusals.BadRecord at) rest is = made_again refusals.BadRecord u32_format at rest is
    again refusals.Lost rest is = refl
    again refusals.OutOfMemory rest is = refl
    again refusals.TagUsed rest is = refl

abbrev IsSeen : Seen → Type 0
IsSeen seen = IsOptionalValue seen.value × AreCounts seen.vector

pub seen_format : IsFormat IsSeen (λ seen. optional_value_bytes seen.value ++ vector_bytes seen.vector) seen_at
unfolding seen_at
seen_format = record { takes = takes; again = again }
  where
    parts : IsFormat (λ (p : Option Value × List ℕ). IsOptionalValue p.0 × AreCounts p.1) (λ p. optional_value_bytes p.0 ++ vector_bytes p.1) (both optional_value_at vector_at)
    parts = both_format optional_value_format vector_format

    takes : (bytes : List ℕ) (x : Seen × List ℕ) → IsBytes bytes → made (λ p. record { value = p.0; vector = p.1 }) (both optional_value_at vector_at) bytes ≡ Some x → IsSeen x.0 × (bytes ≡ (optional_value_bytes x.0.value ++ vector_bytes x.0.vector) ++ x.1)
    takes bytes x fits e =
        let t = made_takes (λ p. record { value = p.0; vector = p.1 }) parts bytes x fits e in
        subst (λ (s : Seen). IsSeen s × (bytes ≡ (optional_value_bytes s.value ++ vector_bytes s.vector) ++ x.1)) (sym t.2) (t.1, t.3)

    again : (seen : Seen) (rest : List ℕ) → IsSeen seen → made (λ p. record { value = p.0; vector = p.1 }) (both optional_value_at vector_at) ((optional_value_bytes seen.value ++ vector_bytes seen.vector) ++ rest) ≡ Some (seen, rest)
    again seen rest is = made_again (λ p. record { value = p.0; vector = p.1 }) parts (seen.value, seen.vector) rest is

-- ---- payloads by their kind

abbrev pub IsFrameOf : ℕ → Frame → Type 0
IsFrameOf kind frame = IsFrame frame × (kind_of frame ≡ kind)

kind_takes : {A : Type 0} {IsA : A → Type 0} {a : A → List ℕ} {at : List ℕ → Read A} (is : ℕ) (make : A → Frame)
    → IsFormat IsA a at → ((y : A) → IsA y → IsFrame (make y)) → ((y : A) → kind_of (make y) ≡ is) → ((y : A) → payload_bytes (make y) ≡ a y)
    → (kind : ℕ) (bytes : List ℕ) (x : Frame × List ℕ) → IsBytes bytes → (kind == is) ≡ true → made make at bytes ≡ Some x → IsFrameOf kind x.0 × (bytes ≡ payload_bytes x.0 ++ x.1)
kind_takes is make format frame kind_is spells kind bytes x fits same e =
    let t = made_takes make format bytes x fits e in
    let of_kind : kind_of (make t.0) ≡ kind = kind_is t.0 ∙ sym (eqb-true kind is same) in
    subst (λ (f : Frame). IsFrameOf kind f × (bytes ≡ payload_bytes f ++ x.1)) (sym t.2) ((frame t.0 t.1, of_kind), rw (spells t.0) t.3)

bare_kind_takes : (is : ℕ) (frame : Frame) → IsFrame frame → kind_of frame ≡ is → payload_bytes frame ≡ []
    → (kind : ℕ) (bytes : List ℕ) (x : Frame × List ℕ) → (kind == is) ≡ true → Some (frame, bytes) ≡ Some x → IsFrameOf kind x.0 × (bytes ≡ payload_bytes x.0 ++ x.1)
bare_kind_takes is frame is_frame kind_is spells kind bytes x same e =
    let of_kind : kind_of frame ≡ kind = kind_is ∙ sym (eqb-true kind is same) in
    let whole : bytes ≡ payload_bytes frame ++ bytes = rw spells refl in
    subst (λ (v : Frame × List ℕ). IsFrameOf kind v.0 × (bytes ≡ payload_bytes v.0 ++ v.1)) (same_Some (frame, bytes) x e) ((is_frame, of_kind), whole)

need_key : IsFormat (λ (p : List ℕ × List ℕ). AreCounts p.0 × IsKey p.1) (λ p. vector_bytes p.0 ++ short_bytes p.1) (both vector_at key_at)
need_key = both_format vector_format key_format

tag_need_program : IsFormat (λ (p : Tag × (List ℕ × Program)). IsTag p.0 × (AreCounts p.1.0 × IsProgram p.1.1))
    (λ p. tag_bytes p.0 ++ (vector_bytes p.1.0 ++ program_bytes p.1.1)) (both tag_at (both vector_at program_at))
tag_need_program = both_format tag_format (both_format vector_format program_format)

reply_takes : (kind : ℕ) (bytes : List ℕ) (x : Frame × List ℕ) → IsBytes bytes → reply_at kind bytes ≡ Some x → IsFrameOf kind x.0 × (bytes ≡ payload_bytes x.0 ++ x.1)
unfolding reply_at
reply_takes kind bytes x fits e =
    link kind layout.KIND_SEEN _ _ x e (λ same here. kind_takes layout.KIND_SEEN frames.Seen seen_format (λ y is. is) (λ y. refl) (λ y. refl) kind bytes x fits same here) (λ e.
    link kind layout.KIND_ACCEPTED _ _ x e (λ same here. kind_takes layout.KIND_ACCEPTED frames.Accepted accepted_format (λ y is. is) (λ y. refl) (λ y. refl) kind bytes x fits same here) (λ e.
    link kind layout.KIND_REFUSED _ _ x e (λ same here. kind_takes layout.KIND_REFUSED frames.Refused refusal_format (λ y is. is) (λ y. refl) (λ y. refl) kind bytes x fits same here) (λ e.
    link kind layout.KIND_REOPENED _ _ x e (λ same here. kind_takes layout.KIND_REOPENED frames.Reopened optional_wid_format (λ y is. is) (λ y. refl) (λ y. refl) kind bytes x fits same here) (λ e.
    link kind layout.KIND_ITEM _ _ x e (λ same here. kind_takes layout.KIND_ITEM frames.Item write_format (λ y is. is) (λ y. refl) (λ y. refl) kind bytes x fits same here) (λ e.
    link kind layout.KIND_END _ _ x e (λ same here. kind_takes layout.KIND_END frames.End u32_format (λ y is. is) (λ y. refl) (λ y. refl) kind bytes x fits same here) (λ none.
    absurd (none-some x none)))))))

payload_takes : (kind : ℕ) (bytes : List ℕ) (x : Frame × List ℕ) → IsBytes bytes → payload_at kind bytes ≡ Some x → IsFrameOf kind x.0 × (bytes ≡ payload_bytes x.0 ++ x.1)
unfolding payload_at
payload_takes kind bytes x fits e =
    link kind layout.KIND_READ _ _ x e (λ same here. kind_takes layout.KIND_READ (λ p. frames.Read p.0 p.1) need_key (λ y is. is) (λ y. refl) (λ y. refl) kind bytes x fits same here) (λ e.
    link kind layout.KIND_WRITE _ _ x e (λ same here. kind_takes layout.KIND_WRITE (λ p. frames.Write p.0 p.1.0 p.1.1) tag_need_program (λ y is. (is.0, is.1.0, is.1.1)) (λ y. refl) (λ y. refl) kind bytes x fits same here) (λ e.
    link kind layout.KIND_REOPEN _ _ x e (λ same here. bare_kind_takes layout.KIND_REOPEN frames.Reopen tt refl refl kind bytes x same here) (λ e.
    link kind layout.KIND_DUMP _ _ x e (λ same here. bare_kind_takes layout.KIND_DUMP frames.Dump tt refl refl kind bytes x same here) (λ e.
    link kind layout.KIND_OFFER _ _ x e (λ same here. kind_takes layout.KIND_OFFER frames.Offer vector_format (λ y is. is) (λ y. refl) (λ y. refl) kind bytes x fits same here) (λ e.
    reply_takes kind bytes x fits e)))))

payload_again : (frame : Frame) (rest : List ℕ) → IsFrame frame → payload_at (kind_of frame) (payload_bytes frame ++ rest) ≡ Some (frame, rest)
unfolding payload_at reply_at
payload_again (frames.Read need key) rest is = made_again (λ p. frames.Read p.0 p.1) need_key (need, key) rest is
payload_again (frames.Write tag need program) rest is = made_again (λ p. frames.Write p.0 p.1.0 p.1.1) tag_need_program (tag, (need, program)) rest (is.0, (is.1, is.2))
payload_again frames.Reopen rest is = refl
payload_again frames.Dump rest is = refl
payload_again (frames.Offer vector) rest is = made_again frames.Offer vector_format vector rest is
payload_again (frames.Seen seen) rest is = made_again frames.Seen seen_format seen rest is
payload_again (frames.Accepted accepted) rest is = made_again frames.Accepted accepted_format accepted rest is
payload_again (frames.Refused refusal) rest is = made_again frames.Refused refusal_format refusal rest is
payload_again (frames.Reopened adopted) rest is = made_again frames.Reopened optional_wid_format adopted rest is
payload_again (frames.Item write) rest is = made_again frames.Item write_format write rest is
payload_again (frames.End number) rest is = made_again frames.End u32_format number rest is

pub payload_format : (kind : ℕ) → IsFormat (IsFrameOf kind) payload_bytes (payload_at kind)
payload_format kind = record { takes = payload_takes kind; again = again }
  where
    again : (frame : Frame) (rest : List ℕ) → IsFrameOf kind frame → payload_at kind (payload_bytes frame ++ rest) ≡ Some (frame, rest)
    again frame rest is = ap (λ k. payload_at k (payload_bytes frame ++ rest)) (sym is.1) ∙ payload_again frame rest is.0

-- ---- kinds

kind_is_kind : (frame : Frame) → is_kind (kind_of frame) ≡ true
unfolding is_kind
kind_is_kind (frames.Read need key) = refl
kind_is_kind (frames.Write tag need program) = refl
kind_is_kind frames.Reopen = refl
kind_is_kind frames.Dump = refl
kind_is_kind (frames.Offer vector) = refl
kind_is_kind (frames.Seen seen) = refl
kind_is_kind (frames.Accepted accepted) = refl
kind_is_kind (frames.Refused refusal) = refl
kind_is_kind (frames.Reopened adopted) = refl
kind_is_kind (frames.Item write) = refl
kind_is_kind (frames.End number) = refl

pub is_kind-false : (kind : ℕ) → is_kind kind ≡ false → IsKind kind → ⊥
is_kind-false kind none is = let e : true ≡ false = sym (kind_is_kind is.0) ∙ ap is_kind is.1 ∙ none in cc

some_wid : Wid
some_wid = record { origin = record { index = 0; in_range = omega arith }; seq = 1; in_range = (omega arith, omega arith) }

some_tag : Tag
some_tag = record { session = record { index = 0; in_range = omega arith }; run = 1; number = 1; in_range = (omega arith, omega arith) }

some_accepted : Accepted
some_accepted = record { wid = some_wid; stamp = record { clock = 1; origin = some_wid.origin; in_range = (omega arith, omega arith) }; deps = []; one_origin = refl }

some_program : Program
some_program = record { check = record { items = [] }; update = record { items = [] }; merge = record { items = [] } }

some_write : Write
some_write = record { wid = some_accepted.wid; stamp = some_accepted.stamp; deps = []; program = some_program; one_origin = some_accepted.one_origin }

or_cases : (a b : Bool) → (a || b) ≡ true → (a ≡ true) ⊎ (b ≡ true)
or_cases true b e = inl refl
or_cases false b e = inr e

has_kind : (frame : Frame) (kind : ℕ) → (kind == kind_of frame) ≡ true → IsKind kind
has_kind frame kind same = (frame, sym (eqb-true kind (kind_of frame) same))

or_kind : (frame : Frame) (kind : ℕ) (before : Bool) → (before || (kind == kind_of frame)) ≡ true → (before ≡ true → IsKind kind) → IsKind kind
or_kind frame kind before e others = elim (or_cases before (kind == kind_of frame) e) [ inl h ↦ others h | inr same ↦ has_kind frame kind same ]

pub is_kind-true : (kind : ℕ) → is_kind kind ≡ true → IsKind kind
unfolding is_kind
is_kind-true kind e =
    or_kind (frames.End 0) kind _ e (λ e.
    or_kind (frames.Item some_write) kind _ e (λ e.
    or_kind (frames.Reopened None) kind _ e (λ e.
    or_kind (frames.Refused refusals.Down) kind _ e (λ e.
    or_kind (frames.Accepted some_accepted) kind _ e (λ e.
    or_kind (frames.Seen (record { value = None; vector = [] })) kind _ e (λ e.
    or_kind (frames.Offer []) kind _ e (λ e.
    or_kind frames.Dump kind _ e (λ e.
    or_kind frames.Reopen kind _ e (λ e.
    or_kind (frames.Write some_tag [] some_program) kind _ e (λ e.
    has_kind (frames.Read [] []) kind e))))))))))
