-- Reading from left to right: what stands at the front of bytes, and the bytes after it. No public clause cites this.
use Rattle.std.proofs.lemmas.Bool.{ltb-true, leb-true}
use Rattle.std.specs.List.{AllByRecursion, list_all}
use Rattle.std.specs.Prelude.{refl, ◌≡◌, ℕ, zero, suc, ◌<◌, ◌≤◌, ℤ, Bool, true, false, List, [], ◌∷◌, ◌++◌, Option, None, Some, Result, Ok, Err, option_and_then, length, take, drop, nat_lt, nat_le, ◌==◌, is_none, ◌||◌, if◌then◌else◌}
use Rattle.std.specs.Int.{Width, w32, w64, byte_len, from_be_bytes, cast_signed}
use Rattle.std.specs.Str.{is_utf8}
use Rattle.bayou_base.specs.Key.{key_fault, prefix_fault}
use Rattle.bayou_base.specs.declared.limits.TheConstants.{MAX_TEXT_BYTES, MAX_CONDITIONS, MAX_OPS, MAX_ALTERNATIVES, SERVERS, SESSIONS, MAX_WRITES}
use Rattle.bayou_base.specs.declared.value.Value.{Value}
use Rattle.bayou_base.specs.declared.value.Value.TheVariants.{Num, Text}
use Rattle.bayou_base.specs.declared.answer.Accepted.{Accepted}
use Rattle.bayou_base.specs.declared.answer.Seen.{Seen}
use Rattle.bayou_base.specs.declared.server.ServerId.{ServerId}
use Rattle.bayou_base.specs.declared.session.SessionId.{SessionId}
use Rattle.bayou_base.specs.declared.tag.Tag.{Tag}
use Rattle.bayou_base.specs.declared.wid.Wid.{Wid}
use Rattle.bayou_lang.specs.declared.program.Alt.{Alt}
use Rattle.bayou_lang.specs.declared.program.Cond.{Cond}
use Rattle.bayou_lang.specs.declared.program.Cond.TheVariants.{Equals, Absent, AtLeast, AtMost}
use Rattle.bayou_lang.specs.declared.program.Op.{Op}
use Rattle.bayou_lang.specs.declared.program.Op.TheVariants.{Put, Del}
use Rattle.bayou_lang.specs.declared.program.Program.{Program}
use Rattle.bayou_lang.specs.declared.program.Term.{Term}
use Rattle.bayou_lang.specs.declared.program.Term.TheVariants.{Lit, Copy, Plus}
use Rattle.bayou_lang.specs.declared.write.Write.{Write}
use Rattle.bayou_base.specs.declared.refusal.TheConstants as refusal_codes
use Rattle.bayou_base.specs.declared.refusal.Refusal.{Refusal}
use Rattle.bayou_base.specs.declared.refusal.Refusal.TheVariants as refusals
use Rattle.bayou_wire.specs.declared.frame.Frame.{Frame}
use Rattle.bayou_wire.specs.declared.frame.Frame.TheVariants as frames
use Rattle.bayou_wire.specs.declared.fault.DecodeFault.{DecodeFault}
use Rattle.bayou_wire.specs.declared.front.Front.{Front}
use Rattle.bayou_wire.specs.declared.front.Front.TheVariants as fronts
use Rattle.bayou_wire.specs.declared.front.PlainFront.{PlainFront}
use Rattle.bayou_wire.specs.declared.front.PlainFront.TheVariants as plain_fronts
use Rattle.bayou_wire.specs.declared.stream.FeedFault.{FeedFault}
use Rattle.bayou_wire.specs.declared.stream.FeedFault.TheVariants as feeds
use Rattle.bayou_wire.specs.declared.layout.TheConstants as layout
use Rattle.bayou_wire.specs.declared.record.Form.{Form}
use Rattle.bayou_wire.specs.declared.record.Form.TheVariants.{Plain, Tagged, Wide}
use Rattle.bayou_wire.specs.Forms.{frame_of}
use Rattle.bayou_wire.specs.Records.{SpellsOld}
use Rattle.bayou_wire.specs.Spelling.{IsFrame, SpellsWrite, frame_bytes, kind_of, payload_bytes}
use Rattle.bayou_wire.specs.Stream.{IsFaultAt, IsFaulty, IsPackedFault, IsPartial, TakesIn, stream_of}

abbrev pub Read : Type 0 → Type 0
Read T = Option (T × List ℕ)

infixl 10 ◌>>=◌
abbrev pub ◌>>=◌ : {A B : Type 0} → Option A → (A → Option B) → Option B
o >>= f = option_and_then f o

-- what a function returned, seen by view, is what is read
abbrev pub Gives : {X Y : Type 0} → (X → Y) → Option X → Option Y → Type 0
Gives view (Some x) read = read ≡ Some (view x)
Gives view None read = read ≡ None

-- one after the other
abbrev pub both : {A B : Type 0} → (List ℕ → Read A) → (List ℕ → Read B) → List ℕ → Read (A × B)
both first second bytes = first bytes >>= λ x. second x.1 >>= λ y. Some ((x.0, y.0), y.1)

-- what is made of what is read
abbrev pub made : {A B : Type 0} → (A → B) → (List ℕ → Read A) → List ℕ → Read B
made make at bytes = at bytes >>= λ x. Some (make x.0, x.1)

-- so many, one after the other
unfoldable pub times : {T : Type 0} → ℕ → (List ℕ → Read T) → List ℕ → Read (List T)
times zero at bytes = Some ([], bytes)
times (suc n) at bytes = at bytes >>= λ x. times n at x.1 >>= λ y. Some (x.0 ∷ y.0, y.1)

-- ---- values

abbrev pub byte_at : List ℕ → Read ℕ
byte_at [] = None
byte_at (byte ∷ bytes) = Some (byte, bytes)

abbrev pub number_at : Width → List ℕ → Read ℕ
number_at w bytes =
    if nat_lt (length bytes) (byte_len w) then None
    else Some (from_be_bytes w (take (byte_len w) bytes), drop (byte_len w) bytes)

abbrev pub i64_at : List ℕ → Read ℤ
i64_at bytes = number_at w64 bytes >>= λ n. Some (cast_signed w64 n.0, n.1)

-- a length, and that many bytes
abbrev pub short_at : List ℕ → Read (List ℕ)
short_at [] = None
short_at (len ∷ bytes) = if nat_lt (length bytes) len then None else Some (take len bytes, drop len bytes)

unfoldable pub key_at : List ℕ → Read (List ℕ)
key_at bytes = short_at bytes >>= λ key. if is_none (key_fault key.0) then Some key else None

unfoldable pub prefix_at : List ℕ → Read (List ℕ)
prefix_at bytes = short_at bytes >>= λ prefix. if is_none (prefix_fault prefix.0) then Some prefix else None

unfoldable pub text_at : List ℕ → Read (List ℕ)
text_at bytes = short_at bytes >>= λ text. if is_utf8 text.0 then (if nat_le (length text.0) MAX_TEXT_BYTES then Some text else None) else None

unfoldable pub value_at : List ℕ → Read Value
value_at [] = None
value_at (tag ∷ bytes) =
    if tag == layout.VALUE_NUM then made Num i64_at bytes
    else (if tag == layout.VALUE_TEXT then made Text text_at bytes else None)

unfoldable pub term_at : List ℕ → Read Term
term_at [] = None
term_at (tag ∷ bytes) =
    if tag == layout.TERM_LIT then made Lit value_at bytes
    else (if tag == layout.TERM_COPY then made Copy key_at bytes
    else (if tag == layout.TERM_PLUS then made (λ p. Plus p.0 p.1) (both key_at i64_at) bytes else None))

unfoldable pub op_at : List ℕ → Read Op
op_at [] = None
op_at (tag ∷ bytes) =
    if tag == layout.OP_PUT then made (λ p. Put p.0 p.1) (both key_at term_at) bytes
    else (if tag == layout.OP_DEL then made Del key_at bytes else None)

unfoldable pub cond_at : List ℕ → Read Cond
cond_at [] = None
cond_at (tag ∷ bytes) =
    if tag == layout.COND_EQUALS then made (λ p. Equals p.0 p.1) (both key_at value_at) bytes
    else (if tag == layout.COND_ABSENT then made Absent key_at bytes
    else (if tag == layout.COND_AT_LEAST then made (λ p. AtLeast p.0 p.1) (both key_at i64_at) bytes
    else (if tag == layout.COND_AT_MOST then made (λ p. AtMost p.0 p.1) (both prefix_at (number_at w32)) bytes else None)))

-- the number of members, and the members
unfoldable pub list_at : {T : Type 0} → ℕ → (List ℕ → Read T) → List ℕ → Read (List T)
list_at most at [] = None
list_at most at (count ∷ bytes) = if nat_lt most count then None else times count at bytes

unfoldable pub alt_at : List ℕ → Read Alt
alt_at bytes =
    made (λ p. record { when = record { items = p.0 }; ops = record { items = p.1 } })
    (both (list_at MAX_CONDITIONS cond_at) (list_at MAX_OPS op_at)) bytes

unfoldable pub program_at : List ℕ → Read Program
program_at bytes =
    made (λ p. record { check = record { items = p.0 }; update = record { items = p.1.0 }; merge = record { items = p.1.1 } })
    (both (list_at MAX_CONDITIONS cond_at) (both (list_at MAX_OPS op_at) (list_at MAX_ALTERNATIVES alt_at))) bytes

-- the vector of these counts, where none is too great
unfoldable pub vector_of : List ℕ → Option (List ℕ)
vector_of counts = if list_all (λ count. nat_le count MAX_WRITES) counts then Some counts else None

unfoldable pub vector_at : List ℕ → Read (List ℕ)
vector_at bytes = times SERVERS (number_at w32) bytes >>= λ x. vector_of x.0 >>= λ vector. Some (vector, x.1)

-- ---- names and stamps

-- the server of this index, where there is one
abbrev pub server_if : (n : ℕ) (below : Bool) → nat_lt n SERVERS ≡ below → Option ServerId
server_if n true within = Some (record { index = n; in_range = ltb-true n SERVERS within })
server_if n false without = None

unfoldable pub server_of : ℕ → Option ServerId
server_of n = server_if n (nat_lt n SERVERS) refl

-- that a seq or a clock is in its range, where it is
abbrev pub placed_if : (n : ℕ) (above below : Bool) → nat_lt 0 n ≡ above → nat_le n MAX_WRITES ≡ below → Option ((0 < n) × (n ≤ MAX_WRITES))
placed_if n true true above below = Some (ltb-true 0 n above, leb-true n MAX_WRITES below)
placed_if n true false above below = None
placed_if n false true above below = None
placed_if n false false above below = None

unfoldable pub placed : (n : ℕ) → Option ((0 < n) × (n ≤ MAX_WRITES))
placed n = placed_if n (nat_lt 0 n) (nat_le n MAX_WRITES) refl refl

unfoldable pub wid_of : ServerId → ℕ → Option Wid
wid_of origin seq = placed seq >>= λ within. Some (record { origin = origin; seq = seq; in_range = within })

unfoldable pub wid_at : List ℕ → Read Wid
wid_at bytes =
    byte_at bytes >>= λ index. server_of index.0 >>= λ origin. number_at w32 index.1 >>= λ seq.
    wid_of origin seq.0 >>= λ wid. Some (wid, seq.1)

-- the session of this index, where there is one
abbrev pub session_if : (n : ℕ) (below : Bool) → nat_lt n SESSIONS ≡ below → Option SessionId
session_if n true within = Some (record { index = n; in_range = ltb-true n SESSIONS within })
session_if n false without = None

unfoldable pub session_of : ℕ → Option SessionId
session_of n = session_if n (nat_lt n SESSIONS) refl

-- that a run and a number are counted from 1, where they are
abbrev pub counted_if : (run number : ℕ) (first second : Bool) → nat_lt 0 run ≡ first → nat_lt 0 number ≡ second → Option ((0 < run) × (0 < number))
counted_if run number true true first second = Some (ltb-true 0 run first, ltb-true 0 number second)
counted_if run number true false first second = None
counted_if run number false true first second = None
counted_if run number false false first second = None

unfoldable pub counted : (run number : ℕ) → Option ((0 < run) × (0 < number))
counted run number = counted_if run number (nat_lt 0 run) (nat_lt 0 number) refl refl

unfoldable pub tag_of : SessionId → ℕ → ℕ → Option Tag
tag_of session run number = counted run number >>= λ within. Some (record { session = session; run = run; number = number; in_range = within })

unfoldable pub tag_at : List ℕ → Read Tag
tag_at bytes =
    byte_at bytes >>= λ index. session_of index.0 >>= λ session. number_at w32 index.1 >>= λ run. number_at w32 run.1 >>= λ number.
    tag_of session run.0 number.0 >>= λ tag. Some (tag, number.1)

-- what a server gives a Write that it accepts, of one origin
unfoldable pub accepted_of : Wid → ℕ → List ℕ → Option Accepted
accepted_of wid clock deps = placed clock >>= λ within. Some (record {
  wid = wid;
  stamp = record { clock = clock; origin = wid.origin; in_range = within };
  deps = deps;
  one_origin = refl;
})

unfoldable pub accepted_at : List ℕ → Read Accepted
accepted_at bytes =
    wid_at bytes >>= λ wid. number_at w32 wid.1 >>= λ clock. vector_at clock.1 >>= λ deps.
    accepted_of wid.0 clock.0 deps.0 >>= λ accepted. Some (accepted, deps.1)

unfoldable pub write_at : List ℕ → Read Write
write_at bytes =
    made (λ p. record { wid = p.0.wid; stamp = p.0.stamp; deps = p.0.deps; program = p.1; one_origin = p.0.one_origin })
    (both accepted_at program_at) bytes

-- ---- frames

unfoldable pub optional_value_at : List ℕ → Read (Option Value)
optional_value_at [] = None
optional_value_at (tag ∷ bytes) =
    if tag == layout.ABSENT then Some (None, bytes)
    else made (λ value. Some value) value_at (tag ∷ bytes)

unfoldable pub optional_wid_at : List ℕ → Read (Option Wid)
optional_wid_at [] = None
optional_wid_at (tag ∷ bytes) =
    if tag == layout.ABSENT then Some (None, bytes)
    else (if tag == layout.PRESENT then made (λ wid. Some wid) wid_at bytes else None)

-- what stands before the Write of a record that may have a tag
unfoldable pub tagged_head_at : List ℕ → Read (Option Tag)
tagged_head_at [] = None
tagged_head_at (first ∷ bytes) =
    if first == layout.RECORD_OTHERS then Some (None, bytes)
    else (if first == layout.RECORD_OWN then made (λ tag. Some tag) tag_at bytes else None)

-- and in each form
abbrev pub head_at : Form → List ℕ → Read (Option Tag)
head_at Plain bytes = Some (None, bytes)
head_at Tagged bytes = tagged_head_at bytes
head_at Wide bytes = tagged_head_at bytes

-- what the bytes after it spell
abbrev pub SpellsIn : Form → List ℕ → Write → Type 0
SpellsIn Plain bytes write = SpellsOld bytes write
SpellsIn Tagged bytes write = SpellsOld bytes write
SpellsIn Wide bytes write = SpellsWrite bytes write

unfoldable pub refusal_at : List ℕ → Read Refusal
refusal_at [] = None
refusal_at (code ∷ bytes) =
    if code == refusal_codes.CODE_DOWN then Some (refusals.Down, bytes)
    else (if code == refusal_codes.CODE_BEHIND then made refusals.Behind vector_at bytes
    else (if code == refusal_codes.CODE_LOG_FULL then Some (refusals.LogFull, bytes)
    else (if code == refusal_codes.CODE_JOURNAL then Some (refusals.Journal, bytes)
    else (if code == refusal_codes.CODE_NOT_DOWN then Some (refusals.NotDown, bytes)
    else (if code == refusal_codes.CODE_BAD_RECORD then made refusals.BadRecord (number_at w32) bytes
    else (if code == refusal_codes.CODE_LOST then Some (refusals.Lost, bytes)
    else (if code == refusal_codes.CODE_OUT_OF_MEMORY then Some (refusals.OutOfMemory, bytes)
    else (if code == refusal_codes.CODE_TAG_USED then Some (refusals.TagUsed, bytes) else None))))))))

unfoldable pub seen_at : List ℕ → Read Seen
seen_at bytes = made (λ p. record { value = p.0; vector = p.1 }) (both optional_value_at vector_at) bytes

unfoldable pub reply_at : ℕ → List ℕ → Read Frame
reply_at kind bytes =
    if kind == layout.KIND_SEEN then made frames.Seen seen_at bytes
    else (if kind == layout.KIND_ACCEPTED then made frames.Accepted accepted_at bytes
    else (if kind == layout.KIND_REFUSED then made frames.Refused refusal_at bytes
    else (if kind == layout.KIND_REOPENED then made frames.Reopened optional_wid_at bytes
    else (if kind == layout.KIND_ITEM then made frames.Item write_at bytes
    else (if kind == layout.KIND_END then made frames.End (number_at w32) bytes else None)))))

unfoldable pub payload_at : ℕ → List ℕ → Read Frame
payload_at kind bytes =
    if kind == layout.KIND_READ then made (λ p. frames.Read p.0 p.1) (both vector_at key_at) bytes
    else (if kind == layout.KIND_WRITE then made (λ p. frames.Write p.0 p.1.0 p.1.1) (both tag_at (both vector_at program_at)) bytes
    else (if kind == layout.KIND_REOPEN then Some (frames.Reopen, bytes)
    else (if kind == layout.KIND_DUMP then Some (frames.Dump, bytes)
    else (if kind == layout.KIND_OFFER then made frames.Offer vector_at bytes
    else reply_at kind bytes))))

-- whether the kind is in the table
unfoldable pub is_kind : ℕ → Bool
is_kind kind =
    (kind == layout.KIND_READ) || (kind == layout.KIND_WRITE) || (kind == layout.KIND_REOPEN) || (kind == layout.KIND_DUMP)
    || (kind == layout.KIND_OFFER) || (kind == layout.KIND_SEEN) || (kind == layout.KIND_ACCEPTED) || (kind == layout.KIND_REFUSED)
    || (kind == layout.KIND_REOPENED) || (kind == layout.KIND_ITEM) || (kind == layout.KIND_END)

-- what stands at the front of a stream
abbrev pub IsFront : List ℕ → Front → Type 0
IsFront bytes fronts.Partial = IsPartial bytes
IsFront bytes (fronts.Whole frame rest) = IsFrame frame × (bytes ≡ frame_bytes frame ++ rest.now)
IsFront bytes (fronts.Faulty fault) = IsFaulty bytes fault

-- the same, in the form that takes no memory
abbrev pub IsPlainFront : List ℕ → PlainFront → Type 0
IsPlainFront bytes plain_fronts.Partial = IsPartial bytes
IsPlainFront bytes (plain_fronts.Whole frame rest) = IsFrame (frame_of frame) × (bytes ≡ frame_bytes (frame_of frame) ++ rest.now)
IsPlainFront bytes (plain_fronts.Faulty fault) = IsFaulty bytes fault

-- what a kind and a payload, all of it, are
abbrev pub PackedAnswer : ℕ → List ℕ → Result Frame DecodeFault → Type 0
PackedAnswer kind payload (Ok frame) = IsFrame frame × (kind_of frame ≡ kind) × (payload ≡ payload_bytes frame)
PackedAnswer kind payload (Err fault) = IsPackedFault kind payload fault

-- what whole frames from the front on leave: less than one, or one with this fault
abbrev pub IsRestOf : List ℕ → Option DecodeFault → Type 0
IsRestOf rest None = IsPartial rest
IsRestOf rest (Some fault) = IsFaulty rest fault

-- the frames that bytes begin with, how many bytes they leave, and the fault that stands there
pub record IsTaken (bytes : List ℕ) (frames : List Frame) (left : ℕ) (fault : Option DecodeFault) : Type 0 where
  pub each : AllByRecursion IsFrame frames
  pub rest : List ℕ
  pub whole : bytes ≡ stream_of frames rest
  pub size : length rest ≡ left
  pub is : IsRestOf rest fault

-- the fault after the frames, where there are none
abbrev pub IsFirst : List Frame → Option DecodeFault → Option DecodeFault → Type 0
IsFirst frames behind (Some fault) = (frames ≡ []) × (behind ≡ Some fault)
IsFirst frames behind None = frames ≡ [] → behind ≡ None

-- what is made of all bytes, and what is held back of them
abbrev pub Keeps : List ℕ → Result (List Frame) FeedFault → List ℕ → Type 0
Keeps bytes (Ok frames) now = TakesIn bytes frames now
Keeps bytes (Err (feeds.Fault fault)) now = IsFaulty bytes fault
Keeps bytes (Err feeds.OutOfMemory) now = ⊥
Keeps bytes (Err feeds.Failed) now = ⊥

-- which fault, if any, stands in a frame's place in what is held back then, unless one was reported
abbrev pub StandsBehind : Result (List Frame) FeedFault → List ℕ → Option DecodeFault → Type 0
StandsBehind (Err (feeds.Fault told)) now behind = Unit {0}
StandsBehind (Err feeds.OutOfMemory) now behind = IsFaultAt now behind
StandsBehind (Err feeds.Failed) now behind = IsFaultAt now behind
StandsBehind (Ok frames) now behind = IsFaultAt now behind

-- one call on what is held back
abbrev pub FedOpen : List ℕ → List ℕ → Result (List Frame) FeedFault → List ℕ → Type 0
FedOpen held piece (Ok frames) now = TakesIn (held ++ piece) frames now
FedOpen held piece (Err (feeds.Fault fault)) now = IsFaulty (held ++ piece) fault
FedOpen held piece (Err feeds.OutOfMemory) now = (now ≡ held) × ((fault : DecodeFault) → ¬ (IsFaulty held fault))
FedOpen held piece (Err feeds.Failed) now = ⊥
