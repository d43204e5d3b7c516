-- The bytes of Writes and frames, and which frames have a spelling: this project's own format. Each value has one
-- spelling.
use Rattle.std.specs.Prelude.{◌≡◌, ◌≢◌, ℕ, ◌+◌, ◌<◌, ◌^◌, ℤ, List, [], ◌∷◌, ◌++◌, Option, None, Some, Result, Ok, Err, length, slice_index, IfSome}
use Rattle.std.specs.List.{flat_map, range_with_len}
use Rattle.std.specs.Int.{w16, w32, w64, to_be_bytes, cast_unsigned}
use Rattle.bayou_base.specs.Refusal.{refusal_code}
use Rattle.bayou_base.specs.Vector.{AreCounts}
use Rattle.bayou_base.specs.declared.limits.TheConstants.{SERVERS}
use Rattle.bayou_base.specs.declared.stamp.Stamp.{Stamp}
use Rattle.bayou_base.specs.declared.tag.Tag.{Tag}
use Rattle.bayou_base.specs.declared.value.Value.{Value}
use Rattle.bayou_base.specs.declared.value.Value.TheVariants.{Num, Text}
use Rattle.bayou_base.specs.declared.wid.Wid.{Wid}
use Rattle.bayou_lang.specs.declared.program.Alt.{Alt}
use Rattle.bayou_lang.specs.declared.program.Cond.{Cond}
use Rattle.bayou_lang.specs.declared.program.Cond.TheVariants.{Equals, Absent, AtLeast, AtMost}
use Rattle.bayou_lang.specs.declared.program.Op.{Op}
use Rattle.bayou_lang.specs.declared.program.Op.TheVariants.{Put, Del}
use Rattle.bayou_lang.specs.declared.program.Program.{Program}
use Rattle.bayou_lang.specs.declared.program.Term.{Term}
use Rattle.bayou_lang.specs.declared.program.Term.TheVariants.{Lit, Copy, Plus}
use Rattle.bayou_lang.specs.declared.write.Write.{Write}
use Rattle.bayou_lang.specs.Ranges.{IsKey, IsProgram, IsValue}
pub use Rattle.bayou_lang.specs.Ranges.{IsWrite}
use Rattle.bayou_wire.specs.declared.fault.DecodeFault.{DecodeFault}
use Rattle.bayou_wire.specs.declared.fault.DecodeFault.TheVariants as faults
use Rattle.bayou_base.specs.declared.refusal.Refusal.{Refusal}
use Rattle.bayou_base.specs.declared.refusal.Refusal.TheVariants as refusals
use Rattle.bayou_wire.specs.declared.frame.Frame.{Frame}
use Rattle.bayou_wire.specs.declared.frame.Frame.TheVariants as frames
use Rattle.bayou_wire.specs.declared.layout.TheConstants as layout

-- ---- values

-- a number of four bytes
abbrev pub u32_bytes : ℕ → List ℕ
u32_bytes n = to_be_bytes w32 n

-- a signed number of eight bytes, in two's complement
unfoldable pub i64_bytes : ℤ → List ℕ
i64_bytes number = to_be_bytes w64 (cast_unsigned w64 number)

-- a key, a prefix or a text: its length, and its bytes
abbrev pub short_bytes : List ℕ → List ℕ
short_bytes bytes = length bytes ∷ bytes

abbrev pub value_bytes : Value → List ℕ
value_bytes (Num number) = layout.VALUE_NUM ∷ i64_bytes number
value_bytes (Text text) = layout.VALUE_TEXT ∷ short_bytes text

abbrev pub term_bytes : Term → List ℕ
term_bytes (Lit value) = layout.TERM_LIT ∷ value_bytes value
term_bytes (Copy key) = layout.TERM_COPY ∷ short_bytes key
term_bytes (Plus key number) = layout.TERM_PLUS ∷ (short_bytes key ++ i64_bytes number)

abbrev pub op_bytes : Op → List ℕ
op_bytes (Put key term) = layout.OP_PUT ∷ (short_bytes key ++ term_bytes term)
op_bytes (Del key) = layout.OP_DEL ∷ short_bytes key

abbrev pub cond_bytes : Cond → List ℕ
cond_bytes (Equals key value) = layout.COND_EQUALS ∷ (short_bytes key ++ value_bytes value)
cond_bytes (Absent key) = layout.COND_ABSENT ∷ short_bytes key
cond_bytes (AtLeast key number) = layout.COND_AT_LEAST ∷ (short_bytes key ++ i64_bytes number)
cond_bytes (AtMost prefix most) = layout.COND_AT_MOST ∷ (short_bytes prefix ++ u32_bytes most)

-- a list: the number of its members, and the members
abbrev pub list_bytes : {T : Type 0} → (T → List ℕ) → List T → List ℕ
list_bytes spelling members = length members ∷ flat_map spelling members

abbrev pub alt_bytes : Alt → List ℕ
alt_bytes alt = list_bytes cond_bytes alt.when.items ++ list_bytes op_bytes alt.ops.items

abbrev pub program_bytes : Program → List ℕ
program_bytes program =
    list_bytes cond_bytes program.check.items ++ (list_bytes op_bytes program.update.items ++ list_bytes alt_bytes program.merge.items)

-- the counts of so many servers, from the first on
abbrev pub counts_bytes : ℕ → List ℕ → List ℕ
counts_bytes servers counts = flat_map (λ server. u32_bytes (slice_index counts server)) (range_with_len 0 servers)

-- a vector has a count for each server
unfoldable pub vector_bytes : List ℕ → List ℕ
vector_bytes counts = counts_bytes SERVERS counts

abbrev pub wid_bytes : Wid → List ℕ
wid_bytes wid = wid.origin.index ∷ u32_bytes wid.seq

-- the name of an asking: its session, its run and its number
abbrev pub tag_bytes : Tag → List ℕ
tag_bytes tag = tag.session.index ∷ (u32_bytes tag.run ++ u32_bytes tag.number)

-- what a server gives a Write that it accepts
abbrev pub accepted_bytes : Wid → Stamp → List ℕ → List ℕ
accepted_bytes wid stamp deps = wid_bytes wid ++ (u32_bytes stamp.clock ++ vector_bytes deps)

abbrev pub write_bytes : Write → List ℕ
write_bytes write = accepted_bytes write.wid write.stamp write.deps ++ program_bytes write.program

-- ---- frames

-- no value, or a value
abbrev pub optional_value_bytes : Option Value → List ℕ
optional_value_bytes None = layout.ABSENT ∷ []
optional_value_bytes (Some value) = value_bytes value

abbrev pub optional_wid_bytes : Option Wid → List ℕ
optional_wid_bytes None = layout.ABSENT ∷ []
optional_wid_bytes (Some wid) = layout.PRESENT ∷ wid_bytes wid

abbrev pub behind_code : Refusal → List ℕ
behind_code refusals.Down = []
behind_code (refusals.Behind vector) = vector_bytes vector
behind_code refusals.LogFull = []
behind_code refusals.Journal = []
behind_code refusals.NotDown = []
behind_code (refusals.BadRecord at) = u32_bytes at
behind_code refusals.Lost = []
behind_code refusals.OutOfMemory = []
behind_code refusals.TagUsed = []

-- why a request is refused: its code, and what the server holds, or the place of the record
abbrev pub refusal_bytes : Refusal → List ℕ
refusal_bytes refusal = refusal_code refusal ∷ behind_code refusal

abbrev pub kind_of : Frame → ℕ
kind_of (frames.Read need key) = layout.KIND_READ
kind_of (frames.Write tag need program) = layout.KIND_WRITE
kind_of frames.Reopen = layout.KIND_REOPEN
kind_of frames.Dump = layout.KIND_DUMP
kind_of (frames.Offer vector) = layout.KIND_OFFER
kind_of (frames.Seen seen) = layout.KIND_SEEN
kind_of (frames.Accepted accepted) = layout.KIND_ACCEPTED
kind_of (frames.Refused refusal) = layout.KIND_REFUSED
kind_of (frames.Reopened adopted) = layout.KIND_REOPENED
kind_of (frames.Item write) = layout.KIND_ITEM
kind_of (frames.End number) = layout.KIND_END

abbrev pub payload_bytes : Frame → List ℕ
payload_bytes (frames.Read need key) = vector_bytes need ++ short_bytes key
payload_bytes (frames.Write tag need program) = tag_bytes tag ++ (vector_bytes need ++ program_bytes program)
payload_bytes frames.Reopen = []
payload_bytes frames.Dump = []
payload_bytes (frames.Offer vector) = vector_bytes vector
payload_bytes (frames.Seen seen) = optional_value_bytes seen.value ++ vector_bytes seen.vector
payload_bytes (frames.Accepted accepted) = accepted_bytes accepted.wid accepted.stamp accepted.deps
payload_bytes (frames.Refused refusal) = refusal_bytes refusal
payload_bytes (frames.Reopened adopted) = optional_wid_bytes adopted
payload_bytes (frames.Item write) = write_bytes write
payload_bytes (frames.End number) = u32_bytes number

-- a kind and a payload after their length, which counts both
abbrev pub packed : ℕ → List ℕ → List ℕ
packed kind payload = to_be_bytes w16 (length payload + 1) ++ (kind ∷ payload)

abbrev pub frame_bytes : Frame → List ℕ
frame_bytes frame = packed (kind_of frame) (payload_bytes frame)

abbrev pub IsRefusal : Refusal → Type 0
IsRefusal refusals.Down = Unit {0}
IsRefusal (refusals.Behind vector) = AreCounts vector
IsRefusal refusals.LogFull = Unit {0}
IsRefusal refusals.Journal = Unit {0}
IsRefusal refusals.NotDown = Unit {0}
IsRefusal (refusals.BadRecord at) = at < 2 ^ 32
IsRefusal refusals.Lost = Unit {0}
IsRefusal refusals.OutOfMemory = Unit {0}
IsRefusal refusals.TagUsed = Unit {0}

-- each of its two numbers has four bytes
abbrev pub IsTag : Tag → Type 0
IsTag tag = (tag.run < 2 ^ 32) × (tag.number < 2 ^ 32)

abbrev pub IsFrame : Frame → Type 0
IsFrame (frames.Read need key) = AreCounts need × IsKey key
IsFrame (frames.Write tag need program) = IsTag tag × AreCounts need × IsProgram program
IsFrame frames.Reopen = Unit {0}
IsFrame frames.Dump = Unit {0}
IsFrame (frames.Offer vector) = AreCounts vector
IsFrame (frames.Seen seen) = IfSome seen.value IsValue × AreCounts seen.vector
IsFrame (frames.Accepted accepted) = AreCounts accepted.deps
IsFrame (frames.Refused refusal) = IsRefusal refusal
IsFrame (frames.Reopened adopted) = Unit {0}
IsFrame (frames.Item write) = IsWrite write
IsFrame (frames.End number) = number < 2 ^ 32

-- ---- whole inputs

-- the bytes are the one spelling of the Write
pub record SpellsWrite (bytes : List ℕ) (write : Write) : Type 0 where
  pub is : IsWrite write
  pub spelled : bytes ≡ write_bytes write

-- the bytes are the one spelling of the frame
pub record SpellsFrame (bytes : List ℕ) (frame : Frame) : Type 0 where
  pub is : IsFrame frame
  pub spelled : bytes ≡ frame_bytes frame

-- the bytes begin with the spelling of a Write
abbrev pub BeginsWithWrite : List ℕ → List ℕ → Type 0
BeginsWithWrite bytes rest = (write : Write) × IsWrite write × (bytes ≡ write_bytes write ++ rest)

-- What decoding a Write answers. Trailing: a Write, and bytes after it. BadBody: no front of the bytes is a Write.
abbrev pub WriteAnswer : List ℕ → Result Write DecodeFault → Type 0
WriteAnswer bytes (Ok write) = SpellsWrite bytes write
WriteAnswer bytes (Err faults.Trailing) = (rest : List ℕ) × (rest ≢ []) × BeginsWithWrite bytes rest
WriteAnswer bytes (Err faults.BadBody) = (rest : List ℕ) → ¬ (BeginsWithWrite bytes rest)
WriteAnswer bytes (Err faults.TooLong) = ⊥
WriteAnswer bytes (Err faults.BadKind) = ⊥
