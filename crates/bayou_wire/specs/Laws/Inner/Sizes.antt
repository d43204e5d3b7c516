-- How many bytes spellings have at the most.
use Rattle.std.proofs.Common.{◌≡◌, ℕ, ◌+◌, ◌*◌, ◌<◌, ◌≤◌, ℤ, List, [], ◌∷◌, ◌++◌, length, Option, None, Some, refl, ap, arith}
use Rattle.std.specs.Prelude.{IfSome}
use Rattle.std.specs.List.{flat_map, AllByRecursion}
use Rattle.std.proofs.lemmas.Bool.Decides.{nat_tests}
use Rattle.std.proofs.Math.Nat.{mul-le-mul_right}
use Rattle.std.proofs.lemmas.List.{length-append}
use Rattle.bayou_base.specs.declared.limits.TheConstants.{SERVERS, MAX_FRAME_BYTES, MAX_WRITE_BYTES, MAX_KEY_BYTES, MAX_OPS, MAX_CONDITIONS, MAX_ALTERNATIVES}
use Rattle.bayou_base.specs.declared.stamp.Stamp.{Stamp}
use Rattle.bayou_base.specs.declared.tag.Tag.{Tag}
use Rattle.bayou_base.specs.declared.value.Value.{Value}
use Rattle.bayou_base.specs.declared.value.Value.TheVariants.{Num, Text}
use Rattle.bayou_base.specs.declared.wid.Wid.{Wid}
use Rattle.bayou_lang.specs.declared.program.Alt.{Alt}
use Rattle.bayou_lang.specs.declared.program.Cond.{Cond}
use Rattle.bayou_lang.specs.declared.program.Cond.TheVariants.{Equals, Absent, AtLeast, AtMost}
use Rattle.bayou_lang.specs.declared.program.Op.{Op}
use Rattle.bayou_lang.specs.declared.program.Op.TheVariants.{Put, Del}
use Rattle.bayou_lang.specs.declared.program.Program.{Program}
use Rattle.bayou_lang.specs.declared.program.Term.{Term}
use Rattle.bayou_lang.specs.declared.program.Term.TheVariants.{Lit, Copy, Plus}
use Rattle.bayou_lang.specs.declared.write.Write.{Write}
use Rattle.bayou_wire.specs.declared.frame.Frame.{Frame}
use Rattle.bayou_wire.specs.declared.frame.Frame.TheVariants as frames
use Rattle.bayou_base.specs.declared.refusal.Refusal.{Refusal}
use Rattle.bayou_base.specs.declared.refusal.Refusal.TheVariants as refusals
use Rattle.bayou_wire.specs.declared.layout.TheConstants.{LENGTH_BYTES, TAG_BYTES}
use Rattle.bayou_lang.specs.Ranges.{IsKey, IsPrefix, IsValue, IsTerm, IsOp, IsCond, AreAtMost, IsAlt, IsProgram, IsWrite}
use Rattle.bayou_wire.specs.Laws.Inner.Vectors.{length-vector_bytes}
use Rattle.bayou_wire.specs.Spelling.{i64_bytes, u32_bytes, short_bytes, value_bytes, term_bytes, op_bytes, cond_bytes, list_bytes, alt_bytes, program_bytes, vector_bytes, tag_bytes, accepted_bytes, write_bytes, optional_value_bytes, optional_wid_bytes, refusal_bytes, payload_bytes, IsRefusal, IsFrame, SpellsFrame}

pub key_is_short : (key : List ℕ) → IsKey key → length key ≤ MAX_KEY_BYTES
key_is_short key is = grind (arith, nat_tests)

pub prefix_is_short : (prefix : List ℕ) → IsPrefix prefix → length prefix ≤ MAX_KEY_BYTES
prefix_is_short prefix is = grind (arith, nat_tests)

length-i64_bytes : (number : ℤ) → length (i64_bytes number) ≡ 8
unfolding i64_bytes
length-i64_bytes number = refl

pub value_size : (value : Value) → IsValue value → length (value_bytes value) ≤ 34
value_size (Num number) is = omega (arith, length-i64_bytes number)
value_size (Text text) is = omega (arith, is.0)

term_size : (term : Term) → IsTerm term → length (term_bytes term) ≤ 42
term_size (Lit value) is = omega (arith, value_size value is)
term_size (Copy key) is = omega (arith, key_is_short key is)
term_size (Plus key number) is = omega (arith, key_is_short key is.0, length-append key (i64_bytes number), length-i64_bytes number)

op_size : (op : Op) → IsOp op → length (op_bytes op) ≤ 76
op_size (Put key term) is = omega (arith, key_is_short key is.0, term_size term is.1, length-append key (term_bytes term))
op_size (Del key) is = omega (arith, key_is_short key is)

cond_size : (condition : Cond) → IsCond condition → length (cond_bytes condition) ≤ 68
cond_size (Equals key value) is = omega (arith, key_is_short key is.0, value_size value is.1, length-append key (value_bytes value))
cond_size (Absent key) is = omega (arith, key_is_short key is)
cond_size (AtLeast key number) is = omega (arith, key_is_short key is.0, length-append key (i64_bytes number), length-i64_bytes number)
cond_size (AtMost prefix most) is = omega (arith, prefix_is_short prefix is.0, length-append prefix (u32_bytes most))

pub members_size : {T : Type 0} (Is : T → Type 0) (spelling : T → List ℕ) (size : ℕ) → ((x : T) → Is x → length (spelling x) ≤ size)
    → (members : List T) → AllByRecursion Is members → length (flat_map spelling members) ≤ length members * size
members_size Is spelling size each [] all = omega arith
members_size Is spelling size each (x ∷ xs) all =
    grind (arith, length-append (spelling x) (flat_map spelling xs), each x all.0, members_size Is spelling size each xs all.1)

list_size : {T : Type 0} (Is : T → Type 0) (spelling : T → List ℕ) (size most : ℕ) → ((x : T) → Is x → length (spelling x) ≤ size)
    → (members : List T) → AreAtMost most Is members → length (list_bytes spelling members) ≤ most * size + 1
list_size Is spelling size most each members are =
    let sizes : length (flat_map spelling members) ≤ length members * size = members_size Is spelling size each members are.1 in
    let few : length members * size ≤ most * size = mul-le-mul_right size are.0 in
    omega (arith, sizes, few)

conds_size : (xs : List Cond) → AreAtMost MAX_CONDITIONS IsCond xs → length (list_bytes cond_bytes xs) ≤ 545
conds_size xs are = omega (arith, list_size IsCond cond_bytes 68 MAX_CONDITIONS cond_size xs are)

ops_size : (xs : List Op) → AreAtMost MAX_OPS IsOp xs → length (list_bytes op_bytes xs) ≤ 609
ops_size xs are = omega (arith, list_size IsOp op_bytes 76 MAX_OPS op_size xs are)

alt_size : (alt : Alt) → IsAlt alt → length (alt_bytes alt) ≤ 1154
alt_size alt is = omega (arith, conds_size alt.when.items is.0, ops_size alt.ops.items is.1, length-append (list_bytes cond_bytes alt.when.items) (list_bytes op_bytes alt.ops.items))

program_size : (program : Program) → IsProgram program → length (program_bytes program) ≤ 5771
program_size program is =
    let conds = conds_size program.check.items is.0 in
    let ops = ops_size program.update.items is.1.0 in
    let alts = list_size IsAlt alt_bytes 1154 MAX_ALTERNATIVES alt_size program.merge.items is.1.1 in
    let later = length-append (list_bytes op_bytes program.update.items) (list_bytes alt_bytes program.merge.items) in
    let all = length-append (list_bytes cond_bytes program.check.items) (list_bytes op_bytes program.update.items ++ list_bytes alt_bytes program.merge.items) in
    omega (arith, conds, ops, alts, later, all)

tag_size : (tag : Tag) → length (tag_bytes tag) ≡ TAG_BYTES
tag_size tag = refl

-- what a request to accept a Write has after its kind
request_size : (tag : Tag) (need : List ℕ) (program : Program) → IsProgram program
    → length (tag_bytes tag ++ (vector_bytes need ++ program_bytes program)) ≤ TAG_BYTES + SERVERS * 4 + 5771
request_size tag need program is =
    let behind : length (vector_bytes need ++ program_bytes program) ≤ SERVERS * 4 + 5771 =
    omega (arith, length-append (vector_bytes need) (program_bytes program), length-vector_bytes need, program_size program is) in
    omega (arith, length-append (tag_bytes tag) (vector_bytes need ++ program_bytes program), tag_size tag, behind)

accepted_size : (wid : Wid) (stamp : Stamp) (deps : List ℕ) → length (accepted_bytes wid stamp deps) ≡ SERVERS * 4 + 9
accepted_size wid stamp deps = omega (arith, length-vector_bytes deps)

pub write_size : (write : Write) → IsWrite write → length (write_bytes write) ≤ MAX_WRITE_BYTES
write_size write is =
    let head = accepted_size write.wid write.stamp write.deps in
    let body = program_size write.program is.1 in
    let all = length-append (accepted_bytes write.wid write.stamp write.deps) (program_bytes write.program) in
    omega (arith, head, body, all)

-- its name, its clock, its vector, and a byte for each of three lists
pub write_size_least : (write : Write) → 9 + 4 * SERVERS + 3 ≤ length (write_bytes write)
write_size_least write =
    let head = accepted_size write.wid write.stamp write.deps in
    let conds = list_bytes cond_bytes write.program.check.items in
    let ops = list_bytes op_bytes write.program.update.items in
    let alts = list_bytes alt_bytes write.program.merge.items in
    let later = length-append ops alts in
    let body = length-append conds (ops ++ alts) in
    let all = length-append (accepted_bytes write.wid write.stamp write.deps) (program_bytes write.program) in
    omega (arith, head, later, body, all)

optional_value_size : (value : Option Value) → IfSome value IsValue → length (optional_value_bytes value) ≤ 34
optional_value_size None is = omega arith
optional_value_size (Some value) is = value_size value is

refusal_size : (refusal : Refusal) → IsRefusal refusal → length (refusal_bytes refusal) ≤ SERVERS * 4 + 1
refusal_size refusals.Down is = omega arith
refusal_size (refusals.Behind vector) is = omega (arith, length-vector_bytes vector)
refusal_size refusals.LogFull is = omega arith
refusal_size refusals.Journal is = omega arith
refusal_size refusals.NotDown is = omega arith
refusal_size (refusals.BadRecord at) is = omega arith
refusal_size refusals.Lost is = omega arith
refusal_size refusals.OutOfMemory is = omega arith
refusal_size refusals.TagUsed is = omega arith

reopened_size : (wid : Option Wid) → length (optional_wid_bytes wid) ≤ 6
reopened_size None = omega arith
reopened_size (Some wid) = omega arith

pub payload_is_short : (frame : Frame) → IsFrame frame → length (payload_bytes frame) < MAX_FRAME_BYTES
payload_is_short (frames.Read need key) is = omega (arith, length-vector_bytes need, key_is_short key is.1, length-append (vector_bytes need) (short_bytes key))
payload_is_short (frames.Write tag need program) is = omega (arith, request_size tag need program is.2)
payload_is_short frames.Reopen is = omega arith
payload_is_short frames.Dump is = omega arith
payload_is_short (frames.Offer vector) is = omega (arith, length-vector_bytes vector)
payload_is_short (frames.Seen seen) is = omega (arith, optional_value_size seen.value is.0, length-vector_bytes seen.vector, length-append (optional_value_bytes seen.value) (vector_bytes seen.vector))
payload_is_short (frames.Accepted accepted) is = omega (arith, accepted_size accepted.wid accepted.stamp accepted.deps)
payload_is_short (frames.Refused refusal) is = omega (arith, refusal_size refusal is)
payload_is_short (frames.Reopened adopted) is = omega (arith, reopened_size adopted)
payload_is_short (frames.Item write) is = omega (arith, write_size write is)
payload_is_short (frames.End number) is = omega arith

write_is_some : (write : Write) → 0 < length (write_bytes write)
write_is_some write = omega arith

pub written_size : (bytes : List ℕ) (write : Write) → IsWrite write → bytes ≡ write_bytes write → (0 < length bytes) × (length bytes ≤ MAX_WRITE_BYTES)
written_size bytes write is e = rw e (write_is_some write, write_size write is)

pub framed_size : (bytes : List ℕ) (frame : Frame) → SpellsFrame bytes frame → length bytes ≤ LENGTH_BYTES + MAX_FRAME_BYTES
framed_size bytes frame s = omega (arith, ap length s.spelled, payload_is_short frame s.is)
