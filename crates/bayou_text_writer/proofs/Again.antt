-- What is spelled is read as what it says.
use Rattle.std.proofs.Common.{◌≡◌, ℕ, ◌-◌, ◌<◌, ◌≤◌, ◌^◌, ℤ, pos, negsuc, Bool, true, false, nat_lt, List, [], ◌∷◌, ◌++◌, map, length, unwrap_or, Option, None, Some, codes, Ok, refl, arith, tests}
use Rattle.std.proofs.lemmas.List.{length-map}
use Rattle.std.specs.Int.{w64}
use Rattle.std.specs.Int.RustNames.{FitsSigned}
use Rattle.std.specs.List.{AllByRecursion}
use Rattle.serde_json.specs.Data.{Data, number, string, array}
use Rattle.serde_json.specs.Find.{of_integer}
use Rattle.serde_json.specs.View.{items_of}
use Rattle.bayou_base.specs.declared.asks.Asks.{Asks}
use Rattle.bayou_base.specs.declared.entry.Entry.{Entry}
use Rattle.bayou_base.specs.declared.entry.What.{What}
use Rattle.bayou_base.specs.declared.entry.What.TheVariants as what
use Rattle.bayou_base.specs.declared.limits.TheConstants.{MAX_CONDITIONS, MAX_OPS, MAX_ALTERNATIVES, SERVERS, SESSIONS, MAX_WRITES, MAX_FUSE_CALLS, MAX_FUSE_KEPT, MAX_LOST_BYTES}
use Rattle.bayou_base.specs.declared.server.ServerId.{ServerId}
use Rattle.bayou_base.specs.declared.session.SessionId.{SessionId}
use Rattle.bayou_base.specs.declared.value.Value.{Value}
use Rattle.bayou_base.specs.declared.value.Value.TheVariants.{Num, Text}
use Rattle.bayou_lang.specs.declared.program.Term.{Term}
use Rattle.bayou_lang.specs.declared.program.Term.TheVariants.{Lit, Copy, Plus}
use Rattle.bayou_lang.specs.declared.program.Op.{Op}
use Rattle.bayou_lang.specs.declared.program.Op.TheVariants.{Put, Del}
use Rattle.bayou_lang.specs.declared.program.Cond.{Cond}
use Rattle.bayou_lang.specs.declared.program.Cond.TheVariants.{Equals, Absent, AtLeast, AtMost}
use Rattle.bayou_lang.specs.declared.program.Alt.{Alt}
use Rattle.bayou_lang.specs.declared.program.Program.{Program}
use Rattle.bayou_lang.specs.declared.write.Write.{Write}
use Rattle.bayou_lang.specs.declared.program.ProgramFault.{ProgramFault}
use Rattle.bayou_lang.specs.declared.program.ProgramFault.TheVariants.{TooManyConds, TooManyOps, TooManyAlts}
use Rattle.bayou_text.specs.declared.audit.AuditLine.TheVariants as audit
use Rattle.bayou_text.specs.declared.command.Attempt.{Attempt}
use Rattle.bayou_text.specs.declared.command.Attempt.TheVariants as attempt
use Rattle.bayou_text.specs.declared.command.Command.{Command}
use Rattle.bayou_text.specs.declared.command.Command.TheVariants as command
use Rattle.bayou_text.specs.declared.command.Extent.{Extent}
use Rattle.bayou_text.specs.declared.command.Extent.TheVariants as extent
use Rattle.bayou_text.specs.declared.command.Question.{Question}
use Rattle.bayou_text.specs.declared.command.Question.TheVariants as question
use Rattle.bayou_text.specs.declared.command.TrialKind.{TrialKind}
use Rattle.bayou_text.specs.declared.command.TrialKind.TheVariants as kind
use Rattle.bayou_text.specs.declared.line.Line.{Line}
use Rattle.bayou_text.specs.declared.line.Line.TheVariants as line
use Rattle.bayou_text.specs.Laws.Lines.{asks_found, line_read, listed_items, program_found}
use Rattle.bayou_text_writer.proofs.Vectors.{vector_spelled}
use Rattle.bayou_text.specs.Asks.{asks_in}
use Rattle.bayou_text.specs.Lines.{line_in, servers_in, opening_in, writing_in, reading_in, session_alone_in, alone_in, fusing_in, losing_in, trial_of, bare_in, asked_of, pulling_in, resending_in, exchange_of, retry_of}
use Rattle.bayou_text.specs.Numbers.{number_in, session_in, server_in, integer_in}
use Rattle.bayou_text.specs.Parts.{named_in, keyed_in, at_most_in, term_in, op_in, cond_in}
use Rattle.bayou_text.specs.Programs.{few_in, alt_in, program_in}
use Rattle.bayou_lang.specs.Ranges.{IsKey, IsPrefix, IsValue, IsTerm, IsOp, IsCond, AreAtMost, IsAlt, IsProgram, IsWrite}
use Rattle.bayou_text.specs.Ranges.{IsCutTo, IsToldBy, IsReadable}
use Rattle.bayou_text_writer.specs.Inner.Kept.{IsAttempt, IsCommand, IsLine, IsTrialKind, IsWhat}
use Rattle.bayou_text.specs.Reading.{Parsed, listed, all_in}
use Rattle.bayou_text.specs.Said.{attempt_said, command_said, entry, extent_said, held, question_said, said, trial_kind_said}
use Rattle.bayou_text.specs.Table.{EntryIs, ToldIs, HeldIs}
use Rattle.bayou_text.specs.Spelling.{count_json, value_json, term_json, op_json, cond_json, alt_json, program_json, asks_json, vector_json, head_json, told_json, held_json, line_json}
use Rattle.bayou_text.specs.Values.{key_in, prefix_in, value_in}

number_again : (least most n : ℕ) → least ≤ n → n ≤ most → number_in least most (count_json n) ≡ Ok n
number_again least most n low high = grind (arith, tests)

key_again : (key : List ℕ) → IsKey key → key_in (string key) ≡ Ok key
key_again key valid = rw valid

prefix_again : (prefix : List ℕ) → IsPrefix prefix → prefix_in (string prefix) ≡ Ok prefix
prefix_again prefix valid = rw valid

value_again : (v : Value) → IsValue v → value_in (value_json v) ≡ Ok v
value_again (Num (pos n)) fits = let small : n < 2 ^ 63 = omega (arith, fits) in grind (arith, tests)
value_again (Num (negsuc n)) fits = refl
value_again (Text text) kept = grind (arith, tests, kept.0)

integer_again : (n : ℤ) → FitsSigned w64 n → integer_in (number (of_integer n)) ≡ Ok n
integer_again (pos n) fits = let small : n < 2 ^ 63 = omega (arith, fits) in grind (arith, tests)
integer_again (negsuc n) fits = refl

-- ---- terms, ops and conditions

literal_again : (v : Value) → IsValue v → term_in (value_json v) ≡ Ok (Lit v)
unfolding term_in
literal_again (Num n) kept = rw (value_again (Num n) kept)
literal_again (Text text) kept = rw (value_again (Text text) kept)

term_again : (t : Term) → IsTerm t → term_in (term_json t) ≡ Ok t
unfolding term_in named_in keyed_in
term_again (Lit v) kept = literal_again v kept
term_again (Copy key) kept = rw (key_again key kept)
term_again (Plus key n) kept = rw (key_again key kept.0) (rw (integer_again n kept.1))

op_again : (o : Op) → IsOp o → op_in (op_json o) ≡ Ok o
unfolding op_in named_in keyed_in
op_again (Put key t) kept = rw (key_again key kept.0) (rw (term_again t kept.1))
op_again (Del key) kept = rw (key_again key kept)

cond_again : (c : Cond) → IsCond c → cond_in (cond_json c) ≡ Ok c
unfolding cond_in named_in keyed_in at_most_in
cond_again (Equals key v) kept = rw (key_again key kept.0) (rw (value_again v kept.1))
cond_again (Absent key) kept = rw (key_again key kept)
cond_again (AtLeast key n) kept = rw (key_again key kept.0) (rw (integer_again n kept.1))
cond_again (AtMost prefix n) kept = rw (
  prefix_again prefix kept.0,
  number_again 0 (2 ^ 32 - 1) n (omega arith) (omega (arith, kept.1)),
)

-- ---- lists

module _ {A : Type 0} (Is : A → Type 0) (one_in : Data → Parsed A) (one_json : A → Data) where
  each_again : ((x : A) → Is x → one_in (one_json x) ≡ Ok x) → (xs : List A) → AllByRecursion Is xs
      → all_in one_in (map one_json xs) ≡ Ok xs
  each_again again [] kept = refl
  each_again again (x ∷ xs) kept = rw (again x kept.0, each_again again xs kept.1)

  few_again : ((x : A) → Is x → one_in (one_json x) ≡ Ok x) → (most : ℕ) (many : ProgramFault) (xs : List A)
      → AreAtMost most Is xs → few_in most many one_in (listed (items_of (map one_json xs))) ≡ Ok xs
  few_again again most many xs kept =
      let short : nat_lt most (length (map one_json xs)) ≡ false = simp length-map (grind (
        arith,
        tests,
        kept.0,
      )) in
      rw (listed_items (map one_json xs)) (rw short (each_again again xs kept.1))

alt_again : (a : Alt) → IsAlt a → alt_in (alt_json a) ≡ Ok a
unfolding alt_in
alt_again a kept =
    rw (few_again IsCond cond_in cond_json cond_again MAX_CONDITIONS TooManyConds a.when.items kept.0)
    (rw (few_again IsOp op_in op_json op_again MAX_OPS TooManyOps a.ops.items kept.1))

program_again : (p : Program) → IsProgram p → program_in (program_json p) ≡ Ok p
unfolding program_in program_json
program_again p kept =
    rw (few_again IsCond cond_in cond_json cond_again MAX_CONDITIONS TooManyConds p.check.items kept.0)
    (rw (few_again IsOp op_in op_json op_again MAX_OPS TooManyOps p.update.items kept.1.0)
    (rw (few_again IsAlt alt_in alt_json alt_again MAX_ALTERNATIVES TooManyAlts p.merge.items kept.1.1)))

asks_cases : (ryw mr wfr mw : Bool)
    → asks_in (asks_json (record { ryw = ryw; mr = mr; wfr = wfr; mw = mw })) ≡ Ok (record {
      ryw = ryw;
      mr = mr;
      wfr = wfr;
      mw = mw;
    })
asks_cases true true true true = refl
asks_cases true true true false = refl
asks_cases true true false true = refl
asks_cases true true false false = refl
asks_cases true false true true = refl
asks_cases true false true false = refl
asks_cases true false false true = refl
asks_cases true false false false = refl
asks_cases false true true true = refl
asks_cases false true true false = refl
asks_cases false true false true = refl
asks_cases false true false false = refl
asks_cases false false true true = refl
asks_cases false false true false = refl
asks_cases false false false true = refl
asks_cases false false false false = refl

asks_again : (asks : Asks) → asks_in (asks_json asks) ≡ Ok asks
asks_again asks = asks_cases asks.ryw asks.mr asks.wfr asks.mw

session_again : (who : SessionId) → session_in (count_json who.index) ≡ Ok who.index
session_again who = number_again 0 (SESSIONS - 1) who.index (omega arith) (omega (arith, who.in_range))

server_again : (place : ServerId) → server_in (count_json place.index) ≡ Ok place.index
server_again place = number_again 0 (SERVERS - 1) place.index (omega arith) (omega (arith, place.in_range))

-- ---- lines of audit files

head_spelled : (told : Entry) (word : List ℕ) (others : List Data) → told.place < 2 ^ 32
    → EntryIs word others (array (items_of (head_json told word ++ others))) told
head_spelled told word others place = record {
  session_data = count_json told.session.index;
  place_data = count_json told.place;
  asks_data = asks_json told.asks;
  server_data = count_json told.server.index;
  form_is = refl;
  session_is = refl;
  place_is = refl;
  place_in_range = omega (arith, place);
  asks_are = asks_found (asks_json told.asks) told.asks (asks_again told.asks);
  server_is = refl;
}

told_spelled : (told : Entry) (became : What) (counts : Option ℕ) → told.place < 2 ^ 32 → IsWhat became → IsToldBy told.server became counts
    → ToldIs (told_json told became (unwrap_or counts 0)) told became counts
told_spelled told what.Refused None place kept readable = head_spelled told (codes "refused") [] place
told_spelled told what.Refused (Some n) place kept readable = absurd readable
told_spelled told (what.Read key vector) None place kept readable = absurd readable
told_spelled told (what.Read key vector) (Some n) place kept readable = record {
  key_data = string key;
  vector_data = vector_json n vector;
  entry_is = head_spelled told (codes "read") (string key ∷ vector_json n vector ∷ []) place;
  key_is = (refl, kept.0);
  vector_is = vector_spelled n vector kept.1 readable;
}
told_spelled told (what.Write wid stamp deps) None place kept readable = absurd readable
told_spelled told (what.Write wid stamp deps) (Some n) place kept readable = record {
  seq_data = count_json wid.seq;
  clock_data = count_json stamp.clock;
  deps_data = vector_json n deps;
  entry_is = head_spelled told (codes "write") (count_json wid.seq ∷ count_json stamp.clock ∷ vector_json n deps ∷ []) place;
  own_name = readable.0;
  seq_is = refl;
  own_stamp = readable.1;
  clock_is = refl;
  deps_are = vector_spelled n deps kept readable.2;
}

held_spelled : (place : ServerId) (item : Write) (n : ℕ) → IsWrite item → IsCutTo n item.deps → HeldIs (held_json place.index item n) place.index item n
held_spelled place item n kept cut = record {
  place_data = count_json place.index;
  origin_data = count_json item.wid.origin.index;
  seq_data = count_json item.wid.seq;
  clock_data = count_json item.stamp.clock;
  deps_data = vector_json n item.deps;
  program_data = program_json item.program;
  form_is = refl;
  place_is = refl;
  place_in_range = place.in_range;
  origin_is = refl;
  seq_is = refl;
  clock_is = refl;
  deps_are = vector_spelled n item.deps kept.0 cut;
  program_is = program_found (program_json item.program) item.program (program_again item.program kept.1);
}

-- ---- commands

operation_again : (who : SessionId) (tried : Attempt) → IsAttempt tried → line_in (line_json (attempt_said who.index tried)) ≡ Ok (attempt_said who.index tried)
unfolding line_in writing_in reading_in session_alone_in retry_of
operation_again who (attempt.Write place program) kept = rw (session_again who, server_again place, program_again program kept)
operation_again who (attempt.Read place key) kept = rw (session_again who, server_again place, key_again key kept)
operation_again who attempt.Again kept = rw (session_again who)

trial_again : (place : ServerId) (how : TrialKind) → IsTrialKind how → IsReadable (trial_kind_said place.index how)
    → line_in (line_json (trial_kind_said place.index how)) ≡ Ok (trial_kind_said place.index how)
unfolding line_in alone_in fusing_in losing_in trial_of asked_of exchange_of retry_of
trial_again place (kind.Fuse failure) fits readable = rw (
  server_again place,
  number_again 1 MAX_FUSE_CALLS failure.calls readable.0.0 readable.0.1,
  number_again 0 MAX_FUSE_KEPT failure.kept (omega arith) readable.1,
)
trial_again place (kind.Lose count) fits readable = rw (
  server_again place,
  number_again 0 MAX_LOST_BYTES count (omega arith) readable,
)
trial_again place kind.Reopen kept readable = rw (server_again place)
trial_again place kind.Restart kept readable = rw (server_again place)

exchange_again : (to source : ServerId) (much : Extent) → IsReadable (extent_said to.index source.index much)
    → line_in (line_json (extent_said to.index source.index much)) ≡ Ok (extent_said to.index source.index much)
unfolding line_in pulling_in resending_in exchange_of retry_of
exchange_again to source (extent.Lacking None) readable = rw (server_again to, server_again source)
exchange_again to source (extent.Lacking (Some items)) readable = rw (
  server_again to,
  server_again source,
  number_again 0 MAX_WRITES items (omega arith) readable,
)
exchange_again to source extent.All readable = rw (server_again to, server_again source)

question_again : (what : Question) → line_in (line_json (question_said what)) ≡ Ok (question_said what)
unfolding line_in alone_in bare_in asked_of exchange_of retry_of
question_again (question.Log place) = rw (server_again place)
question_again question.Totals = refl
question_again question.Judge = refl
question_again question.Survey = refl
question_again question.Book = refl

command_again : (asked : Command) → IsCommand asked → IsReadable (command_said asked) → line_in (line_json (command_said asked)) ≡ Ok (command_said asked)
unfolding line_in opening_in bare_in asked_of session_alone_in exchange_of retry_of
command_again (command.Session who asks) kept readable = rw (session_again who, asks_again asks)
command_again (command.Operation operation) kept readable = operation_again operation.session operation.attempt kept
command_again (command.Drop who) kept readable = rw (session_again who)
command_again (command.Trial trial) kept readable = trial_again trial.server trial.kind kept readable
command_again (command.Exchange exchange) kept readable = exchange_again exchange.to exchange.from exchange.extent readable
command_again (command.Question what) kept readable = question_again what
command_again command.Phase kept readable = refl

pub line_again : (l : Line) → IsLine l → IsReadable (said l) → line_in (line_json (said l)) ≡ Ok (said l)
unfolding line_in servers_in
line_again (line.Servers count None) kept readable = rw (
    number_again 1 SERVERS count readable.0.0 readable.0.1
    )
line_again (line.Servers count (Some limit)) kept readable = rw (
  number_again 1 SERVERS count readable.0.0 readable.0.1,
  number_again 1 MAX_WRITES limit readable.1.0 readable.1.1,
)
line_again (line.Command asked) kept readable = command_again asked kept readable
line_again (line.Audit (audit.Entry told counts)) kept readable =
    line_read (told_json told told.what (unwrap_or counts 0)) (entry told counts) (told_spelled told told.what counts kept.0 kept.1 readable)
line_again (line.Audit (audit.Held place item n)) kept readable =
    line_read (held_json place.index item n) (held place.index item n) (held_spelled place item n kept readable)
