-- What is spelled is short enough for a line.
use Rattle.std.proofs.Common.{◌≡◌, ℕ, ◌+◌, ◌*◌, ◌<◌, ◌≤◌, ◌^◌, ℤ, pos, negsuc, Bool, true, false, cond, List, [], ◌∷◌, ◌++◌, length, map, take, unwrap_or, None, Some, codes, arith, tests, length-append, lit<, lit≤}
use Rattle.std.proofs.lemmas.Fmt.{length-decimal-le, length_signed_le}
use Rattle.std.proofs.lemmas.List.{length-take}
use Rattle.std.specs.List.{AllByRecursion}
use Rattle.serde_json.proofs.OnLiterals.{serde_json_on_literals}
use Rattle.serde_json.specs.Data.{Data, number, string, array}
use Rattle.serde_json.specs.Find.{of_integer}
use Rattle.serde_json.specs.Written.{compact_text, items_text, comma_if}
use Rattle.serde_json.specs.View.{items_of}
use Rattle.bayou_base.specs.Vector.{AreCounts}
use Rattle.bayou_base.specs.declared.asks.Asks.{Asks}
use Rattle.bayou_base.specs.declared.entry.Entry.{Entry}
use Rattle.bayou_base.specs.declared.entry.What.{What}
use Rattle.bayou_base.specs.declared.entry.What.TheVariants as what
use Rattle.bayou_base.specs.declared.limits.TheConstants.{MAX_KEY_BYTES, MAX_CONDITIONS, MAX_OPS, MAX_ALTERNATIVES, MAX_LINE_BYTES, MAX_WRITES, SERVERS}
use Rattle.bayou_base.specs.declared.server.ServerId.{ServerId}
use Rattle.bayou_base.specs.declared.session.SessionId.{SessionId}
use Rattle.bayou_base.specs.declared.value.Value.{Value}
use Rattle.bayou_base.specs.declared.value.Value.TheVariants.{Num, Text}
use Rattle.bayou_lang.specs.declared.program.Term.{Term}
use Rattle.bayou_lang.specs.declared.program.Term.TheVariants.{Lit, Copy, Plus}
use Rattle.bayou_lang.specs.declared.program.Op.{Op}
use Rattle.bayou_lang.specs.declared.program.Op.TheVariants.{Put, Del}
use Rattle.bayou_lang.specs.declared.program.Cond.{Cond}
use Rattle.bayou_lang.specs.declared.program.Cond.TheVariants.{Equals, Absent, AtLeast, AtMost}
use Rattle.bayou_lang.specs.declared.program.Alt.{Alt}
use Rattle.bayou_lang.specs.declared.program.Program.{Program}
use Rattle.bayou_lang.specs.declared.write.Write.{Write}
use Rattle.std.specs.Int.{w64}
use Rattle.std.specs.Int.RustNames.{FitsSigned}
use Rattle.bayou_text.specs.declared.audit.AuditLine.TheVariants as audit
use Rattle.bayou_text.specs.declared.command.Attempt.{Attempt}
use Rattle.bayou_text.specs.declared.command.Attempt.TheVariants as attempt
use Rattle.bayou_text.specs.declared.command.Command.{Command}
use Rattle.bayou_text.specs.declared.command.Command.TheVariants as command
use Rattle.bayou_text.specs.declared.command.Extent.{Extent}
use Rattle.bayou_text.specs.declared.command.Extent.TheVariants as extent
use Rattle.bayou_text.specs.declared.command.Question.{Question}
use Rattle.bayou_text.specs.declared.command.Question.TheVariants as question
use Rattle.bayou_text.specs.declared.command.TrialKind.{TrialKind}
use Rattle.bayou_text.specs.declared.command.TrialKind.TheVariants as kind
use Rattle.bayou_text.specs.declared.line.Line.{Line}
use Rattle.bayou_text.specs.declared.line.Line.TheVariants as line
use Rattle.bayou_lang.specs.Ranges.{IsKey, IsPrefix, IsValue, IsTerm, IsOp, IsCond, IsAlt, AreAtMost, IsProgram, IsWrite}
use Rattle.bayou_text_writer.specs.Inner.Kept.{IsAttempt, IsCommand, IsExtent, IsLine, IsTrialKind, IsWhat}
use Rattle.bayou_text.specs.Said.{attempt_said, command_said, extent_said, question_said, said, trial_kind_said}
use Rattle.bayou_text_writer.proofs.Vectors.{taken}
use Rattle.bayou_text.specs.Spelling.{form, count_json, value_json, term_json, op_json, cond_json, alt_json, program_json, asks_json, list_json, vector_json, head_json, told_json, write_json, line_json}

-- how long the text of some JSON is
abbrev size : Data → ℕ
size d = length (compact_text d)

-- how long a string is that has this in its quotes
abbrev size_within : List ℕ → ℕ
size_within bytes = length (34 ∷ ((bytes ++ []) ++ 34 ∷ []))

either_size : (b : Bool) (xs ys : List ℕ) (n : ℕ) → size_within xs ≤ n → size_within ys ≤ n
    → size_within (cond b xs ys) ≤ n
either_size true xs ys n h k = h
either_size false xs ys n h k = k

byte_short : (x : ℕ) → size (string (x ∷ [])) ≤ 8
unfolding serde_json_on_literals
byte_short x = search (arith, either_size)

string_more : (x : ℕ) (s : List ℕ) → size (string (x ∷ s)) + 2 ≡ size (string (x ∷ [])) + size (string s)
string_more x s = simp length-append (omega arith)

string_size : (s : List ℕ) → size (string s) ≤ 6 * length s + 2
string_size [] = lit≤ tt
string_size (x ∷ s) = omega (arith, byte_short x, string_more x s, string_size s)

key_short : (key : List ℕ) → IsKey key → length key ≤ MAX_KEY_BYTES
key_short key valid = grind (arith, tests)

key_size : (key : List ℕ) → IsKey key → size (string key) ≤ 194
key_size key valid = omega (arith, string_size key, key_short key valid)

prefix_short : (prefix : List ℕ) → IsPrefix prefix → length prefix ≤ MAX_KEY_BYTES
prefix_short prefix valid = grind (arith, tests)

prefix_size : (prefix : List ℕ) → IsPrefix prefix → size (string prefix) ≤ 194
prefix_size prefix valid = omega (arith, string_size prefix, prefix_short prefix valid)

count_size : (n : ℕ) → n < 2 ^ 32 → size (count_json n) ≤ 10
count_size n small = length-decimal-le 10 n (lit< tt) (omega arith) (omega arith)

integer_size : (n : ℤ) → FitsSigned w64 n → size (number (of_integer n)) ≤ 20
integer_size (pos n) fits = let short = length-decimal-le 19 n (lit< tt) (omega (arith, fits)) (omega (
  arith,
  fits,
)) in omega arith
integer_size (negsuc n) fits = length_signed_le 19 (negsuc n) (omega (arith, fits)) (omega (arith, fits))

value_size : (v : Value) → IsValue v → size (value_json v) ≤ 194
value_size (Num n) fits = omega (arith, integer_size n fits)
value_size (Text text) kept = omega (arith, string_size text, kept.0)

form_none : (word : List ℕ) → size (form word []) ≤ 6 * length word + 4
form_none word = simp length-append (omega (arith, simp length-append at (string_size word)))

form_one : (word : List ℕ) (d : Data) → size (form word (d ∷ [])) ≤ 6 * length word + size d + 5
form_one word d = simp length-append (omega (arith, simp length-append at (string_size word)))

form_two : (word : List ℕ) (d e : Data) → size (form word (d ∷ e ∷ [])) ≤ 6 * length word + size d + size e + 6
form_two word d e = simp length-append (omega (arith, simp length-append at (string_size word)))

form_three : (word : List ℕ) (d e f : Data)
    → size (form word (d ∷ e ∷ f ∷ [])) ≤ 6 * length word + size d + size e + size f + 7
form_three word d e f = simp length-append (omega (arith, simp length-append at (string_size word)))

term_size : (t : Term) → IsTerm t → size (term_json t) ≤ 250
term_size (Lit v) kept = omega (arith, value_size v kept)
term_size (Copy key) kept = omega (arith, form_one (codes "copy") (string key), key_size key kept)
term_size (Plus key n) kept = omega (
  arith,
  form_two (codes "plus") (string key) (number (of_integer n)),
  key_size key kept.0,
  integer_size n kept.1,
)

op_size : (o : Op) → IsOp o → size (op_json o) ≤ 500
op_size (Put key t) kept = omega (
  arith,
  form_two (codes "put") (string key) (term_json t),
  key_size key kept.0,
  term_size t kept.1,
)
op_size (Del key) kept = omega (arith, form_one (codes "del") (string key), key_size key kept)

cond_size : (c : Cond) → IsCond c → size (cond_json c) ≤ 500
cond_size (Equals key v) kept = omega (
  arith,
  form_two (codes "equals") (string key) (value_json v),
  key_size key kept.0,
  value_size v kept.1,
)
cond_size (Absent key) kept = omega (arith, form_one (codes "absent") (string key), key_size key kept)
cond_size (AtLeast key n) kept = omega (
  arith,
  form_two (codes "atleast") (string key) (number (of_integer n)),
  key_size key kept.0,
  integer_size n kept.1,
)
cond_size (AtMost prefix n) kept = omega (
  arith,
  form_two (codes "atmost") (string prefix) (count_json n),
  prefix_size prefix kept.0,
  count_size n kept.1,
)

comma_short : (later : Bool) → length (comma_if later) ≤ 1
comma_short true = lit≤ tt
comma_short false = lit≤ tt

items_size : {A : Type 0} (Is : A → Type 0) (one_json : A → Data) (most : ℕ)
    → ((x : A) → Is x → size (one_json x) ≤ most)
    → (later : Bool) (xs : List A) → AllByRecursion Is xs
    → length (items_text later (items_of (map one_json xs))) ≤ (most + 1) * length xs + 1
items_size Is one_json most each later [] kept = omega arith
items_size Is one_json most each later (x ∷ xs) kept =
    simp length-append (omega (
      arith,
      comma_short later,
      each x kept.0,
      items_size Is one_json most each true xs kept.1,
    ))

list_size : {A : Type 0} (Is : A → Type 0) (one_json : A → Data) (most : ℕ)
    → ((x : A) → Is x → size (one_json x) ≤ most)
    → (xs : List A) → AllByRecursion Is xs → size (list_json one_json xs) ≤ (most + 1) * length xs + 2
list_size Is one_json most each xs kept = omega (arith, items_size Is one_json most each false xs kept)

ops_size : (ops : List Op) → AreAtMost MAX_OPS IsOp ops → size (list_json op_json ops) ≤ 4010
ops_size ops kept = omega (arith, list_size IsOp op_json 500 op_size ops kept.1, kept.0)

conds_size : (conditions : List Cond) → AreAtMost MAX_CONDITIONS IsCond conditions
    → size (list_json cond_json conditions) ≤ 4010
conds_size conditions kept = omega (
  arith,
  list_size IsCond cond_json 500 cond_size conditions kept.1,
  kept.0,
)

alt_size : (a : Alt) → IsAlt a → size (alt_json a) ≤ 8100
alt_size a kept =
    simp length-append (omega (
      arith,
      ops_size a.ops.items kept.1,
      conds_size a.when.items kept.0,
      simp length-append at (string_size (codes "ops")),
      simp length-append at (string_size (codes "when")),
    ))

alts_size : (alternatives : List Alt) → AreAtMost MAX_ALTERNATIVES IsAlt alternatives
    → size (list_json alt_json alternatives) ≤ 32500
alts_size alternatives kept = omega (
  arith,
  list_size IsAlt alt_json 8100 alt_size alternatives kept.1,
  kept.0,
)

program_size : (p : Program) → IsProgram p → size (program_json p) ≤ 41000
unfolding program_json
program_size p kept =
    simp length-append (omega (
      arith,
      conds_size p.check.items kept.0,
      alts_size p.merge.items kept.1.1,
      ops_size p.update.items kept.1.0,
      simp length-append at (string_size (codes "check")),
      simp length-append at (string_size (codes "merge")),
      simp length-append at (string_size (codes "update")),
    ))

asks_cases : (ryw mr wfr mw : Bool) → size (asks_json (record { ryw = ryw; mr = mr; wfr = wfr; mw = mw })) ≤ 100
unfolding serde_json_on_literals
asks_cases true true true true = lit≤ tt
asks_cases true true true false = lit≤ tt
asks_cases true true false true = lit≤ tt
asks_cases true true false false = lit≤ tt
asks_cases true false true true = lit≤ tt
asks_cases true false true false = lit≤ tt
asks_cases true false false true = lit≤ tt
asks_cases true false false false = lit≤ tt
asks_cases false true true true = lit≤ tt
asks_cases false true true false = lit≤ tt
asks_cases false true false true = lit≤ tt
asks_cases false true false false = lit≤ tt
asks_cases false false true true = lit≤ tt
asks_cases false false true false = lit≤ tt
asks_cases false false false true = lit≤ tt
asks_cases false false false false = lit≤ tt

asks_size : (asks : Asks) → size (asks_json asks) ≤ 100
asks_size asks = asks_cases asks.ryw asks.mr asks.wfr asks.mw

wide_size : (n : ℕ) → n < 2 ^ 64 → size (count_json n) ≤ 20
wide_size n small = length-decimal-le 20 n (lit< tt) (omega arith) (omega arith)

server_size : (word : List ℕ) (place : ServerId) → length word ≤ 7
    → size (form word (count_json place.index ∷ [])) ≤ MAX_LINE_BYTES
server_size word place short = omega (
  arith,
  form_one word (count_json place.index),
  count_size place.index (omega (arith, place.in_range)),
)

vector_size : (n : ℕ) (vector : List ℕ) → AreCounts vector → size (vector_json n vector) ≤ 11 * SERVERS + 2
vector_size n vector are =
    let each = list_size (λ count. count ≤ MAX_WRITES) count_json 10 (λ count small. count_size count (omega (arith, small))) (take n vector)
    (taken vector n are.in_range) in
    omega (arith, each, length-take n vector, are.one_each)

five_size : (a b c d e : Data) → size (array (items_of (a ∷ b ∷ c ∷ d ∷ e ∷ []))) ≤ size a + size b + size c + size d + size e + 6
five_size a b c d e = simp length-append (omega arith)

write_size : (item : Write) (n : ℕ) → IsWrite item → size (write_json item n) ≤ 41040 + 11 * SERVERS
write_size item n kept =
    omega (
      arith,
      five_size (count_json item.wid.origin.index) (count_json item.wid.seq) (count_json item.stamp.clock) (vector_json n item.deps)
          (program_json item.program),
      count_size item.wid.origin.index (omega (arith, item.wid.origin.in_range)),
      count_size item.wid.seq (omega (arith, item.wid.in_range)),
      count_size item.stamp.clock (omega (arith, item.stamp.in_range)),
      vector_size n item.deps kept.0,
      program_size item.program kept.1,
    )

abbrev IsBrief : Data → Type 0
IsBrief d = size d ≤ 200

-- a few short things
brief_size : (ds : List Data) → AllByRecursion IsBrief ds → size (list_json (λ d. d) ds) ≤ 201 * length ds + 2
brief_size ds each = list_size IsBrief (λ d. d) 200 (λ d h. h) ds each

head_brief : (told : Entry) (word : List ℕ) (others : List Data) → told.place < 2 ^ 32 → length word ≤ 7 → AllByRecursion IsBrief others
    → AllByRecursion IsBrief (head_json told word ++ others)
head_brief told word others place short rest = (
  omega (arith, string_size (codes "entry")),
  (
    omega (arith, count_size told.session.index (omega (arith, told.session.in_range))),
    (
      omega (arith, count_size told.place place),
      (
        omega (arith, asks_size told.asks),
        (omega (arith, count_size told.server.index (omega (arith, told.server.in_range))), (omega (arith, string_size word, short), rest)),
      ),
    ),
  ),
)

told_size : (told : Entry) (became : What) (n : ℕ) → told.place < 2 ^ 32 → IsWhat became → size (told_json told became n) ≤ MAX_LINE_BYTES
told_size told what.Refused n place kept =
    let brief = head_brief told (codes "refused") [] place (lit≤ tt) tt in
    omega (arith, brief_size (head_json told (codes "refused") ++ []) brief)
told_size told (what.Read key vector) n place kept =
    let others : List Data = string key ∷ vector_json n vector ∷ [] in
    let last : AllByRecursion IsBrief others = (omega (arith, key_size key kept.0), (omega (arith, vector_size n vector kept.1), tt)) in
    let brief = head_brief told (codes "read") others place (lit≤ tt) last in
    omega (arith, brief_size (head_json told (codes "read") ++ others) brief)
told_size told (what.Write wid stamp deps) n place kept =
    let others : List Data = count_json wid.seq ∷ count_json stamp.clock ∷ vector_json n deps ∷ [] in
    let last : AllByRecursion IsBrief others = (
      omega (arith, count_size wid.seq (omega (arith, wid.in_range))),
      (omega (arith, count_size stamp.clock (omega (arith, stamp.in_range))), (omega (arith, vector_size n deps kept), tt)),
    ) in
    let brief = head_brief told (codes "write") others place (lit≤ tt) last in
    omega (arith, brief_size (head_json told (codes "write") ++ others) brief)

-- ---- commands

session_size : (word : List ℕ) (who : SessionId) → length word ≤ 7 → size (form word (count_json who.index ∷ [])) ≤ MAX_LINE_BYTES
session_size word who short = omega (
  arith,
  form_one word (count_json who.index),
  count_size who.index (omega (arith, who.in_range)),
)

operation_size : (who : SessionId) (tried : Attempt) → IsAttempt tried → size (line_json (attempt_said who.index tried)) ≤ MAX_LINE_BYTES
operation_size who (attempt.Write place program) kept =
    omega (
      arith,
      form_three (codes "write") (count_json who.index) (count_json place.index) (program_json program),
      count_size who.index (omega (arith, who.in_range)),
      count_size place.index (omega (arith, place.in_range)),
      program_size program kept,
    )
operation_size who (attempt.Read place key) kept =
    omega (
      arith,
      form_three (codes "read") (count_json who.index) (count_json place.index) (string key),
      count_size who.index (omega (arith, who.in_range)),
      count_size place.index (omega (arith, place.in_range)),
      key_size key kept,
    )
operation_size who attempt.Again kept = session_size (codes "again") who (lit≤ tt)

trial_size : (place : ServerId) (how : TrialKind) → IsTrialKind how → size (line_json (trial_kind_said place.index how)) ≤ MAX_LINE_BYTES
trial_size place (kind.Fuse failure) fits =
    omega (
      arith,
      form_three (codes "fuse") (count_json place.index) (count_json failure.calls) (count_json failure.kept),
      count_size place.index (omega (arith, place.in_range)),
      count_size failure.calls fits.0,
      wide_size failure.kept fits.1,
    )
trial_size place (kind.Lose count) fits =
    omega (
      arith,
      form_two (codes "lose") (count_json place.index) (count_json count),
      count_size place.index (omega (arith, place.in_range)),
      wide_size count fits,
    )
trial_size place kind.Reopen kept = server_size (codes "reopen") place (lit≤ tt)
trial_size place kind.Restart kept = server_size (codes "restart") place (lit≤ tt)

exchange_size : (to source : ServerId) (much : Extent) → IsExtent much → size (line_json (extent_said to.index source.index much)) ≤ MAX_LINE_BYTES
exchange_size to source (extent.Lacking None) kept =
    omega (
      arith,
      form_two (codes "pull") (count_json to.index) (count_json source.index),
      count_size to.index (omega (arith, to.in_range)),
      count_size source.index (omega (arith, source.in_range)),
    )
exchange_size to source (extent.Lacking (Some items)) kept =
    omega (
      arith,
      form_three (codes "pull") (count_json to.index) (count_json source.index) (count_json items),
      count_size to.index (omega (arith, to.in_range)),
      count_size source.index (omega (arith, source.in_range)),
      count_size items kept,
    )
exchange_size to source extent.All kept =
    omega (
      arith,
      form_two (codes "resend") (count_json to.index) (count_json source.index),
      count_size to.index (omega (arith, to.in_range)),
      count_size source.index (omega (arith, source.in_range)),
    )

question_size : (what : Question) → size (line_json (question_said what)) ≤ MAX_LINE_BYTES
question_size (question.Log place) = server_size (codes "log") place (lit≤ tt)
question_size question.Totals = omega (arith, form_none (codes "totals"))
question_size question.Judge = omega (arith, form_none (codes "judge"))
question_size question.Survey = omega (arith, form_none (codes "survey"))
question_size question.Book = omega (arith, form_none (codes "book"))

command_size : (asked : Command) → IsCommand asked → size (line_json (command_said asked)) ≤ MAX_LINE_BYTES
command_size (command.Session who asks) kept =
    omega (
      arith,
      form_two (codes "session") (count_json who.index) (asks_json asks),
      count_size who.index (omega (arith, who.in_range)),
      asks_size asks,
    )
command_size (command.Operation operation) kept = operation_size operation.session operation.attempt kept
command_size (command.Drop who) kept = session_size (codes "drop") who (lit≤ tt)
command_size (command.Trial trial) kept = trial_size trial.server trial.kind kept
command_size (command.Exchange exchange) kept = exchange_size exchange.to exchange.from exchange.extent kept
command_size (command.Question what) kept = question_size what
command_size command.Phase kept = omega (arith, form_none (codes "phase"))

-- no line that is written is too long to be read
pub line_size : (l : Line) → IsLine l → size (line_json (said l)) ≤ MAX_LINE_BYTES
line_size (line.Servers count None) kept = omega (
  arith,
  form_one (codes "servers") (count_json count),
  count_size count kept.0,
)
line_size (line.Servers count (Some limit)) kept =
    omega (
      arith,
      form_two (codes "servers") (count_json count) (count_json limit),
      count_size count kept.0,
      count_size limit kept.1,
    )
line_size (line.Command asked) kept = command_size asked kept
line_size (line.Audit (audit.Entry told counts)) kept = told_size told told.what (unwrap_or counts 0) kept.0 kept.1
line_size (line.Audit (audit.Held place item counts)) kept =
    omega (
      arith,
      form_two (codes "held") (count_json place.index) (write_json item counts),
      count_size place.index (omega (arith, place.in_range)),
      write_size item counts kept,
    )
