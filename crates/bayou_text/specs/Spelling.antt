-- The one spelling of each thing, as JSON data. Its text is compact, and an object's members stand by their names.
use Rattle.std.specs.Prelude.{ℕ, Bool, List, [], ◌∷◌, ◌++◌, None, Some, codes, map, take, unwrap_or, if◌then◌else◌}
use Rattle.serde_json.specs.Data.{Data, number, unsigned, string, array, object, no_members, member}
use Rattle.serde_json.specs.Find.{of_integer}
use Rattle.serde_json.specs.View.{items_of}
use Rattle.bayou_base.specs.declared.asks.Asks.{Asks}
use Rattle.bayou_base.specs.declared.entry.Entry.{Entry}
use Rattle.bayou_base.specs.declared.entry.What.{What}
use Rattle.bayou_base.specs.declared.entry.What.TheVariants as what
use Rattle.bayou_base.specs.declared.value.Value.{Value}
use Rattle.bayou_base.specs.declared.value.Value.TheVariants.{Num, Text}
use Rattle.bayou_lang.specs.declared.program.Term.{Term}
use Rattle.bayou_lang.specs.declared.program.Term.TheVariants.{Lit, Copy, Plus}
use Rattle.bayou_lang.specs.declared.program.Op.{Op}
use Rattle.bayou_lang.specs.declared.program.Op.TheVariants.{Put, Del}
use Rattle.bayou_lang.specs.declared.program.Cond.{Cond}
use Rattle.bayou_lang.specs.declared.program.Cond.TheVariants.{Equals, Absent, AtLeast, AtMost}
use Rattle.bayou_lang.specs.declared.program.Alt.{Alt}
use Rattle.bayou_lang.specs.declared.program.Program.{Program}
use Rattle.bayou_lang.specs.declared.write.Write.{Write}
use Rattle.bayou_text.specs.Said.{Said, servers, session, write, read, again, drop, log, fuse, lose, reopen, restart, pull, resend, totals, judge, survey, book, phase, entry, held}

-- an array that begins with a word
abbrev pub form : List ℕ → List Data → Data
form word parts = array (items_of (string word ∷ parts))

abbrev pub value_json : Value → Data
value_json (Num n) = number (of_integer n)
value_json (Text text) = string text

-- a value, ["copy", key] or ["plus", key, n]
abbrev pub term_json : Term → Data
term_json (Lit value) = value_json value
term_json (Copy key) = form (codes "copy") (string key ∷ [])
term_json (Plus key n) = form (codes "plus") (string key ∷ number (of_integer n) ∷ [])

-- ["put", key, term] or ["del", key]
abbrev pub op_json : Op → Data
op_json (Put key term) = form (codes "put") (string key ∷ term_json term ∷ [])
op_json (Del key) = form (codes "del") (string key ∷ [])

-- ["equals", key, value], ["absent", key], ["atleast", key, n] or ["atmost", prefix, n]
abbrev pub cond_json : Cond → Data
cond_json (Equals key value) = form (codes "equals") (string key ∷ value_json value ∷ [])
cond_json (Absent key) = form (codes "absent") (string key ∷ [])
cond_json (AtLeast key n) = form (codes "atleast") (string key ∷ number (of_integer n) ∷ [])
cond_json (AtMost prefix n) = form (codes "atmost") (string prefix ∷ number (unsigned n) ∷ [])

-- the array of what each stands for
abbrev pub list_json : {A : Type 0} → (A → Data) → List A → Data
list_json one_json xs = array (items_of (map one_json xs))

-- {"ops":[op, ..],"when":[condition, ..]}
abbrev pub alt_json : Alt → Data
alt_json alt =
    object (member (codes "ops") (list_json op_json alt.ops.items)
    (member (codes "when") (list_json cond_json alt.when.items) no_members))

-- {"check":[condition, ..],"merge":[alternative, ..],"update":[op, ..]}
unfoldable pub program_json : Program → Data
program_json program =
    object (member (codes "check") (list_json cond_json program.check.items)
    (member (codes "merge") (list_json alt_json program.merge.items)
    (member (codes "update") (list_json op_json program.update.items) no_members)))

abbrev pub word_if : Bool → List ℕ → List Data
word_if asked word = if asked then string word ∷ [] else []

-- the words of what is asked for, in the order of the table
abbrev pub asks_json : Asks → Data
asks_json asks =
    array (items_of (word_if asks.ryw (codes "ryw") ++ word_if asks.mr (codes "mr") ++ word_if asks.wfr
    (codes "wfr") ++ word_if asks.mw (codes "mw")))

abbrev pub count_json : ℕ → Data
count_json n = number (unsigned n)

-- so many of the counts
abbrev pub vector_json : ℕ → List ℕ → Data
vector_json n vector = list_json count_json (take n vector)

-- what an entry begins with, and the word of what became of the operation
abbrev pub head_json : Entry → List ℕ → List Data
head_json told word =
    string (codes "entry") ∷ count_json told.session.index ∷ count_json told.place ∷ asks_json told.asks ∷ count_json told.server.index
    ∷ string word ∷ []

abbrev pub told_json : Entry → What → ℕ → Data
told_json told what.Refused n = array (items_of (head_json told (codes "refused")))
told_json told (what.Read key vector) n = array (items_of (head_json told (codes "read") ++ string key ∷ vector_json n vector ∷ []))
told_json told (what.Write wid stamp deps) n =
    array (items_of (head_json told (codes "write") ++ count_json wid.seq ∷ count_json stamp.clock ∷ vector_json n deps ∷ []))

-- [origin, seq, clock, deps, program]
abbrev pub write_json : Write → ℕ → Data
write_json item n =
    array (items_of (count_json item.wid.origin.index ∷ count_json item.wid.seq ∷ count_json item.stamp.clock ∷ vector_json n item.deps
    ∷ program_json item.program ∷ []))

abbrev pub held_json : ℕ → Write → ℕ → Data
held_json place item n = form (codes "held") (count_json place ∷ write_json item n ∷ [])

abbrev pub line_json : Said → Data
line_json (servers count None) = form (codes "servers") (count_json count ∷ [])
line_json (servers count (Some limit)) = form (codes "servers") (count_json count ∷ count_json limit ∷ [])
line_json (session who asks) = form (codes "session") (count_json who ∷ asks_json asks ∷ [])
line_json (write who place program) = form (codes "write")
    (count_json who ∷ count_json place ∷ program_json program ∷ [])
line_json (read who place key) = form (codes "read") (count_json who ∷ count_json place ∷ string key ∷ [])
line_json (again who) = form (codes "again") (count_json who ∷ [])
line_json (drop who) = form (codes "drop") (count_json who ∷ [])
line_json (log place) = form (codes "log") (count_json place ∷ [])
line_json (fuse place calls kept) = form (codes "fuse")
    (count_json place ∷ count_json calls ∷ count_json kept ∷ [])
line_json (lose place count) = form (codes "lose") (count_json place ∷ count_json count ∷ [])
line_json (reopen place) = form (codes "reopen") (count_json place ∷ [])
line_json (restart place) = form (codes "restart") (count_json place ∷ [])
line_json (pull to source None) = form (codes "pull") (count_json to ∷ count_json source ∷ [])
line_json (pull to source (Some items)) = form (codes "pull") (count_json to ∷ count_json source ∷ count_json items ∷ [])
line_json (resend to source) = form (codes "resend") (count_json to ∷ count_json source ∷ [])
line_json totals = form (codes "totals") []
line_json judge = form (codes "judge") []
line_json survey = form (codes "survey") []
line_json book = form (codes "book") []
line_json phase = form (codes "phase") []
line_json (entry told counts) = told_json told told.what (unwrap_or counts 0)
line_json (held place item counts) = held_json place item counts
