-- The lines of an audit file: how many servers there are, what sessions were served, and what each server holds, as they are spelled.
use Rattle.std.specs.Prelude.{ℕ, zero, suc, List, [], ◌∷◌, ◌++◌, Option, None, Some, flat_map}
use Rattle.serde_json.specs.Written.{compact_text}
use Rattle.bayou_base.specs.declared.entry.Entry.{Entry}
use Rattle.bayou_base.specs.declared.entry.What.{What}
use Rattle.bayou_base.specs.declared.entry.What.TheVariants.{Read, Write, Refused}
use Rattle.bayou_judge.specs.History.{dump_of}
use Rattle.bayou_lang.specs.declared.write.Write.{Write as HeldWrite}
use Rattle.bayou_text.specs.Said.{Said, servers, entry, held}
use Rattle.bayou_text.specs.Spelling.{line_json}

-- the one spelling of what is said, and a line feed
abbrev pub line_text : Said → List ℕ
line_text said = compact_text (line_json said) ++ 10 ∷ []

-- how many counts of its vector are given, if it has one
abbrev pub counts_told : ℕ → What → Option ℕ
counts_told count (Read key vector) = Some count
counts_told count (Write wid stamp deps) = Some count
counts_told count Refused = None

abbrev pub entry_said : ℕ → Entry → Said
entry_said count what = entry what (counts_told count what.what)

-- what a server holds
abbrev pub held_text : ℕ → ℕ → List HeldWrite → List ℕ
held_text count place dump = flat_map (λ write. line_text (held place write count)) dump

-- what each of the first servers holds, in their order
abbrev pub dumps_text : ℕ → List (List HeldWrite) → ℕ → List ℕ
dumps_text count dumps zero = []
dumps_text count dumps (suc place) = dumps_text count dumps place ++ held_text count place (dump_of dumps place)

-- what sessions were served
abbrev pub entries_text : ℕ → List Entry → List ℕ
entries_text count entries = flat_map (λ what. line_text (entry_said count what)) entries

-- and then what servers hold
abbrev pub evidence_text : ℕ → List Entry → List (List HeldWrite) → List ℕ
evidence_text count entries dumps = entries_text count entries ++ dumps_text count dumps count

-- the whole file
abbrev pub book_text : ℕ → List Entry → List (List HeldWrite) → List ℕ
book_text count entries dumps = line_text (servers count None) ++ evidence_text count entries dumps
