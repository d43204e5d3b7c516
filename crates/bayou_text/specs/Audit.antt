-- Lines of audit files: what became of an operation that a session tried, and a Write that a server holds.
use Rattle.std.specs.Prelude.{ℕ, ◌-◌, List, [], ◌∷◌, ◌++◌, ◌&&◌, None, Some, Ok, Err, codes, length, nat_le, replicate, if◌then◌else◌}
use Rattle.std.specs.Option.{ok_or}
use Rattle.serde_json.specs.Data.{Data}
use Rattle.serde_json.specs.Find.{as_array}
use Rattle.bayou_base.specs.declared.entry.Entry.{Entry}
use Rattle.bayou_base.specs.declared.entry.What.TheVariants as what
use Rattle.bayou_base.specs.declared.limits.TheConstants.{SERVERS}
use Rattle.bayou_lang.specs.declared.write.Write.{Write}
use Rattle.bayou_text.specs.declared.line.LineFault.TheVariants.{BadShape}
use Rattle.bayou_text.specs.declared.line.Shape.TheVariants.{Arity, Form, Word}
use Rattle.bayou_text.specs.Asks.{asks_in}
use Rattle.bayou_text.specs.Names.{entry_of, accepted_of, write_of}
use Rattle.bayou_text.specs.Numbers.{session_in, server_in, place_in, seq_in, clock_in, tally_in}
use Rattle.bayou_text.specs.Programs.{program_in}
use Rattle.bayou_text.specs.Reading.{Parsed, ◌>>=◌, all_in, listed, says}
use Rattle.bayou_text.specs.Said.{Said, entry, held}
use Rattle.bayou_text.specs.Values.{key_in}

-- a count for each server, none of the servers that aren't spoken of
abbrev pub padded : List ℕ → List ℕ
padded counts = counts ++ replicate (SERVERS - length counts) 0

-- the counts that are given, and 0 for each server of which none is
abbrev pub padded_in : List Data → Parsed (List ℕ)
padded_in ds = all_in tally_in ds >>= λ counts. Ok (padded counts)

-- the vector, and how many of its counts are given
abbrev pub vector_of : List Data → Parsed (List ℕ × ℕ)
vector_of ds =
    if nat_le 1 (length ds) && nat_le (length ds) SERVERS then (padded_in ds >>= λ vector. Ok (vector, length ds))
    else Err (BadShape Form)

unfoldable pub vector_in : Data → Parsed (List ℕ × ℕ)
vector_in d = ok_or (as_array d) (BadShape Form) >>= λ items. vector_of (listed items)

-- what all entries begin with: session, place, asks, server
unfoldable pub tried_in : (who place asks at : Data) → Parsed Entry
tried_in who place asks at = do
  session ← session_in who
  number ← place_in place
  wanted ← asks_in asks
  server ← server_in at
  entry_of session number wanted server

-- "refused"
unfoldable pub refused_in : Entry → Data → Parsed Said
refused_in tried word = if says (codes "refused") word then Ok (entry tried None) else Err (BadShape Word)

-- "read", key, vector
abbrev pub seen_in : Entry → (key vector : Data) → Parsed Said
seen_in tried key vector = do
  name ← key_in key
  counts ← vector_in vector
  Ok (entry (record tried { what = what.Read name counts.0 }) (Some counts.1))

unfoldable pub served_in : Entry → (word key vector : Data) → Parsed Said
served_in tried word key vector = if says (codes "read") word then seen_in tried key vector else Err (BadShape Word)

-- "write", seq, clock, deps: the Write is one of the entry's server
abbrev pub given_in : Entry → (seq clock deps : Data) → Parsed Said
given_in tried seq clock deps = do
  number ← seq_in seq
  time ← clock_in clock
  counts ← vector_in deps
  given ← accepted_of tried.server number time counts.0
  Ok (entry (record tried { what = given }) (Some counts.1))

unfoldable pub accepted_in : Entry → (word seq clock deps : Data) → Parsed Said
accepted_in tried word seq clock deps = if says (codes "write") word then given_in tried seq clock deps else Err (BadShape Word)

-- ["entry", session, place, asks, server, word, ..]: how many members there are says which word must stand there
unfoldable pub entry_in : List Data → Parsed Said
entry_in (who ∷ place ∷ asks ∷ at ∷ word ∷ []) = tried_in who place asks at >>= λ tried. refused_in tried word
entry_in (who ∷ place ∷ asks ∷ at ∷ word ∷ key ∷ vector ∷ []) = tried_in who place asks at >>= λ tried. served_in tried word key vector
entry_in (who ∷ place ∷ asks ∷ at ∷ word ∷ seq ∷ clock ∷ deps ∷ []) = tried_in who place asks at >>= λ tried. accepted_in tried word seq clock deps
entry_in _ = Err (BadShape Arity)

-- [origin, seq, clock, deps, program], and how many counts the deps have
unfoldable pub members_in : List Data → Parsed (Write × ℕ)
members_in (origin ∷ seq ∷ clock ∷ deps ∷ program ∷ []) = do
  at ← server_in origin
  number ← seq_in seq
  time ← clock_in clock
  counts ← vector_in deps
  work ← program_in program
  write ← write_of at number time counts.0 work
  Ok (write, counts.1)
members_in _ = Err (BadShape Arity)

unfoldable pub write_in : Data → Parsed (Write × ℕ)
write_in d = ok_or (as_array d) (BadShape Form) >>= λ items. members_in (listed items)

-- ["held", server, [origin, seq, clock, deps, program]]
unfoldable pub held_in : List Data → Parsed Said
held_in (place ∷ write ∷ []) = do
  at ← server_in place
  told ← write_in write
  Ok (held at told.0 told.1)
held_in _ = Err (BadShape Arity)
