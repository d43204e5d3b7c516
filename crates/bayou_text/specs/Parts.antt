-- The parts of a program: terms, ops and conditions. Each is an array of a word and of what the word takes, but for
-- a term that is a value.
use Rattle.std.specs.Prelude.{ℕ, List, [], ◌∷◌, Ok, Err, codes, if◌then◌else◌}
use Rattle.std.specs.Option.{option_map_or, ok_or}
use Rattle.std.specs.Str.{bytes_eq}
use Rattle.serde_json.specs.Data.{Data}
use Rattle.serde_json.specs.Find.{as_array}
use Rattle.bayou_lang.specs.declared.program.Term.{Term}
use Rattle.bayou_lang.specs.declared.program.Term.TheVariants.{Lit, Copy, Plus}
use Rattle.bayou_lang.specs.declared.program.Op.{Op}
use Rattle.bayou_lang.specs.declared.program.Op.TheVariants.{Put, Del}
use Rattle.bayou_lang.specs.declared.program.Cond.{Cond}
use Rattle.bayou_lang.specs.declared.program.Cond.TheVariants.{Equals, Absent, AtLeast, AtMost}
use Rattle.bayou_text.specs.declared.line.LineFault.TheVariants.{BadShape}
use Rattle.bayou_text.specs.declared.line.Shape.TheVariants.{Arity, Form, Word}
use Rattle.bayou_text.specs.Numbers.{integer_in, most_in}
use Rattle.bayou_text.specs.Reading.{Parsed, ◌>>=◌, worded}
use Rattle.bayou_text.specs.Values.{key_in, prefix_in, value_in}

-- after a word: a key alone
unfoldable pub named_in : List Data → Parsed (List ℕ)
named_in (key ∷ []) = key_in key
named_in _ = Err (BadShape Arity)

-- after a word: a key, and one more member
unfoldable pub keyed_in : List Data → Parsed (List ℕ × Data)
keyed_in (key ∷ last ∷ []) = key_in key >>= λ name. Ok (name, last)
keyed_in _ = Err (BadShape Arity)

-- ["plus", key, n], after its word
abbrev pub plus_in : List Data → Parsed Term
plus_in parts = do
  named ← keyed_in parts
  n ← integer_in named.1
  Ok (Plus named.0 n)

abbrev pub term_of : List ℕ → List Data → Parsed Term
term_of word parts =
    if bytes_eq word (codes "copy") then (named_in parts >>= λ key. Ok (Copy key))
    else (if bytes_eq word (codes "plus") then plus_in parts else Err (BadShape Word))

-- a term that is an array
abbrev pub array_term_in : Data → Parsed Term
array_term_in d = ok_or (worded d) (BadShape Form) >>= λ parts. term_of parts.0 parts.1

-- a term that is no array is read as a value
unfoldable pub term_in : Data → Parsed Term
term_in d = option_map_or (λ _. array_term_in d) (as_array d) (value_in d >>= λ value. Ok (Lit value))

-- ["put", key, term], after its word
abbrev pub put_in : List Data → Parsed Op
put_in parts = do
  named ← keyed_in parts
  what ← term_in named.1
  Ok (Put named.0 what)

abbrev pub op_of : List ℕ → List Data → Parsed Op
op_of word parts =
    if bytes_eq word (codes "put") then put_in parts
    else (if bytes_eq word (codes "del") then (named_in parts >>= λ key. Ok (Del key)) else Err (BadShape Word))

unfoldable pub op_in : Data → Parsed Op
op_in d = ok_or (worded d) (BadShape Form) >>= λ parts. op_of parts.0 parts.1

-- ["equals", key, value], after its word
abbrev pub equals_in : List Data → Parsed Cond
equals_in parts = do
  named ← keyed_in parts
  value ← value_in named.1
  Ok (Equals named.0 value)

-- ["atleast", key, n], after its word
abbrev pub at_least_in : List Data → Parsed Cond
at_least_in parts = do
  named ← keyed_in parts
  n ← integer_in named.1
  Ok (AtLeast named.0 n)

-- ["atmost", prefix, n], after its word
unfoldable pub at_most_in : List Data → Parsed Cond
at_most_in (prefix ∷ most ∷ []) = do
  begin ← prefix_in prefix
  n ← most_in most
  Ok (AtMost begin n)
at_most_in _ = Err (BadShape Arity)

abbrev pub cond_of : List ℕ → List Data → Parsed Cond
cond_of word parts =
    if bytes_eq word (codes "equals") then equals_in parts
    else (if bytes_eq word (codes "absent") then (named_in parts >>= λ key. Ok (Absent key))
    else (if bytes_eq word (codes "atleast") then at_least_in parts
    else (if bytes_eq word (codes "atmost") then at_most_in parts else Err (BadShape Word))))

unfoldable pub cond_in : Data → Parsed Cond
cond_in d = ok_or (worded d) (BadShape Form) >>= λ parts. cond_of parts.0 parts.1
