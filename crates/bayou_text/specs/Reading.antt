-- What the readers of all things share: JSON data is read to a value or to the first fault.
use Rattle.std.specs.Prelude.{◌≡◌, ℕ, Bool, false, List, [], ◌∷◌, Option, None, Result, Ok, Err, option_and_then, option_map}
use Rattle.std.specs.Option.{option_map_or}
use Rattle.std.specs.Str.{bytes_eq}
use Rattle.serde_json.specs.Data.{Data, Items, no_items, item, Members, no_members, member}
use Rattle.serde_json.specs.Find.{as_array, as_str}
use Rattle.bayou_text.specs.declared.line.LineFault.{LineFault}
use Rattle.bayou_text.specs.declared.line.LineFault.TheVariants as fault

-- what a reader answers
abbrev pub Parsed : Type 0 → Type 0
Parsed A = Result A LineFault

-- the first fault, or what follows of what was read
infixl 10 ◌>>=◌
abbrev pub ◌>>=◌ : {A B : Type 0} → Parsed A → (A → Parsed B) → Parsed B
(Ok x) >>= f = f x
(Err e) >>= f = Err e

-- a function that may run out of memory gives, seen by view, what reading gives, unless it did
abbrev pub Fails : {B : Type 0} → LineFault → Parsed B → Type 0
Fails fault.OutOfMemory read = Unit {0}
Fails fault.NotJson read = read ≡ Err fault.NotJson
Fails (fault.BadShape what) read = read ≡ Err (fault.BadShape what)
Fails (fault.Key why) read = read ≡ Err (fault.Key why)
Fails (fault.Program why) read = read ≡ Err (fault.Program why)

abbrev pub Gives : {A B : Type 0} → (A → B) → Parsed A → Parsed B → Type 0
Gives view (Ok x) read = read ≡ Ok (view x)
Gives view (Err e) read = Fails e read

-- a function that takes no memory gives it in each case
abbrev pub Answers : {A B : Type 0} → (A → B) → Parsed A → Parsed B → Type 0
Answers view (Ok x) read = read ≡ Ok (view x)
Answers view (Err e) read = read ≡ Err e

-- the members of an array, in order
abbrev pub listed : Items → List Data
listed no_items = []
listed (item d ds) = d ∷ listed ds

-- the names of an object's members
abbrev pub names : Members → List (List ℕ)
names no_members = []
names (member name d ms) = name ∷ names ms

-- the word that a list begins with, and what stands after it
abbrev pub headed : List Data → Option (List ℕ × List Data)
headed [] = None
headed (d ∷ ds) = option_map (λ word. (word, ds)) (as_str d)

-- the word that an array begins with, and what stands after it
abbrev pub worded : Data → Option (List ℕ × List Data)
worded d = option_and_then (λ items. headed (listed items)) (as_array d)

-- whether it is this text
abbrev pub says : List ℕ → Data → Bool
says word d = option_map_or (λ text. bytes_eq text word) (as_str d) false

-- each read in turn, up to the first fault
abbrev pub all_in : {A : Type 0} → (Data → Parsed A) → List Data → Parsed (List A)
all_in one_in [] = Ok []
all_in one_in (d ∷ ds) = do
  one ← one_in d
  others ← all_in one_in ds
  Ok (one ∷ others)
