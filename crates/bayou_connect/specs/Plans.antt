-- What the words of a command line say of the servers that are asked, and of what a session asks for: this project's own.
use Rattle.std.specs.Prelude.{◌≡◌, ◌≢◌, ◌⊎◌, ◌==◌, ℕ, ◌<◌, ◌≤◌, Bool, true, false, ◌||◌, if◌then◌else◌, List, [], All, Any, Option, None, Some, IfSome, IsSomeAnd, codes, length, slice_get}
use Rattle.std.specs.List.{after_first, before_first, list_all, list_any, position_or_len, slice_split}
use Rattle.std.specs.Net.Grammar.{IsSocketText}
use Rattle.std.specs.Str.{bytes_eq}
use Rattle.bayou_base.specs.declared.asks.Asks.{Asks}
use Rattle.bayou_connect.specs.declared.plan.ServerPlace.{ServerPlace}
use Rattle.bayou_connect.specs.declared.plan.SessionPlanFault.{SessionPlanFault}
use Rattle.bayou_connect.specs.declared.plan.SessionPlanFault.TheVariants as fault
use Rattle.bayou_person.specs.Wishes.{ReadsServer}

-- the sign between a server's number and its address
abbrev pub is_equals_sign : ℕ → Bool
is_equals_sign byte = byte == 61

-- the word says the server and where it listens: I=ADDRESS:PORT
pub record SaysPlace (word : List ℕ) (place : ServerPlace) : Type 0 where
  pub split : position_or_len is_equals_sign word < length word
  pub number : ReadsServer (before_first is_equals_sign word) place.id
  pub listens : IsSocketText (after_first is_equals_sign word) place.address

-- as many servers as the highest of these numbers needs, and no more
pub record IsLeast (count : ℕ) (places : List ServerPlace) : Type 0 where
  pub enough : All (λ (place : ServerPlace). place.id.index < count) places
  pub least : (other : ℕ) → All (λ (place : ServerPlace). place.id.index < other) places → count ≤ other

-- ---- what a session asks for (the four guarantees by Terry et al. 1994)

-- the parts of a text between its commas
abbrev pub parts_of : List ℕ → List (List ℕ)
parts_of text = slice_split (λ byte. byte == 44) text

-- the word is one of the four
abbrev pub is_guarantee : List ℕ → Bool
is_guarantee word = bytes_eq word (codes "ryw") || bytes_eq word (codes "mr") || bytes_eq word (codes "wfr") || bytes_eq word (codes "mw")

-- the word is one of these
abbrev pub is_among : List (List ℕ) → List ℕ → Bool
is_among words word = list_any (λ one. bytes_eq one word) words

-- a guarantee is asked for where its word is there
abbrev pub asks_of : List (List ℕ) → Asks
asks_of words = record {
  ryw = is_among words (codes "ryw");
  mr = is_among words (codes "mr");
  wfr = is_among words (codes "wfr");
  mw = is_among words (codes "mw");
}

abbrev pub all_four : Asks
all_four = record { ryw = true; mr = true; wfr = true; mw = true }

abbrev pub none_of_four : Asks
none_of_four = record { ryw = false; mr = false; wfr = false; mw = false }

-- What a text asks for: all, none, or what its words between commas name; nothing that is known, where one of them is another word.
abbrev pub asks_said : List ℕ → Option Asks
asks_said text =
    if bytes_eq text (codes "all") then Some all_four
    else if bytes_eq text (codes "none") then Some none_of_four
    else if list_all is_guarantee (parts_of text) then Some (asks_of (parts_of text))
    else None

-- what the words ask for, where they say it
abbrev pub AskedBy : Option (List ℕ) → Option Asks → Type 0
AskedBy None asks = asks ≡ None
AskedBy (Some text) asks = (wanted : Asks) × (asks_said text ≡ Some wanted) × (asks ≡ Some wanted)

-- What the session of short lines asks for, by what the words say and what it asked for when it was kept: these two, which are one where there
-- are both; nothing, where there is neither.
pub record AsksBoth (said kept : Option Asks) (asks : Asks) : Type 0 where
  pub as_said : IfSome said (λ one. asks ≡ one)
  pub as_kept : IfSome kept (λ one. asks ≡ one)
  pub neither : said ≡ None → kept ≡ None → asks ≡ none_of_four

-- the words say something else than it asked for when it was kept
abbrev pub Differ : (said kept : Option Asks) → Type 0
Differ said kept = (one : Asks) × (other : Asks) × (said ≡ Some one) × (kept ≡ Some other) × (one ≢ other)

-- ---- faults

-- two of the words say the same server
abbrev pub NameTwice : List (List ℕ) → Type 0
NameTwice words =
    (at : ℕ) × (later : ℕ) × (one : List ℕ) × (other : List ℕ) × (first : ServerPlace) × (second : ServerPlace) × (at < later)
    × (slice_get words at ≡ Some one) × (slice_get words later ≡ Some other) × SaysPlace one first × SaysPlace other second × (first.id ≡ second.id)

-- What is wrong with the words, by the fault that is reported of them. Memory may run out.
abbrev pub IsWrong : (servers : List (List ℕ)) → (count : Option ℕ) → (asks : Option (List ℕ)) → SessionPlanFault → Type 0
IsWrong servers count asks fault.NoServer = (servers ≡ []) ⊎ Any (λ (word : List ℕ). (place : ServerPlace) → ¬ SaysPlace word place) servers
IsWrong servers count asks fault.SameServer = NameTwice servers
IsWrong servers count asks fault.TooFewServers =
    IsSomeAnd count (λ number. Any (λ (word : List ℕ). (place : ServerPlace) × SaysPlace word place × (number ≤ place.id.index)) servers)
IsWrong servers count asks fault.NoAsks = IsSomeAnd asks (λ text. asks_said text ≡ None)
IsWrong servers count asks fault.OutOfMemory = Unit {0}
