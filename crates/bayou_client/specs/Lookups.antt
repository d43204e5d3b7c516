-- What a session asks beside one key: rows of a database, and what became of a Write. Each answer is a read of what its server held (Terry et al.
-- 1994), in this project's own frames.
use Rattle.std.specs.Prelude.{◌≡◌, ◌⊎◌, ℕ, Bool, true, false, List, [], ◌∷◌, Option, None, Some, Result, Ok, Err, codes}
use Rattle.std.specs.Io.KnownBytes.{Appends}
use Rattle.bayou_base.specs.declared.entry.What.{What}
use Rattle.bayou_base.specs.declared.entry.What.TheVariants as whats
use Rattle.bayou_base.specs.declared.refusal.Refusal.{Refusal}
use Rattle.bayou_base.specs.declared.server.ServerId.{ServerId}
use Rattle.bayou_base.specs.declared.value.Value.{Value}
use Rattle.bayou_base.specs.Refusal.{refuses_operation}
use Rattle.bayou_base.specs.Vector.{Dominates, joined}
use Rattle.bayou_client.specs.declared.asker.Heard.{Heard}
use Rattle.bayou_client.specs.declared.fault.LinkFault.{LinkFault}
use Rattle.bayou_client.specs.declared.fault.LinkFault.TheVariants.{Lost, BadFrame, Refused, OutOfMemory}
use Rattle.bayou_client.specs.Operating.{Asking, IsEntered, begins_read, entered_of, heard_by, told_seen}
use Rattle.bayou_session.specs.Needs.{Told, read_need}
use Rattle.bayou_wire.specs.declared.frame.Frame.TheVariants as frames
use Rattle.bayou_wire.specs.declared.greeting.Greeting.{Greeting}
use Rattle.bayou_wire.specs.declared.greeting.Greeting.TheVariants as greetings
use Rattle.bayou_wire.specs.declared.lookup.Fate.{Fate}
use Rattle.bayou_wire.specs.declared.lookup.FateAsked.{FateAsked}
use Rattle.bayou_wire.specs.declared.lookup.Page.{Page}
use Rattle.bayou_wire.specs.declared.lookup.RowsAsked.{RowsAsked}
use Rattle.bayou_wire.specs.Greetings.{SpellsGreeting, greeting_bytes}
use Rattle.bayou_wire.specs.Spelling.{SpellsFrame}

-- ---- what is asked, and what answers it

-- which greeting asks, and which one answers it
pub record Lookup (A : Type 0) : Type 1 where
  pub asks : Greeting
  pub answers : Greeting → A → Type 0

-- a holder of what was needed lists a page of rows
abbrev pub asks_rows : RowsAsked → Lookup Page
asks_rows asked = record {
  asks = greetings.List asked;
  answers = λ greeting page. (greeting ≡ greetings.Listed page) × Dominates page.vector asked.need;
}

-- a holder of what was needed reports what became of a Write
abbrev pub asks_fate : FateAsked → Lookup Fate
asks_fate asked = record {
  asks = greetings.Became asked;
  answers = λ greeting fate. (greeting ≡ greetings.Outcome fate) × Dominates fate.vector asked.need;
}

-- these bytes are the whole reply, and this is its answer
abbrev pub IsAnswer : {A : Type 0} → Lookup A → (reply : List ℕ) → A → Type 0
IsAnswer lookup reply answer = (greeting : Greeting) × SpellsGreeting reply greeting × lookup.answers greeting answer

-- these bytes are the whole reply, and it is refused so, as a read may be
abbrev pub IsRefusal : (reply : List ℕ) → Refusal → Type 0
IsRefusal reply refusal = SpellsFrame reply (frames.Refused refusal) × (refuses_operation refusal ≡ true)

-- what it is where it is no answer
abbrev pub IsUnanswered : (reply : List ℕ) → LinkFault → Type 0
IsUnanswered reply (Refused refusal) = IsRefusal reply refusal
IsUnanswered reply BadFrame = (refusal : Refusal) → ¬ (IsRefusal reply refusal)
IsUnanswered reply Lost = ⊥
IsUnanswered reply OutOfMemory = ⊥

-- what a whole reply is: the answer, or a refusal, or neither
abbrev pub JudgesReply : {A : Type 0} → Lookup A → (reply : List ℕ) → Result A LinkFault → Type 0
JudgesReply lookup reply (Ok answer) = IsAnswer lookup reply answer
JudgesReply lookup reply (Err (Refused refusal)) = IsRefusal reply refusal
JudgesReply {A} lookup reply (Err BadFrame) = ((answer : A) → ¬ (IsAnswer lookup reply answer)) × ((refusal : Refusal) → ¬ (IsRefusal reply refusal))
JudgesReply lookup reply (Err Lost) = ⊥
JudgesReply lookup reply (Err OutOfMemory) = ⊥

-- How it ends over a link: what was written and read, whether the link was closed and is closed, and where a stream is gone. It is open exactly where
-- the server's answer was received, and where nothing was sent for want of memory.
abbrev pub LookupEnds : {A : Type 0} → Lookup A → (before after : Option (List ℕ)) → (read : List ℕ) → (was_closed is_closed : Bool) → (gone : Type 0) → Result A LinkFault → Type 0
LookupEnds lookup before after read was_closed is_closed gone (Ok answer) =
    (was_closed ≡ false) × (is_closed ≡ false) × Appends before after (greeting_bytes lookup.asks) × IsAnswer lookup read answer
LookupEnds lookup before after read was_closed is_closed gone (Err (Refused refusal)) =
    (was_closed ≡ false) × (is_closed ≡ false) × Appends before after (greeting_bytes lookup.asks) × IsRefusal read refusal
LookupEnds lookup before after read was_closed is_closed gone (Err BadFrame) =
    (was_closed ≡ false) × (is_closed ≡ true) × Appends before after (greeting_bytes lookup.asks) × JudgesReply lookup read (Err BadFrame)
LookupEnds lookup before after read was_closed is_closed gone (Err Lost) =
    (is_closed ≡ true) × (((was_closed ≡ true) × (after ≡ before) × (read ≡ [])) ⊎ ((was_closed ≡ false) × gone))
LookupEnds lookup before after read was_closed is_closed gone (Err OutOfMemory) =
    (was_closed ≡ false) × (is_closed ≡ false) × (after ≡ before) × (read ≡ [])

-- ---- as a read of a session

-- a read of what isn't one key: what is asked, what was held by an answer, and what is entered of it
pub record LookingUp (A : Type 0) : Type 1 where
  pub lookup : Lookup A
  pub held : A → List ℕ
  pub what : A → What

-- the key as which rows are entered: the first of them, or what they were to begin with, where that is a key
abbrev pub listed_key : (prefix : List ℕ) → List (List ℕ × Value) → List ℕ
listed_key prefix (row ∷ rows) = row.0
listed_key [] [] = codes "a"
listed_key (code ∷ more) [] = code ∷ more

-- rows of a server that has what the session needs, and what is needed beside
abbrev pub listing : Told → RowsAsked → LookingUp Page
listing session asked = record {
  lookup = asks_rows (record asked { need = joined (read_need session) asked.need });
  held = λ page. page.vector;
  what = λ page. whats.Read (listed_key asked.prefix page.rows.items) page.vector;
}

-- what became of a Write, by a server that has what the session needs, and what is needed beside
abbrev pub asking_after : Told → FateAsked → LookingUp Fate
asking_after session asked = record {
  lookup = asks_fate (record asked { need = joined (read_need session) asked.need });
  held = λ fate. fate.vector;
  what = λ fate. whats.Read (codes "a") fate.vector;
}

-- the session saw what the server held
abbrev pub told_held : {A : Type 0} → LookingUp A → Asking → A → Asking
told_held looking begun answer = told_seen begun (record { value = None; vector = looking.held answer })

-- What is heard of it at this server: how it ended over the link, what became of the session, which began a place, and what is entered.
pub record HearsOf {A : Type 0} (looking : LookingUp A) (server : ServerId) (old new : Asking) (before after : Option (List ℕ)) (read : List ℕ) (was_closed is_closed : Bool) (gone : Type 0)
    (heard : Heard A) : Type 0 where
  pub ends : LookupEnds looking.lookup before after read was_closed is_closed gone heard.told
  pub becomes : new ≡ heard_by (told_held looking) (begins_read old) heard.told
  pub entered : IsEntered (begins_read old).session server (entered_of looking.what heard.told) heard.entry
