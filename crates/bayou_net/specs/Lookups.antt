-- What a node answers that is asked for rows, or for what became of a Write: this project's own frames.
use Rattle.std.specs.Prelude.{◌≡◌, ℕ, List, Option, Result, Ok, Err}
use Rattle.bayou_base.specs.declared.refusal.Refusal.TheVariants.{Behind as BehindRefusal}
use Rattle.bayou_node.specs.Answers.{InSome}
use Rattle.bayou_node.specs.Books.{Begun}
use Rattle.bayou_server.specs.declared.answer.Told.{Told}
use Rattle.bayou_server.specs.declared.fault.Behind.{Behind}
use Rattle.bayou_server.specs.Lookups.{AsksAfter, Lists, fate_of}
use Rattle.bayou_wire.specs.declared.frame.Frame.TheVariants as frames
use Rattle.bayou_wire.specs.declared.greeting.Greeting.{Greeting}
use Rattle.bayou_wire.specs.declared.greeting.Greeting.TheVariants as greetings
use Rattle.bayou_wire.specs.declared.lookup.Page.{Page}
use Rattle.bayou_wire.specs.Greetings.{SpellsGreeting}
use Rattle.bayou_wire.specs.Spelling.{SpellsFrame}

-- the bytes are the page of rows, or that the server is behind
abbrev pub SpellsRows : Result Page Behind → List ℕ → Type 0
SpellsRows (Ok page) text = SpellsGreeting text (greetings.Listed page)
SpellsRows (Err behind) text = SpellsFrame text (frames.Refused (BehindRefusal behind.vector))

-- the bytes are what became of the Write, or that the server is behind
abbrev pub SpellsOutcome : Result Told Behind → List ℕ → Type 0
SpellsOutcome (Ok told) text = SpellsGreeting text (greetings.Outcome (fate_of told))
SpellsOutcome (Err behind) text = SpellsFrame text (frames.Refused (BehindRefusal behind.vector))

-- the bytes are what the node answers to this, if it asks for rows, or for what became of a Write
abbrev pub AnswersLookup : Begun → Greeting → (text : List ℕ) → Type 0
AnswersLookup begun (greetings.List asked) text =
    (answer : Result Page Behind) × InSome begun (λ core. Lists core asked.need asked.prefix asked.after asked.most answer) × SpellsRows answer text
AnswersLookup begun (greetings.Became asked) text =
    (answer : Result Told Behind) × InSome begun (λ core. AsksAfter core asked.need asked.wid answer) × SpellsOutcome answer text
AnswersLookup begun _ text = ⊥
