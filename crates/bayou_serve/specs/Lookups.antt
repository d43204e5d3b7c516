-- What a server answers who asks beside one key: this project's own frames.
use Rattle.std.specs.Prelude.{ℕ, List, Option}
use Rattle.std.specs.Io.KnownBytes.{Appends, Consumes}
use Rattle.bayou_net.specs.Lookups.{AnswersLookup}
use Rattle.bayou_node.specs.Books.{Begun}
use Rattle.bayou_wire.specs.declared.greeting.Greeting.{Greeting}
use Rattle.bayou_wire.specs.Greetings.{SpellsGreeting}

-- something was asked so, and its answer was written
abbrev pub AnsweredOver : Begun → (input written : Option (List ℕ)) → Type 0
AnsweredOver begun input written =
    (rest after : Option (List ℕ)) × (read text : List ℕ) × (asked : Greeting) × Consumes input rest read × SpellsGreeting read asked
    × AnswersLookup begun asked text × Appends written after text
