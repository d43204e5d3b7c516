-- What a book of a script's operations has to hold.
use Rattle.std.specs.Prelude.{ℕ, List, Option, None, Some, filter, length, max}
use Rattle.std.specs.Option.{is_some}
use Rattle.bayou_text.specs.Said.{Said, write, read, again}

-- the session that tries an operation
abbrev pub operation_of : Said → Option ℕ
operation_of (write who place program) = Some who
operation_of (read who place key) = Some who
operation_of (again who) = Some who
operation_of _ = None

-- how many operations are tried
abbrev pub operations : List Said → ℕ
operations commands = length (filter (λ said. is_some (operation_of said)) commands)

-- how many entries the book of a script may have: one for each operation, and one at least
abbrev pub capacity_for : List Said → ℕ
capacity_for commands = max (operations commands) 1
