-- How lines are done one by one, and how all of them end: this project's own.
use Rattle.std.specs.Prelude.{◌≡◌, ℕ, Bool, false, true, List, Option, Ok}
use Rattle.std.specs.Str.{IsTrimAscii}
use Rattle.bayou_connect.specs.Reader.{TakesLine}
use Rattle.bayou_connect.specs.Speaking.{DoesLine}
use Rattle.bayou_connect.specs.declared.connecting.LinesEnded.{LinesEnded}
use Rattle.bayou_connect.specs.declared.connecting.LinesEnded.TheVariants.{Served, Unserved, Refused}
use Rattle.bayou_connect.specs.declared.desk.PersonDesk.{PersonDesk}
use Rattle.bayou_connect.specs.declared.doing.LineBecame.{LineBecame}
use Rattle.bayou_connect.specs.declared.doing.LineBecame.TheVariants as became
use Rattle.bayou_connect.specs.declared.doing.Wrong.TheVariants.{Script}
use Rattle.bayou_connect.specs.declared.lines.NextLine.{NextLine}
use Rattle.bayou_connect.specs.declared.lines.NextLine.TheVariants.{Line, TooLong, End}
use Rattle.bayou_script.specs.declared.fault.ScriptFault.TheVariants.{BadShape}
use Rattle.bayou_streams.specs.Account.{Account}

-- What becomes of the next line: nothing changes where there is none, or where it is too long.
abbrev pub DoesOne : NextLine → (old new : PersonDesk) → (before after : Account) → LineBecame → Type 0
DoesOne End old new before after done = (done ≡ became.Ended) × (new ≡ old) × (after ≡ before)
DoesOne TooLong old new before after done = (done ≡ became.Wrong (Script BadShape)) × (new ≡ old) × (after ≡ before)
DoesOne (Line line) old new before after done = (words : List ℕ) × IsTrimAscii line.items words × DoesLine line.items words (Ok done) old new before after

-- the next line is taken from what is left of the input, and done
abbrev pub DoesNext : (left rest : Option (List ℕ)) → (old new : PersonDesk) → (before after : Account) → LineBecame → Type 0
DoesNext left rest old new before after done = (next : NextLine) × TakesLine left rest next × DoesOne next old new before after done

-- how all lines end: one couldn't be done, or else each operation was served, or one wasn't
abbrev pub ended_as : (is_wrong is_served : Bool) → LinesEnded
ended_as true is_served = Refused
ended_as false true = Served
ended_as false false = Unserved
