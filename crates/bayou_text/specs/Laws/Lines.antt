-- Laws of what lines and their parts are read as, for proofs of the crates above.
use Rattle.std.specs.Prelude.{◌≡◌, ◌≤◌, ℕ, List, Ok, length, IsUtf8}
use Rattle.serde_json.specs.Data.{Data}
use Rattle.serde_json.specs.View.{items_of}
use Rattle.bayou_base.specs.declared.asks.Asks.{Asks}
use Rattle.bayou_base.specs.declared.limits.TheConstants.{MAX_LINE_BYTES}
use Rattle.bayou_lang.specs.declared.program.Program.{Program}
use Rattle.bayou_text.specs.Asks.{asks_in}
use Rattle.bayou_text.specs.Lines.{line_in, text_line}
use Rattle.bayou_text.specs.Programs.{program_in}
use Rattle.bayou_text.specs.Reading.{listed}
use Rattle.bayou_text.specs.Said.{Said}
use Rattle.bayou_text.specs.Table.{AsksAre, LineIs, ProgramIs, Spells}
use Rattle.bayou_text.specs.Laws.Inner.LineTable as lines
use Rattle.bayou_text.specs.Laws.Inner.ProgramTable as programs
use Rattle.bayou_text.specs.Laws.Inner.Readers as readers

-- the items of an array are those that it was made of
pub listed_items : (ds : List Data) → listed (items_of ds) ≡ ds
listed_items ds = readers.listed_items ds

-- what is read as asks has their form
pub asks_found : (d : Data) (asks : Asks) → asks_in d ≡ Ok asks → AsksAre d asks
asks_found d asks e = readers.asks_found d asks e

-- what is read as a program has its form
pub program_found : (d : Data) (p : Program) → program_in d ≡ Ok p → ProgramIs d p
program_found d p e = programs.program_found d p e

-- what has the form of a line is read as what the line says
pub line_read : (d : Data) (s : Said) → LineIs d s → line_in d ≡ Ok s
line_read d s is = lines.line_read d s is

-- bytes that are read as a line spell it
pub spells_from_line : (bytes : List ℕ) (s : Said) → length bytes ≤ MAX_LINE_BYTES → IsUtf8 bytes → text_line bytes ≡ Ok s → Spells bytes s
spells_from_line bytes s short text e = lines.spells_from_line bytes s short text e
