-- What `==` says of alternatives, of programs and of Writes, at rest too.
use Rattle.std.specs.Prelude.{Bool}
use Rattle.bayou_lang.specs.declared.program.Alt.{Alt}
use Rattle.bayou_lang.specs.declared.program.Program.{Program}
use Rattle.bayou_lang.specs.declared.write.Write.{Write}
use Rattle.bayou_lang.specs.contracts.program.AltPartialEq.TheImpl as alternative_eq
use Rattle.bayou_lang.specs.contracts.program.ProgramPartialEq.TheImpl as program_eq
use Rattle.bayou_lang.specs.contracts.write.WritePartialEq.TheImpl as write_eq

-- what `==` says of two alternatives
abbrev pub same_alternative : Alt → Alt → Bool
same_alternative = (alternative_eq.ghosts).eq

-- what `==` says of two programs
abbrev pub same_program : Program → Program → Bool
same_program = (program_eq.ghosts).eq

-- what `==` says of two Writes
abbrev pub same_write : Write → Write → Bool
same_write = (write_eq.ghosts).eq
