-- Which lists make a program.
use Rattle.std.specs.Prelude.{List, Option, None, Some, length, nat_lt, if◌then◌else◌}
use Rattle.bayou_base.specs.declared.limits.TheConstants.{MAX_CONDITIONS, MAX_OPS, MAX_ALTERNATIVES}
use Rattle.bayou_lang.specs.declared.program.Cond.{Cond}
use Rattle.bayou_lang.specs.declared.program.Op.{Op}
use Rattle.bayou_lang.specs.declared.program.Alt.{Alt}
use Rattle.bayou_lang.specs.declared.program.ProgramFault.{ProgramFault}
use Rattle.bayou_lang.specs.declared.program.ProgramFault.TheVariants.{TooManyConds, TooManyOps, TooManyAlts}

-- the first of the lists that is too long
abbrev pub program_fault : List Cond → List Op → List Alt → Option ProgramFault
program_fault conditions ops alternatives =
    if nat_lt MAX_CONDITIONS (length conditions) then Some TooManyConds
    else (if nat_lt MAX_OPS (length ops) then Some TooManyOps
    else (if nat_lt MAX_ALTERNATIVES (length alternatives) then Some TooManyAlts else None))
