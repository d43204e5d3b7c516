use Rattle.std.proofs.Common.{None, Some, refl, rules}
use Rattle.clap.specs.Words.{found_of}
use Rattle.bayou_command.specs.Words.{file, standard}
use Rattle.bayou_command.proofs.Named.{dash, named_by, no_dash}
use Rattle.bayou_command.proofs.source_in.Goals as goal

pub returns-in_default : goal.returns-in_default
returns-in_default c = named_by (found_of c.args.found.now) None standard c.in_default.ensures refl

pub returns-then-eq : goal.returns-then-eq
returns-then-eq c = named_by (found_of c.args.found.now) (Some c.in-Some.name.now) standard c.in-Some.ensures (dash c.in-Some.name.now (search rules))

pub returns : goal.returns
returns c = named_by (found_of c.args.found.now) (Some c.in-Some.name.now) (file c.in-Some.name.now) c.in-Some.ensures (no_dash c.in-Some.name.now (search rules))
