use Rattle.std.proofs.Common.{refl}
use Rattle.clap.specs.Words.{found_of}
use Rattle.bayou_command.proofs.Named.{text_named}
use Rattle.bayou_command.proofs.options.text_in.Goals as goal

pub returns : goal.returns
returns c = text_named (found_of c.args.found.now) c.args.name.now c.get_str.result c.unwrap_or.result _ c.get_str.ensures c.unwrap_or.ensures refl
