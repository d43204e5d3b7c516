use Rattle.std.proofs.Common.{refl}
use Rattle.clap.specs.Words.{found_of}
use Rattle.bayou_command.specs.Words.{folder_name}
use Rattle.bayou_command.proofs.Named.{text_named}
use Rattle.bayou_command.proofs.folder_in.Goals as goal

pub returns : goal.returns
returns c = text_named (found_of c.args.found.now) folder_name c.get_str.result c.unwrap_or.result _ c.get_str.ensures c.unwrap_or.ensures refl
