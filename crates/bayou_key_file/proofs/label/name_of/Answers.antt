use Rattle.bayou_wire.specs.Laws.Keys.{key_is_utf8}
use Rattle.bayou_key_file.proofs.label.name_of.Goals as goal

pub returns-in_default : goal.returns-in_default
returns-in_default c is = c.in_default.ensures.cases.0 (key_is_utf8 c.args.bytes.now is)
