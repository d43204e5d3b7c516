use Rattle.std.proofs.Common.{arith}
use Rattle.bayou_lang.specs.Laws.Equality.{server-ext}
use Rattle.bayou_text.proofs.read.spelled.is_own.Goals as goal

pub returns-then-wid-server : goal.returns-then-wid-server
returns-then-wid-server c = λ is. (server-ext c.args.wid.origin c.args.server (omega arith), server-ext c.args.stamp.origin c.args.server (grind (arith, is)))
