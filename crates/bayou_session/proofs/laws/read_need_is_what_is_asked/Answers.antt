use Rattle.bayou_session.proofs.Joined.{Dominates-need}
use Rattle.bayou_session.proofs.laws.read_need_is_what_is_asked.Goals as goal

pub returns : goal.returns
returns c = λ session held reads writes. Dominates-need held session.writes session.reads session.asks.ryw session.asks.mr writes reads
