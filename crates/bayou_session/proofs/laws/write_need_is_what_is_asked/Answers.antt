use Rattle.bayou_session.proofs.Joined.{Dominates-need}
use Rattle.bayou_session.proofs.laws.write_need_is_what_is_asked.Goals as goal

pub returns : goal.returns
returns c = λ session held reads writes. Dominates-need held session.reads session.writes session.asks.wfr session.asks.mw reads writes
