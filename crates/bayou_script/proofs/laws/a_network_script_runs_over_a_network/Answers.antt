use Rattle.bayou_script.specs.Laws.Network.{script_runs}
use Rattle.bayou_script.proofs.laws.a_network_script_runs_over_a_network.Goals as goal

pub returns : goal.returns
returns c = script_runs
