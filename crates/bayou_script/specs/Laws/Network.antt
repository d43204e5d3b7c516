-- A script over a network runs over one, by its type.
use Rattle.std.specs.Prelude.{◌≡◌, true, List, [], ◌∷◌, IsTrue, map, refl}
use Rattle.std.proofs.lemmas.Bool.{and_from}
use Rattle.std.specs.List.{list_all}
use Rattle.bayou_script.specs.declared.network.NetworkCommand.{NetworkCommand}
use Rattle.bayou_script.specs.declared.network.NetworkCommand.TheVariants as network
use Rattle.bayou_script.specs.declared.script.NetworkScript.{NetworkScript}
use Rattle.bayou_script.specs.Laws.Kinds.{operation_is, question_is}
use Rattle.bayou_script.specs.Network.{RunsOverNetwork, runs_over_network}
use Rattle.bayou_script.specs.NetworkSaid.{network_said}
use Rattle.bayou_script.specs.Plan.{network_plan_of}

pub command_runs : (command : NetworkCommand) → runs_over_network (network_said command) ≡ true
command_runs (network.Session who asks) = refl
command_runs (network.Operation operation) = (operation_is operation.session.index operation.attempt).runs
command_runs (network.Pull to source) = refl
command_runs (network.Reopen place) = refl
command_runs (network.Question question) = (question_is question).runs
command_runs network.Phase = refl

pub commands_run : (commands : List NetworkCommand) → IsTrue (list_all runs_over_network (map network_said commands))
commands_run [] = refl
commands_run (command ∷ commands) = and_from _ _ (command_runs command) (commands_run commands)

pub script_runs : (script : NetworkScript) → RunsOverNetwork (network_plan_of script)
script_runs script = record { few = script.few; commands = commands_run script.commands.items }
