-- What a command over a network says.
use Rattle.std.specs.Prelude.{None}
use Rattle.bayou_text.specs.Said.{Said, operation_said, phase, pull, question_said, reopen, session}
use Rattle.bayou_script.specs.declared.network.NetworkCommand.{NetworkCommand}
use Rattle.bayou_script.specs.declared.network.NetworkCommand.TheVariants as network

-- a pull is never cut
abbrev pub network_said : NetworkCommand → Said
network_said (network.Session who asks) = session who.index asks
network_said (network.Operation operation) = operation_said operation
network_said (network.Pull to source) = pull to.index source.index None
network_said (network.Reopen place) = reopen place.index
network_said (network.Question question) = question_said question
network_said network.Phase = phase
