use Rattle.std.proofs.Common.{refl}
use Rattle.clap.proofs.OnLiterals.{clap_on_literals}
use Rattle.bayou_command.proofs.imports_are_named.Goals as goal

pub returns-clause-plain : goal.returns-clause-plain
unfolding clap_on_literals
returns-clause-plain c = record { good = refl; entered = refl }

pub returns-clause-turned : goal.returns-clause-turned
unfolding clap_on_literals
returns-clause-turned c = record { good = refl; entered = refl }

pub returns-clause-whole : goal.returns-clause-whole
unfolding clap_on_literals
returns-clause-whole c = record { good = refl; entered = refl }

pub returns-clause-taken : goal.returns-clause-taken
unfolding clap_on_literals
returns-clause-taken c first second = record { good = refl; entered = refl }

pub returns-clause-bare : goal.returns-clause-bare
unfolding clap_on_literals
returns-clause-bare c = refl

pub returns-clause-no_file : goal.returns-clause-no_file
unfolding clap_on_literals
returns-clause-no_file c = refl

pub returns-clause-no_server : goal.returns-clause-no_server
unfolding clap_on_literals
returns-clause-no_server c = refl

pub returns-clause-servers_above : goal.returns-clause-servers_above
unfolding clap_on_literals
returns-clause-servers_above c = refl

pub returns-clause-no_time : goal.returns-clause-no_time
unfolding clap_on_literals
returns-clause-no_time c = refl

pub returns-clause-no_state : goal.returns-clause-no_state
unfolding clap_on_literals
returns-clause-no_state c = refl

pub returns-clause-state_twice : goal.returns-clause-state_twice
unfolding clap_on_literals
returns-clause-state_twice c = refl

pub returns-clause-two_files : goal.returns-clause-two_files
unfolding clap_on_literals
returns-clause-two_files c = refl

pub returns-clause-no_option : goal.returns-clause-no_option
unfolding clap_on_literals
returns-clause-no_option c = refl
