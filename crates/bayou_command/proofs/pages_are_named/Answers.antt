use Rattle.std.proofs.Common.{refl}
use Rattle.clap.proofs.OnLiterals.{clap_on_literals}
use Rattle.bayou_command.proofs.pages_are_named.Goals as goal

pub returns-clause-plain : goal.returns-clause-plain
unfolding clap_on_literals
returns-clause-plain c = record { good = refl; entered = refl }

pub returns-clause-whole : goal.returns-clause-whole
unfolding clap_on_literals
returns-clause-whole c = record { good = refl; entered = refl }

pub returns-clause-taken : goal.returns-clause-taken
unfolding clap_on_literals
returns-clause-taken c first second = record { good = refl; entered = refl }

pub returns-clause-named : goal.returns-clause-named
unfolding clap_on_literals
returns-clause-named c name = record { good = refl; entered = refl }

pub returns-clause-bare : goal.returns-clause-bare
unfolding clap_on_literals
returns-clause-bare c = refl

pub returns-clause-no_state : goal.returns-clause-no_state
unfolding clap_on_literals
returns-clause-no_state c = refl

pub returns-clause-no_server : goal.returns-clause-no_server
unfolding clap_on_literals
returns-clause-no_server c = refl

pub returns-clause-servers_above : goal.returns-clause-servers_above
unfolding clap_on_literals
returns-clause-servers_above c = refl

pub returns-clause-no_time : goal.returns-clause-no_time
unfolding clap_on_literals
returns-clause-no_time c = refl

pub returns-clause-no_key : goal.returns-clause-no_key
unfolding clap_on_literals
returns-clause-no_key c = refl

pub returns-clause-state_twice : goal.returns-clause-state_twice
unfolding clap_on_literals
returns-clause-state_twice c = refl

pub returns-clause-no_option : goal.returns-clause-no_option
unfolding clap_on_literals
returns-clause-no_option c = refl
