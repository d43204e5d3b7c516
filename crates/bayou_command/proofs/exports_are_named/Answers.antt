use Rattle.std.proofs.Common.{refl}
use Rattle.clap.proofs.OnLiterals.{clap_on_literals}
use Rattle.bayou_command.proofs.exports_are_named.Goals as goal

pub returns-clause-bare : goal.returns-clause-bare
unfolding clap_on_literals
returns-clause-bare c = record { good = refl; entered = refl }

pub returns-clause-asked : goal.returns-clause-asked
unfolding clap_on_literals
returns-clause-asked c = record { good = refl; entered = refl }

pub returns-clause-read : goal.returns-clause-read
unfolding clap_on_literals
returns-clause-read c = record { good = refl; entered = refl }

pub returns-clause-some_asked : goal.returns-clause-some_asked
unfolding clap_on_literals
returns-clause-some_asked c = record { good = refl; entered = refl }

pub returns-clause-some_read : goal.returns-clause-some_read
unfolding clap_on_literals
returns-clause-some_read c = record { good = refl; entered = refl }

pub returns-clause-taken : goal.returns-clause-taken
unfolding clap_on_literals
returns-clause-taken c first second = record { good = refl; entered = refl }

pub returns-clause-id_above : goal.returns-clause-id_above
unfolding clap_on_literals
returns-clause-id_above c = refl

pub returns-clause-no_servers : goal.returns-clause-no_servers
unfolding clap_on_literals
returns-clause-no_servers c = refl

pub returns-clause-servers_above : goal.returns-clause-servers_above
unfolding clap_on_literals
returns-clause-servers_above c = refl

pub returns-clause-no_time : goal.returns-clause-no_time
unfolding clap_on_literals
returns-clause-no_time c = refl

pub returns-clause-nowhere : goal.returns-clause-nowhere
unfolding clap_on_literals
returns-clause-nowhere c = refl

pub returns-clause-no_key : goal.returns-clause-no_key
unfolding clap_on_literals
returns-clause-no_key c = refl

pub returns-clause-dir_twice : goal.returns-clause-dir_twice
unfolding clap_on_literals
returns-clause-dir_twice c = refl

pub returns-clause-two_prefixes : goal.returns-clause-two_prefixes
unfolding clap_on_literals
returns-clause-two_prefixes c = refl

pub returns-clause-no_option : goal.returns-clause-no_option
unfolding clap_on_literals
returns-clause-no_option c = refl
