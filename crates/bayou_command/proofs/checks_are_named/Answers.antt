use Rattle.std.proofs.Common.{refl}
use Rattle.clap.proofs.OnLiterals.{clap_on_literals}
use Rattle.bayou_command.proofs.checks_are_named.Goals as goal

pub returns-clause-plain : goal.returns-clause-plain
unfolding clap_on_literals
returns-clause-plain c = record { good = refl; entered = refl }

pub returns-clause-dash : goal.returns-clause-dash
unfolding clap_on_literals
returns-clause-dash c = record { good = refl; entered = refl }

pub returns-clause-json : goal.returns-clause-json
unfolding clap_on_literals
returns-clause-json c = record { good = refl; entered = refl }

pub returns-clause-turned : goal.returns-clause-turned
unfolding clap_on_literals
returns-clause-turned c = record { good = refl; entered = refl }

pub returns-clause-bare : goal.returns-clause-bare
unfolding clap_on_literals
returns-clause-bare c = refl

pub returns-clause-no_file : goal.returns-clause-no_file
unfolding clap_on_literals
returns-clause-no_file c = refl

pub returns-clause-two_files : goal.returns-clause-two_files
unfolding clap_on_literals
returns-clause-two_files c = refl

pub returns-clause-no_option : goal.returns-clause-no_option
unfolding clap_on_literals
returns-clause-no_option c = refl
