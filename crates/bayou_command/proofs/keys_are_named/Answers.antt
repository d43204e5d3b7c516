use Rattle.std.proofs.Common.{refl}
use Rattle.clap.proofs.OnLiterals.{clap_on_literals}
use Rattle.bayou_command.proofs.keys_are_named.Goals as goal

pub returns-clause-plain : goal.returns-clause-plain
unfolding clap_on_literals
returns-clause-plain c = record { good = refl; entered = refl }

pub returns-clause-turned : goal.returns-clause-turned
unfolding clap_on_literals
returns-clause-turned c = record { good = refl; entered = refl }

pub returns-clause-taken : goal.returns-clause-taken
unfolding clap_on_literals
returns-clause-taken c text = record { good = refl; entered = refl }

pub returns-clause-bare : goal.returns-clause-bare
unfolding clap_on_literals
returns-clause-bare c = refl

pub returns-clause-no_name : goal.returns-clause-no_name
unfolding clap_on_literals
returns-clause-no_name c = refl

pub returns-clause-no_file : goal.returns-clause-no_file
unfolding clap_on_literals
returns-clause-no_file c = refl

pub returns-clause-file_unnamed : goal.returns-clause-file_unnamed
unfolding clap_on_literals
returns-clause-file_unnamed c = refl

pub returns-clause-name_twice : goal.returns-clause-name_twice
unfolding clap_on_literals
returns-clause-name_twice c = refl

pub returns-clause-two_files : goal.returns-clause-two_files
unfolding clap_on_literals
returns-clause-two_files c = refl
