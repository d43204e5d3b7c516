use Rattle.std.proofs.Common.{refl}
use Rattle.clap.proofs.OnLiterals.{clap_on_literals}
use Rattle.bayou_command.proofs.audits_are_named.Goals as goal

pub returns-clause-explained : goal.returns-clause-explained
unfolding clap_on_literals
returns-clause-explained c = record { good = refl; entered = refl }

pub returns-clause-explained_turned : goal.returns-clause-explained_turned
unfolding clap_on_literals
returns-clause-explained_turned c = record { good = refl; entered = refl }

pub returns-clause-picture : goal.returns-clause-picture
unfolding clap_on_literals
returns-clause-picture c = record { good = refl; entered = refl }

pub returns-clause-picture_joined : goal.returns-clause-picture_joined
unfolding clap_on_literals
returns-clause-picture_joined c = record { good = refl; entered = refl }

pub returns-clause-no_picture : goal.returns-clause-no_picture
unfolding clap_on_literals
returns-clause-no_picture c = refl

pub returns-clause-two_pictures : goal.returns-clause-two_pictures
unfolding clap_on_literals
returns-clause-two_pictures c = refl

pub returns-clause-no_file : goal.returns-clause-no_file
unfolding clap_on_literals
returns-clause-no_file c = refl

pub returns-clause-two_files : goal.returns-clause-two_files
unfolding clap_on_literals
returns-clause-two_files c = refl

pub returns-clause-no_option : goal.returns-clause-no_option
unfolding clap_on_literals
returns-clause-no_option c = refl

pub returns-clause-json : goal.returns-clause-json
unfolding clap_on_literals
returns-clause-json c = record { good = refl; entered = refl }

pub returns-clause-json_explained : goal.returns-clause-json_explained
unfolding clap_on_literals
returns-clause-json_explained c = record { good = refl; entered = refl }

pub returns-clause-all : goal.returns-clause-all
unfolding clap_on_literals
returns-clause-all c = record { good = refl; entered = refl }
