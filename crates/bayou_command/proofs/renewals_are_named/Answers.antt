use Rattle.std.proofs.Common.{refl}
use Rattle.clap.proofs.OnLiterals.{clap_on_literals}
use Rattle.bayou_command.proofs.renewals_are_named.Goals as goal

pub returns-clause-plain : goal.returns-clause-plain
unfolding clap_on_literals
returns-clause-plain c = record { good = refl; entered = refl }

pub returns-clause-turned : goal.returns-clause-turned
unfolding clap_on_literals
returns-clause-turned c = record { good = refl; entered = refl }

pub returns-clause-servers_then : goal.returns-clause-servers_then
unfolding clap_on_literals
returns-clause-servers_then c = record { good = refl; entered = refl }

pub returns-clause-without : goal.returns-clause-without
unfolding clap_on_literals
returns-clause-without c = record { good = refl; entered = refl }

pub returns-clause-full : goal.returns-clause-full
unfolding clap_on_literals
returns-clause-full c = record { good = refl; entered = refl }

pub returns-clause-whole : goal.returns-clause-whole
unfolding clap_on_literals
returns-clause-whole c = record { good = refl; entered = refl }

pub returns-clause-taken : goal.returns-clause-taken
unfolding clap_on_literals
returns-clause-taken c text first second = record { good = refl; entered = refl }

pub returns-clause-bare : goal.returns-clause-bare
unfolding clap_on_literals
returns-clause-bare c = refl

pub returns-clause-no_id : goal.returns-clause-no_id
unfolding clap_on_literals
returns-clause-no_id c = refl

pub returns-clause-no_servers : goal.returns-clause-no_servers
unfolding clap_on_literals
returns-clause-no_servers c = refl

pub returns-clause-no_dir : goal.returns-clause-no_dir
unfolding clap_on_literals
returns-clause-no_dir c = refl

pub returns-clause-no_to : goal.returns-clause-no_to
unfolding clap_on_literals
returns-clause-no_to c = refl

pub returns-clause-no_at : goal.returns-clause-no_at
unfolding clap_on_literals
returns-clause-no_at c = refl

pub returns-clause-then_below : goal.returns-clause-then_below
unfolding clap_on_literals
returns-clause-then_below c = refl

pub returns-clause-then_above : goal.returns-clause-then_above
unfolding clap_on_literals
returns-clause-then_above c = refl

pub returns-clause-nowhere : goal.returns-clause-nowhere
unfolding clap_on_literals
returns-clause-nowhere c = refl

pub returns-clause-at_twice : goal.returns-clause-at_twice
unfolding clap_on_literals
returns-clause-at_twice c = refl

pub returns-clause-no_option : goal.returns-clause-no_option
unfolding clap_on_literals
returns-clause-no_option c = refl

pub returns-clause-word : goal.returns-clause-word
unfolding clap_on_literals
returns-clause-word c = refl
