use Rattle.std.proofs.Common.{refl}
use Rattle.clap.proofs.OnLiterals.{clap_on_literals}
use Rattle.bayou_command.proofs.connections_are_named.Goals as goal

pub returns-clause-plain : goal.returns-clause-plain
unfolding clap_on_literals
returns-clause-plain c = record { good = refl; entered = refl }

pub returns-clause-joined : goal.returns-clause-joined
unfolding clap_on_literals
returns-clause-joined c = record { good = refl; entered = refl }

pub returns-clause-servers : goal.returns-clause-servers
unfolding clap_on_literals
returns-clause-servers c = record { good = refl; entered = refl }

pub returns-clause-count : goal.returns-clause-count
unfolding clap_on_literals
returns-clause-count c = record { good = refl; entered = refl }

pub returns-clause-asks : goal.returns-clause-asks
unfolding clap_on_literals
returns-clause-asks c = record { good = refl; entered = refl }

pub returns-clause-state : goal.returns-clause-state
unfolding clap_on_literals
returns-clause-state c = record { good = refl; entered = refl }

pub returns-clause-book : goal.returns-clause-book
unfolding clap_on_literals
returns-clause-book c = record { good = refl; entered = refl }

pub returns-clause-wait : goal.returns-clause-wait
unfolding clap_on_literals
returns-clause-wait c = record { good = refl; entered = refl }

pub returns-clause-timeout : goal.returns-clause-timeout
unfolding clap_on_literals
returns-clause-timeout c = record { good = refl; entered = refl }

pub returns-clause-named : goal.returns-clause-named
unfolding clap_on_literals
returns-clause-named c = record { good = refl; entered = refl }

pub returns-clause-dash : goal.returns-clause-dash
unfolding clap_on_literals
returns-clause-dash c = record { good = refl; entered = refl }

pub returns-clause-whole : goal.returns-clause-whole
unfolding clap_on_literals
returns-clause-whole c = record { good = refl; entered = refl }

pub returns-clause-turned : goal.returns-clause-turned
unfolding clap_on_literals
returns-clause-turned c = record { good = refl; entered = refl }

pub returns-clause-least : goal.returns-clause-least
unfolding clap_on_literals
returns-clause-least c = record { good = refl; entered = refl }

pub returns-clause-most : goal.returns-clause-most
unfolding clap_on_literals
returns-clause-most c = record { good = refl; entered = refl }

pub returns-clause-bare : goal.returns-clause-bare
unfolding clap_on_literals
returns-clause-bare c = refl

pub returns-clause-no_server : goal.returns-clause-no_server
unfolding clap_on_literals
returns-clause-no_server c = refl

pub returns-clause-count_below : goal.returns-clause-count_below
unfolding clap_on_literals
returns-clause-count_below c = refl

pub returns-clause-count_above : goal.returns-clause-count_above
unfolding clap_on_literals
returns-clause-count_above c = refl

pub returns-clause-wait_below : goal.returns-clause-wait_below
unfolding clap_on_literals
returns-clause-wait_below c = refl

pub returns-clause-timeout_below : goal.returns-clause-timeout_below
unfolding clap_on_literals
returns-clause-timeout_below c = refl

pub returns-clause-wait_above : goal.returns-clause-wait_above
unfolding clap_on_literals
returns-clause-wait_above c = refl

pub returns-clause-timeout_above : goal.returns-clause-timeout_above
unfolding clap_on_literals
returns-clause-timeout_above c = refl

pub returns-clause-state_unnamed : goal.returns-clause-state_unnamed
unfolding clap_on_literals
returns-clause-state_unnamed c = refl

pub returns-clause-book_unnamed : goal.returns-clause-book_unnamed
unfolding clap_on_literals
returns-clause-book_unnamed c = refl

pub returns-clause-count_twice : goal.returns-clause-count_twice
unfolding clap_on_literals
returns-clause-count_twice c = refl

pub returns-clause-asks_twice : goal.returns-clause-asks_twice
unfolding clap_on_literals
returns-clause-asks_twice c = refl

pub returns-clause-state_twice : goal.returns-clause-state_twice
unfolding clap_on_literals
returns-clause-state_twice c = refl

pub returns-clause-book_twice : goal.returns-clause-book_twice
unfolding clap_on_literals
returns-clause-book_twice c = refl

pub returns-clause-wait_twice : goal.returns-clause-wait_twice
unfolding clap_on_literals
returns-clause-wait_twice c = refl

pub returns-clause-timeout_twice : goal.returns-clause-timeout_twice
unfolding clap_on_literals
returns-clause-timeout_twice c = refl

pub returns-clause-two_files : goal.returns-clause-two_files
unfolding clap_on_literals
returns-clause-two_files c = refl

pub returns-clause-no_option : goal.returns-clause-no_option
unfolding clap_on_literals
returns-clause-no_option c = refl

pub returns-clause-key : goal.returns-clause-key
unfolding clap_on_literals
returns-clause-key c = record { good = refl; entered = refl }

pub returns-clause-key_unnamed : goal.returns-clause-key_unnamed
unfolding clap_on_literals
returns-clause-key_unnamed c = refl

pub returns-clause-key_twice : goal.returns-clause-key_twice
unfolding clap_on_literals
returns-clause-key_twice c = refl

pub returns-clause-log : goal.returns-clause-log
unfolding clap_on_literals
returns-clause-log c = record { good = refl; entered = refl }

pub returns-clause-log_unnamed : goal.returns-clause-log_unnamed
unfolding clap_on_literals
returns-clause-log_unnamed c = refl

pub returns-clause-log_twice : goal.returns-clause-log_twice
unfolding clap_on_literals
returns-clause-log_twice c = refl

pub returns-clause-json : goal.returns-clause-json
unfolding clap_on_literals
returns-clause-json c = record { good = refl; entered = refl }

pub returns-clause-json_twice : goal.returns-clause-json_twice
unfolding clap_on_literals
returns-clause-json_twice c = refl
