use Rattle.std.proofs.Common.{refl}
use Rattle.clap.proofs.OnLiterals.{clap_on_literals}
use Rattle.bayou_command.proofs.commands_are_named.Goals as goal

pub returns-clause-run : goal.returns-clause-run
unfolding clap_on_literals
returns-clause-run c = record { good = refl; entered = refl }

pub returns-clause-run_dash : goal.returns-clause-run_dash
unfolding clap_on_literals
returns-clause-run_dash c = record { good = refl; entered = refl }

pub returns-clause-run_file : goal.returns-clause-run_file
unfolding clap_on_literals
returns-clause-run_file c = record { good = refl; entered = refl }

pub returns-clause-audit : goal.returns-clause-audit
unfolding clap_on_literals
returns-clause-audit c = record { good = refl; entered = refl }

pub returns-clause-audit_dash : goal.returns-clause-audit_dash
unfolding clap_on_literals
returns-clause-audit_dash c = record { good = refl; entered = refl }

pub returns-clause-net : goal.returns-clause-net
unfolding clap_on_literals
returns-clause-net c = record { good = refl; entered = refl }

pub returns-clause-net_joined : goal.returns-clause-net_joined
unfolding clap_on_literals
returns-clause-net_joined c = record { good = refl; entered = refl }

pub returns-clause-net_dash : goal.returns-clause-net_dash
unfolding clap_on_literals
returns-clause-net_dash c = record { good = refl; entered = refl }

pub returns-clause-net_file : goal.returns-clause-net_file
unfolding clap_on_literals
returns-clause-net_file c = record { good = refl; entered = refl }

pub returns-clause-net_turned : goal.returns-clause-net_turned
unfolding clap_on_literals
returns-clause-net_turned c = record { good = refl; entered = refl }

pub returns-clause-net_bare : goal.returns-clause-net_bare
unfolding clap_on_literals
returns-clause-net_bare c = refl

pub returns-clause-net_nowhere : goal.returns-clause-net_nowhere
unfolding clap_on_literals
returns-clause-net_nowhere c = refl

pub returns-clause-serve : goal.returns-clause-serve
unfolding clap_on_literals
returns-clause-serve c = record { good = refl; entered = refl }

pub returns-clause-serve_joined : goal.returns-clause-serve_joined
unfolding clap_on_literals
returns-clause-serve_joined c = record { good = refl; entered = refl }

pub returns-clause-serve_peers : goal.returns-clause-serve_peers
unfolding clap_on_literals
returns-clause-serve_peers c = record { good = refl; entered = refl }

pub returns-clause-serve_every : goal.returns-clause-serve_every
unfolding clap_on_literals
returns-clause-serve_every c = record { good = refl; entered = refl }

pub returns-clause-serve_limit : goal.returns-clause-serve_limit
unfolding clap_on_literals
returns-clause-serve_limit c = record { good = refl; entered = refl }

pub returns-clause-serve_connections : goal.returns-clause-serve_connections
unfolding clap_on_literals
returns-clause-serve_connections c = record { good = refl; entered = refl }

pub returns-clause-serve_idle : goal.returns-clause-serve_idle
unfolding clap_on_literals
returns-clause-serve_idle c = record { good = refl; entered = refl }

pub returns-clause-serve_until_input_ends : goal.returns-clause-serve_until_input_ends
unfolding clap_on_literals
returns-clause-serve_until_input_ends c = record { good = refl; entered = refl }

pub returns-clause-serve_new : goal.returns-clause-serve_new
unfolding clap_on_literals
returns-clause-serve_new c = record { good = refl; entered = refl }

pub returns-clause-serve_restore : goal.returns-clause-serve_restore
unfolding clap_on_literals
returns-clause-serve_restore c = record { good = refl; entered = refl }

pub returns-clause-serve_without : goal.returns-clause-serve_without
unfolding clap_on_literals
returns-clause-serve_without c = record { good = refl; entered = refl }

pub returns-clause-serve_anyone : goal.returns-clause-serve_anyone
unfolding clap_on_literals
returns-clause-serve_anyone c = record { good = refl; entered = refl }

pub returns-clause-serve_whole : goal.returns-clause-serve_whole
unfolding clap_on_literals
returns-clause-serve_whole c = record { good = refl; entered = refl }

pub returns-clause-serve_turned : goal.returns-clause-serve_turned
unfolding clap_on_literals
returns-clause-serve_turned c = record { good = refl; entered = refl }

pub returns-clause-serve_least : goal.returns-clause-serve_least
unfolding clap_on_literals
returns-clause-serve_least c = record { good = refl; entered = refl }

pub returns-clause-serve_most : goal.returns-clause-serve_most
unfolding clap_on_literals
returns-clause-serve_most c = record { good = refl; entered = refl }

pub returns-clause-serve_bare : goal.returns-clause-serve_bare
unfolding clap_on_literals
returns-clause-serve_bare c = refl

pub returns-clause-serve_no_id : goal.returns-clause-serve_no_id
unfolding clap_on_literals
returns-clause-serve_no_id c = refl

pub returns-clause-serve_no_servers : goal.returns-clause-serve_no_servers
unfolding clap_on_literals
returns-clause-serve_no_servers c = refl

pub returns-clause-serve_no_dir : goal.returns-clause-serve_no_dir
unfolding clap_on_literals
returns-clause-serve_no_dir c = refl

pub returns-clause-serve_no_listen : goal.returns-clause-serve_no_listen
unfolding clap_on_literals
returns-clause-serve_no_listen c = refl

pub returns-clause-serve_id_above : goal.returns-clause-serve_id_above
unfolding clap_on_literals
returns-clause-serve_id_above c = refl

pub returns-clause-serve_id_none : goal.returns-clause-serve_id_none
unfolding clap_on_literals
returns-clause-serve_id_none c = refl

pub returns-clause-serve_servers_below : goal.returns-clause-serve_servers_below
unfolding clap_on_literals
returns-clause-serve_servers_below c = refl

pub returns-clause-serve_servers_above : goal.returns-clause-serve_servers_above
unfolding clap_on_literals
returns-clause-serve_servers_above c = refl

pub returns-clause-serve_every_below : goal.returns-clause-serve_every_below
unfolding clap_on_literals
returns-clause-serve_every_below c = refl

pub returns-clause-serve_every_above : goal.returns-clause-serve_every_above
unfolding clap_on_literals
returns-clause-serve_every_above c = refl

pub returns-clause-serve_limit_below : goal.returns-clause-serve_limit_below
unfolding clap_on_literals
returns-clause-serve_limit_below c = refl

pub returns-clause-serve_limit_above : goal.returns-clause-serve_limit_above
unfolding clap_on_literals
returns-clause-serve_limit_above c = refl

pub returns-clause-serve_connections_below : goal.returns-clause-serve_connections_below
unfolding clap_on_literals
returns-clause-serve_connections_below c = refl

pub returns-clause-serve_connections_above : goal.returns-clause-serve_connections_above
unfolding clap_on_literals
returns-clause-serve_connections_above c = refl

pub returns-clause-serve_idle_below : goal.returns-clause-serve_idle_below
unfolding clap_on_literals
returns-clause-serve_idle_below c = refl

pub returns-clause-serve_idle_above : goal.returns-clause-serve_idle_above
unfolding clap_on_literals
returns-clause-serve_idle_above c = refl

pub returns-clause-serve_nowhere : goal.returns-clause-serve_nowhere
unfolding clap_on_literals
returns-clause-serve_nowhere c = refl

pub returns-clause-serve_twice : goal.returns-clause-serve_twice
unfolding clap_on_literals
returns-clause-serve_twice c = refl

pub returns-clause-serve_word : goal.returns-clause-serve_word
unfolding clap_on_literals
returns-clause-serve_word c = refl

pub returns-clause-serve_key : goal.returns-clause-serve_key
unfolding clap_on_literals
returns-clause-serve_key c = record { good = refl; entered = refl }

pub returns-clause-serve_key_unnamed : goal.returns-clause-serve_key_unnamed
unfolding clap_on_literals
returns-clause-serve_key_unnamed c = refl

pub returns-clause-serve_key_twice : goal.returns-clause-serve_key_twice
unfolding clap_on_literals
returns-clause-serve_key_twice c = refl

pub returns-clause-run_json : goal.returns-clause-run_json
unfolding clap_on_literals
returns-clause-run_json c = record { good = refl; entered = refl }

pub returns-clause-run_json_turned : goal.returns-clause-run_json_turned
unfolding clap_on_literals
returns-clause-run_json_turned c = record { good = refl; entered = refl }

pub returns-clause-run_json_bare : goal.returns-clause-run_json_bare
unfolding clap_on_literals
returns-clause-run_json_bare c = record { good = refl; entered = refl }

pub returns-clause-run_json_twice : goal.returns-clause-run_json_twice
unfolding clap_on_literals
returns-clause-run_json_twice c = refl

pub returns-clause-net_json : goal.returns-clause-net_json
unfolding clap_on_literals
returns-clause-net_json c = refl
