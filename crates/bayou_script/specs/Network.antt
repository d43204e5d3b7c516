-- Scripts over a network: servers with journals in files, which answer sessions and one another over connections.
use Rattle.std.specs.Prelude.{ℕ, ◌≤◌, Bool, true, false, not, ◌&&◌, List, IsTrue, nat_le}
use Rattle.std.specs.List.{list_all}
use Rattle.std.specs.Option.{is_some}
use Rattle.bayou_base.specs.declared.limits.TheConstants.{NET_SERVERS}
use Rattle.bayou_text.specs.Said.{Said, servers, drop, fuse, lose, restart, pull, resend}
use Rattle.bayou_script.specs.declared.fault.InputRefusal.{InputRefusal}
use Rattle.bayou_script.specs.declared.fault.ScriptFault.{ScriptFault}
use Rattle.bayou_script.specs.Order.{IsRefusedBy, Order, RefusedBy}
use Rattle.bayou_script.specs.Script.{IsScript, Plan, script_order}

-- Whether servers over a network can be asked this: there are few of them; no reply is lost by a plan; the device of each is a file,
-- which neither fails nor loses bytes by one; each is started once; and of a pull neither the offer nor the end is chosen.
abbrev pub runs_over_network : Said → Bool
runs_over_network (servers count most) = nat_le count NET_SERVERS
runs_over_network (drop who) = false
runs_over_network (fuse place calls kept) = false
runs_over_network (lose place count) = false
runs_over_network (restart place) = false
runs_over_network (resend to source) = false
runs_over_network (pull to source cut) = not (is_some cut)
runs_over_network other = true

-- the order of the lines of a script over a network
abbrev pub network_order : Order
network_order number front said = runs_over_network said && script_order number front said

-- so few servers, and only what they can be asked
pub record RunsOverNetwork (plan : Plan) : Type 0 where
  pub few : plan.count ≤ NET_SERVERS
  pub commands : IsTrue (list_all runs_over_network plan.commands)

-- the lines are a script that says this, and it runs over a network
pub record IsNetworkScript (lines : List (List ℕ)) (plan : Plan) : Type 0 where
  pub script : IsScript lines plan
  pub runs : RunsOverNetwork plan

-- the lines are no script over a network: this one is the least with a fault
abbrev pub IsNetworkRefused : List (List ℕ) → ℕ → ScriptFault → Type 0
IsNetworkRefused lines number fault = IsRefusedBy network_order lines number fault

-- why the lines aren't taken as a script over a network, where memory didn't run out
abbrev pub NetworkRefusedFor : List (List ℕ) → InputRefusal → Type 0
NetworkRefusedFor lines refusal = RefusedBy network_order lines refusal
