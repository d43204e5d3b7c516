-- What a script says.
use Rattle.std.specs.Prelude.{map}
use Rattle.bayou_text.specs.Said.{command_said}
use Rattle.bayou_script.specs.declared.script.NetworkScript.{NetworkScript}
use Rattle.bayou_script.specs.declared.script.Script.{Script}
use Rattle.bayou_script.specs.NetworkSaid.{network_said}
use Rattle.bayou_script.specs.Script.{Plan}

abbrev pub plan_of : Script → Plan
plan_of script = record { count = script.servers.count; limit = script.servers.limit; commands = map command_said script.commands.items }

-- what a script over a network says
abbrev pub network_plan_of : NetworkScript → Plan
network_plan_of script = record { count = script.servers.count; limit = script.servers.limit; commands = map network_said script.commands.items }
