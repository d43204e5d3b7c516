-- The servers that a script has started, if it has.
use Rattle.std.specs.Prelude.{ℕ, Bool, false, true, List, Option, None, Some, nat_le}
use Rattle.bayou_base.specs.declared.limits.TheConstants.{NET_SERVERS}
use Rattle.bayou_script.specs.declared.script.Servers.{Servers}
use Rattle.bayou_script.specs.Script.{are_servers}

-- whether these are among them, none of them twice
abbrev pub are_started : Option Servers → List ℕ → Bool
are_started None places = false
are_started (Some started) places = are_servers started.count places

-- whether they are few enough for a network
abbrev pub are_few : Option Servers → Bool
are_few None = true
are_few (Some started) = nat_le started.count NET_SERVERS
