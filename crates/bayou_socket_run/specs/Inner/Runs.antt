-- Which runs of the program the tags are of that a server holds, and how many connections a run opens.
use Rattle.std.specs.Prelude.{ℕ, ◌+◌, ◌<◌, Bool, true, false, List, All, IfSome, filter, length}
use Rattle.bayou_script.specs.NetworkSaid.{network_said}
use Rattle.bayou_script.specs.declared.network.NetworkCommand.{NetworkCommand}
use Rattle.bayou_server.specs.Server.{Core}
use Rattle.bayou_text.specs.Said.{Said, again, pull, session}

-- each tag that the server holds is of a run before this one
abbrev pub HasRunsBefore : (run : ℕ) → Core → Type 0
HasRunsBefore run core = All (λ entry. IfSome entry (λ tag. tag.run < run)) core.tags

-- a line that may open a connection of its own to a server: one that opens a session, pulls, or asks a Write again
abbrev pub opens_one : Said → Bool
opens_one (session who asks) = true
opens_one (pull to source cut) = true
opens_one (again who) = true
opens_one _ = false

-- how many connections such lines may open to a server, with one for all that is asked at the end of a phase
abbrev pub connections_of : List NetworkCommand → ℕ
connections_of commands = length (filter (λ command. opens_one (network_said command)) commands) + 1
