-- Which servers count as silent, and which connections to them there are: this project's own.
use Rattle.std.specs.Prelude.{ℕ, Bool, List, Option, map, nat_lt}
use Rattle.std.specs.declared.net.tcp.TcpStream.{TcpStream}
use Rattle.bayou_connect.specs.declared.reach.Access.{Access}
use Rattle.bayou_connect.specs.declared.reach.Purpose.{Purpose}
use Rattle.bayou_connect.specs.declared.reach.Purpose.TheVariants.{Requests, Lookups}

-- the connection for that, if there is one
abbrev pub stream_for : Purpose → Access → Option TcpStream
stream_for Requests access = access.requests
stream_for Lookups access = access.lookups

-- whether each server counts as silent at that time
abbrev pub silent_at : (now : ℕ) → List Access → List Bool
silent_at now accesses = map (λ (access : Access). nat_lt now access.silent_until) accesses
