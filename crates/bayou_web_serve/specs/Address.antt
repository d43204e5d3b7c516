-- Where a page is served: this project's own.
use Rattle.std.specs.Prelude.{ℕ, List, ◌⊎◌}
use Rattle.std.specs.Net.Addr.{IsLoopbackV4, IsLoopbackV6, MatchIp}
use Rattle.std.specs.Net.Socket.{socket_ip}
use Rattle.std.specs.Net.Grammar.{IsSocketText}
use Rattle.std.specs.declared.net.socket_addr.SocketAddr.{SocketAddr}

-- an address that no other machine reaches
abbrev pub IsLoopback : SocketAddr → Type 0
IsLoopback address = MatchIp (socket_ip address) IsLoopbackV4 IsLoopbackV6

-- the word says it, and it is a loopback address
pub record SaysLoopback (word : List ℕ) (address : SocketAddr) : Type 0 where
  pub said : IsSocketText word address
  pub loopback : IsLoopback address

-- the word says no address, or one that isn't a loopback address
abbrev pub SaysNoLoopback : (word : List ℕ) → Type 0
SaysNoLoopback word = ((address : SocketAddr) → ¬ (IsSocketText word address)) ⊎ ((address : SocketAddr) × IsSocketText word address × (¬ (IsLoopback address)))
