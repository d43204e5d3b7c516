-- A server, as it was asked.
use Rattle.std.specs.Prelude.{◌≡◌, ℕ, List, Option, is_some}
use Rattle.std.specs.declared.net.socket_addr.SocketAddr.{SocketAddr}
use Rattle.bayou_base.specs.declared.server.ServerId.{ServerId}
use Rattle.bayou_web_state.specs.declared.seen.ServerSeen.{ServerSeen}

-- it is at this address, and up where it told what it holds
pub record IsAsked (which : ServerId) (place : SocketAddr) (told : Option (List ℕ)) (server : ServerSeen) : Type 0 where
  pub id : server.id ≡ which
  pub address : server.address ≡ place
  pub up : server.is_up ≡ is_some told
