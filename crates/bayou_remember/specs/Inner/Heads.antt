-- The head of what is kept, between its reader in src/ and its spelling. No public clause cites this.
use Rattle.std.specs.Prelude.{◌≡◌, ℕ, List, ◌++◌, Option}
use Rattle.bayou_base.specs.declared.asks.Asks.{Asks}
use Rattle.bayou_base.specs.declared.server.ServerId.{ServerId}
use Rattle.bayou_base.specs.declared.session.SessionId.{SessionId}
use Rattle.bayou_remember.specs.Spelling.{head_bytes}

-- the bytes begin with a head
pub record BeginsWithHead (bytes : List ℕ) : Type 0 where
  pub session : SessionId
  pub asks : Asks
  pub begun : ℕ
  pub server : Option ServerId
  pub rest : List ℕ
  pub is : bytes ≡ head_bytes session.index asks begun server ++ rest
