-- Whose shares there are. No public clause cites this.
use Rattle.std.specs.Prelude.{◌≡◌, ℕ, List, Some, length}
use Rattle.std.specs.List.{slice_get}
use Rattle.bayou_audit.specs.Totals.{Shared}
use Rattle.bayou_base.specs.declared.limits.TheConstants.{SESSIONS}
use Rattle.bayou_base.specs.declared.server.ServerId.{ServerId}
use Rattle.bayou_base.specs.declared.session.SessionId.{SessionId}

-- one share for each session that there may be, in their order
pub record AreOfSessions (shares : List Shared) : Type 0 where
  pub one_each : length shares ≡ SESSIONS
  pub in_order : (at : ℕ) (share : Shared) → slice_get shares at ≡ Some share → share.session.index ≡ at

-- the session and the server, by their numbers
abbrev pub index_of : SessionId × ServerId → ℕ × ℕ
index_of (who, server) = (who.index, server.index)
