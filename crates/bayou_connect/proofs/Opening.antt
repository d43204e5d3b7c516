-- A session that is opened.
use Rattle.std.proofs.Common.{◌≡◌, ◌∙◌, ℕ, List, Option, Some, None, ap, get_or, set}
use Rattle.std.proofs.lemmas.List.{set-set}
use Rattle.bayou_base.specs.declared.asks.Asks.{Asks}
use Rattle.bayou_base.specs.declared.session.SessionId.{SessionId}
use Rattle.bayou_client.specs.declared.asker.Asked.{Asked}
use Rattle.bayou_connect.specs.Sessions.{IsOpened, opened}
use Rattle.bayou_client.specs.Operating.{Asking}
use Rattle.bayou_session.specs.Needs.{Told as Session, resumed}
use Rattle.bayou_session.specs.declared.past.Past.{Past}

-- it goes on from where it was kept
pub goes_on : (who : SessionId) (asks : Asks) (session : Session) (past : Past) (asked : Option Asked) → resumed session.id session.asks past ≡ session
    → ◌≡◌ {A = Asking} (record { session = resumed who asks past; asked = asked }) (record { session = record session { id = who; asks = asks }; asked = asked })
goes_on who asks session past asked same = ap (λ (s : Session). record { session = record s { id = who; asks = asks }; asked = asked }) same

-- what stood at its place is taken, and the session that is opened from that is put there
pub is_opened : (who number : SessionId) (run : ℕ) (asks : Asks) (sessions : List (Option Asking)) (place : ℕ) (taken gone : Option Asking) (kept : Asking) → place ≡ who.index
    → taken ≡ get_or sessions place None → kept ≡ opened number run asks taken → IsOpened who number run asks sessions (set (set sessions place gone) place (Some kept))
is_opened who number run asks sessions place taken gone kept here was is =
    set-set sessions place gone (Some kept) ∙ ap (λ (n : ℕ). set sessions n (Some kept)) here
    ∙ ap (λ (k : Asking). set sessions who.index (Some k)) (is ∙ ap (opened number run asks) (was ∙ ap (λ (n : ℕ). get_or sessions n None) here))
