-- What a visit to a peer comes to (anti-entropy, Petersen et al. 1997): this project's own.
use Rattle.std.specs.Prelude.{◌≡◌, ◌==◌, ◌⊎◌, ◌<◌, ℕ, Bool, false, true, List, Option, None, Some, Ok, Err}
use Rattle.std.specs.Io.KnownBytes.{Consumes, IsAtEnd}
use Rattle.bayou_base.specs.declared.wid.Wid.{Wid}
use Rattle.bayou_lang.specs.Writes.{count_of}
use Rattle.bayou_net.specs.Lent.{node_ways}
use Rattle.bayou_node.specs.Answers.{InSome}
use Rattle.bayou_node.specs.Books.{Begun}
use Rattle.bayou_peer.specs.Pulls.{PullEnds}
use Rattle.bayou_peer.specs.declared.fault.PullFault.{PullFault}
use Rattle.bayou_peer.specs.declared.fault.PullFault.TheVariants.{Refused}
use Rattle.bayou_peer.specs.declared.pulling.PullStopped.{PullStopped}
use Rattle.bayou_serve.specs.declared.visit.VisitOutcome.{VisitOutcome}
use Rattle.bayou_serve.specs.declared.visit.Visit.{Visit}
use Rattle.bayou_serve.specs.declared.visit.Visit.TheVariants.{Away, Pulled, Failed}
use Rattle.bayou_server.specs.declared.fault.TakeFault.TheVariants.{Conflict, OwnLost}
use Rattle.bayou_streams.specs.Written.{AppendsFront}
use Rattle.bayou_wire.specs.declared.frame.Frame.TheVariants.{Offer}
use Rattle.bayou_wire.specs.Stream.{spelling}

-- A Write that the server made itself and lacks tells that it lost Writes of its own, and so does another Write under a name of its own than
-- the one that it holds.
abbrev pub is_told : (server : ℕ) → (refused : Option Wid) → PullFault → Bool
is_told server refused (Refused OwnLost) = true
is_told server (Some wid) (Refused Conflict) = wid.origin.index == server
is_told server None (Refused Conflict) = false
is_told server refused _ = false

-- the pull stopped at such a one
abbrev pub tells_loss : (server : ℕ) → PullStopped → Bool
tells_loss server stopped = is_told server stopped.refused stopped.fault

-- What a visit came to whose connection came about, by the bytes that were read of it: the pull took what they bring, up to its End; or it ended early,
-- which is no fault after some that were taken. A pull that ended at one of them tells that the server lost Writes of its own, and no other does.
abbrev pub VisitEnds : Begun → (read : List ℕ) → (is_end : Type 0) → Visit → (has_lost : Bool) → Type 0
VisitEnds begun read is_end Away has_lost = ⊥
VisitEnds begun read is_end (Pulled counts) has_lost =
    (PullEnds (node_ways begun) tt tt read is_end (Ok counts) × (has_lost ≡ false))
    ⊎ ((stopped : PullStopped) × (stopped.before ≡ counts) × (0 < counts.taken) × PullEnds (node_ways begun) tt tt read is_end (Err stopped) × (has_lost ≡ tells_loss begun.server stopped))
VisitEnds begun read is_end (Failed fault) has_lost =
    (stopped : PullStopped) × (stopped.fault ≡ fault) × (stopped.before.taken ≡ 0) × PullEnds (node_ways begun) tt tt read is_end (Err stopped) × (has_lost ≡ tells_loss begun.server stopped)

-- The node's counts were offered, or a front of that was written; and of the answer a front was read, which the visit came to.
abbrev pub Visited : Begun → (input written : Option (List ℕ)) → VisitOutcome → Type 0
Visited begun input written outcome =
    (counts : List ℕ) × InSome begun (λ core. counts ≡ count_of core.held)
    × ((after : Option (List ℕ)) × AppendsFront written after (spelling (Offer counts)))
    × ((rest : Option (List ℕ)) × (read : List ℕ) × Consumes input rest read × VisitEnds begun read (IsAtEnd rest) outcome.visit outcome.has_lost)
