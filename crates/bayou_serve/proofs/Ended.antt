-- What a visit came to, by how its pull ended.
use Rattle.std.proofs.Common.{◌≡◌, ◌⊎◌, inl, inr, ℕ, zero, suc, ◌<◌, Bool, false, List, Result, Ok, Err, IfErr, IfOk, arith, refl, subst, sym}
use Rattle.bayou_net.specs.Lent.{node_ways}
use Rattle.bayou_node.specs.Books.{Begun}
use Rattle.bayou_peer.specs.Pulls.{PullEnds}
use Rattle.bayou_peer.specs.declared.pulling.PullStopped.{PullStopped}
use Rattle.bayou_peer.specs.declared.pulling.Pulled.{Pulled as Counts}
use Rattle.bayou_serve.specs.Visits.{VisitEnds, tells_loss}
use Rattle.bayou_serve.specs.declared.visit.VisitOutcome.{VisitOutcome}
use Rattle.bayou_serve.specs.declared.visit.Visit.{Visit}
use Rattle.bayou_serve.specs.declared.visit.Visit.TheVariants.{Pulled, Failed}

none_or_some : (count : ℕ) → (count ≡ 0) ⊎ (0 < count)
none_or_some zero = inl refl
none_or_some (suc count) = inr (omega arith)

-- by what the outcome is to be
ends_so : (begun : Begun) (read : List ℕ) (is_end : Type 0) (outcome : VisitOutcome) (visit : Visit) → outcome.visit ≡ visit → VisitEnds begun read is_end visit outcome.has_lost
    → VisitEnds begun read is_end outcome.visit outcome.has_lost
ends_so begun read is_end outcome visit is ends = subst (λ (v : Visit). VisitEnds begun read is_end v outcome.has_lost) (sym is) ends

pub visit_ends : (begun : Begun) (read : List ℕ) (is_end : Type 0) (ended : Result Counts PullStopped) (outcome : VisitOutcome) → PullEnds (node_ways begun) tt tt read is_end ended
    → IfOk ended (λ pulled. (outcome.visit ≡ Pulled pulled) × (outcome.has_lost ≡ false))
    → IfErr ended (λ stopped. 0 < stopped.before.taken → outcome.visit ≡ Pulled stopped.before)
    → IfErr ended (λ stopped. stopped.before.taken ≡ 0 → outcome.visit ≡ Failed stopped.fault)
    → IfErr ended (λ stopped. outcome.has_lost ≡ tells_loss begun.server stopped)
    → VisitEnds begun read is_end outcome.visit outcome.has_lost
visit_ends begun read is_end (Ok pulled) outcome ends whole some none lost = ends_so begun read is_end outcome (Pulled pulled) whole.0 (inl (ends, whole.1))
visit_ends begun read is_end (Err stopped) outcome ends whole some none lost = by (none_or_some stopped.before.taken)
  where
    by : (stopped.before.taken ≡ 0) ⊎ (0 < stopped.before.taken) → VisitEnds begun read is_end outcome.visit outcome.has_lost
    by (inl is) = ends_so begun read is_end outcome (Failed stopped.fault) (none is) (stopped, refl, is, ends, lost)
    by (inr above) = ends_so begun read is_end outcome (Pulled stopped.before) (some above) (inr (stopped, refl, above, ends, lost))
