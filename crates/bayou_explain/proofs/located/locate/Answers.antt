use Rattle.std.proofs.Common.{All, List, ℕ, subst, sym}
use Rattle.std.specs.Borrow.{Bor}
use Rattle.bayou_explain.specs.Located.{StandsIn, bytes_of}
use Rattle.bayou_explain.proofs.located.locate.Goals as goal

pub loop-at-preserved : goal.loop-at-preserved
loop-at-preserved c =
    subst (λ (ls : List (Bor (List ℕ))). All (StandsIn (bytes_of ls)) c.add.new.list.items) c.deref.ensures.value
    (c.in_ok-add.ensures (subst (λ (ls : List (Bor (List ℕ))). All (StandsIn (bytes_of ls)) c.loop-at.list.items) (sym c.deref.ensures.value) c.loop-at.invariant))
