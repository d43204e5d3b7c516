-- What an entry fails that names a Write.
use Rattle.std.proofs.Common.{◌≡◌, ℕ, List, Option, None, Some, MatchOption, subst, sym}
use Rattle.bayou_base.specs.declared.entry.Entry.{Entry}
use Rattle.bayou_base.specs.declared.entry.What.{What}
use Rattle.bayou_base.specs.declared.entry.What.TheVariants as whats
use Rattle.bayou_base.specs.declared.stamp.Stamp.{Stamp}
use Rattle.bayou_base.specs.declared.wid.Wid.{Wid}
use Rattle.bayou_explain.specs.Explained.{IsFound}
use Rattle.bayou_explain.specs.Refused.{AsksOther, IsBlameless, IsCause, IsCauseOf, IsNotBelow, IsSound}
use Rattle.bayou_explain.specs.declared.line.Located.{Located}
use Rattle.bayou_explain.specs.declared.refused.Cause.{Cause}
use Rattle.bayou_explain.specs.declared.refused.Cause.TheVariants as cause

pub of_write : (before lines : List Located) (told : Entry) (wid : Wid) (stamp : Stamp) (deps : List ℕ) (found : Option Cause) → told.what ≡ whats.Write wid stamp deps
    → IsFound before (IsNotBelow told.session.index told.place) None → IsFound before (AsksOther told.session.index told.asks) None
    → MatchOption found (IsSound before lines told.server (whats.Write wid stamp deps)) (IsCauseOf before lines told.server (whats.Write wid stamp deps))
    → MatchOption found (IsBlameless before lines told) (IsCause before lines told)
of_write before lines told wid stamp deps None is below asks sound = (below, asks, subst (λ (what : What). IsSound before lines told.server what) (sym is) sound)
of_write before lines told wid stamp deps (Some (cause.Place shown)) is below asks why = absurd why
of_write before lines told wid stamp deps (Some (cause.Asks shown)) is below asks why = absurd why
of_write before lines told wid stamp deps (Some cause.Origin) is below asks why =
    subst (λ (what : What). IsCauseOf before lines told.server what cause.Origin) (sym is) why
of_write before lines told wid stamp deps (Some (cause.Again shown)) is below asks why =
    subst (λ (what : What). IsCauseOf before lines told.server what (cause.Again shown)) (sym is) why
of_write before lines told wid stamp deps (Some cause.Lost) is below asks why =
    subst (λ (what : What). IsCauseOf before lines told.server what cause.Lost) (sym is) why
of_write before lines told wid stamp deps (Some (cause.Differs shown)) is below asks why =
    subst (λ (what : What). IsCauseOf before lines told.server what (cause.Differs shown)) (sym is) why
of_write before lines told wid stamp deps (Some cause.Database) is below asks why = absurd why
