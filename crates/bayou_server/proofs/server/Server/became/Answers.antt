use Rattle.std.proofs.Common.{◌≡◌, ◌-◌, ◌∙◌, List, ap, arith, length, subst, take}
use Rattle.std.proofs.lemmas.List.{take_all}
use Rattle.bayou_base.specs.Vector.{Dominates}
use Rattle.bayou_lang.specs.declared.write.Write.{Write}
use Rattle.bayou_lang.specs.Writes.{count_of}
use Rattle.bayou_log.specs.Listing.{TellsOf, listing_of}
use Rattle.bayou_log.specs.Log.{applied}
use Rattle.bayou_server.proofs.server.Server.became.Goals as goal

-- no Write waits, so the listing is of all that are held
pub returns : goal.returns
returns g c =
    let log = c.self.inside.holding.log in
    let receipts : List Write = log.receipts in
    let same : receipts ≡ c.args.self.now.core.held = ap (λ s. s.core.held) c.self.view_is in
    let whole : applied log ≡ receipts = ap (λ n. take (length receipts - n) receipts) c.self.invariant.1 ∙ take_all (length receipts - 0) receipts (omega arith) in
    let counted : c.vector-vector.result ≡ count_of c.args.self.now.core.held = c.vector-vector.ensures.value ∙ ap count_of same in
    record {
      covered = subst (λ (counts : List _). Dominates counts c.args.need.now) counted (c.dominates.ensures.counts.0 c.if-not-dominates.false);
      listed = subst (λ (writes : List Write). TellsOf (listing_of writes) c.args.wid c.outcome_of-listed.result) (whole ∙ same) c.outcome_of-listed.ensures;
      vector = counted;
    }
