use Rattle.std.proofs.Common.{◌∷◌, codes, subst, sym}
use Rattle.std.specs.Prelude.{MatchResult}
use Rattle.bayou_person.specs.Wishes.{Faults, Says}
use Rattle.bayou_person.proofs.Telling.{ends}
use Rattle.bayou_person.proofs.reading.claim_in.Goals as goal

pub returns-in-len2-up : goal.returns-in-len2-up
returns-in-len2-up c =
    subst (λ words. MatchResult c.claim_of.result (Says (codes "claim" ∷ words)) (Faults (codes "claim" ∷ words)))
    (sym (ends c.args.behind.now _ c.in-len2-up.len_at_least)) c.claim_of.ensures
