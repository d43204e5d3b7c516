use Rattle.std.proofs.Common.{◌∷◌, codes, subst, sym}
use Rattle.std.specs.Prelude.{MatchResult}
use Rattle.bayou_person.specs.Wishes.{Faults, Says}
use Rattle.bayou_person.proofs.Telling.{two_words}
use Rattle.bayou_person.proofs.reading.add_in.Goals as goal

pub returns-in-len2 : goal.returns-in-len2
returns-in-len2 c =
    subst (λ words. MatchResult c.add_of.result (Says (codes "add" ∷ words)) (Faults (codes "add" ∷ words)))
    (sym (two_words c.args.behind.now _ c.in-len2.len_at_least c.in-len2.len_below)) c.add_of.ensures
