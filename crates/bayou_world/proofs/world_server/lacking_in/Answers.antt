use Rattle.std.proofs.Common.{◌≡◌, [], arith, ap, sym, ◌∙◌, refl, subst, take}
use Rattle.std.proofs.lemmas.List.{take_all}
use Rattle.bayou_base.specs.Vector.{Dominates}
use Rattle.bayou_lang.specs.Writes.{count_of, lacking_of}
use Rattle.bayou_world.proofs.TiedItems.{none_lacking}
use Rattle.bayou_world.proofs.world_server.lacking_in.Goals as goal

pub returns-then-dominates-clause-value : goal.returns-then-dominates-clause-value
returns-then-dominates-clause-value c fitting =
    let core = c.args.server.now.core in
    let dominates : Dominates c.args.offered.now (count_of core.held) = subst (Dominates c.args.offered.now) c.vector.ensures (c.if-dominates.ensures.counts.0 refl) in
    let none : lacking_of c.args.offered.now core.held ≡ [] = none_lacking core.count core.held c.args.offered.now fitting dominates in
    c.new.ensures.items ∙ sym (ap (take core.limit) none ∙ take_all core.limit [] (omega arith))
