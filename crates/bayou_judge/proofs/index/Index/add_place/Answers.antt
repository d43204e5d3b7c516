use Rattle.std.proofs.Common.{◌∙◌, [], ◌∷◌, ◌++◌, ap, arith}
use Rattle.bayou_judge.specs.Inner.Index.{Tables, places_of}
use Rattle.bayou_judge.proofs.Indexes.{other_places, own_places}
use Rattle.bayou_judge.proofs.index.Index.add_place.Goals as goal

pub returns-clause-own : goal.returns-clause-own
returns-clause-own c =
    own_places c.self.inside.places c.from.result c.args.wid.origin.index c.push.new.self c.index-self-from.result c.args.place c.from.ensures
    (omega (arith, c.self.invariant, c.from.ensures, c.args.wid.origin.in_range)) c.in_ok-push.ensures.items
    ∙ ap (λ (tables : Tables). places_of tables.rows c.args.wid.origin.index ++ c.args.place ∷ []) c.self.view_is

pub returns-clause-others : goal.returns-clause-others
returns-clause-others c = λ server other.
    other_places c.self.inside.places c.from.result server c.push.new.self (λ same. other (same ∙ c.from.ensures))
    ∙ ap (λ (tables : Tables). places_of tables.rows server) c.self.view_is
