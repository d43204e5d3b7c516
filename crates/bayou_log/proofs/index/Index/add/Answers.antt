use Rattle.std.proofs.Common.{◌∙◌, [], ◌∷◌, ◌++◌, ap, arith}
use Rattle.bayou_log.specs.Inner.Index.{Rows, places_of}
use Rattle.bayou_log.proofs.Rooms.{other_places, own_places}
use Rattle.bayou_log.proofs.index.Index.add.Goals as goal

pub returns-clause-own : goal.returns-clause-own
returns-clause-own c =
    let number = c.self.invariant.0 in
    own_places c.self.inside.places c.from.result c.args.wid.origin.index c.push_reserved.new.self c.index-self-from.result c.args.place c.from.ensures
    (omega (arith, number, c.from.ensures, c.args.wid.origin.in_range)) c.push_reserved.ensures.items
    ∙ ap (λ (rows : Rows). places_of rows.rows c.args.wid.origin.index ++ c.args.place ∷ []) c.self.view_is

pub returns-clause-others : goal.returns-clause-others
returns-clause-others c = λ server other.
    other_places c.self.inside.places c.from.result server c.push_reserved.new.self (λ same. other (same ∙ c.from.ensures))
    ∙ ap (λ (rows : Rows). places_of rows.rows server) c.self.view_is
