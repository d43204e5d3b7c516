use Rattle.std.specs.Global.{Vec}
use Rattle.std.proofs.Common.{◌≡◌, ℕ, ◌<◌, [], ap, sym, ◌∙◌, subst, arith, length, map, vec_items, vec_len}
use Rattle.bayou_log.specs.Inner.Index.{Rows, places_of}
use Rattle.std.proofs.lemmas.List.{get_or-map}
use Rattle.bayou_log.proofs.Rooms.{other_places, own_less, some_last}
use Rattle.bayou_log.proofs.index.Index.take_back.Goals as goal

pub returns-clause-own : goal.returns-clause-own
returns-clause-own c =
    let places = c.self.inside.places in
    let at = c.from.result in
    let row = c.index-self-from.result in
    let origin = c.args.wid.origin.index in
    let within : at < length places = omega (arith, c.self.invariant.0, c.from.ensures, c.args.wid.origin.in_range) in
    let here : places_of (map vec_items places) origin ≡ vec_items row =
    ap (places_of (map vec_items places)) (sym c.from.ensures) ∙ get_or-map vec_items places at row [] within ∙ ap vec_items (sym c.index-self-from.is) in
    let held : 0 < length (places_of (map vec_items places) origin) = subst (λ (rows : Rows). 0 < length (places_of rows.rows origin)) (sym c.self.view_is) c.requires in
    let some : 0 < vec_len row = omega (arith, row.ok.0, ap length here, held) in
    let last = some_last c.pop.result _ _ c.pop.ensures.items (c.pop.ensures.variant.1 (subst (λ (own : Vec ℕ). 0 < vec_len own) c.index-self-from.is some)) in
    (last.0, ap (λ (rows : Rows). places_of rows.rows origin) (sym c.self.view_is) ∙ own_less places at origin c.pop.new.self row last.0 c.from.ensures within last.1)

pub returns-clause-others : goal.returns-clause-others
returns-clause-others c = λ server other.
    other_places c.self.inside.places c.from.result server c.pop.new.self (λ same. other (same ∙ c.from.ensures))
    ∙ ap (λ (rows : Rows). places_of rows.rows server) c.self.view_is
