use Rattle.std.proofs.Common.{◌≡◌, ◌<◌, ◌≤◌, ◌-◌, Some, [], length, map, ap, sym, ◌∙◌, subst, true, arith, slice_index, vec_items}
use Rattle.std.proofs.lemmas.List.{get_or-map}
use Rattle.bayou_base.specs.Vector.{Covers}
use Rattle.bayou_lang.specs.Writes.{count_of}
use Rattle.bayou_judge.specs.Inner.Index.{places_of, IsPlaceOf, Tables}
use Rattle.bayou_judge.proofs.DumpsFound.{copied_there}
use Rattle.bayou_judge.proofs.Indexes.{none_of_wid, place_found}
use Rattle.bayou_judge.proofs.index.Index.place_of.Goals as goal

pub returns-then-not-covers : goal.returns-then-not-covers
returns-then-not-covers c count writes indexed fitting =
    none_of_wid count writes c.args.wid fitting
    (λ within.
    let counted : c.vector.result ≡ count_of writes = c.vector.ensures writes indexed in
    let is : c.covers.result ≡ true = c.covers.ensures.1 (subst (λ counts. Covers counts c.args.wid.origin.index c.args.wid.seq) (sym counted) within) in
    cc)

pub returns : goal.returns
returns c count writes indexed fitting =
    let counted : c.vector.result ≡ count_of writes = c.vector.ensures writes indexed in
    let within : c.args.wid.seq ≤ slice_index (count_of writes) c.args.wid.origin.index = subst (λ counts. Covers counts c.args.wid.origin.index c.args.wid.seq) counted (c.covers.ensures.0 c.if-not-covers.false) in
    let rows : map vec_items c.self.inside.places ≡ c.args.self.now.rows = ap (λ (tables : Tables). tables.rows) c.self.view_is in
    let there : c.from.result < length c.self.inside.places = omega (arith, c.self.invariant, c.from.ensures, c.args.wid.origin.in_range) in
    let own : c.deref.result.now ≡ places_of c.args.self.now.rows c.args.wid.origin.index =
    c.deref.ensures.value ∙ sym (get_or-map vec_items c.self.inside.places c.from.result c.index-self-from.result [] there)
    ∙ ap (λ list. places_of list c.from.result) rows ∙ ap (places_of c.args.self.now.rows) c.from.ensures in
    let seq_within : c.args.wid.seq - 1 < length c.deref.result.now = omega (arith, within, c.args.wid.in_range.0, indexed.reach c.args.wid.origin.index, ap length own) in
    let at = c.copied.ensures ∙ copied_there c.deref.result.now (c.args.wid.seq - 1) c.get.result c.get.ensures.lookup seq_within ∙ ap (λ list. Some (slice_index list (c.args.wid.seq - 1))) own in
    subst (IsPlaceOf writes c.args.wid) (sym at) (place_found count writes c.args.self.now c.args.wid fitting indexed within)
