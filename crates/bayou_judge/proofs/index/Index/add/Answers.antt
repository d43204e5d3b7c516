use Rattle.std.proofs.Common.{◌≡◌, ◌≢◌, ◌-◌, [], ◌∷◌, ◌++◌, length, ap, sym, ◌∙◌, subst, arith}
use Rattle.std.specs.List.{slice_get}
use Rattle.bayou_base.specs.Vector.{raised}
use Rattle.bayou_base.specs.declared.wid.Wid.{Wid}
use Rattle.bayou_lang.specs.Writes.{count_of}
use Rattle.bayou_judge.specs.Inner.Index.{later_of, places_of, Tables}
use Rattle.bayou_judge.proofs.Indexes.{IsIndexOf-push}
use Rattle.bayou_judge.proofs.index.Index.add.Goals as goal

pub returns : goal.returns
returns c count writes indexed fitting fits =
    let old = c.args.self.now in
    let write = c.args.write.now in
    let counted : c.vector-counts.result ≡ count_of writes = c.vector-counts.ensures writes indexed in
    let view : c.args.self.now.counts ≡ c.self.inside.counts.items = sym (ap (λ (tables : Tables). tables.counts) c.self.view_is) in
    let added = c.in_ok-add_place.ensures in
    let view_after : c.add_place.new.self.counts ≡ c.self-2.inside.counts.items = sym (ap (λ (tables : Tables). tables.counts) c.self-2.view_is) in
    let lasts_after : c.add_place.new.self.lasts ≡ c.self-2.inside.lasts.items = sym (ap (λ (tables : Tables). tables.lasts) c.self-2.view_is) in
    let counts : c.raise.new.self ≡ raised (count_of writes) write.wid = c.raise.ensures ∙ ap (raised c.vector-counts.result) c.wid.ensures ∙ ap (λ list. raised list write.wid) counted in
    let lasts : c.later_of-last.result ≡ later_of c.copied.result write.stamp = c.later_of-last.ensures ∙ ap (later_of c.copied.result) c.stamp.ensures in
    let place : c.len-place.result ≡ length writes = omega (arith, c.len-place.ensures, c.self.inside.counts.ok.0, ap (λ list. length list) view, indexed.as_many) in
    IsIndexOf-push count writes write old _ c.copied.result fitting fits indexed
    (c.in_ok-push-2.ensures.items ∙ ap (λ list. list ++ c.raise.new.self ∷ []) (sym view_after ∙ added.kept.0) ∙ ap (λ list. c.args.self.now.counts ++ list ∷ []) counts)
    (c.in_ok-push.ensures.items ∙ ap (λ list. list ++ c.later_of-last.result ∷ []) (sym lasts_after ∙ added.kept.1) ∙ ap (λ stamp. c.args.self.now.lasts ++ stamp ∷ []) lasts)
    (c.copied.ensures ∙ c.last.ensures.value ∙ ap (λ list. slice_get list (length list - 1)) (c.deref.ensures.value ∙ ap (λ (tables : Tables). tables.lasts) c.self.view_is))
    (ap (λ (tables : Tables). places_of tables.rows write.wid.origin.index) c.self-2.view_is
    ∙ subst (λ (wid : Wid). places_of c.add_place.new.self.rows wid.origin.index ≡ places_of c.args.self.now.rows wid.origin.index ++ c.len-place.result ∷ []) c.wid-2.ensures added.own
    ∙ ap (λ at. places_of c.args.self.now.rows write.wid.origin.index ++ at ∷ []) place)
    (λ server other. ap (λ (tables : Tables). places_of tables.rows server) c.self-2.view_is
    ∙ subst (λ (wid : Wid). server ≢ wid.origin.index → places_of c.add_place.new.self.rows server ≡ places_of c.args.self.now.rows server) c.wid-2.ensures (added.others server) other)
