use Rattle.std.proofs.Common.{◌≡◌, ◌<◌, length, Some, ap, sym, ◌∙◌, subst, arith}
use Rattle.std.specs.List.{slice_get}
use Rattle.std.proofs.lemmas.Option.{slice_get-get_or}
use Rattle.bayou_judge.specs.Inner.Needs.{IndexedEvidence, IsChecked}
use Rattle.bayou_judge.proofs.Served.{known_server, served_entry}
use Rattle.bayou_judge.proofs.evidence.Evidence.entry.Goals as goal

pub returns-clause-served : goal.returns-clause-served
returns-clause-served c =
    let self = c.args.self.now in
    let entry = c.index-entries-at.result in
    let checked = subst (λ (e : IndexedEvidence). IsChecked e.count e.entries e.dumps e.indexes) c.self.view_is c.self.invariant in
    let within : c.args.at < length c.self.inside.entries.now = subst (λ (e : IndexedEvidence). c.args.at < length e.entries) (sym c.self.view_is) c.requires in
    let got : slice_get self.entries c.args.at ≡ Some entry = subst (λ (e : IndexedEvidence). slice_get e.entries c.args.at ≡ Some entry) c.self.view_is
    (slice_get-get_or c.self.inside.entries.now c.args.at entry within ∙ ap Some (sym c.index-entries-at.is)) in
    served_entry self.count self.entries self.dumps self.indexes checked c.args.at entry got

pub returns-clause-home : goal.returns-clause-home
returns-clause-home c =
    let self = c.args.self.now in
    let entry = c.index-entries-at.result in
    let checked = subst (λ (e : IndexedEvidence). IsChecked e.count e.entries e.dumps e.indexes) c.self.view_is c.self.invariant in
    let within : c.args.at < length c.self.inside.entries.now = subst (λ (e : IndexedEvidence). c.args.at < length e.entries) (sym c.self.view_is) c.requires in
    let got : slice_get self.entries c.args.at ≡ Some entry = subst (λ (e : IndexedEvidence). slice_get e.entries c.args.at ≡ Some entry) c.self.view_is
    (slice_get-get_or c.self.inside.entries.now c.args.at entry within ∙ ap Some (sym c.index-entries-at.is)) in
    let known = known_server self.count self.entries self.dumps self.indexes checked c.args.at entry got in
    omega (arith, known, checked.sized)
