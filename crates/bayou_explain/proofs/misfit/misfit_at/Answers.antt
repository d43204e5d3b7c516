use Rattle.std.proofs.Common.{◌≡◌, ◌∙◌, ◌<◌, ℕ, List, Some, MatchOption, ap, arith, length, refl, subst, sym, take}
use Rattle.std.specs.List.{slice_get}
use Rattle.std.proofs.lemmas.Option.{slice_get_read}
use Rattle.bayou_judge.specs.Evidence.{IsGood}
use Rattle.bayou_judge.specs.History.{dump_of, lent_lists}
use Rattle.bayou_lang.specs.declared.write.Write.{Write}
use Rattle.bayou_explain.specs.Misfit.{IsMisfit}
use Rattle.bayou_explain.proofs.Placed.{placed}
use Rattle.bayou_explain.proofs.misfit.misfit_at.Goals as goal

pub returns : goal.returns
returns c =
    let dumps = lent_lists c.args.dumps.now in
    let server = c.args.server.index in
    let at = c.args.place in
    let dump = dump_of dumps server in
    let here = c.dump_at-dump.result.now in
    let write = c.index-dump-place.result in
    let is : here ≡ dump = c.dump_at-dump.ensures ∙ ap (dump_of dumps) c.from.ensures in
    let within : at < length here = omega (arith, c.if-place-dump.false) in
    let got : slice_get dump at ≡ Some write = subst (λ (ws : List Write). slice_get ws at ≡ Some write) is (slice_get_read here _ at write refl within c.index-dump-place.is) in
    let front : take at here ≡ take at dump = ap (take at) is in
    placed c.args.count dumps server at write c.misfit_among.result got
    (subst (λ (before : List Write). MatchOption c.misfit_among.result (IsGood c.args.count dumps server before write) (IsMisfit c.args.count dumps server before write)) front
    c.misfit_among.ensures)
