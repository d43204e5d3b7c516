use Rattle.std.proofs.Common.{◌≡◌, ◌+◌, ◌∙◌, ◌∷◌, ◌++◌, [], length, ap, sym, subst}
use Rattle.std.proofs.lemmas.Result.{err_from_is_err_and}
use Rattle.bayou_script.specs.Inner.Taking.{FaultAt}
use Rattle.bayou_script.specs.Order.{InOrderBy}
use Rattle.bayou_script.proofs.Cut.{Cuts-all, refused_last}
use Rattle.bayou_script.proofs.text.TextReader.end.Goals as goal

pub returns-in_err-add_line : goal.returns-in_err-add_line
returns-in_err-add_line g c bytes read =
    let p = err_from_is_err_and c.from_residual.result c.from_residual.ensures.1 in
    let order = g.F.Front.order in
    let line = c.args.self.line.items in
    let same : c.as_slice.result.now ≡ line = c.as_slice.ensures.value in
    let fault = c.in_err-add_line.ensures read.ended read.front read.number read.in_order read.kept in
    let has : FaultAt order (length read.ended + 1) read.front line c.in_err-add_line.field-0.0 =
    subst (λ l. FaultAt order (length read.ended + 1) read.front l c.in_err-add_line.field-0.0) same
    (subst (λ n. FaultAt order n read.front c.as_slice.result.now c.in_err-add_line.field-0.0) read.number fault) in
    rw (p.1, p.2) (refused_last order bytes read.ended line read.front c.in_err-add_line.field-0.0 read.cut read.in_order has)

pub returns : goal.returns
returns g c bytes read =
    let line = c.args.self.line.items in
    let same : c.as_slice.result.now ≡ line = c.as_slice.ensures.value in
    let (after, in_order, draft) = c.in_ok-add_line.ensures read.ended read.front read.number read.in_order read.kept in
    (after, subst (λ l. InOrderBy g.F.Front.order l after) (ap (λ l. read.ended ++ l ∷ []) same ∙ sym (Cuts-all bytes read.ended line read.cut)) in_order, draft)
