use Rattle.std.proofs.Common.{rules, ◌≡◌, ◌+◌, ◌∙◌, [], ◌∷◌, ◌++◌, length, ap, sym, subst}
use Rattle.std.proofs.lemmas.List.{length_push}
use Rattle.std.proofs.lemmas.Result.{err_from_is_err_and}
use Rattle.bayou_script.specs.Inner.Taking.{FaultAt}
use Rattle.bayou_script.specs.Order.{InOrderBy}
use Rattle.bayou_script.proofs.Cut.{Cuts, Cuts-end, refused_ended}
use Rattle.bayou_script.proofs.text.TextReader.end_line.Goals as goal

pub returns-in_err-add_line : goal.returns-in_err-add_line
returns-in_err-add_line g c bytes read =
    let p = err_from_is_err_and c.from_residual.result c.from_residual.ensures.1 in
    let order = g.F.Front.order in
    let line = c.args.self.now.line.items in
    let same : c.as_slice.result.now ≡ line = c.as_slice.ensures.value in
    let fault = c.in_err-add_line.ensures read.ended read.front read.number read.in_order read.kept in
    let has : FaultAt order (length read.ended + 1) read.front line c.in_err-add_line.field-0.0 =
    subst (λ l. FaultAt order (length read.ended + 1) read.front l c.in_err-add_line.field-0.0) same
    (subst (λ n. FaultAt order n read.front c.as_slice.result.now c.in_err-add_line.field-0.0) read.number fault) in
    rw (p.1, p.2) (refused_ended order bytes read.ended line read.front c.in_err-add_line.field-0.0 read.cut read.in_order has)

pub returns : goal.returns
returns g c bytes read =
    let line = c.args.self.now.line.items in
    let same : c.as_slice.result.now ≡ line = c.as_slice.ensures.value in
    let (after, in_order, draft) = c.in_ok-add_line.ensures read.ended read.front read.number read.in_order read.kept in
    let next : c.in-Some.next ≡ c.args.self.now.number + 1 = search rules in
    record {
      ended = read.ended ++ line ∷ [];
      front = after;
      cut = subst (Cuts (bytes ++ 10 ∷ []) (read.ended ++ line ∷ [])) (sym c.clear.ensures.items) (Cuts-end bytes read.ended line read.cut);
      number = next ∙ ap (λ n. n + 1) (read.number ∙ sym (length_push read.ended line));
      in_order = subst (λ l. InOrderBy g.F.Front.order (read.ended ++ l ∷ []) after) same in_order;
      kept = draft;
    }
