use Rattle.std.proofs.Common.{◌∙◌, ℕ, List, [], ◌∷◌, ◌++◌, MatchResult, ap, sym, subst, append_assoc}
use Rattle.std.proofs.lemmas.Result.{err_from_is_err_and}
use Rattle.bayou_script.specs.Reading.{HasReadBy, IsRefusedSoFar}
use Rattle.bayou_script.proofs.Cut.{IsRefusedSoFar-more, regrouped}
use Rattle.bayou_script.proofs.text.TextReader.feed.Goals as goal

pub returns-in_err-take_line : goal.returns-in_err-take_line
returns-in_err-take_line g c bytes read =
    let p = err_from_is_err_and c.from_residual.result c.from_residual.ensures.1 in
    let order = g.F.Front.order in
    let line = c.in-Some.line.now in
    let behind = c.in-Some.behind.now in
    let refusal = c.in_err-take_line.field-0.0 in
    let (front, split, now) = c.loop-line.invariant bytes read in
    rw (p.1, p.2)
    (subst (λ l. IsRefusedSoFar order l refusal) (regrouped bytes front line behind c.loop-line.rest.now c.args.piece.now split c.in-Some.ensures.1)
    (IsRefusedSoFar-more order (((bytes ++ front) ++ line) ++ 10 ∷ []) behind refusal (c.in_err-take_line.ensures (bytes ++ front) now)))

pub loop-line-preserved : goal.loop-line-preserved
loop-line-preserved g c bytes read =
    let line = c.in-Some.line.now in
    let (front, split, now) = c.loop-line.invariant bytes read in
    let whole : List ℕ = line ++ 10 ∷ [] in (
      front ++ whole,
      split ∙ ap (λ l. front ++ l) c.in-Some.ensures.1 ∙ sym (append_assoc front whole c.in-Some.behind.now),
      subst (HasReadBy g.F.Front.order g.F.Front.keeps c.take_line.new.self)
          (append_assoc (bytes ++ front) line (10 ∷ []) ∙ append_assoc bytes front whole) (c.in_ok-take_line.ensures (bytes ++ front) now),
    )

pub returns : goal.returns
returns g c bytes read =
    let rest = c.loop-line.rest.now in
    let (front, split, now) = c.loop-line.invariant bytes read in
    subst (λ (l : List ℕ). MatchResult c.go_on.result (λ _. HasReadBy g.F.Front.order g.F.Front.keeps c.go_on.new.self l) (IsRefusedSoFar g.F.Front.order l))
    (append_assoc bytes front rest ∙ ap (λ l. bytes ++ l) (sym split)) (c.go_on.ensures (bytes ++ front) now)
