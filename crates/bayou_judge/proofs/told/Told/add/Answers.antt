use Rattle.std.proofs.Common.{◌≡◌, ◌+◌, ◌-◌, ◌<◌, ◌≤◌, ◌++◌, Bool, true, false, List, length, replicate, set, take, ap, sym, ◌∙◌, subst, arith}
use Rattle.std.proofs.lemmas.List.{length-append, length-replicate, take_all}
use Rattle.bayou_base.specs.declared.limits.TheConstants.{SERVERS}
use Rattle.bayou_judge.specs.declared.told.Told.TheInside.{Inside}
use Rattle.bayou_judge.specs.Inner.Heard.{told_in}
use Rattle.bayou_judge.proofs.EntriesHeard.{told_in-longer, told_in-set}
use Rattle.bayou_judge.proofs.told.Told.add.Goals as goal
use Rattle.bayou_judge.proofs.told.Told.add.Goals.{then-len-place+in_ok-resize, else-len-place}

pub returns-clause-others : goal.returns-clause-others
returns-clause-others c server seq some other =
    let place = c.args.wid.seq - 1 in
    let old = c.self.inside.rows.items in
    let row = c.index.result.now in
    let at : c.from.result ≡ c.args.wid.origin.index = c.from.ensures in
    let Ready : List (List Bool) → Type 0 = λ rows. (place < length rows) × (told_in rows server seq ≡ told_in old server seq) in
    let ready : Ready c.if-len-place.self-inside.rows.items =
    elim c.if-len-place.branch as (λ _. Ready c.if-len-place.self-inside.rows.items) [
      | then-len-place+in_ok-resize w ↦
          let items : c.if-len-place.self-inside.rows.items ≡ take (place + 1) old ++ replicate (place + 1 - length old) (replicate SERVERS false) =
          ap (λ (inside : Inside). inside.rows.items) w.self-inside-is ∙ w.in_ok-resize.ensures.items ∙ ap (λ n. take (place + 1) old ++ replicate (place + 1 - n) (replicate SERVERS false)) c.self.inside.rows.ok.0 in
          let short : length old ≤ place + 1 = omega (arith, w.if-len-place.true, c.len.ensures, c.self.inside.rows.ok.0) in (
            subst (λ rows. place < length rows) (sym items)
                (omega (arith, length-append (take (place + 1) old) (replicate (place + 1 - length old) (replicate SERVERS false)), length-replicate (place + 1 - length old) (replicate SERVERS false), ap length (take_all (place + 1) old short), short)),
            ap (λ rows. told_in rows server seq) items ∙ told_in-longer old (place + 1) server seq short,
          )
      | else-len-place w ↦
          let items : c.if-len-place.self-inside.rows.items ≡ old = ap (λ (inside : Inside). inside.rows.items) w.self-inside-is in (
            subst (λ rows. place < length rows) (sym items) (omega (arith, w.if-len-place.false, c.len.ensures, c.self.inside.rows.ok.0)),
            ap (λ rows. told_in rows server seq) items,
          )
    ] in
    let changed = told_in-set c.if-len-place.self-inside.rows.items place c.args.wid.origin.index row c.index.ensures ready.0 server seq some (λ e same. other e (omega (arith, same, c.args.wid.in_range.0))) in
    ap (λ k. told_in (set c.if-len-place.self-inside.rows.items place (set row k true)) server seq) at ∙ changed ∙ ready.1
    ∙ ap (λ rows. told_in rows server seq) c.self.view_is
