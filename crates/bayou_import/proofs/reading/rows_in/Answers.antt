use Rattle.std.proofs.Common.{rules, ◌≡◌, ◌++◌, ◌∷◌, ◌∙◌, [], List, subst, sym}
use Rattle.std.proofs.lemmas.List.{append-nil}
use Rattle.bayou_log.specs.Rows.{Row}
use Rattle.bayou_import.proofs.Lines.{none_left, one_more}
use Rattle.bayou_import.specs.Rows.{SaysRow, SaysRows}
use Rattle.bayou_import.proofs.reading.rows_in.Goals as goal

pub loop-rest-preserved : goal.loop-rest-preserved
loop-rest-preserved c =
    let pushed : c.push.new.self.items ≡ c.loop-rest.rows.items ++ c.in-Some.row ∷ [] = rw c.if-is_err.ensures.negation at c.push.ensures.items in
    let says : SaysRow c.first_line.result.0.now c.in-Some.row = sym c.in_ok-row.ensures ∙ c.in-Some.is in (
      search rules,
      one_more c.args.text.now c.loop-rest.rest.now c.first_line.result.0.now c.first_line.result.1.now c.loop-rest.rows.items c.push.new.self.items c.in-Some.row c.loop-rest.invariant.1
          c.first_line.ensures says pushed,
    )

pub returns : goal.returns
returns c =
    let none : c.loop-rest.rest.now ≡ [] = none_left c.loop-rest.rest.now c.is_empty.result c.is_empty.ensures c.loop-rest-test.false in
    subst (λ (rows : List Row). SaysRows c.args.text.now rows) (append-nil c.loop-rest.rows.items) (c.loop-rest.invariant.1 [] none)
