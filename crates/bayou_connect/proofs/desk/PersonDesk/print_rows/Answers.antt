use Rattle.std.proofs.Common.{arith, ◌+◌, ◌≤◌, List, ℕ, drop, get_or, length, rules, subst, sym}
use Rattle.bayou_connect.specs.Finals.{keeps_finals, outlook_of}
use Rattle.bayou_connect.specs.Listing.{PrintsRows, Row, row_told, standing_told}
use Rattle.bayou_connect.specs.declared.desk.PersonDesk.{PersonDesk}
use Rattle.bayou_connect.proofs.Claimed.{next_of, none_left, prints_none, prints_on}
use Rattle.bayou_connect.proofs.Going.{then_ok}
use Rattle.bayou_streams.specs.Account.{TakesBytes, account}
use Rattle.bayou_connect.proofs.desk.PersonDesk.print_rows.Goals as goal

pub loop-row-preserved : goal.loop-row-preserved
loop-row-preserved g c =
    let rows = c.deref-row-items.result.now in
    let is_json = c.args.self.now.is_json in
    let keeps = keeps_finals (outlook_of c.args.self.now.store.views) in
    let beyond = c.args.beyond.now in
    let before = account g.W.Write.contents c.loop-row.output in
    let line = account g.W.Write.contents c.print_row.new.output in
    let at = c.loop-row.row-index in
    let printed = subst (λ (desk : PersonDesk). TakesBytes before line (row_told desk.is_json (standing_told (keeps_finals (outlook_of desk.store.views)) beyond c.row-item.result.0) c.row-item.result)) c.loop-row.invariant.same c.in_ok-print_row.ensures.printed in
    record {
      same = search rules;
      left = λ after rest. c.loop-row.invariant.left after
          (subst (λ (rs : List Row). PrintsRows is_json keeps beyond rs before after) (sym (next_of rows at c.row-item.result c.loop-row-test.true))
          (prints_on is_json keeps beyond (get_or rows at c.row-item.result) (drop (at + 1) rows) before line after
          (subst (λ (row : Row). TakesBytes before line (row_told is_json (standing_told keeps beyond row.0) row)) c.row-item.is printed) rest));
    }

pub returns-clause-printed : goal.returns-clause-printed
returns-clause-printed g c =
    let rows = c.deref-row-items.result.now in
    let is_json = c.args.self.now.is_json in
    let keeps = keeps_finals (outlook_of c.args.self.now.store.views) in
    let line = account g.W.Write.contents c.loop-row.output in
    let over : length rows ≤ c.loop-row.row-index = omega (arith, c.loop-row-test.false) in
    let all = c.loop-row.invariant.left line (subst (λ (rs : List Row). PrintsRows is_json keeps c.args.beyond.now rs line line) (sym (none_left rows c.loop-row.row-index over)) (prints_none is_json keeps c.args.beyond.now line)) in
    then_ok c.print.result _ _ c.print.ensures (λ printed. record {
      line = line;
      each = subst (λ (rs : List Row). PrintsRows is_json keeps c.args.beyond.now rs (account g.W.Write.contents c.args.output.now) line) c.deref-row-items.ensures.value all;
      last = subst (λ (text : List ℕ). TakesBytes line (account g.W.Write.contents c.print.new.output) text) (search rules) printed;
    })
