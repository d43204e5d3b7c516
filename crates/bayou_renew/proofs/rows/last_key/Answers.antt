use Rattle.std.proofs.Common.{◌-◌, length, refl, sym, take, ◌∙◌}
use Rattle.bayou_renew.proofs.Pages.{last_split}
use Rattle.bayou_renew.proofs.rows.last_key.Goals as goal

pub returns-in-Some-clause-some : goal.returns-in-Some-clause-some
returns-in-Some-clause-some c =
    let rows = c.args.rows.now in
    let row = c.in-Some.field-0.now in
    record {
      front = take (length rows - 1) rows;
      row = row;
      split = last_split rows row (sym c.in-Some.ensures.value);
      is = c.copy.ensures;
    }
