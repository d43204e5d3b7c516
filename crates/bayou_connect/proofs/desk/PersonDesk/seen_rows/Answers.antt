use Rattle.std.proofs.Common.{◌≡◌, refl, rules}
use Rattle.bayou_connect.proofs.desk.PersonDesk.seen_rows.Goals as goal

pub returns-clause-seen : goal.returns-clause-seen
returns-clause-seen g c = record {
  rows = c.in-Ok.rows;
  beyond = c.in_ok-beyond.beyond;
  listed = search rules;
  each = search rules;
  vector = refl;
  mixed = refl;
}
