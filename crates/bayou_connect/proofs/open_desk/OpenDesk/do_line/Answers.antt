use Rattle.std.proofs.Common.{◌≡◌, rules}
use Rattle.bayou_connect.proofs.open_desk.OpenDesk.do_line.Goals as goal

pub returns : goal.returns
returns g c = (c.in_ok-became.became, c.do_alone.new.desk, c.in_ok-became.ensures, search rules)
