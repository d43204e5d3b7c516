use Rattle.bayou_connect.proofs.Going.{does_alone}
use Rattle.bayou_streams.specs.Account.{account}
use Rattle.bayou_connect.proofs.open_desk.do_alone.Goals as goal

pub returns : goal.returns
returns g c =
    does_alone c.args.line.now c.do_line.result c.args.desk.now c.begin_anew.new.self c.do_line.new.desk (account g.W.Write.contents c.args.output.now) (account g.W.Write.contents c.do_line.new.output)
    c.begin_anew.ensures c.do_line.ensures
