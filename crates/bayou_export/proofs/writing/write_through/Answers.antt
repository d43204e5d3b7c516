use Rattle.bayou_export.specs.Exports.{export_text}
use Rattle.bayou_export.proofs.Written.{all_written}
use Rattle.bayou_print.specs.Waiting.{stage}
use Rattle.bayou_streams.specs.Account.{account}
use Rattle.bayou_export.proofs.writing.write_through.Goals as goal

pub returns : goal.returns
returns g c =
    let now = stage g.W.Write.contents in
    all_written (export_text c.args.told c.args.export.now) c.write_lines-written.result c.end.result (now c.args.output.now c.args.waiting) (now c.write_lines-written.new.output c.write_lines-written.new.waiting)
    (account g.W.Write.contents c.end.new.output) c.requires.none c.write_lines-written.ensures.whole c.end.ensures.whole c.end.ensures.same
