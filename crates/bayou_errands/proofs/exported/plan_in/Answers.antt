use Rattle.std.proofs.Common.{ap, length}
use Rattle.bayou_errands.proofs.Wanted.{wanted_of}
use Rattle.bayou_errands.proofs.exported.plan_in.Goals as goal

pub returns : goal.returns
returns c =
    let words = c.args.exporting.now in
    wanted_of words.servers.items (length c.as_slice.result.now) words.count words.key words.folder words.id words.prefix c.new.result (ap length c.as_slice.ensures.value) c.new.ensures
