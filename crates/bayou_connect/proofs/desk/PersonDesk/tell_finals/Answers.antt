use Rattle.std.proofs.Common.{rules}
use Rattle.bayou_connect.specs.Finals.{outlook_of}
use Rattle.bayou_connect.proofs.Owned.{tells_none}
use Rattle.bayou_streams.specs.Account.{account}
use Rattle.bayou_base.specs.declared.limits.TheConstants.{MAX_OWN_WRITES}
use Rattle.bayou_connect.proofs.desk.PersonDesk.tell_finals.Goals as goal

pub returns-then-is_none-clause-told : goal.returns-then-is_none-clause-told
returns-then-is_none-clause-told g c = (
  outlook_of c.args.self.now.store.views,
  tells_none MAX_OWN_WRITES 0 c.args.telling (outlook_of c.args.self.now.store.views) (account g.W.Write.contents c.args.output.now) (search rules),
)
