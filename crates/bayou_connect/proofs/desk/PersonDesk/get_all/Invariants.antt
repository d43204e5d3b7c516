-- what is told of the keys that are left is what is told of all of them
use Rattle.std.proofs.Common.{drop}
use Rattle.bayou_connect.specs.Wishing.{GetsKeys}
use Rattle.bayou_connect.specs.declared.desk.PersonDesk.{PersonDesk}
use Rattle.bayou_streams.specs.Account.{Account, account}
use Rattle.bayou_connect.proofs.desk.PersonDesk.get_all.Given as goal

abbrev pub invariant-loop-key : goal.invariant-loop-key
invariant-loop-key g l = (new : PersonDesk) (after : Account) → GetsKeys (drop l.key-index l.keys) l.self new (account g.W.Write.contents l.output) after
    → GetsKeys l.keys l.fn.self new (account g.W.Write.contents l.fn.output) after
