-- what is done with the servers that are left is what is done with all of them
use Rattle.std.proofs.Common.{drop}
use Rattle.bayou_connect.specs.Wishing.{DumpServers}
use Rattle.bayou_connect.specs.declared.desk.PersonDesk.{PersonDesk}
use Rattle.bayou_streams.specs.Account.{Account, account}
use Rattle.bayou_connect.proofs.desk.PersonDesk.dump_servers.Given as goal

abbrev pub invariant-loop-server : goal.invariant-loop-server
invariant-loop-server g l = (new : PersonDesk) (after : Account) → DumpServers (drop l.server-index l.server-items) l.self new (account g.W.Write.contents l.output) after
    → DumpServers l.server-items l.fn.self new (account g.W.Write.contents l.fn.output) after
