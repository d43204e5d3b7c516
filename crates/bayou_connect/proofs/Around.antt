-- What is done at all servers, one after another.
use Rattle.std.proofs.Common.{◌∷◌, [], List, refl}
use Rattle.bayou_base.specs.declared.server.ServerId.{ServerId}
use Rattle.bayou_connect.specs.Wishing.{DumpServers, DumpsServer, TellServers, TellsServer}
use Rattle.bayou_connect.specs.declared.desk.PersonDesk.{PersonDesk}
use Rattle.bayou_streams.specs.Account.{Account}

pub tells_none : (desk : PersonDesk) (account : Account) → TellServers [] desk desk account account
unfolding TellServers
tells_none desk account = (refl, refl)

pub tells_on : (server : ServerId) (servers : List ServerId) (old told new : PersonDesk) (before line after : Account) → TellsServer server old told before line → TellServers servers told new line after
    → TellServers (server ∷ servers) old new before after
unfolding TellServers
tells_on server servers old told new before line after one rest = (told, line, one, rest)

pub dumps_none : (desk : PersonDesk) (account : Account) → DumpServers [] desk desk account account
unfolding DumpServers
dumps_none desk account = (refl, refl)

pub dumps_on : (server : ServerId) (servers : List ServerId) (old told new : PersonDesk) (before line after : Account) → DumpsServer server old told before line → DumpServers servers told new line after
    → DumpServers (server ∷ servers) old new before after
unfolding DumpServers
dumps_on server servers old told new before line after one rest = (told, line, one, rest)
