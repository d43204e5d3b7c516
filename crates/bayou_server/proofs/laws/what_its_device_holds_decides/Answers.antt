use Rattle.bayou_server.specs.Server.{record_in_doubt, records_of}
use Rattle.bayou_server.proofs.Keeping.{same_left}
use Rattle.bayou_server.proofs.laws.what_its_device_holds_decides.Goals as goal

pub returns : goal.returns
returns g c = λ server other content kept left.
    same_left g.D.Device c.what_stands_behind_the_kept_decides.ensures.same server.core.id (records_of server.core) (record_in_doubt server.core) server.last server.device other content kept left
