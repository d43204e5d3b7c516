use Rattle.bayou_server.specs.Server.{record_in_doubt, records_of}
use Rattle.bayou_server.proofs.Honesty.{honest_of}
use Rattle.bayou_server.proofs.laws.an_honest_server_has_an_honest_device.Goals as goal

pub returns : goal.returns
returns g c = λ server was.
    honest_of g.D.Device c.an_append_leaves_an_honest_device.ensures.whole server.core.id (records_of server.core) (record_in_doubt server.core) server.last server.device was
