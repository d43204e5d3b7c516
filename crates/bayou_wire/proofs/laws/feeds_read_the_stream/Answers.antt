use Rattle.bayou_wire.proofs.Feeding.{feeds_from_start}
use Rattle.bayou_wire.proofs.laws.feeds_read_the_stream.Goals as goal

pub returns : goal.returns
returns c pieces answers new feeds = feeds_from_start pieces answers new feeds
