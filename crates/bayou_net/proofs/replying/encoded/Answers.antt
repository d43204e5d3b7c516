use Rattle.bayou_wire.specs.Laws.Frames.{spelling_of}
use Rattle.bayou_net.proofs.replying.encoded.Goals as goal

pub returns : goal.returns
returns c = spelling_of _ _ c.in_ok-text.ensures.spelling
