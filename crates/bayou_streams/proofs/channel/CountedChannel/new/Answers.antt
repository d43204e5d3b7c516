use Rattle.std.proofs.Common.{rules}
use Rattle.bayou_streams.proofs.channel.CountedChannel.new.Goals as goal

pub returns-clause-left : goal.returns-clause-left
returns-clause-left g c = search rules
