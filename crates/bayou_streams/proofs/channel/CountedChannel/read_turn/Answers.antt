use Rattle.std.proofs.Common.{rules}
use Rattle.bayou_streams.proofs.channel.CountedChannel.read_turn.Goals as goal

pub returns-then-is_err-clause-left : goal.returns-then-is_err-clause-left
returns-then-is_err-clause-left g c = search rules
