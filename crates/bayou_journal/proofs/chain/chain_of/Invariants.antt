use Rattle.std.proofs.Common.{length}
use Rattle.bayou_journal.specs.Inner.Reads.{IsRead}
use Rattle.bayou_journal.proofs.chain.chain_of.Given as goal

abbrev pub invariant-loop-first : goal.invariant-loop-first
invariant-loop-first l = IsRead l.version l.fn.server.index l.bytes l.places.items l.now l.last l.rest

abbrev pub decreases-loop-first : goal.decreases-loop-first
decreases-loop-first l = length l.rest
