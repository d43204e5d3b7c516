-- What the log holds, with whatever is made of the rows that are left, is made of all. As long as some are left, each Write has as many as it may.
use Rattle.std.proofs.Common.{◌≡◌, ◌+◌, ◌*◌, ◌<◌, ◌++◌, [], List, length}
use Rattle.bayou_base.specs.declared.limits.TheConstants.{MAX_OPS, MAX_WRITES}
use Rattle.bayou_lang.specs.declared.write.Write.{Write}
use Rattle.bayou_renew.specs.Renewal.{AreMadeOf}
use Rattle.bayou_renew.proofs.writes.writes_of.Given as goal

abbrev pub invariant-loop-rest : goal.invariant-loop-rest
invariant-loop-rest l = record {
  made : (more : List Write) → AreMadeOf l.log.receipts l.rest more → AreMadeOf [] l.rows (l.log.receipts ++ more);
  number : 0 < length l.rest → length l.rest + MAX_OPS * length l.log.receipts ≡ length l.rows;
  count : l.log.count ≡ l.count;
  limit : l.log.limit ≡ MAX_WRITES;
}

abbrev pub decreases-loop-rest : goal.decreases-loop-rest
decreases-loop-rest l = length l.rest
