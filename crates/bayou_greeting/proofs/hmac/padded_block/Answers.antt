use Rattle.std.proofs.Common.{◌++◌, ap}
use Rattle.std.proofs.lemmas.List.{drop-replicate}
use Rattle.bayou_greeting.specs.declared.hmac.TheConstants.{BLOCK_BYTES}
use Rattle.bayou_greeting.proofs.hmac.padded_block.Goals as goal

pub returns : goal.returns
returns c = rw c.copy_from_slice.ensures.after (ap (λ zeros. c.args.key.now ++ zeros) (drop-replicate _ BLOCK_BYTES 0))
