use Rattle.std.proofs.Common.{refl, ◌∙◌, arith}
use Rattle.bayou_audit.proofs.Shared.{new_shares-more}
use Rattle.bayou_audit.proofs.book.share_out.Goals as goal

-- src/book.rt:58:5
pub loop-index-preserved : goal.loop-index-preserved
loop-index-preserved g c =
    let was = c.loop-index.invariant in
    record {
      left = omega (arith, c.split_one.ensures.left.0, was.left);
      none = c.split_one.ensures.left.1;
      made = new_shares-more c.loop-index.index c.loop-index.made.items c.push_reserved.new.self.items _ was.made c.push_reserved.ensures.items refl c.split_one.ensures.one.1;
      number = omega (arith, c.push_reserved.ensures.len, was.number);
      room = c.push_reserved.ensures.capacity ∙ was.room;
    }
