use Rattle.std.proofs.Common.{inl, inr}
use Rattle.bayou_judge.proofs.needs.Need.join.Goals as goal

pub returns : goal.returns
returns c write (inl needed) = record {
  counted = (c.join.ensures.writes write.wid.origin.index write.wid.seq).1 (inl needed.counted);
  up_to = c.last_of.ensures write.stamp (inl needed.up_to);
}
returns c write (inr needed) = record {
  counted = (c.join.ensures.writes write.wid.origin.index write.wid.seq).1 (inr needed.counted);
  up_to = c.last_of.ensures write.stamp (inr needed.up_to);
}
