use Rattle.std.proofs.Common.{take}
use Rattle.bayou_tags.specs.Tags.{IsGreatestRun}
use Rattle.bayou_tags.proofs.tags.greatest_run.Given as goal

abbrev pub invariant-loop-tag : goal.invariant-loop-tag
invariant-loop-tag l = IsGreatestRun (take l.tag-index l.tags) l.run
