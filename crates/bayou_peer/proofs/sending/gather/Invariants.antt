-- the Items of the Writes so far
use Rattle.std.proofs.Common.{◌≡◌, take}
use Rattle.std.specs.List.{AllByRecursion}
use Rattle.bayou_lang.specs.Ranges.{IsWrite}
use Rattle.bayou_frames.specs.Spelled.{item_bytes}
use Rattle.bayou_peer.proofs.sending.gather.Given as goal

abbrev pub invariant-loop-write : goal.invariant-loop-write
invariant-loop-write l = record {
  spelled : l.text.items ≡ item_bytes (take l.write-index l.batch);
  each : AllByRecursion IsWrite (take l.write-index l.batch);
}
