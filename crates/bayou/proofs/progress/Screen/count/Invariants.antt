-- the line feeds so far are counted
use Rattle.std.proofs.Common.{◌≡◌, take}
use Rattle.bayou_streams.specs.Lines.{counted, line_feeds}
use Rattle.bayou.proofs.progress.Screen.count.Given as goal

abbrev pub invariant-loop-byte : goal.invariant-loop-byte
invariant-loop-byte g l = l.self ≡ record l.fn.self { printed = counted l.fn.self.printed (line_feeds (take l.byte-index l.text)) }
