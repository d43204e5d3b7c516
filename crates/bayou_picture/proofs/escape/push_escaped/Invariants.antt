-- the bytes so far stand escaped
use Rattle.std.proofs.Common.{◌≡◌, ◌++◌, take}
use Rattle.bayou_picture.specs.Escape.{escaped}
use Rattle.bayou_picture.proofs.escape.push_escaped.Given as goal

abbrev pub invariant-loop-byte : goal.invariant-loop-byte
invariant-loop-byte l = l.text.items ≡ l.fn.text.items ++ escaped (take l.byte-index l.bytes)
