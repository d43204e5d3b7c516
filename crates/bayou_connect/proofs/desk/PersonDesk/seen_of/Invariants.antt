-- each row so far
use Rattle.std.proofs.Common.{◌≡◌, map, take}
use Rattle.bayou_connect.specs.Finals.{keeps_finals, outlook_of}
use Rattle.bayou_connect.specs.Seeing.{seen_row}
use Rattle.bayou_connect.proofs.desk.PersonDesk.seen_of.Given as goal

abbrev pub invariant-loop-row : goal.invariant-loop-row
invariant-loop-row l = l.seen.items ≡ map (seen_row (keeps_finals (outlook_of l.self.store.views)) l.beyond) (take l.row-index l.rows)
