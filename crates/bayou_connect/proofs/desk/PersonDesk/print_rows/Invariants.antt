-- the rows that are left are printed behind those that were
use Rattle.std.proofs.Common.{◌≡◌, drop}
use Rattle.bayou_connect.specs.Finals.{keeps_finals, outlook_of}
use Rattle.bayou_connect.specs.Listing.{PrintsRows}
use Rattle.bayou_streams.specs.Account.{Account, account}
use Rattle.bayou_connect.proofs.desk.PersonDesk.print_rows.Given as goal

abbrev pub invariant-loop-row : goal.invariant-loop-row
invariant-loop-row g l = record {
  same : l.self ≡ l.fn.self;
  left : (after : Account)
      → PrintsRows l.fn.self.is_json (keeps_finals (outlook_of l.fn.self.store.views)) l.beyond (drop l.row-index l.row-items) (account g.W.Write.contents l.output) after
      → PrintsRows l.fn.self.is_json (keeps_finals (outlook_of l.fn.self.store.views)) l.beyond l.row-items (account g.W.Write.contents l.fn.output) after;
}
