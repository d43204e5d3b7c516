use Rattle.std.proofs.Common.{ap}
use Rattle.bayou_audit.specs.Totals.{Booked}
use Rattle.bayou_machine.proofs.script_book.ScriptBook.new.Goals as goal

pub invariant_of-result : goal.invariant_of-result
invariant_of-result g c = (
  ap (λ (book : Booked). book.totals.slips) c.in_ok-book.ensures.book,
  record {
    one_each = c.in_ok-book.ensures.shares.one_each;
    in_order = λ at share is. (c.in_ok-book.ensures.shares.in_order at share is).0;
  },
)
