use Rattle.std.proofs.Common.{◌≡◌, ap}
use Rattle.bayou_audit.specs.Totals.{Booked, new_book}
use Rattle.bayou_base.specs.declared.limits.TheConstants.{SESSIONS}
use Rattle.bayou_world.proofs.world_book.WorldBook.new.Goals as goal

pub invariant_of-result : goal.invariant_of-result
invariant_of-result g c =
    let book : c.in_ok-book.book ≡ new_book SESSIONS c.args.capacity = c.in_ok-book.ensures.book in
    let shares = c.in_ok-book.ensures.shares in
    (ap (λ (b : Booked). b.totals.slips) book, record { one_each = shares.one_each; in_order = λ at share there. (shares.in_order at share there).0 })
