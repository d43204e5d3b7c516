use Rattle.std.proofs.Common.{rules, ◌∙◌}
use Rattle.bayou_audit.proofs.Exact.{has_room}
use Rattle.bayou_audit.proofs.book.Book.file.Goals as goal

-- src/book.rt:151:9
pub count-requires-clause-fits : goal.count-requires-clause-fits
count-requires-clause-fits g c κs within =
    (has_room c.args.self.now c.self.inside.shares c.self.inside.capacity c.self.inside.entries.items c.self.inside.totals
    c.void.ensures.exact.0 c.void.ensures.was_out (search rules) (c.self.view_is ∙ c.void.ensures.voided.0)).0

-- src/book.rt:142:5
pub returns-clause-filed : goal.returns-clause-filed
returns-clause-filed g c = search rules
