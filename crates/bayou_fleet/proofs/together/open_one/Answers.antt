use Rattle.std.proofs.Common.{arith, ◌∙◌, ap, insert}
use Rattle.bayou_fleet.specs.Opening.{IsOpened}
use Rattle.bayou_fleet.proofs.Putting.{opens_one}
use Rattle.bayou_fleet.proofs.together.open_one.Goals as goal

pub returns-clause-opened : goal.returns-clause-opened
returns-clause-opened g c =
    opens_one (IsOpened c.args.network.now.run c.args.opening.asks) c.args.sessions.items c.insert.new.self.items c.from-at.result c.args.opening.session.index c.remove-session.result c.in_ok-opened.opened
    c.from-at.ensures (omega arith) c.remove-session.ensures.value c.in_ok-opened.ensures
    (c.in_ok-insert.ensures.items ∙ ap (λ list. insert list c.from-at.result c.in_ok-opened.opened) c.remove-session.ensures.items)
