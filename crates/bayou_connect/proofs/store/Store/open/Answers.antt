use Rattle.std.proofs.Common.{arith, ◌∙◌, None}
use Rattle.std.proofs.lemmas.List.{get_or_read}
use Rattle.bayou_connect.proofs.Opening.{is_opened}
use Rattle.bayou_connect.proofs.store.Store.open.Goals as goal

pub returns-clause-opened : goal.returns-clause-opened
returns-clause-opened c =
    let sessions = c.args.self.now.sessions.items in
    is_opened c.args.who c.args.number c.args.run c.args.asks sessions c.from-at.result c.take-kept.result c.take-kept.new.self c.opened_from.result c.from-at.ensures
    (c.take-kept.ensures.value
    ∙ get_or_read sessions c.from-at.result c.index_mut.result.now (omega (arith, c.args.self.now.one_each, c.args.who.in_range, c.from-at.ensures)) c.index_mut.ensures.value None)
    c.opened_from.ensures
