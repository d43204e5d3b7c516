use Rattle.std.proofs.Common.{ap, sym, ◌∙◌}
use Rattle.bayou_lang.specs.Database.{value_at}
use Rattle.bayou_log.specs.Db.{database_of}
use Rattle.bayou_log.proofs.Slots.{database_of-slot_at, value_in}
use Rattle.bayou_log.proofs.db.Db.get.Goals as goal

pub returns-in-Some : goal.returns-in-Some
returns-in-Some c =
    c.copy_of.ensures ∙ ap value_in c.in-Some.ensures.value ∙ sym (database_of-slot_at c.self.inside.slots.entries c.args.key.now)
    ∙ ap (λ slots. value_at (database_of slots) c.args.key.now) c.self.view_is

pub returns-in-None : goal.returns-in-None
returns-in-None c =
    ap value_in c.in-None.ensures.value ∙ sym (database_of-slot_at c.self.inside.slots.entries c.args.key.now)
    ∙ ap (λ slots. value_at (database_of slots) c.args.key.now) c.self.view_is
