use Rattle.std.proofs.Common.{None, Some, ap, sym, ◌∙◌}
use Rattle.bayou_base.specs.declared.value.Value.TheVariants.{Num}
use Rattle.bayou_lang.specs.Database.{changed}
use Rattle.bayou_log.specs.declared.present.TheConstants.{NOTED}
use Rattle.bayou_log.specs.Db.{database_of}
use Rattle.bayou_log.proofs.Slots.{database_of-removed, database_of-set}
use Rattle.bayou_log.proofs.present.note.Goals as goal

pub returns-in_ok-insert : goal.returns-in_ok-insert
returns-in_ok-insert c = record {
  value = Some (Num NOTED);
  told = sym c.if-is_there.true;
  made = database_of-set c.args.keys.now.entries c.insert.new.self.entries c.copy.result (Some (Num NOTED)) c.in_ok-insert.ensures.updates.0
      ∙ ap (λ key. changed key (Some (Num NOTED)) (database_of c.args.keys.now.entries)) c.copy.ensures;
}

pub returns-else-is_there : goal.returns-else-is_there
returns-else-is_there c = record {
  value = None;
  told = sym c.if-is_there.false;
  made = database_of-removed c.args.keys.now.entries c.remove.new.self.entries c.args.key.now c.remove.ensures.updates.0;
}
