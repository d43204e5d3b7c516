use Rattle.std.proofs.Common.{IsTrue, subst, sym}
use Rattle.bayou_lang.specs.declared.change.Change.{Change}
use Rattle.bayou_log.specs.Db.{room, has_room, HasRoomFor}
use Rattle.bayou_log.proofs.db.Db.apply.Goals as goal

pub replace_all-requires : goal.replace_all-requires
replace_all-requires c = λ (k : _) (change : Change) (below : _).
    let here : HasRoomFor (room c.self.inside.slots.entries) c.args.program.now =
    subst (λ slots. HasRoomFor (room slots) c.args.program.now) (sym c.self.view_is) c.requires in
    let among = c.eval-outcome.ensures.only.among k change below in
    subst (λ key. IsTrue (has_room (room c.self.inside.slots.entries) key)) among.2 (here among.0 _ among.1)
