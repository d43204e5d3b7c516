use Rattle.std.proofs.Common.{◌≡◌, [], All, IsTrue, Some, ap, sym, ◌∙◌, subst, length, arith, ◌<◌, true, false, refl}
use Rattle.std.proofs.lemmas.List.{nil_from_length}
use Rattle.std.proofs.lemmas.List.Elements.{All-pop}
use Rattle.bayou_lang.specs.declared.change.Change.{Change}
use Rattle.bayou_lang.specs.Changes.{after_changes}
use Rattle.bayou_log.specs.Db.{database_of, room, has_room}
use Rattle.bayou_log.proofs.Slots.{after_changes-push}
use Rattle.bayou_log.proofs.db.make_all.Goals as goal

pub replace-requires : goal.replace-requires
replace-requires c =
    (All-pop (λ change. IsTrue (has_room (room c.loop-change.slots.entries) change.key)) c.loop-change.changes.items c.pop.new.self.items (Some c.in-Some.change)
    c.in-Some.ensures.items c.loop-change.invariant.reached).1

pub loop-change-preserved : goal.loop-change-preserved
loop-change-preserved c =
    let Reached : Change → Type 0 = λ change. IsTrue (has_room (room c.loop-change.slots.entries) change.key) in
    let reached = (All-pop Reached c.loop-change.changes.items c.pop.new.self.items (Some c.in-Some.change) c.in-Some.ensures.items c.loop-change.invariant.reached).0 in
    let was = database_of c.loop-change.slots.entries in
    record {
      target = ap (after_changes c.pop.new.self.items) c.replace.ensures.database
          ∙ sym (after_changes-push c.pop.new.self.items c.in-Some.change was)
          ∙ sym (ap (λ changes. after_changes changes was) c.in-Some.ensures.items)
          ∙ c.loop-change.invariant.target;
      shows = λ shows. c.replace.ensures.present (c.loop-change.invariant.shows shows);
      same_room = c.replace.ensures.room ∙ c.loop-change.invariant.same_room;
      reached = subst (λ keys. All (λ (change : Change). IsTrue (has_room keys change.key)) c.pop.new.self.items) (sym c.replace.ensures.room) reached;
    }

pub returns-clause-database : goal.returns-clause-database
returns-clause-database c =
    let none : 0 < length c.loop-change.changes.items → ⊥ = λ some. let both : false ≡ true = c.in_default.ensures.variant.1 some in cc in
    let none : c.loop-change.changes.items ≡ [] = nil_from_length c.loop-change.changes.items (omega (arith, none)) in
    sym (ap (λ changes. after_changes changes (database_of c.loop-change.slots.entries)) none) ∙ c.loop-change.invariant.target

pub loop-change-init : goal.loop-change-init
loop-change-init c = record { target = refl; shows = λ shows. shows; same_room = refl; reached = c.requires }
