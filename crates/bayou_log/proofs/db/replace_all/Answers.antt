use Rattle.std.proofs.Common.{◌≡◌, List, [], All, Contains, IsTrue, Some, ap, sym, ◌∙◌, subst, length, arith, ◌<◌, true, false, refl}
use Rattle.std.proofs.lemmas.List.{nil_from_length}
use Rattle.std.proofs.lemmas.List.Elements.{All-nil, All-pop, All-push}
use Rattle.bayou_lang.specs.declared.change.Change.{Change}
use Rattle.bayou_lang.specs.Database.{changed}
use Rattle.bayou_lang.specs.Changes.{after_changes}
use Rattle.bayou_log.specs.Db.{database_of, room, has_room}
use Rattle.bayou_log.proofs.Slots.{after_changes-push, changed-back}
use Rattle.bayou_log.proofs.db.replace_all.Goals as goal

pub replace-requires : goal.replace-requires
replace-requires c =
    (All-pop (λ change. IsTrue (has_room (room c.loop-change.slots.entries) change.key)) c.loop-change.changes.items c.pop.new.self.items (Some c.in-Some.change)
    c.in-Some.ensures.items c.loop-change.invariant.reached).1

pub loop-change-preserved : goal.loop-change-preserved
loop-change-preserved c =
    let Reached : Change → Type 0 = λ change. IsTrue (has_room (room c.loop-change.slots.entries) change.key) in
    let reached = (All-pop Reached c.loop-change.changes.items c.pop.new.self.items (Some c.in-Some.change) c.in-Some.ensures.items c.loop-change.invariant.reached).0 in
    let back = c.replace.result in
    let was = database_of c.loop-change.slots.entries in
    let now = database_of c.replace.new.slots.entries in
    record {
      undone = ap (λ list. after_changes list now) c.push.ensures.items
          ∙ after_changes-push c.loop-change.before.items back now
          ∙ ap (after_changes c.loop-change.before.items)
          (ap (λ key. changed key back.value now) c.replace.ensures.key
          ∙ ap (λ value. changed c.in-Some.change.key value now) c.replace.ensures.value
          ∙ ap (changed c.in-Some.change.key _) c.replace.ensures.database
          ∙ changed-back c.in-Some.change.key c.in-Some.change.value was)
          ∙ c.loop-change.invariant.undone;
      among = λ keys all.
          let Among : Change → Type 0 = λ change. Contains keys change.key in
          let both = c.loop-change.invariant.among keys all in
          let left = All-pop Among c.loop-change.changes.items c.pop.new.self.items (Some c.in-Some.change) c.in-Some.ensures.items both.0 in (
            left.0,
            subst (All Among) (sym c.push.ensures.items)
                (All-push Among c.loop-change.before.items back both.1 (subst (Contains keys) (sym c.replace.ensures.key) left.1)),
          );
      number = omega (arith, c.in-Some.ensures.len, c.push.ensures.len, c.loop-change.invariant.number);
      target = ap (after_changes c.pop.new.self.items) c.replace.ensures.database
          ∙ sym (after_changes-push c.pop.new.self.items c.in-Some.change was)
          ∙ sym (ap (λ changes. after_changes changes was) c.in-Some.ensures.items)
          ∙ c.loop-change.invariant.target;
      shows = λ shows. c.replace.ensures.present (c.loop-change.invariant.shows shows);
      same_room = c.replace.ensures.room ∙ c.loop-change.invariant.same_room;
      reached = subst (λ keys. All (λ (change : Change). IsTrue (has_room keys change.key)) c.pop.new.self.items) (sym c.replace.ensures.room) reached;
    }

pub returns-clause-database : goal.returns-clause-database
returns-clause-database c =
    let none : 0 < length c.loop-change.changes.items → ⊥ = λ some. let both : false ≡ true = c.in_default.ensures.variant.1 some in cc in
    let none : c.loop-change.changes.items ≡ [] = nil_from_length c.loop-change.changes.items (omega (arith, none)) in
    sym (ap (λ changes. after_changes changes (database_of c.loop-change.slots.entries)) none) ∙ c.loop-change.invariant.target

pub loop-change-init : goal.loop-change-init
loop-change-init c = record {
  undone = ap (λ list. after_changes list (database_of c.args.slots.now.entries)) c.clear.ensures;
  among = λ keys all. (all, subst (All (λ (change : Change). Contains keys change.key)) (sym {A = List Change} c.clear.ensures) (All-nil (λ change. Contains keys change.key)));
  number = omega (arith, ap {A = List Change} length c.clear.ensures);
  target = refl;
  shows = λ shows. shows;
  same_room = refl;
  reached = c.requires;
}

pub push-requires : goal.push-requires
push-requires c = omega (arith, c.loop-change.invariant.number, c.len.ensures, c.in-Some.ensures.len)
