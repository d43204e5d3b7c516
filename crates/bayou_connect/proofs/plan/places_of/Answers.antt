use Rattle.std.proofs.Common.{arith, ◌≡◌, Any, inr, rules, subst}
use Rattle.bayou_connect.specs.declared.plan.ServerPlace.{ServerPlace}
use Rattle.bayou_connect.specs.Plans.{SaysPlace}
use Rattle.bayou_lang.specs.Laws.Equality.{server-ext}
use Rattle.bayou_connect.proofs.Naming.{named_twice, no_place}
use Rattle.bayou_connect.proofs.Zipped.{zip_more}
use Rattle.bayou_connect.proofs.plan.places_of.Goals as goal

pub loop-word-preserved : goal.loop-word-preserved
loop-word-preserved c = record {
  said = zip_more (λ word place. SaysPlace word.now place) c.args.words.now c.loop-word.word-index _ c.loop-word.places.items c.push.new.self.items c.in-Some.place c.loop-word.invariant.said
      (omega arith) (rw c.if-is_err.ensures.negation at c.push.ensures.items) c.in-Some.ensures;
  once = search rules;
  number = search rules;
}

pub returns-in_default-clause-refused : goal.returns-in_default-clause-refused
returns-in_default-clause-refused c = inr (no_place c.args.words.now c.loop-word.word-index _ (omega arith) c.in_default.ensures)

pub returns-then-has_place-clause-refused : goal.returns-then-has_place-clause-refused
returns-then-has_place-clause-refused c =
    let (at, first, there, is, same) = subst (Any (λ (place : ServerPlace). place.id.index ≡ c.in-Some.place.id.index)) c.deref.ensures.value (c.has_place.ensures.some c.if-has_place.true) in
    named_twice c.args.words.now c.loop-word.places.items at c.loop-word.word-index _ first c.in-Some.place (omega arith) c.loop-word.invariant.number c.loop-word.invariant.said there is c.in-Some.ensures (server-ext first.id c.in-Some.place.id same)
