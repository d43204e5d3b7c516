use Rattle.std.specs.Prelude.{is_some}
use Rattle.std.proofs.Common.{◌≡◌, ◌⊎◌, ◌<◌, ◌+◌, inl, inr, List, [], false, Option, None, Some, arith, refl, length}
use Rattle.bayou_lang.specs.declared.write.Write.{Write}
use Rattle.bayou_server.specs.Inner.Fields.{core_of, server_of}
use Rattle.bayou_server.specs.Laws.TakesAll.{takes_more, told_few}
use Rattle.bayou_server.specs.Server.{Core}
use Rattle.bayou_server.specs.Several.{TakesHeld, left_behind}
use Rattle.bayou_server.specs.TakesAll.{TakesAll}
use Rattle.bayou_server.specs.declared.answer.TookAll.{TookAll}
use Rattle.bayou_server.specs.Laws.Several.{takes_rest}
use Rattle.bayou_server.proofs.TakingBack.{stores_more}
use Rattle.bayou_server.proofs.together.take_meanwhile.Goals as goal

is_nothing : {X : Type 0} (found : Option X) → is_some found ≡ false → found ≡ None
is_nothing None none = refl
is_nothing (Some x) none = absurd cc

-- what both goes came to
abbrev both : (told more : TookAll) → TookAll
both told more = record { taken = told.taken + more.taken; had = told.had + more.had; refused = more.refused }

taken_both : (start mid new : Core) (given taking between behind left : List Write) (told more : TookAll) → TakesAll TakesHeld start given (left_behind told.refused taking between) told mid → is_some told.refused ≡ false
    → TakesAll TakesHeld mid between (left_behind more.refused behind left) more new → TakesAll TakesHeld start given (left_behind more.refused behind left) (both told more) new
taken_both start mid new given taking between behind left told more first none second =
    takes_more TakesHeld start mid new given between (left_behind more.refused behind left) told more (both told more)
    (takes_rest start mid given taking between told first (is_nothing told.refused none)) (is_nothing told.refused none) second refl refl refl

pub overflow_add-told : goal.overflow_add-told
overflow_add-told g c =
    let more = c.take_piece-more.result in
    let took = taken_both _ _ _ _ _ _ _ _ c.loop-writes.told more c.loop-writes.invariant.took c.loop-writes-test.ensures c.take_piece-more.ensures.takes in
    omega (
      arith,
      c.requires.few,
      told_few TakesHeld (core_of c.args.holding.now c.args.id.index) (core_of c.take_piece-more.new.holding c.args.id.index) c.args.writes.now.items
          (left_behind more.refused c.take_piece-more.new.holding.taking.items c.take_piece-more.new.writes.items) (both c.loop-writes.told more) took,
    )

pub overflow_add-told-in-loop-writes : goal.overflow_add-told-in-loop-writes
overflow_add-told-in-loop-writes g c =
    let more = c.take_piece-more.result in
    let took = taken_both _ _ _ _ _ _ _ _ c.loop-writes.told more c.loop-writes.invariant.took c.loop-writes-test.ensures c.take_piece-more.ensures.takes in
    omega (
      arith,
      c.requires.few,
      told_few TakesHeld (core_of c.args.holding.now c.args.id.index) (core_of c.take_piece-more.new.holding c.args.id.index) c.args.writes.now.items
          (left_behind more.refused c.take_piece-more.new.holding.taking.items c.take_piece-more.new.writes.items) (both c.loop-writes.told more) took,
    )

pub loop-writes-preserved : goal.loop-writes-preserved
loop-writes-preserved g c =
    let more = c.take_piece-more.result in
    let left = c.take_piece-more.new.writes.items in
    record {
      took = taken_both _ _ _ _ _ _ _ _ c.loop-writes.told more c.loop-writes.invariant.took c.loop-writes-test.ensures c.take_piece-more.ensures.takes;
      stored = stores_more g.D.Device _ _ _ c.loop-writes.told.refused more.refused c.loop-writes.invariant.stored (is_nothing c.loop-writes.told.refused c.loop-writes-test.ensures) c.take_piece-more.ensures.stores;
      together = c.take_piece-more.ensures.together;
      some = λ none. elim (c.take_piece-more.ensures.some none) as (λ _. (left ≡ []) ⊎ (0 < c.loop-writes.told.taken + more.taken + (c.loop-writes.told.had + more.had))) [
        | inl nothing ↦ inl nothing
        | inr some ↦ inr (omega (arith, some))
      ];
    }
