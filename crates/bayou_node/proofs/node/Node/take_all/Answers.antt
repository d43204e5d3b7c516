use Rattle.std.proofs.Common.{◌≡◌, ◌+◌, List, None, Option, refl, ap, sym, ◌∙◌, subst, arith}
use Rattle.bayou_lang.specs.declared.write.Write.{Write}
use Rattle.bayou_node.specs.Answers.{TakesAllAtNode, TakesAtNode}
use Rattle.bayou_node.specs.Books.{Begun, Booked, IsExact}
use Rattle.bayou_node.proofs.Several.{all_kept, is_nothing, kept_of}
use Rattle.bayou_server.specs.Laws.TakesAll.{takes_more, takes_none, told_few}
use Rattle.bayou_server.specs.Server.{Core}
use Rattle.bayou_server.specs.Several.{TakesHeld, left_behind}
use Rattle.bayou_server.specs.TakesAll.{TakesAll}
use Rattle.bayou_server.specs.declared.answer.RefusedWrite.{RefusedWrite}
use Rattle.bayou_server.specs.declared.answer.TookAll.{TookAll}
use Rattle.bayou_node.proofs.node.Node.take_all.Goals as goal

-- what both goes came to
abbrev both : (told more : TookAll) → TookAll
both told more = record { taken = told.taken + more.taken; had = told.had + more.had; refused = more.refused }

took_both : {D : Type 0} (begun : Begun) (booked : Booked D) (new : Core) (given between taking rest left : List Write) (told more : TookAll) → TakesAllAtNode begun given left told
    → (told.refused ≡ None → left ≡ between) → told.refused ≡ None → IsExact begun booked → TakesAll TakesHeld booked.server.core between (left_behind more.refused taking rest) more new
    → TakesAllAtNode begun given (left_behind more.refused taking rest) (both told more)
took_both begun booked new given between taking rest left told more first same none exact second =
    takes_more {S = Unit {0}} (TakesAtNode begun) tt tt tt given between (left_behind more.refused taking rest) told more (both told more)
    (subst (λ (l : List Write). TakesAllAtNode begun given l told) (same none) first) none
    (all_kept begun booked.server.core new between (left_behind more.refused taking rest) more second (kept_of begun booked exact)).0 refl refl refl

-- and what is left behind both
took_on : {D : Type 0} (begun : Begun) (booked : Booked D) (new : Core) (given between taking rest left : List Write) (told more : TookAll) → TakesAllAtNode begun given left told
    → (told.refused ≡ None → left ≡ between) → told.refused ≡ None → IsExact begun booked → TakesAll TakesHeld booked.server.core between (left_behind more.refused taking rest) more new
    → (last : List Write) × TakesAllAtNode begun given last (both told more) × (more.refused ≡ None → last ≡ rest)
took_on begun booked new given between taking rest left told more first same none exact second = (
  left_behind more.refused taking rest,
  took_both begun booked new given between taking rest left told more first same none exact second,
  λ gone. ap (λ (r : Option RefusedWrite). left_behind r taking rest) gone,
)

pub loop-told-init : goal.loop-told-init
loop-told-init g c = record {
  took = (c.from-writes.result.items, takes_none {S = Unit {0}} (TakesAtNode g.L.Desks.begun) tt c.args.writes.items _ _ c.from-writes.ensures.0 refl refl refl, λ none. refl);
}

-- src/node.rt:127:5
pub loop-told-preserved : goal.loop-told-preserved
loop-told-preserved g c = record {
  took = took_on g.L.Desks.begun _ _ c.args.writes.items c.loop-told.writes.items _ c.take_meanwhile-more.new.writes.items c.loop-told.invariant.took.0 c.loop-told.told c.take_meanwhile-more.result
      c.loop-told.invariant.took.1 c.loop-told.invariant.took.2 (is_nothing c.loop-told.told.refused c.if-is_none.ensures) c.take_meanwhile-more.ensures.exact.0 c.take_meanwhile-more.ensures.takes;
}

pub overflow_add-told : goal.overflow_add-told
overflow_add-told g c =
    let took = took_both g.L.Desks.begun _ _ c.args.writes.items c.loop-told.writes.items _ c.take_meanwhile-more.new.writes.items c.loop-told.invariant.took.0 c.loop-told.told c.take_meanwhile-more.result
    c.loop-told.invariant.took.1 c.loop-told.invariant.took.2 (is_nothing c.loop-told.told.refused c.if-is_none.ensures) c.take_meanwhile-more.ensures.exact.0 c.take_meanwhile-more.ensures.takes in
    omega (arith, c.requires.few, told_few {S = Unit {0}} (TakesAtNode g.L.Desks.begun) tt tt c.args.writes.items _ (both c.loop-told.told c.take_meanwhile-more.result) took)

pub overflow_add-told-in-loop-told : goal.overflow_add-told-in-loop-told
overflow_add-told-in-loop-told g c =
    let took = took_both g.L.Desks.begun _ _ c.args.writes.items c.loop-told.writes.items _ c.take_meanwhile-more.new.writes.items c.loop-told.invariant.took.0 c.loop-told.told c.take_meanwhile-more.result
    c.loop-told.invariant.took.1 c.loop-told.invariant.took.2 (is_nothing c.loop-told.told.refused c.if-is_none.ensures) c.take_meanwhile-more.ensures.exact.0 c.take_meanwhile-more.ensures.takes in
    omega (arith, c.requires.few, told_few {S = Unit {0}} (TakesAtNode g.L.Desks.begun) tt tt c.args.writes.items _ (both c.loop-told.told c.take_meanwhile-more.result) took)
