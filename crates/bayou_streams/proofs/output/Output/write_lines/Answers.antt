use Rattle.std.proofs.Common.{arith, rules, tests, ◌≡◌, ◌<◌, ◌-◌, ◌++◌, ◌∙◌, Ok, length, sym, subst, take}
use Rattle.std.proofs.lemmas.List.{take_rest}
use Rattle.bayou_base.specs.declared.limits.TheConstants.{MAX_TURNS}
use Rattle.bayou_streams.specs.Account.{TakesBytes, account}
use Rattle.bayou_streams.specs.Lines.{line_feeds, taken_of, turns_behind}
use Rattle.bayou_streams.specs.Turns.{count_of}
use Rattle.bayou_streams.specs.Laws.Taken.{TakesBytes-trans, TakesBytes-turn, turns_again}
use Rattle.bayou_streams.specs.Laws.Turned.{moves_front}
use Rattle.bayou_streams.proofs.output.Output.write_lines.Goals as goal

pub loop-rest-preserved-in-Moved : goal.loop-rest-preserved-in-Moved
loop-rest-preserved-in-Moved g c =
    let (front, split, took, clean, ready) = c.loop-rest.invariant in
    let now = account g.W.Write.contents in
    let rest = c.loop-rest.rest.now in
    let turn = c.in_ok-count.ensures in
    let count = c.in-Moved.count in
    let more : TakesBytes (now c.loop-rest.self) (now c.turn.new.self) (take count rest) =
    subst (λ moved. TakesBytes (now c.loop-rest.self) (now c.turn.new.self) (taken_of (count_of (Ok moved)) rest)) c.in-Moved.is
    (TakesBytes-turn _ _ (count_of (Ok c.in_ok-count.field-0)) rest turn.bytes turn.enough c.loop-rest.self.channel.in_budget turn.spent turn.lines turn.left) in (
      front ++ take count rest,
      moves_front _ front _ count split,
      TakesBytes-trans _ _ _ _ _ took more,
      λ failed. clean (rw turn.failed at failed),
      λ empty ends.
          let left : c.turn.new.self.channel.turns_left ≡ turns_behind (line_feeds (take count rest)) (c.loop-rest.self.channel.turns_left - 1) =
          subst (λ moved. c.turn.new.self.channel.turns_left ≡ turns_behind (line_feeds (taken_of (count_of (Ok moved)) rest)) (c.loop-rest.self.channel.turns_left - 1)) c.in-Moved.is turn.left in
          let some : 0 < length rest = search (rules, tests) in
          let all : c.turn.new.self.channel.turns_left ≡ MAX_TURNS =
          turns_again _ front rest count _ c.turn.new.self.channel.turns_left split some (sym (take_rest rest count) ∙ empty) ends left in
          omega (arith, all, c.args.self.now.channel.in_budget),
    )
