use Rattle.std.proofs.Common.{List, [], ◌∷◌, ap, length, arith, inl, inr, refl, subst}
use Rattle.std.proofs.lemmas.Result.{err_from_is_err_and}
use Rattle.bayou_text.specs.declared.command.Command.{Command}
use Rattle.bayou_script.specs.Plan.{plan_of}
use Rattle.std.proofs.Math.Nat.{le-max_left}
use Rattle.bayou_script.specs.Capacity.{operations}
use Rattle.bayou_print.specs.declared.ended.Ended.TheVariants.{Clean}
use Rattle.bayou_print.specs.Waiting.{stage}
use Rattle.bayou_print.specs.Laws.Gathered.{Gathers-nil}
use Rattle.bayou_tasks.proofs.Runs.{SoFar, SoFar-more, SoFar-part, SoFar-stopped}
use Rattle.bayou_tasks.proofs.run.answer_each.Goals as goal

pub loop-command-init : goal.loop-command-init
loop-command-init g c = let so_far : SoFar c.args.form (plan_of c.args.script) Clean c.args.machine.now c.args.script.commands.items (stage g.W.Write.contents c.args.output.now c.args.waiting.now) (stage g.W.Write.contents c.args.output.now c.args.waiting.now) = record {
  done = [];
  answers = [];
  first = c.args.machine.now;
  begun = c.requires;
  whole = refl;
  run = refl;
  count = let begun = c.requires in begun.standing.count_is;
  room = let begun = c.requires in omega (arith, begun.capacity, ap length begun.none_filed, le-max_left (operations (plan_of c.args.script).commands) 1);
  served = c.args.script.served;
  written = Gathers-nil _;
  verdicts = refl;
} in record { so_far = so_far; ready = omega arith }

pub loop-command-preserved : goal.loop-command-preserved
loop-command-preserved g c =
    let plan = plan_of c.args.script in
    let bytes = g.W.Write.contents in
    let before = subst (λ (commands : List Command). SoFar c.args.form plan c.loop-command.ended c.loop-command.machine commands (stage bytes c.args.output.now c.args.waiting.now) (stage bytes c.loop-command.output c.loop-command.waiting))
    c.in-Some.ensures.items c.loop-command.invariant.so_far in
    let (answer, of, step, written) = c.in_ok-told.ensures.answered in
    record {
      so_far = SoFar-more c.args.form plan c.loop-command.ended c.in_ok-told.told c.and-ended.result c.loop-command.machine c.answer_one.new.machine c.in-Some.command c.pop_front.new.self.items answer
          (stage bytes c.args.output.now c.args.waiting.now) (stage bytes c.loop-command.output c.loop-command.waiting) (stage bytes c.answer_one.new.output c.answer_one.new.waiting) before
          step written of c.and-ended.ensures;
      ready = omega (arith, c.loop-command.invariant.ready, c.in_ok-told.ensures.ready);
    }

pub returns-in_err-told-clause-err : goal.returns-in_err-told-clause-err
returns-in_err-told-clause-err g c =
    let p = err_from_is_err_and c.from_residual.result c.from_residual.ensures.1 in
    let plan = plan_of c.args.script in
    let bytes = g.W.Write.contents in
    let before = subst (λ (commands : List Command). SoFar c.args.form plan c.loop-command.ended c.loop-command.machine commands (stage bytes c.args.output.now c.args.waiting.now) (stage bytes c.loop-command.output c.loop-command.waiting))
    c.in-Some.ensures.items c.loop-command.invariant.so_far in
    let fault = c.in_err-told.ensures.answered in
    elim fault.1 [
      | inl same ↦
          let (text, missing, part, gathered) = SoFar-stopped c.args.form plan c.loop-command.ended c.loop-command.machine (c.in-Some.command ∷ c.pop_front.new.self.items) _ _ _ before same in
          rw (p.1, p.2) (fault.0, text, missing, part, gathered)
      | inr (answer, step, lost, some) ↦
          let (text, missing, part, gathered) =
          SoFar-part c.args.form plan c.loop-command.ended c.loop-command.machine c.answer_one.new.machine c.in-Some.command c.pop_front.new.self.items answer
          (stage bytes c.args.output.now c.args.waiting.now) (stage bytes c.loop-command.output c.loop-command.waiting) (stage bytes c.answer_one.new.output c.answer_one.new.waiting) lost
          before step some in
          rw (p.1, p.2) (fault.0, text, missing, part, gathered)
    ]
