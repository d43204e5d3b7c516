use Rattle.std.proofs.Common.{◌≡◌, ℕ, ◌+◌, ◌<◌, List, None, Some, length, map, Contains, get_or, drop, option_and_then, ap, sym, ◌∙◌, refl, arith}
use Rattle.std.specs.Option.{option_map}
use Rattle.std.proofs.lemmas.List.{at_drop_more, get_or-map, length-map}
use Rattle.bayou_lang.specs.declared.program.Op.{Op}
use Rattle.bayou_lang.specs.declared.change.Change.{Change}
use Rattle.bayou_lang.specs.Database.{Database, changed}
use Rattle.bayou_lang.specs.Changes.{after_changes, op_key}
use Rattle.bayou_lang.specs.Meaning.{after_op, after_ops}
use Rattle.bayou_lang.proofs.ChangeLists.{ChangeOnly-none, ChangeOnly-set, after_changes-set}
use Rattle.bayou_lang.proofs.eval.ops_changes.Goals as goal

-- the op at the index goes first
after_ops-drop : (ops : List Op) (index : ℕ) (op : Op) (database : Database) → index < length ops → op ≡ get_or ops index op → after_ops (drop index ops) database ≡ option_and_then (after_ops (drop (index + 1) ops)) (after_op op database)
after_ops-drop ops index op database within is =
    at_drop_more (λ left. after_ops left database) ops index op within
    ∙ ap (λ (first : Op). option_and_then (after_ops (drop (index + 1) ops)) (after_op first database)) (sym is)

pub loop-op-init : goal.loop-op-init
loop-op-init g c = rw c.clear.ensures record { value = refl; room = omega arith; only = ChangeOnly-none _ }

pub returns-in_err-change-clause-value : goal.returns-in_err-change-clause-value
returns-in_err-change-clause-value g c =
    let below = g.L.Look.database c.args.look.now in
    let now = after_changes c.loop-op.changes.items below in
    let failed : after_op c.op-item.result now ≡ None = c.in_err-change.ensures.value in
    sym c.loop-op.invariant.value
    ∙ after_ops-drop c.args.ops.now c.loop-op.op-index c.op-item.result now c.loop-op-test.true c.op-item.is
    ∙ ap (option_and_then (after_ops (drop (c.loop-op.op-index + 1) c.args.ops.now))) failed
    ∙ sym (ap (option_map _) c.from_residual.ensures)

pub loop-op-preserved : goal.loop-op-preserved
loop-op-preserved g c =
    let below = g.L.Look.database c.args.look.now in
    let now = after_changes c.loop-op.changes.items below in
    let change = c.in_ok-change.change in
    let set : after_changes c.set_change.new.changes.items below ≡ changed change.key change.value now
    = ap (λ (changes : List Change). after_changes changes below) c.set_change.ensures.items ∙ after_changes-set change c.loop-op.changes.items below in
    let here : Contains (map op_key c.args.ops.now) change.key = (c.loop-op.op-index, omega (arith, length-map c.args.ops.now op_key), get_or-map op_key c.args.ops.now c.loop-op.op-index c.op-item.result change.key c.loop-op-test.true ∙ ap op_key (sym c.op-item.is) ∙ sym c.in_ok-change.ensures.key) in
    let made : after_op c.op-item.result now ≡ Some (after_changes c.set_change.new.changes.items below) = c.in_ok-change.ensures.value ∙ ap Some (sym set) in
    record {
      value = sym (after_ops-drop c.args.ops.now c.loop-op.op-index c.op-item.result now c.loop-op-test.true c.op-item.is ∙ ap (option_and_then (after_ops (drop (c.loop-op.op-index + 1) c.args.ops.now))) made) ∙ c.loop-op.invariant.value;
      room = omega arith;
      only = rw c.set_change.ensures.items (ChangeOnly-set _ change _ here c.loop-op.invariant.only);
    }
