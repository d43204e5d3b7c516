use Rattle.std.proofs.Common.{◌≡◌, ◌≤◌, drop, map}
use Rattle.arrayvec.specs.ArrayVec.{array_vec_len}
use Rattle.bayou_lang.specs.Meaning.{after_ops}
use Rattle.bayou_lang.specs.Changes.{after_changes, op_key, ChangeOnly}
use Rattle.bayou_lang.proofs.eval.ops_changes.Given as goal

-- what is left of the ops makes of the changes so far what all of them make of the database
abbrev pub invariant-loop-op : goal.invariant-loop-op
invariant-loop-op g l =
    let below = g.L.Look.database l.look in
    record {
      value : after_ops (drop l.op-index l.ops) (after_changes l.changes.items below) ≡ after_ops l.ops below;
      room : array_vec_len l.changes ≤ l.op-index;
      only : ChangeOnly (map op_key l.ops) l.changes.items;
    }
