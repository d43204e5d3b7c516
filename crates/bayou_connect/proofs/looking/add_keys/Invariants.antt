-- the keys of the ops so far stand among the others
use Rattle.std.proofs.Common.{◌≡◌, ◌||◌, ℕ, List, map, take}
use Rattle.bayou_connect.specs.Beyond.{has_key, is_among}
use Rattle.bayou_lang.specs.Changes.{op_key}
use Rattle.bayou_connect.proofs.looking.add_keys.Given as goal

abbrev pub invariant-loop-op : goal.invariant-loop-op
invariant-loop-op l = (key : List ℕ) → has_key l.keys key ≡ (has_key l.fn.keys key || is_among (map op_key (take l.op-index l.ops)) key)
