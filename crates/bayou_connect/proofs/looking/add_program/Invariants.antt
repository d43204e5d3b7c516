-- the keys of the update, and of the alternatives so far, stand among the others
use Rattle.std.proofs.Common.{◌≡◌, ◌||◌, ◌++◌, ℕ, List, map, take}
use Rattle.std.specs.List.{flat_map}
use Rattle.bayou_connect.specs.Beyond.{has_key, is_among}
use Rattle.bayou_lang.specs.Changes.{op_key}
use Rattle.bayou_lang.specs.declared.program.Alt.{Alt}
use Rattle.bayou_connect.proofs.looking.add_program.Given as goal

abbrev pub invariant-loop-alternative : goal.invariant-loop-alternative
invariant-loop-alternative l = (key : List ℕ) → has_key l.keys key
    ≡ (has_key l.fn.keys key || is_among (map op_key l.fn.program.update.items ++ flat_map (λ (alt : Alt). map op_key alt.ops.items) (take l.alternative-index l.fn.program.merge.items)) key)
