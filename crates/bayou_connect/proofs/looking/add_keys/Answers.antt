use Rattle.std.proofs.Common.{◌∙◌, ◌||◌, ap, get_or, map, sym, take}
use Rattle.bayou_connect.specs.Beyond.{has_key, is_among, is_key}
use Rattle.bayou_lang.specs.Changes.{op_key}
use Rattle.bayou_connect.proofs.Keys.{among_more, or_assoc, put_among}
use Rattle.bayou_connect.proofs.looking.add_keys.Goals as goal

pub loop-op-preserved : goal.loop-op-preserved
loop-op-preserved c = λ key.
    let ops = c.args.ops.now in
    let at = c.loop-op.op-index in
    let had = has_key c.args.keys.now key in
    let before = is_among (map op_key (take at ops)) key in
    let put = is_key c.copy.result key in
    c.in_ok-insert.ensures.updates.0 key ∙ put_among put (has_key c.loop-op.keys key) ∙ ap (λ b. b || put) (c.loop-op.invariant key)
    ∙ ap (λ (k : _). (had || before) || is_key k key) (c.copy.ensures ∙ c.key_of.ensures ∙ ap op_key c.op-item.is) ∙ sym (or_assoc had before (is_key (op_key (get_or ops at c.op-item.result)) key))
    ∙ ap (λ b. had || b) (sym (among_more op_key ops at c.op-item.result c.loop-op-test.true key))
