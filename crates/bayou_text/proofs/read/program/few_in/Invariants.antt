use Rattle.std.proofs.Common.{◌≡◌, length, vec_capacity, vec_len}
use Rattle.serde_json.specs.View.{view}
use Rattle.bayou_text.specs.Laws.Inner.Lists.{IsReadTo}
use Rattle.bayou_text.proofs.read.program.few_in.Given as goal

-- those so far are read, one stands for each, and there is room for all
abbrev pub invariant-loop-json : goal.invariant-loop-json
invariant-loop-json g l = record {
  read : IsReadTo g.T.Part.reads view l.list l.json-index l.few.items;
  number : vec_len l.few ≡ l.json-index;
  room : vec_capacity l.few ≡ length l.list;
}
