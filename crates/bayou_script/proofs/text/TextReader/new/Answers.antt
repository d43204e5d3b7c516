use Rattle.std.proofs.Common.{[], refl}
use Rattle.bayou_script.specs.Order.{nothing}
use Rattle.bayou_script.proofs.Cut.{Cuts-start}
use Rattle.bayou_script.proofs.text.TextReader.new.Goals as goal

pub returns : goal.returns
returns g c = record {
  ended = [];
  front = [];
  cut = Cuts-start c.new-2.result.items c.new-2.ensures.items;
  number = refl;
  in_order = nothing;
  kept = c.new.ensures;
}
