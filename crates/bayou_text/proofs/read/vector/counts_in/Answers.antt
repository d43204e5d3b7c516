use Rattle.std.proofs.Common.{◌≤◌, ap, sym, ◌∙◌, arith}
use Rattle.std.proofs.lemmas.List.{length-set}
use Rattle.std.proofs.lemmas.List.Elements.{All-set}
use Rattle.serde_json.specs.View.{view}
use Rattle.serde_json.specs.declared.value.Value.{Value}
use Rattle.bayou_base.specs.declared.limits.TheConstants.{MAX_WRITES, SERVERS}
use Rattle.bayou_text.specs.Laws.Inner.Counts.{tally_more, zeros_less}
use Rattle.bayou_text.specs.Numbers.{tally_in}
use Rattle.bayou_text.proofs.read.vector.counts_in.Goals as goal

pub loop-place-preserved : goal.loop-place-preserved
loop-place-preserved c =
    let l = c.loop-place in
    let list = c.args.list.now in
    let one = c.in_ok-counts.field-0 in
    record {
      read = tally_more list l.counts l.place c.index-list-place.result one (omega arith) (omega (arith, l.invariant.number)) l.invariant.read
          (ap (λ (json : Value). tally_in (view json)) (sym c.index-list-place.is) ∙ sym c.tally_in.ensures.value ∙ c.in_ok-counts.was);
      number = length-set l.counts l.place one ∙ l.invariant.number;
      others = zeros_less l.counts SERVERS l.place one l.invariant.others;
      in_range = All-set (λ count. count ≤ MAX_WRITES) l.counts l.place one c.in_ok-counts.ensures.in_range l.invariant.in_range;
    }
