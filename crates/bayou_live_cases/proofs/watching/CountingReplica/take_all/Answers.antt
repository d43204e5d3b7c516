use Rattle.std.proofs.Common.{[], refl, sym, ◌∙◌, append-nil}
use Rattle.bayou_live_cases.proofs.Counted.{all_counted, all_new, each_new, none_had}
use Rattle.bayou_live_cases.proofs.watching.CountingReplica.take_all.Goals as goal

pub returns : goal.returns
returns c =
    let writes = c.args.writes.items in
    record {
      took = (
        [],
        record {
          front = writes;
          tooks = all_new writes;
          mid = c.args.self.now;
          each = each_new c.args.self.now writes;
          taken = c.len-count.ensures ∙ c.args.writes.ok.0 ∙ all_counted writes;
          had = none_had writes;
          ends = (sym (append-nil writes), refl);
        },
        λ none. refl,
      );
    }
