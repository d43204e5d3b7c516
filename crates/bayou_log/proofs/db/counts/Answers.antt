use Rattle.std.proofs.Common.{◌||◌, ap, sym, ◌∙◌}
use Rattle.std.specs.List.{list_any}
use Rattle.bayou_log.specs.Inner.Counting.{counts_keys}
use Rattle.bayou_log.proofs.db.counts.Goals as goal

pub returns-else-counts_some : goal.returns-else-counts_some
returns-else-counts_some c =
    c.some_count.ensures
    ∙ ap (list_any (λ alt. list_any counts_keys alt.when.items)) c.merge.ensures.value
    ∙ ap (λ counted. counted || list_any (λ alt. list_any counts_keys alt.when.items) c.args.program.now.merge.items)
    (sym c.if-counts_some.false ∙ c.counts_some.ensures ∙ ap (list_any counts_keys) c.check.ensures.value)
