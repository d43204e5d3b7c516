use Rattle.std.proofs.Common.{rules, ◌≡◌, ◌∙◌, ◌+◌, ◌≤◌, ℕ, List, ap, arith, length, subst, sym, take}
use Rattle.std.specs.List.{slice_index, slice_set}
use Rattle.std.proofs.lemmas.List.{length-take}
use Rattle.bayou_lang.specs.Laws.Fitting.{count_of-most, count_of-push}
use Rattle.bayou_lang.specs.Writes.{count_of, counted}
use Rattle.bayou_explain.proofs.Counting.{one_more}
use Rattle.bayou_explain.proofs.counted.counts_of.Goals as goal

pub overflow_add-counts : goal.overflow_add-counts
overflow_add-counts c =
    let at = c.loop-at.at in
    let origin = c.from-origin.result in
    let front = take at c.args.writes.now in
    let most : slice_index c.loop-at.counts origin ≤ at =
    subst (λ (counts : List ℕ). slice_index counts origin ≤ at) (sym c.loop-at.invariant) (omega (arith, count_of-most front origin, length-take at c.args.writes.now)) in
    omega (arith, most)

pub loop-at-preserved : goal.loop-at-preserved
loop-at-preserved c =
    let writes = c.args.writes.now in
    let at = c.loop-at.at in
    let write = c.index-writes-at.result in
    let place : c.from-origin.result ≡ write.wid.origin.index = search rules in
    ap (λ (counts : List ℕ). slice_set counts c.from-origin.result (slice_index counts c.from-origin.result + 1)) c.loop-at.invariant
    ∙ ap (λ (o : ℕ). slice_set (count_of (take at writes)) o (slice_index (count_of (take at writes)) o + 1)) place
    ∙ sym (count_of-push (take at writes) write) ∙ sym (ap count_of (one_more writes at write c.loop-at-test.true c.index-writes-at.is))
