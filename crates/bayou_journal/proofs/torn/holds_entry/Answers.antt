use Rattle.std.proofs.Common.{arith, sym}
use Rattle.bayou_journal.proofs.Unfinished.{none_here, one_more}
use Rattle.bayou_journal.proofs.torn.holds_entry.Goals as goal

pub returns-in-Some-first_entry-clause-some : goal.returns-in-Some-first_entry-clause-some
returns-in-Some-first_entry-clause-some c = λ _ none.
    let parts = c.in-Some.ensures.cases in
    let found = c.in-Some-first_entry in
    none_here c.args.bytes.now c.loop-before.rest.now c.in-Some.before.now c.in-Some.behind.now c.loop-before.invariant parts.0 parts.1 (omega (arith, parts.2)) none
    found.field-0.body.now found.ensures.body (found.field-0.rest.now, found.ensures.split)

pub loop-before-preserved : goal.loop-before-preserved
loop-before-preserved c =
    let parts = c.in-Some.ensures.cases in
    rw (c.split_at.ensures.back) (one_more c.args.bytes.now c.loop-before.rest.now c.loop-before.invariant (omega (arith, parts.2)) (rw (sym parts.0, sym parts.1) c.in-None.ensures.none))
