use Rattle.std.proofs.Common.{◌≡◌, ◌∙◌, Ok, subst, sym}
use Rattle.bayou_base.specs.Vector.{Dominates}
use Rattle.bayou_client.proofs.Looked.{no_answer}
use Rattle.bayou_client.specs.Lookups.{asks_fate}
use Rattle.bayou_client.proofs.lookup.fate_in.Goals as goal
use Rattle.bayou_wire.specs.declared.greeting.Greeting.{Greeting}
use Rattle.bayou_wire.specs.declared.greeting.Greeting.TheVariants.{Outcome}
use Rattle.bayou_wire.specs.declared.lookup.Fate.{Fate}

pub returns-in-Err : goal.returns-in-Err
returns-in-Err c = no_answer (asks_fate c.args.asked.now) c.args.text.now c.unanswered.result c.unanswered.ensures
    (λ answer is. let (greeting, spells, told) = is in let (same, covers) = told in absurd (let other = c.in-Err.ensures.only (Ok greeting) spells in cc))

pub returns-then-not-dominates : goal.returns-then-not-dominates
returns-then-not-dominates c = no_answer (asks_fate c.args.asked.now) c.args.text.now c.unanswered-then-not-dominates.result c.unanswered-then-not-dominates.ensures
    (λ answer is.
    let (greeting, spells, told) = is in let (same, covers) = told in
    let here = c.in-Ok.ensures.only (Ok greeting) spells in
    let read = c.in-Some.ensures in
    let one : c.in-Some.fate ≡ answer = cc in
    let enough = c.dominates.ensures.counts.1 (subst (λ (a : Fate). Dominates a.vector c.args.asked.now.need) (sym one) covers) in
    let less = c.if-not-dominates.true in
    absurd (cc))
