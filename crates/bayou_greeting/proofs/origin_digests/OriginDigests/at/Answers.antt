use Rattle.std.proofs.Common.{◌≡◌, ℕ, ◌-◌, ◌<◌, suc, List, Some, length, get_or, take, ap, ◌∙◌, arith}
use Rattle.std.proofs.lemmas.List.{get_or_default}
use Rattle.bayou_greeting.specs.Laws.Digests.{length-shorts_behind, short_at}
use Rattle.bayou_greeting.specs.OriginDigests.{digest_of, no_writes, short, shorts_behind}
use Rattle.bayou_greeting.proofs.origin_digests.OriginDigests.at.Goals as goal

pub returns-then-len-count-clause-held : goal.returns-then-len-count-clause-held
returns-then-len-count-clause-held c writes are within =
    absurd (omega (arith, ap length are.kept, length-shorts_behind no_writes writes, c.len.ensures, c.if-len-count.true))

pub returns-clause-held : goal.returns-clause-held
returns-clause-held c writes are within =
    let place : ℕ = c.args.count - 1 in
    let told : List ℕ = shorts_behind no_writes writes in
    let next : suc place ≡ c.args.count = omega (arith, c.if-count-eq0.false) in
    let inside : place < length told = omega (arith, length-shorts_behind no_writes writes, within, c.if-count-eq0.false) in
    let kept : c.index.result.now ≡ get_or told place c.index.result.now = c.index.ensures ∙ ap (λ list. get_or list place c.index.result.now) are.kept in
    ap (λ s. Some s)
    (kept ∙ get_or_default told place c.index.result.now 0 inside ∙ short_at no_writes writes place (omega (arith, inside, length-shorts_behind no_writes writes))
    ∙ ap (λ n. short (digest_of (take n writes))) next)

pub returns-clause-beyond : goal.returns-clause-beyond
returns-clause-beyond c writes are beyond =
    absurd (omega (arith, ap length are.kept, length-shorts_behind no_writes writes, c.len.ensures, c.if-len-count.false))
