use Rattle.std.proofs.Common.{List, Option, ◌≡◌, ◌≢◌, ◌∙◌, ◌≤◌, ◌<◌, inl, inr, ap, arith, length, min, rules, set, slice_index, subst, sym, unwrap_or, ℕ}
use Rattle.std.proofs.lemmas.Bool.{cases_eq}
use Rattle.std.proofs.lemmas.List.{get_or-set_other, get_or-set_same, length-set}
use Rattle.std.proofs.lemmas.List.Elements.{All-set}
use Rattle.bayou_base.specs.declared.limits.TheConstants.{MAX_WRITES}
use Rattle.bayou_serve.specs.HeldDigests.{digest_at}
use Rattle.bayou_serve.proofs.Digesting.{read_at, unwrap_told}
use Rattle.bayou_serve.proofs.held_digests.HeldDigests.held.Goals as goal

pub loop-index-preserved : goal.loop-index-preserved
loop-index-preserved c =
    let (long, each_long, bound, told) = c.loop-index.invariant in
    let at = c.loop-index.index in
    let counts = c.loop-index.counts in
    let each = c.loop-index.each in
    let count = c.min-count.result in
    let digest = c.unwrap_or.result in (
      length-set counts at count ∙ long,
      length-set each at digest ∙ each_long,
      All-set (λ number. number ≤ MAX_WRITES) counts at count (omega (arith, c.min-count.ensures)) bound,
      λ origin writes near has.
          elim (cases_eq origin.index at) as (λ _. (slice_index (set counts at count) origin.index ≡ min (length writes) MAX_WRITES) × (slice_index (set each at digest) origin.index ≡ digest_at writes (min (length writes) MAX_WRITES))) [
            | inl same ↦
                let own = read_at c.args.self.now origin at c.index-self-index.result writes (sym same) has in
                let own_again = read_at c.args.self.now origin at c.index-self-index-in-loop-index.result writes (sym same) has in
                let is_min : count ≡ min (length writes) MAX_WRITES = c.min-count.ensures ∙ ap (λ n. min n MAX_WRITES) (c.len.ensures writes own) in
                let enough : count ≤ length writes = omega (arith, is_min) in
                let value : digest ≡ digest_at writes (min (length writes) MAX_WRITES) =
                c.unwrap_or.ensures ∙ ap (λ (found : Option ℕ). unwrap_or found 0) (c.at.ensures.held writes own_again enough) ∙ ap (digest_at writes) is_min in (
                  ap (slice_index (set counts at count)) same ∙ get_or-set_same counts at count 0 (omega (arith, long, c.loop-index-test.true)) ∙ is_min,
                  ap (slice_index (set each at digest)) same ∙ get_or-set_same each at digest 0 (omega (arith, each_long, c.loop-index-test.true)) ∙ value,
                )
            | inr differ ↦
                let (number, before) = told origin writes (omega (arith, near, differ)) has in
                (get_or-set_other counts at origin.index count 0 differ ∙ number, get_or-set_other each at origin.index digest 0 differ ∙ before)
          ],
    )

pub returns-clause-counts : goal.returns-clause-counts
returns-clause-counts c origin writes has =
    let (long, each_long, bound, told) = c.loop-index.invariant in
    let within : origin.index < c.loop-index.index = search rules in
    let vector = c.unwrap_or-2.ensures ∙ unwrap_told c.from_counts.result c.zero.result c.loop-index.counts (c.from_counts.ensures.within.1 bound) c.from_counts.ensures.value in
    ap (λ (counts : List ℕ). slice_index counts origin.index) vector ∙ (told origin writes within has).0

pub returns-clause-digests : goal.returns-clause-digests
returns-clause-digests c origin writes has =
    let (long, each_long, bound, told) = c.loop-index.invariant in
    let within : origin.index < c.loop-index.index = search rules in
    let vector = c.unwrap_or-2.ensures ∙ unwrap_told c.from_counts.result c.zero.result c.loop-index.counts (c.from_counts.ensures.within.1 bound) c.from_counts.ensures.value in
    let (number, digest) = told origin writes within has in
    ap (λ (each : List ℕ). slice_index each origin.index) c.new.ensures ∙ digest ∙ sym (ap (digest_at writes) (ap (λ (counts : List ℕ). slice_index counts origin.index) vector ∙ number))
