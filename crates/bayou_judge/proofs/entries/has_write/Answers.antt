use Rattle.std.proofs.Common.{◌≡◌, true, false, ap, sym, ◌∙◌}
use Rattle.std.specs.Cmp.Lexicographic.{bytes_decides}
use Rattle.bayou_lang.specs.declared.write.Write.{Write}
use Rattle.bayou_lang.specs.Laws.Clocks.{one_of_name}
use Rattle.bayou_judge.proofs.EntriesHeard.{stamp-decides}
use Rattle.bayou_judge.proofs.entries.has_write.Goals as goal

pub returns-then-eq : goal.returns-then-eq
returns-then-eq c =
    let dump = c.args.dump.now in
    let write = c.in-Some.write.now in
    let found = c.in-Some.ensures.found in
    let stamps = stamp-decides c.stamp.result c.args.stamp in
    let decides = bytes_decides c.deps.result.now c.args.deps.now in (
      λ is. (write, found, sym c.stamp.ensures ∙ stamps.0 (sym c.eq.ensures ∙ c.if-eq.true), sym c.deps.ensures ∙ decides.0 (sym c.eq-then-eq.ensures ∙ is)),
      λ has.
          let one = one_of_name c.requires.fitting.0 dump write has.0 c.requires.fitting.1 found.0 has.1.0 (found.1 ∙ sym has.1.1) in
          c.eq-then-eq.ensures ∙ decides.1 (c.deps.ensures ∙ ap (λ (w : Write). w.deps) one ∙ has.3),
    )

pub returns-else-eq : goal.returns-else-eq
returns-else-eq c =
    let dump = c.args.dump.now in
    let write = c.in-Some.write.now in
    let found = c.in-Some.ensures.found in
    let stamps = stamp-decides c.stamp.result c.args.stamp in (
      λ is. absurd (let both : true ≡ false = sym is ∙ c.if-eq.false in cc),
      λ has.
          let one = one_of_name c.requires.fitting.0 dump write has.0 c.requires.fitting.1 found.0 has.1.0 (found.1 ∙ sym has.1.1) in
          c.eq.ensures ∙ stamps.1 (c.stamp.ensures ∙ ap (λ (w : Write). w.stamp) one ∙ has.2),
    )
