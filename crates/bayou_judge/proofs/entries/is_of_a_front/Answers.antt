use Rattle.std.proofs.Common.{◌≡◌, drop, length, take, ap, sym, ◌∙◌, arith}
use Rattle.std.specs.List.{sum}
use Rattle.std.specs.Cmp.Lexicographic.{bytes_decides}
use Rattle.std.proofs.lemmas.Bool.{leb-true, le-leb}
use Rattle.std.proofs.lemmas.List.{take-append-drop}
use Rattle.bayou_lang.specs.Writes.{count_of}
use Rattle.bayou_judge.proofs.EntriesFronts.{front_is}
use Rattle.bayou_judge.proofs.entries.is_of_a_front.Goals as goal

pub returns-then-size-dump : goal.returns-then-size-dump
returns-then-size-dump c =
    let dump = c.args.dump.now in
    let vector = c.args.vector.now in
    let size = c.size_of-size.result in
    let counted : c.counts_of.result ≡ count_of (take size dump) = c.counts_of.ensures dump c.requires c.if-size-dump.true in
    let decides = bytes_decides c.counts_of.result vector in (
      λ is. (take size dump, (drop size dump, sym (take-append-drop size dump)), sym counted ∙ decides.0 (sym c.eq.ensures ∙ is)),
      λ front.
          let whole = front_is dump front.0 front.1.0 front.1.1 in
          let same : front.0 ≡ take size dump = whole.1 ∙ ap (λ n. take n dump) (ap sum front.2 ∙ sym c.size_of-size.ensures) in
          c.eq.ensures ∙ decides.1 (counted ∙ ap count_of (sym same) ∙ front.2),
    )

pub returns-else-size-dump : goal.returns-else-size-dump
returns-else-size-dump c =
    let dump = c.args.dump.now in
    let size = c.size_of-size.result in (
      λ is. absurd (omega (arith, leb-true size (length dump) is, c.if-size-dump.false)),
      λ front. le-leb size (length dump) (omega (arith, (front_is dump front.0 front.1.0 front.1.1).0, ap sum front.2, c.size_of-size.ensures)),
    )
