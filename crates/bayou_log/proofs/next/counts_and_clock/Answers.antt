use Rattle.std.proofs.Common.{◌≡◌, ◌+◌, ◌∷◌, [], ◌++◌, take, drop, ap, sym, ◌∙◌, arith, append_assoc, take-append-drop}
use Rattle.std.proofs.lemmas.List.{take_more}
use Rattle.bayou_base.specs.declared.stamp.Stamp.{Stamp}
use Rattle.bayou_base.specs.Vector.{raised}
use Rattle.bayou_lang.specs.declared.write.Write.{Write}
use Rattle.bayou_lang.specs.Laws.Fitting.{greatest_clock-push}
use Rattle.bayou_lang.specs.Writes.{Fits, count_of, greatest_clock}
use Rattle.bayou_log.proofs.Agrees.{raised_vector}
use Rattle.bayou_log.proofs.next.counts_and_clock.Goals as goal

pub loop-write-preserved : goal.loop-write-preserved
loop-write-preserved c =
    let writes = c.args.writes.now in
    let at = c.loop-write.write-index in
    let write = c.write-item.result in
    let seen = take at writes in
    let more : take (at + 1) writes ≡ seen ++ write ∷ [] = take_more writes at write c.loop-write-test.true ∙ ap (λ (w : Write). seen ++ w ∷ []) (sym c.write-item.is) in
    let whole : writes ≡ seen ++ (write ∷ drop (at + 1) writes) =
    sym (take-append-drop (at + 1) writes) ∙ ap (λ list. list ++ drop (at + 1) writes) more ∙ append_assoc seen (write ∷ []) (drop (at + 1) writes) in
    let fits : Fits c.args.count seen write = c.requires seen write (drop (at + 1) writes) whole in
    record {
      counts = c.raise.ensures ∙ ap (raised c.loop-write.vector) c.wid.ensures
          ∙ raised_vector c.args.count seen c.loop-write.vector write c.loop-write.invariant.counts fits ∙ sym (ap count_of more);
      clock = omega (arith, c.max-clock.ensures, ap (λ (s : Stamp). s.clock) c.stamp.ensures, c.loop-write.invariant.clock, greatest_clock-push seen write, ap greatest_clock more);
    }
