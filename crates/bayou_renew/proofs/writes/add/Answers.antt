use Rattle.std.proofs.Common.{◌≡◌, ◌∙◌, ◌∷◌, [], ◌++◌, List, ap, refl, subst, sym}
use Rattle.bayou_lang.specs.declared.write.Write.{Write}
use Rattle.bayou_lang.specs.Writes.{AreFitting, Fits}
use Rattle.bayou_log.specs.Log.{Log}
use Rattle.bayou_renew.specs.Renewal.{Puts}
use Rattle.bayou_renew.proofs.Made.{next_of_log}
use Rattle.bayou_renew.proofs.writes.add.Goals as goal

pub place-requires-clause-fits : goal.place-requires-clause-fits
place-requires-clause-fits c =
    let log = c.args.log.now in
    let write = c.next_write-write.result in
    let fitting = subst (AreFitting log.count) c.receipts-held.ensures.value c.receipts-held.ensures.fitting in
    let fits = c.own_next_write_fits.ensures log.count log.receipts 0 c.in_ok-program_of.field-0 write fitting c.requires.known c.next_write-write.ensures in
    subst (λ (now : Log). Fits now.count now.receipts write) (sym c.reserve.ensures.same) fits

pub returns : goal.returns
returns c =
    let write = c.next_write-write.result in
    record {
      write = write;
      next = next_of_log c.args.log.now.receipts c.in_ok-program_of.field-0 write c.next_write-write.ensures;
      puts = subst (Puts c.args.rows.now) (sym c.next_write-write.ensures.program) c.in_ok-program_of.ensures;
      held = ap (λ (log : Log). log.receipts) c.place.ensures ∙ ap (λ (log : Log). log.receipts ++ write ∷ []) c.reserve.ensures.same;
      count = ap (λ (log : Log). log.count) c.place.ensures ∙ ap (λ (log : Log). log.count) c.reserve.ensures.same;
      limit = ap (λ (log : Log). log.limit) c.place.ensures ∙ ap (λ (log : Log). log.limit) c.reserve.ensures.same;
    }
