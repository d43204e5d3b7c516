use Rattle.std.proofs.Common.{◌∙◌, ap, arith, refl, sym}
use Rattle.bayou_machine.specs.Run.{ScriptState}
use Rattle.bayou_machine.specs.Standing.{dumps_of}
use Rattle.bayou_machine.proofs.Lending.{file_kept}
use Rattle.bayou_machine.proofs.machine.Machine.lend.Goals as goal

pub returns : goal.returns
returns g c =
    let (file, count, entries, dumps) =
    file_kept c.count.result c.filed.result.now c.lend.result.items c.count.ensures.in_range (c.lend.ensures.one_each ∙ sym c.count.ensures.value)
    (omega (arith, c.filed.type_inv.1)) c.lend.ensures.few in (
      file,
      record {
        file = file;
        answered = refl;
        count = count ∙ c.count.ensures.value ∙ ap (λ (state : ScriptState). state.standing.count) c.self.view_is;
        entries = entries ∙ c.filed.ensures ∙ ap (λ (state : ScriptState). state.book.entries) c.self.view_is;
        dumps = dumps ∙ c.lend.ensures.lists ∙ ap (λ (state : ScriptState). dumps_of state.standing) c.self.view_is;
      },
      record { count = sym count; entries = sym entries; dumps = sym dumps },
    )
