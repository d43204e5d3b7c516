use Rattle.std.proofs.Common.{ap, sym, ◌∙◌}
use Rattle.bayou_lang.specs.Laws.Equality.{same_write-decides}
use Rattle.bayou_wire.specs.declared.record.Record.{Record}
use Rattle.bayou_server.proofs.SameWrite.{is_both, same_tag}
use Rattle.bayou_server.proofs.reopen.is_of.Goals as goal

pub returns-then-eq : goal.returns-then-eq
returns-then-eq c =
    let stored = c.args.stored.now in
    let tags = same_tag stored.tag c.args.tag c.eq-then-eq.result c.eq-then-eq.ensures in (
      λ yes. is_both stored c.args.write.now c.args.tag ((same_write-decides stored.write c.args.write.now).0 (sym c.eq.ensures ∙ c.if-eq.true)) (tags.0 yes),
      λ is. tags.1 (ap (λ (r : Record). r.tag) is),
    )

pub returns-else-eq : goal.returns-else-eq
returns-else-eq c =
    let stored = c.args.stored.now in (
      λ yes. absurd (let no = c.if-eq.false in cc),
      λ is. c.eq.ensures ∙ (same_write-decides stored.write c.args.write.now).1 (ap (λ (r : Record). r.write) is),
    )
