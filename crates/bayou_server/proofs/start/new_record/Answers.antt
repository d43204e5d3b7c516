use Rattle.std.proofs.Common.{subst}
use Rattle.bayou_journal.specs.Versions.{body_in}
use Rattle.bayou_wire.specs.declared.record.Record.{Record}
use Rattle.bayou_server.specs.Server.{IsNewTag}
use Rattle.bayou_server.specs.Stored.{IsBodyOf}
use Rattle.bayou_server.proofs.Bodies.{told_some}
use Rattle.bayou_server.proofs.Deciding.{one_record}
use Rattle.bayou_server.proofs.start.new_record.Goals as goal

pub returns-then-not-is_new : goal.returns-then-not-is_new
returns-then-not-is_new c = λ stored admitted.
    let id = c.args.id.index in
    let body = body_in c.args.version c.args.body.now in
    let stands = told_some _ (IsBodyOf id body) c.in_ok-stored.field-0 c.in-Some.stored c.in_ok-stored.ensures c.in-Some.is in
    let one = one_record c.bytes_are_of_one_record.ensures id body stored c.in-Some.stored admitted.is stands in
    absurd (let yes = c.is_new.ensures.1 (subst (λ (r : Record). IsNewTag c.args.tags.now.tags r.tag) one admitted.new) in cc)
