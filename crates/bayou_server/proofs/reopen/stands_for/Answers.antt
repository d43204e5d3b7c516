use Rattle.std.proofs.Common.{subst}
use Rattle.bayou_journal.specs.Versions.{body_in}
use Rattle.bayou_server.specs.Stored.{IsBodyOf}
use Rattle.bayou_server.proofs.Bodies.{told_some}
use Rattle.bayou_server.proofs.Deciding.{one_record}
use Rattle.bayou_server.proofs.reopen.stands_for.Goals as goal

pub returns-in-Some : goal.returns-in-Some
returns-in-Some c =
    let id = c.args.id.index in
    let body = body_in c.args.version c.args.body.now in
    let stands = told_some _ (IsBodyOf id body) c.in_ok-stored.field-0 c.in-Some.stored c.in_ok-stored.ensures c.in-Some.is in (
      λ yes. subst (IsBodyOf id body) (c.is_of.ensures.0 yes) stands,
      λ is. c.is_of.ensures.1 (one_record c.bytes_are_of_one_record.ensures id body c.in-Some.stored (record { write = c.args.write.now; tag = c.args.tag }) stands is),
    )
