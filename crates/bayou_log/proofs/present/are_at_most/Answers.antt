use Rattle.std.proofs.Common.{◌≤◌, length, arith}
use Rattle.bayou_lang.specs.Database.{number_with}
use Rattle.bayou_log.specs.Db.{Slots, database_of}
use Rattle.bayou_log.proofs.Prefixed.{number_with-within}
use Rattle.bayou_log.proofs.present.are_at_most.Goals as goal

pub returns-then-len-most : goal.returns-then-len-most
returns-then-len-most c =
    let slots : Slots = c.args.slots.now.entries in
    let few : number_with c.args.prefix.now (database_of slots) ≤ length slots = number_with-within c.args.prefix.now slots in
    grind (arith, c.if-len-most.true, c.len.ensures.len, few)
