use Rattle.std.proofs.Common.{◌≡◌, subst, sym}
use Rattle.std.proofs.lemmas.Result.{IfOk-weaker}
use Rattle.bayou_client.specs.Operating.{Asking, begins_read}
use Rattle.bayou_connect.specs.declared.asking.Done.{Done}
use Rattle.bayou_connect.specs.Operating.{TellsRows}
use Rattle.bayou_connect.proofs.asking.list.Goals as goal

pub returns-clause-told : goal.returns-clause-told
returns-clause-told g c =
    let old = c.args.asker.now in
    let done = c.done_by_rows-done.result in
    let (read, consumed, hears) = c.list.ensures.hears in
    let told = subst (λ (a : Asking). TellsRows (begins_read old) a done.told) (sym hears.becomes) (c.done_by_rows-done.ensures (begins_read old)) in
    IfOk-weaker c.tell.result (λ (d : Done). d ≡ done) (λ (d : Done). TellsRows (begins_read old) c.list.new.self d.told)
    (λ d same. subst (λ (e : Done). TellsRows (begins_read old) c.list.new.self e.told) (sym same) told) c.tell.ensures.done
