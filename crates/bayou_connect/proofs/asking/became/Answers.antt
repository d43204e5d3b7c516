use Rattle.std.proofs.Common.{◌≡◌, subst, sym}
use Rattle.std.proofs.lemmas.Result.{IfOk-weaker}
use Rattle.bayou_client.specs.Operating.{Asking, begins_read}
use Rattle.bayou_connect.specs.declared.asking.Done.{Done}
use Rattle.bayou_connect.specs.Operating.{TellsFate}
use Rattle.bayou_connect.proofs.asking.became.Goals as goal

pub returns-clause-told : goal.returns-clause-told
returns-clause-told g c =
    let old = c.args.asker.now in
    let done = c.done_by_fate-done.result in
    let (read, consumed, hears) = c.became.ensures.hears in
    let told = subst (λ (a : Asking). TellsFate (begins_read old) a done.told) (sym hears.becomes) (c.done_by_fate-done.ensures (begins_read old)) in
    IfOk-weaker c.tell.result (λ (d : Done). d ≡ done) (λ (d : Done). TellsFate (begins_read old) c.became.new.self d.told)
    (λ d same. subst (λ (e : Done). TellsFate (begins_read old) c.became.new.self e.told) (sym same) told) c.tell.ensures.done
