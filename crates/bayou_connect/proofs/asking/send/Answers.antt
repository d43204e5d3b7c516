use Rattle.std.proofs.Common.{◌≡◌, subst, sym}
use Rattle.std.proofs.lemmas.Result.{IfOk-weaker}
use Rattle.bayou_client.specs.Operating.{Asking}
use Rattle.bayou_connect.specs.declared.asking.Done.{Done}
use Rattle.bayou_connect.specs.Operating.{TellsWrite}
use Rattle.bayou_connect.proofs.asking.send.Goals as goal

pub returns-clause-told : goal.returns-clause-told
returns-clause-told g c =
    let begun = c.args.begun.now in
    let done = c.done_by_write-done.result in
    let (asked, is_asked, read, consumed, hears) = c.send.ensures.hears in
    let told = subst (λ (a : Asking). TellsWrite begun a done.told) (sym hears.becomes) (c.done_by_write-done.ensures begun) in
    IfOk-weaker c.tell.result (λ (d : Done). d ≡ done) (λ (d : Done). TellsWrite begun c.send.new.self d.told)
    (λ d same. subst (λ (e : Done). TellsWrite begun c.send.new.self e.told) (sym same) told) c.tell.ensures.done
