use Rattle.std.proofs.Common.{◌≡◌, ◌∙◌, IfOk, List, ap, drop, subst, take}
use Rattle.std.proofs.lemmas.List.{drop_min, take_min}
use Rattle.bayou_lang.specs.declared.write.Write.{Write}
use Rattle.bayou_server.proofs.server.Server.dump_part.Goals as goal

pub returns : goal.returns
returns g c =
    let held : List Write = c.receipts-held.result.now in
    let behind : List Write = c.split_at.result.1.now in
    let from : behind ≡ drop c.args.place held = c.split_at.ensures.back ∙ ap (λ n. drop n held) c.min.ensures ∙ drop_min c.args.place held in
    let part : c.split_at-2.result.0.now ≡ take c.args.most behind = c.split_at-2.ensures.front ∙ ap (λ n. take n behind) c.min-2.ensures ∙ take_min c.args.most behind in
    subst (λ (writes : List Write). IfOk c.copies.result (λ copies. copies.items ≡ writes))
    (part ∙ ap (take c.args.most) from ∙ ap (λ l. take c.args.most (drop c.args.place l)) c.receipts-held.ensures.value ∙ ap (λ s. take c.args.most (drop c.args.place s.core.held)) c.self.view_is) c.copies.ensures
