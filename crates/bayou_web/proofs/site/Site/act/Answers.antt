use Rattle.std.proofs.Common.{inl, sym, subst, ◌∙◌}
use Rattle.http.specs.Request.{body_of}
use Rattle.bayou_web.specs.Body.{SaysLine}
use Rattle.bayou_web.specs.Reply.{Tells}
use Rattle.bayou_web.proofs.Telling.{both_of}
use Rattle.bayou_web.proofs.site.Site.act.Goals as goal

-- the line is the one that was read
pub returns-clause-done : goal.returns-clause-done
returns-clause-done g c =
    let said : SaysLine (body_of c.args.request.now) c.as_str.result.now
    = subst (SaysLine (body_of c.args.request.now)) (sym c.as_str.ensures.value)
    (subst (λ body. SaysLine body c.in-Ok.line.bytes.items) (c.as_slice.ensures ∙ c.body.ensures) c.in-Ok.ensures.line)
    in let told = both_of (λ text. text.items) (λ text. g.D.PageDesk.does c.args.self.now.desk c.as_str.result.now text c.act-told.new.self)
    (λ text. Tells text c.tell.new.response) c.act-told.result c.act-told.ensures c.tell.ensures
    in inl (c.as_str.result.now, told.0, said, told.1, told.2)
