use Rattle.std.proofs.Common.{◌++◌, All, ◌∙◌, subst, ap}
use Rattle.http.specs.Request.{head_of}
use Rattle.bayou_web.specs.Door.{MayAskNothing}
use Rattle.bayou_web_serve.proofs.Kept.{desk_is_kept, door_is_kept}
use Rattle.bayou_web_serve.proofs.serving.serve_site.Goals as goal

pub returns-clause-kept : goal.returns-clause-kept
returns-clause-kept g c = λ none.
    desk_is_kept g.D.PageDesk.shows g.D.PageDesk.does c.serve.ensures.calls.0 c.args.site.now c.serve.new.service c.serve.ensures.calls.2
    (subst (All (λ call. MayAskNothing c.args.site.now.door (head_of call.0)))
    (c.serve.ensures.calls.1 ∙ ap (λ before. before ++ c.serve.ensures.calls.0) c.requires.fresh) none)

pub returns-clause-door : goal.returns-clause-door
returns-clause-door g c = door_is_kept g.D.PageDesk.shows g.D.PageDesk.does c.serve.ensures.calls.0 c.args.site.now c.serve.new.service c.serve.ensures.calls.2
