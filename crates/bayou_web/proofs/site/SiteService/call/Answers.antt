use Rattle.std.proofs.lemmas.Result.{on_ok_weaker}
use Rattle.http.specs.Request.{head_of}
use Rattle.bayou_web.proofs.Apart.{no_look, no_page}
use Rattle.bayou_web.proofs.site.SiteService.call.Goals as goal

-- a line is done, and nothing else is asked for
pub returns-in-Do-clause-ok : goal.returns-in-Do-clause-ok
returns-in-Do-clause-ok g c = on_ok_weaker c.act.result (λ done. record {
  door = c.act.ensures.door;
  kept = λ none. absurd (none.1 c.in-Do.ensures.why);
  page = λ page. absurd (no_page c.args.self.now.door (head_of c.args.request.now) page c.in-Do.ensures.why);
  refused = λ none. absurd (none.1 c.in-Do.ensures.why);
  shown = λ look. absurd (no_look c.args.self.now.door (head_of c.args.request.now) look c.in-Do.ensures.why);
  done = λ _. done;
})
    c.act.ensures.done
