use Rattle.std.proofs.Common.{ℕ, List, map, rules, subst}
use denote.Ref.{Bor}
use Rattle.std.proofs.lemmas.Result.{err_from_is_err_and}
use Rattle.bayou_base.specs.declared.server.ServerId.{ServerId}
use Rattle.bayou_serve.specs.Words.{AreNamed, RefusesBeginning, RefusesLeftOut, SaysPeer, SaysServer}
use Rattle.bayou_serve.specs.declared.plan.Peer.{Peer}
use Rattle.bayou_serve.proofs.Named.{refuses_begun, refuses_left, zip_texts}
use Rattle.bayou_serve.proofs.plan.ServicePlan.new.Goals as goal

pub returns-in_err-left_out-clause-refused : goal.returns-in_err-left_out-clause-refused
returns-in_err-left_out-clause-refused c =
    let said = zip_texts SaysPeer c.args.peers.now c.in_ok-peers.peers.items c.in_ok-peers.ensures.said in
    let words = map (λ (word : Bor (List ℕ)). word.now) c.args.left_out.now in
    let why = subst (λ (peers : List Peer). RefusesLeftOut c.args.id c.args.servers peers words c.in_err-left_out.field-0.0) c.deref.ensures.value c.in_err-left_out.ensures.refused in
    let p = err_from_is_err_and c.from_residual-in_err-left_out.result c.from_residual-in_err-left_out.ensures.1 in
    rw (p.1, p.2) (refuses_left c.args.id c.args.servers c.args.listen.now c.args.serves_anyone _ words c.args.habits.beginning c.in_ok-peers.peers.items c.in_err-left_out.field-0.0 said why)

pub returns-in_err-fits_beginning-clause-refused : goal.returns-in_err-fits_beginning-clause-refused
returns-in_err-fits_beginning-clause-refused c =
    let said = zip_texts SaysPeer c.args.peers.now c.in_ok-peers.peers.items c.in_ok-peers.ensures.said in
    let left = zip_texts SaysServer c.args.left_out.now c.in_ok-left_out.left_out.items c.in_ok-left_out.ensures.said in
    let fault = c.in_err-fits_beginning.field-0.0 in
    let why = subst (λ (servers : List ServerId). RefusesBeginning c.args.id c.args.servers c.in_ok-peers.peers.items servers c.args.habits.beginning fault) c.deref-3.ensures.value
    (subst (λ (peers : List Peer). RefusesBeginning c.args.id c.args.servers peers c.deref-3.result.now c.args.habits.beginning fault) c.deref-2.ensures.value c.in_err-fits_beginning.ensures.refused) in
    let p = err_from_is_err_and c.from_residual-in_err-fits_beginning.result c.from_residual-in_err-fits_beginning.ensures.1 in
    rw (p.1, p.2) (refuses_begun c.args.id c.args.servers c.args.listen.now c.args.serves_anyone _ _ c.args.habits.beginning c.in_ok-peers.peers.items c.in_ok-left_out.left_out.items fault said left why)

pub invariant_of-result : goal.invariant_of-result
invariant_of-result c = record {
  among = search rules;
  others = search rules;
  once = search rules;
  named = λ restored. subst (λ (servers : List ServerId). AreNamed c.args.id c.args.servers c.in_ok-peers.peers.items servers) c.deref-3.ensures.value
      (subst (λ (peers : List Peer). AreNamed c.args.id c.args.servers peers c.deref-3.result.now) c.deref-2.ensures.value (c.in_ok-fits_beginning.ensures.named restored));
}
