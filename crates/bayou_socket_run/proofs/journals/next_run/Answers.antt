use Rattle.std.proofs.Common.{◌≡◌, ◌+◌, All, [], ◌∷◌, ◌++◌, take, ap, arith, subst, sym, ◌∙◌}
use Rattle.std.proofs.lemmas.List.{take_all, take_more}
use Rattle.bayou_socket_run.specs.Inner.Runs.{HasRunsBefore}
use Rattle.bayou_socket_run.proofs.Later.{one_more}
use Rattle.bayou_socket_run.proofs.journals.next_run.Goals as goal

pub loop-at-init : goal.loop-at-init
loop-at-init c = λ k d less. absurd (omega (arith, less))

pub loop-at-preserved : goal.loop-at-preserved
loop-at-preserved c =
    let items = c.args.servers.now.items in
    let server = c.index.result.now in
    let seen = take c.loop-at.at items in
    let more : take (c.loop-at.at + 1) items ≡ seen ++ server ∷ [] =
    take_more items c.loop-at.at server (omega (arith, c.loop-at-test.true, c.len-at-end.ensures, c.args.servers.now.ok)) ∙ ap (λ one. seen ++ one ∷ []) (sym c.index.ensures) in
    rw (more, c.max-last.ensures) (one_more (λ b. b.value.core) seen server c.loop-at.last c.last_run.result c.loop-at.invariant (rw (← c.deref.ensures) c.last_run.ensures))

pub returns-in-Some-clause-later : goal.returns-in-Some-clause-later
returns-in-Some-clause-later c =
    let items = c.args.servers.now.items in
    let all : take c.loop-at.at items ≡ items = take_all c.loop-at.at items (let ended = c.loop-at-test.false in omega (arith, ended, c.len-at-end.ensures, c.args.servers.now.ok)) in
    let seen = subst (λ l. All (λ server. HasRunsBefore (c.loop-at.last + 1) server.value.core) l) all c.loop-at.invariant in
    rw c.in-Some.ensures.1 seen
