use Rattle.std.proofs.Common.{◌≡◌, ◌+◌, [], ◌++◌, List, ap, subst, ◌∙◌, arith, append_assoc}
use Rattle.std.proofs.lemmas.Result.{err_from_is_err_and}
use Rattle.std.specs.List.{AllByRecursion}
use Rattle.bayou_peer.specs.declared.pulling.Pulled.{Pulled}
use Rattle.bayou_peer.specs.Inner.Steps.{FollowsItems, IsNoItem}
use Rattle.bayou_peer.specs.Pulls.{Received}
use Rattle.bayou_peer.proofs.Received.{received_end, received_other, received_rest}
use Rattle.bayou_peer.proofs.Front.{frames_front, received_all, received_up_to}
use Rattle.bayou_server.specs.Laws.TakesAll.{told_few}
use Rattle.bayou_wire.specs.declared.frame.Frame.{Frame}
use Rattle.bayou_wire.specs.Spelling.{IsFrame}
use Rattle.bayou_wire.specs.Stream.{spelling, spellings}
use Rattle.bayou_peer.proofs.pulling.take_came.Goals as goal

pub overflow_add-pulled : goal.overflow_add-pulled
overflow_add-pulled g c =
    let (left, takes, none) = c.take_all-told.ensures.took in
    let few = told_few _ _ _ c.args.front.items.items left c.take_all-told.result takes in
    omega (arith, few, c.requires.few)

pub overflow_add-pulled-2 : goal.overflow_add-pulled-2
overflow_add-pulled-2 g c =
    let (left, takes, none) = c.take_all-told.ensures.took in
    let few = told_few _ _ _ c.args.front.items.items left c.take_all-told.result takes in
    omega (arith, few, c.requires.few)

pub take_other-requires-clause-few : goal.take_other-requires-clause-few
take_other-requires-clause-few g c =
    let (left, takes, none) = c.take_all-told.ensures.took in
    let few = told_few _ _ _ c.args.front.items.items left c.take_all-told.result takes in
    omega (arith, few, c.requires.few)

pub take_other-requires-clause-other : goal.take_other-requires-clause-other
take_other-requires-clause-other g c write is = subst IsNoItem c.in-Some-next.is c.requires.other write is

pub returns-in-Some-clause-goes : goal.returns-in-Some-clause-goes
returns-in-Some-clause-goes g c start read behind came all front before =
    let (left, takes, none) = c.take_all-told.ensures.took in
    let valid = frames_front c.args.front.items.items front.rest came front.split all in
    received_up_to (record { list = g.P.Replica.list; takes = g.P.Replica.takes }) start c.args.replica.now c.take_all-told.new.self read behind c.args.front.items.items front.rest c.take_all-told.result left
    c.args.pulled.now.taken c.args.pulled.now.had valid.0 takes (subst (λ (l : List Frame). Received {S = g.row.P.Denot} (record { list = g.P.Replica.list; takes = g.P.Replica.takes }) start c.args.replica.now read (spellings l ++ behind) c.args.pulled.now.taken c.args.pulled.now.had) front.split before) c.in-Some.refused c.in-Some.is

pub returns-in_err-take_other-in-Some-next-clause-goes : goal.returns-in_err-take_other-in-Some-next-clause-goes
returns-in_err-take_other-in-Some-next-clause-goes g c start read behind came all front before =
    let (left, takes, none) = c.take_all-told.ensures.took in
    let valid = frames_front c.args.front.items.items front.rest came front.split all in
    let taken = received_all (record { list = g.P.Replica.list; takes = g.P.Replica.takes }) start c.args.replica.now c.take_all-told.new.self read behind c.args.front.items.items front.rest c.take_all-told.result left
    c.args.pulled.now.taken c.args.pulled.now.had valid.0 takes (subst (λ (l : List Frame). Received {S = g.row.P.Denot} (record { list = g.P.Replica.list; takes = g.P.Replica.takes }) start c.args.replica.now read (spellings l ++ behind) c.args.pulled.now.taken c.args.pulled.now.had) front.split before)
    c.in_default.is (none c.in_default.is) in
    let (more, next, other) = subst (λ next. FollowsItems next front.rest) c.in-Some-next.is front.follows in
    let pulled : Pulled = record { taken = c.args.pulled.now.taken + c.take_all-told.result.taken; had = c.args.pulled.now.had + c.take_all-told.result.had } in
    let is : IsFrame c.in-Some-next.frame = (subst (AllByRecursion IsFrame) next valid.1).0 in
    let at : spellings front.rest ++ behind ≡ spelling c.in-Some-next.frame ++ (spellings more ++ behind) =
    ap (λ l. spellings l ++ behind) next ∙ append_assoc (spelling c.in-Some-next.frame) (spellings more) behind in
    let stands = received_rest (record { list = g.P.Replica.list; takes = g.P.Replica.takes }) start c.take_all-told.new.self read _ _ pulled.taken pulled.had at taken in
    let p = err_from_is_err_and c.from_residual.result c.from_residual.ensures.1 in
    rw (p.1, p.2, c.in_err-take_other-in-Some-next.ensures.bad.0)
    (received_other (record { list = g.P.Replica.list; takes = g.P.Replica.takes }) start c.take_all-told.new.self read (spellings more ++ behind) c.in-Some-next.frame pulled is c.in_err-take_other-in-Some-next.ensures.bad.1 stands)

pub returns-in_ok-take_other-in-Some-next-clause-goes : goal.returns-in_ok-take_other-in-Some-next-clause-goes
returns-in_ok-take_other-in-Some-next-clause-goes g c start read behind came all front before =
    let (left, takes, none) = c.take_all-told.ensures.took in
    let valid = frames_front c.args.front.items.items front.rest came front.split all in
    let taken = received_all (record { list = g.P.Replica.list; takes = g.P.Replica.takes }) start c.args.replica.now c.take_all-told.new.self read behind c.args.front.items.items front.rest c.take_all-told.result left
    c.args.pulled.now.taken c.args.pulled.now.had valid.0 takes (subst (λ (l : List Frame). Received {S = g.row.P.Denot} (record { list = g.P.Replica.list; takes = g.P.Replica.takes }) start c.args.replica.now read (spellings l ++ behind) c.args.pulled.now.taken c.args.pulled.now.had) front.split before)
    c.in_default.is (none c.in_default.is) in
    let (more, next, other) = subst (λ next. FollowsItems next front.rest) c.in-Some-next.is front.follows in
    let pulled : Pulled = record { taken = c.args.pulled.now.taken + c.take_all-told.result.taken; had = c.args.pulled.now.had + c.take_all-told.result.had } in
    let is : IsFrame c.in-Some-next.frame = (subst (AllByRecursion IsFrame) next valid.1).0 in
    let at : spellings front.rest ++ behind ≡ spelling c.in-Some-next.frame ++ (spellings more ++ behind) =
    ap (λ l. spellings l ++ behind) next ∙ append_assoc (spelling c.in-Some-next.frame) (spellings more) behind in
    let stands = received_rest (record { list = g.P.Replica.list; takes = g.P.Replica.takes }) start c.take_all-told.new.self read _ _ pulled.taken pulled.had at taken in
    received_end (record { list = g.P.Replica.list; takes = g.P.Replica.takes }) start c.take_all-told.new.self read (spellings more ++ behind) behind c.in-Some-next.frame pulled c.in_ok-take_other-in-Some-next.field-0
    c.in_ok-take_other-in-Some-next.ensures.ends.0 c.in_ok-take_other-in-Some-next.ensures.ends.1 stands

pub returns-in-None-clause-goes : goal.returns-in-None-clause-goes
returns-in-None-clause-goes g c start read behind came all front before =
    let (left, takes, none) = c.take_all-told.ensures.took in
    let valid = frames_front c.args.front.items.items front.rest came front.split all in
    let taken = received_all (record { list = g.P.Replica.list; takes = g.P.Replica.takes }) start c.args.replica.now c.take_all-told.new.self read behind c.args.front.items.items front.rest c.take_all-told.result left
    c.args.pulled.now.taken c.args.pulled.now.had valid.0 takes (subst (λ (l : List Frame). Received {S = g.row.P.Denot} (record { list = g.P.Replica.list; takes = g.P.Replica.takes }) start c.args.replica.now read (spellings l ++ behind) c.args.pulled.now.taken c.args.pulled.now.had) front.split before)
    c.in_default.is (none c.in_default.is) in
    let nothing : front.rest ≡ [] = subst (λ next. FollowsItems next front.rest) c.in-None.is front.follows in
    subst (λ (l : List Frame). Received {S = g.row.P.Denot} (record { list = g.P.Replica.list; takes = g.P.Replica.takes }) start c.take_all-told.new.self read (spellings l ++ behind)
    (c.args.pulled.now.taken + c.take_all-told.result.taken) (c.args.pulled.now.had + c.take_all-told.result.had)) nothing taken
