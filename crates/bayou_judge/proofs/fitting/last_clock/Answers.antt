use Rattle.std.proofs.Common.{◌≡◌, ◌<◌, ◌≤◌, false, true, slice_index, ap, sym, ◌∙◌, subst, arith}
use Rattle.bayou_base.specs.declared.server.ServerId.{ServerId}
use Rattle.bayou_base.specs.declared.stamp.Stamp.{Stamp}
use Rattle.bayou_base.specs.declared.wid.Wid.{Wid}
use Rattle.bayou_lang.specs.declared.write.Write.{Write}
use Rattle.bayou_lang.specs.Writes.{count_of}
use Rattle.bayou_lang.specs.Laws.Fitting.{covered-where_held}
use Rattle.bayou_lang.specs.Laws.Clocks.{IsLastClock, IsLastClock-held, no_clock}
use Rattle.bayou_judge.proofs.DumpsClocks.{count_within}
use Rattle.bayou_judge.proofs.fitting.last_clock.Goals as goal

pub returns-in_default-new-clause-value : goal.returns-in_default-new-clause-value
returns-in_default-new-clause-value c =
    let counts = c.args.counts.now in
    let held = c.args.held.now in
    let within = c.requires.within c.args.server c.requires.server in
    let most = count_within c.requires.fitting.0 held c.args.server c.requires.fitting.1 in
    let at : c.get.result ≡ slice_index counts c.args.server = c.get.ensures.value ∙ ap (slice_index counts) c.in-Some.ensures.value in
    let none : 0 < slice_index counts c.args.server → ⊥ = λ some. let both : false ≡ true = c.in_default-new.ensures.within.1 (omega (arith, at, some), omega (arith, at, most, within)) in cc in
    no_clock c.args.server (slice_index counts c.args.server) held (omega (arith, none))

pub returns-in-Some-find-clause-value : goal.returns-in-Some-find-clause-value
returns-in-Some-find-clause-value c =
    let counts = c.args.counts.now in
    let found = c.in-Some-find.ensures.found in
    let named = c.in-Some-new.ensures.value in
    let at : c.get.result ≡ slice_index counts c.args.server = c.get.ensures.value ∙ ap (slice_index counts) c.in-Some.ensures.value in
    let last = IsLastClock-held c.requires.fitting.0 c.args.held.now c.args.server (slice_index counts c.args.server) c.in-Some-find.write.now c.requires.fitting.1 found.0
    (ap (λ (wid : Wid). wid.origin.index) found.1 ∙ ap (λ (server : ServerId). server.index) named.0 ∙ c.in-Some.ensures.value)
    (ap (λ (wid : Wid). wid.seq) found.1 ∙ named.1 ∙ at) in
    subst (IsLastClock c.args.server (slice_index counts c.args.server) c.args.held.now) (ap (λ (stamp : Stamp). stamp.clock) (sym c.stamp.ensures)) last

pub returns-in-None-clause-value : goal.returns-in-None-clause-value
returns-in-None-clause-value c =
    let counts = c.args.counts.now in
    let wid = c.in-Some-new.wid in
    let named = c.in-Some-new.ensures.value in
    let at : c.get.result ≡ slice_index counts c.args.server = c.get.ensures.value ∙ ap (slice_index counts) c.in-Some.ensures.value in
    let here : wid.origin.index ≡ c.args.server = ap (λ (server : ServerId). server.index) named.0 ∙ c.in-Some.ensures.value in
    let within : wid.seq ≤ slice_index (count_of c.args.held.now) wid.origin.index =
    omega (arith, named.1, at, c.requires.within c.args.server c.requires.server, ap (slice_index (count_of c.args.held.now)) here) in
    let any = (covered-where_held c.requires.fitting.0 c.args.held.now wid c.requires.fitting.1).1 within in
    absurd (c.in-None.ensures.missing any.0 any.1 any.2 (ap (λ (write : Write). write.wid) any.3 ∙ any.4))
