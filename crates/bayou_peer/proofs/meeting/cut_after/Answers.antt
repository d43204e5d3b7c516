use Rattle.std.proofs.Common.{◌≡◌, ◌+◌, inl, inr, ap, subst, sym, arith, length}
use Rattle.std.proofs.lemmas.List.{take_rest}
use Rattle.bayou_peer.proofs.Passing.{Passed, ends_behind, front_of, goes_on, none_cut}
use Rattle.bayou_peer.proofs.Valid.{one_by_one}
use Rattle.bayou_peer.proofs.meeting.cut_after.Goals as goal

pub returns-in_default : goal.returns-in_default
returns-in_default c sent each few is =
    let (len, has, sized) = c.in-Some.ensures in
    let beyond = ends_behind c.loop.counter sent c.loop.rest.now (one_by_one sent each) few (inr (len, has, omega (arith, sized, c.if-len-rest.false))) (c.loop.invariant.passed sent each few is) in
    none_cut c.args.items sent c.args.answer.now is (omega (arith, beyond, c.loop-test.true))

pub returns-in_default-2 : goal.returns-in_default-2
returns-in_default-2 c sent each few is =
    let beyond = ends_behind c.loop.counter sent c.loop.rest.now (one_by_one sent each) few (inl c.in_default.ensures) (c.loop.invariant.passed sent each few is) in
    none_cut c.args.items sent c.args.answer.now is (omega (arith, beyond, c.loop-test.true))

pub loop-preserved : goal.loop-preserved
loop-preserved c =
    let (len, has, sized) = c.in-Some.ensures in
    let rest = c.loop.rest.now in
    record {
      passed = λ sent each few is.
          subst (λ l. Passed (c.loop.counter + 1) sent l) (sym (take_rest rest c.in-Some.len)) (goes_on c.loop.counter sent rest len c.in-Some.len (one_by_one sent each) few (c.loop.invariant.passed sent each few is) has sized);
      within = omega (arith, c.loop.invariant.within, c.if-len-rest.true, ap length (take_rest rest c.in-Some.len));
    }

pub returns : goal.returns
returns c sent each few is =
    let all : c.loop.counter ≡ c.args.items = omega (arith, c.loop.auto.counter-end, c.loop-test.false) in
    front_of c.args.items sent c.args.answer.now c.loop.rest.now is (subst (λ k. Passed k sent c.loop.rest.now) all (c.loop.invariant.passed sent each few is))
