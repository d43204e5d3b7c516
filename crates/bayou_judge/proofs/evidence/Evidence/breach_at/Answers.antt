use Rattle.std.proofs.Common.{◌≡◌, take, subst, arith}
use Rattle.bayou_judge.specs.Inner.Needs.{IsBreachOfBoth, IsKept}
use Rattle.bayou_judge.proofs.Served.{one_entry, IsKept-more}
use Rattle.bayou_judge.proofs.evidence.Evidence.breach_at.Goals as goal

pub returns-in-Some : goal.returns-in-Some
returns-in-Some c second got is =
    let entries = c.args.self.now.entries in
    let dumps = c.args.self.now.dumps in
    let same : c.entry-second.result.now ≡ second = one_entry entries c.args.at c.entry-second.result.now second c.entry-second.ensures.is got in
    let first = c.entry-first.result.now in
    record {
      place = c.loop-place.place;
      first = first;
      second = second;
      first_at = c.entry-first.ensures.is;
      second_at = got;
      before = c.loop-place-test.true;
      second_is = is;
      both = subst (λ entry. IsBreachOfBoth dumps c.args.guarantee c.args.session.index first entry c.in-Some.breach) same c.in-Some.ensures;
      none_before = subst (λ entry. IsKept dumps c.args.guarantee c.args.session.index (take c.loop-place.place entries) entry) same c.loop-place.invariant;
    }

pub loop-place-preserved : goal.loop-place-preserved
loop-place-preserved c =
    let entries = c.args.self.now.entries in
    let dumps = c.args.self.now.dumps in
    IsKept-more dumps c.args.guarantee c.args.session.index entries c.loop-place.place c.entry-first.result.now c.entry-second.result.now
    c.entry-first.ensures.is c.loop-place.invariant c.in_default.ensures

pub returns : goal.returns
returns c second got is =
    let entries = c.args.self.now.entries in
    let dumps = c.args.self.now.dumps in
    let same : c.entry-second.result.now ≡ second = one_entry entries c.args.at c.entry-second.result.now second c.entry-second.ensures.is got in
    let end : c.loop-place.place ≡ c.args.at = omega (arith, c.loop-place-test.false, c.loop-place.auto.place-end) in
    subst (λ place. IsKept dumps c.args.guarantee c.args.session.index (take place entries) second) end
    (subst (IsKept dumps c.args.guarantee c.args.session.index (take c.loop-place.place entries)) same c.loop-place.invariant)
