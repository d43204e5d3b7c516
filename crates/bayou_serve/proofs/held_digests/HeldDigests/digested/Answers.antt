use Rattle.std.proofs.Common.{◌≡◌, ◌∙◌, ◌+◌, ◌<◌, List, None, Option, Some, ap, arith, get_or, length, refl, rules, subst, sym, ℕ}
use Rattle.bayou_serve.specs.HeldDigests.{TellsAt}
use Rattle.bayou_serve.proofs.Digesting.{one_more, told_all, told_some}
use Rattle.bayou_serve.proofs.held_digests.HeldDigests.digested.Goals as goal

pub loop-count-preserved : goal.loop-count-preserved
loop-count-preserved c =
    let within : c.loop-count.count-index < length c.args.inquiry.now.counts.items = search rules in
    let len : length c.push.new.self.items ≡ c.loop-count.count-index + 1 = search rules in (
      len,
      λ writes has.
          let (all, is) = c.loop-count.invariant.1 writes has in
          let tells : TellsAt writes (get_or c.args.inquiry.now.counts.items c.loop-count.count-index 0) (Some c.in-Some.digest) =
          subst (λ (counts : List ℕ). TellsAt writes (get_or counts c.loop-count.count-index 0) (Some c.in-Some.digest)) c.as_slice-count-items.ensures.value
          (subst (TellsAt writes _) c.in-Some.is (c.at.ensures writes has)) in
          let more = one_more writes c.args.inquiry.now.counts.items c.loop-count.count-index c.in-Some.digest c.loop-count.digests.items within tells all is in
          (more.0, c.push.ensures.items ∙ more.1),
    )

pub returns-after-loop-count : goal.returns-after-loop-count
returns-after-loop-count c writes has =
    let (all, is) = c.loop-count.invariant.1 writes has in
    let ended : c.loop-count.count-index ≡ length c.args.inquiry.now.counts.items = search rules in
    told_all writes c.args.inquiry.now.counts.items c.loop-count.digests.items c.loop-count.count-index ended all is

pub returns-in_default : goal.returns-in_default
returns-in_default c writes has =
    let (all, is) = c.loop-count.invariant.1 writes has in
    let within : c.loop-count.count-index < length c.args.inquiry.now.counts.items = search rules in
    let none : c.at.result ≡ None = search rules in
    let tells : TellsAt writes (get_or c.args.inquiry.now.counts.items c.loop-count.count-index 0) None =
    subst (λ (counts : List ℕ). TellsAt writes (get_or counts c.loop-count.count-index 0) None) c.as_slice-count-items.ensures.value (subst (TellsAt writes _) none (c.at.ensures writes has)) in
    told_some writes c.args.inquiry.now.counts.items c.loop-count.digests.items c.loop-count.count-index within tells all is
