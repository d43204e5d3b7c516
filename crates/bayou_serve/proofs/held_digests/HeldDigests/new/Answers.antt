use Rattle.std.proofs.Common.{All, [], length, rules, ◌≡◌}
use Rattle.bayou_base.specs.declared.limits.TheConstants.{SERVERS}
use Rattle.bayou_greeting.specs.OriginDigests.{AreDigestsOf}
use Rattle.bayou_serve.proofs.Digesting.{nothing_read}
use Rattle.bayou_serve.proofs.held_digests.HeldDigests.new.Goals as goal

pub returns-clause-none : goal.returns-clause-none
returns-clause-none c origin =
    let all : All (λ digests. AreDigestsOf digests []) c.from_fn.result = search rules in
    nothing_read _ origin c.from_fn.ensures.items.long all
