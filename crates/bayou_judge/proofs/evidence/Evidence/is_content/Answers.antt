use Rattle.std.proofs.Common.{◌≡◌, inl, inr, length, sym, ◌∙◌, arith}
use Rattle.std.proofs.lemmas.Bool.{cases_lt}
use Rattle.bayou_judge.proofs.Demands.{beyond}
use Rattle.bayou_judge.proofs.evidence.Evidence.is_content.Goals as goal

pub returns : goal.returns
returns c write server held needed lacks =
    let dumps = c.args.self.now.dumps in
    let size : length dumps ≡ c.from-server-end.result = c.servers.ensures.dumps ∙ sym c.from-server-end.ensures in
    elim (cases_lt server (length dumps)) as (λ _. ⊥) [
      | inl within ↦ c.loop-server.invariant server write (omega (arith, within, size, c.loop-server-test.false)) held needed lacks
      | inr past ↦ beyond dumps c.args.home.index c.args.what.now server write past (omega (arith, size, c.requires.home)) lacks
    ]
