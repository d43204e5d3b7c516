use Rattle.std.proofs.Common.{◌≡◌, ◌∙◌, ◌≤◌, ◌*◌, ℕ, List, length, inl, ap, sym, subst, arith, refl, get_or, set, Bor}
use Rattle.bayou_base.specs.declared.limits.TheConstants.{MAX_TURNS, READ_BYTES}
use Rattle.bayou_lang.specs.declared.write.Write.{Write}
use Rattle.bayou_lang.specs.Writes.{lacking_of}
use Rattle.bayou_peer.specs.Meeting.{cut_answer}
use Rattle.bayou_answers.specs.declared.answer.Transfer.TheVariants.{NotRunning}
use Rattle.bayou_machine.specs.declared.script_server.ScriptServer.{ScriptServer}
use Rattle.bayou_machine.specs.Exchange.{IsExchanged}
use Rattle.bayou_machine.specs.Inner.Sent.{IsGiven}
use Rattle.bayou_machine.proofs.Exchanged.{given, no_answer}
use Rattle.bayou_machine.proofs.Standing.{one_stands, put_same, same_machine, stands_at}
use Rattle.bayou_machine.proofs.parties.Parties.transfer.Goals as goal
use Rattle.bayou_machine.proofs.parties.Parties.transfer.Goals.{in-Some, in-None}

pub returns-in-Stopped : goal.returns-in-Stopped
returns-in-Stopped c counts_of same =
    let replicas = c.self.inside.servers.items in
    let servers : replicas ≡ c.args.self.now.servers = ap (λ standing. standing.servers) c.self.view_is in
    let count : c.self.inside.plan.count ≡ c.args.self.now.count = ap (λ standing. standing.count) c.self.view_is in
    let before = c.index.result.now in
    record {
      before = before;
      sender = get_or replicas c.args.from.index before;
      after = before;
      exchange = NotRunning;
      takes = stands_at replicas c.args.self.now.servers c.self.inside.plan.count c.args.to.index c.from.result before servers c.self.invariant.0 c.from.ensures
          (omega (arith, count, c.requires.to)) c.index.ensures;
      sends = one_stands replicas c.args.self.now.servers c.self.inside.plan.count c.args.from.index before servers c.self.invariant.0 (omega (arith, count, c.requires.from));
      answered = refl;
      does = (inl (c.in-Stopped.field-0, c.in-Stopped.is), refl);
      only = same_machine c.args.self.now replicas c.args.to.index c.from.result before servers c.from.ensures c.index.ensures;
    }

pub returns-in-Err : goal.returns-in-Err
returns-in-Err c counts_of same =
    let replicas = c.self.inside.servers.items in
    let servers : replicas ≡ c.args.self.now.servers = ap (λ standing. standing.servers) c.self.view_is in
    let count : c.self.inside.plan.count ≡ c.args.self.now.count = ap (λ standing. standing.count) c.self.view_is in
    let before = c.index.result.now in
    let sender = c.index_mut.result.now in
    let takes = stands_at replicas c.args.self.now.servers c.self.inside.plan.count c.args.to.index c.from.result before servers c.self.invariant.0 c.from.ensures
    (omega (arith, count, c.requires.to)) c.index.ensures in
    record {
      before = before;
      sender = sender;
      after = before;
      exchange = c.in-Err.transfer;
      takes = takes;
      sends = stands_at replicas c.args.self.now.servers c.self.inside.plan.count c.args.from.index c.from-2.result sender servers c.self.invariant.0 c.from-2.ensures
          (omega (arith, count, c.requires.from)) c.index_mut.ensures.value;
      answered = refl;
      does = subst (λ counts. IsExchanged counts c.args.cut before sender c.in-Err.transfer before) (sym (same before takes))
          (no_answer c.args.counts.now c.args.cut before sender c.in-Err.transfer c.in_default.field-0 c.in_default.is c.in-Err.ensures.none);
      only = ap (λ (list : List ScriptServer). record { count = c.self.inside.plan.count; limit = c.self.inside.plan.limit; servers = list; sessions = c.self.inside.seats.items })
          (put_same replicas c.from-2.result sender c.answer.new.self c.index_mut.ensures.value c.answer.ensures.same) ∙ c.self.view_is
          ∙ same_machine c.args.self.now replicas c.args.to.index c.from.result before servers c.from.ensures c.index.ensures;
    }

pub take_from-requires : goal.take_from-requires
take_from-requires c =
    let (other, is, sends) = c.in-Ok.ensures.sent in
    let sent : List Write = lacking_of c.args.counts.now other.core.held in
    let input : c.match-cut.input.now ≡ cut_answer c.args.cut sent = elim c.match-cut.branch [
      | in-Some w ↦
          ap (λ (b : Bor (List ℕ)). b.now) w.input-is ∙ w.cut_after-input.ensures sent sends.valid (omega (arith, sends.few)) (w.deref.ensures.value ∙ sends.spelled)
          ∙ ap (λ cut. cut_answer cut sent) (sym w.in-Some.is)
      | in-None w ↦
          ap (λ (b : Bor (List ℕ)). b.now) w.input-is ∙ w.deref-input.ensures.value ∙ sends.spelled ∙ ap (λ cut. cut_answer cut sent) (sym w.in-None.is)
    ] in
    subst (λ (l : List ℕ). length l ≤ READ_BYTES * MAX_TURNS) (sym input) (c.an_answer_is_short.ensures sent c.args.cut sends.valid sends.few)

pub returns : goal.returns
returns c counts_of same =
    let replicas = c.self.inside.servers.items in
    let servers : replicas ≡ c.args.self.now.servers = ap (λ standing. standing.servers) c.self.view_is in
    let count : c.self.inside.plan.count ≡ c.args.self.now.count = ap (λ standing. standing.count) c.self.view_is in
    let before = c.index_mut-2.result.now in
    let sender = c.index_mut.result.now in
    let after = c.take_from.new.self in
    let kept : set replicas c.from-2.result c.answer.new.self ≡ replicas =
    put_same replicas c.from-2.result sender c.answer.new.self c.index_mut.ensures.value c.answer.ensures.same in
    let found : before ≡ get_or replicas c.from-3.result before =
    subst (λ (list : List ScriptServer). before ≡ get_or list c.from-3.result before) kept c.index_mut-2.ensures.value in
    let takes = stands_at replicas c.args.self.now.servers c.self.inside.plan.count c.args.to.index c.from-3.result before servers c.self.invariant.0 c.from-3.ensures
    (omega (arith, count, c.requires.to)) found in
    let (other, is, sends) = c.in-Ok.ensures.sent in
    let sent : List Write = lacking_of c.args.counts.now other.core.held in
    let input : c.match-cut.input.now ≡ cut_answer c.args.cut sent = elim c.match-cut.branch [
      | in-Some w ↦
          ap (λ (b : Bor (List ℕ)). b.now) w.input-is ∙ w.cut_after-input.ensures sent sends.valid (omega (arith, sends.few)) (w.deref.ensures.value ∙ sends.spelled)
          ∙ ap (λ cut. cut_answer cut sent) (sym w.in-Some.is)
      | in-None w ↦
          ap (λ (b : Bor (List ℕ)). b.now) w.input-is ∙ w.deref-input.ensures.value ∙ sends.spelled ∙ ap (λ cut. cut_answer cut sent) (sym w.in-None.is)
    ] in
    let taken : IsGiven sent c.args.cut before c.take_from.result after = c.take_from.ensures sent c.args.cut sends.valid sends.few input in
    record {
      before = before;
      sender = sender;
      after = after;
      exchange = c.take_from.result;
      takes = takes;
      sends = stands_at replicas c.args.self.now.servers c.self.inside.plan.count c.args.from.index c.from-2.result sender servers c.self.invariant.0 c.from-2.ensures
          (omega (arith, count, c.requires.from)) c.index_mut.ensures.value;
      answered = refl;
      does = subst (λ counts. IsExchanged counts c.args.cut before sender c.take_from.result after) (sym (same before takes))
          (given c.args.counts.now c.args.cut before sender after c.take_from.result other is taken);
      only = ap (λ (list : List ScriptServer). record { count = c.self.inside.plan.count; limit = c.self.inside.plan.limit; servers = set list c.from-3.result after; sessions = c.self.inside.seats.items }) kept
          ∙ (rw (← c.self.view_is, c.from-3.ensures) refl);
    }
