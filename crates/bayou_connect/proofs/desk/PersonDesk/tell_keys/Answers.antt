use Rattle.std.proofs.Common.{arith, ◌≡◌, ◌+◌, ◌≤◌, List, ℕ, Bool, drop, get_or, length, true, false, rules, subst, sym}
use Rattle.bayou_connect.specs.Claiming.{TellsKey, TellsKeys}
use Rattle.bayou_connect.proofs.Claimed.{next_of, none_left, tells_end, tells_none, tells_on}
use Rattle.bayou_streams.specs.Account.{account}
use Rattle.bayou_connect.proofs.desk.PersonDesk.tell_keys.Goals as goal

pub returns-then-not-branch-clause-told : goal.returns-then-not-branch-clause-told
returns-then-not-branch-clause-told g c =
    let claim = c.args.claim in
    let before = account g.W.Write.contents c.args.output.now in
    let line = account g.W.Write.contents c.tell_key.new.output in
    let no : c.in_ok-tell_key.field-0 ≡ false = search rules in
    tells_end c.args.who claim.value.now c.args.at claim.key.now claim.others.now c.args.self.now c.tell_key.new.self before line
    (subst (λ (b : Bool). TellsKey c.args.who claim.value.now c.args.at claim.key.now c.args.self.now c.tell_key.new.self before line b) no c.in_ok-tell_key.ensures.told)

pub loop-key-init : goal.loop-key-init
loop-key-init g c =
    let claim = c.args.claim in
    let before = account g.W.Write.contents c.args.output.now in
    let line = account g.W.Write.contents c.tell_key.new.output in
    let yes : c.in_ok-tell_key.field-0 ≡ true = search rules in
    record {
      same = c.in_ok-tell_key.ensures.same;
      left = λ new after are_other rest. tells_on c.args.who claim.value.now c.args.at claim.key.now claim.others.now c.args.self.now c.tell_key.new.self new before line after are_other
          (subst (λ (b : Bool). TellsKey c.args.who claim.value.now c.args.at claim.key.now c.args.self.now c.tell_key.new.self before line b) yes c.in_ok-tell_key.ensures.told) rest;
    }

pub returns-then-not-branch-2-clause-told : goal.returns-then-not-branch-2-clause-told
returns-then-not-branch-2-clause-told g c =
    let claim = c.args.claim in
    let old = c.loop-key.self in
    let looked = c.tell_key-in-loop-key.new.self in
    let before = account g.W.Write.contents c.loop-key.output in
    let line = account g.W.Write.contents c.tell_key-in-loop-key.new.output in
    let at = c.loop-key.key-index in
    let key = get_or claim.others.now at c.key-item.result in
    let no : c.in_ok-tell_key-2.field-0 ≡ false = search rules in
    c.loop-key.invariant.left looked line false
    (subst (λ (keys : List (List ℕ)). TellsKeys c.args.who claim.value.now c.args.at keys old looked before line false) (sym (next_of claim.others.now at c.key-item.result c.loop-key-test.true))
    (tells_end c.args.who claim.value.now c.args.at key (drop (at + 1) claim.others.now) old looked before line
    (subst (λ (k : List ℕ). TellsKey c.args.who claim.value.now c.args.at k old looked before line false) c.key-item.is
    (subst (λ (b : Bool). TellsKey c.args.who claim.value.now c.args.at c.key-item.result old looked before line b) no c.in_ok-tell_key-2.ensures.told))))

pub loop-key-preserved : goal.loop-key-preserved
loop-key-preserved g c =
    let claim = c.args.claim in
    let old = c.loop-key.self in
    let looked = c.tell_key-in-loop-key.new.self in
    let before = account g.W.Write.contents c.loop-key.output in
    let line = account g.W.Write.contents c.tell_key-in-loop-key.new.output in
    let at = c.loop-key.key-index in
    let key = get_or claim.others.now at c.key-item.result in
    let yes : c.in_ok-tell_key-2.field-0 ≡ true = search rules in
    record {
      same = search rules;
      left = λ new after are_other rest. c.loop-key.invariant.left new after are_other
          (subst (λ (keys : List (List ℕ)). TellsKeys c.args.who claim.value.now c.args.at keys old new before after are_other) (sym (next_of claim.others.now at c.key-item.result c.loop-key-test.true))
          (tells_on c.args.who claim.value.now c.args.at key (drop (at + 1) claim.others.now) old looked new before line after are_other
          (subst (λ (k : List ℕ). TellsKey c.args.who claim.value.now c.args.at k old looked before line true) c.key-item.is
          (subst (λ (b : Bool). TellsKey c.args.who claim.value.now c.args.at c.key-item.result old looked before line b) yes c.in_ok-tell_key-2.ensures.told)) rest));
    }

pub returns-clause-told : goal.returns-clause-told
returns-clause-told g c =
    let claim = c.args.claim in
    let desk = c.loop-key.self in
    let line = account g.W.Write.contents c.loop-key.output in
    let over : length claim.others.now ≤ c.loop-key.key-index = omega (arith, c.loop-key-test.false) in
    c.loop-key.invariant.left desk line true
    (subst (λ (keys : List (List ℕ)). TellsKeys c.args.who claim.value.now c.args.at keys desk desk line line true) (sym (none_left claim.others.now c.loop-key.key-index over)) (tells_none c.args.who claim.value.now c.args.at desk line))
