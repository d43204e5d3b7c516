use Rattle.std.proofs.Common.{arith, ◌≡◌, ◌+◌, ◌≤◌, List, ℕ, Bool, drop, get_or, length, true, false, rules, subst, sym}
use Rattle.bayou_connect.specs.Claiming.{LooksFree, LookFree}
use Rattle.bayou_connect.proofs.Claimed.{next_of, none_left, look_ends, look_none, look_on}
use Rattle.bayou_streams.specs.Account.{account}
use Rattle.bayou_connect.proofs.desk.PersonDesk.are_free.Goals as goal

pub returns-then-not-branch-clause-look : goal.returns-then-not-branch-clause-look
returns-then-not-branch-clause-look g c =
    let claim = c.args.claim in
    let before = account g.W.Write.contents c.args.output.now in
    let line = account g.W.Write.contents c.is_free.new.output in
    let no : c.in_ok-is_free.field-0 ≡ false = search rules in
    look_ends c.args.who claim.value.now claim.key.now claim.others.now c.args.self.now c.is_free.new.self before line
    (subst (λ (b : Bool). LooksFree c.args.who claim.value.now claim.key.now c.args.self.now c.is_free.new.self before line b) no c.in_ok-is_free.ensures.read)

pub loop-key-init : goal.loop-key-init
loop-key-init g c =
    let claim = c.args.claim in
    let before = account g.W.Write.contents c.args.output.now in
    let line = account g.W.Write.contents c.is_free.new.output in
    let yes : c.in_ok-is_free.field-0 ≡ true = search rules in
    record {
      same = c.in_ok-is_free.ensures.same;
      left = λ new after are_free rest. look_on c.args.who claim.value.now claim.key.now claim.others.now c.args.self.now c.is_free.new.self new before line after are_free
          (subst (λ (b : Bool). LooksFree c.args.who claim.value.now claim.key.now c.args.self.now c.is_free.new.self before line b) yes c.in_ok-is_free.ensures.read) rest;
    }

pub returns-then-not-branch-2-clause-look : goal.returns-then-not-branch-2-clause-look
returns-then-not-branch-2-clause-look g c =
    let claim = c.args.claim in
    let old = c.loop-key.self in
    let looked = c.is_free-in-loop-key.new.self in
    let before = account g.W.Write.contents c.loop-key.output in
    let line = account g.W.Write.contents c.is_free-in-loop-key.new.output in
    let at = c.loop-key.key-index in
    let key = get_or claim.others.now at c.key-item.result in
    let no : c.in_ok-is_free-2.field-0 ≡ false = search rules in
    c.loop-key.invariant.left looked line false
    (subst (λ (keys : List (List ℕ)). LookFree c.args.who claim.value.now keys old looked before line false) (sym (next_of claim.others.now at c.key-item.result c.loop-key-test.true))
    (look_ends c.args.who claim.value.now key (drop (at + 1) claim.others.now) old looked before line
    (subst (λ (k : List ℕ). LooksFree c.args.who claim.value.now k old looked before line false) c.key-item.is
    (subst (λ (b : Bool). LooksFree c.args.who claim.value.now c.key-item.result old looked before line b) no c.in_ok-is_free-2.ensures.read))))

pub loop-key-preserved : goal.loop-key-preserved
loop-key-preserved g c =
    let claim = c.args.claim in
    let old = c.loop-key.self in
    let looked = c.is_free-in-loop-key.new.self in
    let before = account g.W.Write.contents c.loop-key.output in
    let line = account g.W.Write.contents c.is_free-in-loop-key.new.output in
    let at = c.loop-key.key-index in
    let key = get_or claim.others.now at c.key-item.result in
    let yes : c.in_ok-is_free-2.field-0 ≡ true = search rules in
    record {
      same = search rules;
      left = λ new after are_free rest. c.loop-key.invariant.left new after are_free
          (subst (λ (keys : List (List ℕ)). LookFree c.args.who claim.value.now keys old new before after are_free) (sym (next_of claim.others.now at c.key-item.result c.loop-key-test.true))
          (look_on c.args.who claim.value.now key (drop (at + 1) claim.others.now) old looked new before line after are_free
          (subst (λ (k : List ℕ). LooksFree c.args.who claim.value.now k old looked before line true) c.key-item.is
          (subst (λ (b : Bool). LooksFree c.args.who claim.value.now c.key-item.result old looked before line b) yes c.in_ok-is_free-2.ensures.read)) rest));
    }

pub returns-clause-look : goal.returns-clause-look
returns-clause-look g c =
    let claim = c.args.claim in
    let desk = c.loop-key.self in
    let line = account g.W.Write.contents c.loop-key.output in
    let over : length claim.others.now ≤ c.loop-key.key-index = omega (arith, c.loop-key-test.false) in
    c.loop-key.invariant.left desk line true
    (subst (λ (keys : List (List ℕ)). LookFree c.args.who claim.value.now keys desk desk line line true) (sym (none_left claim.others.now c.loop-key.key-index over)) (look_none c.args.who claim.value.now desk line))
