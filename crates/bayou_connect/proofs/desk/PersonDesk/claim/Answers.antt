use Rattle.std.proofs.Common.{◌≡◌, ◌∷◌, Bool, MatchBool, true, false, refl, rules, subst, sym}
use Rattle.bayou_connect.specs.Claiming.{MakesClaim}
use Rattle.bayou_connect.proofs.Going.{then_ok}
use Rattle.bayou_streams.specs.Account.{account}
use Rattle.bayou_connect.proofs.desk.PersonDesk.claim.Goals as goal

pub returns-then-not-are_free : goal.returns-then-not-are_free
returns-then-not-are_free g c =
    let claim = c.args.claim in
    let looked = c.are_free.new.self in
    let line = account g.W.Write.contents c.are_free.new.output in
    let no : c.in_ok-are_free.are_free ≡ false = search rules in
    record {
      are_free = c.in_ok-are_free.are_free;
      looked = looked;
      line = line;
      look = c.in_ok-are_free.ensures.look;
      rest = subst (λ (b : Bool). MatchBool b (MakesClaim c.args.who claim.value.now (claim.key.now ∷ claim.others.now) c.args.program looked looked line line) ((looked ≡ looked) × (line ≡ line))) (sym no) (refl, refl);
    }

pub returns : goal.returns
returns g c =
    let claim = c.args.claim in
    let looked = c.are_free.new.self in
    let new = c.make_claim.new.self in
    let line = account g.W.Write.contents c.are_free.new.output in
    let after = account g.W.Write.contents c.make_claim.new.output in
    let yes : c.in_ok-are_free.are_free ≡ true = search rules in
    then_ok c.make_claim.result _ _ c.make_claim.ensures (λ made. record {
      are_free = c.in_ok-are_free.are_free;
      looked = looked;
      line = line;
      look = c.in_ok-are_free.ensures.look;
      rest = subst (λ (b : Bool). MatchBool b (MakesClaim c.args.who claim.value.now (claim.key.now ∷ claim.others.now) c.args.program looked new line after) ((new ≡ looked) × (after ≡ line))) (sym yes) made;
    })
