use Rattle.std.proofs.Common.{List, ℕ, true, refl, subst, sym}
use Rattle.bayou_base.specs.declared.session.SessionId.{SessionId}
use Rattle.bayou_connect.specs.Claiming.{TellsBecame}
use Rattle.bayou_connect.specs.Wishing.{DoesWish, GetsKeys}
use Rattle.bayou_person.specs.declared.wish.Wish.{Wish}
use Rattle.bayou_connect.proofs.Claimed.{gets_on, own_is}
use Rattle.bayou_streams.specs.Account.{account}
use Rattle.bayou_connect.proofs.desk.PersonDesk.wish.Goals as goal

pub returns-in_ok-get_all-in-Get : goal.returns-in_ok-get_all-in-Get
returns-in_ok-get_all-in-Get g c =
    let old = c.args.self.now in
    let got = c.get_one.new.self in
    let new = c.get_all.new.self in
    let before = account g.W.Write.contents c.args.output.now in
    let line = account g.W.Write.contents c.get_one.new.output in
    let after = account g.W.Write.contents c.get_all.new.output in
    subst (λ (wish : Wish). DoesWish wish old new before after true) (sym c.in-Get.is) (
      refl,
      gets_on c.in-Get.key c.in-Get.others.items old got new before line after c.in_ok-get_one-in-Get.ensures
          (subst (λ (keys : List (List ℕ)). GetsKeys keys got new line after) c.as_slice.ensures.value c.in_ok-get_all-in-Get.ensures),
    )

pub returns-in_ok-list-in-List : goal.returns-in_ok-list-in-List
returns-in_ok-list-in-List g c =
    let old = c.args.self.now in
    let new = c.list.new.self in
    let before = account g.W.Write.contents c.args.output.now in
    let after = account g.W.Write.contents c.list.new.output in
    subst (λ (wish : Wish). DoesWish wish old new before after true) (sym c.in-List.is) (
      refl,
      c.in_ok-list-in-List.ensures.listed,
    )

pub returns-in_ok-list-in-Rows : goal.returns-in_ok-list-in-Rows
returns-in_ok-list-in-Rows g c =
    let old = c.args.self.now in
    let new = c.list-in-Rows.new.self in
    let before = account g.W.Write.contents c.args.output.now in
    let after = account g.W.Write.contents c.list-in-Rows.new.output in
    subst (λ (wish : Wish). DoesWish wish old new before after true) (sym c.in-Rows.is) (
      refl,
      c.in_ok-list-in-Rows.ensures.listed,
    )

pub returns-in_ok-became-in-Became : goal.returns-in_ok-became-in-Became
returns-in_ok-became-in-Became g c =
    let old = c.args.self.now in
    let new = c.became.new.self in
    let before = account g.W.Write.contents c.args.output.now in
    let after = account g.W.Write.contents c.became.new.output in
    subst (λ (wish : Wish). DoesWish wish old new before after true) (sym c.in-Became.is) (
      refl,
      subst (λ (who : SessionId). TellsBecame who c.in-Became.wid old new before after) (own_is _) c.in_ok-became-in-Became.ensures,
    )
