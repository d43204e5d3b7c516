-- A request asks for one thing.
use Rattle.std.proofs.Common.{arith, length, ap, sym, ◌∙◌}
use Rattle.http.specs.declared.request.Parts.{Parts}
use Rattle.bayou_web.specs.Door.{AsksPage, MayDo, MayLook}
use Rattle.bayou_web.specs.declared.door.PageDoor.{PageDoor}

pub no_page : (door : PageDoor) (head : Parts) → AsksPage door head → MayDo door head → ⊥
no_page door head page may = omega (arith, ap length (sym page.1.1 ∙ may.1.1))

pub no_look : (door : PageDoor) (head : Parts) → MayLook door head → MayDo door head → ⊥
no_look door head look may = omega (arith, ap length (sym look.1.1 ∙ may.1.1))
