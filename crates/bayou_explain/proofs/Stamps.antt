-- Whether two stamps are one.
use Rattle.std.proofs.Common.{◌≡◌, ◌↔◌, ℕ, Bool, true, false, ◌&&◌, Decides, ap, refl}
use Rattle.std.proofs.lemmas.Bool.Decides.{Decides-eqb}
use Rattle.bayou_base.specs.declared.stamp.Stamp.{Stamp}
use Rattle.bayou_base.specs.contracts.stamp.StampPartialEq.TheImpl as stamp_eq
use Rattle.bayou_lang.specs.Laws.Equality.{server-ext, stamp-ext}

both : {P Q R : Type 0} (a b : Bool) → Decides a P → Decides b Q → (P → Q → R) → (R → P × Q) → Decides (a && b) R
both true true p q join split = (λ e. join (p.0 refl) (q.0 refl), λ both. refl)
both true false p q join split = (λ e. cc, λ both. q.1 (split both).1)
both false s p q join split = (λ e. cc, λ both. p.1 (split both).0)

pub stamp-decides : (a b : Stamp) → Decides ((stamp_eq.ghosts).eq a b) (a ≡ b)
stamp-decides a b =
    both _ _ (Decides-eqb a.clock b.clock) (Decides-eqb a.origin.index b.origin.index)
    (λ clock origin. stamp-ext a b clock (server-ext a.origin b.origin origin))
    (λ one. (ap (λ (stamp : Stamp). stamp.clock) one, ap (λ (stamp : Stamp). stamp.origin.index) one))
