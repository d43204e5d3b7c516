-- A chain of calls leaves the door as it was; one that may ask nothing, the desk too.
use Rattle.std.proofs.Common.{◌≡◌, ◌∙◌, ap, sym, subst, ℕ, Option, List, [], ◌∷◌, All}
use Rattle.std.proofs.lemmas.List.Elements.{All-head, All-tail}
use Rattle.http.specs.Request.{head_of}
use Rattle.http_server.specs.Exchange.{Call, Chain}
use Rattle.bayou_web.specs.declared.site.Site.{Site}
use Rattle.bayou_web.specs.Door.{MayAskNothing}
use Rattle.bayou_web.specs.Site.{Answers}

module _ {D : Type 0} (shows does : D → List ℕ → Option (List ℕ) → D → Type 0) where
  pub door_is_kept : (calls : List Call) (old new : Site D) → Chain (Answers shows does) old calls new → new.door ≡ old.door
  door_is_kept [] old new same = ap (λ site. site.door) same
  door_is_kept (call ∷ calls) old new (next, first, later) = door_is_kept calls next new later ∙ first.door

  pub desk_is_kept : (calls : List Call) (old new : Site D) → Chain (Answers shows does) old calls new
      → All (λ call. MayAskNothing old.door (head_of call.0)) calls → new.desk ≡ old.desk
  desk_is_kept [] old new same none = ap (λ site. site.desk) same
  desk_is_kept (call ∷ calls) old new (next, first, later) none =
      desk_is_kept calls next new later
      (subst (λ door. All (λ call. MayAskNothing door (head_of call.0)) calls) (sym first.door)
      (All-tail (λ call. MayAskNothing old.door (head_of call.0)) call calls none))
      ∙ first.kept (All-head (λ call. MayAskNothing old.door (head_of call.0)) call calls none)
