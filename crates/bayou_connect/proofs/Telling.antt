-- What a session was told is kept last.
use Rattle.std.proofs.Common.{◌≡◌, ℕ, ◌<◌, List, Option, Some, length, get_or, set, refl, sym, ap, subst, ◌∙◌}
use Rattle.std.specs.List.{slice_get}
use Rattle.std.proofs.lemmas.Option.{slice_get-get_or}
use Rattle.std.specs.Prelude.{IfSome}
use Rattle.bayou_base.specs.declared.server.ServerId.{ServerId}
use Rattle.bayou_connect.specs.Keeping.{IsKeptLast, IsTold}
use Rattle.bayou_connect.specs.Operating.{HasDone}
use Rattle.bayou_connect.specs.declared.asking.Requested.{Requested}
use Rattle.bayou_connect.specs.declared.reach.Access.{Access}
use Rattle.bayou_connect.specs.declared.remembering.StateFile.{StateFile}
use Rattle.bayou_connect.specs.declared.told.ServerTold.{ServerTold}
use Rattle.bayou_client.specs.Operating.{Asking}

there : (xs : List (Option Asking)) (at : ℕ) (kept : Asking) → at < length xs → get_or xs at (Some kept) ≡ Some kept → slice_get xs at ≡ Some (Some kept)
there xs at kept within is = slice_get-get_or xs at (Some kept) within ∙ ap (λ k. Some k) is

pub is_told : (places : List Access) (at : ℕ) (attempt : Requested) (before : List (Option Asking)) (place who : ℕ) (state : Option StateFile) (told : ServerTold) (server : ServerId) (was kept : Asking)
    → IfSome (slice_get places at) (λ access. access.place.id ≡ server) → who < length before → place ≡ who → get_or before place (Some was) ≡ Some was → HasDone attempt server was kept told → IsKeptLast state kept
    → IsTold places at attempt before (set before place (Some kept)) state who told
is_told places at attempt before place who state told server was kept there_is within here had done last = record {
  server = server;
  place = there_is;
  was = was;
  had = there before who was within (subst (λ n. get_or before n (Some was) ≡ Some was) here had);
  kept = kept;
  done = done;
  is = ap (λ (n : ℕ). set before n (Some kept)) here;
  last = last;
}

-- the place of a server that was found there
pub place_at : (places : List Access) (at : ℕ) (access : Access) → at < length places → access ≡ get_or places at access → IfSome (slice_get places at) (λ one. one.place.id ≡ access.place.id)
place_at places at access within is =
    subst (λ o. IfSome o (λ one. one.place.id ≡ access.place.id)) (sym (slice_get-get_or places at access within ∙ ap (λ a. Some a) (sym is))) refl

-- the same of what stood there before
pub told_of : (places listed : List Access) (at : ℕ) (attempt : Requested) (before old new : List (Option Asking)) (state : Option StateFile) (who : ℕ) (told : ServerTold) → places ≡ listed → before ≡ old
    → IsTold places at attempt before new state who told → IsTold listed at attempt old new state who told
told_of places listed at attempt before old new state who told same were is =
    subst (λ b. IsTold listed at attempt b new state who told) were (subst (λ p. IsTold p at attempt before new state who told) same is)
