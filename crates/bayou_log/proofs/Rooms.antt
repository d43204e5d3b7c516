-- How the places of the servers' Writes have room.
use Rattle.std.proofs.Common.{◌≡◌, ◌≢◌, ℕ, ◌+◌, ◌<◌, ◌≤◌, ◌==◌, true, false, List, [], ◌∷◌, ◌++◌, ap, sym, ◌∙◌, refl, subst, arith, get_or, length, map, set, Option, None, Some, IsSome, vec_capacity, vec_items, vec_len}
use Rattle.std.proofs.lemmas.Bool.Decides.{nat_tests}
use Rattle.std.proofs.lemmas.List.{get_or-map, get_or-set_other, get_or-set_same, map-set}
use Rattle.std.proofs.Math.ListN.{length-set}
use Rattle.std.specs.Global.{Vec}
use Rattle.std.specs.Option.{option_to_list}
use Rattle.bayou_log.specs.declared.index.TheConstants.{AHEAD}
use Rattle.bayou_log.specs.Inner.Index.{places_of}

pub length_kept : (places : List (Vec ℕ)) (at : ℕ) (new : Vec ℕ) → length (set places at new) ≡ length places
length_kept places at new = length-set places at new

abbrev HasRoom : Vec ℕ → Type 0
HasRoom own = vec_len own + AHEAD ≤ vec_capacity own

-- those before one have the room that is taken at once, and so has that one now
pub one_more_has : (places : List (Vec ℕ)) (at : ℕ) (new : Vec ℕ) → at < length places → vec_len new + AHEAD ≤ vec_capacity new
    → ((k : ℕ) (d : Vec ℕ) → k < at → vec_len (get_or places k d) + AHEAD ≤ vec_capacity (get_or places k d))
    → (k : ℕ) (d : Vec ℕ) → k < at + 1 → vec_len (get_or (set places at new) k d) + AHEAD ≤ vec_capacity (get_or (set places at new) k d)
one_more_has places at new within has before k d less =
    elim (k == at) as (λ t. (k == at) ≡ t → HasRoom (get_or (set places at new) k d)) [
      | true ↦ λ is.
          let same : at ≡ k = grind (arith, nat_tests) in
          subst HasRoom (sym (ap (λ j. get_or (set places at new) j d) (sym same) ∙ get_or-set_same places at new d within)) has
      | false ↦ λ isnt.
          let other : k ≢ at = λ same. grind (arith, nat_tests) in
          let earlier : k < at = grind (arith, nat_tests) in
          subst HasRoom (sym (get_or-set_other places at k new d other)) (before k d earlier)
    ] refl

-- the server's places with one more
pub own_places : (places : List (Vec ℕ)) (at origin : ℕ) (new own : Vec ℕ) (place : ℕ) → at ≡ origin → at < length places
    → vec_items new ≡ vec_items (get_or places at own) ++ place ∷ [] → places_of (map vec_items (set places at new)) origin ≡ places_of (map vec_items places) origin ++ place ∷ []
own_places places at origin new own place same within added =
    ap (places_of (map vec_items (set places at new))) (sym same)
    ∙ get_or-map vec_items (set places at new) at new [] (omega (arith, within, length-set places at new))
    ∙ ap vec_items (get_or-set_same places at new new within) ∙ added
    ∙ ap (λ items. items ++ place ∷ []) (sym (get_or-map vec_items places at own [] within) ∙ ap (places_of (map vec_items places)) same)

-- those of the others
pub other_places : (places : List (Vec ℕ)) (at server : ℕ) (new : Vec ℕ) → server ≢ at
    → places_of (map vec_items (set places at new)) server ≡ places_of (map vec_items places) server
other_places places at server new other =
    ap (λ rows. places_of rows server) (map-set vec_items places at new) ∙ get_or-set_other (map vec_items places) at server (vec_items new) [] other

-- the server's places with one less
pub own_less : (places : List (Vec ℕ)) (at origin : ℕ) (new own : Vec ℕ) (last : ℕ) → at ≡ origin → at < length places
    → vec_items (get_or places at own) ≡ vec_items new ++ last ∷ [] → places_of (map vec_items places) origin ≡ places_of (map vec_items (set places at new)) origin ++ last ∷ []
own_less places at origin new own last same within less =
    ap (places_of (map vec_items places)) (sym same) ∙ get_or-map vec_items places at own [] within ∙ less
    ∙ ap (λ items. items ++ last ∷ []) (sym (ap (places_of (map vec_items (set places at new))) (sym same)
    ∙ get_or-map vec_items (set places at new) at new [] (omega (arith, within, length-set places at new)) ∙ ap vec_items (get_or-set_same places at new new within)))

-- what was taken off the end
pub some_last : (last : Option ℕ) (old new : List ℕ) → old ≡ new ++ option_to_list last → IsSome last → (place : ℕ) × (old ≡ new ++ place ∷ [])
some_last None old new split some = absurd cc
some_last (Some place) old new split some = (place, split)
