-- How a chain is read: the entries so far, and what stands behind them.
use Rattle.std.proofs.Common.{◌≡◌, ℕ, ◌+◌, ◌-◌, List, [], ◌∷◌, ◌++◌, Option, None, Some, length, take, drop, map, refl, sym, ◌∙◌, ap, arith, append_assoc, length-append}
use Rattle.std.specs.Prelude.{unwrap_or}
use Rattle.std.proofs.lemmas.List.{take_at, drop_at}
use Rattle.std.proofs.lemmas.List.Elements.{All-push}
use Rattle.std.specs.Int.{w16, to_be_bytes}
use Rattle.bayou_journal.specs.declared.opened.Place.{Place}
use Rattle.bayou_journal.specs.Chain.{IsBody, sized, link, entry, chain_end, journal}
use Rattle.bayou_journal.specs.Laws.Chain.{journal-push, chain_end-push, AreBodies-push}
use Rattle.bayou_journal.specs.Inner.Reads.{IsRead}
use Rattle.bayou_journal.specs.Opened.{IsWithin, body_at}
use Rattle.bayou_journal.specs.Versions.{Body, body_in, marked, told, version_behind}
use Rattle.bayou_journal.proofs.Raising.{told-mark, told-push, version_behind-push}

-- the body at a place is what stands there
pub at_place : (bytes front size body behind : List ℕ) (place : Place) → bytes ≡ (front ++ (size ++ body)) ++ behind → length size ≡ 2 → place.start ≡ length front + 2 → place.end ≡ place.start + length body
    → (body_at bytes place ≡ body_in place.version body) × IsWithin (length bytes) place
at_place bytes front size body behind place split two start end =
    let whole : bytes ≡ (front ++ size) ++ (body ++ behind) = split ∙ simp append_assoc in
    let long : length (front ++ size) ≡ place.start = omega (arith, length-append front size) in
    let left : place.end - place.start ≡ length body = omega arith in (
      ap (body_in place.version) (ap (λ (l : List ℕ). take (place.end - place.start) (drop place.start l)) whole
          ∙ ap (take (place.end - place.start)) (drop_at (front ++ size) (body ++ behind) place.start long)
          ∙ take_at body behind (place.end - place.start) (sym left)),
      (omega arith, omega (arith, ap length whole, length-append (front ++ size) (body ++ behind), length-append body behind)),
    )

map-push : (bytes : List ℕ) (places : List Place) (place : Place) → map (body_at bytes) (places ++ place ∷ []) ≡ map (body_at bytes) places ++ body_at bytes place ∷ []
map-push bytes [] place = refl
map-push bytes (first ∷ places) place = ap (λ (l : List Body). body_at bytes first ∷ l) (map-push bytes places place)

-- one entry more, be it a mark or not
splits_on : (version server : ℕ) (bytes : List ℕ) (bodies : List (List ℕ)) (last rest body behind : List ℕ) → bytes ≡ journal version server bodies ++ rest → last ≡ chain_end version server bodies → rest ≡ entry last body ++ behind
    → bytes ≡ journal version server (bodies ++ body ∷ []) ++ behind
splits_on version server bytes bodies last rest body behind split ends front =
    split ∙ ap (λ (l : List ℕ). journal version server bodies ++ l) front
    ∙ sym (append_assoc (journal version server bodies) (entry last body) behind)
    ∙ ap (λ (l : List ℕ). (journal version server bodies ++ entry l body) ++ behind) ends
    ∙ ap (λ (l : List ℕ). l ++ behind) (sym (journal-push version server bodies body))

pub reads_body : (version server : ℕ) (bytes : List ℕ) (places : List Place) (now : ℕ) (last rest body behind : List ℕ) (place : Place) → IsRead version server bytes places now last rest → IsBody body
    → rest ≡ entry last body ++ behind → marked now body ≡ None → place.start + length rest ≡ length bytes + 2 → place.end ≡ place.start + length body → place.version ≡ now
    → IsRead version server bytes (places ++ place ∷ []) now (link last body) behind
reads_body version server bytes places now last rest body behind place so_far is front plain start end here =
    let bodies = so_far.bodies in
    let plain_there : marked (version_behind version bodies) body ≡ None = ap (λ (v : ℕ). marked v body) (sym so_far.now_is) ∙ plain in
    let parts : bytes ≡ (journal version server bodies ++ sized body) ++ (link last body ++ behind) = so_far.split ∙ ap (λ (l : List ℕ). journal version server bodies ++ l) front ∙ simp append_assoc in
    let stands = at_place bytes (journal version server bodies) (to_be_bytes w16 (length body)) body (link last body ++ behind) place parts refl
    (omega (arith, ap length so_far.split, length-append (journal version server bodies) rest)) end in
    record {
      bodies = bodies ++ body ∷ [];
      split = splits_on version server bytes bodies last rest body behind so_far.split so_far.ends front;
      ends = ap (λ (l : List ℕ). link l body) so_far.ends ∙ sym (chain_end-push version server bodies body);
      sizes = AreBodies-push bodies body so_far.sizes is;
      tells = map-push bytes places place
          ∙ ap (λ (l : List Body). l ++ body_at bytes place ∷ []) so_far.tells
          ∙ ap (λ (b : Body). told version bodies ++ b ∷ []) (stands.0 ∙ ap (λ (v : ℕ). body_in v body) (here ∙ so_far.now_is))
          ∙ sym (told-push version bodies body plain_there);
      now_is = so_far.now_is ∙ sym (version_behind-push version bodies body ∙ ap (λ (m : Option ℕ). unwrap_or m (version_behind version bodies)) plain_there);
      within = All-push (IsWithin (length bytes)) places place so_far.within stands.1;
    }

pub reads_mark : (version server : ℕ) (bytes : List ℕ) (places : List Place) (now later : ℕ) (last rest body behind : List ℕ) → IsRead version server bytes places now last rest → IsBody body
    → rest ≡ entry last body ++ behind → marked now body ≡ Some later → IsRead version server bytes places later (link last body) behind
reads_mark version server bytes places now later last rest body behind so_far is front mark =
    let bodies = so_far.bodies in
    let mark_there : marked (version_behind version bodies) body ≡ Some later = ap (λ (v : ℕ). marked v body) (sym so_far.now_is) ∙ mark in
    record {
      bodies = bodies ++ body ∷ [];
      split = splits_on version server bytes bodies last rest body behind so_far.split so_far.ends front;
      ends = ap (λ (l : List ℕ). link l body) so_far.ends ∙ sym (chain_end-push version server bodies body);
      sizes = AreBodies-push bodies body so_far.sizes is;
      tells = so_far.tells ∙ sym (told-mark version bodies body later mark_there);
      now_is = sym (version_behind-push version bodies body ∙ ap (λ (m : Option ℕ). unwrap_or m (version_behind version bodies)) mark_there);
      within = so_far.within;
    }
