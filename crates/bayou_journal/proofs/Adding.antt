-- Entries that are added one behind the other, and synced together.
use Rattle.std.proofs.Common.{◌≡◌, ◌⊎◌, inl, inr, ℕ, ◌+◌, ◌-◌, ◌<◌, ◌≤◌, List, [], ◌∷◌, ◌++◌, Vec, Global, get_or, length, map, take, drop, refl, sym, ◌∙◌, ap, arith, append_assoc, subst, take-append-drop}
use Rattle.std.proofs.Math.Seq.{take-append-add}
use Rattle.std.proofs.lemmas.Bool.{cases_order}
use Rattle.std.proofs.lemmas.List.{append-nil, map_push, map-append, take_all, take_more, take-append-le}
use Rattle.bayou_journal.specs.Chain.{AreBodies, IsBody, NoEntry, entries, entries_bytes, entry, last_link, link}
use Rattle.bayou_journal.specs.Honest.{IsHonest, added_body}
use Rattle.bayou_journal.specs.Laws.Chain.{entries-push, last_link-push}
use Rattle.bayou_journal.specs.Versions.{Body, told}
use Rattle.bayou_journal.specs.declared.format.TheConstants.{DIGEST_BYTES, LENGTH_BYTES, NEWEST_VERSION}
use Rattle.bayou_journal.proofs.Raising.{marked-newest, newest_stays, told-append, told-one}
use Rattle.bayou_journal.proofs.Tearing.{no_entry, no_part}

abbrev pub Piece : Type 0
Piece = Vec ℕ Global

-- the bytes of each
abbrev pub bytes_of : List Piece → List (List ℕ)
bytes_of pieces = map (λ (piece : Piece). piece.items) pieces

-- the pieces up to a place, and the one there
pub so_far : (pieces : List Piece) (at : ℕ) (piece : Piece) → at < length pieces → piece ≡ get_or pieces at piece → bytes_of (take (at + 1) pieces) ≡ bytes_of (take at pieces) ++ piece.items ∷ []
so_far pieces at piece within is =
    ap bytes_of (take_more pieces at piece within ∙ ap (λ (p : Piece). take at pieces ++ p ∷ []) (sym is)) ∙ map_push (λ (p : Piece). p.items) (take at pieces) piece

-- and those behind it
pub all_of : (pieces : List Piece) (at : ℕ) (piece : Piece) → at < length pieces → piece ≡ get_or pieces at piece
    → bytes_of pieces ≡ bytes_of (take at pieces) ++ (piece.items ∷ bytes_of (drop (at + 1) pieces))
all_of pieces at piece within is =
    ap bytes_of (sym (take-append-drop (at + 1) pieces))
    ∙ map-append (λ (p : Piece). p.items) (take (at + 1) pieces) (drop (at + 1) pieces)
    ∙ ap (λ (l : List (List ℕ)). l ++ bytes_of (drop (at + 1) pieces)) (so_far pieces at piece within is)
    ∙ append_assoc (bytes_of (take at pieces)) (piece.items ∷ []) (bytes_of (drop (at + 1) pieces))

body_at : (front : List (List ℕ)) (body : List ℕ) (behind : List (List ℕ)) → AreBodies (front ++ body ∷ behind) → IsBody body
body_at [] body behind are = are.0
body_at (first ∷ front) body behind are = body_at front body behind are.1

pub is_body : (pieces : List Piece) (at : ℕ) (piece : Piece) → at < length pieces → piece ≡ get_or pieces at piece → AreBodies (bytes_of pieces) → IsBody piece.items
is_body pieces at piece within is are = body_at (bytes_of (take at pieces)) piece.items (bytes_of (drop (at + 1) pieces)) (subst AreBodies (all_of pieces at piece within is) are)

-- one entry more stands behind the others
pub one_more : (before last : List ℕ) (bytes next : List ℕ) (front more : List (List ℕ)) (body : List ℕ) → more ≡ front ++ body ∷ [] → last ≡ last_link before front
    → bytes ≡ entries before front → next ≡ bytes ++ entry last body → next ≡ entries before more
one_more before last bytes next front more body all is so_far added =
    added
    ∙ ap (λ (l : List ℕ). l ++ entry last body) so_far
    ∙ ap (λ (l : List ℕ). entries before front ++ entry l body) is
    ∙ sym (entries-push before front body)
    ∙ ap (entries before) (sym all)

pub link_more : (before last next : List ℕ) (front more : List (List ℕ)) (body : List ℕ) → more ≡ front ++ body ∷ [] → last ≡ last_link before front → next ≡ link last body → next ≡ last_link before more
link_more before last next front more body all is linked =
    linked ∙ ap (λ (l : List ℕ). link l body) is ∙ sym (last_link-push before front body) ∙ ap (last_link before) (sym all)

-- how many bytes they have with one more
bytes-push : (front : List (List ℕ)) (body : List ℕ) → entries_bytes (front ++ body ∷ []) ≡ entries_bytes front + (LENGTH_BYTES + length body + DIGEST_BYTES)
bytes-push [] body = omega arith
bytes-push (first ∷ front) body = let more = bytes-push front body in omega (arith, more)

pub size_more : (size next : ℕ) (front more : List (List ℕ)) (body : List ℕ) → more ≡ front ++ body ∷ [] → size ≡ entries_bytes front → next ≡ size + (LENGTH_BYTES + length body + DIGEST_BYTES) → next ≡ entries_bytes more
size_more size next front more body all is added = let push = bytes-push front body in let same = ap entries_bytes all in omega (arith, is, added, push, same)

-- there is room for the next one
pub room_for : (front : List (List ℕ)) (body : List ℕ) (behind : List (List ℕ)) → entries_bytes front + (LENGTH_BYTES + length body + DIGEST_BYTES) ≤ entries_bytes (front ++ body ∷ behind)
room_for [] body behind = omega arith
room_for (first ∷ front) body behind = let more = room_for front body behind in omega (arith, more)

-- ---- what a front of the entries tells

-- no body marks a version later than the newest
pub told-newest : (bodies : List (List ℕ)) → told NEWEST_VERSION bodies ≡ map added_body bodies
told-newest [] = refl
told-newest (body ∷ bodies) =
    told-append NEWEST_VERSION (body ∷ []) bodies
    ∙ ap (λ (v : ℕ). told NEWEST_VERSION (body ∷ []) ++ told v bodies) (newest_stays (body ∷ []))
    ∙ ap (λ (l : List Body). l ++ told NEWEST_VERSION bodies) (told-one NEWEST_VERSION body (marked-newest body))
    ∙ ap (λ (l : List Body). added_body body ∷ l) (told-newest bodies)

-- the bytes are the entries of a front of the bodies, and a rest at whose front no entry stands
pub record EntriesFront (last : List ℕ) (bodies : List (List ℕ)) (bytes : List ℕ) : Type 0 where
  pub more : List (List ℕ)
  pub rest : List ℕ
  pub sizes : AreBodies more
  pub split : bytes ≡ entries last more ++ rest
  pub longest : NoEntry (last_link last more) rest
  pub honest : IsHonest [] (map added_body bodies) (map added_body more)

-- what is honest is so behind others
pub honest_behind : (front more doubts found : List Body) → IsHonest more doubts found → IsHonest (front ++ more) doubts (front ++ found)
honest_behind front more [] found none = ap (λ (l : List Body). front ++ l) none
honest_behind front more (body ∷ doubts) found (inl none) = inl (ap (λ (l : List Body). front ++ l) none)
honest_behind front more (body ∷ doubts) found (inr on) =
    inr (subst (λ (l : List Body). IsHonest l doubts (front ++ found)) (sym (append_assoc front more (body ∷ []))) (honest_behind front (more ++ body ∷ []) doubts found on))

pub entries_front : (last : List ℕ) (bodies : List (List ℕ)) (count : ℕ) → AreBodies bodies → EntriesFront last bodies (take count (entries last bodies))
entries_front last [] count are = record {
  more = [];
  rest = [];
  sizes = tt;
  split = take_all count [] (omega arith);
  longest = no_entry last;
  honest = refl;
}
entries_front last (body ∷ bodies) count are = by (entries_front (link last body) bodies (count - length (entry last body)) are.1) (cases_order count (length one))
  where
    one : List ℕ
    one = entry last body

    on : List ℕ
    on = entries (link last body) bodies

    part : count < length one → EntriesFront last (body ∷ bodies) (take count (one ++ on))
    part short = record {
      more = [];
      rest = take count one;
      sizes = tt;
      split = take-append-le count one on (omega (arith, short));
      longest = no_part last body count are.0 short;
      honest = inl refl;
    }

    whole : EntriesFront (link last body) bodies (take (count - length one) on) → length one ≤ count → EntriesFront last (body ∷ bodies) (take count (one ++ on))
    whole next long =
        let size : count ≡ length one + (count - length one) = omega (arith, long) in
        record {
          more = body ∷ next.more;
          rest = next.rest;
          sizes = (are.0, next.sizes);
          split = ap (λ (n : ℕ). take n (one ++ on)) size ∙ take-append-add one on (count - length one) ∙ ap (λ (l : List ℕ). one ++ l) next.split ∙ sym (append_assoc one (entries (link last body) next.more) next.rest);
          longest = next.longest;
          honest = inr (honest_behind (added_body body ∷ []) [] (map added_body bodies) (map added_body next.more) next.honest);
        }

    by : EntriesFront (link last body) bodies (take (count - length one) on) → (count ≡ length one) ⊎ ((count < length one) ⊎ (length one < count)) → EntriesFront last (body ∷ bodies) (take count (one ++ on))
    by next (inl same) = whole next (omega (arith, same))
    by next (inr (inl short)) = part short
    by next (inr (inr long)) = whole next (omega (arith, long))
