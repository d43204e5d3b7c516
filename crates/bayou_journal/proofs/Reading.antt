-- How the entry at the front of some bytes is read.
use Rattle.std.proofs.Common.{◌≡◌, ℕ, zero, suc, ◌+◌, ◌*◌, ◌<◌, ◌≤◌, List, [], ◌∷◌, ◌++◌, length, get_or, take, drop, refl, sym, ◌∙◌, ap, arith, append_assoc, length-append, take-append-drop}
use Rattle.std.proofs.lemmas.List.{take_at, drop_at}
use Rattle.std.proofs.lemmas.Nat.{be_bytes_2, from_be_bytes-to_be_bytes_2}
use Rattle.std.specs.Int.{w16, to_be_bytes}
use Rattle.bayou_journal.specs.Chain.{IsBody, entry, link, sized}
use Rattle.sha2.proofs.Facts256.{length-sha256}

-- an entry stands at the front: its first two bytes are the length of its body
pub record HasFront (before bytes body behind : List ℕ) : Type 0 where
  pub size : get_or bytes 0 0 * 256 + get_or bytes 1 0 ≡ length body
  pub parts : drop 2 bytes ≡ body ++ (link before body ++ behind)
  pub long : length body + 32 ≤ length (drop 2 bytes)

pub reads : (before bytes body behind : List ℕ) → IsBody body → bytes ≡ entry before body ++ behind → HasFront before bytes body behind
reads before bytes body behind is eq =
    let two = from_be_bytes-to_be_bytes_2 (length body) (omega (arith, is.within)) in
    let parts : drop 2 bytes ≡ body ++ (link before body ++ behind) = ap (drop 2) eq ∙ append_assoc body (link before body) behind in
    record {
      size = ap (λ (l : List ℕ). get_or l 0 0 * 256 + get_or l 1 0) eq ∙ two;
      parts = parts;
      long = omega (arith, ap length parts, length-append body (link before body ++ behind), length-append (link before body) behind, length-sha256 (before ++ sized body));
    }

-- and where the digest isn't the one that is there, none stands there
pub found_is : (before bytes body behind : List ℕ) (n : ℕ) → HasFront before bytes body behind → n ≡ length body → take 32 (drop n (drop 2 bytes)) ≡ link before (take n (drop 2 bytes))
found_is before bytes body behind n is size =
    let front : take n (drop 2 bytes) ≡ body = ap (take n) is.parts ∙ take_at body (link before body ++ behind) n (sym size) in
    let back : drop n (drop 2 bytes) ≡ link before body ++ behind = ap (drop n) is.parts ∙ drop_at body (link before body ++ behind) n (sym size) in
    ap (take 32) back ∙ take_at (link before body) behind 32 (length-sha256 (before ++ sized body)) ∙ ap (link before) (sym front)

two_bytes : (bytes : List ℕ) → 2 ≤ length bytes → bytes ≡ get_or bytes 0 0 ∷ get_or bytes 1 0 ∷ drop 2 bytes
two_bytes [] long = absurd (omega arith)
two_bytes (a ∷ []) long = absurd (omega arith)
two_bytes (a ∷ b ∷ bytes) long = refl

-- what is read is an entry, if the digest is the one that is there
pub is_split : (before bytes body found rest : List ℕ) (n : ℕ) → 2 ≤ length bytes → ((i : ℕ) → get_or bytes i 0 < 256) → n ≡ get_or bytes 0 0 * 256 + get_or bytes 1 0 → length body ≡ n
    → body ≡ take n (drop 2 bytes) → found ≡ take 32 (drop n (drop 2 bytes)) → rest ≡ drop 32 (drop n (drop 2 bytes)) → found ≡ link before body → bytes ≡ entry before body ++ rest
is_split before bytes body found rest n long fit size is_long is_body is_found is_rest same =
    let front : List ℕ = get_or bytes 0 0 ∷ get_or bytes 1 0 ∷ [] in
    let fits : (i : ℕ) → get_or front i 0 < 256 = two_fit bytes fit in
    let sizes : to_be_bytes w16 (length body) ≡ front = ap (to_be_bytes w16) is_long ∙ be_bytes_2 front n refl fits size in
    let digest : drop n (drop 2 bytes) ≡ link before body ++ rest = sym (take-append-drop 32 (drop n (drop 2 bytes))) ∙ ap (λ (l : List ℕ). l ++ drop 32 (drop n (drop 2 bytes))) (sym is_found ∙ same) ∙ ap (λ (l : List ℕ). link before body ++ l) (sym is_rest) in
    let behind : drop 2 bytes ≡ body ++ (link before body ++ rest) = sym (take-append-drop n (drop 2 bytes)) ∙ ap (λ (l : List ℕ). l ++ drop n (drop 2 bytes)) (sym is_body) ∙ ap (λ (l : List ℕ). body ++ l) digest in
    two_bytes bytes long ∙ ap (λ (l : List ℕ). front ++ l) behind ∙ ap (λ (l : List ℕ). l ++ (body ++ (link before body ++ rest))) (sym sizes) ∙ ap (λ (l : List ℕ). to_be_bytes w16 (length body) ++ l) (sym (append_assoc body (link before body) rest))
  where
    two_fit : (bytes : List ℕ) → ((i : ℕ) → get_or bytes i 0 < 256) → (i : ℕ) → get_or (get_or bytes 0 0 ∷ get_or bytes 1 0 ∷ []) i 0 < 256
    two_fit bytes fit zero = fit 0
    two_fit bytes fit (suc zero) = fit 1
    two_fit bytes fit (suc (suc i)) = omega arith
