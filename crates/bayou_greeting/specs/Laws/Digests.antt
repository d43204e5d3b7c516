-- Laws of an origin's digests.
use Rattle.std.proofs.Common.{◌≡◌, ◌≢◌, ℕ, zero, suc, ◌<◌, true, false, List, [], ◌∷◌, ◌++◌, length, take, drop, get_or, refl, sym, ap, ◌∙◌, arith, inl, inr}
use Rattle.std.specs.Prelude.{◌==◌, ◌⊎◌}
use Rattle.std.proofs.lemmas.Bool.{eqb-true, eqb-false}
use Rattle.std.proofs.lemmas.List.{take_at, drop_at, length-append}
use Rattle.bayou_greeting.specs.declared.hmac.TheConstants.{DIGEST_BYTES}
use Rattle.bayou_greeting.specs.OriginDigests.{Collision, digest_behind, digest_of, next_digest, no_writes, short, shorts_behind}
use Rattle.sha2.proofs.Facts256.{length-sha256}

-- ---- one Write more

pub digest_behind-more : (before : List ℕ) (writes : List (List ℕ)) (write : List ℕ) → digest_behind before (writes ++ write ∷ []) ≡ next_digest (digest_behind before writes) write
digest_behind-more before [] write = refl
digest_behind-more before (first ∷ writes) write = digest_behind-more (next_digest before first) writes write

pub shorts_behind-more : (before : List ℕ) (writes : List (List ℕ)) (write : List ℕ)
    → shorts_behind before (writes ++ write ∷ []) ≡ shorts_behind before writes ++ short (next_digest (digest_behind before writes) write) ∷ []
shorts_behind-more before [] write = refl
shorts_behind-more before (first ∷ writes) write = ap (λ shorts. short (next_digest before first) ∷ shorts) (shorts_behind-more (next_digest before first) writes write)

-- ---- at a count

pub length-shorts_behind : (before : List ℕ) (writes : List (List ℕ)) → length (shorts_behind before writes) ≡ length writes
length-shorts_behind before [] = refl
length-shorts_behind before (write ∷ writes) = ap suc (length-shorts_behind (next_digest before write) writes)

pub short_at : (before : List ℕ) (writes : List (List ℕ)) (i : ℕ) → i < length writes → get_or (shorts_behind before writes) i 0 ≡ short (digest_behind before (take (suc i) writes))
short_at before [] i within = absurd (omega arith)
short_at before (write ∷ writes) zero within = refl
short_at before (write ∷ writes) (suc i) within = short_at (next_digest before write) writes i (omega arith)

-- ---- equal digests

-- two lists of bytes are one, or they aren't
one_or_two : (xs ys : List ℕ) → (xs ≡ ys) ⊎ (xs ≢ ys)
one_or_two [] [] = inl refl
one_or_two [] (y ∷ ys) = inr (λ e. absurd (omega (arith, ap length e)))
one_or_two (x ∷ xs) [] = inr (λ e. absurd (omega (arith, ap length e)))
one_or_two (x ∷ xs) (y ∷ ys) =
    elim (x == y) as (λ b. (x == y) ≡ b → (x ∷ xs ≡ y ∷ ys) ⊎ (x ∷ xs ≢ y ∷ ys)) [
      | true ↦ λ e. elim (one_or_two xs ys) [
        | inl same ↦ inl (ap (λ n. n ∷ xs) (eqb-true x y e) ∙ ap (λ rest. y ∷ rest) same)
        | inr differ ↦ inr (λ same. differ (ap (drop 1) same))
      ]
      | false ↦ λ e. inr (λ same. eqb-false x y e (ap (λ list. get_or list 0 0) same))
    ] refl

-- where the same is sent of two digests, what stood before them and the Writes are the same, or there is a collision
meets : (b c x y : List ℕ) → length b ≡ DIGEST_BYTES → length c ≡ DIGEST_BYTES → short (next_digest b x) ≡ short (next_digest c y) → ((b ≡ c) × (x ≡ y)) ⊎ Collision
meets b c x y of_b of_c meet =
    elim (one_or_two (b ++ x) (c ++ y)) [
      | inl same ↦ inl (
        sym (take_at b x DIGEST_BYTES of_b) ∙ ap (take DIGEST_BYTES) same ∙ take_at c y DIGEST_BYTES of_c,
        sym (drop_at b x DIGEST_BYTES of_b) ∙ ap (drop DIGEST_BYTES) same ∙ drop_at c y DIGEST_BYTES of_c,
      )
      | inr differ ↦ inr (record { one = b ++ x; other = c ++ y; differ = differ; meet = meet })
    ]

size_of_next : (before write : List ℕ) → length (next_digest before write) ≡ DIGEST_BYTES
size_of_next before write = length-sha256 (before ++ write)

lists_meet : (b c x y : List ℕ) (xs ys : List (List ℕ)) → length b ≡ DIGEST_BYTES → length c ≡ DIGEST_BYTES → length xs ≡ length ys
    → short (digest_behind b (x ∷ xs)) ≡ short (digest_behind c (y ∷ ys)) → ((b ≡ c) × (x ∷ xs ≡ y ∷ ys)) ⊎ Collision
lists_meet b c x y [] [] of_b of_c sizes meet =
    elim (meets b c x y of_b of_c meet) [ inl same ↦ inl (same.0, ap (λ write. write ∷ []) same.1) | inr collision ↦ inr collision ]
lists_meet b c x y [] (v ∷ ys) of_b of_c sizes meet = absurd (omega (arith, sizes))
lists_meet b c x y (u ∷ xs) [] of_b of_c sizes meet = absurd (omega (arith, sizes))
lists_meet b c x y (u ∷ xs) (v ∷ ys) of_b of_c sizes meet =
    elim (lists_meet (next_digest b x) (next_digest c y) u v xs ys (size_of_next b x) (size_of_next c y) (omega (arith, sizes)) meet) [
      | inl later ↦ elim (meets b c x y of_b of_c (ap short later.0)) [
        | inl same ↦ inl (same.0, ap (λ write. write ∷ u ∷ xs) same.1 ∙ ap (λ writes. y ∷ writes) later.1)
        | inr collision ↦ inr collision
      ]
      | inr collision ↦ inr collision
    ]

pub equal_or_collide : (writes others : List (List ℕ)) → length writes ≡ length others → short (digest_of writes) ≡ short (digest_of others) → (writes ≡ others) ⊎ Collision
equal_or_collide [] [] sizes meet = inl refl
equal_or_collide [] (other ∷ others) sizes meet = absurd (omega (arith, sizes))
equal_or_collide (write ∷ writes) [] sizes meet = absurd (omega (arith, sizes))
equal_or_collide (write ∷ writes) (other ∷ others) sizes meet =
    elim (lists_meet no_writes no_writes write other writes others refl refl (omega (arith, sizes)) meet) [ inl same ↦ inl same.1 | inr collision ↦ inr collision ]

pub fronts_or_collide : (writes others later later_others : List (List ℕ)) → length writes ≡ length others → length later ≡ length later_others
    → short (digest_of (writes ++ later)) ≡ short (digest_of (others ++ later_others)) → (writes ≡ others) ⊎ Collision
fronts_or_collide writes others later later_others sizes laters meet =
    elim (equal_or_collide (writes ++ later) (others ++ later_others) (omega (arith, length-append writes later, length-append others later_others, sizes, laters)) meet) [
      | inl same ↦ inl (sym (take_at writes later (length writes) refl) ∙ ap (take (length writes)) same ∙ take_at others later_others (length writes) (sym sizes))
      | inr collision ↦ inr collision
    ]
