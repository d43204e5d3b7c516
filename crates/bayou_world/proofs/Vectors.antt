-- Vectors and the sets that they stand for.
use Rattle.std.proofs.Common.{◌≡◌, ◌≢◌, ◌↔◌, ℕ, zero, suc, ◌≤◌, max, List, [], ◌∷◌, ◌++◌, inl, inr, length, replicate, Contains, slice_index, ap, refl, subst, arith}
use Rattle.std.proofs.lemmas.Bool.{cases_lt}
use Rattle.std.proofs.lemmas.List.{get_or-replicate, get_or-set_other, get_or-set_same}
use Rattle.std.proofs.lemmas.List.Elements.{Contains-append_cases, Contains-append_left, Contains-append_right, Contains-push, Contains-push_cases}
use Rattle.bayou_base.specs.declared.limits.TheConstants.{SERVERS}
use Rattle.bayou_base.specs.declared.wid.Wid.{Wid}
use Rattle.bayou_base.specs.Vector.{Covers, Dominates, joined, raised}
use Rattle.bayou_lang.specs.declared.write.Write.{Write}
use Rattle.bayou_lang.specs.Laws.Fitting.{covered-where_held, fitting_is_prefix_closed}
use Rattle.bayou_lang.specs.Writes.{AreFitting, count_of}
use Rattle.bayou_world.specs.Invariant.{IsVectorOf}
use Rattle.bayou_world.specs.Machine.{IsWithin, names}
use Rattle.bayou_world.proofs.Lists.{Contains-map, Contains-map_from, Contains-none, same_number}

-- a fitting list has a name exactly where its counts cover it
pub named : (count : ℕ) (list : List Write) (name : Wid) → AreFitting count list → Contains (names list) name ↔ Covers (count_of list) name.origin.index name.seq
named count list name fitting =
    let law = covered-where_held count list name fitting in (
      λ has.
          let at = Contains-map_from (λ (write : Write). write.wid) list name has in
          law.0 (at.1.0, at.0, at.1.1, at.1.2, at.2),
      λ covered.
          let any = law.1 covered in
          subst (Contains (names list)) any.4 (Contains-map (λ (write : Write). write.wid) list any.1 (any.0, any.2, any.3)),
    )

-- the counts of a fitting list are the vector of its names
pub IsVectorOf-counts : (count : ℕ) (list : List Write) → AreFitting count list → IsVectorOf (count_of list) (names list)
IsVectorOf-counts count list fitting = record {
  each = λ name has. (named count list name fitting).0 has;
  least = λ other covers server inside. elim (cases_lt 0 (slice_index (count_of list) server)) as (λ _. slice_index (count_of list) server ≤ slice_index other server) [
    | inl some ↦
        let any = (fitting_is_prefix_closed count list fitting).none_missing server (slice_index (count_of list) server) some (omega arith) in
        let there = covers any.1.wid (Contains-map (λ (write : Write). write.wid) list any.1 (any.0, any.2, any.3)) in
        let origin : slice_index other any.1.wid.origin.index ≡ slice_index other server = ap (slice_index other) any.4.0 in
        omega (arith, there, origin, any.4.1)
    | inr none ↦ omega (arith, none)
  ];
}

-- the set test and the vector test agree
pub tests_agree : (count : ℕ) (held : List Write) (vector : List ℕ) (set : List Wid) → AreFitting count held → IsVectorOf vector set
    → IsWithin set (names held) ↔ Dominates (count_of held) vector
tests_agree count held vector set fitting is = (
  λ within. is.least (count_of held) (λ name has. (named count held name fitting).0 (within name has)),
  λ dominates name has. (named count held name fitting).1 (omega (arith, is.each name has, dominates name.origin.index name.origin.in_range)),
)

-- and so of what two fitting lists have
pub within_dominates : (count : ℕ) (some held : List Write) → AreFitting count some → AreFitting count held
    → IsWithin (names some) (names held) ↔ Dominates (count_of held) (count_of some)
within_dominates count some held fitting_some fitting = tests_agree count held (count_of some) (names some) fitting (IsVectorOf-counts count some fitting_some)

-- ---- sets that grow

joined_at : (xs ys : List ℕ) (server : ℕ) → length xs ≡ length ys → slice_index (joined xs ys) server ≡ max (slice_index xs server) (slice_index ys server)
joined_at [] [] server same = refl
joined_at [] (y ∷ ys) server same = absurd (omega (arith, same))
joined_at (x ∷ xs) [] server same = absurd (omega (arith, same))
joined_at (x ∷ xs) (y ∷ ys) zero same = refl
joined_at (x ∷ xs) (y ∷ ys) (suc server) same = joined_at xs ys server (omega (arith, same))

pub length-joined : (xs ys : List ℕ) → length xs ≡ length ys → length (joined xs ys) ≡ length xs
length-joined [] [] same = refl
length-joined [] (y ∷ ys) same = absurd (omega (arith, same))
length-joined (x ∷ xs) [] same = absurd (omega (arith, same))
length-joined (x ∷ xs) (y ∷ ys) same = ap suc (length-joined xs ys (omega (arith, same)))

-- of two sets together
pub IsVectorOf-joined : (xs ys : List ℕ) (set other : List Wid) → length xs ≡ length ys → IsVectorOf xs set → IsVectorOf ys other → IsVectorOf (joined xs ys) (set ++ other)
IsVectorOf-joined xs ys set other same one two = record {
  each = λ name has.
      let at = joined_at xs ys name.origin.index same in
      elim (Contains-append_cases set other name has) as (λ _. Covers (joined xs ys) name.origin.index name.seq) [
        | inl here ↦ omega (arith, one.each name here, at)
        | inr there ↦ omega (arith, two.each name there, at)
      ];
  least = λ vector covers server inside.
      omega (
        arith,
        one.least vector (λ name has. covers name (Contains-append_left set other name has)) server inside,
        two.least vector (λ name has. covers name (Contains-append_right set other name has)) server inside,
        joined_at xs ys server same,
      );
}

-- of a set and a name more
pub IsVectorOf-raised : (xs : List ℕ) (set : List Wid) (wid : Wid) → length xs ≡ SERVERS → IsVectorOf xs set → IsVectorOf (raised xs wid) (set ++ wid ∷ [])
IsVectorOf-raised xs set wid long is =
    let origin = wid.origin.index in
    let top = max (slice_index xs origin) wid.seq in
    let here : slice_index (raised xs wid) origin ≡ top = get_or-set_same xs origin top 0 (omega (arith, long, wid.origin.in_range)) in
    let there : (server : ℕ) → server ≢ origin → slice_index (raised xs wid) server ≡ slice_index xs server = λ server differs. get_or-set_other xs origin server top 0 differs in
    record {
      each = λ name has. elim (Contains-push_cases set wid name has) as (λ _. Covers (raised xs wid) name.origin.index name.seq) [
        | inl before ↦ elim (same_number name.origin.index origin) as (λ _. Covers (raised xs wid) name.origin.index name.seq) [
          | inl same ↦
              let covered = is.each name before in
              let moved : slice_index xs name.origin.index ≡ slice_index xs origin = ap (slice_index xs) same in
              let also : slice_index (raised xs wid) name.origin.index ≡ slice_index (raised xs wid) origin = ap (slice_index (raised xs wid)) same in
              omega (arith, covered, moved, also, here)
          | inr differs ↦ omega (arith, is.each name before, there name.origin.index differs)
        ]
        | inr now ↦ subst (λ (n : Wid). Covers (raised xs wid) n.origin.index n.seq) now (omega (arith, here))
      ];
      least = λ vector covers server inside. elim (same_number server origin) as (λ _. slice_index (raised xs wid) server ≤ slice_index vector server) [
        | inl same ↦
            let before = is.least vector (λ name has. covers name (Contains-append_left set (wid ∷ []) name has)) server inside in
            let now = covers wid (Contains-push set wid) in
            let moved : slice_index xs server ≡ slice_index xs origin = ap (slice_index xs) same in
            let also : slice_index (raised xs wid) server ≡ slice_index (raised xs wid) origin = ap (slice_index (raised xs wid)) same in
            let target : slice_index vector server ≡ slice_index vector origin = ap (slice_index vector) same in
            omega (arith, before, now, moved, also, target, here)
        | inr differs ↦ omega (arith, is.least vector (λ name has. covers name (Contains-append_left set (wid ∷ []) name has)) server inside, there server differs)
      ];
    }

-- nothing was heard of: the vector of no count
pub IsVectorOf-none : IsVectorOf (replicate SERVERS 0) []
IsVectorOf-none = record {
  each = λ name has. absurd (Contains-none name has);
  least = λ vector covers server inside. omega (arith, get_or-replicate {A = ℕ} SERVERS server 0 0 inside);
}
