-- Lists of Writes in strict stamp order: what of them doesn't come after a stamp, and their longest beginning of which something is known.
use Rattle.std.proofs.Common.{◌≡◌, ◌⊎◌, inl, inr, Bool, true, false, cond, not, List, [], ◌∷◌, ◌++◌, filter, All, Contains, ap, sym, ◌∙◌, refl, subst, arith}
use Rattle.std.proofs.lemmas.List.Elements.{All-cons, All-filter, All-head, All-tail, All-weaker}
use Rattle.bayou_base.specs.declared.stamp.Stamp.{Stamp}
use Rattle.bayou_base.specs.Order.{is_before}
use Rattle.bayou_lang.specs.declared.write.Write.{Write}
use Rattle.bayou_lang.specs.Laws.SetOfWrites.{All-is_in, Contains-from_is_in, IsIn, IsIn-from_contains, IsStrict, IsStrict-same, not_before_itself}
use Rattle.bayou_lang.specs.Laws.StampOrder.{is_before-asym, is_before-cotrans}
use Rattle.bayou_lang.specs.Writes.{HaveSameWrites}

abbrev ComesBefore : Write → Write → Type 0
ComesBefore a b = is_before a.stamp b.stamp ≡ true

-- those of the list that don't come after the stamp
abbrev pub not_after : Stamp → List Write → List Write
not_after stamp list = filter (λ (write : Write). not (is_before stamp write.stamp)) list

pub strict_filter : (p : Write → Bool) (list : List Write) → IsStrict list → IsStrict (filter p list)
strict_filter p [] strict = strict
strict_filter p (first ∷ list) strict =
    let rest = strict_filter p list strict.1 in
    elim (p first) as (λ t. IsStrict (cond t (first ∷ filter p list) (filter p list))) [
      | true ↦ (All-filter p (ComesBefore first) list strict.0, rest)
      | false ↦ rest
    ]

pub is_in : (list : List Write) (write : Write) → Contains list write → IsIn write list
is_in list write had = IsIn-from_contains write list had.0 had.1 had.2

is_in_front : (write : Write) (first later : List Write) → IsIn write first → IsIn write (first ++ later)
is_in_front write [] later there = absurd there
is_in_front write (x ∷ first) later (inl is) = inl is
is_in_front write (x ∷ first) later (inr there) = inr (is_in_front write first later there)

-- two such lists with the same Writes are one
pub strict_same : (xs ys : List Write) → IsStrict xs → IsStrict ys → HaveSameWrites xs ys → xs ≡ ys
strict_same xs ys strict also same =
    IsStrict-same xs ys strict also
    (λ write there. is_in ys write ((same write).0 (Contains-from_is_in write xs there)))
    (λ write there. is_in xs write ((same write).1 (Contains-from_is_in write ys there)))

-- where each comes after the stamp, nothing is left
none_left : (stamp : Stamp) (list : List Write) → All (λ (write : Write). is_before stamp write.stamp ≡ true) list → not_after stamp list ≡ []
none_left stamp [] all = refl
none_left stamp (first ∷ list) all =
    let Later : Write → Type 0 = λ write. is_before stamp write.stamp ≡ true in
    ap (λ t. cond (not t) (first ∷ not_after stamp list) (not_after stamp list)) (All-head Later first list all) ∙ none_left stamp list (All-tail Later first list all)

-- in strict order those that don't come after a stamp come first
pub begins_so : (stamp : Stamp) (list : List Write) → IsStrict list → (later : List Write) × (list ≡ not_after stamp list ++ later)
begins_so stamp [] strict = ([], refl)
begins_so stamp (first ∷ list) strict =
    let rest = not_after stamp list in
    elim (is_before stamp first.stamp) as (λ t. is_before stamp first.stamp ≡ t → (later : List Write) × (first ∷ list ≡ cond (not t) (first ∷ rest) rest ++ later)) [
      | true ↦ λ after.
          let all : All (λ (write : Write). is_before stamp write.stamp ≡ true) list = All-weaker (ComesBefore first) (λ (write : Write). is_before stamp write.stamp ≡ true)
          (λ next before. is_before-cotrans stamp first.stamp next.stamp after (is_before-asym first.stamp next.stamp before)) list strict.0 in
          (first ∷ list, ap (λ zs. zs ++ first ∷ list) (sym (none_left stamp list all)))
      | false ↦ λ early.
          let deeper = begins_so stamp list strict.1 in
          (deeper.0, ap (λ zs. first ∷ zs) deeper.1)
    ] refl

pub not_itself : (write : Write) → is_before write.stamp write.stamp ≡ false
not_itself write = elim (is_before write.stamp write.stamp) as (λ t. is_before write.stamp write.stamp ≡ t → t ≡ false) [
  | true ↦ λ before. absurd (not_before_itself write before)
  | false ↦ λ before. refl
] refl

-- ---- the longest beginning of which each is known

module _ (Known : Write → Type 0) where
  -- what doesn't come after a known Write of the one list is in the other
  abbrev pub Reaches : List Write → List Write → Type 0
  Reaches xs ys = (known write : Write) → IsIn known xs → Known known → IsIn write xs → is_before known.stamp write.stamp ≡ false → IsIn write ys

  -- a known Write that is the first of the one is that of the other, if it is there and what isn't later comes back
  first_is : (x y : Write) (xs ys : List Write) → IsStrict (x ∷ xs) → IsStrict (y ∷ ys) → Known x → IsIn x (y ∷ ys) → Reaches (y ∷ ys) (x ∷ xs) → y ≡ x
  first_is x y xs ys s t known has back =
      elim has as (λ _. y ≡ x) [
        | inl is ↦ is
        | inr later ↦
            let before = All-is_in (ComesBefore y) x ys t.0 later in
            elim (back x y (inr later) known (inl refl) (is_before-asym y.stamp x.stamp before)) as (λ _. y ≡ x) [
              | inl is ↦ sym is
              | inr last ↦
                  let both : true ≡ false = sym (All-is_in (ComesBefore x) y xs s.0 last) ∙ is_before-asym y.stamp x.stamp before in
                  absurd (cc)
            ]
      ]

  -- and so is what stands behind it
  reaches_on : (x y : Write) (xs ys : List Write) → IsStrict (x ∷ xs) → x ≡ y → Reaches (x ∷ xs) (y ∷ ys) → Reaches xs ys
  reaches_on x y xs ys s is reaches known write has is_known there early =
      elim (reaches known write (inr has) is_known (inr there) early) as (λ _. IsIn write ys) [
        | inl at ↦ absurd (not_before_itself x (subst (ComesBefore x) (sym (is ∙ at)) (All-is_in (ComesBefore x) write xs s.0 there)))
        | inr later ↦ later
      ]

  -- the next one, if there is one, isn't known
  abbrev pub IsUnknown : List Write → Type 0
  IsUnknown later = (next : Write) (others : List Write) → later ≡ next ∷ others → Known next → ⊥

  unknown_on : (later ys : List Write) → IsStrict later → IsStrict ys → IsUnknown later → Reaches later ys → Reaches ys later → IsUnknown ys
  unknown_on [] ys s t unknown there back next others is known =
      let reaches : Reaches (next ∷ others) [] = subst (λ list. Reaches list []) is back in
      reaches next next (inl refl) known (inl refl) (not_itself next)
  unknown_on (first ∷ later) ys s t unknown there back next others is known =
      let same : first ≡ next = first_is next first others later (subst IsStrict is t) s known
      (back next next (subst (IsIn next) (sym is) (inl refl)) known (subst (IsIn next) (sym is) (inl refl)) (not_itself next)) (subst (Reaches (first ∷ later)) is there) in
      unknown first later refl (subst Known (sym same) known)

  -- the longest known beginning of the one is that of the other
  pub beginning_same : (first later ys : List Write) → IsStrict (first ++ later) → IsStrict ys → All Known first → IsUnknown later → Reaches (first ++ later) ys → Reaches ys (first ++ later)
      → (others : List Write) × (ys ≡ first ++ others) × IsUnknown others
  beginning_same [] later ys s t known unknown there back = (ys, refl, unknown_on later ys s t unknown there back)
  beginning_same (x ∷ first) later [] s t known unknown there back = absurd (there x x (inl refl) (All-head Known x first known) (inl refl) (not_itself x))
  beginning_same (x ∷ first) later (y ∷ ys) s t known unknown there back =
      let is_known = All-head Known x first known in
      let is : y ≡ x = first_is x y (first ++ later) ys s t is_known (there x x (inl refl) is_known (inl refl) (not_itself x)) back in
      let deeper = beginning_same first later ys s.1 t.1 (All-tail Known x first known) unknown
      (reaches_on x y (first ++ later) ys s (sym is) there) (reaches_on y x ys (first ++ later) t is back) in
      (deeper.0, ap (λ z. z ∷ ys) is ∙ ap (λ list. x ∷ list) deeper.1, deeper.2)

  -- Known Writes with which the one begins stand first in each other one that has them, where what of it isn't later is in the one.
  pub begins_too : (first later ys : List Write) → IsStrict (first ++ later) → IsStrict ys → All Known first → ((write : Write) → IsIn write first → IsIn write ys) → Reaches ys (first ++ later)
      → (others : List Write) × (ys ≡ first ++ others)
  begins_too [] later ys s t known has back = (ys, refl)
  begins_too (x ∷ first) later [] s t known has back = absurd (has x (inl refl))
  begins_too (x ∷ first) later (y ∷ ys) s t known has back =
      let is : y ≡ x = first_is x y (first ++ later) ys s t (All-head Known x first known) (has x (inl refl)) back in
      let still : (write : Write) → IsIn write first → IsIn write ys = λ write there. elim (has write (inr there)) as (λ _. IsIn write ys) [
        | inl at ↦ absurd (not_before_itself x (subst (ComesBefore x) (sym (sym is ∙ at)) (All-is_in (ComesBefore x) write (first ++ later) s.0 (is_in_front write first later there))))
        | inr behind ↦ behind
      ] in
      let deeper = begins_too first later ys s.1 t.1 (All-tail Known x first known) still (reaches_on y x ys (first ++ later) t is back) in
      (deeper.0, ap (λ z. z ∷ ys) is ∙ ap (λ list. x ∷ list) deeper.1)

  -- there is one, where it can be told of each Write whether it is known
  pub longest_known : ((write : Write) → Known write ⊎ (Known write → ⊥)) → (list : List Write) → (first later : List Write) × (list ≡ first ++ later) × All Known first × IsUnknown later
  longest_known tells [] = ([], [], refl, (λ k d within. absurd (omega arith)), λ next others is. absurd (cc))
  longest_known tells (write ∷ list) =
      elim (tells write) as (λ _. (first later : List Write) × (write ∷ list ≡ first ++ later) × All Known first × IsUnknown later) [
        | inl known ↦
            let deeper = longest_known tells list in
            (write ∷ deeper.0, deeper.1, ap (λ zs. write ∷ zs) deeper.2, All-cons Known write deeper.0 known deeper.3, deeper.4)
        | inr unknown ↦ ([], write ∷ list, refl, (λ k d within. absurd (omega arith)), λ next others is known. let same : write ≡ next = cc in unknown (subst Known (sym same) known))
      ]
