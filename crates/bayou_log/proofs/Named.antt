-- What is told of the Write of one name.
use Rattle.std.proofs.Common.{◌≡◌, ◌≢◌, ℕ, zero, suc, ◌<◌, ◌≤◌, Bool, true, false, not, ◌&&◌, ◌==◌, List, [], ◌∷◌, Option, None, Some, length, take, get_or, All, Contains, sym, ap, subst, ◌∙◌, refl, arith, inl, inr}
use Rattle.std.proofs.lemmas.Bool.{cases_lt, eqb-true}
use Rattle.std.proofs.lemmas.Bool.Decides.{nat_tests}
use Rattle.std.proofs.lemmas.List.{get_or_default, take-append-drop}
use Rattle.std.proofs.lemmas.List.Elements.{All-cons, All-head, All-tail, All-take}
use Rattle.std.proofs.Common.{drop}
use Rattle.bayou_base.specs.declared.stamp.Stamp.{Stamp}
use Rattle.bayou_base.specs.declared.wid.Wid.{Wid}
use Rattle.bayou_base.specs.Order.{is_before}
use Rattle.bayou_lang.specs.declared.eval.Outcome.{Outcome}
use Rattle.bayou_lang.specs.declared.write.Write.{Write}
use Rattle.bayou_lang.specs.Database.{Database, empty}
use Rattle.bayou_lang.specs.Meaning.{mean}
use Rattle.bayou_lang.specs.Laws.Fitting.{fitting-front, fitting_distinct_stamps, fitting_distinct_wids}
use Rattle.bayou_lang.specs.Laws.Equality.{server-ext, wid-ext}
use Rattle.bayou_lang.specs.Laws.SetOfWrites.{All-in_stamp_order, Contains-from_is_in, IsIn-from_contains, IsIn-from_in_stamp_order, IsStrict, IsStrict-in_stamp_order}
use Rattle.bayou_lang.specs.Laws.StampOrder.{length-in_stamp_order}
use Rattle.bayou_lang.specs.Writes.{AreFitting, in_stamp_order}
use Rattle.bayou_log.specs.declared.listing.Listed.{Listed}
use Rattle.bayou_log.specs.Inner.Beside.{listed_with}
use Rattle.bayou_log.specs.Listing.{TellsOf, listed_after, listed_at, listing_of}
use Rattle.bayou_log.proofs.ListingLaws.{IsStrict-at, length-listing_of, not_before_itself}
use Rattle.bayou_log.proofs.Picked.{some_of}

-- the test of two names
abbrev pub same_name : Wid → Wid → Bool
same_name a b = (a.origin.index == b.origin.index) && (a.seq == b.seq)

pub is_same_name : (a b : Wid) → not (same_name a b) ≡ false → a ≡ b
is_same_name a b test =
    elim (a.origin.index == b.origin.index) as (λ t. (a.origin.index == b.origin.index) ≡ t → not (t && (a.seq == b.seq)) ≡ false → a ≡ b) [
      | true ↦ λ e f.
          elim (a.seq == b.seq) as (λ u. (a.seq == b.seq) ≡ u → not u ≡ false → a ≡ b) [
            | true ↦ λ g _. wid-ext a b (server-ext a.origin b.origin (eqb-true a.origin.index b.origin.index e)) (eqb-true a.seq b.seq g)
            | false ↦ λ g h. absurd cc
          ] refl f
      | false ↦ λ e f. absurd cc
    ] refl test

pub is_other_name : (a b : Wid) → not (same_name a b) ≡ true → a ≢ b
is_other_name a b test same =
    let origin : a.origin.index ≡ b.origin.index = ap (λ (w : Wid). w.origin.index) same in
    let seq : a.seq ≡ b.seq = ap (λ (w : Wid). w.seq) same in
    grind (arith, nat_tests)

-- the Write at a place as it is listed
abbrev pub listed_as : Write → Outcome → Listed
listed_as write outcome = record { wid = write.wid; stamp = write.stamp; outcome = outcome }

listed_with-at : (writes : List Write) (outcomes : List Outcome) (place : ℕ) (d : Listed) (w : Write) (o : Outcome) → length outcomes ≡ length writes → place < length writes
    → get_or (listed_with writes outcomes) place d ≡ listed_as (get_or writes place w) (get_or outcomes place o)
listed_with-at [] outcomes place d w o many within = absurd (omega arith)
listed_with-at (write ∷ writes) [] place d w o many within = absurd (omega arith)
listed_with-at (write ∷ writes) (outcome ∷ outcomes) zero d w o many within = refl
listed_with-at (write ∷ writes) (outcome ∷ outcomes) (suc place) d w o many within = listed_with-at writes outcomes place d w o (omega arith) (omega arith)

length-listed_with : (writes : List Write) (outcomes : List Outcome) → length outcomes ≡ length writes → length (listed_with writes outcomes) ≡ length writes
length-listed_with [] outcomes many = refl
length-listed_with (write ∷ writes) [] many = absurd (omega arith)
length-listed_with (write ∷ writes) (outcome ∷ outcomes) many = ap suc (length-listed_with writes outcomes (omega arith))

-- one of them is told of
pub tells_at : (writes : List Write) (outcomes : List Outcome) (name : Wid) (place : ℕ) (w : Write) (o : Outcome) → length outcomes ≡ length writes → place < length writes
    → (get_or writes place w).wid ≡ name → TellsOf (listed_with writes outcomes) name (Some (listed_as (get_or writes place w) (get_or outcomes place o)))
tells_at writes outcomes name place w o many within named =
    let told = listed_as (get_or writes place w) (get_or outcomes place o) in
    ((place, omega (arith, length-listed_with writes outcomes many, within), listed_with-at writes outcomes place told w o many within), named)

-- none of them has the name
pub tells_none : (writes : List Write) (outcomes : List Outcome) (name : Wid) → length outcomes ≡ length writes → All (λ write. write.wid ≢ name) writes
    → All (λ (listed : Listed). listed.wid ≢ name) (listed_with writes outcomes)
tells_none [] outcomes name many none = λ k d within. absurd (omega arith)
tells_none (write ∷ writes) [] name many none = absurd (omega arith)
tells_none (write ∷ writes) (outcome ∷ outcomes) name many none =
    let P : Write → Type 0 = λ write. write.wid ≢ name in
    All-cons (λ (listed : Listed). listed.wid ≢ name) (listed_as write outcome) (listed_with writes outcomes) (All-head P write writes none) (tells_none writes outcomes name (omega arith) (All-tail P write writes none))

pub unlisted : (writes : List Write) (before : Database) (name : Wid) → All (λ write. write.wid ≢ name) writes → All (λ (listed : Listed). listed.wid ≢ name) (listed_after writes before)
unlisted [] before name none = λ k d within. absurd (omega arith)
unlisted (write ∷ writes) before name none =
    let P : Write → Type 0 = λ write. write.wid ≢ name in
    All-cons (λ (listed : Listed). listed.wid ≢ name) (listed_at before write) (listed_after writes (mean write.program before).1) (All-head P write writes none)
    (unlisted writes (mean write.program before).1 name (All-tail P write writes none))

-- Those before a place come before the stamp, those from it on don't, and the one at it has another name: so none has the name, where that is
-- the name of a Write of this stamp.
pub none_named : (writes : List Write) (name : Wid) (stamp : Stamp) (place : ℕ) → IsStrict writes → All (λ write. write.wid ≡ name → write.stamp ≡ stamp) writes
    → ((k : ℕ) (d : Write) → k < place → is_before (get_or writes k d).stamp stamp ≡ true)
    → ((k : ℕ) (d : Write) → place ≤ k → k < length writes → is_before (get_or writes k d).stamp stamp ≡ false)
    → ((d : Write) → place < length writes → (get_or writes place d).wid ≢ name) → All (λ write. write.wid ≢ name) writes
none_named writes name stamp place strict stamped before behind other k d within named =
    let here : (get_or writes k d).stamp ≡ stamp = stamped k d within named in
    elim (cases_lt k place) as (λ _. ⊥) [
      | inl lt ↦
          let itself : is_before stamp stamp ≡ true = ap (λ s. is_before s stamp) (sym here) ∙ before k d lt in
          let both : true ≡ false = sym itself ∙ not_before_itself stamp in
          cc
      | inr le ↦ elim (cases_lt place k) as (λ _. ⊥) [
        | inl lt ↦
            let earlier : is_before (get_or writes place d).stamp stamp ≡ true =
            ap (is_before (get_or writes place d).stamp) (sym here) ∙ IsStrict-at writes place k d strict lt within in
            let both : true ≡ false = sym earlier ∙ behind place d (omega arith) (omega arith) in
            cc
        | inr upto ↦
            let same : k ≡ place = omega arith in
            other d (subst (λ at. at < length writes) same within) (subst (λ at. (get_or writes at d).wid ≡ name) same named)
      ]
    ]

-- held Writes of one name have one stamp
pub one_stamp : (count : ℕ) (writes : List Write) (write : Write) (name : Wid) → AreFitting count writes → Contains writes write → write.wid ≡ name
    → All (λ held. held.wid ≡ name → held.stamp ≡ write.stamp) writes
one_stamp count writes write name fitting found is k d within named =
    let distinct = fitting_distinct_wids count writes fitting in
    let at : get_or writes found.0 d ≡ write = get_or_default writes found.0 d write found.1 ∙ found.2 in
    let same_name : (get_or writes k d).wid ≡ (get_or writes found.0 d).wid = named ∙ sym is ∙ ap (λ (w : Write). w.wid) (sym at) in
    elim (cases_lt k found.0) as (λ _. (get_or writes k d).stamp ≡ write.stamp) [
      | inl lt ↦ absurd (distinct k found.0 d lt found.1 same_name)
      | inr le ↦ elim (cases_lt found.0 k) as (λ _. (get_or writes k d).stamp ≡ write.stamp) [
        | inl lt ↦ absurd (distinct found.0 k d lt within (sym same_name))
        | inr upto ↦
            let same : found.0 ≡ k = omega arith in
            ap (λ (w : Write). w.stamp) (ap (λ place. get_or writes place d) (sym same) ∙ at)
      ]
    ]

-- the first of fitting Writes, in stamp order
pub strict_front : (count : ℕ) (writes : List Write) (n : ℕ) → AreFitting count writes → IsStrict (in_stamp_order (take n writes))
strict_front count writes n fitting =
    IsStrict-in_stamp_order (take n writes)
    (fitting_distinct_stamps count (take n writes) (fitting-front count (take n writes) (drop n writes) (subst (AreFitting count) (sym (take-append-drop n writes)) fitting)))

-- what is said of all Writes is said of the first in stamp order
pub All-front : (P : Write → Type 0) (writes : List Write) (n : ℕ) → All P writes → All P (in_stamp_order (take n writes))
All-front P writes n all = All-in_stamp_order P (take n writes) (All-take P n writes all)

-- ---- what is told of a name is one

listed_after-name : (writes : List Write) (before : Database) (k : ℕ) (d : Listed) (w : Write) → k < length writes → (get_or (listed_after writes before) k d).wid ≡ (get_or writes k w).wid
listed_after-name [] before k d w within = absurd (omega arith)
listed_after-name (write ∷ writes) before zero d w within = refl
listed_after-name (write ∷ writes) before (suc k) d w within = listed_after-name writes (mean write.program before).1 k d w (omega arith)

one_listed : (count : ℕ) (writes : List Write) (name : Wid) (x y : Listed) → AreFitting count writes → TellsOf (listing_of writes) name (Some x) → TellsOf (listing_of writes) name (Some y) → x ≡ y
one_listed count writes name x y fitting a b =
    let ordered = in_stamp_order writes in
    let i = a.0.0 in
    let j = b.0.0 in
    let many = length-listing_of writes in
    let few = length-in_stamp_order writes in
    let i_within : i < length ordered = omega (arith, a.0.1, many, few) in
    let j_within : j < length ordered = omega (arith, b.0.1, many, few) in
    let d = some_of ordered (omega (arith, i_within)) in
    let first = get_or ordered i d in
    let second = get_or ordered j d in
    let first_named : first.wid ≡ name = sym (listed_after-name ordered empty i x d i_within) ∙ ap (λ (l : Listed). l.wid) a.0.2 ∙ a.1 in
    let second_named : second.wid ≡ name = sym (listed_after-name ordered empty j y d j_within) ∙ ap (λ (l : Listed). l.wid) b.0.2 ∙ b.1 in
    let held : Contains writes first =
    Contains-from_is_in first writes (IsIn-from_in_stamp_order first writes (IsIn-from_contains first ordered i i_within (get_or_default ordered i first d i_within))) in
    let same_stamp : second.stamp ≡ first.stamp =
    All-in_stamp_order (λ (w : Write). w.wid ≡ name → w.stamp ≡ first.stamp) writes (one_stamp count writes first name fitting held first_named) j d j_within second_named in
    let strict = IsStrict-in_stamp_order writes (fitting_distinct_stamps count writes fitting) in
    let apart : (k l : ℕ) → k < l → l < length ordered → (get_or ordered l d).stamp ≡ (get_or ordered k d).stamp → ⊥ = λ k l lt within same.
    let itself : is_before (get_or ordered k d).stamp (get_or ordered k d).stamp ≡ true = ap (is_before (get_or ordered k d).stamp) (sym same) ∙ IsStrict-at ordered k l d strict lt within in
    let both : true ≡ false = sym itself ∙ not_before_itself (get_or ordered k d).stamp in
    cc in
    let one : i ≡ j =
    elim (cases_lt i j) as (λ _. i ≡ j) [
      | inl lt ↦ absurd (apart i j lt j_within same_stamp)
      | inr le ↦ elim (cases_lt j i) as (λ _. i ≡ j) [ inl lt ↦ absurd (apart j i lt i_within (sym same_stamp)) | inr upto ↦ omega arith ]
    ] in
    sym a.0.2 ∙ get_or_default (listing_of writes) i x y a.0.1 ∙ ap (λ k. get_or (listing_of writes) k y) one ∙ b.0.2

pub one_told : (count : ℕ) (writes : List Write) (name : Wid) (a b : Option Listed) → AreFitting count writes → TellsOf (listing_of writes) name a → TellsOf (listing_of writes) name b → a ≡ b
one_told count writes name (Some x) (Some y) fitting a b = ap (λ l. Some l) (one_listed count writes name x y fitting a b)
one_told count writes name (Some x) None fitting a b = absurd (b a.0.0 x a.0.1 (ap (λ (l : Listed). l.wid) a.0.2 ∙ a.1))
one_told count writes name None (Some y) fitting a b = absurd (a b.0.0 y b.0.1 (ap (λ (l : Listed). l.wid) b.0.2 ∙ b.1))
one_told count writes name None None fitting a b = refl
