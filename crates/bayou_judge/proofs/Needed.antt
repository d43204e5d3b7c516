-- What a read or a Write tells of is needed.
use Rattle.std.proofs.Common.{◌≡◌, ℕ, ◌+◌, ◌<◌, ◌≤◌, false, List, [], ◌∷◌, length, get_or, take, set, sum, All, Contains, Option, Some, None, ap, sym, ◌∙◌, refl, subst, arith, length-append}
use Rattle.std.proofs.lemmas.List.{get_or_past}
use Rattle.std.proofs.lemmas.List.Sums.{sum_by-set}
use Rattle.bayou_base.specs.Order.{is_before}
use Rattle.bayou_base.specs.Vector.{Covers}
use Rattle.bayou_base.specs.declared.entry.What.TheVariants as whats
use Rattle.bayou_base.specs.declared.stamp.Stamp.{Stamp}
use Rattle.bayou_base.specs.declared.wid.Wid.{Wid}
use Rattle.bayou_lang.specs.Laws.Fitting.{length-count_of}
use Rattle.bayou_lang.specs.declared.write.Write.{Write}
use Rattle.bayou_lang.specs.Writes.{count_of}
use Rattle.bayou_judge.specs.declared.needs.Need.{Need}
use Rattle.bayou_judge.specs.Evidence.{AreGood}
use Rattle.bayou_judge.specs.History.{dump_of, IsFrontOf}
use Rattle.bayou_judge.specs.Inner.Index.{IsLastOf, IsUpTo}
use Rattle.bayou_judge.specs.Inner.Needs.{IsNeeded, IsServed, Tells}
use Rattle.bayou_judge.proofs.Good.{front_counts, one_write, take-middle}
use Rattle.bayou_judge.proofs.Stamps.{not_before_itself}

sum-set : (xs : List ℕ) (k : ℕ) → k < length xs → sum (set xs k (get_or xs k 0 + 1)) ≡ sum xs + 1
sum-set xs k within = omega (arith, sum_by-set (λ n. n) xs k (get_or xs k 0 + 1) 0 within)

-- the counts of Writes come to their number
pub sum-count_of : (writes : List Write) → sum (count_of writes) ≡ length writes
sum-count_of [] = refl
sum-count_of (write ∷ writes) =
    let here : write.wid.origin.index < length (count_of writes) = omega (arith, write.wid.origin.in_range, length-count_of writes) in
    omega (arith, sum-set (count_of writes) write.wid.origin.index here, sum-count_of writes)

-- a Write that a read's database has is counted, and its stamp isn't after the last of that front
pub read_need : (count : ℕ) (dumps : List (List Write)) → AreGood count dumps → (home : ℕ) (vector : List ℕ) (database : List Write) (write : Write) (size : ℕ) (last : Option Stamp)
    → IsFrontOf (dump_of dumps home) database → count_of database ≡ vector → Contains database write → size ≡ sum vector → (size ≤ length (dump_of dumps home) → IsLastOf (dump_of dumps home) size last)
    → (Covers vector write.wid.origin.index write.wid.seq) × IsUpTo last write.stamp
read_need count dumps good home vector database write size last front counts has size_is last_is =
    let dump = dump_of dumps home in
    let number : size ≡ length database = size_is ∙ ap sum (sym counts) ∙ sum-count_of database in
    let within : size ≤ length dump = omega (arith, ap length front.1, length-append database front.0) in
    let cut : take size dump ≡ database = ap (λ n. take n dump) number ∙ ap (take (length database)) front.1 ∙ take-middle database front.0 in
    let answer = last_is within in (
      subst (λ list. Covers list write.wid.origin.index write.wid.seq) counts (front_counts count dumps good home database front write has),
      elim last as (λ l. IsLastOf dump size l → IsUpTo l write.stamp) [
        | None ↦ λ none. absurd (omega (arith, none, has.1))
        | Some stamp ↦ λ all. subst (λ (w : Write). is_before stamp w.stamp ≡ false) has.2 (subst (λ list. All (λ w. is_before stamp w.stamp ≡ false) list) cut all has.0 write has.1)
      ] answer,
    )

-- the Write that is told of is the one of its name
pub write_need : (count : ℕ) (dumps : List (List Write)) → AreGood count dumps → (home : ℕ) (wid : Wid) (stamp : Stamp) (deps : List ℕ) (need : Need) (write : Write)
    → IsServed (dump_of dumps home) (whats.Write wid stamp deps) → Covers need.counts wid.origin.index wid.seq → need.last ≡ Some stamp → Tells (dump_of dumps home) (whats.Write wid stamp deps) write → IsNeeded need write
write_need count dumps good home wid stamp deps need write served covered last told =
    let own = served.0 in
    let one : write ≡ own = one_write count dumps good write own (home, told.0) (home, served.1.0) (told.1 ∙ sym served.1.1) in
    let stamped : write.stamp ≡ stamp = ap (λ (w : Write). w.stamp) one ∙ served.2 in
    record {
      counted = subst (λ (w : Wid). Covers need.counts w.origin.index w.seq) (sym told.1) covered;
      up_to = subst (λ l. IsUpTo l write.stamp) (sym last) (subst (λ s. is_before stamp s ≡ false) (sym stamped) (not_before_itself stamp));
    }

-- where there is no dump, nothing was read
pub read_beyond : (dumps : List (List Write)) (home : ℕ) (database : List Write) (write : Write) → length dumps ≤ home → IsFrontOf (dump_of dumps home) database → Contains database write → ⊥
read_beyond dumps home database write past front has =
    let empty : dump_of dumps home ≡ [] = get_or_past dumps home [] past in
    let none = ap length (sym empty ∙ front.1) in
    absurd (omega (arith, none, length-append database front.0, has.1))

-- fronts with the same counts are one
pub one_front : (dump database other : List Write) → IsFrontOf dump database → IsFrontOf dump other → count_of database ≡ count_of other → database ≡ other
one_front dump database other here there same =
    let size : length database ≡ length other = sym (sum-count_of database) ∙ ap sum same ∙ sum-count_of other in
    sym (ap (take (length database)) here.1 ∙ take-middle database here.0) ∙ ap (λ n. take n dump) size ∙ ap (take (length other)) there.1 ∙ take-middle other there.0
