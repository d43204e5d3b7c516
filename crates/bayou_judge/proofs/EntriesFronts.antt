-- A front of a list of Writes is told by its counts: they sum up to its length.
use Rattle.std.proofs.Common.{◌≡◌, ◌+◌, ◌≤◌, List, [], ◌∷◌, ◌++◌, get_or, length, take, ap, sym, ◌∙◌, refl, arith}
use Rattle.std.specs.List.{sum}
use Rattle.std.proofs.lemmas.List.{length-append, take_at}
use Rattle.std.proofs.lemmas.List.Sums.{sum_by-set}
use Rattle.bayou_lang.specs.declared.write.Write.{Write}
use Rattle.bayou_lang.specs.Laws.Fitting.{length-count_of}
use Rattle.bayou_lang.specs.Writes.{count_of}

-- each Write is counted once
sum-count_of : (writes : List Write) → sum (count_of writes) ≡ length writes
sum-count_of [] = refl
sum-count_of (write ∷ writes) =
    let counts = count_of writes in
    let at = write.wid.origin.index in
    omega (arith, sum-count_of writes, sum_by-set (λ n. n) counts at (get_or counts at 0 + 1) 0 (omega (arith, write.wid.origin.in_range, length-count_of writes)))

pub front_is : (dump database rest : List Write) → dump ≡ database ++ rest → (sum (count_of database) ≤ length dump) × (database ≡ take (sum (count_of database)) dump)
front_is dump database rest whole =
    let size = sum-count_of database in (
      omega (arith, size, ap length whole, length-append database rest),
      sym (ap (take (sum (count_of database))) whole ∙ take_at database rest (sum (count_of database)) (sym size)),
    )
