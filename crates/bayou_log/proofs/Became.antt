-- What became of the Writes that are applied.
use Rattle.std.proofs.Common.{◌≡◌, ℕ, zero, suc, ◌+◌, ◌<◌, ◌≤◌, List, [], ◌∷◌, ◌++◌, length, take, drop, get_or, refl, sym, ap, subst, ◌∙◌, arith, length-append, length-take}
use Rattle.std.proofs.lemmas.List.{drop_more, take-append-le, take-append-drop}
use Rattle.bayou_lang.specs.declared.eval.Outcome.{Outcome}
use Rattle.bayou_lang.specs.declared.write.Write.{Write}
use Rattle.bayou_lang.specs.Database.{Database, empty}
use Rattle.bayou_lang.specs.Laws.StampOrder.{length-in_stamp_order}
use Rattle.bayou_lang.specs.Meaning.{mean}
use Rattle.bayou_lang.specs.Writes.{in_stamp_order}
use Rattle.bayou_log.specs.Inner.Fields.{AreOutcomes, outcomes_after}
use Rattle.bayou_log.specs.Inner.Beside.{listed_with}
use Rattle.bayou_log.specs.Listing.{listed_after}
use Rattle.bayou_log.specs.Replay.{after_writes}

pub outcomes_after-append : (xs ys : List Write) (before : Database) → outcomes_after (xs ++ ys) before ≡ outcomes_after xs before ++ outcomes_after ys (after_writes xs before)
outcomes_after-append [] ys before = refl
outcomes_after-append (write ∷ xs) ys before =
    ap (λ rest. (mean write.program before).0 ∷ rest) (outcomes_after-append xs ys (mean write.program before).1)

pub outcomes_after-take : (n : ℕ) (writes : List Write) (before : Database) → take n (outcomes_after writes before) ≡ outcomes_after (take n writes) before
outcomes_after-take zero writes before = refl
outcomes_after-take (suc n) [] before = refl
outcomes_after-take (suc n) (write ∷ writes) before =
    ap (λ rest. (mean write.program before).0 ∷ rest) (outcomes_after-take n writes (mean write.program before).1)

length-outcomes_after : (writes : List Write) (before : Database) → length (outcomes_after writes before) ≡ length writes
length-outcomes_after [] before = refl
length-outcomes_after (write ∷ writes) before = ap suc (length-outcomes_after writes (mean write.program before).1)

-- each Write has its outcome beside it
pub listed_with-is : (writes : List Write) (before : Database) → listed_with writes (outcomes_after writes before) ≡ listed_after writes before
listed_with-is [] before = refl
listed_with-is (write ∷ writes) before =
    ap (λ rest. record { wid = write.wid; stamp = write.stamp; outcome = (mean write.program before).0 } ∷ rest) (listed_with-is writes (mean write.program before).1)

-- the next of them
pub listed_with-more : (write : Write) (writes : List Write) (outcomes : List Outcome) (place : ℕ) (d : Outcome) → place < length outcomes
    → listed_with (write ∷ writes) (drop place outcomes) ≡ record { wid = write.wid; stamp = write.stamp; outcome = get_or outcomes place d } ∷ listed_with writes (drop (place + 1) outcomes)
listed_with-more write writes outcomes place d within = ap (listed_with (write ∷ writes)) (drop_more outcomes place d within)

-- there are as many as Writes are applied
pub outcomes_few : (writes : List Write) (applied : ℕ) (outcomes : List Outcome) (capacity : ℕ) → applied ≤ length writes → AreOutcomes writes applied outcomes capacity → length outcomes ≡ applied
outcomes_few writes applied outcomes capacity within are =
    ap length are.each ∙ length-outcomes_after (in_stamp_order (take applied writes)) empty ∙ length-in_stamp_order (take applied writes)
    ∙ omega (arith, length-take applied writes)

-- with more room
pub AreOutcomes-more_room : (writes more : List Write) (applied now : ℕ) (outcomes others : List Outcome) (capacity wider : ℕ) → more ≡ writes → now ≡ applied → others ≡ outcomes
    → capacity ≤ wider → AreOutcomes writes applied outcomes capacity → AreOutcomes more now others wider
AreOutcomes-more_room writes more applied now outcomes others capacity wider same_writes same_number same above are =
    subst (λ list. AreOutcomes list now others wider) (sym same_writes)
    (subst (λ n. AreOutcomes writes n others wider) (sym same_number) (record { each = same ∙ are.each; room = omega (arith, are.room, above) }))

-- with one Write more, which waits
pub AreOutcomes-now : (writes more : List Write) (write : Write) (applied : ℕ) (outcomes : List Outcome) (capacity : ℕ) → more ≡ writes ++ write ∷ [] → applied ≤ length writes
    → length writes < capacity → AreOutcomes writes applied outcomes capacity → AreOutcomes more applied outcomes capacity
AreOutcomes-now writes more write applied outcomes capacity same within below are =
    subst (λ list. AreOutcomes list applied outcomes capacity) (sym same) (record {
      each = are.each ∙ ap (λ list. outcomes_after (in_stamp_order list) empty) (sym (take-append-le applied writes (write ∷ []) within));
      room = omega (arith, below, length-append writes (write ∷ []));
    })

-- once those behind some place were applied again
pub outcomes_again : (writes : List Write) (first : List Write) (n : ℕ) (old left now : List Outcome) (before : Database) → old ≡ outcomes_after first empty → take n writes ≡ take n first
    → left ≡ take n old → before ≡ after_writes (take n writes) empty → now ≡ left ++ outcomes_after (drop n writes) before → now ≡ outcomes_after writes empty
outcomes_again writes first n old left now before were stays cut back added =
    added
    ∙ ap (λ front. front ++ outcomes_after (drop n writes) before)
    (cut ∙ ap (take n) were ∙ outcomes_after-take n first empty ∙ ap (λ list. outcomes_after list empty) (sym stays))
    ∙ ap (λ database. outcomes_after (take n writes) empty ++ outcomes_after (drop n writes) database) back
    ∙ sym (outcomes_after-append (take n writes) (drop n writes) empty)
    ∙ ap (λ list. outcomes_after list empty) (take-append-drop n writes)
