-- What takes Writes back: lists of it, and what they do to a database.
use Rattle.std.proofs.Common.{◌≡◌, ℕ, zero, suc, ◌+◌, ◌≤◌, cond, true, false, List, [], ◌∷◌, ◌++◌, length, take, drop, All, IsTrue, Contains, ap, sym, ◌∙◌, refl, subst, arith}
use Rattle.std.proofs.lemmas.List.{drop-append-le, length-take-le, nil_from_length, take-append-drop, take-append-le, take_all, length-drop}
use Rattle.std.proofs.lemmas.List.Elements.{All-cons, All-head, All-nil, All-tail, All-weaker}
use Rattle.bayou_lang.specs.declared.change.Change.{Change}
use Rattle.bayou_lang.specs.declared.write.Write.{Write}
use Rattle.bayou_lang.specs.Changes.{after_changes, most_changes, program_writes}
use Rattle.bayou_lang.specs.Meaning.{mean}
use Rattle.bayou_lang.specs.Database.{Database}
use Rattle.bayou_lang.specs.Writes.{in_stamp_order, place_by_stamp}
use Rattle.bayou_base.specs.Order.{is_before}
use Rattle.bayou_log.specs.Db.{has_room, HasRoomFor}
use Rattle.bayou_log.specs.Inner.Undone.{after_undoing, all_of, changes_in, changes_of, undos_of, AreUndos, Stack}
use Rattle.bayou_log.specs.Replay.{after_writes}

abbrev pub stack_of : List (List Change) → ℕ → ℕ → ℕ → Stack
stack_of undos promised room places = record { undos = undos; promised = promised; room = room; places = places }

-- the list of one more
pub undos_of-push : (sizes : List ℕ) (changes undo : List Change) (n : ℕ) → all_of sizes ≡ length changes → n ≡ length undo
    → undos_of (sizes ++ n ∷ []) (changes ++ undo) ≡ undos_of sizes changes ++ undo ∷ []
undos_of-push [] changes undo n all is =
    let none : changes ≡ [] = nil_from_length changes (sym all) in
    ap (λ list. take n (list ++ undo) ∷ []) none
    ∙ ap (λ list. list ∷ []) (take_all n undo (omega (arith, is)))
undos_of-push (size ∷ sizes) changes undo n all is =
    let within : size ≤ length changes = omega arith in
    let rest : all_of sizes ≡ length (drop size changes) = omega (arith, length-drop size changes) in
    ap (λ front. front ∷ undos_of (sizes ++ n ∷ []) (drop size (changes ++ undo))) (take-append-le size changes undo within)
    ∙ ap (λ back. take size changes ∷ undos_of (sizes ++ n ∷ []) back) (drop-append-le size changes undo within)
    ∙ ap (λ undos. take size changes ∷ undos) (undos_of-push sizes (drop size changes) undo n rest is)

pub all_of-push : (sizes : List ℕ) (size : ℕ) → all_of (sizes ++ size ∷ []) ≡ all_of sizes + size
all_of-push [] size = omega arith
all_of-push (first ∷ sizes) size = omega (arith, all_of-push sizes size)

pub length-undos_of : (sizes : List ℕ) (changes : List Change) → length (undos_of sizes changes) ≡ length sizes
length-undos_of [] changes = refl
length-undos_of (size ∷ sizes) changes = ap suc (length-undos_of sizes (drop size changes))

pub changes_in-undos_of : (sizes : List ℕ) (changes : List Change) → all_of sizes ≡ length changes → changes_in (undos_of sizes changes) ≡ length changes
changes_in-undos_of [] changes all = all
changes_in-undos_of (size ∷ sizes) changes all =
    let within : size ≤ length changes = omega arith in
    let rest : all_of sizes ≡ length (drop size changes) = omega (arith, length-drop size changes) in
    omega (arith, length-take-le size changes within, changes_in-undos_of sizes (drop size changes) rest, length-drop size changes)

pub after_undoing-push : (undos : List (List Change)) (undo : List Change) (database : Database) → after_undoing (undos ++ undo ∷ []) database ≡ after_undoing undos (after_changes undo database)
after_undoing-push [] undo database = refl
after_undoing-push (first ∷ undos) undo database = ap (after_changes first) (after_undoing-push undos undo database)

-- those behind some place taken back
pub AreUndos-undoing : (undos : List (List Change)) (writes : List Write) (before : Database) (n : ℕ) → AreUndos undos writes before
    → after_undoing (drop n undos) (after_writes writes before) ≡ after_writes (take n writes) before
AreUndos-undoing [] [] before zero are = refl
AreUndos-undoing [] [] before (suc n) are = refl
AreUndos-undoing [] (write ∷ writes) before n are = absurd are
AreUndos-undoing (undo ∷ undos) [] before n are = absurd are
AreUndos-undoing (undo ∷ undos) (write ∷ writes) before zero are =
    ap (after_changes undo) (AreUndos-undoing undos writes (mean write.program before).1 zero are.1) ∙ are.0.whole
AreUndos-undoing (undo ∷ undos) (write ∷ writes) before (suc n) are = AreUndos-undoing undos writes (mean write.program before).1 n are.1

pub AreUndos-take : (undos : List (List Change)) (writes : List Write) (before : Database) (n : ℕ) → AreUndos undos writes before
    → AreUndos (take n undos) (take n writes) before
AreUndos-take undos writes before zero are = tt
AreUndos-take [] [] before (suc n) are = tt
AreUndos-take [] (write ∷ writes) before (suc n) are = absurd are
AreUndos-take (undo ∷ undos) [] before (suc n) are = absurd are
AreUndos-take (undo ∷ undos) (write ∷ writes) before (suc n) are = (are.0, AreUndos-take undos writes (mean write.program before).1 n are.1)

pub AreUndos-append : (undos more : List (List Change)) (writes others : List Write) (before : Database) → AreUndos undos writes before
    → AreUndos more others (after_writes writes before) → AreUndos (undos ++ more) (writes ++ others) before
AreUndos-append [] more [] others before are rest = rest
AreUndos-append [] more (write ∷ writes) others before are rest = absurd are
AreUndos-append (undo ∷ undos) more [] others before are rest = absurd are
AreUndos-append (undo ∷ undos) more (write ∷ writes) others before are rest = (are.0, AreUndos-append undos more writes others (mean write.program before).1 are.1 rest)

pub AreUndos-length : (undos : List (List Change)) (writes : List Write) (before : Database) → AreUndos undos writes before → length undos ≡ length writes
AreUndos-length [] [] before are = refl
AreUndos-length [] (write ∷ writes) before are = absurd are
AreUndos-length (undo ∷ undos) [] before are = absurd are
AreUndos-length (undo ∷ undos) (write ∷ writes) before are = ap suc (AreUndos-length undos writes (mean write.program before).1 are.1)

pub AreUndos-few : (undos : List (List Change)) (writes : List Write) (before : Database) → AreUndos undos writes before → changes_in undos ≤ changes_of writes
AreUndos-few [] [] before are = omega arith
AreUndos-few [] (write ∷ writes) before are = absurd are
AreUndos-few (undo ∷ undos) [] before are = absurd are
AreUndos-few (undo ∷ undos) (write ∷ writes) before are = omega (arith, are.0.few, AreUndos-few undos writes (mean write.program before).1 are.1)

-- each key that is put back has room
pub AreUndos-reached : (keys : List (List ℕ)) (undos : List (List Change)) (writes : List Write) (before : Database) → AreUndos undos writes before
    → All (λ write. HasRoomFor keys write.program) writes → All (λ undo. All (λ change. IsTrue (has_room keys change.key)) undo) undos
AreUndos-reached keys [] [] before are reached = All-nil (λ undo. All (λ change. IsTrue (has_room keys change.key)) undo)
AreUndos-reached keys [] (write ∷ writes) before are reached = absurd are
AreUndos-reached keys (undo ∷ undos) [] before are reached = absurd are
AreUndos-reached keys (undo ∷ undos) (write ∷ writes) before are reached =
    let For : Write → Type 0 = λ write. HasRoomFor keys write.program in
    let here : HasRoomFor keys write.program = All-head For write writes reached in
    All-cons (λ undo. All (λ change. IsTrue (has_room keys change.key)) undo) undo undos
    (All-weaker (λ change. Contains (program_writes write.program) change.key) (λ change. IsTrue (has_room keys change.key))
    (λ change among. subst (λ key. IsTrue (has_room keys key)) among.2 (here among.0 change.key among.1)) undo are.0.among)
    (AreUndos-reached keys undos writes (mean write.program before).1 are.1 (All-tail For write writes reached))

pub changes_of-append : (writes others : List Write) → changes_of (writes ++ others) ≡ changes_of writes + changes_of others
changes_of-append [] others = omega arith
changes_of-append (write ∷ writes) others = omega (arith, changes_of-append writes others)

changes_of-place_by_stamp : (write : Write) (writes : List Write) → changes_of (place_by_stamp write writes) ≡ most_changes write.program + changes_of writes
changes_of-place_by_stamp write [] = refl
changes_of-place_by_stamp write (next ∷ writes) =
    elim (is_before write.stamp next.stamp) as (λ t. changes_of (cond t (write ∷ next ∷ writes) (next ∷ place_by_stamp write writes)) ≡ most_changes write.program + changes_of (next ∷ writes)) [
      | true ↦ refl
      | false ↦ omega (arith, changes_of-place_by_stamp write writes)
    ]

-- in whatever order they make as many
pub changes_of-in_stamp_order : (writes : List Write) → changes_of (in_stamp_order writes) ≡ changes_of writes
changes_of-in_stamp_order [] = refl
changes_of-in_stamp_order (write ∷ writes) = omega (arith, changes_of-place_by_stamp write (in_stamp_order writes), changes_of-in_stamp_order writes)

-- stacks that have the same are one
pub same_stack : (undos others : List (List Change)) (promised promises room more places most : ℕ) → undos ≡ others → promised ≡ promises → room ≡ more → places ≡ most
    → stack_of undos promised room places ≡ stack_of others promises more most
same_stack undos others promised promises room more places most same_undos same_promise same_room same_places =
    ap (λ list. stack_of list promised room places) same_undos ∙ ap (λ n. stack_of others n room places) same_promise
    ∙ ap (λ n. stack_of others promises n places) same_room ∙ ap (stack_of others promises more) same_places

pub changes_in-push : (undos : List (List Change)) (undo : List Change) → changes_in (undos ++ undo ∷ []) ≡ changes_in undos + length undo
changes_in-push [] undo = omega arith
changes_in-push (first ∷ undos) undo = omega (arith, changes_in-push undos undo)

-- the last Write's are those behind the others'
pub undos_of-last : (sizes rest : List ℕ) (changes : List Change) (size left : ℕ) → sizes ≡ rest ++ size ∷ [] → all_of sizes ≡ length changes → left + size ≡ length changes
    → undos_of sizes changes ≡ undos_of rest (take left changes) ++ drop left changes ∷ []
undos_of-last sizes rest changes size left is all whole =
    let within : left ≤ length changes = omega arith in
    let front : all_of rest ≡ length (take left changes) = omega (arith, ap all_of is, all_of-push rest size, length-take-le left changes within) in
    ap (λ list. undos_of list changes) is
    ∙ ap (undos_of (rest ++ size ∷ [])) (sym (take-append-drop left changes))
    ∙ undos_of-push rest (take left changes) (drop left changes) size front (omega (arith, length-drop left changes))
