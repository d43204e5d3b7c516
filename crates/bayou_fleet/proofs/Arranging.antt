-- A command that is put behind those of its kind.
use Rattle.std.proofs.Common.{rules, tests, ◌≡◌, ◌⊎◌, inl, inr, ℕ, ◌<◌, ◌==◌, Bool, true, false, cond, List, [], ◌∷◌, ◌++◌, map, IsTrue, length, refl, sym, ap, ◌∙◌, arith}
use Rattle.std.specs.Global.{Vec}
use Rattle.std.specs.List.{filter}
use Rattle.std.specs.Prelude.{slice_index_or, slice_set}
use Rattle.std.proofs.lemmas.Bool.{both_ways, cases_eq, eqb-true, ne_eqb}
use Rattle.std.proofs.lemmas.List.{append_assoc, get_or-set_other, get_or-set_same, map-append}
use Rattle.bayou_base.specs.declared.limits.TheConstants.{SESSIONS}
use Rattle.bayou_fleet.specs.Phases.{AreArranged, closing_said, opening_said, pull_said}
use Rattle.bayou_fleet.specs.declared.phase.Closing.{Closing}
use Rattle.bayou_fleet.specs.declared.phase.Opening.{Opening}
use Rattle.bayou_fleet.specs.declared.phase.Pull.{Pull}
use Rattle.bayou_script.specs.Phases.{is_opening, is_operation_of, is_pull, is_rest}
use Rattle.bayou_text.specs.Said.{Said, attempt_said, operation_said, servers, session, write, read, again, drop, log, fuse, lose, reopen, restart, pull, resend, totals, judge, survey, book, phase, entry, held}
use Rattle.bayou_text.specs.declared.command.Attempt.{Attempt}
use Rattle.bayou_text.specs.declared.command.Attempt.TheVariants as attempts
use Rattle.bayou_text.specs.declared.command.Operation.{Operation}

-- which kind a line is of, and that it is of no other
pub record Kinds (opening pulling resting : Bool) (operation : ℕ → Bool) (said : Said) : Type 0 where
  pub opening_is : is_opening said ≡ opening
  pub pulling_is : is_pull said ≡ pulling
  pub resting_is : is_rest said ≡ resting
  pub operation_is : (number : ℕ) → is_operation_of number said ≡ operation number

abbrev pub Kind : Said → Type 0
Kind said = Kinds true false false (λ _. false) said ⊎ (Kinds false true false (λ _. false) said
    ⊎ (Kinds false false true (λ _. false) said ⊎ ((who : ℕ) × Kinds false false false (λ number. who == number) said)))

kind : (said : Said) → Kind said
kind (servers count most) = inr (inr (inl (record { opening_is = refl; pulling_is = refl; resting_is = refl; operation_is = λ _. refl })))
kind (session who asks) = inl (record { opening_is = refl; pulling_is = refl; resting_is = refl; operation_is = λ _. refl })
kind (write who place program) = inr (inr (inr (who, record { opening_is = refl; pulling_is = refl; resting_is = refl; operation_is = λ _. refl })))
kind (read who place key) = inr (inr (inr (who, record { opening_is = refl; pulling_is = refl; resting_is = refl; operation_is = λ _. refl })))
kind (again who) = inr (inr (inr (who, record { opening_is = refl; pulling_is = refl; resting_is = refl; operation_is = λ _. refl })))
kind (drop who) = inr (inr (inl (record { opening_is = refl; pulling_is = refl; resting_is = refl; operation_is = λ _. refl })))
kind (log place) = inr (inr (inl (record { opening_is = refl; pulling_is = refl; resting_is = refl; operation_is = λ _. refl })))
kind (fuse place calls kept) = inr (inr (inl (record { opening_is = refl; pulling_is = refl; resting_is = refl; operation_is = λ _. refl })))
kind (lose place count) = inr (inr (inl (record { opening_is = refl; pulling_is = refl; resting_is = refl; operation_is = λ _. refl })))
kind (reopen place) = inr (inr (inl (record { opening_is = refl; pulling_is = refl; resting_is = refl; operation_is = λ _. refl })))
kind (restart place) = inr (inr (inl (record { opening_is = refl; pulling_is = refl; resting_is = refl; operation_is = λ _. refl })))
kind (pull to source cut) = inr (inl (record { opening_is = refl; pulling_is = refl; resting_is = refl; operation_is = λ _. refl }))
kind (resend to source) = inr (inr (inl (record { opening_is = refl; pulling_is = refl; resting_is = refl; operation_is = λ _. refl })))
kind totals = inr (inr (inl (record { opening_is = refl; pulling_is = refl; resting_is = refl; operation_is = λ _. refl })))
kind judge = inr (inr (inl (record { opening_is = refl; pulling_is = refl; resting_is = refl; operation_is = λ _. refl })))
kind survey = inr (inr (inl (record { opening_is = refl; pulling_is = refl; resting_is = refl; operation_is = λ _. refl })))
kind book = inr (inr (inl (record { opening_is = refl; pulling_is = refl; resting_is = refl; operation_is = λ _. refl })))
kind phase = inr (inr (inl (record { opening_is = refl; pulling_is = refl; resting_is = refl; operation_is = λ _. refl })))
kind (entry told counts) = inr (inr (inl (record { opening_is = refl; pulling_is = refl; resting_is = refl; operation_is = λ _. refl })))
kind (held place item counts) = inr (inr (inl (record { opening_is = refl; pulling_is = refl; resting_is = refl; operation_is = λ _. refl })))

-- an operation of this session is of no other kind, and of no other session
pub of_operation : (said : Said) (who : ℕ) → IsTrue (is_operation_of who said) → Kinds false false false (λ number. who == number) said
of_operation said who is = elim (kind said) as (λ _. Kinds false false false (λ number. who == number) said) [
  | inl k ↦ absurd (both_ways _ (k.operation_is who) is)
  | inr others ↦ elim others as (λ _. Kinds false false false (λ number. who == number) said) [
    | inl k ↦ absurd (both_ways _ (k.operation_is who) is)
    | inr more ↦ elim more as (λ _. Kinds false false false (λ number. who == number) said) [
      | inl k ↦ absurd (both_ways _ (k.operation_is who) is)
      | inr k ↦
          let same = eqb-true k.0 who (sym (k.1.operation_is who) ∙ is) in
          record {
            opening_is = k.1.opening_is;
            pulling_is = k.1.pulling_is;
            resting_is = k.1.resting_is;
            operation_is = λ number. k.1.operation_is number ∙ ap (λ (w : ℕ). w == number) same;
          }
    ]
  ]
]

picked : (test : Said → Bool) (said : Said) (xs : List Said) (is : Bool) → test said ≡ is → filter test (said ∷ xs) ≡ cond is (said ∷ filter test xs) (filter test xs)
picked test said xs is same = ap (λ (b : Bool). cond b (said ∷ filter test xs) (filter test xs)) same

-- one that isn't picked
passed : (test : Said → Bool) (before lines : List Said) (said : Said) (coming : List Said) → test said ≡ false → before ++ filter test (said ∷ coming) ≡ lines → before ++ filter test coming ≡ lines
passed test before lines said coming is so = ap (λ (xs : List Said). before ++ xs) (sym (picked test said coming false is)) ∙ so

-- one that is picked
pub moved : {A : Type 0} (says : A → Said) (test : Said → Bool) (before : List A) (command : A) (coming lines : List Said) → test (says command) ≡ true
    → map says before ++ filter test (says command ∷ coming) ≡ lines → map says (before ++ command ∷ []) ++ filter test coming ≡ lines
moved says test before command coming lines is so =
    ap (λ (xs : List Said). xs ++ filter test coming) (map-append says before (command ∷ []))
    ∙ append_assoc (map says before) (says command ∷ []) (filter test coming)
    ∙ ap (λ (xs : List Said). map says before ++ xs) (sym (picked test (says command) coming true is))
    ∙ so

-- the operations of each session, once one more stands behind its own
pub put_operation : (operations : List (Vec Operation)) (who : ℕ) (command : Operation) (old new : Vec Operation) (coming lines : List Said)
    → who < length operations → old ≡ slice_index_or operations who old → new.items ≡ old.items ++ command ∷ [] → IsTrue (is_operation_of who (operation_said command))
    → (all : (number : ℕ) (none : Vec Operation) → number < SESSIONS → map operation_said (slice_index_or operations number none).items ++ filter (is_operation_of number) (operation_said command ∷ coming) ≡ filter (is_operation_of number) lines)
    → (number : ℕ) (none : Vec Operation) → number < SESSIONS
    → map operation_said (slice_index_or (slice_set operations who new) number none).items ++ filter (is_operation_of number) coming ≡ filter (is_operation_of number) lines
put_operation operations who command old new coming lines there is_old is_new is all number none within =
    elim (cases_eq number who) as (λ _. map operation_said (slice_index_or (slice_set operations who new) number none).items ++ filter (is_operation_of number) coming ≡ filter (is_operation_of number) lines) [
      | inl same ↦ (
          ap (λ (n : ℕ). map operation_said (slice_index_or (slice_set operations who new) n none).items ++ filter (is_operation_of n) coming) same
          ∙ ap (λ (own : Vec Operation). map operation_said own.items ++ filter (is_operation_of who) coming) (get_or-set_same operations who new none there)
          ∙ ap (λ (own : List Operation). map operation_said own ++ filter (is_operation_of who) coming) is_new
          ∙ moved operation_said (is_operation_of who) old.items command coming (filter (is_operation_of who) lines) is
          (ap (λ (own : Vec Operation). map operation_said own.items ++ filter (is_operation_of who) (operation_said command ∷ coming)) is_old ∙ all who old (omega (arith, within, same)))
          ∙ ap (λ (n : ℕ). filter (is_operation_of n) lines) (sym same))
      | inr other ↦ (
          ap (λ (own : Vec Operation). map operation_said own.items ++ filter (is_operation_of number) coming) (get_or-set_other operations who number new none other)
          ∙ passed (is_operation_of number) (map operation_said (slice_index_or operations number none).items) (filter (is_operation_of number) lines) (operation_said command) coming
          ((of_operation (operation_said command) who is).operation_is number ∙ ne_eqb who number (λ e. other (sym e))) (all number none within))
    ]

-- all kinds, once one more operation stands behind its own
pub put_own : (openings : List Opening) (operations : List (Vec Operation)) (pulls : List Pull) (closings : List Closing) (who : ℕ) (command : Operation) (old new : Vec Operation) (coming lines : List Said)
    → who < length operations → old ≡ slice_index_or operations who old → new.items ≡ old.items ++ command ∷ [] → IsTrue (is_operation_of who (operation_said command))
    → AreArranged openings operations pulls closings (operation_said command ∷ coming) lines → AreArranged openings (slice_set operations who new) pulls closings coming lines
put_own openings operations pulls closings who command old new coming lines there is_old is_new is all =
    let k = of_operation (operation_said command) who is in
    record {
      openings_are = passed is_opening (map opening_said openings) (filter is_opening lines) (operation_said command) coming k.opening_is all.openings_are;
      operations_are = put_operation operations who command old new coming lines there is_old is_new is all.operations_are;
      pulls_are = passed is_pull (map pull_said pulls) (filter is_pull lines) (operation_said command) coming k.pulling_is all.pulls_are;
      closings_are = passed is_rest (map closing_said closings) (filter is_rest lines) (operation_said command) coming k.resting_is all.closings_are;
    }

-- an operation is its session's
pub own_operation : (operation : Operation) → IsTrue (is_operation_of operation.session.index (operation_said operation))
own_operation operation = of_attempt operation.session.index operation.attempt
  where
    of_attempt : (who : ℕ) (attempt : Attempt) → IsTrue (is_operation_of who (attempt_said who attempt))
    of_attempt who (attempts.Write place program) = search (rules, tests)
    of_attempt who (attempts.Read place key) = search (rules, tests)
    of_attempt who attempts.Again = search (rules, tests)
