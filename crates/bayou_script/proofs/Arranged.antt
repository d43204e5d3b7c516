-- What is arranged is all that was said.
use Rattle.std.proofs.Common.{◌≡◌, inl, inr, ℕ, zero, suc, ◌+◌, ◌<◌, ◌≤◌, ◌==◌, if◌then◌else◌, Bool, true, false, cond, not, List, [], ◌∷◌, ◌++◌, IsTrue, length, refl, sym, ap, ap₂, ◌∙◌, arith, length-append}
use Rattle.std.specs.List.{filter, flat_map, list_all, onto_first, range_with_len}
use Rattle.std.proofs.lemmas.Bool.{cases_eq, eq-eqb, ltb-true, ne_eqb}
use Rattle.std.proofs.lemmas.List.Elements.{filter-append}
use Rattle.bayou_base.specs.declared.limits.TheConstants.{SESSIONS}
use Rattle.bayou_text.specs.Said.{Said, servers, session, write, read, again, drop, log, fuse, lose, reopen, restart, pull, resend, totals, judge, survey, book, phase, entry, held}
use Rattle.bayou_script.proofs.Phased.{goes_on}
use Rattle.bayou_script.proofs.Told.{both_left, both_right}
use Rattle.bayou_script.specs.Phases.{arranged, arranged_phase, ends_phase, has_session, is_operation_of, is_opening, is_pull, is_rest, operations_of, opens_of, phases_of, pulls_of, rest_of}

-- how many of these pass
abbrev pub passing : (Said → Bool) → List Said → ℕ
passing holds xs = length (filter holds xs)

passing_both : (holds : Said → Bool) (xs ys : List Said) → passing holds (xs ++ ys) ≡ passing holds xs + passing holds ys
passing_both holds xs ys = ap length (filter-append holds xs ys) ∙ length-append (filter holds xs) (filter holds ys)

-- one that passes counts as one
abbrev pub weight : (Said → Bool) → Said → ℕ
weight holds said = passing holds (said ∷ [])

one_more : (passes : Bool) (said : Said) (xs : List Said) → length (cond passes (said ∷ xs) xs) ≡ length (cond passes (said ∷ []) []) + length xs
one_more true said xs = omega arith
one_more false said xs = omega arith

passing_more : (holds : Said → Bool) (said : Said) (xs : List Said) → passing holds (said ∷ xs) ≡ weight holds said + passing holds xs
passing_more holds said xs = one_more (holds said) said (filter holds xs)

-- ---- the operations of the sessions with these numbers

abbrev pub operations_from : ℕ → ℕ → List Said → List Said
operations_from least count lines = flat_map (λ number. operations_of number lines) (range_with_len least count)

-- none more
no_more : (n : ℕ) → n ≡ 0 + n
no_more n = omega arith

picked : (test : Said → Bool) (said : Said) (xs : List Said) (is : Bool) → test said ≡ is → filter test (said ∷ xs) ≡ cond is (said ∷ filter test xs) (filter test xs)
picked test said xs is same = ap (λ (b : Bool). cond b (said ∷ filter test xs) (filter test xs)) same

operations_first : (holds : Said → Bool) (least count : ℕ) (lines : List Said)
    → passing holds (operations_from least (suc count) lines) ≡ passing holds (operations_of least lines) + passing holds (operations_from (least + 1) count lines)
operations_first holds least count lines = passing_both holds (operations_of least lines) (operations_from (least + 1) count lines)

-- a line that is no operation of theirs
none_theirs : (holds : Said → Bool) (count least : ℕ) (said : Said) (xs : List Said) → ((number : ℕ) → least ≤ number → is_operation_of number said ≡ false)
    → passing holds (operations_from least count (said ∷ xs)) ≡ passing holds (operations_from least count xs)
none_theirs holds zero least said xs none = refl
none_theirs holds (suc count) least said xs none =
    operations_first holds least count (said ∷ xs)
    ∙ ap₂ ◌+◌ (ap (passing holds) (picked (is_operation_of least) said xs false (none least (omega arith))))
    (none_theirs holds count (least + 1) said xs (λ number from. none number (omega (arith, from))))
    ∙ sym (operations_first holds least count xs)

-- an operation of one of them
one_theirs : (holds : Said → Bool) (count least who : ℕ) (said : Said) (xs : List Said) → ((number : ℕ) → is_operation_of number said ≡ (who == number)) → least ≤ who
    → who < least + count → passing holds (operations_from least count (said ∷ xs)) ≡ weight holds said + passing holds (operations_from least count xs)
one_theirs holds zero least who said xs is from below = absurd (omega (arith, from, below))
one_theirs holds (suc count) least who said xs is from below = elim (cases_eq who least) as (λ _. passing holds (operations_from least (suc count) (said ∷ xs))
    ≡ weight holds said + passing holds (operations_from least (suc count) xs)) [
      | inl same ↦
          let first = ap (passing holds) (picked (is_operation_of least) said xs true (is least ∙ eq-eqb who least same)) ∙ passing_more holds said (operations_of least xs) in
          let others = none_theirs holds count (least + 1) said xs (λ number above. is number ∙ ne_eqb who number (λ e. omega (arith, above, e, same))) in
          omega (arith, operations_first holds least count (said ∷ xs), first, others, operations_first holds least count xs)
      | inr other ↦
          let first = ap (passing holds) (picked (is_operation_of least) said xs false (is least ∙ ne_eqb who least other)) in
          let others = one_theirs holds count (least + 1) who said xs is (omega (arith, from, other)) (omega (arith, below)) in
          omega (arith, operations_first holds least count (said ∷ xs), first, others, operations_first holds least count xs)
    ]

-- ---- a phase

parts_of : (holds : Said → Bool) (lines : List Said) → passing holds (arranged_phase lines)
    ≡ passing holds (opens_of lines) + (passing holds (operations_from 0 SESSIONS lines) + (passing holds (pulls_of lines) + passing holds (rest_of lines)))
parts_of holds lines =
    passing_both holds (opens_of lines) (operations_from 0 SESSIONS lines ++ (pulls_of lines ++ rest_of lines))
    ∙ ap (λ (n : ℕ). passing holds (opens_of lines) + n) (passing_both holds (operations_from 0 SESSIONS lines) (pulls_of lines ++ rest_of lines)
    ∙ ap (λ (n : ℕ). passing holds (operations_from 0 SESSIONS lines) + n) (passing_both holds (pulls_of lines) (rest_of lines)))

-- a line more, by what it is: of each part it is or isn't one
record Counts (holds : Said → Bool) (said : Said) (xs : List Said) : Type 0 where
  pub opening : ℕ
  pub operation : ℕ
  pub pulling : ℕ
  pub resting : ℕ
  pub opens : passing holds (opens_of (said ∷ xs)) ≡ opening + passing holds (opens_of xs)
  pub operations : passing holds (operations_from 0 SESSIONS (said ∷ xs)) ≡ operation + passing holds (operations_from 0 SESSIONS xs)
  pub pulls : passing holds (pulls_of (said ∷ xs)) ≡ pulling + passing holds (pulls_of xs)
  pub rest : passing holds (rest_of (said ∷ xs)) ≡ resting + passing holds (rest_of xs)
  pub whole : opening + (operation + (pulling + resting)) ≡ weight holds said

count_rest : (holds : Said → Bool) (said : Said) (xs : List Said) → is_opening said ≡ false → ((number : ℕ) → is_operation_of number said ≡ false) → is_pull said ≡ false → is_rest said ≡ true
    → Counts holds said xs
count_rest holds said xs opening operation pulling resting = record {
  opening = 0;
  operation = 0;
  pulling = 0;
  resting = weight holds said;
  opens = ap (passing holds) (picked is_opening said xs false opening) ∙ no_more _;
  operations = none_theirs holds SESSIONS 0 said xs (λ number from. operation number) ∙ no_more _;
  pulls = ap (passing holds) (picked is_pull said xs false pulling) ∙ no_more _;
  rest = ap (passing holds) (picked is_rest said xs true resting) ∙ passing_more holds said (rest_of xs);
  whole = omega arith;
}

count_operation : (holds : Said → Bool) (said : Said) (who : ℕ) (xs : List Said) → is_opening said ≡ false → ((number : ℕ) → is_operation_of number said ≡ (who == number)) → who < SESSIONS
    → is_pull said ≡ false → is_rest said ≡ false → Counts holds said xs
count_operation holds said who xs opening operation within pulling resting = record {
  opening = 0;
  operation = weight holds said;
  pulling = 0;
  resting = 0;
  opens = ap (passing holds) (picked is_opening said xs false opening) ∙ no_more _;
  operations = one_theirs holds SESSIONS 0 who said xs operation (omega arith) (omega (arith, within));
  pulls = ap (passing holds) (picked is_pull said xs false pulling) ∙ no_more _;
  rest = ap (passing holds) (picked is_rest said xs false resting) ∙ no_more _;
  whole = omega arith;
}

count_line : (holds : Said → Bool) (said : Said) (xs : List Said) → IsTrue (has_session said) → Counts holds said xs
count_line holds (servers count most) xs within = count_rest holds _ xs refl (λ _. refl) refl refl
count_line holds (session who asks) xs within = record {
  opening = weight holds (session who asks);
  operation = 0;
  pulling = 0;
  resting = 0;
  opens = passing_more holds (session who asks) (opens_of xs);
  operations = none_theirs holds SESSIONS 0 (session who asks) xs (λ _ _. refl) ∙ no_more _;
  pulls = no_more _;
  rest = no_more _;
  whole = omega arith;
}
count_line holds (write who place program) xs within = count_operation holds _ who xs refl (λ _. refl) (ltb-true _ _ within) refl refl
count_line holds (read who place key) xs within = count_operation holds _ who xs refl (λ _. refl) (ltb-true _ _ within) refl refl
count_line holds (again who) xs within = count_operation holds _ who xs refl (λ _. refl) (ltb-true _ _ within) refl refl
count_line holds (drop who) xs within = count_rest holds _ xs refl (λ _. refl) refl refl
count_line holds (log place) xs within = count_rest holds _ xs refl (λ _. refl) refl refl
count_line holds (fuse place calls kept) xs within = count_rest holds _ xs refl (λ _. refl) refl refl
count_line holds (lose place count) xs within = count_rest holds _ xs refl (λ _. refl) refl refl
count_line holds (reopen place) xs within = count_rest holds _ xs refl (λ _. refl) refl refl
count_line holds (restart place) xs within = count_rest holds _ xs refl (λ _. refl) refl refl
count_line holds (pull to source cut) xs within = record {
  opening = 0;
  operation = 0;
  pulling = weight holds (pull to source cut);
  resting = 0;
  opens = no_more _;
  operations = none_theirs holds SESSIONS 0 (pull to source cut) xs (λ _ _. refl) ∙ no_more _;
  pulls = passing_more holds (pull to source cut) (pulls_of xs);
  rest = no_more _;
  whole = omega arith;
}
count_line holds (resend to source) xs within = count_rest holds _ xs refl (λ _. refl) refl refl
count_line holds totals xs within = count_rest holds _ xs refl (λ _. refl) refl refl
count_line holds judge xs within = count_rest holds _ xs refl (λ _. refl) refl refl
count_line holds survey xs within = count_rest holds _ xs refl (λ _. refl) refl refl
count_line holds book xs within = count_rest holds _ xs refl (λ _. refl) refl refl
count_line holds phase xs within = count_rest holds _ xs refl (λ _. refl) refl refl
count_line holds (entry told counts) xs within = count_rest holds _ xs refl (λ _. refl) refl refl
count_line holds (held place item counts) xs within = count_rest holds _ xs refl (λ _. refl) refl refl

phase_more : (holds : Said → Bool) (said : Said) (xs : List Said) → IsTrue (has_session said)
    → passing holds (arranged_phase (said ∷ xs)) ≡ weight holds said + passing holds (arranged_phase xs)
phase_more holds said xs within =
    let counts = count_line holds said xs within in
    omega (arith, parts_of holds (said ∷ xs), parts_of holds xs, counts.opens, counts.operations, counts.pulls, counts.rest, counts.whole)

phase_none : (holds : Said → Bool) (count least : ℕ) → passing holds (operations_from least count []) ≡ 0
phase_none holds zero least = refl
phase_none holds (suc count) least = phase_none holds count (least + 1)

no_phase : (holds : Said → Bool) → passing holds (arranged_phase []) ≡ 0
no_phase holds = parts_of holds [] ∙ ap (λ (n : ℕ). n + 0) (phase_none holds SESSIONS 0)

-- ---- a script

onto_more : (holds : Said → Bool) (said : Said) (phases : List (List Said)) → IsTrue (has_session said)
    → passing holds (flat_map arranged_phase (onto_first said phases)) ≡ weight holds said + passing holds (flat_map arranged_phase phases)
onto_more holds said [] within =
    omega (arith, passing_both holds (arranged_phase (said ∷ [])) [], phase_more holds said [] within, no_phase holds)
onto_more holds said (first ∷ phases) within =
    omega (arith, passing_both holds (arranged_phase (said ∷ first)) (flat_map arranged_phase phases), passing_both holds (arranged_phase first) (flat_map arranged_phase phases), phase_more holds said first within)

arranged_more : (holds : Said → Bool) (said : Said) (lines : List Said) (ends : Bool) → ends_phase said ≡ ends → IsTrue (has_session said)
    → passing holds (arranged lines) ≡ passing holds (filter goes_on lines) → passing holds (arranged (said ∷ lines)) ≡ passing holds (filter goes_on (said ∷ lines))
arranged_more holds said lines true is within same =
    ap (λ (b : Bool). passing holds (flat_map arranged_phase (if b then [] ∷ phases_of lines else onto_first said (phases_of lines)))) is
    ∙ passing_both holds (arranged_phase []) (arranged lines) ∙ ap (λ (n : ℕ). n + passing holds (arranged lines)) (no_phase holds) ∙ sym (no_more _) ∙ same
    ∙ sym (ap (passing holds) (picked goes_on said lines false (ap not is)))
arranged_more holds said lines false is within same =
    ap (λ (b : Bool). passing holds (flat_map arranged_phase (if b then [] ∷ phases_of lines else onto_first said (phases_of lines)))) is
    ∙ onto_more holds said (phases_of lines) within ∙ ap (λ (n : ℕ). weight holds said + n) same ∙ sym (passing_more holds said (filter goes_on lines))
    ∙ sym (ap (passing holds) (picked goes_on said lines true (ap not is)))

pub all_arranged : (holds : Said → Bool) (lines : List Said) → IsTrue (list_all has_session lines) → passing holds (arranged lines) ≡ passing holds (filter goes_on lines)
all_arranged holds [] within = refl
all_arranged holds (said ∷ lines) within =
    arranged_more holds said lines (ends_phase said) refl (both_left _ _ within) (all_arranged holds lines (both_right _ _ within))
