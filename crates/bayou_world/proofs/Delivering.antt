-- A session that is told of an operation more.
use Rattle.std.proofs.Common.{◌≡◌, ◌≢◌, inl, inr, ◌⊎◌, ℕ, ◌<◌, ◌≤◌, List, [], ◌∷◌, ◌++◌, Option, None, Some, IfSome, Contains, All, ap, sym, ◌∙◌, subst, arith}
use Rattle.std.proofs.lemmas.List.Elements.{All-contains, All-push, Contains-append_left, Contains-append_right, Contains-push, Contains-push_cases}
use Rattle.bayou_base.specs.declared.wid.Wid.{Wid}
use Rattle.bayou_lang.specs.declared.write.Write.{Write}
use Rattle.bayou_world.specs.Inner.Good.{IsCoveredRead, IsGoodFlight, IsGoodSession, IsMadeAt}
use Rattle.bayou_world.specs.Machine.{Answered, IsWithin, Made, SessionSets, names}
use Rattle.bayou_world.specs.Runs.{IsAt, IsRead, IsReadAt}
use Rattle.bayou_world.specs.Steps.{CoversWrite}

-- ---- one served operation more

-- the operation read from the database
pub record ReadsNow (answered : Answered) (session place : ℕ) (database : List Write) : Type 0 where
  pub at : IsAt session place answered.entry
  pub read : IsRead answered.entry.what
  pub from : answered.database ≡ database

pub record MadeNow (answered : Answered) (session place : ℕ) (made : Made) : Type 0 where
  pub at : IsAt session place answered.entry
  pub accepted : answered.made ≡ Some made

pub read_more : (served : List Answered) (answered : Answered) (session place server : ℕ) (database : List Write) → IsReadAt (served ++ answered ∷ []) session place server database
    → IsReadAt served session place server database ⊎ ReadsNow answered session place database
read_more served answered session place server database is =
    elim (Contains-push_cases served answered is.answered is.among) as (λ _. IsReadAt served session place server database ⊎ ReadsNow answered session place database) [
      | inl before ↦ inl (record { answered = is.answered; among = before; at = is.at; read = is.read; by = is.by; from = is.from })
      | inr now ↦ inr (subst (λ a. ReadsNow a session place database) (sym now) (record { at = is.at; read = is.read; from = is.from }))
    ]

pub made_more : (served : List Answered) (answered : Answered) (session place : ℕ) (made : Made) → IsMadeAt (served ++ answered ∷ []) session place made
    → IsMadeAt served session place made ⊎ MadeNow answered session place made
made_more served answered session place made is =
    elim (Contains-push_cases served answered is.answered is.among) as (λ _. IsMadeAt served session place made ⊎ MadeNow answered session place made) [
      | inl before ↦ inl (record { answered = is.answered; among = before; session_is = is.session_is; place_is = is.place_is; accepted = is.accepted })
      | inr now ↦ inr (subst (λ a. MadeNow a session place made) (sym now) (record { at = record { session_is = is.session_is; place_is = is.place_is }; accepted = is.accepted }))
    ]

-- ---- another session's

read_of_other : (served : List Answered) (answered : Answered) (who : ℕ) → answered.entry.session.index ≢ who → (place server : ℕ) (database : List Write)
    → IsReadAt (served ++ answered ∷ []) who place server database → IsReadAt served who place server database
read_of_other served answered who differs place server database is =
    elim (read_more served answered who place server database is) as (λ _. IsReadAt served who place server database) [
      | inl before ↦ before
      | inr now ↦ absurd (differs now.at.session_is)
    ]

made_of_other : (served : List Answered) (answered : Answered) (who : ℕ) → answered.entry.session.index ≢ who → (place : ℕ) (made : Made)
    → IsMadeAt (served ++ answered ∷ []) who place made → IsMadeAt served who place made
made_of_other served answered who differs place made is =
    elim (made_more served answered who place made is) as (λ _. IsMadeAt served who place made) [
      | inl before ↦ before
      | inr now ↦ absurd (differs now.at.session_is)
    ]

flight_of_other : (served : List Answered) (answered : Answered) (who : ℕ) (session : SessionSets) → answered.entry.session.index ≢ who → (flight : Option Answered)
    → IfSome flight (IsGoodFlight served who session) → IfSome flight (IsGoodFlight (served ++ answered ∷ []) who session)
flight_of_other served answered who session differs None good = good
flight_of_other served answered who session differs (Some other) good = record {
  session_is = good.session_is;
  last = good.last;
  behind = All-push (λ (o : Answered). o.entry.session.index ≡ who → o.entry.place < session.begun) served answered good.behind (λ is. absurd (differs is));
  covered = good.covered;
  own = good.own;
  reading = good.reading;
}

pub more_of_other : (served : List Answered) (answered : Answered) (who : ℕ) (session : SessionSets) → answered.entry.session.index ≢ who
    → IsGoodSession served who session → IsGoodSession (served ++ answered ∷ []) who session
more_of_other served answered who session differs good =
    let read = read_of_other served answered who differs in
    let made_at = made_of_other served answered who differs in
    record {
      begun = All-push (λ (o : Answered). o.entry.session.index ≡ who → o.entry.place ≤ session.begun) served answered good.begun (λ is. absurd (differs is));
      reads = λ place server database is. good.reads place server database (read place server database is);
      writes = λ place made is. good.writes place made (made_at place made is);
      ryw = λ asked first second server made database less one two. good.ryw asked first second server made database less (made_at first made one) (read second server database two);
      mr = λ asked first second other server earlier later less one two. good.mr asked first second other server earlier later less (read first other earlier one) (read second server later two);
      wfr = λ asked first second server database made less one two. good.wfr asked first second server database made less (read first server database one) (made_at second made two);
      mw = λ asked first second earlier later less one two. good.mw asked first second earlier later less (made_at first earlier one) (made_at second later two);
      flight = flight_of_other served answered who session differs session.flight good.flight;
    }

-- ---- the session's own

early_read : (served : List Answered) (who : ℕ) (session : SessionSets) (answered : Answered) → IsGoodFlight served who session answered → (place server : ℕ) (database : List Write)
    → IsReadAt served who place server database → place < session.begun
early_read served who session answered flight place server database is =
    let less = All-contains (λ (o : Answered). o.entry.session.index ≡ who → o.entry.place < session.begun) served is.answered flight.behind is.among is.at.session_is in
    omega (arith, less, is.at.place_is)

early_made : (served : List Answered) (who : ℕ) (session : SessionSets) (answered : Answered) → IsGoodFlight served who session answered → (place : ℕ) (made : Made)
    → IsMadeAt served who place made → place < session.begun
early_made served who session answered flight place made is =
    let less = All-contains (λ (o : Answered). o.entry.session.index ≡ who → o.entry.place < session.begun) served is.answered flight.behind is.among is.session_is in
    omega (arith, less, is.place_is)

-- it hears what a read was served
pub heard_read : (served : List Answered) (who : ℕ) (session new : SessionSets) (answered : Answered) → IsGoodSession served who session → IsGoodFlight served who session answered
    → answered.made ≡ None → IsCoveredRead session answered.database
    → new.asks ≡ session.asks → new.begun ≡ session.begun → new.reads ≡ session.reads ++ names answered.database → new.writes ≡ session.writes → new.flight ≡ None
    → IsGoodSession (served ++ answered ∷ []) who new
heard_read served who session new answered good flight none covered asks begun reads same_writes landed =
    let last : answered.entry.place ≡ session.begun = flight.last in
    let made_at : (place : ℕ) (made : Made) → IsMadeAt (served ++ answered ∷ []) who place made → IsMadeAt served who place made =
    λ place made is. elim (made_more served answered who place made is) as (λ _. IsMadeAt served who place made) [
      | inl before ↦ before
      | inr now ↦ let both : None ≡ Some made = sym none ∙ now.accepted in absurd (cc)
    ] in
    record {
      begun = subst (λ n. All (λ (o : Answered). o.entry.session.index ≡ who → o.entry.place ≤ n) (served ++ answered ∷ [])) (sym begun)
          (All-push (λ (o : Answered). o.entry.session.index ≡ who → o.entry.place ≤ session.begun) served answered good.begun (λ is. omega (arith, last)));
      reads = λ place server database is. subst (IsWithin (names database)) (sym reads)
          (elim (read_more served answered who place server database is) as (λ _. IsWithin (names database) (session.reads ++ names answered.database)) [
            | inl before ↦ λ name has. Contains-append_left session.reads (names answered.database) name (good.reads place server database before name has)
            | inr now ↦ λ name has. Contains-append_right session.reads (names answered.database) name (subst (λ list. Contains (names list) name) (sym now.from) has)
          ]);
      writes = λ place made is. subst (λ list. Contains list made.write.wid) (sym same_writes) (good.writes place made (made_at place made is));
      ryw = λ asked first second server made database less one two.
          let asked_before = ap (λ (a : _). a.ryw) (sym asks) ∙ asked in
          elim (read_more served answered who second server database two) as (λ _. Contains (names database) made.write.wid) [
            | inl before ↦ good.ryw asked_before first second server made database less (made_at first made one) before
            | inr now ↦ subst (λ list. Contains (names list) made.write.wid) now.from (covered.ryw asked_before made.write.wid (good.writes first made (made_at first made one)))
          ];
      mr = λ asked first second other server earlier later less one two.
          let asked_before = ap (λ (a : _). a.mr) (sym asks) ∙ asked in
          elim (read_more served answered who first other earlier one) as (λ _. IsWithin (names earlier) (names later)) [
            | inl before ↦ elim (read_more served answered who second server later two) as (λ _. IsWithin (names earlier) (names later)) [
              | inl also ↦ good.mr asked_before first second other server earlier later less before also
              | inr now ↦ λ name has. subst (λ list. Contains (names list) name) now.from (covered.mr asked_before name (good.reads first other earlier before name has))
            ]
            | inr now ↦ elim (read_more served answered who second server later two) as (λ _. IsWithin (names earlier) (names later)) [
              | inl also ↦
                  let early = early_read served who session answered flight second server later also in absurd (omega (arith, early, less, last, now.at.place_is))
              | inr too ↦ absurd (omega (arith, less, now.at.place_is, too.at.place_is))
            ]
          ];
      wfr = λ asked first second server database made less one two.
          let asked_before = ap (λ (a : _). a.wfr) (sym asks) ∙ asked in
          let made_before = made_at second made two in
          elim (read_more served answered who first server database one) as (λ _. IsWithin (names database) (names made.past)) [
            | inl before ↦ good.wfr asked_before first second server database made less before made_before
            | inr now ↦
                let early = early_made served who session answered flight second made made_before in absurd (omega (arith, early, less, last, now.at.place_is))
          ];
      mw = λ asked first second earlier later less one two.
          good.mw (ap (λ (a : _). a.mw) (sym asks) ∙ asked) first second earlier later less (made_at first earlier one) (made_at second later two);
      flight = subst (λ f. IfSome f (IsGoodFlight (served ++ answered ∷ []) who new)) (sym landed) tt;
    }

-- it hears that a Write was accepted
pub heard_write : (served : List Answered) (who : ℕ) (session new : SessionSets) (answered : Answered) (wid : Wid) → IsGoodSession served who session → IsGoodFlight served who session answered
    → (¬ IsRead answered.entry.what) → ((made : Made) → answered.made ≡ Some made → (made.write.wid ≡ wid) × CoversWrite session made.past)
    → new.asks ≡ session.asks → new.begun ≡ session.begun → new.reads ≡ session.reads → new.writes ≡ session.writes ++ wid ∷ [] → new.flight ≡ None
    → IsGoodSession (served ++ answered ∷ []) who new
heard_write served who session new answered wid good flight no_read covered asks begun same_reads written landed =
    let last : answered.entry.place ≡ session.begun = flight.last in
    let read : (place server : ℕ) (database : List Write) → IsReadAt (served ++ answered ∷ []) who place server database → IsReadAt served who place server database =
    λ place server database is. elim (read_more served answered who place server database is) as (λ _. IsReadAt served who place server database) [
      | inl before ↦ before
      | inr now ↦ absurd (no_read now.read)
    ] in
    record {
      begun = subst (λ n. All (λ (o : Answered). o.entry.session.index ≡ who → o.entry.place ≤ n) (served ++ answered ∷ [])) (sym begun)
          (All-push (λ (o : Answered). o.entry.session.index ≡ who → o.entry.place ≤ session.begun) served answered good.begun (λ is. omega (arith, last)));
      reads = λ place server database is. subst (IsWithin (names database)) (sym same_reads) (good.reads place server database (read place server database is));
      writes = λ place made is. subst (λ list. Contains list made.write.wid) (sym written)
          (elim (made_more served answered who place made is) as (λ _. Contains (session.writes ++ wid ∷ []) made.write.wid) [
            | inl before ↦ Contains-append_left session.writes (wid ∷ []) made.write.wid (good.writes place made before)
            | inr now ↦ subst (Contains (session.writes ++ wid ∷ [])) (sym (covered made now.accepted).0) (Contains-push session.writes wid)
          ]);
      ryw = λ asked first second server made database less one two.
          let asked_before = ap (λ (a : _). a.ryw) (sym asks) ∙ asked in
          let before_two = read second server database two in
          elim (made_more served answered who first made one) as (λ _. Contains (names database) made.write.wid) [
            | inl before ↦ good.ryw asked_before first second server made database less before before_two
            | inr now ↦
                let early = early_read served who session answered flight second server database before_two in absurd (omega (arith, early, less, last, now.at.place_is))
          ];
      mr = λ asked first second other server earlier later less one two.
          good.mr (ap (λ (a : _). a.mr) (sym asks) ∙ asked) first second other server earlier later less (read first other earlier one) (read second server later two);
      wfr = λ asked first second server database made less one two.
          let asked_before = ap (λ (a : _). a.wfr) (sym asks) ∙ asked in
          let before_one = read first server database one in
          elim (made_more served answered who second made two) as (λ _. IsWithin (names database) (names made.past)) [
            | inl before ↦ good.wfr asked_before first second server database made less before_one before
            | inr now ↦ λ name has. (covered made now.accepted).1.wfr asked_before name (good.reads first server database before_one name has)
          ];
      mw = λ asked first second earlier later less one two.
          let asked_before = ap (λ (a : _). a.mw) (sym asks) ∙ asked in
          elim (made_more served answered who first earlier one) as (λ _. Contains (names later.past) earlier.write.wid) [
            | inl before ↦ elim (made_more served answered who second later two) as (λ _. Contains (names later.past) earlier.write.wid) [
              | inl also ↦ good.mw asked_before first second earlier later less before also
              | inr now ↦ (covered later now.accepted).1.mw asked_before earlier.write.wid (good.writes first earlier before)
            ]
            | inr now ↦ elim (made_more served answered who second later two) as (λ _. Contains (names later.past) earlier.write.wid) [
              | inl also ↦
                  let early = early_made served who session answered flight second later also in absurd (omega (arith, early, less, last, now.at.place_is))
              | inr too ↦ absurd (omega (arith, less, now.at.place_is, too.at.place_is))
            ]
          ];
      flight = subst (λ f. IfSome f (IsGoodFlight (served ++ answered ∷ []) who new)) (sym landed) tt;
    }
