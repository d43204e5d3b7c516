-- Of entries and dumps there is one verdict.
use Rattle.std.proofs.Common.{◌≡◌, inl, inr, ℕ, Bool, true, false, nat_lt, ◌==◌, ◌&&◌, ◌||◌, List, [], ◌∷◌, Result, Ok, Err, ap, sym, ◌∙◌, refl, subst, arith}
use Rattle.std.proofs.lemmas.Bool.{cases_lt}
use Rattle.std.proofs.lemmas.Bool.Decides.{nat_tests}
use Rattle.bayou_base.specs.declared.asks.Asks.{Asks}
use Rattle.bayou_base.specs.declared.entry.Entry.{Entry}
use Rattle.bayou_base.specs.declared.server.ServerId.{ServerId}
use Rattle.bayou_base.specs.declared.session.SessionId.{SessionId}
use Rattle.bayou_base.specs.declared.wid.Wid.{Wid}
use Rattle.bayou_lang.specs.Laws.Equality.{server-ext, wid-ext}
use Rattle.bayou_lang.specs.declared.write.Write.{Write}
use Rattle.bayou_judge.specs.declared.breach.Breach.{Breach}
use Rattle.bayou_judge.specs.declared.breach.Guarantee.{Guarantee}
use Rattle.bayou_judge.specs.declared.breach.Guarantee.TheVariants as guarantees
use Rattle.bayou_judge.specs.declared.verdict.BadEvidence.{BadEvidence}
use Rattle.bayou_judge.specs.declared.verdict.BadEvidence.TheVariants.{BadDump, Forged}
use Rattle.bayou_judge.specs.declared.verdict.Verdict.{Verdict}
use Rattle.bayou_judge.specs.declared.verdict.Verdict.TheVariants.{Clean, Broken}
use Rattle.bayou_judge.specs.Answers.{AreKept, IsLeastBreach, Judges}
use Rattle.bayou_judge.specs.Breaches.{is_asked, is_less, key_of, rank, Holds}
use Rattle.bayou_judge.specs.Evidence.{IsFirstBad, IsFirstForged}
use Rattle.bayou_judge.specs.Guarantees.{Keeps}
use Rattle.bayou_judge.specs.History.{History, history_of}
use Rattle.bayou_judge.proofs.Least.{session-ext}
use Rattle.bayou_judge.proofs.Verdicts.{broken_holds, same_rank}

first_parts : (a b : ℕ) (less more : Bool) → (nat_lt a b || ((a == b) && less)) ≡ false → (nat_lt b a || ((b == a) && more)) ≡ false → a ≡ b
first_parts a b less more here there = grind (arith, nat_tests)

rest_part : (a b : ℕ) (less : Bool) → a ≡ b → (nat_lt a b || ((a == b) && less)) ≡ false → less ≡ false
rest_part a b less same here = grind (arith, nat_tests)

-- of two keys of which neither is less the first parts are one, and of the rests neither is less
first_same : (a b : ℕ) (xs ys : List ℕ) → is_less (a ∷ xs) (b ∷ ys) ≡ false → is_less (b ∷ ys) (a ∷ xs) ≡ false → (a ≡ b) × ((is_less xs ys ≡ false) × (is_less ys xs ≡ false))
first_same a b xs ys here there =
    let same : a ≡ b = first_parts a b (is_less xs ys) (is_less ys xs) here there in
    (same, (rest_part a b (is_less xs ys) same here, rest_part b a (is_less ys xs) (sym same) there))

-- a breach is its parts
breach-ext : (a b : Breach) → a.guarantee ≡ b.guarantee → a.session ≡ b.session → a.first ≡ b.first → a.second ≡ b.second → a.server ≡ b.server → a.wid ≡ b.wid → a ≡ b
breach-ext a b same_guarantee same_session same_first same_second same_server same_wid =
    let made : Guarantee → SessionId → ℕ → ℕ → ServerId → Wid → Breach =
    λ guarantee session first second server wid. record { guarantee = guarantee; session = session; first = first; second = second; server = server; wid = wid } in
    ap (λ g. made g a.session a.first a.second a.server a.wid) same_guarantee
    ∙ ap (λ s. made b.guarantee s a.first a.second a.server a.wid) same_session
    ∙ ap (λ n. made b.guarantee b.session n a.second a.server a.wid) same_first
    ∙ ap (λ n. made b.guarantee b.session b.first n a.server a.wid) same_second
    ∙ ap (λ s. made b.guarantee b.session b.first b.second s a.wid) same_server
    ∙ ap (made b.guarantee b.session b.first b.second b.server) same_wid

-- two breaches of which neither is less are one
same_key : (a b : Breach) → is_less (key_of a) (key_of b) ≡ false → is_less (key_of b) (key_of a) ≡ false → a ≡ b
same_key a b here there =
    let sessions = first_same a.session.index b.session.index
    (rank a.guarantee ∷ a.second ∷ a.first ∷ a.server.index ∷ a.wid.origin.index ∷ a.wid.seq ∷ []) (rank b.guarantee ∷ b.second ∷ b.first ∷ b.server.index ∷ b.wid.origin.index ∷ b.wid.seq ∷ []) here there in
    let ranks = first_same (rank a.guarantee) (rank b.guarantee)
    (a.second ∷ a.first ∷ a.server.index ∷ a.wid.origin.index ∷ a.wid.seq ∷ []) (b.second ∷ b.first ∷ b.server.index ∷ b.wid.origin.index ∷ b.wid.seq ∷ []) sessions.1.0 sessions.1.1 in
    let seconds = first_same a.second b.second (a.first ∷ a.server.index ∷ a.wid.origin.index ∷ a.wid.seq ∷ []) (b.first ∷ b.server.index ∷ b.wid.origin.index ∷ b.wid.seq ∷ []) ranks.1.0 ranks.1.1 in
    let firsts = first_same a.first b.first (a.server.index ∷ a.wid.origin.index ∷ a.wid.seq ∷ []) (b.server.index ∷ b.wid.origin.index ∷ b.wid.seq ∷ []) seconds.1.0 seconds.1.1 in
    let servers = first_same a.server.index b.server.index (a.wid.origin.index ∷ a.wid.seq ∷ []) (b.wid.origin.index ∷ b.wid.seq ∷ []) firsts.1.0 firsts.1.1 in
    let origins = first_same a.wid.origin.index b.wid.origin.index (a.wid.seq ∷ []) (b.wid.seq ∷ []) servers.1.0 servers.1.1 in
    let seqs = first_same a.wid.seq b.wid.seq [] [] origins.1.0 origins.1.1 in
    breach-ext a b (same_rank a.guarantee b.guarantee ranks.0) (session-ext a.session b.session sessions.0) firsts.0 seconds.0 (server-ext a.server b.server servers.0)
    (wid-ext a.wid b.wid (server-ext a.wid.origin b.wid.origin origins.0) seqs.0)

keeps_holds : (history : History) (asks : Asks) (session : ℕ) (guarantee : Guarantee) → Keeps history asks session → is_asked asks guarantee ≡ true → Holds history guarantee session
keeps_holds history asks session guarantees.ReadYourWrites keeps asked = keeps.ryw asked
keeps_holds history asks session guarantees.MonotonicReads keeps asked = keeps.mr asked
keeps_holds history asks session guarantees.WritesFollowReads keeps asked = keeps.wfr asked
keeps_holds history asks session guarantees.MonotonicWrites keeps asked = keeps.mw asked

kept_unbroken : (history : History) (entries : List Entry) (breach : Breach) → AreKept history entries → IsLeastBreach history entries breach → ⊥
kept_unbroken history entries breach kept least =
    let any = least.asked in
    let entry = any.1 in
    let keeps : Keeps history entry.asks entry.session.index = subst (λ (e : Entry). Keeps history e.asks e.session.index) any.3 (kept any.0 entry any.2) in
    broken_holds history breach least.is (subst (λ (s : SessionId). Holds history breach.guarantee s.index) any.4.0 (keeps_holds history entry.asks entry.session.index breach.guarantee keeps any.4.1))

one_bad : (count : ℕ) (dumps : List (List Write)) (s t : ServerId) (a b : ℕ) → IsFirstBad count dumps s.index a → IsFirstBad count dumps t.index b → (s ≡ t) × (a ≡ b)
one_bad count dumps s t a b here there =
    let servers : s.index ≡ t.index = elim (cases_lt s.index t.index) as (λ _. s.index ≡ t.index) [
      | inl less ↦ absurd (here.bad (there.none_before s.index a less))
      | inr above ↦ elim (cases_lt t.index s.index) as (λ _. s.index ≡ t.index) [
        | inl less ↦ absurd (there.bad (here.none_before t.index b less))
        | inr below ↦ omega arith
      ]
    ] in
    let moved : IsFirstBad count dumps t.index a = subst (λ n. IsFirstBad count dumps n a) servers here in (
      server-ext s t servers,
      elim (cases_lt a b) as (λ _. a ≡ b) [
        | inl less ↦ absurd (moved.bad (there.none_here a less))
        | inr above ↦ elim (cases_lt b a) as (λ _. a ≡ b) [
          | inl less ↦ absurd (there.bad (moved.none_here b less))
          | inr below ↦ omega arith
        ]
      ],
    )

one_forged : (count : ℕ) (dumps : List (List Write)) (entries : List Entry) (a b : ℕ) → IsFirstForged count dumps entries a → IsFirstForged count dumps entries b → a ≡ b
one_forged count dumps entries a b here there = elim (cases_lt a b) as (λ _. a ≡ b) [
  | inl less ↦ absurd (here.forged (there.none_before a less))
  | inr above ↦ elim (cases_lt b a) as (λ _. a ≡ b) [
    | inl less ↦ absurd (there.forged (here.none_before b less))
    | inr below ↦ omega arith
  ]
]

pub one_verdict : (count : ℕ) (entries : List Entry) (dumps : List (List Write)) (one other : Result Verdict BadEvidence) → Judges count entries dumps one → Judges count entries dumps other → one ≡ other
one_verdict count entries dumps (Ok Clean) (Ok Clean) here there = refl
one_verdict count entries dumps (Ok Clean) (Ok (Broken breach)) here there = absurd (kept_unbroken (history_of entries dumps) entries breach here.1 there.1)
one_verdict count entries dumps (Ok Clean) (Err (BadDump server at)) here there = absurd (there.bad (here.0.dumps_are server.index at))
one_verdict count entries dumps (Ok Clean) (Err (Forged at)) here there = absurd (there.1.forged (here.0.entries_are at))
one_verdict count entries dumps (Ok (Broken breach)) (Ok Clean) here there = absurd (kept_unbroken (history_of entries dumps) entries breach there.1 here.1)
one_verdict count entries dumps (Ok (Broken breach)) (Ok (Broken other)) here there =
    ap (λ b. Ok (Broken b)) (same_key breach other (there.1.least breach here.1.is here.1.asked) (here.1.least other there.1.is there.1.asked))
one_verdict count entries dumps (Ok (Broken breach)) (Err (BadDump server at)) here there = absurd (there.bad (here.0.dumps_are server.index at))
one_verdict count entries dumps (Ok (Broken breach)) (Err (Forged at)) here there = absurd (there.1.forged (here.0.entries_are at))
one_verdict count entries dumps (Err (BadDump server at)) (Ok Clean) here there = absurd (here.bad (there.0.dumps_are server.index at))
one_verdict count entries dumps (Err (BadDump server at)) (Ok (Broken breach)) here there = absurd (here.bad (there.0.dumps_are server.index at))
one_verdict count entries dumps (Err (BadDump server at)) (Err (BadDump other place)) here there =
    let both = one_bad count dumps server other at place here there in
    ap (λ s. Err (BadDump s at)) both.0 ∙ ap (λ n. Err (BadDump other n)) both.1
one_verdict count entries dumps (Err (BadDump server at)) (Err (Forged place)) here there = absurd (here.bad (there.0 server.index at))
one_verdict count entries dumps (Err (Forged at)) (Ok Clean) here there = absurd (here.1.forged (there.0.entries_are at))
one_verdict count entries dumps (Err (Forged at)) (Ok (Broken breach)) here there = absurd (here.1.forged (there.0.entries_are at))
one_verdict count entries dumps (Err (Forged at)) (Err (BadDump server place)) here there = absurd (there.bad (here.0 server.index place))
one_verdict count entries dumps (Err (Forged at)) (Err (Forged place)) here there = ap (λ n. Err (Forged n)) (one_forged count dumps entries at place here.1 there.1)
