-- What was heard of entries, with one more of them.
use Rattle.std.proofs.Common.{◌≡◌, ◌≢◌, ◌↔◌, ℕ, ◌+◌, ◌-◌, ◌<◌, ◌≤◌, ◌⊎◌, inl, inr, Bool, true, false, ◌&&◌, Decides, List, [], ◌∷◌, ◌++◌, Any, Option, Some, None, OnOk, Result, Ok, Err, get_or, length, replicate, set, take, ap, sym, ◌∙◌, refl, subst, arith}
use Rattle.std.specs.Bool.{beq}
use Rattle.std.specs.Coded.{le_prop}
use Rattle.std.proofs.lemmas.Bool.{cases_eq, cases_lt}
use Rattle.std.proofs.lemmas.Bool.Decides.{Decides-eqb}
use Rattle.std.proofs.lemmas.List.{get_or-append_right, get_or-replicate, get_or-set_other, get_or-set_same, get_or_append_left, get_or_default, get_or_past, length-replicate, take_all}
use Rattle.std.proofs.lemmas.List.Elements.{All-push, Contains-append_left, Contains-push_cases}
use Rattle.std.proofs.lemmas.List.Quantifiers.{Any-push}
use Rattle.bayou_base.specs.declared.asks.Asks.{Asks}
use Rattle.bayou_base.specs.contracts.asks.AsksPartialEq.TheImpl as asks_eq
use Rattle.bayou_base.specs.declared.entry.Entry.{Entry}
use Rattle.bayou_base.specs.declared.limits.TheConstants.{SERVERS, SESSIONS}
use Rattle.bayou_base.specs.declared.session.SessionId.{SessionId}
use Rattle.bayou_base.specs.declared.stamp.Stamp.{Stamp}
use Rattle.bayou_base.specs.contracts.stamp.StampPartialEq.TheImpl as stamp_eq
use Rattle.bayou_base.specs.declared.wid.Wid.{Wid}
use Rattle.bayou_lang.specs.Laws.Equality.{server-ext, stamp-ext, wid-ext}
use Rattle.bayou_judge.specs.declared.entries.Latest.{Latest}
use Rattle.bayou_judge.specs.Evidence.{TellsOf}
use Rattle.bayou_judge.specs.Inner.Heard.{told_in, AreTold, Follows, IsLatest}

-- a session is its index
pub session-ext : (a b : SessionId) → a.index ≡ b.index → a ≡ b
session-ext a b same =
    let made : (n : ℕ) → n < SESSIONS → SessionId = λ n h. record { index = n; in_range = h } in
    let P : ℕ → Type 0 = λ n. (h : n < SESSIONS) → made a.index a.in_range ≡ made n h in
    subst P same (λ h. ap (made a.index) (le_prop a.in_range h)) b.in_range

both : {P Q R : Type 0} → (r s : Bool) → Decides r P → Decides s Q → (P → Q → R) → (R → P × Q) → Decides (r && s) R
both true s p q join split = (λ e. join (p.0 refl) (q.0 e), λ both. q.1 (split both).1)
both false s p q join split = (λ e. cc, λ both. p.1 (split both).0)

pub stamp-decides : (a b : Stamp) → Decides ((stamp_eq.ghosts).eq a b) (a ≡ b)
stamp-decides a b =
    both _ _ (Decides-eqb a.clock b.clock) (Decides-eqb a.origin.index b.origin.index)
    (λ clock origin. stamp-ext a b clock (server-ext a.origin b.origin origin))
    (λ one. (ap (λ (stamp : Stamp). stamp.clock) one, ap (λ (stamp : Stamp). stamp.origin.index) one))

-- a session asks for four things or not
abbrev asked : (ryw mr wfr mw : Bool) → Asks
asked ryw mr wfr mw = record { ryw = ryw; mr = mr; wfr = wfr; mw = mw }

-- behind what was heard of its session last
pub heard_follows : (earlier : List Entry) (entry : Entry) (latest : Latest) → IsLatest earlier entry.session.index (Some latest) → latest.place < entry.place → latest.asks ≡ entry.asks → Follows earlier entry
heard_follows earlier entry latest heard less asks = (
  λ k d within same. omega (arith, (heard.1 k d within (ap (λ (session : SessionId). session.index) same)).0, less),
  λ k d within same. (heard.1 k d within (ap (λ (session : SessionId). session.index) same)).1 ∙ asks,
)

pub follows_heard : (earlier : List Entry) (entry : Entry) (latest : Latest) → IsLatest earlier entry.session.index (Some latest) → Follows earlier entry → (latest.place < entry.place) × (latest.asks ≡ entry.asks)
follows_heard earlier entry latest heard follows =
    let other = heard.0.1 in
    let here : get_or earlier heard.0.0 other ≡ other = heard.0.3 in
    let same : (get_or earlier heard.0.0 other).session ≡ entry.session = ap (λ (e : Entry). e.session) here ∙ session-ext other.session entry.session heard.0.4.0 in (
      omega (arith, follows.0 heard.0.0 other heard.0.2 same, ap (λ (e : Entry). e.place) here, heard.0.4.1),
      sym heard.0.4.2 ∙ ap (λ (e : Entry). e.asks) (sym here) ∙ follows.1 heard.0.0 other heard.0.2 same,
    )

bool-decides : (a b : Bool) → Decides (beq a b) (a ≡ b)
bool-decides true true = (λ e. refl, λ e. refl)
bool-decides true false = (λ e. cc, λ e. cc)
bool-decides false true = (λ e. cc, λ e. cc)
bool-decides false false = (λ e. refl, λ e. refl)

pub asks-decides : (a b : Asks) → Decides ((asks_eq.ghosts).eq a b) (a ≡ b)
asks-decides a b =
    both _ _ (bool-decides a.ryw b.ryw)
    (both _ _ (bool-decides a.mr b.mr) (both _ _ (bool-decides a.wfr b.wfr) (bool-decides a.mw b.mw) (λ wfr mw. (wfr, mw)) (λ rest. rest)) (λ mr rest. (mr, rest)) (λ rest. rest))
    (λ ryw rest. ap (λ v. asked v a.mr a.wfr a.mw) ryw ∙ ap (λ v. asked b.ryw v a.wfr a.mw) rest.0 ∙ ap (λ v. asked b.ryw b.mr v a.mw) rest.1.0 ∙ ap (asked b.ryw b.mr b.wfr) rest.1.1)
    (λ one. (ap (λ (asks : Asks). asks.ryw) one, (ap (λ (asks : Asks). asks.mr) one, (ap (λ (asks : Asks). asks.wfr) one, ap (λ (asks : Asks). asks.mw) one))))

-- a row in which nothing was told of
none_told : (server : ℕ) → get_or (replicate SERVERS false) server false ≡ false
none_told server =
    elim (cases_lt server SERVERS) as (λ _. get_or (replicate SERVERS false) server false ≡ false) [
      | inl within ↦ get_or-replicate SERVERS server false false within
      | inr past ↦ get_or_past (replicate SERVERS false) server false (omega (arith, past, length-replicate SERVERS false))
    ]

rows_past : (m j server : ℕ) → get_or (get_or (replicate m (replicate SERVERS false)) j []) server false ≡ false
rows_past m j server =
    let blank = replicate SERVERS false in
    elim (cases_lt j m) as (λ _. get_or (get_or (replicate m blank) j []) server false ≡ false) [
      | inl within ↦ ap (λ row. get_or row server false) (get_or-replicate m j blank [] within) ∙ none_told server
      | inr past ↦ ap (λ row. get_or row server false) (get_or_past (replicate m blank) j [] (omega (arith, past, length-replicate m blank)))
    ]

-- with more rows nothing else was told of
pub told_in-longer : (rows : List (List Bool)) (n server seq : ℕ) → length rows ≤ n → told_in (take n rows ++ replicate (n - length rows) (replicate SERVERS false)) server seq ≡ told_in rows server seq
told_in-longer rows n server seq longer =
    let blank = replicate SERVERS false in
    let more = replicate (n - length rows) blank in
    let whole : take n rows ++ more ≡ rows ++ more = ap (λ list. list ++ more) (take_all n rows longer) in
    let k = seq - 1 in
    ap (λ list. get_or (get_or list k []) server false) whole
    ∙ elim (cases_lt k (length rows)) as (λ _. get_or (get_or (rows ++ more) k []) server false ≡ get_or (get_or rows k []) server false) [
      | inl within ↦ ap (λ row. get_or row server false) (get_or_append_left rows more [] k within)
      | inr past ↦
          ap (λ row. get_or row server false) (get_or-append_right rows more (length rows) k [] refl past) ∙ rows_past (n - length rows) (k - length rows) server
          ∙ sym (ap (λ row. get_or row server false) (get_or_past rows k [] past))
    ]

-- one more was told of, and no other
pub told_in-set : (rows : List (List Bool)) (place origin : ℕ) (row : List Bool) → row ≡ get_or rows place row → place < length rows
    → (server seq : ℕ) → 0 < seq → (server ≡ origin → seq ≢ place + 1) → told_in (set rows place (set row origin true)) server seq ≡ told_in rows server seq
told_in-set rows place origin row is within server seq some other =
    let new = set row origin true in
    elim (cases_eq (seq - 1) place) as (λ _. told_in (set rows place new) server seq ≡ told_in rows server seq) [
      | inl same ↦
          let differ : server ≢ origin = λ e. other e (omega (arith, same, some)) in
          let old : row ≡ get_or rows place [] = is ∙ get_or_default rows place row [] within in
          ap (λ k. get_or (get_or (set rows place new) k []) server false) same
          ∙ ap (λ r. get_or r server false) (get_or-set_same rows place new [] within)
          ∙ get_or-set_other row origin server true false differ
          ∙ ap (λ r. get_or r server false) (old ∙ ap (λ k. get_or rows k []) (sym same))
      | inr differ ↦ ap (λ r. get_or r server false) (get_or-set_other rows place (seq - 1) new [] differ)
    ]

Any-front : {X : Type 0} (P : X → Type 0) (xs ys : List X) → Any P xs → Any P (xs ++ ys)
Any-front P xs ys any =
    let there = Contains-append_left xs ys any.1 (any.0, any.2, any.3) in
    (there.0, any.1, there.1, there.2, any.4)

-- what is true of one of the entries with one more behind them is true of one of the entries, or of that one
Any-push_cases : (P : Entry → Type 0) (xs : List Entry) (x : Entry) → Any P (xs ++ x ∷ []) → Any P xs ⊎ P x
Any-push_cases P xs x any =
    elim (Contains-push_cases xs x any.1 (any.0, any.2, any.3)) as (λ _. Any P xs ⊎ P x) [
      | inl there ↦ inl (there.0, any.1, there.1, there.2, any.4)
      | inr last ↦ inr (subst P (sym last) any.4)
    ]

-- behind an entry that tells of no Write
pub AreTold-none : (earlier : List Entry) (entry : Entry) (rows : List (List Bool)) → ((wid : Wid) → ¬ TellsOf wid entry.what) → AreTold earlier rows → AreTold (earlier ++ entry ∷ []) rows
AreTold-none earlier entry rows none told wid =
    let Of : Entry → Type 0 = λ e. TellsOf wid e.what in (
      λ is. Any-front Of earlier (entry ∷ []) ((told wid).0 is),
      λ any. elim (Any-push_cases Of earlier entry any) as (λ _. told_in rows wid.origin.index wid.seq ≡ true) [
        | inl there ↦ (told wid).1 there
        | inr here ↦ absurd (none wid here)
      ],
    )

-- behind an entry that tells of a Write
pub AreTold-write : (earlier : List Entry) (entry : Entry) (wid : Wid) (old new : List (List Bool)) → TellsOf wid entry.what → ((name : Wid) → TellsOf name entry.what → wid ≡ name)
    → told_in new wid.origin.index wid.seq ≡ true
    → ((server seq : ℕ) → 0 < seq → (server ≡ wid.origin.index → seq ≢ wid.seq) → told_in new server seq ≡ told_in old server seq)
    → AreTold earlier old → AreTold (earlier ++ entry ∷ []) new
AreTold-write earlier entry wid old new of_it only here others told name =
    let Of : Entry → Type 0 = λ e. TellsOf name e.what in
    let Told : Type 0 = told_in new name.origin.index name.seq ≡ true in
    let one : name.origin.index ≡ wid.origin.index → name.seq ≡ wid.seq → wid ≡ name = λ origin seq. sym (wid-ext name wid (server-ext name.origin wid.origin origin) seq) in
    let at : wid ≡ name → Told = λ same. subst (λ (w : Wid). told_in new w.origin.index w.seq ≡ true) same here in
    let other : ¬ (wid ≡ name) → told_in new name.origin.index name.seq ≡ told_in old name.origin.index name.seq =
    λ differ. others name.origin.index name.seq name.in_range.0 (λ origin seq. differ (one origin seq)) in
    let decided : (wid ≡ name) ⊎ ¬ (wid ≡ name) =
    elim (cases_eq name.origin.index wid.origin.index) as (λ _. (wid ≡ name) ⊎ ¬ (wid ≡ name)) [
      | inl origin ↦ elim (cases_eq name.seq wid.seq) as (λ _. (wid ≡ name) ⊎ ¬ (wid ≡ name)) [
        | inl seq ↦ inl (one origin seq)
        | inr differ ↦ inr (λ same. differ (ap (λ (w : Wid). w.seq) (sym same)))
      ]
      | inr differ ↦ inr (λ same. differ (ap (λ (w : Wid). w.origin.index) (sym same)))
    ] in
    elim decided as (λ _. Told ↔ Any Of (earlier ++ entry ∷ [])) [
      | inl same ↦ (λ _. Any-push Of earlier entry (subst (λ w. TellsOf w entry.what) same of_it), λ _. at same)
      | inr differ ↦ (
        λ is. Any-front Of earlier (entry ∷ []) ((told name).0 (sym (other differ) ∙ is)),
        λ any. elim (Any-push_cases Of earlier entry any) as (λ _. Told) [
          | inl there ↦ other differ ∙ (told name).1 there
          | inr last ↦ absurd (differ (only name last))
        ],
      )
    ]

-- what was heard last of each session, with one more entry behind the others
pub IsLatest-own : (earlier : List Entry) (entry : Entry) (latest : Latest) → ((k : ℕ) (d : Entry) → k < length earlier → (get_or earlier k d).session ≡ entry.session → ((get_or earlier k d).place < entry.place) × ((get_or earlier k d).asks ≡ entry.asks))
    → latest.place ≡ entry.place → latest.asks ≡ entry.asks → IsLatest (earlier ++ entry ∷ []) entry.session.index (Some latest)
IsLatest-own earlier entry latest follows place asks =
    let Is : Entry → Type 0 = λ e. (e.session.index ≡ entry.session.index) × (e.place ≡ latest.place) × (e.asks ≡ latest.asks) in
    let Up : Entry → Type 0 = λ e. e.session.index ≡ entry.session.index → (e.place ≤ latest.place) × (e.asks ≡ latest.asks) in (
      Any-push Is earlier entry (refl, sym place, sym asks),
      All-push Up earlier entry
          (λ k d within same.
          let behind = follows k d within (session-ext (get_or earlier k d).session entry.session same) in
          (omega (arith, behind.0, place), behind.1 ∙ sym asks))
          (λ same. (omega (arith, place), sym asks)),
    )

pub IsLatest-other : (earlier : List Entry) (entry : Entry) (session : ℕ) (latest : Option Latest) → entry.session.index ≢ session → IsLatest earlier session latest → IsLatest (earlier ++ entry ∷ []) session latest
IsLatest-other earlier entry session None differ heard = All-push (λ (e : Entry). e.session.index ≢ session) earlier entry heard differ
IsLatest-other earlier entry session (Some latest) differ heard = (
  Any-front (λ (e : Entry). (e.session.index ≡ session) × (e.place ≡ latest.place) × (e.asks ≡ latest.asks)) earlier (entry ∷ []) heard.0,
  All-push (λ (e : Entry). e.session.index ≡ session → (e.place ≤ latest.place) × (e.asks ≡ latest.asks)) earlier entry heard.1 (λ same. absurd (differ same)),
)

-- what follows of both is so where it went well
pub OnOk-both : {T E : Type 0} (result : Result T E) → {P Q R : Type 0} → (P → Q → R) → OnOk result P → OnOk result Q → OnOk result R
OnOk-both (Ok value) join p q = join p q
OnOk-both (Err fault) join p q = tt
