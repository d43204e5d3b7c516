-- Every breach of a guarantee in a session.
use Rattle.std.proofs.Common.{◌≡◌, ◌⊎◌, inl, inr, ℕ, ◌+◌, ◌<◌, false, List, [], ◌∷◌, ◌++◌, length, take, Any, Some, None, ap, sym, ◌∙◌, subst, arith}
use Rattle.std.specs.List.{slice_get}
use Rattle.std.proofs.lemmas.Bool.{cases_lt}
use Rattle.std.proofs.lemmas.List.Elements.{All-push, All-weaker, Contains-append_left}
use Rattle.std.proofs.lemmas.List.Quantifiers.{Any-push, all_pairs_push}
use Rattle.std.proofs.lemmas.Option.{slice_get-get_or, slice_get_within}
use Rattle.bayou_base.specs.declared.entry.Entry.{Entry}
use Rattle.bayou_lang.specs.declared.write.Write.{Write}
use Rattle.bayou_judge.specs.declared.breach.Breach.{Breach}
use Rattle.bayou_judge.specs.declared.breach.Guarantee.{Guarantee}
use Rattle.bayou_judge.specs.declared.every.SessionBreaches.{SessionBreaches}
use Rattle.bayou_judge.specs.Answers.{AreBreaches, AreBreachesOf, IsLeastThere}
use Rattle.bayou_judge.specs.Breaches.{is_less, key_of, rank, IsBreach, Violates}
use Rattle.bayou_judge.specs.Evidence.{AreGenuine}
use Rattle.bayou_judge.specs.History.{History, history_of}
use Rattle.bayou_judge.specs.Inner.Index.{Tables}
use Rattle.bayou_judge.specs.Inner.Needs.{wid_key, AreFoundTo, Fails, IsBreachAt, IsBreachFor, IsChecked, IsFirst, IsKept, IsNeedOf}
use Rattle.bayou_judge.specs.Inner.Known.{need_for}
use Rattle.bayou_judge.specs.declared.needs.Needs.{Needs}
use Rattle.bayou_judge.proofs.Indexes.{slice_get-push}
use Rattle.bayou_judge.proofs.Kept.{some_at, IsNeedOf-more}
use Rattle.bayou_judge.proofs.Least.{breach_is, first_order, in_place, kept_fails, keys, place_order, places_rise}
use Rattle.bayou_judge.proofs.Pairs.{fault_of_violation}

any_before : (P : Breach → Type 0) (xs ys : List Breach) → Any P xs → Any P (xs ++ ys)
any_before P xs ys any =
    let there = Contains-append_left xs ys any.1 (any.0, any.2, any.3) in
    (there.0, any.1, there.1, there.2, any.4)

-- an entry of another session leaves what the session needs
pub needs_other : (dumps : List (List Write)) (entries : List Entry) (guarantee : Guarantee) (session at : ℕ) (entry : Entry) (needs : Needs) → slice_get entries at ≡ Some entry → (entry.session.index ≡ session → ⊥)
    → IsNeedOf dumps guarantee session (take at entries) (need_for needs guarantee) → IsNeedOf dumps guarantee session (take (at + 1) entries) (need_for needs guarantee)
needs_other dumps entries guarantee session at entry needs got other is =
    IsNeedOf-more dumps guarantee session entries at entry (need_for needs guarantee) (need_for needs guarantee) got is (λ write needed. needed) (λ is_first. absurd (other is_first.session_is))

-- one more entry that breaks nothing
pub found_kept : (dumps : List (List Write)) (entries : List Entry) (guarantee : Guarantee) (session at : ℕ) (list : List Breach) → AreFoundTo dumps entries guarantee session at list
    → ((second : Entry) → slice_get entries at ≡ Some second → IsBreachFor dumps entries guarantee session at second None) → AreFoundTo dumps entries guarantee session (at + 1) list
found_kept dumps entries guarantee session at list old here = record {
  each = All-weaker (λ breach. (place : ℕ) × (place < at) × IsBreachAt dumps entries guarantee session place breach) (λ breach. (place : ℕ) × (place < at + 1) × IsBreachAt dumps entries guarantee session place breach)
      (λ breach one. (one.0, let before = one.1 in omega (arith, before), one.2)) list old.each;
  every = λ place second before got is_second.
      elim (cases_lt place at) as (λ _. IsKept dumps guarantee session (take place entries) second ⊎ Any (IsBreachAt dumps entries guarantee session place) list) [
        | inl less ↦ old.every place second less got is_second
        | inr above ↦
            let same : at ≡ place = omega (arith, above, before) in
            inl (subst (λ p. IsKept dumps guarantee session (take p entries) second) same (here second (ap (slice_get entries) same ∙ got) is_second))
      ];
  in_order = old.in_order;
}

-- one more entry with a breach
pub found_more : (count : ℕ) (dumps : List (List Write)) (entries : List Entry) → AreGenuine count dumps entries → (guarantee : Guarantee) (session at : ℕ) (list : List Breach) (breach : Breach)
    → AreFoundTo dumps entries guarantee session at list → IsBreachAt dumps entries guarantee session at breach → AreFoundTo dumps entries guarantee session (at + 1) (list ++ breach ∷ [])
found_more count dumps entries genuine guarantee session at list breach old is =
    let all = list ++ breach ∷ [] in
    record {
      each = All-push (λ one. (place : ℕ) × (place < at + 1) × IsBreachAt dumps entries guarantee session place one) list breach
          (All-weaker (λ one. (place : ℕ) × (place < at) × IsBreachAt dumps entries guarantee session place one) (λ one. (place : ℕ) × (place < at + 1) × IsBreachAt dumps entries guarantee session place one)
          (λ one found. (found.0, let before = found.1 in omega (arith, before), found.2)) list old.each) (at, omega arith, is);
      every = λ place second before got is_second.
          elim (cases_lt place at) as (λ _. IsKept dumps guarantee session (take place entries) second ⊎ Any (IsBreachAt dumps entries guarantee session place) all) [
            | inl less ↦
                elim (old.every place second less got is_second) as (λ _. IsKept dumps guarantee session (take place entries) second ⊎ Any (IsBreachAt dumps entries guarantee session place) all) [
                  | inl kept ↦ inl kept
                  | inr any ↦ inr (any_before (IsBreachAt dumps entries guarantee session place) list (breach ∷ []) any)
                ]
            | inr above ↦
                let same : at ≡ place = omega (arith, above, before) in
                inr (Any-push (IsBreachAt dumps entries guarantee session place) list breach (subst (λ p. IsBreachAt dumps entries guarantee session p breach) same is))
          ];
      in_order = all_pairs_push (λ a b. a.second < b.second) list breach old.in_order
          (λ k d within.
          let one = old.each k d within in
          let rises = places_rise count dumps entries genuine one.0 at one.2.second is.second one.2.second_at is.second_at one.1 (one.2.second_is.session_is ∙ sym is.second_is.session_is) in
          omega (arith, rises, one.2.both.second_place, is.both.second_place));
    }

-- with what was found at one more entry
pub found_with : (count : ℕ) (dumps : List (List Write)) (entries : List Entry) → AreGenuine count dumps entries → (guarantee : Guarantee) (session at : ℕ) (list : List Breach) (breach : Breach)
    → at < length entries → AreFoundTo dumps entries guarantee session at list → ((second : Entry) → slice_get entries at ≡ Some second → IsBreachFor dumps entries guarantee session at second (Some breach))
    → AreFoundTo dumps entries guarantee session (at + 1) (list ++ breach ∷ [])
found_with count dumps entries genuine guarantee session at list breach within old here =
    let second = some_at entries at within in
    found_more count dumps entries genuine guarantee session at list breach old (here second.0 second.1)

-- of one later operation the breach with the first that has a fault with it is the least
least_there : (count : ℕ) (dumps : List (List Write)) (entries : List Entry) → AreGenuine count dumps entries → (guarantee : Guarantee) (session at : ℕ) (breach : Breach) → IsBreachAt dumps entries guarantee session at breach
    → (other : Breach) → other.guarantee ≡ guarantee → other.session.index ≡ session → other.second ≡ breach.second → IsBreach (history_of entries dumps) other → is_less (key_of other) (key_of breach) ≡ false
least_there count dumps entries genuine guarantee session at breach is other same_guarantee same_session same_second other_is =
    let violates = subst (λ s. Violates (history_of entries dumps) guarantee s other.first other.second other.server.index other.wid) same_session
    (subst (λ g. Violates (history_of entries dumps) g other.session.index other.first other.second other.server.index other.wid) same_guarantee other_is.violates) in
    let both = fault_of_violation entries dumps guarantee session other.first other.second other.server.index other.wid violates in
    let i = both.one_at.0.0 in
    let j = both.other_at.0.0 in
    let at_i : slice_get entries i ≡ Some both.one = slice_get-get_or entries i both.one both.one_at.0.1 ∙ ap Some both.one_at.0.2 in
    let at_j : slice_get entries j ≡ Some both.other = slice_get-get_or entries j both.other both.other_at.0.1 ∙ ap Some both.other_at.0.2 in
    let one_second : is.second ≡ both.other = elim (cases_lt at j) as (λ _. is.second ≡ both.other) [
      | inl less ↦
          (in_place count dumps entries genuine at j is.second both.other breach.second other.second is.second_at at_j (omega (arith, less)) (is.second_is.session_is ∙ sym both.other_at.1) is.both.second_place both.other_at.2).1 same_second
      | inr above ↦
          sym ((in_place count dumps entries genuine j at both.other is.second other.second breach.second at_j is.second_at above (both.other_at.1 ∙ sym is.second_is.session_is) (sym both.other_at.2) (sym is.both.second_place)).1 (sym same_second))
    ] in
    let first_of : IsFirst guarantee session both.one = record { session_is = both.one_at.1; kind = both.one_is } in
    let fails : Fails dumps both.one is.second other.server.index other.wid = subst (λ e. Fails dumps both.one e other.server.index other.wid) (sym one_second) both.fails in
    let behind = first_order dumps entries guarantee session is.place i at both.one is.second is.none_before is.before (slice_get_within entries at is.second is.second_at) at_i first_of other.server.index other.wid fails in
    let firsts = in_place count dumps entries genuine is.place i is.first both.one breach.first other.first is.first_at at_i behind (is.both.first_is.session_is ∙ sym both.one_at.1) is.both.first_place both.one_at.2 in
    keys breach.session.index other.session.index (rank breach.guarantee) (rank other.guarantee) breach.second other.second breach.first other.first
    (other.server.index ∷ wid_key other.wid) (breach.server.index ∷ wid_key breach.wid) (same_session ∙ sym is.both.session_is) (ap rank (same_guarantee ∙ sym is.both.guarantee_is)) (omega (arith, same_second))
    (λ _. (firsts.0, λ same_first. is.both.fault.1 other.server.index other.wid (subst (λ e. Fails dumps e is.second other.server.index other.wid) (sym (firsts.1 same_first)) fails)))

-- each breach is of an operation that was found
every_found : (count : ℕ) (dumps : List (List Write)) (entries : List Entry) → AreGenuine count dumps entries → (guarantee : Guarantee) (session : ℕ) (list : List Breach) → AreFoundTo dumps entries guarantee session (length entries) list
    → (other : Breach) → other.guarantee ≡ guarantee → other.session.index ≡ session → IsBreach (history_of entries dumps) other → Any (λ (breach : Breach). breach.second ≡ other.second) list
every_found count dumps entries genuine guarantee session list found other same_guarantee same_session other_is =
    let violates = subst (λ s. Violates (history_of entries dumps) guarantee s other.first other.second other.server.index other.wid) same_session
    (subst (λ g. Violates (history_of entries dumps) g other.session.index other.first other.second other.server.index other.wid) same_guarantee other_is.violates) in
    let both = fault_of_violation entries dumps guarantee session other.first other.second other.server.index other.wid violates in
    let i = both.one_at.0.0 in
    let j = both.other_at.0.0 in
    let at_i : slice_get entries i ≡ Some both.one = slice_get-get_or entries i both.one both.one_at.0.1 ∙ ap Some both.one_at.0.2 in
    let at_j : slice_get entries j ≡ Some both.other = slice_get-get_or entries j both.other both.other_at.0.1 ∙ ap Some both.other_at.0.2 in
    let in_order = other_is.in_order in
    let order : i < j = place_order count dumps entries genuine i j both.one both.other at_i at_j (both.one_at.1 ∙ sym both.other_at.1) (omega (arith, both.one_at.2, both.other_at.2, in_order)) in
    let within : j < length entries = both.other_at.0.1 in
    elim (found.every j both.other within at_j (record { session_is = both.other_at.1; kind = both.other_is })) as (λ _. Any (λ (breach : Breach). breach.second ≡ other.second) list) [
      | inl kept ↦
          absurd (kept_fails dumps guarantee session entries i j both.one both.other kept at_i order (omega (arith, within)) (record { session_is = both.one_at.1; kind = both.one_is }) other.server.index other.wid both.fails)
      | inr any ↦
          let both_entries : Some any.4.second ≡ Some both.other = sym any.4.second_at ∙ at_j in
          let one_entry : any.4.second ≡ both.other = cc in
          (any.0, any.1, any.2, any.3, any.4.both.second_place ∙ ap (λ (e : Entry). e.place) one_entry ∙ both.other_at.2)
    ]

-- once all entries were gone through
pub found_all : (count : ℕ) (entries : List Entry) (dumps : List (List Write)) (indexes : List Tables) → IsChecked count entries dumps indexes → (guarantee : Guarantee) (session upto : ℕ) (list : List Breach)
    → upto ≡ length entries → AreFoundTo dumps entries guarantee session upto list → AreBreachesOf (history_of entries dumps) guarantee session list
found_all count entries dumps indexes checked guarantee session upto list whole found =
    let genuine = checked.evidence.entries_are in
    record {
      each = All-weaker (λ breach. (at : ℕ) × (at < upto) × IsBreachAt dumps entries guarantee session at breach) (IsLeastThere (history_of entries dumps) guarantee session)
          (λ breach one. record {
            guarantee_is = one.2.both.guarantee_is;
            session_is = one.2.both.session_is;
            is = breach_is count dumps entries genuine guarantee session one.0 breach one.2;
            least = least_there count dumps entries genuine guarantee session one.0 breach one.2;
          }) list found.each;
      every = every_found count dumps entries genuine guarantee session list (subst (λ n. AreFoundTo dumps entries guarantee session n list) whole found);
      in_order = found.in_order;
    }

-- one more session
pub session_more : (history : History) (list : List SessionBreaches) (at : ℕ) (more : SessionBreaches) → length list ≡ at
    → ((session : ℕ) (found : SessionBreaches) → slice_get list session ≡ Some found → (found.session.index ≡ session) × AreBreaches history found) → more.session.index ≡ at → AreBreaches history more
    → (session : ℕ) (found : SessionBreaches) → slice_get (list ++ more ∷ []) session ≡ Some found → (found.session.index ≡ session) × AreBreaches history found
session_more history list at more sized each index is session found got =
    elim (slice_get-push list more session found got) as (λ _. (found.session.index ≡ session) × AreBreaches history found) [
      | inl there ↦ each session found there.1
      | inr here ↦ subst (λ f. (f.session.index ≡ session) × AreBreaches history f) here.1 (let last = here.0 in omega (arith, index, sized, last), is)
    ]
