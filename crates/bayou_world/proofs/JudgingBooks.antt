-- What is in the book is evidence of the machine's own history, as far as it is filed, and that is judged clean.
use Rattle.std.proofs.Common.{◌≡◌, inl, inr, ◌⊎◌, ℕ, ◌<◌, List, [], Option, Some, Ok, take, get_or, Contains, ap, sym, ◌∙◌, refl, subst, arith}
use Rattle.std.specs.List.{slice_get}
use Rattle.std.proofs.lemmas.Bool.{cases_lt}
use Rattle.std.proofs.lemmas.List.{get_or_default}
use Rattle.std.proofs.lemmas.List.Elements.{All-contains, All-take, All-weaker}
use Rattle.std.proofs.lemmas.Option.{get_or_from_slice_get, slice_get_within}
use Rattle.bayou_base.specs.declared.asks.Asks.{Asks}
use Rattle.bayou_base.specs.declared.entry.Entry.{Entry}
use Rattle.bayou_base.specs.declared.entry.What.TheVariants as whats
use Rattle.bayou_base.specs.declared.session.SessionId.{SessionId}
use Rattle.bayou_base.specs.declared.wid.Wid.{Wid}
use Rattle.bayou_lang.specs.declared.write.Write.{Write}
use Rattle.bayou_judge.specs.declared.verdict.Verdict.TheVariants.{Clean}
use Rattle.bayou_judge.specs.Answers.{Judges}
use Rattle.bayou_judge.specs.Evidence.{AreGenuine, AreGood, IsTrueOf, TellsOf}
use Rattle.bayou_judge.specs.Guarantees.{Keeps}
use Rattle.bayou_judge.specs.History.{History, IsReadFrom, IsWriteOf, dump_of, history_of}
use Rattle.bayou_world.specs.Inner.Entered.{AreEntered, IsEntered, IsFiledOrWaits, IsOfServed, Rises}
use Rattle.bayou_world.specs.Inner.Good.{IsGoodMachine, IsTrueAnswer}
use Rattle.bayou_world.specs.Inner.Told.{IsToldMachine, IsToldTrue}
use Rattle.bayou_world.specs.Judged.{AreDumpsOf, AreOneHistory, entries_of}
use Rattle.bayou_world.specs.Machine.{Answered, Machine, SessionSets}
use Rattle.bayou_world.specs.Runs.{history_of_machine}
use Rattle.bayou_world.proofs.Judging.{OneVector, all_before, dumps_are_good, one_history, tells_true}
use Rattle.bayou_world.proofs.Lists.{Contains-map, Contains-map_from, Contains-none}
use Rattle.bayou_world.proofs.Stepping.{all_of_contained}

-- what one history has the other has
pub record IsPartOf (one other : History) : Type 0 where
  pub Wrote : (session place : ℕ) (write : Write) → one.Wrote session place write → other.Wrote session place write
  pub Read : (session place server : ℕ) (database : List Write) → one.Read session place server database → other.Read session place server database
  pub Had : (server : ℕ) (database : List Write) → one.Had server database → other.Had server database

-- what a history keeps each part of it keeps
keeps_part : (one other : History) → IsPartOf one other → (asks : Asks) (session : ℕ) → Keeps other asks session → Keeps one asks session
keeps_part one other part asks session keeps = record {
  ryw = λ asked first second server write database less wrote read.
      keeps.ryw asked first second server write database less (part.Wrote session first write wrote) (part.Read session second server database read);
  mr = λ asked first second there server earlier later less read again.
      keeps.mr asked first second there server earlier later less (part.Read session first there earlier read) (part.Read session second server later again);
  wfr = λ asked first second server database write less read wrote earlier has place held had.
      keeps.wfr asked first second server database write less (part.Read session first server database read) (part.Wrote session second write wrote) earlier has place held (part.Had place held had);
  mw = λ asked first second earlier later less wrote again place held had.
      keeps.mw asked first second earlier later less (part.Wrote session first earlier wrote) (part.Wrote session second later again) place held (part.Had place held had);
}

-- entries of which each that tells of something stands in the others
history_within : (entries others : List Entry) (dumps : List (List Write))
    → ((entry : Entry) → Contains entries entry → (entry.what ≡ whats.Refused) ⊎ Contains others entry) → IsPartOf (history_of entries dumps) (history_of others dumps)
history_within entries others dumps each = record {
  Wrote = λ session place write wrote.
      elim (each wrote.0 wrote.1.0) as (λ _. (history_of others dumps).Wrote session place write) [
        | inl refused ↦ absurd (subst (λ what. IsWriteOf (dump_of dumps wrote.0.server.index) what write) refused wrote.2)
        | inr has ↦ (wrote.0, (has, wrote.1.1, wrote.1.2), wrote.2)
      ];
  Read = λ session place server database read.
      elim (each read.0 read.1.0) as (λ _. (history_of others dumps).Read session place server database) [
        | inl refused ↦ absurd (subst (λ what. IsReadFrom (dump_of dumps server) what database) refused read.3)
        | inr has ↦ (read.0, (has, read.1.1, read.1.2), read.2, read.3)
      ];
  Had = λ server database had. had;
}

module _ (machine : Machine) (count : ℕ) (asks : ℕ → Option Asks) (good : IsGoodMachine machine) (is : IsToldMachine count asks machine)
    (entered : AreEntered count asks machine.sessions machine.served machine.filed) (dumps : List (List Write)) (are : AreDumpsOf machine dumps) where
  -- a Write is told of once
  one_teller : (name : Wid) (one other : Answered) → Contains machine.served one → Contains machine.served other → TellsOf name one.entry.what → TellsOf name other.entry.what → one ≡ other
  one_teller name one other (i, within_i, is_i) (j, within_j, is_j) tells also =
      let at_j : get_or machine.served j one ≡ other = get_or_default machine.served j one other within_j ∙ is_j in
      elim (cases_lt i j) as (λ _. one ≡ other) [
        | inl less ↦ absurd ((is.in_order i j one less within_j).others name (subst (λ (a : Answered). TellsOf name a.entry.what) (sym is_i) tells) (subst (λ (a : Answered). TellsOf name a.entry.what) (sym at_j) also))
        | inr not_less ↦ elim (cases_lt j i) as (λ _. one ≡ other) [
          | inl less ↦ absurd ((is.in_order j i one less within_i).others name (subst (λ (a : Answered). TellsOf name a.entry.what) (sym at_j) also) (subst (λ (a : Answered). TellsOf name a.entry.what) (sym is_i) tells))
          | inr not_more ↦
              let same : i ≡ j = omega (arith, not_less, not_more) in sym is_i ∙ ap (λ k. get_or machine.served k one) same ∙ at_j
        ]
      ]

  -- an entry that comes after another tells of another Write
  tells_others : (one other : Entry) → Rises one other → IsEntered count asks machine.served one → IsEntered count asks machine.served other → (name : Wid) → TellsOf name other.what → TellsOf name one.what → ⊥
  tells_others one other rises first second name here there =
      elim first.told as (λ _. ⊥) [
        | inl refused ↦ absurd (subst (TellsOf name) refused there)
        | inr (answered, has, same) ↦ elim second.told as (λ _. ⊥) [
          | inl refused ↦ absurd (subst (TellsOf name) refused here)
          | inr (again, has_again, same_again) ↦
              let told = subst (λ (e : Entry). TellsOf name e.what) (sym same) there in
              let told_again = subst (λ (e : Entry). TellsOf name e.what) (sym same_again) here in
              let equal : one ≡ other = sym same ∙ ap (λ (a : Answered). a.entry) (one_teller name answered again has has_again told told_again) ∙ same_again in
              let less : one.place < other.place = rises (ap (λ (e : Entry). e.session.index) equal) in
              omega (arith, less, ap (λ (e : Entry). e.place) equal)
        ]
      ]

  of_what : (at : ℕ) (entry : Entry) → slice_get machine.filed at ≡ Some entry → IsEntered count asks machine.served entry
      → IsTrueOf (dump_of dumps entry.server.index) entry.server (take at machine.filed) entry.what
  of_what at entry got entered_it = elim entered_it.told as (λ _. IsTrueOf (dump_of dumps entry.server.index) entry.server (take at machine.filed) entry.what) [
    | inl refused ↦ subst (IsTrueOf (dump_of dumps entry.server.index) entry.server (take at machine.filed)) (sym refused) tt
    | inr (answered, has, same) ↦
        let was = All-contains (IsTrueAnswer machine.servers) machine.served answered good.served has in
        let told = All-contains (IsToldTrue count asks) machine.served answered is.served has in
        let before = all_before Rises machine.filed at entry entered.in_order got in
        let earlier = All-take (IsEntered count asks machine.served) at machine.filed entered.filed_are in
        subst (λ (e : Entry). IsTrueOf (dump_of dumps e.server.index) e.server (take at machine.filed) e.what) same
        (tells_true machine count asks good is dumps are (take at machine.filed) answered
        (λ name tells. all_of_contained (λ (other : Entry). ¬ TellsOf name other.what) (take at machine.filed)
        (λ other here. tells_others other entry (All-contains (λ (e : Entry). Rises e entry) (take at machine.filed) other before here)
        (All-contains (IsEntered count asks machine.served) (take at machine.filed) other earlier here) entered_it name (subst (λ (e : Entry). TellsOf name e.what) same tells)))
        answered.entry.what refl was told.what)
  ]

  filed_are_genuine : AreGenuine machine.count dumps machine.filed
  filed_are_genuine at entry got =
      let has : Contains machine.filed entry = (at, slice_get_within machine.filed at entry got, get_or_from_slice_get machine.filed at entry entry got) in
      let entered_it = All-contains (IsEntered count asks machine.served) machine.filed entry entered.filed_are has in
      let before = all_before Rises machine.filed at entry entered.in_order got in
      record {
        server = omega (arith, entered_it.server, is.count_is);
        place = All-weaker (λ (other : Entry). Rises other entry) (λ (other : Entry). other.session ≡ entry.session → other.place < entry.place)
            (λ other rises same. rises (ap (λ (s : SessionId). s.index) same)) (take at machine.filed) before;
        asks = All-weaker (IsEntered count asks machine.served) (λ (other : Entry). other.session ≡ entry.session → other.asks ≡ entry.asks)
            (λ other also same.
            let both : Some other.asks ≡ Some entry.asks = sym also.asks_are ∙ ap (λ (s : SessionId). asks s.index) same ∙ entered_it.asks_are in
            let one : other.asks ≡ entry.asks = cc in one)
            (take at machine.filed) (All-take (IsEntered count asks machine.served) at machine.filed entered.filed_are);
        what = of_what at entry got entered_it;
      }

  -- what is filed is a part of what was served
  filed_is_served : IsPartOf (history_of machine.filed dumps) (history_of (entries_of machine) dumps)
  filed_is_served = history_within machine.filed (entries_of machine) dumps (λ entry has. served_one entry (All-contains (IsEntered count asks machine.served) machine.filed entry entered.filed_are has).told)
    where
      served_one : (entry : Entry) → (entry.what ≡ whats.Refused) ⊎ IsOfServed machine.served entry → (entry.what ≡ whats.Refused) ⊎ Contains (entries_of machine) entry
      served_one entry (inl refused) = inl refused
      served_one entry (inr (answered, has, same)) = inr (subst (Contains (entries_of machine)) same (Contains-map (λ (a : Answered). a.entry) machine.served answered has))

  -- where nothing waits it is all of that
  abbrev pub NothingWaits : Type 0
  NothingWaits = (who : ℕ) (session : SessionSets) → machine.sessions who ≡ Some session → session.waiting ≡ []

  served_is_filed : NothingWaits → IsPartOf (history_of (entries_of machine) dumps) (history_of machine.filed dumps)
  served_is_filed none = history_within (entries_of machine) machine.filed dumps (λ entry has.
      let at = Contains-map_from (λ (a : Answered). a.entry) machine.served entry has in
      inr (subst (Contains machine.filed) at.2 (filed_one at.0 (All-contains (IsFiledOrWaits machine.filed machine.sessions) machine.served at.0 entered.none_lost at.1))))
    where
      filed_one : (answered : Answered) → IsFiledOrWaits machine.filed machine.sessions answered → Contains machine.filed answered.entry
      filed_one answered (inl has) = has
      filed_one answered (inr (who, session, there, has)) = absurd (Contains-none answered.entry (subst (λ list. Contains list answered.entry) (none who session there) has))

  pub book_history : OneVector → NothingWaits → AreOneHistory (history_of machine.filed dumps) (history_of_machine machine)
  book_history one none =
      let all = one_history machine count asks good is dumps are one in
      let into = filed_is_served in
      let back = served_is_filed none in
      record {
        Wrote = λ session place write. (λ wrote. (all.Wrote session place write).0 (into.Wrote session place write wrote), λ wrote. back.Wrote session place write ((all.Wrote session place write).1 wrote));
        Read = λ session place server database. (
          λ read. (all.Read session place server database).0 (into.Read session place server database read),
          λ read. back.Read session place server database ((all.Read session place server database).1 read),
        );
        Had = λ server database. all.Had server database;
      }

  -- The judge may answer that all was kept.
  pub book_clean : OneVector → ((session : ℕ) (wants : Asks) → asks session ≡ Some wants → Keeps (history_of_machine machine) wants session) → Judges count machine.filed dumps (Ok Clean)
  book_clean one kept =
      let all = one_history machine count asks good is dumps are one in
      let part : IsPartOf (history_of machine.filed dumps) (history_of_machine machine) = record {
        Wrote = λ session place write wrote. (all.Wrote session place write).0 (filed_is_served.Wrote session place write wrote);
        Read = λ session place server database read. (all.Read session place server database).0 (filed_is_served.Read session place server database read);
        Had = λ server database had. (all.Had server database).0 had;
      } in (
        record {
          dumps_are = subst (λ n. AreGood n dumps) is.count_is (dumps_are_good machine count asks good is dumps are);
          entries_are = subst (λ n. AreGenuine n dumps machine.filed) is.count_is filed_are_genuine;
        },
        All-weaker (IsEntered count asks machine.served) (λ (entry : Entry). Keeps (history_of machine.filed dumps) entry.asks entry.session.index)
            (λ entry told. keeps_part (history_of machine.filed dumps) (history_of_machine machine) part entry.asks entry.session.index (kept entry.session.index entry.asks told.asks_are))
            machine.filed entered.filed_are,
      )
