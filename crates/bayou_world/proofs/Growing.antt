-- Servers that hold more: what was true stays true, and what is added may be.
use Rattle.std.proofs.Common.{◌≡◌, inl, inr, ◌⊎◌, ℕ, Bool, true, false, List, [], ◌∷◌, ◌++◌, length, Contains, Option, None, Some, ap, sym, ◌∙◌, refl, subst, arith, length-append}
use Rattle.std.proofs.lemmas.List.{append_assoc, append-nil, map-append}
use Rattle.std.proofs.lemmas.List.Elements.{All-push, All-weaker, Contains-append_left, Contains-push}
use Rattle.bayou_lang.specs.declared.write.Write.{Write}
use Rattle.bayou_lang.specs.Laws.Fitting.{IsSound-push}
use Rattle.bayou_lang.specs.Writes.{IsSound}
use Rattle.bayou_judge.specs.History.{IsFrontOf}
use Rattle.bayou_world.specs.Inner.Good.{AreGoodServers, AreOffers, HavePasts, IsGoodServer, IsHome, WasSo, IsTrueAnswer, MayBeDoubted}
use Rattle.bayou_world.specs.Machine.{Answered, Made, Offered, ServerSets, changed, writes}
use Rattle.bayou_world.specs.Steps.{Recovers, stopped_now, with_doubt, with_write}
use Rattle.bayou_base.specs.declared.entry.What.{What}
use Rattle.bayou_base.specs.declared.entry.What.TheVariants as whats
use Rattle.bayou_world.proofs.Lists.{at_changed, changed-same, same_number}

-- each server holds what it held, and may hold more behind that
abbrev pub HaveGrown : (ℕ → ServerSets) → (ℕ → ServerSets) → Type 0
HaveGrown old new = (place : ℕ) → (later : List Made) × ((new place).held ≡ (old place).held ++ later)

pub home_grows : (old new : ℕ → ServerSets) → HaveGrown old new → (made : Made) → IsHome old made → IsHome new made
home_grows old new grown made home =
    let place = made.write.wid.origin.index in
    subst (λ list. Contains list made) (sym (grown place).1) (Contains-append_left (old place).held (grown place).0 made home)

pub front_grows : (old new : ℕ → ServerSets) → HaveGrown old new → (place : ℕ) (database : List Write) → IsFrontOf (writes (old place).held) database → IsFrontOf (writes (new place).held) database
front_grows old new grown place database (rest, split) =
    let later = (grown place).0 in (
      rest ++ writes later,
      ap writes (grown place).1 ∙ map-append (λ (m : Made). m.write) (old place).held later ∙ ap (λ list. list ++ writes later) split ∙ append_assoc database rest (writes later),
    )

pub offers_grow : (old new : ℕ → ServerSets) → HaveGrown old new → (offers : List Offered) → AreOffers old offers → AreOffers new offers
offers_grow old new grown offers all =
    All-weaker (λ (offer : Offered). IsFrontOf (writes (old offer.server).held) offer.database) (λ (offer : Offered). IsFrontOf (writes (new offer.server).held) offer.database)
    (λ offer front. front_grows old new grown offer.server offer.database front) offers all

true_grows : (old new : ℕ → ServerSets) → HaveGrown old new → (what : What) (place : ℕ) (answered : Answered) → WasSo old what place answered → WasSo new what place answered
true_grows old new grown (whats.Read key vector) place answered (none, front, counts) = (none, front_grows old new grown place answered.database front, counts)
true_grows old new grown (whats.Write wid stamp deps) place answered (made, is, home, name) = (made, is, home_grows old new grown made home, name)
true_grows old new grown whats.Refused place answered none = none

pub answer_grows : (old new : ℕ → ServerSets) → HaveGrown old new → (answered : Answered) → IsTrueAnswer old answered → IsTrueAnswer new answered
answer_grows old new grown answered is = true_grows old new grown answered.entry.what answered.entry.server.index answered is

doubt_grows : (count limit : ℕ) (old new : ℕ → ServerSets) → HaveGrown old new → (place : ℕ) (held : List Made) (made : Made) → MayBeDoubted count limit old place held made → MayBeDoubted count limit new place held made
doubt_grows count limit old new grown place held made may = record {
  room = may.room;
  fits = may.fits;
  deps = may.deps;
  past = may.past;
  home = λ foreign. home_grows old new grown made (may.home foreign);
}

-- a server that is as it was
good_grows : (count limit : ℕ) (old new : ℕ → ServerSets) → HaveGrown old new → (place : ℕ) (server : ServerSets) → IsGoodServer count limit old place server → IsGoodServer count limit new place server
good_grows count limit old new grown place server good = record {
  sound = good.sound;
  within = good.within;
  home = All-weaker (IsHome old) (IsHome new) (λ made home. home_grows old new grown made home) server.held good.home;
  pasts = good.pasts;
  had = good.had;
  doubt = λ made is. doubt_grows count limit old new grown place server.held made (good.doubt made is);
}

-- ---- a Write more

-- a server that holds what it held, and so many behind that
pub grown_at : (old : ℕ → ServerSets) (place : ℕ) (new : ServerSets) (later : List Made) → new.held ≡ (old place).held ++ later → HaveGrown old (changed old place new)
grown_at old place new later same =
    at_changed (λ other (server : ServerSets). (more : List Made) × (server.held ≡ (old other).held ++ more)) old place new
    (later, same) (λ other. ([], sym (append-nil (old other).held)))

pub grown_by_write : (old : ℕ → ServerSets) (place : ℕ) (made : Made) → HaveGrown old (changed old place (with_write (old place) made))
grown_by_write old place made = grown_at old place (with_write (old place) made) (made ∷ []) refl

pub grown_by_doubt : (old : ℕ → ServerSets) (place : ℕ) (made : Made) → HaveGrown old (changed old place (with_doubt (old place) made))
grown_by_doubt old place made = grown_at old place (with_doubt (old place) made) [] (sym (append-nil (old place).held))

-- a part of a longer list is a part of the list, or the whole of it
last_or_before : {X : Type 0} (xs : List X) (x : X) (before : List X) (y : X) (after : List X) → xs ++ x ∷ [] ≡ before ++ y ∷ after
    → ((xs ≡ before) × (x ≡ y)) ⊎ ((rest : List X) × (xs ≡ before ++ y ∷ rest))
last_or_before [] x [] y after same = inl (refl, cc)
last_or_before [] x (first ∷ before) y after same = absurd (omega (arith, ap length same, length-append before (y ∷ after)))
last_or_before (first ∷ xs) x [] y after same = inr (xs, let one : first ≡ y = cc in ap (λ z. z ∷ xs) one)
last_or_before (first ∷ xs) x (other ∷ before) y after same =
    let head : first ≡ other = cc in
    let tail : xs ++ x ∷ [] ≡ before ++ y ∷ after = cc in
    elim (last_or_before xs x before y after tail) as (λ _. ((first ∷ xs ≡ other ∷ before) × (x ≡ y)) ⊎ ((rest : List _) × (first ∷ xs ≡ (other ∷ before) ++ y ∷ rest))) [
      | inl is ↦ inl (ap (λ z. z ∷ xs) head ∙ ap (λ zs. other ∷ zs) is.0, is.1)
      | inr deeper ↦ inr (deeper.0, ap (λ z. z ∷ xs) head ∙ ap (λ zs. other ∷ zs) deeper.1)
    ]

pasts_more : (place : ℕ) (held : List Made) (made : Made) → HavePasts place held → (made.write.wid.origin.index ≡ place → made.past ≡ writes held) → HavePasts place (held ++ made ∷ [])
pasts_more place held made pasts past before other after same own =
    elim (last_or_before held made before other after same) as (λ _. other.past ≡ writes before) [
      | inl is ↦
          let own_made : made.write.wid.origin.index ≡ place = ap (λ (m : Made). m.write.wid.origin.index) is.1 ∙ own in
          ap (λ (m : Made). m.past) (sym is.1) ∙ past own_made ∙ ap writes is.0
      | inr deeper ↦ pasts before other deeper.0 deeper.1 own
    ]

-- behind what is held, where no Write is in doubt then
add_behind : (count limit : ℕ) (servers : ℕ → ServerSets) → AreGoodServers count limit servers → (place : ℕ) (made : Made) (doubt : Option Made) (stopped : Bool) → doubt ≡ None
    → MayBeDoubted count limit servers place (servers place).held made
    → AreGoodServers count limit (changed servers place (with_write (record (servers place) { doubt = doubt; stopped = stopped }) made))
add_behind count limit servers good place made doubt stopped up may =
    let server = servers place in
    let held = server.held in
    let after = with_write (record server { doubt = doubt; stopped = stopped }) made in
    let new = changed servers place after in
    let grown = grown_at servers place after (made ∷ []) refl in
    let whole : writes (held ++ made ∷ []) ≡ writes held ++ made.write ∷ [] = map-append (λ (m : Made). m.write) held (made ∷ []) in
    let made_home : IsHome new made = elim (same_number made.write.wid.origin.index place) as (λ _. IsHome new made) [
      | inl own ↦
          let here : (new place).held ≡ held ++ made ∷ [] = ap (λ (s : ServerSets). s.held) (changed-same servers place after) in
          subst (λ n. Contains (new n).held made) (sym own) (subst (λ list. Contains list made) (sym here) (Contains-push held made))
      | inr foreign ↦ home_grows servers new grown made (may.home foreign)
    ] in
    at_changed (IsGoodServer count limit new) servers place after
    (record {
      sound = subst (IsSound place count) (sym whole) (IsSound-push place count (writes held) made.write (good place).sound may.fits may.deps);
      within = omega (arith, may.room, length-append held (made ∷ []));
      home = All-push (IsHome new) held made (good_grows count limit servers new grown place server (good place)).home made_home;
      pasts = pasts_more place held made (good place).pasts may.past;
      had = All-push (IsFrontOf (writes (held ++ made ∷ []))) server.had (writes (held ++ made ∷ []))
          (All-weaker (IsFrontOf (writes held)) (IsFrontOf (writes (held ++ made ∷ [])))
          (λ database front. (front.0 ++ made.write ∷ [], whole ∙ ap (λ list. list ++ made.write ∷ []) front.1 ∙ append_assoc database front.0 (made.write ∷ []))) server.had (good place).had)
          ([], sym (append-nil (writes (held ++ made ∷ []))));
      doubt = λ other is. let none : None ≡ Some other = sym up ∙ is in absurd (cc);
    })
    (λ other. good_grows count limit servers new grown other (servers other) (good other))

pub add_write : (count limit : ℕ) (servers : ℕ → ServerSets) → AreGoodServers count limit servers → (place : ℕ) (made : Made) → (servers place).doubt ≡ None
    → MayBeDoubted count limit servers place (servers place).held made → AreGoodServers count limit (changed servers place (with_write (servers place) made))
add_write count limit servers good place made up may = add_behind count limit servers good place made (servers place).doubt (servers place).stopped up may

pub add_doubt : (count limit : ℕ) (servers : ℕ → ServerSets) → AreGoodServers count limit servers → (place : ℕ) (made : Made)
    → MayBeDoubted count limit servers place (servers place).held made → AreGoodServers count limit (changed servers place (with_doubt (servers place) made))
add_doubt count limit servers good place made may =
    let server = servers place in
    let after = with_doubt server made in
    let new = changed servers place after in
    let grown = grown_by_doubt servers place made in
    let old = good_grows count limit servers new grown place server (good place) in
    at_changed (IsGoodServer count limit new) servers place after
    (record {
      sound = old.sound;
      within = old.within;
      home = old.home;
      pasts = old.pasts;
      had = old.had;
      doubt = λ other is.
          let one : made ≡ other = cc in
          subst (MayBeDoubted count limit new place after.held) one (record { room = may.room; fits = may.fits; deps = may.deps; past = may.past; home = λ foreign. home_grows servers new grown made (may.home foreign) });
    })
    (λ other. good_grows count limit servers new grown other (servers other) (good other))

-- ---- a server that is up again, or stopped

-- it holds what it held, and what is in doubt there was so before
as_held : (count limit : ℕ) (servers : ℕ → ServerSets) → AreGoodServers count limit servers → (place : ℕ) (doubt : Option Made) (stopped : Bool) → ((made : Made) → doubt ≡ Some made → (servers place).doubt ≡ Some made)
    → AreGoodServers count limit (changed servers place (record (servers place) { doubt = doubt; stopped = stopped }))
as_held count limit servers good place doubt stopped was =
    let server = servers place in
    let after = record server { doubt = doubt; stopped = stopped } in
    let new = changed servers place after in
    let grown = grown_at servers place after [] (sym (append-nil server.held)) in
    let old = good_grows count limit servers new grown place server (good place) in
    at_changed (IsGoodServer count limit new) servers place after
    (record {
      sound = old.sound;
      within = old.within;
      home = old.home;
      pasts = old.pasts;
      had = old.had;
      doubt = λ made is. old.doubt made (was made is);
    })
    (λ other. good_grows count limit servers new grown other (servers other) (good other))

pub stop : (count limit : ℕ) (servers : ℕ → ServerSets) → AreGoodServers count limit servers → (place : ℕ) → AreGoodServers count limit (changed servers place (stopped_now (servers place)))
stop count limit servers good place = as_held count limit servers good place (servers place).doubt true (λ made is. is)

pub grown_by_stop : (old : ℕ → ServerSets) (place : ℕ) → HaveGrown old (changed old place (stopped_now (old place)))
grown_by_stop old place = grown_at old place (stopped_now (old place)) [] (sym (append-nil (old place).held))

pub recover : (count limit : ℕ) (servers : ℕ → ServerSets) → AreGoodServers count limit servers → (place : ℕ) (adopted : Option Made) (server : ServerSets) → Recovers (servers place) adopted server
    → AreGoodServers count limit (changed servers place server)
recover count limit servers good place None server is =
    subst (λ s. AreGoodServers count limit (changed servers place s)) (sym is)
    (as_held count limit servers good place None false (λ made some. let none : None ≡ Some made = some in absurd (cc)))
recover count limit servers good place (Some made) server (doubted, is) =
    subst (λ s. AreGoodServers count limit (changed servers place s)) (sym is)
    (add_behind count limit servers good place made None false refl ((good place).doubt made doubted))

pub grown_by_recovery : (old : ℕ → ServerSets) (place : ℕ) (adopted : Option Made) (server : ServerSets) → Recovers (old place) adopted server → HaveGrown old (changed old place server)
grown_by_recovery old place None server is = grown_at old place server [] (ap (λ (s : ServerSets). s.held) is ∙ sym (append-nil (old place).held))
grown_by_recovery old place (Some made) server (doubted, is) = grown_at old place server (made ∷ []) (ap (λ (s : ServerSets). s.held) is)
