-- A server that takes Writes holds each of them then, and all that it held.
use Rattle.std.proofs.Common.{◌≡◌, ◌≢◌, ◌==◌, ◌⊎◌, inl, inr, ◌∙◌, ◌+◌, ◌<◌, ℕ, suc, Bool, true, false, List, [], ◌∷◌, ◌++◌, Option, None, Result, Ok, All, Any, Contains, ap, arith, length, length-append, get_or, map, refl, slice_index, subst, sym, take}
use Rattle.std.specs.List.{filter}
use Rattle.std.proofs.lemmas.List.{append-nil, take_more}
use Rattle.std.proofs.lemmas.List.Elements.{All-append, All-cons, All-contains, All-contains_itself, All-nil, All-weaker, Contains-append_left, Contains-append_right, Contains-push, Contains-push_cases, filter-append}
use Rattle.bayou_device.specs.declared.device.Device.{Ghosts}
use Rattle.bayou_lang.specs.Writes.{count_of}
use Rattle.bayou_lang.specs.declared.write.Write.{Write}
use Rattle.bayou_restore.specs.Restoring.{own_of}
use Rattle.bayou_serve.specs.Remade.{AreFromEach, IsRemade, IsRestoring, TakesAllOf, TakesEachOf}
use Rattle.bayou_serve.specs.declared.plan.Peer.{Peer}
use Rattle.bayou_serve.specs.declared.plan.ServicePlan.{ServicePlan}
use Rattle.bayou_serve.specs.declared.remaking.TakenWhole.{TakenWhole}
use Rattle.bayou_server.specs.Laws.TakesAll.{all_taken}
use Rattle.bayou_server.specs.Server.{Core, ServerState}
use Rattle.bayou_server.specs.TakesAll.{TakesAll, TakesAt, TakesEach, TakingEnds}
use Rattle.bayou_server.specs.declared.answer.RefusedWrite.{RefusedWrite}
use Rattle.bayou_server.specs.declared.answer.Took.{Took}
use Rattle.bayou_server.specs.declared.answer.Took.TheVariants.{New, Had}
use Rattle.bayou_server.specs.declared.answer.TookAll.{TookAll}
use Rattle.bayou_server.specs.declared.fault.TakeFault.{TakeFault}

-- none
none_taken : (core : Core) → TakesAllOf core [] core
none_taken core =
    let itself = All-contains_itself core.held in
    record {
      all = All-nil (λ w. Contains core.held w);
      kept = itself;
      others = All-weaker (Contains core.held) (λ w. Contains core.held w ⊎ Contains [] w) (λ w there. inl there) core.held itself;
      own = refl;
      doubt = refl;
      id = refl;
      count = refl;
      limit = refl;
    }

-- one that was held
had : (core : Core) (given : Write) → Contains core.held given → TakesAllOf core (given ∷ []) core
had core given there =
    let itself = All-contains_itself core.held in
    record {
      all = All-cons (λ w. Contains core.held w) given [] there (All-nil (λ w. Contains core.held w));
      kept = itself;
      others = All-weaker (Contains core.held) (λ w. Contains core.held w ⊎ Contains (given ∷ []) w) (λ w there. inl there) core.held itself;
      own = refl;
      doubt = refl;
      id = refl;
      count = refl;
      limit = refl;
    }

-- another server's Write adds nothing to a server's own
own_of-other : (server : ℕ) (held : List Write) (write : Write) → write.wid.origin.index ≢ server → own_of server (held ++ write ∷ []) ≡ own_of server held
own_of-other server held write other =
    let IsOwn : Write → Bool = λ w. w.wid.origin.index == server in
    let none : filter IsOwn (write ∷ []) ≡ [] = elim (write.wid.origin.index == server) as (λ t. write.wid.origin.index == server ≡ t → filter IsOwn (write ∷ []) ≡ []) [
      | true ↦ λ is. absurd (other (grind (arith)))
      | false ↦ λ isnt. rw isnt refl
    ] refl in
    filter-append IsOwn held (write ∷ []) ∙ ap (λ l. own_of server held ++ l) none ∙ append-nil (own_of server held)

-- one that is new
is_new : (old new : Core) (given : Write) → new.held ≡ old.held ++ given ∷ [] → given.wid.origin.index ≢ old.id → new.doubt ≡ old.doubt → new.id ≡ old.id → new.count ≡ old.count → new.limit ≡ old.limit
    → TakesAllOf old (given ∷ []) new
is_new old new given held other doubt id count limit =
    let there : Contains new.held given = subst (λ (l : List Write). Contains l given) (sym held) (Contains-push old.held given) in
    let up : (w : Write) → Contains old.held w → Contains new.held w = λ w was. subst (λ (l : List Write). Contains l w) (sym held) (Contains-append_left old.held (given ∷ []) w was) in
    let down : (w : Write) → Contains new.held w → Contains old.held w ⊎ Contains (given ∷ []) w = λ w now.
    elim (Contains-push_cases old.held given w (subst (λ (l : List Write). Contains l w) held now)) as (λ _. Contains old.held w ⊎ Contains (given ∷ []) w) [
      | inl was ↦ inl was
      | inr same ↦ inr (subst (λ (x : Write). Contains (given ∷ []) x) same (Contains-push [] given))
    ] in
    record {
      all = All-cons (λ w. Contains new.held w) given [] there (All-nil (λ w. Contains new.held w));
      kept = All-weaker (Contains old.held) (Contains new.held) up old.held (All-contains_itself old.held);
      others = All-weaker (Contains new.held) (λ w. Contains old.held w ⊎ Contains (given ∷ []) w) down new.held (All-contains_itself new.held);
      own = ap (own_of old.id) held ∙ own_of-other old.id old.held given other;
      doubt = doubt;
      id = id;
      count = count;
      limit = limit;
    }

-- some, and then others
pub taken_on : (old mid new : Core) (xs ys : List Write) → TakesAllOf old xs mid → TakesAllOf mid ys new → TakesAllOf old (xs ++ ys) new
taken_on old mid new xs ys first second =
    let up : (w : Write) → Contains mid.held w → Contains new.held w = λ w there. All-contains (Contains new.held) mid.held w second.kept there in
    let down : (w : Write) → (Contains mid.held w ⊎ Contains ys w) → (Contains old.held w ⊎ Contains (xs ++ ys) w) = λ w from.
    elim from as (λ _. Contains old.held w ⊎ Contains (xs ++ ys) w) [
      | inl there ↦ elim (All-contains (λ w. Contains old.held w ⊎ Contains xs w) mid.held w first.others there) as (λ _. Contains old.held w ⊎ Contains (xs ++ ys) w) [
        | inl was ↦ inl was
        | inr given ↦ inr (Contains-append_left xs ys w given)
      ]
      | inr given ↦ inr (Contains-append_right xs ys w given)
    ] in
    record {
      all = All-append (Contains new.held) xs ys (All-weaker (Contains mid.held) (Contains new.held) up xs first.all) second.all;
      kept = All-weaker (Contains mid.held) (Contains new.held) up old.held first.kept;
      others = All-weaker (λ w. Contains mid.held w ⊎ Contains ys w) (λ w. Contains old.held w ⊎ Contains (xs ++ ys) w) down new.held second.others;
      own = ap (λ (n : ℕ). own_of n new.held) (sym first.id) ∙ second.own ∙ ap (λ (n : ℕ). own_of n mid.held) first.id ∙ first.own;
      doubt = second.doubt ∙ first.doubt;
      id = second.id ∙ first.id;
      count = second.count ∙ first.count;
      limit = second.limit ∙ first.limit;
    }

module _ {D : Type 0} (d : Ghosts D) where
  one_taken : (old new : ServerState D) (given : Write) (took : Took) → TakesAt d old given (Ok took) new → TakesAllOf old.core (given ∷ []) new.core
  one_taken old new given Had takes = subst (TakesAllOf old.core (given ∷ [])) (sym takes.takes.1) (had old.core given takes.takes.0)
  one_taken old new given New takes =
      let is = takes.takes.2 in
      is_new old.core new.core given (ap (λ (c : Core). c.held) is) takes.takes.0.fit.foreign.foreign (ap (λ (c : Core). c.doubt) is) (ap (λ (c : Core). c.id) is) (ap (λ (c : Core). c.count) is)
      (ap (λ (c : Core). c.limit) is)

  each_taken : (old mid : ServerState D) (front : List Write) (tooks : List Took) → TakesEach (TakesAt d) old front tooks mid → TakesAllOf old.core front mid.core
  each_taken old mid [] [] same = subst (λ (s : ServerState D). TakesAllOf old.core [] s.core) (sym same) (none_taken old.core)
  each_taken old mid [] (took ∷ tooks) none = absurd none
  each_taken old mid (write ∷ front) [] none = absurd none
  each_taken old mid (write ∷ front) (took ∷ tooks) each =
      taken_on old.core each.0.core mid.core (write ∷ []) front (one_taken old each.0 write took each.1) (each_taken each.0 mid front tooks each.2)

  -- all that were given, where none was refused and none is left, or as many were taken as were given
  pub all_are_taken : (old new : ServerState D) (given left : List Write) (told : TookAll) → TakesAll (TakesAt d) old given left told new → told.refused ≡ None
      → (left ≡ []) ⊎ (told.taken + told.had ≡ length given) → TakesAllOf old.core given new.core
  all_are_taken old new given left told all none whole =
      let ends : TakingEnds (TakesAt d) all.mid given all.front left None new = subst (λ (fault : Option RefusedWrite). TakingEnds (TakesAt d) all.mid given all.front left fault new) none all.ends in
      let number = all_taken (TakesAt d) old all.mid all.front all.tooks all.each in
      let nothing : left ≡ [] = elim whole as (λ _. left ≡ []) [
        | inl nothing ↦ nothing
        | inr whole ↦ empty left (omega (arith, whole, all.taken, all.had, number, ap length ends.0, length-append all.front left))
      ] in
      let front : all.front ≡ given = sym (ends.0 ∙ ap (λ l. all.front ++ l) nothing ∙ append-nil all.front) in
      subst (λ (l : List Write). TakesAllOf old.core l new.core) front (subst (λ (s : ServerState D). TakesAllOf old.core all.front s.core) (sym ends.1) (each_taken old all.mid all.front all.tooks all.each))
    where
      empty : (left : List Write) → length left ≡ 0 → left ≡ []
      empty [] nothing = refl
      empty (write ∷ left) nothing = absurd (omega (arith, nothing))

-- ---- the answers of several

map_push : {A : Type 0} (f : A → ℕ) (xs : List A) (x : A) → map f (xs ++ x ∷ []) ≡ map f xs ++ f x ∷ []
map_push f [] x = refl
map_push f (y ∷ xs) x = ap (λ l. f y ∷ l) (map_push f xs x)

-- all that one peer more has was taken
pub from_more : (peers : List Peer) (at : ℕ) (d : Peer) (taken more : List TakenWhole) (one : TakenWhole) → AreFromEach (take at peers) taken → at < length peers → more ≡ taken ++ one ∷ []
    → one.peer ≡ (get_or peers at d).id.index → AreFromEach (take (at + 1) peers) more
from_more peers at d taken more one each within is same =
    let number : Peer → ℕ = λ peer. peer.id.index in
    let whose : TakenWhole → ℕ = λ one. one.peer in
    ap (map whose) is ∙ map_push whose taken one ∙ ap (λ l. l ++ one.peer ∷ []) each ∙ ap (λ (n : ℕ). map number (take at peers) ++ n ∷ []) same
    ∙ sym (map_push number (take at peers) (get_or peers at d)) ∙ ap (map number) (sym (take_more peers at d within))

length_map : {A : Type 0} (f : A → ℕ) (xs : List A) → length (map f xs) ≡ length xs
length_map f [] = refl
length_map f (x ∷ xs) = ap suc (length_map f xs)

-- as many as there are peers
pub as_many : (peers : List Peer) (taken : List TakenWhole) → AreFromEach peers taken → length taken ≡ length peers
as_many peers taken each = sym (length_map (λ (one : TakenWhole). one.peer) taken) ∙ ap length each ∙ length_map (λ (peer : Peer). peer.id.index) peers

-- one answer more
pub each_more : (old mid new : Core) (answers : List (List Write)) (answer : List Write) → TakesEachOf old answers mid → TakesAllOf mid answer new → TakesEachOf old (answers ++ answer ∷ []) new
each_more old mid new [] answer same last = (new, subst (λ (c : Core). TakesAllOf c answer new) same last, refl)
each_more old mid new (one ∷ answers) answer each last = (each.0, each.1, each_more each.0 mid new answers answer each.2 last)

-- what was answered, and taken, with one answer more
pub answers_more : (old mid new : Core) (taken more : List TakenWhole) (one : TakenWhole) (answer : List Write) → (answers : List (List Write)) × (length answers ≡ length taken) × TakesEachOf old answers mid
    → more ≡ taken ++ one ∷ [] → TakesAllOf mid answer new → (answers : List (List Write)) × (length answers ≡ length more) × TakesEachOf old answers new
answers_more old mid new taken more one answer (answers, number, each) is last =
    (answers ++ answer ∷ [], omega (arith, number, ap length is, length-append taken (one ∷ []), length-append answers (answer ∷ [])), each_more old mid new answers answer each last)

-- all of them
record TookEach (old : Core) (answers : List (List Write)) (new : Core) : Type 0 where
  all : All (λ answer. All (Contains new.held) answer) answers
  kept : All (Contains new.held) old.held
  others : All (λ write. Contains old.held write ⊎ Any (λ answer. Contains answer write) answers) new.held
  own : own_of old.id new.held ≡ own_of old.id old.held
  doubt : new.doubt ≡ old.doubt
  id : new.id ≡ old.id
  count : new.count ≡ old.count
  limit : new.limit ≡ old.limit

any_first : (answer : List Write) (answers : List (List Write)) (w : Write) → Contains answer w → Any (λ answer. Contains answer w) (answer ∷ answers)
any_first answer answers w there = (0, answer, omega (arith), refl, there)

any_later : (answer : List Write) (answers : List (List Write)) (w : Write) → Any (λ answer. Contains answer w) answers → Any (λ answer. Contains answer w) (answer ∷ answers)
any_later answer answers w (k, one, within, is, there) = (suc k, one, omega (arith, within), is, there)

took_each : (old new : Core) (answers : List (List Write)) → TakesEachOf old answers new → TookEach old answers new
took_each old new [] same = subst (TookEach old []) (sym same) (record {
  all = All-nil (λ answer. All (Contains old.held) answer);
  kept = All-contains_itself old.held;
  others = All-weaker (Contains old.held) (λ w. Contains old.held w ⊎ Any (λ answer. Contains answer w) []) (λ w there. inl there) old.held (All-contains_itself old.held);
  own = refl;
  doubt = refl;
  id = refl;
  count = refl;
  limit = refl;
})
took_each old new (answer ∷ answers) (mid, first, rest) =
    let behind = took_each mid new answers rest in
    let up : (w : Write) → Contains mid.held w → Contains new.held w = λ w there. All-contains (Contains new.held) mid.held w behind.kept there in
    let IsFrom : Write → Type 0 = λ w. Contains old.held w ⊎ Any (λ answer. Contains answer w) (answer ∷ answers) in
    let down : (w : Write) → (Contains mid.held w ⊎ Any (λ answer. Contains answer w) answers) → IsFrom w = λ w from. elim from as (λ _. IsFrom w) [
      | inl there ↦ elim (All-contains (λ w. Contains old.held w ⊎ Contains answer w) mid.held w first.others there) as (λ _. IsFrom w) [
        | inl was ↦ inl was
        | inr given ↦ inr (any_first answer answers w given)
      ]
      | inr later ↦ inr (any_later answer answers w later)
    ] in
    record {
      all = All-cons (λ answer. All (Contains new.held) answer) answer answers (All-weaker (Contains mid.held) (Contains new.held) up answer first.all) behind.all;
      kept = All-weaker (Contains mid.held) (Contains new.held) up old.held first.kept;
      others = All-weaker (λ w. Contains mid.held w ⊎ Any (λ answer. Contains answer w) answers) IsFrom down new.held behind.others;
      own = ap (λ (n : ℕ). own_of n new.held) (sym first.id) ∙ behind.own ∙ ap (λ (n : ℕ). own_of n mid.held) first.id ∙ first.own;
      doubt = behind.doubt ∙ first.doubt;
      id = behind.id ∙ first.id;
      count = behind.count ∙ first.count;
      limit = behind.limit ∙ first.limit;
    }

-- a server that was made again, and took what each of its peers answered
pub is_restoring : (plan : ServicePlan) (writes : List Write) (made core : Core) (answers : List (List Write)) (own_number : ℕ) → IsRemade plan writes made → TakesEachOf made answers core
    → length answers ≡ length plan.peers.items → own_number ≡ slice_index (count_of core.held) plan.id.index → IsRestoring plan writes own_number
is_restoring plan writes made core answers own_number remade each number counts =
    let took = took_each made core answers each in
    let from : (w : Write) → (Contains made.held w ⊎ Any (λ answer. Contains answer w) answers) → Any (λ answer. Contains answer w) (writes ∷ answers) = λ w one.
    elim one as (λ _. Any (λ answer. Contains answer w) (writes ∷ answers)) [
      | inl there ↦ any_first writes answers w (All-contains (Contains writes) made.held w remade.others there)
      | inr later ↦ any_later writes answers w later
    ] in
    record {
      core = core;
      answers = answers;
      number = number;
      all = took.all;
      others = All-weaker (λ w. Contains made.held w ⊎ Any (λ answer. Contains answer w) answers) (λ w. Any (λ answer. Contains answer w) (writes ∷ answers)) from core.held took.others;
      own = ap (λ (n : ℕ). own_of n core.held) (sym remade.id) ∙ took.own ∙ ap (λ (n : ℕ). own_of n made.held) remade.id ∙ remade.own;
      counts = counts;
      up = took.doubt ∙ remade.up;
      id = took.id ∙ remade.id;
      count = took.count ∙ remade.count;
      limit = took.limit ∙ remade.limit;
    }

-- the same, by how many were taken from
pub restoring_of : (plan : ServicePlan) (writes : List Write) (made core : Core) (peers : List Peer) (taken : List TakenWhole) (own_number : ℕ) → IsRemade plan writes made
    → (answers : List (List Write)) × (length answers ≡ length taken) × TakesEachOf made answers core → AreFromEach peers taken → peers ≡ plan.peers.items
    → own_number ≡ slice_index (count_of core.held) plan.id.index → IsRestoring plan writes own_number
restoring_of plan writes made core peers taken own_number remade (answers, number, each) from is counts =
    is_restoring plan writes made core answers own_number remade each (number ∙ as_many peers taken from ∙ ap length is) counts
