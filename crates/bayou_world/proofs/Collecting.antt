-- What servers hold and what is in flight only grows, and so the items of one Collect can be taken in their order.
use Rattle.std.proofs.Common.{◌≡◌, ◌≢◌, inl, inr, ◌⊎◌, ℕ, zero, suc, ◌+◌, ◌<◌, true, false, List, [], ◌∷◌, ◌++◌, None, Some, Result, Err, length, get_or, Contains, AllPairs, slice_index, ap, sym, ◌∙◌, refl, subst, arith}
use Rattle.std.specs.List.{slice_get}
use Rattle.std.proofs.lemmas.Bool.{cases_lt}
use Rattle.std.proofs.lemmas.List.{append-nil, append_assoc}
use Rattle.std.proofs.lemmas.List.Elements.{All-contains, Contains-append_left}
use Rattle.std.proofs.lemmas.Option.{get_or_from_slice_get, slice_get-get_or, slice_get_within}
use Rattle.bayou_base.specs.declared.wid.Wid.{Wid}
use Rattle.bayou_base.specs.Order.{is_before}
use Rattle.bayou_lang.specs.declared.program.Program.{Program}
use Rattle.bayou_lang.specs.declared.write.Write.{Write}
use Rattle.bayou_lang.specs.Laws.StampOrder.{is_before-asym}
use Rattle.bayou_lang.specs.Laws.Fitting.{fitting-front}
use Rattle.bayou_lang.specs.Writes.{AreFitting, count_of}
use Rattle.bayou_judge.specs.History.{IsFrontOf}
use Rattle.bayou_server.specs.declared.answer.Written.{Written}
use Rattle.bayou_server.specs.declared.fault.TakeFault.TheVariants as taking
use Rattle.bayou_server.specs.declared.fault.WriteFault.{WriteFault}
use Rattle.bayou_world.specs.declared.event.Event.{Event}
use Rattle.bayou_world.specs.declared.event.Event.TheVariants as events
use Rattle.bayou_world.specs.declared.reply.Reply.{Reply}
use Rattle.bayou_world.specs.declared.reply.Reply.TheVariants as replies
use Rattle.bayou_world.specs.Inner.Good.{IsGoodMachine}
use Rattle.bayou_world.specs.Machine.{Asking, IsWithin, Machine, Made, Offered, ServerSets, SessionSets, names, writes}
use Rattle.bayou_world.specs.Runs.{Run}
use Rattle.bayou_world.specs.Steps.{AgainStep, AreLacking, AskStep, CollectStep, DeliverStep, FileStep, FuseStep, HoldsName, LoseStep, OfferStep, ReadStep, RefusesItem, ReopenStep, RestartStep, Step, TakeStep, WriteStep, first_asking}
use Rattle.bayou_world.proofs.Growing.{HaveGrown, grown_by_doubt, grown_by_recovery, grown_by_stop, grown_by_write}
use Rattle.bayou_world.proofs.Homes.{fitting_at, home_of_held, past_is_before, past_is_had}
use Rattle.bayou_world.proofs.Lists.{Contains-map, Contains-map_from}
use Rattle.bayou_world.proofs.Vectors.{named}

-- the servers hold what they held, and the items have their numbers
record HasGrown (old new : Machine) : Type 0 where
  servers : HaveGrown old.servers new.servers
  items : (later : List Made) × (new.items ≡ old.items ++ later)

same_grown : (old new : Machine) → new ≡ old → HasGrown old new
same_grown old new same = subst (HasGrown old) (sym same) (record {
  servers = λ place. ([], sym (append-nil (old.servers place).held));
  items = ([], sym (append-nil old.items));
})

-- servers and items stay
stays : (old new is : Machine) → new ≡ is → is.servers ≡ old.servers → is.items ≡ old.items → HasGrown old new
stays old new is same servers items = subst (HasGrown old) (sym same) (record {
  servers = λ place. ([], ap (λ (s : ServerSets). s.held) (ap (λ (f : ℕ → ServerSets). f place) servers) ∙ sym (append-nil (old.servers place).held));
  items = ([], items ∙ sym (append-nil old.items));
})

grows : (old new is : Machine) → new ≡ is → HaveGrown old.servers is.servers → is.items ≡ old.items → HasGrown old new
grows old new is same servers items = subst (HasGrown old) (sym same) (record { servers = servers; items = ([], items ∙ sym (append-nil old.items)) })

grown_by_read : (old : Machine) (who place : ℕ) (key : List ℕ) (reply : Reply) (new : Machine) → ReadStep old who place key reply new → HasGrown old new
grown_by_read old who place key reply new (ReadStep.skipped cannot is same) = same_grown old new same
grown_by_read old who place key reply new (ReadStep.behind session entry may not_may is entry_is same) = stays old new _ same refl refl
grown_by_read old who place key reply new (ReadStep.served session entry seen may covered value vector is entry_is same) = stays old new _ same refl refl

grown_by_asking : (old : Machine) (who : ℕ) (session : SessionSets) (asking : Asking) (answer : Result Written WriteFault) (new : Machine) → AskStep old who session asking answer new → HasGrown old new
grown_by_asking old who session asking answer new (AskStep.refused entry fault refused is entry_is same) = stays old new _ same refl refl
grown_by_asking old who session asking answer new (AskStep.doubted entry made makes is entry_is same) = grows old new _ same (grown_by_doubt old.servers asking.server made) refl
grown_by_asking old who session asking answer new (AskStep.accepted entry made accepted makes told_is is entry_is same) = grows old new _ same (grown_by_write old.servers asking.server made) refl

grown_by_program : (old : Machine) (who place : ℕ) (program : Program) (reply : Reply) (new : Machine) → WriteStep old who place program reply new → HasGrown old new
grown_by_program old who place program reply new (WriteStep.skipped cannot is same) = same_grown old new same
grown_by_program old who place program reply new (WriteStep.asked session answer may asks is) = grown_by_asking old who session (first_asking place session program) answer new asks

grown_by_repeat : (old : Machine) (who : ℕ) (reply : Reply) (new : Machine) → AgainStep old who reply new → HasGrown old new
grown_by_repeat old who reply new (AgainStep.skipped cannot is same) = same_grown old new same
grown_by_repeat old who reply new (AgainStep.known session asking entry made accepted may holds told_is is entry_is same) = stays old new _ same refl refl
grown_by_repeat old who reply new (AgainStep.asked session asking answer may none asks is) = grown_by_asking old who session asking answer new asks

grown_by_delivery : (old : Machine) (who : ℕ) (reply : Reply) (new : Machine) → DeliverStep old who reply new → HasGrown old new
grown_by_delivery old who reply new (DeliverStep.skipped none is same) = same_grown old new same
grown_by_delivery old who reply new (DeliverStep.delivered session answered flies is same) = stays old new _ same refl refl

grown_by_loss : (old : Machine) (who : ℕ) (reply : Reply) (new : Machine) → LoseStep old who reply new → HasGrown old new
grown_by_loss old who reply new (LoseStep.skipped none is same) = same_grown old new same
grown_by_loss old who reply new (LoseStep.dropped session answered flies is same) = stays old new _ same refl refl

grown_by_offer : (old : Machine) (place : ℕ) (reply : Reply) (new : Machine) → OfferStep old place reply new → HasGrown old new
grown_by_offer old place reply new (OfferStep.skipped none is same) = same_grown old new same
grown_by_offer old place reply new (OfferStep.kept known few is same) = stays old new _ same refl refl

grown_by_collect : (old : Machine) (place offer : ℕ) (reply : Reply) (new : Machine) → CollectStep old place offer reply new → HasGrown old new
grown_by_collect old place offer reply new (CollectStep.skipped none is same) = same_grown old new same
grown_by_collect old place offer reply new (CollectStep.no_memory maker database one known there has lacks is same) = same_grown old new same
grown_by_collect old place offer reply new (CollectStep.flown offered lacking may is same) =
    subst (HasGrown old) (sym same) (record { servers = λ place. ([], sym (append-nil (old.servers place).held)); items = (lacking, refl) })

grown_by_take : (old : Machine) (place item : ℕ) (reply : Reply) (new : Machine) → TakeStep old place item reply new → HasGrown old new
grown_by_take old place item reply new (TakeStep.skipped none is same) = same_grown old new same
grown_by_take old place item reply new (TakeStep.had made given holds is same) = same_grown old new same
grown_by_take old place item reply new (TakeStep.refused made fault given refused is same) = same_grown old new same
grown_by_take old place item reply new (TakeStep.doubted made given next room is same) = grows old new _ same (grown_by_doubt old.servers place made) refl
grown_by_take old place item reply new (TakeStep.taken made given next room is same) = grows old new _ same (grown_by_write old.servers place made) refl

grown_by_file : (old : Machine) (who : ℕ) (reply : Reply) (new : Machine) → FileStep old who reply new → HasGrown old new
grown_by_file old who reply new (FileStep.skipped none is same) = same_grown old new same
grown_by_file old who reply new (FileStep.filed session entry later may is same) = stays old new _ same refl refl

grown_by_fuse : (old : Machine) (place call : ℕ) (reply : Reply) (new : Machine) → FuseStep old place call reply new → HasGrown old new
grown_by_fuse old place call reply new (FuseStep.skipped none is same) = same_grown old new same
grown_by_fuse old place call reply new (FuseStep.fused known some is same) = same_grown old new same

grown_by_reopening : (old : Machine) (place : ℕ) (reply : Reply) (new : Machine) → ReopenStep old place reply new → HasGrown old new
grown_by_reopening old place reply new (ReopenStep.skipped none is same) = same_grown old new same
grown_by_reopening old place reply new (ReopenStep.refused fault runs refused is same) = same_grown old new same
grown_by_reopening old place reply new (ReopenStep.reopened adopted server runs down recovers is same) = grows old new _ same (grown_by_recovery old.servers place adopted server recovers) refl

grown_by_restart : (old : Machine) (place : ℕ) (reply : Reply) (new : Machine) → RestartStep old place reply new → HasGrown old new
grown_by_restart old place reply new (RestartStep.skipped none is same) = same_grown old new same
grown_by_restart old place reply new (RestartStep.refused fault known refused is same) = grows old new _ same (grown_by_stop old.servers place) refl
grown_by_restart old place reply new (RestartStep.restarted adopted server known recovers is same) = grows old new _ same (grown_by_recovery old.servers place adopted server recovers) refl

grown_by_step : (old : Machine) (event : Event) (reply : Reply) (new : Machine) → Step old event reply new → HasGrown old new
grown_by_step old (events.Read session server key) reply new step = grown_by_read old session.index server.index key reply new step
grown_by_step old (events.Write session server program) reply new step = grown_by_program old session.index server.index program reply new step
grown_by_step old (events.Again session) reply new step = grown_by_repeat old session.index reply new step
grown_by_step old (events.Deliver session) reply new step = grown_by_delivery old session.index reply new step
grown_by_step old (events.Lose session) reply new step = grown_by_loss old session.index reply new step
grown_by_step old (events.Offer server) reply new step = grown_by_offer old server.index reply new step
grown_by_step old (events.Collect server offer) reply new step = grown_by_collect old server.index offer reply new step
grown_by_step old (events.Take server item) reply new step = grown_by_take old server.index item reply new step
grown_by_step old (events.Fuse server call front) reply new step = grown_by_fuse old server.index call reply new step
grown_by_step old (events.Reopen server) reply new step = grown_by_reopening old server.index reply new step
grown_by_step old (events.Restart server) reply new step = grown_by_restart old server.index reply new step
grown_by_step old (events.File session) reply new step = grown_by_file old session.index reply new step

both_grown : (old mid new : Machine) → HasGrown old mid → HasGrown mid new → HasGrown old new
both_grown old mid new one two = record {
  servers = λ place. (
    (one.servers place).0 ++ (two.servers place).0,
    (two.servers place).1 ∙ ap (λ list. list ++ (two.servers place).0) (one.servers place).1 ∙ append_assoc (old.servers place).held (one.servers place).0 (two.servers place).0,
  );
  items = (one.items.0 ++ two.items.0, two.items.1 ∙ ap (λ list. list ++ two.items.0) one.items.1 ∙ append_assoc old.items one.items.0 two.items.0);
}

grown_by_run : (old : Machine) (events : List Event) (replies : List Reply) (new : Machine) → Run old events replies new → HasGrown old new
grown_by_run old [] [] new run = same_grown old new run
grown_by_run old [] (reply ∷ replies) new run = absurd run
grown_by_run old (event ∷ events) [] new run = absurd run
grown_by_run old (event ∷ events) (reply ∷ replies) new (mid, step, rest) =
    both_grown old mid new (grown_by_step old event reply mid step) (grown_by_run mid events replies new rest)

-- ---- items in their order

slice_get-left : {X : Type 0} (xs later : List X) (at : ℕ) (x : X) → slice_get xs at ≡ Some x → slice_get (xs ++ later) at ≡ Some x
slice_get-left [] later at x got = let none : None ≡ Some x = got in absurd (cc)
slice_get-left (y ∷ xs) later zero x got = got
slice_get-left (y ∷ xs) later (suc at) x got = slice_get-left xs later at x got

slice_get-middle : {X : Type 0} (front xs later : List X) (at place : ℕ) (x : X) → place ≡ length front + at → slice_get xs at ≡ Some x → slice_get ((front ++ xs) ++ later) place ≡ Some x
slice_get-middle [] xs later at place x is got =
    let same : at ≡ place = omega (arith, is) in subst (λ n. slice_get (xs ++ later) n ≡ Some x) same (slice_get-left xs later at x got)
slice_get-middle (y ∷ front) xs later at zero x is got = absurd (omega (arith, is))
slice_get-middle (y ∷ front) xs later at (suc place) x is got = slice_get-middle front xs later at place x (omega (arith, is)) got

some_is : (a b : Offered) → Some a ≡ Some b → a ≡ b
some_is a b same = cc

-- in stamp order, one that is before another stands before it
stands_before : (lacking : List Made) → AllPairs (λ (a b : Made). is_before a.write.stamp b.write.stamp ≡ true) lacking → (i j : ℕ) (a b : Made)
    → slice_get lacking i ≡ Some a → slice_get lacking j ≡ Some b → is_before a.write.stamp b.write.stamp ≡ true → i < j
stands_before lacking in_order i j a b at_i at_j before =
    let within_i = slice_get_within lacking i a at_i in
    let is_i : get_or lacking i a ≡ a = get_or_from_slice_get lacking i a a at_i in
    let is_j : get_or lacking j a ≡ b = get_or_from_slice_get lacking j b a at_j in
    let back : is_before b.write.stamp a.write.stamp ≡ false = is_before-asym a.write.stamp b.write.stamp before in
    elim (cases_lt i j) as (λ _. i < j) [
      | inl less ↦ less
      | inr not_less ↦ elim (cases_lt j i) as (λ _. i < j) [
        | inl more ↦
            let there : is_before b.write.stamp a.write.stamp ≡ true =
            subst (λ (m : Made). is_before m.write.stamp a.write.stamp ≡ true) is_j
            (subst (λ (m : Made). is_before (get_or lacking j a).write.stamp m.write.stamp ≡ true) is_i (in_order j i a more within_i)) in
            let both : true ≡ false = sym there ∙ back in absurd (cc)
        | inr not_more ↦
            let same : i ≡ j = omega (arith, not_less, not_more) in
            let one : a ≡ b = sym is_i ∙ ap (λ n. get_or lacking n a) same ∙ is_j in
            let self : is_before a.write.stamp a.write.stamp ≡ true = subst (λ (m : Made). is_before a.write.stamp m.write.stamp ≡ true) (sym one) before in
            let no : is_before a.write.stamp a.write.stamp ≡ false = is_before-asym a.write.stamp a.write.stamp self in
            let both : true ≡ false = sym self ∙ no in absurd (cc)
      ]
    ]

-- a list has a name or hasn't
has_or_not : (count : ℕ) (list : List Write) (name : Wid) → AreFitting count list → Contains (names list) name ⊎ (¬ Contains (names list) name)
has_or_not count list name fitting =
    let law = named count list name fitting in
    elim (cases_lt (slice_index (count_of list) name.origin.index) name.seq) as (λ _. Contains (names list) name ⊎ (¬ Contains (names list) name)) [
      | inl beyond ↦ inr (λ has. absurd (omega (arith, beyond, law.0 has)))
      | inr covered ↦ inl (law.1 (omega (arith, covered)))
    ]

-- The past of an item is held by whoever made the offer, once the items before it are.
past_is_held : (old now : Machine) → IsGoodMachine old → (place by : ℕ) (offered : List Write) (lacking : List Made) → IsFrontOf (writes (old.servers by).held) offered
    → AreLacking offered (old.servers place).held lacking → HaveGrown old.servers now.servers → (at : ℕ) (made : Made) → slice_get lacking at ≡ Some made
    → ((earlier : ℕ) (other : Made) → earlier < at → slice_get lacking earlier ≡ Some other → HoldsName (now.servers by) other)
    → IsWithin (names made.past) (names (writes (now.servers by).held))
past_is_held old now good place by offered lacking front are grown at made got taken name has =
    let servers = old.servers in
    let held = (servers place).held in
    let in_lacking : Contains lacking made = (at, slice_get_within lacking at made got, get_or_from_slice_get lacking at made made got) in
    let in_held = ((are.those made).0 in_lacking).0 in
    let home = home_of_held old.count old.limit servers good.servers place made in_held in
    let in_past = Contains-map_from (λ (w : Write). w.wid) made.past name has in
    let write = in_past.0 in
    let in_writes = past_is_had old.count old.limit servers good.servers made home place (writes held) ([], sym (append-nil (writes held)))
    (Contains-map (λ (m : Made). m.write) held made in_held) write in_past.1 in
    let earlier = Contains-map_from (λ (m : Made). m.write) held write in_writes in
    let other = earlier.0 in
    let name_is : other.write.wid ≡ name = ap (λ (w : Write). w.wid) earlier.2 ∙ in_past.2 in
    let fitting_by = fitting_at old.count old.limit servers good.servers by in
    let fitting_offered : AreFitting old.count offered = fitting-front old.count offered front.0 (subst (AreFitting old.count) front.1 fitting_by) in
    let before : is_before other.write.stamp made.write.stamp ≡ true =
    subst (λ (w : Write). is_before w.stamp made.write.stamp ≡ true) (sym earlier.2) (past_is_before old.count old.limit servers good.servers made home write in_past.1) in
    elim (has_or_not old.count offered name fitting_offered) as (λ _. Contains (names (writes (now.servers by).held)) name) [
      | inl offers ↦
          let was = Contains-map_from (λ (w : Write). w.wid) offered name offers in
          let then_held : Contains (writes (servers by).held) was.0 = subst (λ list. Contains list was.0) (sym front.1) (Contains-append_left offered front.0 was.0 was.1) in
          let as_made = Contains-map_from (λ (m : Made). m.write) (servers by).held was.0 then_held in
          let still : Contains (now.servers by).held as_made.0 = subst (λ list. Contains list as_made.0) (sym (grown by).1) (Contains-append_left (servers by).held (grown by).0 as_made.0 as_made.1) in
          let named_still = Contains-map (λ (w : Write). w.wid) (writes (now.servers by).held) as_made.0.write (Contains-map (λ (m : Made). m.write) (now.servers by).held as_made.0 still) in
          subst (Contains (names (writes (now.servers by).held))) (ap (λ (w : Write). w.wid) as_made.2 ∙ was.2) named_still
      | inr hasnt ↦
          let lacks = (are.those other).1 (earlier.1, λ offers. hasnt (subst (Contains (names offered)) name_is offers)) in
          let other_at : slice_get lacking lacks.0 ≡ Some other = slice_get-get_or lacking lacks.0 other lacks.1 ∙ ap Some lacks.2 in
          let less = stands_before lacking are.in_order lacks.0 at other made other_at got before in
          subst (Contains (names (writes (now.servers by).held))) name_is (taken lacks.0 other less other_at)
    ]

-- An item of a Collect isn't refused for a gap, where those before it are held.
pub no_gap : (old next now : Machine) → IsGoodMachine old → (place offer number by : ℕ) (offered : List Write) → slice_get old.offers offer ≡ Some (record { server = by; database = offered })
    → CollectStep old place offer (replies.Flown (length old.items) number) next → (events : List Event) (told : List Reply) → Run next events told now
    → (at : ℕ) → at < number → ((earlier : ℕ) (made : Made) → earlier < at → slice_get now.items (length old.items + earlier) ≡ Some made → HoldsName (now.servers by) made)
    → (reply : Reply) (last : Machine) → TakeStep now by (length old.items + at) reply last → reply ≢ replies.Took (Err taking.Gap)
no_gap old next now good place offer number by offered there (CollectStep.skipped cannot is same) events told run at less taken reply last takes = absurd (cc)
no_gap old next now good place offer number by offered there (CollectStep.no_memory maker database one known offers has lacks is same) events told run at less taken reply last takes = absurd (cc)
no_gap old next now good place offer number by offered there (CollectStep.flown same_offered lacking may is same) events told run at less taken reply last takes =
    let grown_next = subst (HasGrown old) (sym same) (record { servers = λ p. ([], sym (append-nil (old.servers p).held)); items = (lacking, refl) }) in
    let all_grown = both_grown old next now grown_next (grown_by_run next events told now run) in
    let from_next = grown_by_run next events told now run in
    let items : now.items ≡ (old.items ++ lacking) ++ from_next.items.0 = from_next.items.1 ∙ ap (λ (m : Machine). m.items ++ from_next.items.0) same in
    let one_offer : Offered = record { server = may.by; database = same_offered } in
    let that_offer : Offered = record { server = by; database = offered } in
    let offers_are : same_offered ≡ offered = ap (λ (o : Offered). o.database) (some_is one_offer that_offer (sym may.there ∙ there)) in
    let as_many : number ≡ length lacking = cc in
    let within : at < length lacking = omega (arith, less, as_many) in
    let front = All-contains (λ (o : Offered). IsFrontOf (writes (old.servers o.server).held) o.database) old.offers that_offer good.offers
    (offer, slice_get_within old.offers offer that_offer there, get_or_from_slice_get old.offers offer that_offer that_offer there) in
    let are = subst (λ list. AreLacking list (old.servers place).held lacking) offers_are may.those in
    let item : (i : ℕ) (made : Made) → slice_get lacking i ≡ Some made → slice_get now.items (length old.items + i) ≡ Some made =
    λ i made got. subst (λ list. slice_get list (length old.items + i) ≡ Some made) (sym items) (slice_get-middle old.items lacking from_next.items.0 i (length old.items + i) made refl got) in
    past_held takes (λ made got. past_is_held old now good place by offered lacking front are all_grown.servers at made got
    (λ earlier other before got_other. taken earlier other before (item earlier other got_other))) (λ made got. get_lacking within item made got)
  where
    past_held : TakeStep now by (length old.items + at) reply last → ((made : Made) → slice_get lacking at ≡ Some made → IsWithin (names made.past) (names (writes (now.servers by).held)))
        → ((made : Made) → slice_get now.items (length old.items + at) ≡ Some made → slice_get lacking at ≡ Some made) → reply ≢ replies.Took (Err taking.Gap)
    past_held (TakeStep.skipped none told_is new_is) held back = λ gap. absurd (cc)
    past_held (TakeStep.had made given holds told_is new_is) held back = λ gap. absurd (cc)
    past_held (TakeStep.refused made fault given refused told_is new_is) held back = λ gap.
        let fault_is : fault ≡ taking.Gap = cc in
        let refuses = subst (RefusesItem now.limit (now.servers by) made) fault_is refused in
        refuses.1 (held made (back made given.there))
    past_held (TakeStep.doubted made given fresh room told_is new_is) held back = λ gap. absurd (cc)
    past_held (TakeStep.taken made given fresh room told_is new_is) held back = λ gap. absurd (cc)

    get_lacking : at < length lacking → ((i : ℕ) (made : Made) → slice_get lacking i ≡ Some made → slice_get now.items (length old.items + i) ≡ Some made)
        → (made : Made) → slice_get now.items (length old.items + at) ≡ Some made → slice_get lacking at ≡ Some made
    get_lacking within item made got =
        let here : slice_get lacking at ≡ Some (get_or lacking at made) = slice_get-get_or lacking at made within in
        let both : Some (get_or lacking at made) ≡ Some made = sym (item at (get_or lacking at made) here) ∙ got in
        here ∙ both

-- ---- along a run

pub held_on : (old new : Machine) (events : List Event) (replies : List Reply) → Run old events replies new → (place : ℕ) → (later : List Made) × ((new.servers place).held ≡ (old.servers place).held ++ later)
held_on old new events told run = (grown_by_run old events told new run).servers

pub items_on : (old new : Machine) (events : List Event) (replies : List Reply) → Run old events replies new → (later : List Made) × (new.items ≡ old.items ++ later)
items_on old new events told run = (grown_by_run old events told new run).items

pub names_on : (old new : Machine) (events : List Event) (replies : List Reply) → Run old events replies new → (place : ℕ) (made : Made) → HoldsName (old.servers place) made → HoldsName (new.servers place) made
names_on old new events told run place made holds =
    let grown = held_on old new events told run place in
    let write = Contains-map_from (λ (w : Write). w.wid) (writes (old.servers place).held) made.write.wid holds in
    let one = Contains-map_from (λ (m : Made). m.write) (old.servers place).held write.0 write.1 in
    let still : Contains (new.servers place).held one.0 = subst (λ list. Contains list one.0) (sym grown.1) (Contains-append_left (old.servers place).held grown.0 one.0 one.1) in
    let named = Contains-map (λ (w : Write). w.wid) (writes (new.servers place).held) one.0.write (Contains-map (λ (m : Made). m.write) (new.servers place).held one.0 still) in
    subst (Contains (names (writes (new.servers place).held))) (ap (λ (w : Write). w.wid) one.2 ∙ write.2) named
