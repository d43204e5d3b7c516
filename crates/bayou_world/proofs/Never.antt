-- What a server's own rules never answer in a run.
use Rattle.std.proofs.Common.{◌≡◌, inl, inr, ◌⊎◌, ℕ, List, [], Some, Result, Ok, Err, map, ap, sym, ◌∙◌, refl, subst}
use Rattle.std.specs.List.{slice_get}
use Rattle.std.specs.Option.{option_and_then, option_map}
use Rattle.std.proofs.lemmas.List.{append-nil}
use Rattle.std.proofs.lemmas.List.Elements.{All-contains}
use Rattle.std.proofs.lemmas.Option.{get_or_from_slice_get, slice_get_within}
use Rattle.bayou_device.specs.declared.device.Device.{Ghosts}
use Rattle.bayou_journal.specs.Versions.{Body}
use Rattle.bayou_lang.specs.declared.write.Write.{Write}
use Rattle.bayou_server.specs.declared.answer.Reopened.{Reopened}
use Rattle.bayou_server.specs.declared.answer.Took.{Took}
use Rattle.bayou_server.specs.declared.answer.Took.TheVariants.{New, Had}
use Rattle.bayou_server.specs.declared.fault.ReopenFault.{ReopenFault}
use Rattle.bayou_server.specs.declared.fault.ReopenFault.TheVariants as reopening
use Rattle.bayou_server.specs.declared.fault.TakeFault.{TakeFault}
use Rattle.bayou_server.specs.declared.fault.TakeFault.TheVariants as taking
use Rattle.bayou_server.specs.Server.{Core, ServerState, records_of}
use Rattle.bayou_server.specs.Stored.{BeginsWithHeld, ReopensJournal, Stores, records_with_doubt}
use Rattle.bayou_server.specs.Laws.Stored.{begins_with_held}
use Rattle.bayou_server.specs.Takes as takes
use Rattle.bayou_world.specs.declared.reply.Reply.TheVariants as replies
use Rattle.bayou_world.specs.Inner.Good.{IsGoodMachine, IsHome}
use Rattle.bayou_world.specs.Inner.Tie.{write_of}
use Rattle.bayou_world.specs.Invariant.{IsImpossible}
use Rattle.bayou_world.specs.Machine.{Machine, Made, ServerSets, tag_at, writes}
use Rattle.bayou_world.specs.Never.{FindsOthers, OpensHonestly, core_at}
use Rattle.bayou_world.specs.Steps.{IsGiven, TakeStep}
use Rattle.bayou_world.proofs.Given.{given_fits, no_gap_within}
use Rattle.bayou_world.proofs.Homes.{home_of_held, one_write}
use Rattle.bayou_world.proofs.Lists.{Contains-map_from, changed-same}
use Rattle.bayou_world.proofs.TiedItems.{is_missing, own_held, took}

never_taken : (machine : Machine) → IsGoodMachine machine → (place : ℕ) (made : Made) → IsHome machine.servers made → (answer : Result Took TakeFault) (new : Core)
    → takes.Takes (core_at machine place) made.write answer new → ¬ IsImpossible (replies.Took answer)
never_taken machine good place made home (Ok Had) new takes_it = λ no. no
never_taken machine good place made home (Ok New) new takes_it = λ no. no
never_taken machine good place made home (Err taking.Conflict) new (another, same) =
    let as_made = Contains-map_from (λ (m : Made). m.write) (machine.servers place).held another.other another.among in
    let other_home = home_of_held machine.count machine.limit machine.servers good.servers place as_made.0 as_made.1 in
    absurd (another.differs (one_write machine.count machine.limit machine.servers good.servers as_made.0 made another.other made.write other_home home as_made.2 refl another.name))
never_taken machine good place made home (Err taking.Down) new takes_it = λ no. no
never_taken machine good place made home (Err taking.OwnLost) new (missing, up, own, same) =
    absurd (is_missing (machine.servers place) made missing (own_held machine place made home own))
never_taken machine good place made home (Err taking.Gap) new takes_it = λ no. no
never_taken machine good place made home (Err taking.BadStamp) new (comes, none, wrong, same) =
    let within = no_gap_within machine.count machine.limit machine.servers good.servers place made home none in
    absurd (wrong (given_fits machine.count machine.limit machine.servers good.servers place made home (is_missing (machine.servers place) made comes.missing) within).1)
never_taken machine good place made home (Err taking.LogFull) new takes_it = λ no. no
never_taken machine good place made home (Err taking.OutOfMemory) new takes_it = λ no. no
never_taken machine good place made home (Err taking.Journal) new takes_it = λ no. no

pub no_item_is_refused : (machine : Machine) → IsGoodMachine machine → (place item : ℕ) (made : Made) → slice_get machine.items item ≡ Some made → (answer : Result Took TakeFault) (new : Core)
    → takes.Takes (core_at machine place) made.write answer new → ¬ IsImpossible (replies.Took answer)
no_item_is_refused machine good place item made got answer new takes_it =
    never_taken machine good place made
    (All-contains (IsHome machine.servers) machine.items made good.items (item, slice_get_within machine.items item made got, get_or_from_slice_get machine.items item made made got)) answer new takes_it

-- each answer of its rules is one of the machine, which leaves the same
pub rows_of_rules : (machine : Machine) → IsGoodMachine machine → (place item : ℕ) (made : Made) → IsGiven machine place item made → (answer : Result Took TakeFault) (new : Core)
    → takes.Takes (core_at machine place) made.write answer new → (next : Machine) × TakeStep machine place item (replies.Took answer) next × (new ≡ core_at next place)
rows_of_rules machine good place item made given answer new takes_it =
    let home = All-contains (IsHome machine.servers) machine.items made good.items (item, slice_get_within machine.items item made given.there, get_or_from_slice_get machine.items item made made given.there) in
    let found = took machine good place item made given home (core_at machine place) new answer (record { is = refl }) takes_it in
    let core_of : ServerSets → Core = λ server. record {
      id = place;
      count = machine.count;
      limit = machine.limit;
      held = writes server.held;
      tags = map (tag_at place) server.held;
      doubt = option_map write_of server.doubt;
      doubt_tag = option_and_then (tag_at place) server.doubt;
    } in (
      found.0,
      found.1,
      elim found.2 as (λ _. new ≡ core_at found.0 place) [
        | inl same ↦ same.1 ∙ ap (λ (m : Machine). core_at m place) (sym same.0)
        | inr other ↦ other.3.is ∙ ap core_of (sym (changed-same machine.servers place other.0)) ∙ ap (λ (m : Machine). core_at m place) (sym other.1)
      ],
    )

-- what is found begins with what was held
found_begins : (core : Core) (bodies : List Body) → Stores core.id bodies (records_of core) ⊎ ((doubt : Write) × (core.doubt ≡ Some doubt) × Stores core.id bodies (records_with_doubt core doubt))
    → BeginsWithHeld core.id (records_of core) bodies
found_begins core bodies (inl held) = record { front = bodies; more = []; stores = held; split = sym (append-nil bodies) }
found_begins core bodies (inr more) = begins_with_held core more.0 bodies more.2

some_write : (a b : Write) → Some a ≡ Some b → a ≡ b
some_write a b same = cc

pub nothing_other_is_found : (D : Type 0) (d : Ghosts D) (old new : ServerState D) (answer : Result Reopened ReopenFault) → OpensHonestly d old → ReopensJournal d old answer new → ¬ FindsOthers answer
nothing_other_is_found D d old new (Ok reopened) honest reopens = λ no. no
nothing_other_is_found D d old new (Err reopening.NotDown) honest reopens = λ no. no
nothing_other_is_found D d old new (Err (reopening.Journal fault)) honest reopens = λ no. no
nothing_other_is_found D d old new (Err reopening.Lost) honest (bodies, opens, lost) = absurd (lost (found_begins old.core bodies (honest new.device bodies new.last opens)))
nothing_other_is_found D d old new (Err (reopening.BadRecord at)) honest (doubt, is, (bodies, opens, other, fronts)) =
    elim (honest new.device bodies new.last opens) as (λ _. ¬ FindsOthers (Err (reopening.BadRecord at))) [
      | inl held ↦ absurd (other.not_held held)
      | inr more ↦
          let one : more.0 ≡ doubt = some_write more.0 doubt (sym more.1 ∙ is) in
          absurd (other.not_adopted (subst (λ w. Stores old.core.id bodies (records_with_doubt old.core w)) one more.2))
    ]
nothing_other_is_found D d old new (Err reopening.OutOfMemory) honest reopens = λ no. no
