use Rattle.std.proofs.Common.{◌≡◌, ◌≢◌, ◌==◌, ◌<◌, ◌+◌, ◌++◌, [], ◌∷◌, suc, ℕ, Bool, List, true, false, Contains, ap, arith, refl, drop, get_or, length, sym, ◌∙◌, subst, take}
use Rattle.std.proofs.lemmas.Bool.Decides.{Decides-eqb}
use Rattle.std.proofs.lemmas.List.{take_all, take_more}
use Rattle.std.proofs.lemmas.List.Elements.{Contains-get_or}
use Rattle.std.proofs.lemmas.Result.{err_from_is_err_and}
use Rattle.bayou_base.specs.declared.limits.TheConstants.{SERVERS}
use Rattle.bayou_base.specs.declared.wid.Wid.{Wid}
use Rattle.bayou_lang.specs.declared.write.Write.{Write}
use Rattle.bayou_lang.specs.Writes.{AreFitting}
use Rattle.bayou_device.specs.declared.device.Device.{Ghosts}
use Rattle.bayou_restore.specs.Gathering.{Gathering}
use Rattle.bayou_restore.specs.Inner.Steps.{MayComeNext}
use Rattle.bayou_restore.specs.Restoring.{IsHistory, IsOwnAmong}
use Rattle.bayou_restore.proofs.Whole.{Behind, begins, comes_next, ends_whole, goes_behind, goes_past, split_at, unmade_fails, untaken_fails}
use Rattle.bayou_server.specs.Server.{ServerState}
use Rattle.bayou_server.specs.Stored.{IsStored}
use Rattle.bayou_restore.proofs.restoring.restore.Goals as goal
use Rattle.bayou_restore.proofs.restoring.restore.Goals.{then-eq+in_ok-take_before+in_ok-make_again, else-eq}

empty : (held : List Write) (told : Bool) → told ≡ (length held == 0) → told ≡ true → held ≡ []
empty [] told is so = refl
empty (write ∷ held) told is so = absurd (let both : (length (write ∷ held) == 0) ≡ true = sym is ∙ so in let none = (Decides-eqb (length (write ∷ held)) 0).0 both in omega (arith, none))

-- the Write at a place of the list
record At (items writes : List Write) (k : ℕ) (write : Write) : Type 0 where
  split : writes ≡ take k items ++ write ∷ drop (suc k) items
  among : Contains writes write
  next : take k items ++ write ∷ [] ≡ take (k + 1) items

at_place : (items writes : List Write) (k : ℕ) (write e : Write) → items ≡ writes → k < length items → get_or items k e ≡ write → At items writes k write
at_place items writes k write e same within is = record {
  split = sym same ∙ split_at items k e within ∙ ap (λ (w : Write). take k items ++ w ∷ drop (suc k) items) is;
  among = subst (λ (l : List Write). Contains l write) same (subst (λ (w : Write). Contains items w) is (Contains-get_or items k e within));
  next = ap (λ (w : Write). take k items ++ w ∷ []) (sym is) ∙ sym (take_more items k e within);
}

-- what is so at the end of each turn
record Kept {D : Type 0} (d : Ghosts D) (gathering : Gathering) (old now : ServerState D) (made : List Write) : Type 0 where
  behind : Behind gathering old.core now.core made
  stored : d.is_modelled → IsStored d old → IsStored d now

kept_there : {D : Type 0} (d : Ghosts D) (gathering : Gathering) (old a b : ServerState D) (made : List Write) → Kept d gathering old a made → b ≡ a → Kept d gathering old b made
kept_there d gathering old a b made kept same = subst (λ (s : ServerState _). Kept d gathering old s made) (sym same) kept

pub loop-write-init : goal.loop-write-init
loop-write-init g c =
    let fitting = subst (AreFitting c.args.gathered.now.count) c.writes-write-items.ensures.value c.writes-write-items.ensures.fitting in
    let none = sym c.receipts.ensures.value ∙ empty c.receipts.result.now c.is_empty.result c.is_empty.ensures c.if-not-is_empty.false in
    record {
      behind = begins c.args.gathered.now c.args.server.now.core fitting c.receipts.ensures.sound c.requires.up c.requires.count none;
      stored = λ modelled stored. stored;
    }

pub returns-in_err-take_before-clause-restores : goal.returns-in_err-take_before-clause-restores
returns-in_err-take_before-clause-restores g c =
    let gathering = c.args.gathered.now in
    let old = c.args.server.now.core in
    let mid = c.loop-write.server.core in
    let items = c.writes-write-items.result.now in
    let write = c.write-item.result in
    let behind = c.loop-write.invariant.behind in
    let at : At items gathering.writes c.loop-write.write-index write = at_place items gathering.writes c.loop-write.write-index write _ c.writes-write-items.ensures.value (omega (arith, c.loop-write-test.true)) (sym c.write-item.is) in
    let origin : write.wid.origin.index ≡ mid.id = ap (λ (w : Wid). w.origin.index) (sym c.wid.ensures) ∙ (Decides-eqb c.wid.result.origin.index c.id.result.index).0 (sym c.eq.ensures ∙ c.if-eq.true) ∙ c.id.ensures.value in
    let known : old.id < SERVERS = omega (arith, c.id.result.in_range, c.id.ensures.value, behind.same.id) in
    let among : IsOwnAmong old.id gathering.writes write = (at.among, origin ∙ behind.same.id) in
    let next : IsHistory old.id gathering.writes → MayComeNext gathering.writes mid write =
    comes_next c.count_is_the_number_of_writes.ensures gathering old mid (take c.loop-write.write-index items) write (drop (suc c.loop-write.write-index) items) known behind at.split among in
    let p = err_from_is_err_and c.from_residual.result c.from_residual.ensures.1 in
    rw (p.1, p.2) (untaken_fails gathering old mid c.take_before.new.server.core write c.in_err-take_before.field-0.0 next c.in_err-take_before.ensures.takes)

pub make_again-requires : goal.make_again-requires
make_again-requires g c =
    let gathering = c.args.gathered.now in
    let mid = c.loop-write.server.core in
    let items = c.writes-write-items.result.now in
    let write = c.write-item.result in
    let at : At items gathering.writes c.loop-write.write-index write = at_place items gathering.writes c.loop-write.write-index write _ c.writes-write-items.ensures.value (omega (arith, c.loop-write-test.true)) (sym c.write-item.is) in
    let origin : write.wid.origin.index ≡ mid.id = ap (λ (w : Wid). w.origin.index) (sym c.wid.ensures) ∙ (Decides-eqb c.wid.result.origin.index c.id.result.index).0 (sym c.eq.ensures ∙ c.if-eq.true) ∙ c.id.ensures.value in
    record {
      stands = c.in_ok-take_before.ensures.takes.0;
      own = (at.among, origin ∙ sym c.in_ok-take_before.ensures.same.id);
      run = c.requires.run;
    }

pub returns-in_err-make_again-clause-restores : goal.returns-in_err-make_again-clause-restores
returns-in_err-make_again-clause-restores g c =
    let gathering = c.args.gathered.now in
    let old = c.args.server.now.core in
    let mid = c.loop-write.server.core in
    let items = c.writes-write-items.result.now in
    let write = c.write-item.result in
    let behind = c.loop-write.invariant.behind in
    let at : At items gathering.writes c.loop-write.write-index write = at_place items gathering.writes c.loop-write.write-index write _ c.writes-write-items.ensures.value (omega (arith, c.loop-write-test.true)) (sym c.write-item.is) in
    let origin : write.wid.origin.index ≡ mid.id = ap (λ (w : Wid). w.origin.index) (sym c.wid.ensures) ∙ (Decides-eqb c.wid.result.origin.index c.id.result.index).0 (sym c.eq.ensures ∙ c.if-eq.true) ∙ c.id.ensures.value in
    let known : old.id < SERVERS = omega (arith, c.id.result.in_range, c.id.ensures.value, behind.same.id) in
    let among : IsOwnAmong old.id gathering.writes write = (at.among, origin ∙ behind.same.id) in
    let next : IsHistory old.id gathering.writes → MayComeNext gathering.writes mid write =
    comes_next c.count_is_the_number_of_writes.ensures gathering old mid (take c.loop-write.write-index items) write (drop (suc c.loop-write.write-index) items) known behind at.split among in
    let p = err_from_is_err_and c.from_residual-in_err-make_again.result c.from_residual-in_err-make_again.ensures.1 in
    rw (p.1, p.2) (unmade_fails gathering old c.take_before.new.server.core c.make_again.new.server.core write c.in_err-make_again.field-0.0
    (λ history. c.in_ok-take_before.ensures.takes.3 (next history)) c.in_err-make_again.ensures.makes)

pub returns-clause-restores : goal.returns-clause-restores
returns-clause-restores g c =
    let gathering = c.args.gathered.now in
    let items = c.writes-write-items.result.now in
    let none = sym c.receipts.ensures.value ∙ empty c.receipts.result.now c.is_empty.result c.is_empty.ensures c.if-not-is_empty.false in
    let whole : take c.loop-write.write-index items ≡ gathering.writes = take_all c.loop-write.write-index items (omega (arith, c.loop-write-test.false)) ∙ c.writes-write-items.ensures.value in
    ends_whole gathering c.args.server.now.core c.loop-write.server.core none (subst (λ (l : List Write). Behind gathering c.args.server.now.core c.loop-write.server.core l) whole c.loop-write.invariant.behind)

pub returns-clause-stored : goal.returns-clause-stored
returns-clause-stored g c = c.loop-write.invariant.stored

pub loop-write-preserved : goal.loop-write-preserved
loop-write-preserved g c =
    let gathering = c.args.gathered.now in
    let old = c.args.server.now.core in
    let mid = c.loop-write.server.core in
    let items = c.writes-write-items.result.now in
    let write = c.write-item.result in
    let k = c.loop-write.write-index in
    let behind = c.loop-write.invariant.behind in
    let at : At items gathering.writes k write = at_place items gathering.writes k write _ c.writes-write-items.ensures.value (omega (arith, c.loop-write-test.true)) (sym c.write-item.is) in
    let named = ap (λ (w : Wid). w.origin.index) (sym c.wid.ensures) in
    let kept_all : Kept g.D.Device gathering c.args.server.now c.if-eq.server (take (k + 1) items) = elim c.if-eq.branch as (λ _. Kept g.D.Device gathering c.args.server.now c.if-eq.server (take (k + 1) items)) [
      | then-eq+in_ok-take_before+in_ok-make_again w ↦
          let origin : write.wid.origin.index ≡ mid.id = named ∙ (Decides-eqb c.wid.result.origin.index c.id.result.index).0 (sym c.eq.ensures ∙ w.if-eq.true) ∙ c.id.ensures.value in
          let among : IsOwnAmong old.id gathering.writes write = (at.among, origin ∙ behind.same.id) in
          let takes = w.in_ok-take_before.ensures.takes in
          let makes = w.in_ok-make_again.ensures.makes in
          let goes = goes_behind gathering old mid w.take_before.new.server.core w.make_again.new.server.core (take k items) write (drop (suc k) items) behind at.split among
          takes.1 w.in_ok-take_before.ensures.same w.in_ok-make_again.ensures.same makes.0 makes.1 makes.2 in
          let stored : g.D.Device.is_modelled → IsStored g.D.Device c.args.server.now → IsStored g.D.Device w.make_again.new.server =
          λ modelled stored. w.in_ok-make_again.ensures.stored modelled (w.in_ok-take_before.ensures.stored modelled (c.loop-write.invariant.stored modelled stored)) in
          let kept : Kept g.D.Device gathering c.args.server.now w.make_again.new.server (take (k + 1) items) =
          record { behind = subst (λ (l : List Write). Behind gathering old w.make_again.new.server.core l) at.next goes; stored = stored } in
          kept_there g.D.Device gathering c.args.server.now _ c.if-eq.server (take (k + 1) items) kept w.server-is
      | else-eq w ↦
          let other : write.wid.origin.index ≢ old.id = λ same.
          let yes = (Decides-eqb c.wid.result.origin.index c.id.result.index).1 (sym named ∙ same ∙ sym behind.same.id ∙ sym c.id.ensures.value) in
          let both : true ≡ false = sym (c.eq.ensures ∙ yes) ∙ w.if-eq.false in
          cc in
          let goes = goes_past gathering old mid (take k items) write behind other in
          let kept : Kept g.D.Device gathering c.args.server.now c.loop-write.server (take (k + 1) items) =
          record { behind = subst (λ (l : List Write). Behind gathering old mid l) at.next goes; stored = c.loop-write.invariant.stored } in
          kept_there g.D.Device gathering c.args.server.now _ c.if-eq.server (take (k + 1) items) kept w.server-is
    ] in
    record { behind = kept_all.behind; stored = kept_all.stored }
