-- A server that takes, or makes, the Writes that are made of rows holds them then.
use Rattle.std.proofs.Common.{◌≡◌, ◌==◌, ◌⊎◌, inl, inr, ◌∙◌, ◌+◌, ◌<◌, ℕ, Bool, true, false, List, [], ◌∷◌, ◌++◌, Option, None, All, Contains, ap, arith, append_assoc, drop, length, length-append, refl, subst, sym}
use Rattle.std.proofs.lemmas.Bool.{eq-eqb}
use Rattle.std.proofs.lemmas.List.{append-nil}
use Rattle.std.proofs.lemmas.List.Elements.{All-contains, All-contains_itself, All-head, All-tail, All-weaker}
use Rattle.bayou_base.specs.Order.{is_before}
use Rattle.bayou_base.specs.declared.limits.TheConstants.{MAX_OPS}
use Rattle.bayou_device.specs.declared.device.Device.{Ghosts}
use Rattle.bayou_lang.specs.Laws.Fitting.{next_is_latest}
use Rattle.bayou_lang.specs.Laws.StampOrder.{is_before-asym}
use Rattle.bayou_lang.specs.Writes.{IsNextWrite}
use Rattle.bayou_lang.specs.declared.write.Write.{Write}
use Rattle.bayou_log.specs.Rows.{Row}
use Rattle.bayou_renew.specs.Inner.{HoldsThem}
use Rattle.bayou_renew.specs.Renewal.{AreMadeOf, ORIGIN}
use Rattle.bayou_renew.proofs.Made.{made-own}
use Rattle.bayou_restore.specs.Restoring.{Restores, own_of}
use Rattle.bayou_server.specs.Laws.TakesAll.{all_taken}
use Rattle.bayou_server.specs.Server.{Core, IsUp, ServerState}
use Rattle.bayou_server.specs.Stored.{IsStored}
use Rattle.bayou_server.specs.TakesAll.{TakesAll, TakesAt, TakesEach, TakingEnds}
use Rattle.bayou_server.specs.declared.answer.RefusedWrite.{RefusedWrite}
use Rattle.bayou_server.specs.declared.answer.Took.{Took}
use Rattle.bayou_server.specs.declared.answer.Took.TheVariants.{New, Had}
use Rattle.bayou_server.specs.declared.answer.TookAll.{TookAll}

-- the next Write of a server isn't held yet
next_is_new : (held : List Write) (write : Write) → IsNextWrite held ORIGIN write.program write → ¬ Contains held write
next_is_new held write next there =
    let before : is_before write.stamp write.stamp ≡ true = All-contains (λ (w : Write). is_before w.stamp write.stamp ≡ true) held write (next_is_latest held ORIGIN write.program write next) there in
    let not : is_before write.stamp write.stamp ≡ false = is_before-asym write.stamp write.stamp before in
    let both : true ≡ false = sym before ∙ not in
    absurd cc

module _ {D : Type 0} (d : Ghosts D) where
  -- the server holds these Writes more, and its journal has them
  record TakenOn (old : ServerState D) (writes : List Write) (new : ServerState D) : Type 0 where
    held : new.core.held ≡ old.core.held ++ writes
    doubt : new.core.doubt ≡ old.core.doubt
    id : new.core.id ≡ old.core.id
    count : new.core.count ≡ old.core.count
    stored : d.is_modelled → IsStored d old → IsStored d new

  none_on : (old : ServerState D) → TakenOn old [] old
  none_on old = record { held = sym (append-nil old.core.held); doubt = refl; id = refl; count = refl; stored = λ modelled stored. stored }

  one_on : (old mid new : ServerState D) (write : Write) (writes : List Write) → mid.core.held ≡ old.core.held ++ write ∷ [] → mid.core.doubt ≡ old.core.doubt → mid.core.id ≡ old.core.id
      → mid.core.count ≡ old.core.count → (d.is_modelled → IsStored d old → IsStored d mid) → TakenOn mid writes new → TakenOn old (write ∷ writes) new
  one_on old mid new write writes held doubt id count stored rest = record {
    held = rest.held ∙ ap (λ (l : List Write). l ++ writes) held ∙ append_assoc old.core.held (write ∷ []) writes;
    doubt = rest.doubt ∙ doubt;
    id = rest.id ∙ id;
    count = rest.count ∙ count;
    stored = λ modelled was. rest.stored modelled (stored modelled was);
  }

  each_on : (old new : ServerState D) (rows : List Row) (writes : List Write) (tooks : List Took) → AreMadeOf old.core.held rows writes → TakesEach (TakesAt d) old writes tooks new → TakenOn old writes new
  each_on old new rows [] [] made same = subst (λ (s : ServerState D). TakenOn old [] s) (sym same) (none_on old)
  each_on old new rows [] (took ∷ tooks) made none = absurd none
  each_on old new rows (write ∷ writes) [] made none = absurd none
  each_on old new rows (write ∷ writes) (New ∷ tooks) (some, next, puts, behind) (mid, takes, rest) =
      let is = takes.takes.2 in
      let held : mid.core.held ≡ old.core.held ++ write ∷ [] = ap (λ (c : Core). c.held) is in
      let made : AreMadeOf mid.core.held (drop MAX_OPS rows) writes = subst (λ (l : List Write). AreMadeOf l (drop MAX_OPS rows) writes) (sym held) behind in
      one_on old mid new write writes held (ap (λ (c : Core). c.doubt) is) (ap (λ (c : Core). c.id) is) (ap (λ (c : Core). c.count) is) takes.stored
      (each_on mid new (drop MAX_OPS rows) writes tooks made rest)
  each_on old new rows (write ∷ writes) (Had ∷ tooks) (some, next, puts, behind) (mid, takes, rest) = absurd (next_is_new old.core.held write next takes.takes.0)

  -- all that were given, where none was refused and none is left, or as many were taken as were given
  all_on : (old new : ServerState D) (rows : List Row) (given left : List Write) (told : TookAll) → AreMadeOf old.core.held rows given → TakesAll (TakesAt d) old given left told new → told.refused ≡ None
      → (left ≡ []) ⊎ (told.taken + told.had ≡ length given) → TakenOn old given new
  all_on old new rows given left told made all none whole =
      let ends : TakingEnds (TakesAt d) all.mid given all.front left None new = subst (λ (fault : Option RefusedWrite). TakingEnds (TakesAt d) all.mid given all.front left fault new) none all.ends in
      let number = all_taken (TakesAt d) old all.mid all.front all.tooks all.each in
      let nothing : left ≡ [] = elim whole as (λ _. left ≡ []) [
        | inl nothing ↦ nothing
        | inr whole ↦ empty left (omega (arith, whole, all.taken, all.had, number, ap length ends.0, length-append all.front left))
      ] in
      let front : given ≡ all.front = ends.0 ∙ ap (λ l. all.front ++ l) nothing ∙ append-nil all.front in
      let each : TakesEach (TakesAt d) old given all.tooks new =
      subst (λ (s : ServerState D). TakesEach (TakesAt d) old given all.tooks s) (sym ends.1) (subst (λ (l : List Write). TakesEach (TakesAt d) old l all.tooks all.mid) (sym front) all.each) in
      each_on old new rows given all.tooks made each
    where
      empty : (left : List Write) → length left ≡ 0 → left ≡ []
      empty [] nothing = refl
      empty (write ∷ left) nothing = absurd (omega (arith, nothing))

  -- and so of a server that held nothing
  pub holds_all : (old new : ServerState D) (rows : List Row) (given left : List Write) (told : TookAll) → old.core.held ≡ [] → AreMadeOf [] rows given → TakesAll (TakesAt d) old given left told new
      → told.refused ≡ None → (left ≡ []) ⊎ (told.taken + told.had ≡ length given) → HoldsThem old.core given new.core
  holds_all old new rows given left told empty made all none whole =
      let on = all_on old new rows given left told (subst (λ (l : List Write). AreMadeOf l rows given) (sym empty) made) all none whole in
      record { held = on.held ∙ ap (λ (l : List Write). l ++ given) empty; doubt = on.doubt; id = on.id; count = on.count }

  pub stores_all : (old new : ServerState D) (rows : List Row) (given left : List Write) (told : TookAll) → old.core.held ≡ [] → AreMadeOf [] rows given → TakesAll (TakesAt d) old given left told new
      → told.refused ≡ None → (left ≡ []) ⊎ (told.taken + told.had ≡ length given) → d.is_modelled → IsStored d old → IsStored d new
  stores_all old new rows given left told empty made all none whole =
      (all_on old new rows given left told (subst (λ (l : List Write). AreMadeOf l rows given) (sym empty) made) all none whole).stored

-- ---- a server that makes them

-- all of them are the server's own
own_all : (server : ℕ) (writes : List Write) → All (λ write. write.wid.origin.index ≡ server) writes → own_of server writes ≡ writes
own_all server [] own = refl
own_all server (write ∷ writes) own =
    let first : (write.wid.origin.index == server) ≡ true = eq-eqb write.wid.origin.index server (All-head (λ (w : Write). w.wid.origin.index ≡ server) write writes own) in
    rw first (ap (λ l. write ∷ l) (own_all server writes (All-tail (λ (w : Write). w.wid.origin.index ≡ server) write writes own)))

pub holds_made : (old new : Core) (rows : List Row) (writes : List Write) → IsUp old → old.id ≡ ORIGIN → AreMadeOf [] rows writes → Restores old writes new → HoldsThem old writes new
holds_made old new rows writes up id made restored =
    let IsOwn : Write → Type 0 = λ w. w.wid.origin.index ≡ old.id in
    let own : All IsOwn writes = subst (λ (n : ℕ). All (λ (w : Write). w.wid.origin.index ≡ n) writes) (sym id) (made-own rows writes made) in
    let held : All IsOwn new.held = All-weaker (λ w. Contains writes w) IsOwn (λ w there. All-contains IsOwn writes w own there) new.held restored.others in
    record {
      held = sym (own_all old.id new.held held) ∙ restored.own ∙ own_all old.id writes own;
      doubt = restored.up ∙ sym up;
      id = restored.id;
      count = restored.count;
    }
