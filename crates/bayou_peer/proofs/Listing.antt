-- A server that is lent to an engine tells what it holds.
use Rattle.std.proofs.Common.{◌≡◌, ◌+◌, ◌⊎◌, inl, inr, List, [], ◌∷◌, Option, None, Some, Result, Ok, Err, refl, ap, subst, arith, length, length-append}
use Rattle.bayou_device.specs.declared.device.Device.{Ghosts}
use Rattle.bayou_lang.specs.declared.write.Write.{Write}
use Rattle.bayou_peer.specs.Taking.{ListsTaken, TakenBy}
use Rattle.bayou_server.specs.Laws.TakesAll.{all_taken}
use Rattle.bayou_server.specs.Server.{Core, ServerState}
use Rattle.bayou_server.specs.Takes.{Takes}
use Rattle.bayou_server.specs.TakesAll.{TakesAll, TakesAt, TakesEach, TakingEnds}
use Rattle.bayou_server.specs.declared.answer.Took.{Took}
use Rattle.bayou_server.specs.declared.answer.Took.TheVariants.{New, Had}
use Rattle.bayou_server.specs.declared.answer.RefusedWrite.{RefusedWrite}
use Rattle.bayou_server.specs.declared.answer.TookAll.{TookAll}
use Rattle.bayou_server.specs.declared.fault.TakeFault.{TakeFault}
use Rattle.bayou_server.specs.declared.fault.TakeFault.TheVariants.{Conflict, Down, OwnLost, Gap, BadStamp, LogFull, OutOfMemory, Journal}

-- what is held after a Write was given
pub lists_taken : (old : Core) (given : Write) (answer : Result Took TakeFault) (new : Core) → Takes old given answer new → ListsTaken old.held given answer new.held
lists_taken old given (Ok New) new takes = (takes.0.fit.foreign.missing, ap (λ (core : Core). core.held) takes.2)
lists_taken old given (Ok Had) new takes = (takes.0, ap (λ (core : Core). core.held) takes.1)
lists_taken old given (Err Conflict) new takes = ap (λ (core : Core). core.held) takes.1
lists_taken old given (Err Down) new takes = ap (λ (core : Core). core.held) takes.2
lists_taken old given (Err OwnLost) new takes = ap (λ (core : Core). core.held) takes.3
lists_taken old given (Err Gap) new takes = ap (λ (core : Core). core.held) takes.2
lists_taken old given (Err BadStamp) new takes = ap (λ (core : Core). core.held) takes.3
lists_taken old given (Err LogFull) new takes = ap (λ (core : Core). core.held) takes.2
lists_taken old given (Err OutOfMemory) new takes = ap (λ (core : Core). core.held) takes.1
lists_taken old given (Err Journal) new takes = ap (λ (core : Core). core.held) takes.2

module _ {D : Type 0} (d : Ghosts D) where
  each_taken : (old new : ServerState D) (writes : List Write) (tooks : List Took) → TakesEach (TakesAt d) old writes tooks new
      → TakesEach (TakenBy (λ server. Some server.core.held) (TakesAt d)) old writes tooks new
  each_taken old new [] [] same = same
  each_taken old new [] (took ∷ tooks) none = absurd none
  each_taken old new (write ∷ writes) [] none = absurd none
  each_taken old new (write ∷ writes) (took ∷ tooks) each =
      (each.0, (each.1, lists_taken old.core write (Ok took) each.0.core each.1.takes), each_taken each.0 new writes tooks each.2)

  end_taken : (mid new : ServerState D) (given front left : List Write) (refused : Option RefusedWrite) → TakingEnds (TakesAt d) mid given front left refused new
      → TakingEnds (TakenBy (λ server. Some server.core.held) (TakesAt d)) mid given front left refused new
  end_taken mid new given front left None ends = ends
  end_taken mid new given front left (Some refused) ends = (ends.0, ends.1, (ends.2, lists_taken mid.core ends.0 (Err refused.fault) new.core ends.2.takes), ends.3)

  pub all_listed : (old new : ServerState D) (given left : List Write) (told : TookAll) → TakesAll (TakesAt d) old given left told new
      → TakesAll (TakenBy (λ server. Some server.core.held) (TakesAt d)) old given left told new
  all_listed old new given left told all = record {
    front = all.front;
    tooks = all.tooks;
    mid = all.mid;
    each = each_taken old all.mid all.front all.tooks all.each;
    taken = all.taken;
    had = all.had;
    ends = end_taken all.mid new given all.front left told.refused all.ends;
  }

-- nothing is left where as many were taken as there were
pub none_left : {S : Type 0} (takes : S → Write → Result Took TakeFault → S → Type 0) (old new : S) (given left : List Write) (told : TookAll) → TakesAll takes old given left told new
    → told.refused ≡ None → (left ≡ []) ⊎ (told.taken + told.had ≡ length given) → left ≡ []
none_left takes old new given left told all none (inl nothing) = nothing
none_left {S} takes old new given left told all none (inr whole) =
    let ends : TakingEnds takes all.mid given all.front left None new = subst (λ fault. TakingEnds takes all.mid given all.front left fault new) none all.ends in
    let number = all_taken takes old all.mid all.front all.tooks all.each in
    empty left (omega (arith, whole, all.taken, all.had, number, ap length ends.0, length-append all.front left))
  where
    empty : (left : List Write) → length left ≡ 0 → left ≡ []
    empty [] nothing = refl
    empty (write ∷ left) nothing = absurd (omega (arith, nothing))
