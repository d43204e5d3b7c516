-- A server behind its lock is given several Writes, one after another.
use Rattle.std.specs.Prelude.{is_some}
use Rattle.std.proofs.Common.{false, ◌≡◌, List, [], ◌∷◌, ◌++◌, Option, None, Some, Result, Ok, Err, refl, sym, ap, ◌∙◌, subst, arith, append_assoc, append-nil}
use Rattle.bayou_lang.specs.declared.write.Write.{Write}
use Rattle.bayou_node.specs.Answers.{MayBeKept, TakesAtNode}
use Rattle.bayou_node.specs.Books.{Begun, Booked, IsExact, IsServerOf, StillHolds}
use Rattle.bayou_node.proofs.Keeps.{taking_keeps}
use Rattle.bayou_server.specs.Server.{Core, ServerState, own_count}
use Rattle.bayou_server.specs.Takes.{Takes}
use Rattle.bayou_server.specs.TakesAll.{TakesAll, TakesEach, TakingEnds}
use Rattle.bayou_server.specs.Several.{TakesHeld}
use Rattle.bayou_server.specs.declared.answer.Took.{Took}
use Rattle.bayou_server.specs.declared.answer.Took.TheVariants.{New, Had}
use Rattle.bayou_server.specs.declared.answer.RefusedWrite.{RefusedWrite}
use Rattle.bayou_server.specs.declared.answer.TookAll.{TookAll}
use Rattle.bayou_server.specs.declared.fault.TakeFault.{TakeFault}
use Rattle.bayou_server.specs.declared.fault.TakeFault.TheVariants.{Conflict, Down, OwnLost, Gap, BadStamp, LogFull, OutOfMemory, Journal}

still_holds : (a b c : Core) → StillHolds a b → StillHolds b c → StillHolds a c
still_holds a b c (more, is) (others, then) = (more ++ others, then ∙ ap (λ l. l ++ others) is ∙ append_assoc a.held more others)

pub is_nothing : {X : Type 0} (found : Option X) → is_some found ≡ false → found ≡ None
is_nothing None none = refl
is_nothing (Some x) none = absurd cc

-- what the books have is what may be behind the lock
pub kept_of : {D : Type 0} (begun : Begun) (booked : Booked D) → IsExact begun booked → MayBeKept begun booked.server.core
kept_of begun booked exact = record { is = exact.is; sound = exact.sound; own = omega (arith, exact.own) }

module _ (begun : Begun) where
  unchanged : (old new : Core) → new ≡ old → IsServerOf begun old → IsServerOf begun new
  unchanged old new same is = subst (IsServerOf begun) (sym same) is

  -- it is the same server
  same_server : (old : Core) (given : Write) (answer : Result Took TakeFault) (new : Core) → Takes old given answer new → IsServerOf begun old → IsServerOf begun new
  same_server old given (Ok New) new takes is = subst (IsServerOf begun) (sym takes.2) (record { whose = is.whose; among = is.among; limit = is.limit })
  same_server old given (Ok Had) new takes is = unchanged old new takes.1 is
  same_server old given (Err Conflict) new takes is = unchanged old new takes.1 is
  same_server old given (Err Down) new takes is = unchanged old new takes.2 is
  same_server old given (Err OwnLost) new takes is = unchanged old new takes.3 is
  same_server old given (Err Gap) new takes is = unchanged old new takes.2 is
  same_server old given (Err BadStamp) new takes is = unchanged old new takes.3 is
  same_server old given (Err LogFull) new takes is = unchanged old new takes.2 is
  same_server old given (Err OutOfMemory) new takes is = unchanged old new takes.1 is
  same_server old given (Err Journal) new takes is = subst (IsServerOf begun) (sym takes.2) (record { whose = is.whose; among = is.among; limit = is.limit })

  kept : (old : Core) (given : Write) (answer : Result Took TakeFault) (new : Core) → TakesHeld old given answer new → MayBeKept begun old → MayBeKept begun new
  kept old given answer new takes before = record {
    is = same_server old given answer new takes.takes before.is;
    sound = takes.sound.1;
    own = omega (arith, before.own, takes.own);
  }

  -- what each step leaves may be behind the lock
  each_kept : (old mid : Core) (front : List Write) (tooks : List Took) → TakesEach TakesHeld old front tooks mid → MayBeKept begun old
      → TakesEach {S = Unit {0}} (TakesAtNode begun) tt front tooks tt × MayBeKept begun mid
  each_kept old mid [] [] same before = (refl, subst (MayBeKept begun) (sym same) before)
  each_kept old mid [] (took ∷ tooks) none before = absurd none
  each_kept old mid (write ∷ front) [] none before = absurd none
  each_kept old mid (write ∷ front) (took ∷ tooks) each before =
      let next = kept old write (Ok took) each.0 each.1 before in
      let rest = each_kept each.0 mid front tooks each.2 next in
      ((tt, ((old, each.0, before, next, each.1.takes), refl), rest.0), rest.1)

  end_kept : (mid new : Core) (given front left : List Write) (refused : Option RefusedWrite) → TakingEnds TakesHeld mid given front left refused new → MayBeKept begun mid
      → TakingEnds {S = Unit {0}} (TakesAtNode begun) tt given front left refused tt × MayBeKept begun new
  end_kept mid new given front left None ends before = ((ends.0, refl), subst (MayBeKept begun) (sym ends.1) before)
  end_kept mid new given front left (Some refused) ends before =
      let next = kept mid ends.0 (Err refused.fault) new ends.2 before in
      ((ends.0, ends.1, ((mid, new, before, next, ends.2.takes), refl), ends.3), next)

  pub all_kept : (old new : Core) (given left : List Write) (told : TookAll) → TakesAll TakesHeld old given left told new → MayBeKept begun old
      → TakesAll {S = Unit {0}} (TakesAtNode begun) tt given left told tt × MayBeKept begun new
  all_kept old new given left told all before =
      let each = each_kept old all.mid all.front all.tooks all.each before in
      let ends = end_kept all.mid new given all.front left told.refused all.ends each.1 in
      (record { front = all.front; tooks = all.tooks; mid = tt; each = each.0; taken = all.taken; had = all.had; ends = ends.0 }, ends.1)

  each_holds : (old mid : Core) (front : List Write) (tooks : List Took) → TakesEach TakesHeld old front tooks mid
      → StillHolds old mid × (own_count mid ≡ own_count old)
  each_holds old mid [] [] same = (([], ap (λ (s : Core). s.held) same ∙ sym (append-nil old.held)), ap (λ (s : Core). own_count s) same)
  each_holds old mid [] (took ∷ tooks) none = absurd none
  each_holds old mid (write ∷ front) [] none = absurd none
  each_holds old mid (write ∷ front) (took ∷ tooks) each =
      let rest = each_holds each.0 mid front tooks each.2 in
      (still_holds old each.0 mid (taking_keeps old write (Ok took) each.0 each.1.takes) rest.0, rest.1 ∙ each.1.own)

  end_holds : (mid new : Core) (given front left : List Write) (refused : Option RefusedWrite) → TakingEnds TakesHeld mid given front left refused new
      → StillHolds mid new × (own_count new ≡ own_count mid)
  end_holds mid new given front left None ends =
      (([], ap (λ (s : Core). s.held) ends.1 ∙ sym (append-nil mid.held)), ap (λ (s : Core). own_count s) ends.1)
  end_holds mid new given front left (Some refused) ends = (taking_keeps mid ends.0 (Err refused.fault) new ends.2.takes, ends.2.own)

  -- none is taken away, and none of its own is added
  pub all_holds : (old new : Core) (given left : List Write) (told : TookAll) → TakesAll TakesHeld old given left told new
      → StillHolds old new × (own_count new ≡ own_count old)
  all_holds old new given left told all =
      let each = each_holds old all.mid all.front all.tooks all.each in
      let ends = end_holds all.mid new given all.front left told.refused all.ends in
      (still_holds old all.mid new each.0 ends.0, ends.1 ∙ each.1)

  -- the books stay exact
  pub exact_after : {D : Type 0} (booked : Booked D) (new : ServerState D) (given left : List Write) (told : TookAll) → TakesAll TakesHeld booked.server.core given left told new.core → IsExact begun booked
      → IsExact begun (record booked { server = new })
  exact_after booked new given left told all exact =
      let after = (all_kept booked.server.core new.core given left told all (kept_of begun booked exact)).1 in
      record { is = after.is; since = exact.since; sound = after.sound; own = (all_holds booked.server.core new.core given left told all).1 ∙ exact.own }
