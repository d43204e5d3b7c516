-- What the steps of a server keep.
use Rattle.std.proofs.Common.{◌≡◌, ◌≢◌, ℕ, ◌+◌, ◌<◌, ◌==◌, Bool, true, false, List, [], ◌∷◌, ◌++◌, Option, None, Some, Result, Ok, Err, length, refl, sym, ◌∙◌, ap, subst, arith, length-append}
use Rattle.std.specs.Prelude.{IfSome, slice_index, if◌then◌else◌}
use Rattle.std.proofs.lemmas.Bool.Decides.{Decides-eqb}
use Rattle.std.proofs.lemmas.List.Elements.{All-push}
use Rattle.bayou_base.specs.declared.tag.Tag.{Tag}
use Rattle.bayou_base.specs.declared.wid.Wid.{Wid}
use Rattle.bayou_device.specs.declared.device.Device.{Ghosts}
use Rattle.bayou_lang.specs.declared.program.Program.{Program}
use Rattle.bayou_lang.specs.declared.write.Write.{Write}
use Rattle.bayou_lang.specs.Writes.{IsNextWrite, count_of, counted}
use Rattle.bayou_lang.specs.Laws.Fitting.{IsSound-push, next_fits, count_of-push, counted-other, counted-own}
use Rattle.bayou_lang.specs.Ranges.{IsWrite}
use Rattle.bayou_server.specs.declared.answer.Took.{Took}
use Rattle.bayou_server.specs.declared.answer.Took.TheVariants.{New, Had}
use Rattle.bayou_server.specs.declared.answer.Written.{Written}
use Rattle.bayou_server.specs.declared.answer.Written.TheVariants as written
use Rattle.bayou_server.specs.declared.fault.TakeFault.{TakeFault}
use Rattle.bayou_server.specs.declared.fault.TakeFault.TheVariants as taking
use Rattle.bayou_server.specs.declared.fault.WriteFault.{WriteFault}
use Rattle.bayou_server.specs.declared.fault.WriteFault.TheVariants.{TagUsed, Down, Behind, LogFull, OutOfMemory, Journal}
use Rattle.bayou_server.specs.Reopens.{Recovers, own_adopted}
use Rattle.bayou_server.specs.Inner.Storing.{MayBeStored}
use Rattle.bayou_server.specs.Server.{Core, IsSoundServer, IsUp, MayBeInDoubt, MayBeItsTag, ServerState, own_count}
use Rattle.bayou_server.specs.Stored.{StoresTaken}
use Rattle.bayou_server.specs.Takes.{Takes}
use Rattle.bayou_server.specs.Writes.{Writes, own_made}
use Rattle.bayou_server.proofs.Beside.{AreTags-push}

-- a server that is up has no tag in doubt
pub no_doubt_tag : (core : Core) → IsSoundServer core → IsUp core → core.doubt_tag ≡ None
no_doubt_tag core sound up = subst (λ (d : Option Write). MayBeItsTag core.id core.tags d core.doubt_tag) up sound.doubt_tagged

-- a server that holds the Write that it may hold next too, with a tag that it may have, is sound
pub sound_next : (core : Core) (made : Write) (tag : Option Tag) → IsSoundServer core → IsUp core → MayBeInDoubt core.id core.count core.limit core.held made
    → MayBeItsTag core.id core.tags (Some made) tag → IsSoundServer (record core { held = core.held ++ made ∷ []; tags = core.tags ++ tag ∷ [] })
sound_next core made tag sound up may tagged = record {
  known = sound.known;
  holds = record {
    sound = IsSound-push core.id core.count core.held made sound.holds.sound may.fits (λ is_own. (may.own is_own).deps);
    within = omega (arith, may.room, length-append core.held (made ∷ []));
  };
  spelled = All-push IsWrite core.held made sound.spelled may.spelled;
  tagged = AreTags-push core.id core.held core.tags made tag sound.tagged tagged.1 tagged.0;
  doubted = subst (λ (d : Option Write). IfSome d (MayBeInDoubt core.id core.count core.limit (core.held ++ made ∷ []))) (sym up) tt;
  doubt_tagged = subst (λ (d : Option Write). MayBeItsTag core.id (core.tags ++ tag ∷ []) d core.doubt_tag) (sym up) (no_doubt_tag core sound up);
}

-- and so is one that puts it in doubt
pub sound_doubting : (core : Core) (made : Write) (tag : Option Tag) → IsSoundServer core → MayBeInDoubt core.id core.count core.limit core.held made
    → MayBeItsTag core.id core.tags (Some made) tag → IsSoundServer (record core { doubt = Some made; doubt_tag = tag })
sound_doubting core made tag sound may tagged = record {
  known = sound.known;
  holds = sound.holds;
  spelled = sound.spelled;
  tagged = sound.tagged;
  doubted = may;
  doubt_tagged = tagged;
}

-- and one that forgets the Write in doubt
pub sound_forgetting : (core : Core) → IsSoundServer core → IsSoundServer (record core { doubt = None; doubt_tag = None })
sound_forgetting core sound = record {
  known = sound.known;
  holds = sound.holds;
  spelled = sound.spelled;
  tagged = sound.tagged;
  doubted = tt;
  doubt_tagged = refl;
}

-- and one that adopts it
pub sound_adopted : (core : Core) (doubt : Write) → IsSoundServer core → core.doubt ≡ Some doubt
    → IsSoundServer (record core { held = core.held ++ doubt ∷ []; tags = core.tags ++ core.doubt_tag ∷ []; doubt = None; doubt_tag = None })
sound_adopted core doubt sound is =
    let may : MayBeInDoubt core.id core.count core.limit core.held doubt = subst (λ (o : Option Write). IfSome o (MayBeInDoubt core.id core.count core.limit core.held)) is sound.doubted in
    let tagged : MayBeItsTag core.id core.tags (Some doubt) core.doubt_tag = subst (λ (o : Option Write). MayBeItsTag core.id core.tags o core.doubt_tag) is sound.doubt_tagged in
    sound_next (record core { doubt = None; doubt_tag = None }) doubt core.doubt_tag (sound_forgetting core sound) refl may tagged

-- the next Write is made of its own program
next_as_itself : (held : List Write) (server : ℕ) (asked : Program) (made : Write) → IsNextWrite held server asked made → IsNextWrite held server made.program made
next_as_itself held server asked made next = record { origin = next.origin; seq = next.seq; clock = next.clock; deps = next.deps; program = refl }

-- a server's next Write may be stored
pub next_may_be_stored : (core : Core) (asked : Program) (made : Write) → IsSoundServer core → IsUp core → length core.held < core.limit → IsNextWrite core.held core.id asked made
    → MayBeStored core made
next_may_be_stored core asked made sound up room next = record {
  up = up;
  room = room;
  fits = next_fits core.count core.held core.id asked made sound.holds.sound.fitting sound.known next;
  own = λ is_own. next_as_itself core.held core.id asked made next;
}

-- what may be stored may be in doubt
pub stored_may_be_in_doubt : (core : Core) (made : Write) → MayBeStored core made → IsWrite made → MayBeInDoubt core.id core.count core.limit core.held made
stored_may_be_in_doubt core made may is = record { spelled = is; room = may.room; fits = may.fits; own = may.own }

-- one own Write more
one_more : (held : List Write) (id : ℕ) (made : Write) → made.wid.origin.index ≡ id → slice_index (count_of (held ++ made ∷ [])) id ≡ slice_index (count_of held) id + 1
one_more held id made own =
    ap (λ (counts : List ℕ). slice_index counts id) (count_of-push held made)
    ∙ subst (λ (s : ℕ). slice_index (counted (count_of held) made.wid) s ≡ slice_index (count_of held) s + 1) own (counted-own held made)

-- none more
none_more : (held : List Write) (id : ℕ) (made : Write) → made.wid.origin.index ≢ id → slice_index (count_of (held ++ made ∷ [])) id ≡ slice_index (count_of held) id
none_more held id made another = ap (λ (counts : List ℕ). slice_index counts id) (count_of-push held made) ∙ counted-other (count_of held) made.wid id another

pub own_of_write : (old : Core) (tag : Tag) (need : List ℕ) (program : Program) (result : Result Written WriteFault) (new : Core) → Writes old tag need program result new
    → own_count new ≡ own_count old + own_made result
own_of_write old tag need program (Ok (written.New accepted)) new writes = ap own_count writes.1.is ∙ one_more old.held old.id writes.1.made writes.1.makes.next.origin
own_of_write old tag need program (Ok (written.Known accepted)) new writes = ap own_count writes.1 ∙ omega arith
own_of_write old tag need program (Err TagUsed) new writes = ap own_count writes.1 ∙ omega arith
own_of_write old tag need program (Err Down) new writes = ap own_count writes.2 ∙ omega arith
own_of_write old tag need program (Err (Behind vector)) new writes = ap own_count writes.3 ∙ omega arith
own_of_write old tag need program (Err LogFull) new writes = ap own_count writes.3 ∙ omega arith
own_of_write old tag need program (Err OutOfMemory) new writes = ap own_count writes.3 ∙ omega arith
own_of_write old tag need program (Err Journal) new writes = ap own_count writes.1.is ∙ omega arith

-- one Write more, of whatever server
grows_by : (held : List Write) (id : ℕ) (made : Write) (is_own : Bool) → (made.wid.origin.index == id) ≡ is_own
    → slice_index (count_of (held ++ made ∷ [])) id ≡ slice_index (count_of held) id + (if is_own then 1 else 0)
grows_by held id made true is = one_more held id made ((Decides-eqb made.wid.origin.index id).0 is)
grows_by held id made false is =
    none_more held id made (λ own. absurd (let yes = (Decides-eqb made.wid.origin.index id).1 own in cc)) ∙ omega arith

pub own_of_recovery : (old : Core) (adopted : Option Wid) (new : Core) → Recovers old adopted new → own_count new ≡ own_count old + own_adopted old.id adopted
own_of_recovery old None new recovers = ap own_count recovers.1 ∙ omega arith
own_of_recovery old (Some wid) new recovers =
    ap own_count recovers.3
    ∙ grows_by old.held old.id recovers.0 _ refl
    ∙ ap (λ (w : Wid). own_count old + own_adopted old.id (Some w)) (sym recovers.2)

-- what a server takes is none of its own
pub own_of_taking : (old : Core) (given : Write) (result : Result Took TakeFault) (new : Core) → Takes old given result new → own_count new ≡ own_count old
own_of_taking old given (Ok New) new takes = ap own_count takes.2 ∙ none_more old.held old.id given takes.0.fit.foreign.foreign
own_of_taking old given (Ok Had) new takes = ap own_count takes.1
own_of_taking old given (Err taking.Conflict) new takes = ap own_count takes.1
own_of_taking old given (Err taking.Down) new takes = ap own_count takes.2
own_of_taking old given (Err taking.OwnLost) new takes = ap own_count takes.3
own_of_taking old given (Err taking.Gap) new takes = ap own_count takes.2
own_of_taking old given (Err taking.BadStamp) new takes = ap own_count takes.3
own_of_taking old given (Err taking.LogFull) new takes = ap own_count takes.2
own_of_taking old given (Err taking.OutOfMemory) new takes = ap own_count takes.1
own_of_taking old given (Err taking.Journal) new takes = ap own_count takes.2

-- after an answer that leaves a server as it is the device is as it was
pub stays_stored : {D : Type 0} (d : Ghosts D) (server : ServerState D) (given : Write) (answer : Result Took TakeFault) → Takes server.core given answer server.core → StoresTaken d server answer server
stays_stored d server given (Ok New) takes = absurd (omega (arith, ap (λ (core : Core). length core.held) takes.2, length-append server.core.held (given ∷ [])))
stays_stored d server given (Ok Had) takes = record { device = refl; last = refl }
stays_stored d server given (Err taking.Conflict) takes = record { device = refl; last = refl }
stays_stored d server given (Err taking.Down) takes = record { device = refl; last = refl }
stays_stored d server given (Err taking.OwnLost) takes = record { device = refl; last = refl }
stays_stored d server given (Err taking.Gap) takes = record { device = refl; last = refl }
stays_stored d server given (Err taking.BadStamp) takes = record { device = refl; last = refl }
stays_stored d server given (Err taking.LogFull) takes = record { device = refl; last = refl }
stays_stored d server given (Err taking.OutOfMemory) takes = record { device = refl; last = refl }
stays_stored d server given (Err taking.Journal) takes =
    let some : Some given ≡ None = sym (ap (λ (core : Core). core.doubt) takes.2) ∙ takes.0.fit.foreign.up in
    absurd (cc)
