-- What becomes of several Writes of other servers that a server takes and stores together: what it holds then, and that fewer are left.
use Rattle.std.proofs.Common.{◌≡◌, ◌⊎◌, inl, inr, ◌+◌, ◌<◌, ◌≤◌, List, [], ◌∷◌, ◌++◌, Option, None, Some, Result, Ok, Err, length, replicate, refl, sym, ◌∙◌, ap, subst, arith, append_assoc, length-append}
use Rattle.std.specs.Prelude.{MatchResult}
use Rattle.std.proofs.lemmas.List.{append-nil}
use Rattle.bayou_base.specs.declared.tag.Tag.{Tag}
use Rattle.bayou_lang.specs.declared.write.Write.{Write}
use Rattle.bayou_server.specs.declared.answer.RefusedWrite.{RefusedWrite}
use Rattle.bayou_server.specs.declared.answer.Reopened.{Reopened}
use Rattle.bayou_server.specs.declared.answer.TookAll.{TookAll}
use Rattle.bayou_server.specs.declared.fault.ReopenFault.{ReopenFault}
use Rattle.bayou_server.specs.declared.fault.TakeFault.{TakeFault}
use Rattle.bayou_server.specs.declared.fault.TakeFault.TheVariants.{Conflict, Down, OwnLost, Gap, BadStamp, LogFull, OutOfMemory, Journal}
use Rattle.bayou_server.specs.Laws.TakesAll.{fewer_left}
use Rattle.bayou_server.specs.Reopens.{Reopens, ReopensAll}
use Rattle.bayou_server.specs.Server.{Core, with_all, with_taken}
use Rattle.bayou_server.specs.Several.{TakesHeld, left_behind, left_by}
use Rattle.bayou_server.specs.TakesAll.{TakesAll, TakingEnds}

-- what a server holds once it holds these too
pub with_all-is : (core : Core) (writes : List Write) → with_all core writes ≡ record core { held = core.held ++ writes; tags = core.tags ++ replicate (length writes) None }
with_all-is core [] =
    sym (ap (λ (held : List Write). record core { held = held; tags = core.tags ++ [] }) (append-nil core.held) ∙ ap (λ (tags : List (Option Tag)). record core { tags = tags }) (append-nil core.tags))
with_all-is core (write ∷ writes) =
    with_all-is (with_taken core write) writes
    ∙ ap (λ (held : List Write). record core { held = held; tags = (core.tags ++ None ∷ []) ++ replicate (length writes) None }) (append_assoc core.held (write ∷ []) writes)
    ∙ ap (λ (tags : List (Option Tag)). record core { held = core.held ++ write ∷ writes; tags = tags }) (append_assoc core.tags (None ∷ []) (replicate (length writes) None))

-- where none was refused the rest is left
pub takes_rest : (old mid : Core) (given taking between : List Write) (told : TookAll) → TakesAll TakesHeld old given (left_behind told.refused taking between) told mid → told.refused ≡ None
    → TakesAll TakesHeld old given between told mid
takes_rest old mid given taking between told first none = subst (λ (r : Option RefusedWrite). TakesAll TakesHeld old given (left_behind r taking between) told mid) none first

at_least_rest : (fault : TakeFault) (taking rest : List Write) → length rest ≤ length (left_by fault taking rest)
at_least_rest Journal taking rest = omega (arith, length-append taking rest)
at_least_rest Conflict taking rest = omega arith
at_least_rest Down taking rest = omega arith
at_least_rest OwnLost taking rest = omega arith
at_least_rest Gap taking rest = omega arith
at_least_rest BadStamp taking rest = omega arith
at_least_rest LogFull taking rest = omega arith
at_least_rest OutOfMemory taking rest = omega arith

-- fewer are left where there were some
pub fewer_rest : (old new : Core) (given taking rest : List Write) (told : TookAll) → TakesAll TakesHeld old given (left_behind told.refused taking rest) told new → 0 < length given
    → (told.refused ≡ None → (rest ≡ []) ⊎ (0 < told.taken + told.had)) → length rest < length given
fewer_rest old new given taking rest told all some gives = by told.refused refl all.ends
  where
    by : (refused : Option RefusedWrite) → told.refused ≡ refused → TakingEnds TakesHeld all.mid given all.front (left_behind refused taking rest) refused new → length rest < length given
    by None none ends = fewer_left TakesHeld old new given rest told (takes_rest old new given taking rest told all none) some gives
    by (Some refused) is ends =
        omega (arith, ap {A = List Write} length ends.1, length-append all.front (ends.0 ∷ left_by refused.fault taking rest), at_least_rest refused.fault taking rest)

-- ---- a reopening

-- where no other is in doubt after the Write in doubt, it is as ever
pub reopens_one : (old : Core) (taking : List Write) (answer : Result Reopened ReopenFault) (new : Core) → ReopensAll old taking answer new → taking ≡ [] → Reopens old answer new
reopens_one old taking (Ok reopened) new (inl one) none = one
reopens_one old taking (Ok reopened) new (inr several) none =
    absurd (omega (arith, ap length none, ap length several.split, length-append several.front (several.last ∷ several.behind)))
reopens_one old taking (Err fault) new reopens none = reopens

-- and none is then
pub alone_after : (answer : Result Reopened ReopenFault) (old new : List Write) → MatchResult answer (λ reopened. new ≡ []) (λ fault. new ≡ old) → old ≡ [] → new ≡ []
alone_after (Ok reopened) old new empty none = empty
alone_after (Err fault) old new same none = same ∙ none
