-- No step of a server takes away a Write that it held.
use Rattle.std.proofs.Common.{◌≡◌, ℕ, inl, inr, List, [], ◌∷◌, ◌++◌, Option, None, Some, Result, Ok, Err, ap, sym, ◌∙◌, subst, append-nil, append_assoc}
use Rattle.bayou_base.specs.declared.tag.Tag.{Tag}
use Rattle.bayou_base.specs.declared.wid.Wid.{Wid}
use Rattle.bayou_lang.specs.declared.program.Program.{Program}
use Rattle.bayou_lang.specs.declared.write.Write.{Write}
use Rattle.bayou_node.specs.Books.{Begun, IsServerOf, StillHolds}
use Rattle.bayou_server.specs.declared.answer.Reopened.{Reopened}
use Rattle.bayou_server.specs.declared.answer.Took.{Took}
use Rattle.bayou_server.specs.declared.answer.Took.TheVariants.{New, Had}
use Rattle.bayou_server.specs.declared.answer.Written.{Written}
use Rattle.bayou_server.specs.declared.answer.Written.TheVariants as written
use Rattle.bayou_server.specs.declared.fault.ReopenFault.{ReopenFault}
use Rattle.bayou_server.specs.declared.fault.ReopenFault.TheVariants as reopening
use Rattle.bayou_server.specs.declared.fault.TakeFault.{TakeFault}
use Rattle.bayou_server.specs.declared.fault.TakeFault.TheVariants as taking
use Rattle.bayou_server.specs.declared.fault.WriteFault.{WriteFault}
use Rattle.bayou_server.specs.declared.fault.WriteFault.TheVariants.{TagUsed, Down, Behind, LogFull, OutOfMemory, Journal}
use Rattle.bayou_server.specs.Laws.Several.{with_all-is}
use Rattle.bayou_server.specs.Reopens.{Reopens, ReopensAll}
use Rattle.bayou_server.specs.Server.{Core}
use Rattle.bayou_server.specs.Takes.{Takes}
use Rattle.bayou_server.specs.Writes.{Writes}

-- nothing more is held
same : (old new : Core) → new.held ≡ old.held → StillHolds old new
same old new is = ([], is ∙ sym (append-nil old.held))

unchanged : (old new : Core) → new ≡ old → StillHolds old new
unchanged old new is = same old new (ap (λ (core : Core). core.held) is)

pub writing_keeps : (old : Core) (tag : Tag) (need : List ℕ) (program : Program) (result : Result Written WriteFault) (new : Core)
    → Writes old tag need program result new → StillHolds old new
writing_keeps old tag need program (Ok (written.New accepted)) new (fresh, accepts) = (accepts.made ∷ [], ap (λ (core : Core). core.held) accepts.is)
writing_keeps old tag need program (Ok (written.Known accepted)) new (repeats, is) = unchanged old new is
writing_keeps old tag need program (Err TagUsed) new (used, is) = unchanged old new is
writing_keeps old tag need program (Err Down) new (fresh, down, is) = unchanged old new is
writing_keeps old tag need program (Err (Behind vector)) new (fresh, up, behind, is) = unchanged old new is
writing_keeps old tag need program (Err LogFull) new (fresh, ready, full, is) = unchanged old new is
writing_keeps old tag need program (Err OutOfMemory) new (fresh, ready, room, is) = unchanged old new is
writing_keeps old tag need program (Err Journal) new (fresh, doubts) = same old new (ap (λ (core : Core). core.held) doubts.is)

pub taking_keeps : (old : Core) (given : Write) (result : Result Took TakeFault) (new : Core)
    → Takes old given result new → StillHolds old new
taking_keeps old given (Ok Had) new is = unchanged old new is.1
taking_keeps old given (Ok New) new is = (given ∷ [], ap (λ (core : Core). core.held) is.2)
taking_keeps old given (Err taking.Conflict) new is = unchanged old new is.1
taking_keeps old given (Err taking.Down) new is = unchanged old new is.2
taking_keeps old given (Err taking.OwnLost) new is = unchanged old new is.3
taking_keeps old given (Err taking.Gap) new is = unchanged old new is.2
taking_keeps old given (Err taking.BadStamp) new is = unchanged old new is.3
taking_keeps old given (Err taking.LogFull) new is = unchanged old new is.2
taking_keeps old given (Err taking.OutOfMemory) new is = unchanged old new is.1
taking_keeps old given (Err taking.Journal) new is = same old new (ap (λ (core : Core). core.held) is.2)

recovered : (old : Core) (adopted : Option Wid) (new : Core) → Reopens old (Ok (record { adopted = adopted })) new → StillHolds old new
recovered old None new is = same old new (ap (λ (core : Core). core.held) is.1)
recovered old (Some wid) new is = (is.0 ∷ [], ap (λ (core : Core). core.held) is.3)

pub reopening_keeps : (old : Core) (taking : List Write) (result : Result Reopened ReopenFault) (new : Core)
    → ReopensAll old taking result new → StillHolds old new
reopening_keeps old taking (Ok reopened) new (inl is) = recovered old reopened.adopted new is
reopening_keeps old taking (Ok reopened) new (inr is) =
    let more = is.front ++ is.last ∷ [] in
    let first : Core = record old { held = old.held ++ is.doubt ∷ []; tags = old.tags ++ old.doubt_tag ∷ []; doubt = None; doubt_tag = None } in
    (is.doubt ∷ more, ap (λ (core : Core). core.held) (is.holds ∙ with_all-is first more) ∙ append_assoc old.held (is.doubt ∷ []) more)
reopening_keeps old taking (Err reopening.NotDown) new is = unchanged old new is.1
reopening_keeps old taking (Err (reopening.Journal fault)) new is = unchanged old new is.1
reopening_keeps old taking (Err reopening.Lost) new is = unchanged old new is.1
reopening_keeps old taking (Err (reopening.BadRecord at)) new is = unchanged old new is.2
reopening_keeps old taking (Err reopening.OutOfMemory) new is = unchanged old new is.1

-- it is the same server
recovered_server : (begun : Begun) (old : Core) (adopted : Option Wid) (new : Core) → Reopens old (Ok (record { adopted = adopted })) new → IsServerOf begun old → IsServerOf begun new
recovered_server begun old None new is before = subst (IsServerOf begun) (sym is.1) (record { whose = before.whose; among = before.among; limit = before.limit })
recovered_server begun old (Some wid) new is before = subst (IsServerOf begun) (sym is.3) (record { whose = before.whose; among = before.among; limit = before.limit })

pub reopening_server : (begun : Begun) (old : Core) (taking : List Write) (result : Result Reopened ReopenFault) (new : Core) → ReopensAll old taking result new → IsServerOf begun old → IsServerOf begun new
reopening_server begun old taking (Ok reopened) new (inl is) before = recovered_server begun old reopened.adopted new is before
reopening_server begun old taking (Ok reopened) new (inr is) before =
    let first : Core = record old { held = old.held ++ is.doubt ∷ []; tags = old.tags ++ old.doubt_tag ∷ []; doubt = None; doubt_tag = None } in
    subst (IsServerOf begun) (sym (is.holds ∙ with_all-is first (is.front ++ is.last ∷ []))) (record { whose = before.whose; among = before.among; limit = before.limit })
reopening_server begun old taking (Err reopening.NotDown) new is before = subst (IsServerOf begun) (sym is.1) before
reopening_server begun old taking (Err (reopening.Journal fault)) new is before = subst (IsServerOf begun) (sym is.1) before
reopening_server begun old taking (Err reopening.Lost) new is before = subst (IsServerOf begun) (sym is.1) before
reopening_server begun old taking (Err (reopening.BadRecord at)) new is before = subst (IsServerOf begun) (sym is.2) before
reopening_server begun old taking (Err reopening.OutOfMemory) new is before = subst (IsServerOf begun) (sym is.1) before
