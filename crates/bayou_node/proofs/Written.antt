-- What is told of a Write, new or known, is of the server's own; and what leaves the server as it was made none.
use Rattle.std.specs.Prelude.{IfOk, IsSome}
use Rattle.std.specs.List.{AllZip}
use Rattle.std.proofs.Common.{◌≡◌, ℕ, zero, suc, ◌+◌, ◌≤◌, List, [], ◌∷◌, ◌++◌, Option, Some, Result, Ok, Err, Contains, length, slice_index, refl, sym, ap, ◌∙◌, subst, arith, length-append}
use Rattle.bayou_base.specs.declared.answer.Accepted.{Accepted}
use Rattle.bayou_base.specs.declared.tag.Tag.{Tag}
use Rattle.bayou_base.specs.declared.wid.Wid.{Wid}
use Rattle.bayou_base.specs.Vector.{Dominates}
use Rattle.bayou_lang.specs.declared.program.Program.{Program}
use Rattle.bayou_lang.specs.declared.write.Write.{Write}
use Rattle.bayou_node.specs.Answers.{IsOwnAnswer, IsWritten, Pays}
use Rattle.bayou_server.specs.declared.answer.Written.{Written}
use Rattle.bayou_server.specs.declared.answer.Written.TheVariants.{New, Known}
use Rattle.bayou_server.specs.declared.fault.WriteFault.{WriteFault}
use Rattle.bayou_server.specs.Server.{Core, IsSoundServer, own_count, records}
use Rattle.bayou_server.specs.Writes.{Accepts, Repeats, Writes}
use Rattle.bayou_wire.specs.declared.record.Record.{Record}

-- a Write that stands beside a tag is held, between others, and is the server's own
beside : (server : ℕ) (held : List Write) (tags : List (Option Tag)) (one : Record) → AllZip (λ write tag. IsSome tag → write.wid.origin.index ≡ server) held tags
    → Contains (records held tags) one → (before after : List Write) × (held ≡ before ++ one.write ∷ after) × (IsSome one.tag → one.write.wid.origin.index ≡ server)
beside server [] tags one own (k, within, is) = absurd (omega (arith, within))
beside server (write ∷ held) [] one own there = absurd own
beside server (write ∷ held) (tag ∷ tags) one own (zero, within, is) =
    ([], held, ap (λ (r : Record). r.write ∷ held) is, subst (λ (r : Record). IsSome r.tag → r.write.wid.origin.index ≡ server) is own.0)
beside server (write ∷ held) (tag ∷ tags) one own (suc k, within, is) =
    let rest = beside server held tags one own.1 (k, omega (arith, within), is) in
    (write ∷ rest.0, rest.1, ap (λ (l : List Write). write ∷ l) rest.2, rest.3)

-- what is told of a Write that was made before
known_is_own : (core : Core) (tag : Tag) (need : List ℕ) (program : Program) (accepted : Accepted) → IsSoundServer core → Repeats core tag need program accepted
    → IsOwnAnswer core.id need accepted
known_is_own core tag need program accepted sound repeats =
    let write = repeats.write in
    let stands = beside core.id core.held core.tags (record { write = write; tag = Some tag }) sound.tagged.own repeats.held in
    let origin : write.wid.origin.index ≡ core.id = stands.3 refl in
    let next = (sound.holds.sound.fitting stands.0 write stands.1 stands.2).1.own in
    record {
      own = ap (λ (wid : Wid). wid.origin.index) repeats.tells.wid ∙ origin;
      covered = subst (λ (deps : List ℕ). Dominates deps need) (sym repeats.tells.deps) repeats.asked.covered;
      next = ap (λ (wid : Wid). wid.seq) repeats.tells.wid ∙ sym next ∙ ap (λ (at : ℕ). slice_index write.deps at + 1) origin
          ∙ ap (λ (deps : List ℕ). slice_index deps core.id + 1) (sym repeats.tells.deps);
    }

-- what is told of one that is made now
new_is_own : (old : Core) (tag : Tag) (need : List ℕ) (program : Program) (accepted : Accepted) (new : Core) → Accepts old tag need program accepted new
    → IsOwnAnswer old.id need accepted × (accepted.wid.seq ≡ own_count old + 1)
new_is_own old tag need program accepted new accepts =
    let next = accepts.makes.next in
    let deps : accepted.deps ≡ accepts.made.deps = accepts.tells.deps in
    let seq : accepted.wid.seq ≡ own_count old + 1 = ap (λ (wid : Wid). wid.seq) accepts.tells.wid ∙ next.seq in (
      record {
        own = ap (λ (wid : Wid). wid.origin.index) accepts.tells.wid ∙ next.origin;
        covered = subst (λ (counts : List ℕ). Dominates counts need) (sym (deps ∙ next.deps)) accepts.makes.ready.covered;
        next = seq ∙ ap (λ (counts : List ℕ). slice_index counts old.id + 1) (sym (deps ∙ next.deps));
      },
      seq,
    )

-- a new Write is held behind those that were
nothing_new : (core : Core) (tag : Tag) (need : List ℕ) (program : Program) (accepted : Accepted) → Accepts core tag need program accepted core → ⊥
nothing_new core tag need program accepted accepts =
    let longer = ap (λ (c : Core). length c.held) accepts.is in
    absurd (omega (arith, longer, length-append core.held (accepts.made ∷ [])))

-- where no fewer Writes of its own were held than were paid for
pub written_so : (old : Core) (tag : Tag) (need : List ℕ) (program : Program) (result : Result Written WriteFault) (new : Core) (paid : ℕ) → IsSoundServer old → paid ≤ own_count old
    → Writes old tag need program result new → IfOk result (IsWritten old.id need paid)
written_so old tag need program (Ok (New accepted)) new paid sound few writes =
    let is = new_is_own old tag need program accepted new writes.1 in (is.0, omega (arith, is.1, few))
written_so old tag need program (Ok (Known accepted)) new paid sound few writes = known_is_own old tag need program accepted sound writes.0
written_so old tag need program (Err fault) new paid sound few writes = tt

-- what leaves the server as it was tells of no new Write, and nobody is paid
pub told_unpaid : (core : Core) (tag : Tag) (need : List ℕ) (program : Program) (result : Result Written WriteFault) (paid : ℕ) → IsSoundServer core
    → Writes core tag need program result core → IfOk result (IsWritten core.id need paid) × Pays paid result paid
told_unpaid core tag need program (Ok (New accepted)) paid sound writes = absurd (nothing_new core tag need program accepted writes.1)
told_unpaid core tag need program (Ok (Known accepted)) paid sound writes = (known_is_own core tag need program accepted sound writes.0, refl)
told_unpaid core tag need program (Err fault) paid sound writes = (tt, refl)
