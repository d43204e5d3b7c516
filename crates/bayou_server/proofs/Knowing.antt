-- What is told of a Write that is held under a tag.
use Rattle.std.proofs.Common.{◌≡◌, ℕ, ◌<◌, Some, arith, length}
use Rattle.std.specs.List.{slice_get}
use Rattle.std.proofs.lemmas.Option.{get_or_from_slice_get, slice_get_within}
use Rattle.bayou_base.specs.declared.tag.Tag.{Tag}
use Rattle.bayou_lang.specs.declared.write.Write.{Write}
use Rattle.bayou_wire.specs.declared.record.Record.{Record}
use Rattle.bayou_server.specs.Server.{Core, IsSoundServer, records_of}
use Rattle.bayou_server.specs.Writes.{HoldsUnder}
use Rattle.bayou_server.proofs.Beside.{one_each, record_at}

-- where there is a tag there is a Write
pub write_there : (core : Core) (at : ℕ) (tag : Tag) → IsSoundServer core → slice_get core.tags at ≡ Some (Some tag) → at < length core.held
write_there core at tag sound there = omega (arith, slice_get_within core.tags at (Some tag) there, one_each core.id core.held core.tags sound.tagged)

-- the Write at the place of the tag is held under it
pub held_under : (core : Core) (at : ℕ) (write : Write) (tag : Tag) → slice_get core.held at ≡ Some write → slice_get core.tags at ≡ Some (Some tag) → HoldsUnder core tag write
held_under core at write tag is there =
    let kept : Record = record { write = write; tag = Some tag } in
    let stands = record_at core.held core.tags at write (Some tag) is there in
    (at, slice_get_within (records_of core) at kept stands, get_or_from_slice_get (records_of core) at kept kept stands)
