-- What a server that keeps to its own rules (bayou_server), which have a case for each answer, never answers in a run.
use Rattle.std.specs.Prelude.{◌≡◌, ◌⊎◌, ℕ, List, Some, Result, Ok, Err, map}
use Rattle.std.specs.Option.{option_and_then, option_map}
use Rattle.bayou_device.specs.declared.device.Device.{Ghosts}
use Rattle.bayou_journal.specs.Versions.{Body}
use Rattle.bayou_lang.specs.declared.write.Write.{Write}
use Rattle.bayou_server.specs.declared.answer.Reopened.{Reopened}
use Rattle.bayou_server.specs.declared.fault.ReopenFault.{ReopenFault}
use Rattle.bayou_server.specs.declared.fault.ReopenFault.TheVariants.{BadRecord, Journal, Lost, NotDown, OutOfMemory}
use Rattle.bayou_server.specs.Server.{Core, ServerState, records_of}
use Rattle.bayou_server.specs.Stored.{OpensWith, Stores, records_with_doubt}
use Rattle.bayou_world.specs.Machine.{Machine, Made, tag_at, writes}

-- the server, as its own rules see it, with the tags that it knows
abbrev pub core_at : Machine → (place : ℕ) → Core
core_at machine place = record {
  id = place;
  count = machine.count;
  limit = machine.limit;
  held = writes (machine.servers place).held;
  tags = map (tag_at place) (machine.servers place).held;
  doubt = option_map (λ (made : Made). made.write) (machine.servers place).doubt;
  doubt_tag = option_and_then (tag_at place) (machine.servers place).doubt;
}

-- Whatever an opening of the server's journal finds, that stands for what the server held, or for that and the Write in doubt.
abbrev pub OpensHonestly : {D : Type 0} → Ghosts D → ServerState D → Type 0
OpensHonestly {D} d server = (left : D) (bodies : List Body) (last : List ℕ) → OpensWith d server.core.id server.device left bodies last
    → Stores server.core.id bodies (records_of server.core)
    ⊎ ((doubt : Write) × (server.core.doubt ≡ Some doubt) × Stores server.core.id bodies (records_with_doubt server.core doubt))

-- the journal has lost a Write that was held, or has another than those that may be there
abbrev pub FindsOthers : Result Reopened ReopenFault → Type 0
FindsOthers (Err Lost) = Unit {0}
FindsOthers (Err (BadRecord at)) = Unit {0}
FindsOthers (Err NotDown) = ⊥
FindsOthers (Err (Journal fault)) = ⊥
FindsOthers (Err OutOfMemory) = ⊥
FindsOthers (Ok reopened) = ⊥
