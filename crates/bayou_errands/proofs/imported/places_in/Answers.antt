use Rattle.std.proofs.Common.{None, ap, map, refl, sym}
use Rattle.bayou_command.specs.Import.{import_seen}
use Rattle.bayou_errands.specs.Imports.{places_met}
use Rattle.bayou_errands.proofs.Planned.{places_of}
use Rattle.bayou_errands.proofs.imported.places_in.Goals as goal

pub returns : goal.returns
returns c =
    places_of (places_met (import_seen c.args.importing.now)) c.as_slice.result.now None c.new-plan.result c.in_ok-plan.plan (ap (map (λ word. word.now)) (sym c.as_slice.ensures.value)) refl
    c.new-plan.ensures.said c.new-plan.ensures.same c.new-plan.ensures.servers c.new-plan.ensures.asks c.new-plan.ensures.json c.new-plan.ensures.refused c.in_ok-plan.ensures.same
