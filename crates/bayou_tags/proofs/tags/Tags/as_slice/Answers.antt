use Rattle.std.proofs.Common.{sym, subst}
use Rattle.bayou_tags.specs.Tags.{AreDistinct}
use Rattle.bayou_tags.proofs.Placed.{AreDistinct-placed}
use Rattle.bayou_tags.proofs.tags.Tags.as_slice.Goals as goal

pub returns-clause-distinct : goal.returns-clause-distinct
returns-clause-distinct c =
    let inside = c.self.inside in
    subst AreDistinct (sym c.as_slice.ensures.value) (AreDistinct-placed inside.places.entries inside.tags.items inside.coming c.self.invariant)
