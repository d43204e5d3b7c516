use Rattle.bayou_tags.proofs.Placed.{AreDistinct-placed}
use Rattle.bayou_tags.proofs.tags.Tags.into_tags.Goals as goal

pub returns-clause-distinct : goal.returns-clause-distinct
returns-clause-distinct c =
    let inside = c.self.inside in
    AreDistinct-placed inside.places.entries inside.tags.items inside.coming c.self.invariant
