use Rattle.std.proofs.Common.{◌∷◌, ◌++◌, ◌∙◌, ap, refl}
use Rattle.bayou_frames.specs.Spelled.{items_of}
use Rattle.bayou_peer.proofs.pulling.front_of.Goals as goal

pub returns-in_default : goal.returns-in_default
returns-in_default c =
    let behind = c.next.new.self.rest.items in
    record {
      rest = c.in-Some.frame ∷ behind;
      split = c.loop-frame.invariant.so_far ∙ ap (λ rest. items_of c.loop-frame.items.items ++ rest) c.in-Some.ensures.steps.0;
      follows = (behind, refl, λ write is. c.in_default.not-Item write is);
    }
