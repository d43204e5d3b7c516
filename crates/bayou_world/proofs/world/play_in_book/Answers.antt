use Rattle.std.proofs.Common.{[], ap, ◌∙◌}
use Rattle.bayou_world.proofs.world.play_in_book.Goals as goal

pub returns-clause-booked : goal.returns-clause-booked
returns-clause-booked g c = record {
  empty = c.in_ok-book.book;
  full = c.play.new.book;
  begins = c.in_ok-book.ensures ∙ ap (λ n. record { capacity = n; entries = [] }) c.capacity_for.ensures;
  so_far = c.in_ok-replies.ensures.so_far;
  counted = c.totals.ensures;
}

pub returns-clause-charged : goal.returns-clause-charged
returns-clause-charged g c = c.in_ok-replies.ensures.charged
