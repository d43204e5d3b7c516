use Rattle.std.proofs.Common.{◌≡◌}
use Rattle.bayou_lang.specs.Writes.{count_of}
use Rattle.bayou_log.specs.Listing.{listing_of}
use Rattle.bayou_fleet.proofs.Told.{told_of_none, told_of_one}
use Rattle.bayou_fleet.proofs.inquiry.log_at.Goals as goal

pub returns-in-Some-clause-lists : goal.returns-in-Some-clause-lists
returns-in-Some-clause-lists g c =
    told_of_one c.args.mailboxes.now c.args.at c.in-Some.mailbox.now (λ log core. log.0.items ≡ listing_of core.held) c.log.result c.in-Some.ensures.lookup.3.0 c.in-Some.ensures.lookup.1 c.log.ensures.lists

pub returns-in-Some-clause-counts : goal.returns-in-Some-clause-counts
returns-in-Some-clause-counts g c =
    told_of_one c.args.mailboxes.now c.args.at c.in-Some.mailbox.now (λ log core. log.1 ≡ count_of core.held) c.log.result c.in-Some.ensures.lookup.3.0 c.in-Some.ensures.lookup.1 c.log.ensures.counts

pub returns-in-None-clause-lists : goal.returns-in-None-clause-lists
returns-in-None-clause-lists g c = told_of_none c.args.mailboxes.now c.args.at _ c.in-None.ensures.lookup.3

pub returns-in-None-clause-counts : goal.returns-in-None-clause-counts
returns-in-None-clause-counts g c = told_of_none c.args.mailboxes.now c.args.at _ c.in-None.ensures.lookup.3
