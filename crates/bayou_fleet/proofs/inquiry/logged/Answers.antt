use Rattle.std.proofs.Common.{◌≡◌, ℕ, refl, subst}
use Rattle.bayou_fleet.specs.Servers.{InOne}
use Rattle.bayou_lang.specs.Writes.{count_of}
use Rattle.bayou_log.specs.Listing.{listing_of}
use Rattle.bayou_fleet.proofs.inquiry.logged.Goals as goal

pub returns : goal.returns
returns g c =
    let servers = c.args.mailboxes.now in
    let listing = c.in_ok-listing.listing in
    let vector = c.in_ok-listing.vector in
    record {
      listing = listing;
      vector = vector;
      answered = refl;
      lists = subst (λ (at : ℕ). InOne servers at (λ core. listing.items ≡ listing_of core.held)) c.from-at.ensures c.in_ok-listing.ensures.lists;
      counts = subst (λ (at : ℕ). InOne servers at (λ core. vector ≡ count_of core.held)) c.from-at.ensures c.in_ok-listing.ensures.counts;
    }
