-- What is read is what an opening finds.
use Rattle.std.proofs.Common.{List, sym, subst}
use Rattle.bayou_journal.specs.Inner.Reads.{IsFound}
use Rattle.bayou_journal.specs.declared.format.TheConstants.{NEWEST_VERSION}
use Rattle.bayou_journal.specs.declared.opened.Place.{Place}
use Rattle.bayou_journal.proofs.Ending.{finds_new, reads_chain}
use Rattle.bayou_journal.proofs.chain.find_chain.Goals as goal

pub returns-in_ok-chain_of-in-Own-clause-found : goal.returns-in_ok-chain_of-in-Own-clause-found
returns-in_ok-chain_of-in-Own-clause-found c =
    let head = c.in-Own.ensures in
    let chain = c.in_ok-chain_of-in-Own.field-0 in
    let read = c.in_ok-chain_of-in-Own.ensures in
    reads_chain c.in-Own.version c.args.server.index c.args.bytes.now chain.places.items chain.version chain.last read.0 chain.end head.0 read.1 read.2 read.3

pub returns-in-New-clause-found : goal.returns-in-New-clause-found
returns-in-New-clause-found c =
    subst (λ (places : List Place). IsFound c.args.server.index c.args.bytes.now places NEWEST_VERSION c.first_link_of.result 0) (sym c.new.ensures.items)
    (finds_new c.args.server.index c.args.bytes.now c.first_link_of.result c.in-New.ensures c.first_link_of.ensures)
