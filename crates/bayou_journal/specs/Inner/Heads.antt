-- What stands at the front of what should be a server's journal, and what an opening adds after its chain: this project's own.
use Rattle.std.specs.Prelude.{◌==◌, ℕ, zero, suc, List, [], if◌then◌else◌}
use Rattle.bayou_device.specs.Device.{BeginsWith}
use Rattle.bayou_journal.specs.Chain.{entry, header, link}
use Rattle.bayou_journal.specs.Opening.{IsForeign, IsNew, IsOfAnother}
use Rattle.bayou_journal.specs.Versions.{IsVersionOf, newest_mark}
use Rattle.bayou_journal.specs.declared.chain.Head.{Head}
use Rattle.bayou_journal.specs.declared.chain.Head.TheVariants.{New, Own, OfAnother, Foreign}
use Rattle.bayou_journal.specs.declared.format.TheConstants.{NEWEST_VERSION}

abbrev pub HasHead : ℕ → List ℕ → Head → Type 0
HasHead server bytes New = IsNew bytes
HasHead server bytes (Own version) = IsVersionOf server version × BeginsWith (header version server) bytes
HasHead server bytes OfAnother = IsOfAnother server bytes
HasHead server bytes Foreign = IsForeign bytes

-- a whole header, where nothing is left
abbrev pub missing_header : (server end : ℕ) → List ℕ
missing_header server zero = header NEWEST_VERSION server
missing_header server (suc end) = []

-- What has to be added after the cut, where the chain has this version and this digest there.
abbrev pub missing : (server version : ℕ) → (last : List ℕ) → (end : ℕ) → List ℕ
missing server version last end = if version == NEWEST_VERSION then missing_header server end else entry last newest_mark

-- the digest that the next entry stands after then
abbrev pub raised_link : (version : ℕ) → (last : List ℕ) → List ℕ
raised_link version last = if version == NEWEST_VERSION then last else link last newest_mark
