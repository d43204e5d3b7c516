use Rattle.std.proofs.Common.{◌≡◌, ◌++◌, drop}
use Rattle.std.specs.List.{AllByRecursion}
use Rattle.bayou_wire.specs.Digests.{IsDigest}
use Rattle.bayou_wire.specs.Greetings.{digests_bytes}
use Rattle.bayou_wire.proofs.greeting_put.put_each_digest.Given as goal

-- what is written, and what is still to be, are the whole
abbrev pub invariant-loop-digest : goal.invariant-loop-digest
invariant-loop-digest l =
    let left = drop l.digest-index l.digests in
    record {
      written : l.out.items ++ digests_bytes left ≡ l.fn.out.items ++ digests_bytes l.digests;
      each : AllByRecursion IsDigest left → AllByRecursion IsDigest l.digests;
    }
