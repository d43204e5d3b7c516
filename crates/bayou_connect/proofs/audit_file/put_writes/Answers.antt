use Rattle.std.proofs.Common.{rules}
use Rattle.std.proofs.KnownBytes.{Appends-nil, Appends-trans}
use Rattle.bayou_lang.specs.declared.write.Write.{Write}
use Rattle.bayou_print.specs.Booked.{line_text}
use Rattle.bayou_text.specs.Said.{held}
use Rattle.bayou_connect.proofs.Flat.{flat_more}
use Rattle.bayou_connect.proofs.audit_file.put_writes.Goals as goal

pub loop-write-init : goal.loop-write-init
loop-write-init g c = Appends-nil (g.W.Write.contents c.args.file.now)

pub loop-write-preserved : goal.loop-write-preserved
loop-write-preserved g c =
    rw (flat_more (λ (write : Write). line_text (held c.args.holding.server.index write c.args.holding.count)) c.args.writes.now c.loop-write.write-index c.write-item.result c.loop-write-test.true c.write-item.is)
    (Appends-trans _ _ _ _ _ c.loop-write.invariant (search rules))
