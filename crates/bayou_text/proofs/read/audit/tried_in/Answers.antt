use Rattle.std.proofs.Common.{sym}
use Rattle.bayou_text.specs.Audit.{tried_in}
use Rattle.bayou_text.specs.Laws.Inner.Named.{tried_is}
use Rattle.bayou_text.proofs.read.audit.tried_in.Goals as goal

pub returns : goal.returns
unfolding tried_in
returns c =
    sym (rw (c.in_ok-session_in.ensures, ← c.in_ok-place_in.ensures.value, ← c.in_ok-asks_in.ensures, c.in_ok-server_in.ensures) (tried_is _ _ _ _ _))
