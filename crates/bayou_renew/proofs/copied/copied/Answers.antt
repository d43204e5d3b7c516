use Rattle.std.proofs.Common.{◌≡◌, ◌∙◌, inl, inr, ap}
use Rattle.bayou_device.specs.Memory.{Memory}
use Rattle.bayou_renew.specs.Renewing.{unread_as}
use Rattle.bayou_renew.proofs.copied.copied.Goals as goal

pub returns-in-Ok-start-clause-copied : goal.returns-in-Ok-start-clause-copied
returns-in-Ok-start-clause-copied g c = λ modelled. record {
  starts = c.in-Ok-start.ensures.starts;
  copy = c.new-copy.result;
  same = ap (λ (memory : Memory). memory.bytes) (c.new-copy.ensures.device ∙ c.with_bytes.ensures) ∙ c.in-Ok.ensures.bytes modelled;
  dropped = c.in-Ok-start.field-0-1;
  opened = c.in-Ok-start.ensures.opens;
}

pub returns-in-Err-clause-refused : goal.returns-in-Err-clause-refused
returns-in-Err-clause-refused g c = λ modelled. inr (inr (record {
  copy = c.new-copy.result;
  same = ap (λ (memory : Memory). memory.bytes) (c.new-copy.ensures.device ∙ c.with_bytes.ensures) ∙ c.in-Ok.ensures.bytes modelled;
  left = c.in-Err.refused.device;
  why = c.in-Err.refused.fault;
  refused = c.in-Err.ensures.opens;
  told = c.unread.ensures ∙ ap (unread_as c.in-Err.refused.fault) c.damage.ensures;
}))
