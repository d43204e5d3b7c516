use Rattle.std.proofs.Common.{◌≡◌, Ok, Some, ap, sym, ◌∙◌}
use Rattle.hex.proofs.HexLemmas.{decode_sized-encode_lower}
use Rattle.hex.specs.Hex.{decode_sized}
use Rattle.bayou_greeting.specs.declared.secret.TheConstants.{SECRET_BYTES}
use Rattle.bayou_greeting.proofs.store_key.secret_of.Goals as goal

pub returns-in-Ok : goal.returns-in-Ok
returns-in-Ok c secret size bytes is =
    let read : decode_sized c.args.digits.now SECRET_BYTES ≡ Ok secret = ap (λ text. decode_sized text SECRET_BYTES) is ∙ decode_sized-encode_lower secret SECRET_BYTES size bytes in
    let value = rw read at c.decode_to_slice.ensures.value in
    ap (λ s. Some s) (c.new.ensures ∙ value.1)

pub returns-in-Err : goal.returns-in-Err
returns-in-Err c secret size bytes is =
    let read : decode_sized c.args.digits.now SECRET_BYTES ≡ Ok secret = ap (λ text. decode_sized text SECRET_BYTES) is ∙ decode_sized-encode_lower secret SECRET_BYTES size bytes in
    let value = rw read at c.decode_to_slice.ensures.value in
    absurd (let same = sym value.0 ∙ c.in-Err.is in cc)
