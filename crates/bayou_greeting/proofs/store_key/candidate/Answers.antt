use Rattle.std.proofs.Common.{◌≡◌, ℕ, List, None, Some, length, ap, ◌∙◌, arith}
use Rattle.std.proofs.lemmas.Option.{same_Some}
use Rattle.hex.proofs.HexLemmas.{length-encode_with}
use Rattle.hex.specs.Hex.{encode_lower, lower_digits}
use Rattle.bayou_base.specs.Key.{key_fault}
use Rattle.bayou_greeting.specs.declared.store_key.StoreKey.{StoreKey}
use Rattle.bayou_greeting.specs.declared.store_key.TheConstants.{SECRET_DIGITS}
use Rattle.bayou_greeting.proofs.store_key.candidate.Goals as goal

pub returns-in_default : goal.returns-in_default
returns-in_default c key is line =
    let size : length (encode_lower key.secret) ≡ SECRET_DIGITS = omega (arith, length-encode_with lower_digits key.secret, is.size) in
    absurd (let some = c.in_default.ensures.some key.name (encode_lower key.secret) size line in cc)

pub returns-in_default-name_of : goal.returns-in_default-name_of
returns-in_default-name_of c key is line =
    let size : length (encode_lower key.secret) ≡ SECRET_DIGITS = omega (arith, length-encode_with lower_digits key.secret, is.size) in
    let parts = c.in-Some.ensures.parts key.name (encode_lower key.secret) size line in
    let name : key_fault c.in-Some.name.now ≡ None = ap key_fault parts.0 ∙ is.name in
    absurd (let same = c.in_default-name_of.ensures name in cc)

pub returns-in_default-secret_of : goal.returns-in_default-secret_of
returns-in_default-secret_of c key is line =
    let size : length (encode_lower key.secret) ≡ SECRET_DIGITS = omega (arith, length-encode_with lower_digits key.secret, is.size) in
    let parts = c.in-Some.ensures.parts key.name (encode_lower key.secret) size line in
    absurd (let same = c.in_default-secret_of.ensures key.secret is.size is.bytes parts.1 in cc)

pub returns : goal.returns
returns c key is line =
    let size : length (encode_lower key.secret) ≡ SECRET_DIGITS = omega (arith, length-encode_with lower_digits key.secret, is.size) in
    let parts = c.in-Some.ensures.parts key.name (encode_lower key.secret) size line in
    let named = c.in-Some-name_of.ensures (ap key_fault parts.0 ∙ is.name) in
    let known = c.in-Some-secret_of.ensures key.secret is.size is.bytes parts.1 in
    let made : List ℕ → List ℕ → StoreKey = λ name secret. record { name = name; secret = secret } in
    ap (λ name. Some (made name c.in-Some-secret_of.secret)) (same_Some _ _ named ∙ parts.0) ∙ ap (λ secret. Some (made key.name secret)) (same_Some _ _ known)
