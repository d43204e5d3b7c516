use Rattle.std.proofs.Common.{◌≡◌, ◌++◌, ℕ, List, codes, length, arith, length-append}
use Rattle.hex.proofs.HexLemmas.{length-encode_with}
use Rattle.hex.specs.Hex.{encode_lower, lower_digits}
use Rattle.sha2.proofs.Facts256.{length-sha256}
use Rattle.sha2.specs.Sha256.{sha256}
use Rattle.bayou_greeting.specs.declared.store_key.StoreKey.{StoreKey}
use Rattle.bayou_greeting.specs.StoreKeys.{key_line}
use Rattle.bayou_key_file.specs.declared.label.TheConstants.{LABEL_END_BYTES}
use Rattle.bayou_key_file.specs.Labels.{line_feed}
use Rattle.bayou_key_file.proofs.label.judge_label.Goals as goal

-- what stands behind the name in a key's label
abbrev behind_name : StoreKey → List ℕ
behind_name key = codes " " ++ (encode_lower (sha256 (key_line key)) ++ line_feed)

size_behind : (key : StoreKey) → length (behind_name key) ≡ LABEL_END_BYTES
size_behind key =
    let digits = encode_lower (sha256 (key_line key)) in
    omega (arith, length-append digits line_feed, length-encode_with lower_digits (sha256 (key_line key)), length-sha256 (key_line key))

pub returns-in-Some-clause-other : goal.returns-in-Some-clause-other
returns-in-Some-clause-other c kept is text = c.in-Some.ensures kept.name (behind_name kept) (size_behind kept) is.name text

pub returns-in-None-clause-other : goal.returns-in-None-clause-other
returns-in-None-clause-other c kept is text = absurd (c.in-None.ensures kept.name (behind_name kept) (size_behind kept) is.name text)
