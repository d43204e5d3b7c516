-- A Write whose program is an update alone, with its empty members, is spelled as it is.
use Rattle.std.proofs.Common.{◌≡◌, ℕ, [], true, refl}
use Rattle.bayou_lang.specs.declared.write.Write.{Write}
use Rattle.bayou_text.specs.AtOnce.{update_held_json}
use Rattle.bayou_text.specs.Spelling.{held_json, program_json}

pub held_whole : (place : ℕ) (item : Write) (n : ℕ) → item.program.check.items ≡ [] → item.program.merge.items ≡ []
    → update_held_json true place item n ≡ held_json place item n
unfolding program_json
held_whole place item n no_check no_merge = rw (no_check, no_merge) refl
