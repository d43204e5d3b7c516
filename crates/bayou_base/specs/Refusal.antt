-- What a server's refusals are called: this project's own words and codes.
use Rattle.std.specs.Prelude.{ℕ, Bool, true, false, List, codes}
use Rattle.bayou_base.specs.declared.refusal.TheConstants as refusal_codes
use Rattle.bayou_base.specs.declared.refusal.Refusal.{Refusal}
use Rattle.bayou_base.specs.declared.refusal.Refusal.TheVariants.{Down, Behind, LogFull, Journal, NotDown, BadRecord, Lost, OutOfMemory, TagUsed}

-- the number that stands for it in a frame
abbrev pub refusal_code : Refusal → ℕ
refusal_code Down = refusal_codes.CODE_DOWN
refusal_code (Behind vector) = refusal_codes.CODE_BEHIND
refusal_code LogFull = refusal_codes.CODE_LOG_FULL
refusal_code Journal = refusal_codes.CODE_JOURNAL
refusal_code NotDown = refusal_codes.CODE_NOT_DOWN
refusal_code (BadRecord at) = refusal_codes.CODE_BAD_RECORD
refusal_code Lost = refusal_codes.CODE_LOST
refusal_code OutOfMemory = refusal_codes.CODE_OUT_OF_MEMORY
refusal_code TagUsed = refusal_codes.CODE_TAG_USED

-- the word that a person reads
abbrev pub refusal_word : Refusal → List ℕ
refusal_word Down = codes "down"
refusal_word (Behind vector) = codes "behind"
refusal_word LogFull = codes "full"
refusal_word Journal = codes "journal"
refusal_word NotDown = codes "notdown"
refusal_word (BadRecord at) = codes "record"
refusal_word Lost = codes "lost"
refusal_word OutOfMemory = codes "memory"
refusal_word TagUsed = codes "used"

-- whether a read or a Write may be refused so
abbrev pub refuses_operation : Refusal → Bool
refuses_operation NotDown = false
refuses_operation (BadRecord at) = false
refuses_operation Lost = false
refuses_operation _ = true

-- whether a reopening may be refused so
abbrev pub refuses_reopening : Refusal → Bool
refuses_reopening Down = false
refuses_reopening (Behind vector) = false
refuses_reopening LogFull = false
refuses_reopening TagUsed = false
refuses_reopening _ = true
