-- The bytes of records, which are the bodies of a journal's entries: this project's own format, in three forms. In each a record has one
-- spelling. In the first two a vector has the counts of fewer servers and no condition counts keys.
use Rattle.std.specs.Prelude.{◌≡◌, ◌<◌, ◌&&◌, ℕ, Bool, true, false, List, [], ◌∷◌, ◌++◌, Option, None, Some, IfSome, IsTrue, replicate, take, drop}
use Rattle.std.specs.List.{list_all}
use Rattle.bayou_base.specs.declared.limits.TheConstants.{OLD_SERVERS}
use Rattle.bayou_base.specs.declared.tag.Tag.{Tag}
use Rattle.bayou_lang.specs.declared.program.Cond.{Cond}
use Rattle.bayou_lang.specs.declared.program.Cond.TheVariants.{Equals, Absent, AtLeast, AtMost}
use Rattle.bayou_lang.specs.declared.program.Program.{Program}
use Rattle.bayou_lang.specs.declared.write.Write.{Write}
use Rattle.bayou_wire.specs.declared.layout.TheConstants as layout
use Rattle.bayou_wire.specs.declared.record.Form.{Form}
use Rattle.bayou_wire.specs.declared.record.Form.TheVariants.{Plain, Tagged, Wide}
use Rattle.bayou_wire.specs.declared.record.Record.{Record}
use Rattle.bayou_wire.specs.Spelling.{IsTag, SpellsWrite, tag_bytes}

-- what stands before the Write in the tagged and the wide form: that there is no tag, or that there is one, and the tag
abbrev pub record_head : Option Tag → List ℕ
record_head None = layout.RECORD_OTHERS ∷ []
record_head (Some tag) = layout.RECORD_OWN ∷ tag_bytes tag

-- the bytes with a count of zero for each server that the first two forms know nothing of, after the counts that they have
abbrev pub widened : List ℕ → List ℕ
widened bytes = take layout.OLD_HEAD_BYTES bytes ++ (replicate layout.OLD_LACKED_BYTES 0 ++ drop layout.OLD_HEAD_BYTES bytes)

-- whether the first two forms know the condition: all but the one that counts keys
abbrev pub is_old_cond : Cond → Bool
is_old_cond (Equals key value) = true
is_old_cond (Absent key) = true
is_old_cond (AtLeast key number) = true
is_old_cond (AtMost prefix most) = false

-- whether they know each condition of the program, in its check and in its alternatives
abbrev pub is_old_program : Program → Bool
is_old_program program =
    list_all is_old_cond program.check.items && list_all (λ alt. list_all is_old_cond alt.when.items) program.merge.items

-- The bytes are the one spelling of the Write where a vector has the old number of counts. One of the old servers accepted it, and each of
-- its conditions is an old one.
pub record SpellsOld (bytes : List ℕ) (write : Write) : Type 0 where
  pub wide : SpellsWrite (widened bytes) write
  pub origin : write.wid.origin.index < OLD_SERVERS
  pub conditions : IsTrue (is_old_program write.program)

-- The bytes are the one spelling of the record: in the plain form that of its Write, which has no tag, and in the others its head and that
-- of its Write. In the plain and the tagged form a vector has the old number of counts, and the conditions are the old ones.
abbrev pub SpellsRecord : Form → List ℕ → Record → Type 0
SpellsRecord Plain bytes given = (given.tag ≡ None) × SpellsOld bytes given.write
SpellsRecord Tagged bytes given = IfSome given.tag IsTag × ((rest : List ℕ) × (bytes ≡ record_head given.tag ++ rest) × SpellsOld rest given.write)
SpellsRecord Wide bytes given = IfSome given.tag IsTag × ((rest : List ℕ) × (bytes ≡ record_head given.tag ++ rest) × SpellsWrite rest given.write)
