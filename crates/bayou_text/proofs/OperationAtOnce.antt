-- The tokens of a read, and of a Write whose program is an update alone, are read as what a session tries.
use Rattle.std.proofs.Common.{◌≡◌, ℕ, ◌≤◌, Bool, List, [], ◌∷◌, length, codes, refl, arith}
use Rattle.std.specs.List.{AllByRecursion}
use Rattle.std.specs.Prelude.{IsUtf8}
use Rattle.json.specs.Lex.{tokens}
use Rattle.serde_json.specs.Data.{string}
use Rattle.bayou_base.specs.declared.limits.TheConstants.{MAX_LINE_BYTES, MAX_OPS}
use Rattle.bayou_base.specs.declared.server.ServerId.{ServerId}
use Rattle.bayou_base.specs.declared.session.SessionId.{SessionId}
use Rattle.bayou_lang.specs.Ranges.{IsKey, IsOp}
use Rattle.bayou_lang.specs.declared.program.Op.{Op}
use Rattle.bayou_lang.specs.declared.program.Program.{Program}
use Rattle.bayou_text.specs.AtOnce.{tokens_of, update_json, update_line_json}
use Rattle.bayou_text.specs.Said.{read, write}
use Rattle.bayou_text.specs.Spelling.{count_json, line_json}
use Rattle.bayou_text.specs.Table.{Spells}
use Rattle.bayou_text.proofs.AtOnce.{IsRead, array_read, text_read, count_read, read_again}
use Rattle.bayou_text.proofs.HeldAtOnce.{update_is, update_read}

-- ---- how it is read

reading_read : (who : SessionId) (place : ServerId) (key : List ℕ) → IsRead 1 (line_json (read who.index place.index key))
reading_read who place key =
    array_read 0 (string (codes "read") ∷ count_json who.index ∷ count_json place.index ∷ string key ∷ []) (
      text_read 0 (codes "read"),
      (count_read 0 who.index (omega (arith, who.in_range)), (count_read 0 place.index (omega (arith, place.in_range)), (text_read 0 key, tt))),
    )

writing_read : (is_whole : Bool) (who : SessionId) (place : ServerId) (ops : List Op) → AllByRecursion IsOp ops
    → IsRead 5 (update_line_json is_whole who.index place.index ops)
writing_read is_whole who place ops kept =
    array_read 4 (string (codes "write") ∷ count_json who.index ∷ count_json place.index ∷ update_json is_whole ops ∷ []) (
      text_read 4 (codes "write"),
      (
        count_read 4 who.index (omega (arith, who.in_range)),
        (count_read 4 place.index (omega (arith, place.in_range)), (update_read is_whole ops kept, tt)),
      ),
    )

-- ---- what it says

-- bytes of those tokens spell the read
pub read_spelled : (who : SessionId) (place : ServerId) (key bytes : List ℕ) → length bytes ≤ MAX_LINE_BYTES → IsUtf8 bytes → IsKey key
    → tokens bytes ≡ tokens_of (line_json (read who.index place.index key)) → Spells bytes (read who.index place.index key)
read_spelled who place key bytes short text kept same = record {
  in_length = short;
  utf8 = text;
  json = line_json (read who.index place.index key);
  json_is = read_again bytes 1 (line_json (read who.index place.index key)) (omega arith) (reading_read who place key) same;
  line_is = record {
    who_data = count_json who.index;
    place_data = count_json place.index;
    last_data = string key;
    form_is = refl;
    who_is = refl;
    who_in_range = who.in_range;
    place_is = refl;
    place_in_range = place.in_range;
    last_is = (refl, kept);
  };
}

-- and those of a Write
pub write_spelled : (is_whole : Bool) (who : SessionId) (place : ServerId) (p : Program) (bytes : List ℕ) → length bytes ≤ MAX_LINE_BYTES → IsUtf8 bytes
    → AllByRecursion IsOp p.update.items → length p.update.items ≤ MAX_OPS → p.check.items ≡ [] → p.merge.items ≡ []
    → tokens bytes ≡ tokens_of (update_line_json is_whole who.index place.index p.update.items) → Spells bytes (write who.index place.index p)
write_spelled is_whole who place p bytes short text kept few no_check no_merge same = record {
  in_length = short;
  utf8 = text;
  json = update_line_json is_whole who.index place.index p.update.items;
  json_is = read_again bytes 5 (update_line_json is_whole who.index place.index p.update.items) (omega arith) (writing_read is_whole who place p.update.items kept) same;
  line_is = record {
    who_data = count_json who.index;
    place_data = count_json place.index;
    last_data = update_json is_whole p.update.items;
    form_is = refl;
    who_is = refl;
    who_in_range = who.in_range;
    place_is = refl;
    place_in_range = place.in_range;
    last_is = update_is is_whole p no_check no_merge kept few;
  };
}
