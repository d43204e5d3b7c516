-- The tokens of a Write whose program is a check and an update are read as what a session tries.
use Rattle.std.proofs.Common.{◌≡◌, ℕ, ◌≤◌, List, [], ◌∷◌, map, length, inl, inr, codes, refl, sym, subst, arith}
use Rattle.std.proofs.lemmas.List.{length-map}
use Rattle.std.specs.List.{AllByRecursion, AllZip}
use Rattle.std.specs.Prelude.{IsUtf8}
use Rattle.json.specs.Lex.{tokens}
use Rattle.serde_json.specs.Data.{number, string, member, no_members}
use Rattle.serde_json.specs.Find.{of_integer}
use Rattle.bayou_base.specs.declared.limits.TheConstants.{MAX_CONDITIONS, MAX_LINE_BYTES, MAX_OPS}
use Rattle.bayou_base.specs.declared.server.ServerId.{ServerId}
use Rattle.bayou_base.specs.declared.session.SessionId.{SessionId}
use Rattle.bayou_lang.specs.Ranges.{IsCond, IsOp}
use Rattle.bayou_lang.specs.declared.program.Cond.{Cond}
use Rattle.bayou_lang.specs.declared.program.Cond.TheVariants.{Equals, Absent, AtLeast, AtMost}
use Rattle.bayou_lang.specs.declared.program.Op.{Op}
use Rattle.bayou_lang.specs.declared.program.Program.{Program}
use Rattle.bayou_text.specs.AtOnce.{checked_json, checked_line_json, tokens_of}
use Rattle.bayou_text.specs.Said.{write}
use Rattle.bayou_text.specs.Spelling.{cond_json, count_json, list_json, op_json, value_json}
use Rattle.bayou_text.specs.Table.{AltIs, CondIs, ProgramIs, Spells, missing, present}
use Rattle.bayou_text.proofs.AtOnce.{IsRead, array_read, text_read, count_read, read_again}
use Rattle.bayou_text.proofs.HeldAtOnce.{integer_is, integer_read, ops_are, ops_read, value_is, value_read}

-- ---- how it is read

cond_read : (c : Cond) → IsCond c → IsRead 2 (cond_json c)
cond_read (Equals key value) kept =
    array_read 1 (string (codes "equals") ∷ string key ∷ value_json value ∷ [])
    (text_read 1 (codes "equals"), (text_read 1 key, (value_read 1 value kept.1, tt)))
cond_read (Absent key) kept = array_read 1 (string (codes "absent") ∷ string key ∷ []) (text_read 1 (codes "absent"), (text_read 1 key, tt))
cond_read (AtLeast key n) kept =
    array_read 1 (string (codes "atleast") ∷ string key ∷ number (of_integer n) ∷ [])
    (text_read 1 (codes "atleast"), (text_read 1 key, (integer_read 1 n kept.1, tt)))
cond_read (AtMost prefix n) kept =
    array_read 1 (string (codes "atmost") ∷ string prefix ∷ count_json n ∷ [])
    (text_read 1 (codes "atmost"), (text_read 1 prefix, (count_read 1 n (omega (arith, kept.1)), tt)))

conds_read : (conditions : List Cond) → AllByRecursion IsCond conditions → AllByRecursion (IsRead 2) (map cond_json conditions)
conds_read [] kept = tt
conds_read (c ∷ conditions) kept = (cond_read c kept.0, conds_read conditions kept.1)

checked_read : (conditions : List Cond) (ops : List Op) → AllByRecursion IsCond conditions → AllByRecursion IsOp ops → IsRead 4 (checked_json conditions ops)
checked_read conditions ops conditions_kept ops_kept =
    let check = array_read 2 (map cond_json conditions) (conds_read conditions conditions_kept) in
    let update = array_read 2 (map op_json ops) (ops_read ops ops_kept) in
    record { again = rw check.again (rw update.again refl); no_deeper = omega (arith, check.no_deeper, update.no_deeper) }

line_read : (who : SessionId) (place : ServerId) (conditions : List Cond) (ops : List Op) → AllByRecursion IsCond conditions → AllByRecursion IsOp ops
    → IsRead 5 (checked_line_json who.index place.index conditions ops)
line_read who place conditions ops conditions_kept ops_kept =
    array_read 4 (string (codes "write") ∷ count_json who.index ∷ count_json place.index ∷ checked_json conditions ops ∷ []) (
      text_read 4 (codes "write"),
      (
        count_read 4 who.index (omega (arith, who.in_range)),
        (count_read 4 place.index (omega (arith, place.in_range)), (checked_read conditions ops conditions_kept ops_kept, tt)),
      ),
    )

-- ---- what it says

cond_is : (c : Cond) → IsCond c → CondIs (cond_json c) c
cond_is (Equals key value) kept = record {
  key_data = string key;
  last_data = value_json value;
  form_is = refl;
  key_is = (refl, kept.0);
  last_is = value_is value kept.1;
}
cond_is (Absent key) kept = record { key_data = string key; form_is = refl; key_is = (refl, kept) }
cond_is (AtLeast key n) kept = record {
  key_data = string key;
  last_data = number (of_integer n);
  form_is = refl;
  key_is = (refl, kept.0);
  last_is = integer_is n kept.1;
}
cond_is (AtMost prefix n) kept = record {
  prefix_data = string prefix;
  number_data = count_json n;
  form_is = refl;
  prefix_is = (refl, kept.0);
  number_is = refl;
  number_in_range = kept.1;
}

conds_are : (conditions : List Cond) → AllByRecursion IsCond conditions → AllZip CondIs (map cond_json conditions) conditions
conds_are [] kept = tt
conds_are (c ∷ conditions) kept = (cond_is c kept.0, conds_are conditions kept.1)

checked_is : (p : Program) → p.merge.items ≡ [] → AllByRecursion IsCond p.check.items → length p.check.items ≤ MAX_CONDITIONS
    → AllByRecursion IsOp p.update.items → length p.update.items ≤ MAX_OPS → ProgramIs (checked_json p.check.items p.update.items) p
checked_is p no_merge check_kept few_conditions update_kept few_ops = record {
  members = member (codes "check") (list_json cond_json p.check.items) (member (codes "update") (list_json op_json p.update.items) no_members);
  object_is = refl;
  known = (inl refl, (inr (inr refl), tt));
  check = record {
    data_of = map cond_json p.check.items;
    member_is = present refl;
    fits = simp length-map few_conditions;
    each = conds_are p.check.items check_kept;
  };
  merge = record { data_of = []; member_is = missing refl refl; fits = omega arith; each = subst (λ xs. AllZip AltIs [] xs) (sym no_merge) tt };
  update = record {
    data_of = map op_json p.update.items;
    member_is = present refl;
    fits = simp length-map few_ops;
    each = ops_are p.update.items update_kept;
  };
}

-- bytes of those tokens spell the Write
pub checked_spelled : (who : SessionId) (place : ServerId) (p : Program) (bytes : List ℕ) → length bytes ≤ MAX_LINE_BYTES → IsUtf8 bytes
    → p.merge.items ≡ [] → AllByRecursion IsCond p.check.items → length p.check.items ≤ MAX_CONDITIONS
    → AllByRecursion IsOp p.update.items → length p.update.items ≤ MAX_OPS
    → tokens bytes ≡ tokens_of (checked_line_json who.index place.index p.check.items p.update.items) → Spells bytes (write who.index place.index p)
checked_spelled who place p bytes short text no_merge check_kept few_conditions update_kept few_ops same = record {
  in_length = short;
  utf8 = text;
  json = checked_line_json who.index place.index p.check.items p.update.items;
  json_is = read_again bytes 5 (checked_line_json who.index place.index p.check.items p.update.items) (omega arith)
      (line_read who place p.check.items p.update.items check_kept update_kept) same;
  line_is = record {
    who_data = count_json who.index;
    place_data = count_json place.index;
    last_data = checked_json p.check.items p.update.items;
    form_is = refl;
    who_is = refl;
    who_in_range = who.in_range;
    place_is = refl;
    place_in_range = place.in_range;
    last_is = checked_is p no_merge check_kept few_conditions update_kept few_ops;
  };
}
