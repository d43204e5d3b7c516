-- The tokens of a Write that is held, and whose program is an update alone, are read as that Write.
use Rattle.std.proofs.Common.{◌≡◌, ℕ, ◌<◌, ◌≤◌, ◌^◌, ℤ, pos, negsuc, Bool, true, false, List, [], ◌∷◌, map, length, inl, inr, codes, refl, sym, subst, arith, tests}
use Rattle.std.proofs.lemmas.List.{length-map}
use Rattle.std.specs.Int.{w64}
use Rattle.std.specs.Int.RustNames.{FitsSigned}
use Rattle.std.specs.List.{AllByRecursion, AllZip}
use Rattle.std.specs.Prelude.{IsUtf8}
use Rattle.json.specs.Lex.{tokens}
use Rattle.serde_json.proofs.Numbers.{number_of-decimal, number_of-negative}
use Rattle.serde_json.specs.Data.{Data, number, string, array, member, no_items, no_members}
use Rattle.serde_json.specs.Find.{of_integer}
use Rattle.bayou_base.specs.Vector.{AreCounts}
use Rattle.bayou_base.specs.declared.limits.TheConstants.{MAX_LINE_BYTES, MAX_OPS}
use Rattle.bayou_base.specs.declared.server.ServerId.{ServerId}
use Rattle.bayou_base.specs.declared.value.Value.{Value}
use Rattle.bayou_base.specs.declared.value.Value.TheVariants.{Num, Text}
use Rattle.bayou_lang.specs.Ranges.{IsValue, IsTerm, IsOp}
use Rattle.bayou_lang.specs.declared.program.Op.{Op}
use Rattle.bayou_lang.specs.declared.program.Op.TheVariants.{Put, Del}
use Rattle.bayou_lang.specs.declared.program.Program.{Program}
use Rattle.bayou_lang.specs.declared.program.Term.{Term}
use Rattle.bayou_lang.specs.declared.program.Term.TheVariants.{Lit, Copy, Plus}
use Rattle.bayou_lang.specs.declared.write.Write.{Write}
use Rattle.bayou_text.specs.AtOnce.{tokens_of, update_json, updating_json, update_held_json}
use Rattle.bayou_text.specs.Ranges.{IsCutTo}
use Rattle.bayou_text.specs.Said.{held}
use Rattle.bayou_text.specs.Spelling.{count_json, list_json, op_json, term_json, value_json, vector_json}
use Rattle.bayou_text.specs.Table.{CondIs, AltIs, HeldIs, IntegerIs, OpIs, ProgramIs, Spells, TermIs, ValueIs, missing, present}
use Rattle.bayou_text.proofs.AtOnce.{IsRead, array_read, text_read, count_read, vector_read, vector_is, read_again}

-- ---- how it is read

higher : (low high : ℕ) (d : Data) → low ≤ high → IsRead low d → IsRead high d
higher low high d above is = record { again = is.again; no_deeper = omega (arith, above, is.no_deeper) }

pub integer_read : (most : ℕ) (n : ℤ) → FitsSigned w64 n → IsRead most (number (of_integer n))
integer_read most (pos n) fits = record { again = rw (number_of-decimal n (omega (arith, fits))) refl; no_deeper = omega arith }
integer_read most (negsuc n) fits = record { again = rw (number_of-negative n (omega (arith, fits))) refl; no_deeper = omega arith }

pub value_read : (most : ℕ) (v : Value) → IsValue v → IsRead most (value_json v)
value_read most (Num n) kept = integer_read most n kept
value_read most (Text text) kept = text_read most text

term_read : (t : Term) → IsTerm t → IsRead 1 (term_json t)
term_read (Lit v) kept = value_read 1 v kept
term_read (Copy key) kept = array_read 0 (string (codes "copy") ∷ string key ∷ []) (text_read 0 (codes "copy"), (text_read 0 key, tt))
term_read (Plus key n) kept =
    array_read 0 (string (codes "plus") ∷ string key ∷ number (of_integer n) ∷ [])
    (text_read 0 (codes "plus"), (text_read 0 key, (integer_read 0 n kept.1, tt)))

op_read : (o : Op) → IsOp o → IsRead 2 (op_json o)
op_read (Put key t) kept =
    array_read 1 (string (codes "put") ∷ string key ∷ term_json t ∷ []) (text_read 1 (codes "put"), (text_read 1 key, (term_read t kept.1, tt)))
op_read (Del key) kept = array_read 1 (string (codes "del") ∷ string key ∷ []) (text_read 1 (codes "del"), (text_read 1 key, tt))

pub ops_read : (ops : List Op) → AllByRecursion IsOp ops → AllByRecursion (IsRead 2) (map op_json ops)
ops_read [] kept = tt
ops_read (o ∷ ops) kept = (op_read o kept.0, ops_read ops kept.1)

pub update_read : (is_whole : Bool) (ops : List Op) → AllByRecursion IsOp ops → IsRead 4 (update_json is_whole ops)
update_read false ops kept =
    let all = array_read 2 (map op_json ops) (ops_read ops kept) in
    record { again = rw all.again refl; no_deeper = omega (arith, all.no_deeper) }
update_read true ops kept =
    let all = array_read 2 (map op_json ops) (ops_read ops kept) in
    record { again = rw all.again refl; no_deeper = omega (arith, all.no_deeper) }

pub held_read : (is_whole : Bool) (place : ServerId) (item : Write) (n : ℕ) → AreCounts item.deps → AllByRecursion IsOp item.program.update.items
    → IsRead 6 (update_held_json is_whole place.index item n)
held_read is_whole place item n are kept =
    let updating : IsRead 5 (updating_json is_whole item n) =
    array_read 4
    (count_json item.wid.origin.index ∷ count_json item.wid.seq ∷ count_json item.stamp.clock ∷ vector_json n item.deps
    ∷ update_json is_whole item.program.update.items ∷ []) (
      count_read 4 item.wid.origin.index (omega (arith, item.wid.origin.in_range)),
      (
        count_read 4 item.wid.seq (omega (arith, item.wid.in_range.1)),
        (
          count_read 4 item.stamp.clock (omega (arith, item.stamp.in_range.1)),
          (higher 1 4 _ (omega arith) (vector_read n item.deps are), (update_read is_whole item.program.update.items kept, tt)),
        ),
      ),
    ) in
    array_read 5 (string (codes "held") ∷ count_json place.index ∷ updating_json is_whole item n ∷ [])
    (text_read 5 (codes "held"), (count_read 5 place.index (omega (arith, place.in_range)), (updating, tt)))

-- ---- what it says

pub integer_is : (n : ℤ) → FitsSigned w64 n → IntegerIs (number (of_integer n)) n
integer_is (pos n) fits = let small : n < 2 ^ 63 = omega (arith, fits) in (of_integer (pos n), refl, grind (arith, tests))
integer_is (negsuc n) fits = (of_integer (negsuc n), refl, refl)

pub value_is : (v : Value) → IsValue v → ValueIs (value_json v) v
value_is (Num n) kept = integer_is n kept
value_is (Text text) kept = (refl, kept.0)

term_is : (t : Term) → IsTerm t → TermIs (term_json t) t
term_is (Lit v) kept = value_is v kept
term_is (Copy key) kept = record { key_data = string key; form_is = refl; key_is = (refl, kept) }
term_is (Plus key n) kept = record {
  key_data = string key;
  last_data = number (of_integer n);
  form_is = refl;
  key_is = (refl, kept.0);
  last_is = integer_is n kept.1;
}

op_is : (o : Op) → IsOp o → OpIs (op_json o) o
op_is (Put key t) kept = record {
  key_data = string key;
  last_data = term_json t;
  form_is = refl;
  key_is = (refl, kept.0);
  last_is = term_is t kept.1;
}
op_is (Del key) kept = record { key_data = string key; form_is = refl; key_is = (refl, kept) }

pub ops_are : (ops : List Op) → AllByRecursion IsOp ops → AllZip OpIs (map op_json ops) ops
ops_are [] kept = tt
ops_are (o ∷ ops) kept = (op_is o kept.0, ops_are ops kept.1)

pub update_is : (is_whole : Bool) (p : Program) → p.check.items ≡ [] → p.merge.items ≡ [] → AllByRecursion IsOp p.update.items → length p.update.items ≤ MAX_OPS
    → ProgramIs (update_json is_whole p.update.items) p
update_is false p no_check no_merge kept few = record {
  members = member (codes "update") (list_json op_json p.update.items) no_members;
  object_is = refl;
  known = (inr (inr refl), tt);
  check = record { data_of = []; member_is = missing refl refl; fits = omega arith; each = subst (λ xs. AllZip CondIs [] xs) (sym no_check) tt };
  merge = record { data_of = []; member_is = missing refl refl; fits = omega arith; each = subst (λ xs. AllZip AltIs [] xs) (sym no_merge) tt };
  update = record {
    data_of = map op_json p.update.items;
    member_is = present refl;
    fits = simp length-map few;
    each = ops_are p.update.items kept;
  };
}
update_is true p no_check no_merge kept few = record {
  members = member (codes "check") (array no_items)
      (member (codes "merge") (array no_items) (member (codes "update") (list_json op_json p.update.items) no_members));
  object_is = refl;
  known = (inl refl, (inr (inl refl), (inr (inr refl), tt)));
  check = record { data_of = []; member_is = present refl; fits = omega arith; each = subst (λ xs. AllZip CondIs [] xs) (sym no_check) tt };
  merge = record { data_of = []; member_is = present refl; fits = omega arith; each = subst (λ xs. AllZip AltIs [] xs) (sym no_merge) tt };
  update = record {
    data_of = map op_json p.update.items;
    member_is = present refl;
    fits = simp length-map few;
    each = ops_are p.update.items kept;
  };
}

held_is : (is_whole : Bool) (place : ServerId) (item : Write) (n : ℕ) → AreCounts item.deps → IsCutTo n item.deps
    → ProgramIs (update_json is_whole item.program.update.items) item.program → HeldIs (update_held_json is_whole place.index item n) place.index item n
held_is is_whole place item n are cut program = record {
  place_data = count_json place.index;
  origin_data = count_json item.wid.origin.index;
  seq_data = count_json item.wid.seq;
  clock_data = count_json item.stamp.clock;
  deps_data = vector_json n item.deps;
  program_data = update_json is_whole item.program.update.items;
  form_is = refl;
  place_is = refl;
  place_in_range = place.in_range;
  origin_is = refl;
  seq_is = refl;
  clock_is = refl;
  deps_are = vector_is n item.deps are cut;
  program_is = program;
}

-- bytes of those tokens spell the Write that is held
pub held_spelled : (is_whole : Bool) (place : ServerId) (item : Write) (n : ℕ) (bytes : List ℕ) → length bytes ≤ MAX_LINE_BYTES → IsUtf8 bytes
    → AreCounts item.deps → IsCutTo n item.deps → AllByRecursion IsOp item.program.update.items → length item.program.update.items ≤ MAX_OPS
    → item.program.check.items ≡ [] → item.program.merge.items ≡ [] → tokens bytes ≡ tokens_of (update_held_json is_whole place.index item n)
    → Spells bytes (held place.index item n)
held_spelled is_whole place item n bytes short text are cut kept few no_check no_merge same = record {
  in_length = short;
  utf8 = text;
  json = update_held_json is_whole place.index item n;
  json_is = read_again bytes 6 (update_held_json is_whole place.index item n) (omega arith) (held_read is_whole place item n are kept) same;
  line_is = held_is is_whole place item n are cut (update_is is_whole item.program no_check no_merge kept few);
}
