-- Programs that are read are so spelled, by the table; and those that are so spelled are read.
use Rattle.std.proofs.Common.{◌≡◌, inl, inr, ℕ, true, false, cond, nat_lt, List, [], ◌∷◌, length, Option, None, Some, Ok, Err, codes, refl, sym, ap, ◌∙◌, subst, arith, tests}
use Rattle.std.specs.List.{AllZip, list_all}
use Rattle.std.specs.Option.{option_map_or}
use Rattle.serde_json.specs.Data.{Data, array, object, Members}
use Rattle.serde_json.specs.Find.{as_array, as_object, get}
use Rattle.serde_json.specs.View.{items_of}
use Rattle.bayou_base.specs.declared.limits.TheConstants.{MAX_CONDITIONS, MAX_OPS, MAX_ALTERNATIVES}
use Rattle.bayou_lang.specs.declared.program.Alt.{Alt}
use Rattle.bayou_lang.specs.declared.program.Program.{Program}
use Rattle.bayou_lang.specs.declared.program.ProgramFault.{ProgramFault}
use Rattle.bayou_lang.specs.declared.program.ProgramFault.TheVariants.{TooManyConds, TooManyOps, TooManyAlts}
use Rattle.bayou_text.specs.declared.line.LineFault.TheVariants as fault
use Rattle.bayou_text.specs.declared.line.Shape.TheVariants.{Form}
use Rattle.bayou_text.specs.Laws.Inner.PartTable.{op_found, op_read, cond_found, cond_read}
use Rattle.bayou_text.specs.Laws.Inner.Readers.{bound, chosen, or_true, there, same_word, listed_items, array_listed, object_of, all_of, of_all}
use Rattle.bayou_text.specs.Parts.{op_in, cond_in}
use Rattle.bayou_text.specs.Programs.{list_in, list_of, few_in, conds_in, ops_in, is_alt_name, alt_lists_in, alt_in, alts_in, is_member_name, lists_in, program_in}
use Rattle.bayou_text.specs.Reading.{Parsed, ◌>>=◌, listed, names, all_in}
use Rattle.bayou_text.specs.Table.{OpIs, CondIs, MemberIs, missing, present, ListIs, IsAltName, AltIs, IsProgramName, ProgramIs}

-- ---- lists

member_from : (name : List ℕ) (d : Data) (o : Option Data) (ds : List Data) → get name d ≡ o
    → option_map_or list_in o (Ok []) ≡ Ok ds → MemberIs name d ds
member_from name d None ds was e = let same : [] ≡ ds = cc in missing was (sym same)
member_from name d (Some found) ds was e =
    let some = there (λ items. Ok (listed items)) (as_array found) (fault.BadShape Form) ds e in
    let same : listed some.0 ≡ ds = cc in
    present (was ∙ ap Some (array_listed found some.0 some.1 ∙ ap (λ es. array (items_of es)) same))

member_found : (name : List ℕ) (d : Data) (ds : List Data) → list_of name d ≡ Ok ds → MemberIs name d ds
member_found name d ds e = member_from name d (get name d) ds refl e

member_read : (name : List ℕ) (d : Data) (ds : List Data) → MemberIs name d ds → list_of name d ≡ Ok ds
member_read name d ds (missing none empty) = rw (none, empty)
member_read name d ds (present some) = rw some (ap Ok (listed_items ds))

module _ {A : Type 0} (one_in : Data → Parsed A) (Is : Data → A → Type 0) where
  each_found : ((d : Data) (x : A) → one_in d ≡ Ok x → Is d x) → (ds : List Data) (xs : List A)
      → all_in one_in ds ≡ Ok xs → AllZip Is ds xs
  each_found found [] [] e = tt
  each_found found [] (x ∷ xs) e = absurd (cc)
  each_found found (d ∷ ds) xs e =
      let one = bound (one_in d) (λ one. all_in one_in ds >>= λ others. Ok (one ∷ others)) xs e in
      let others = bound (all_in one_in ds) (λ others. Ok (one.0 ∷ others)) xs one.2 in
      let same : one.0 ∷ others.0 ≡ xs = cc in
      subst (λ (all : List A). AllZip Is (d ∷ ds) all) same (
        found d one.0 one.1,
        each_found found ds others.0 others.1,
      )

  each_read : ((d : Data) (x : A) → Is d x → one_in d ≡ Ok x) → (ds : List Data) (xs : List A)
      → AllZip Is ds xs → all_in one_in ds ≡ Ok xs
  each_read read [] [] h = refl
  each_read read [] (x ∷ xs) h = absurd h
  each_read read (d ∷ ds) [] h = absurd h
  each_read read (d ∷ ds) (x ∷ xs) h = rw (read d x h.0, each_read read ds xs h.1)

  few_found : ((d : Data) (x : A) → one_in d ≡ Ok x → Is d x) → (most : ℕ) (many : ProgramFault)
      (name : List ℕ) (d : Data) (xs : List A) → (list_of name d >>= few_in most many one_in) ≡ Ok xs
      → ListIs Is most name d xs
  few_found found most many name d xs e =
      let some = bound (list_of name d) (few_in most many one_in) xs e in
      elim (chosen (nat_lt most (length some.0)) (Err (fault.Program many)) (all_in one_in some.0) (Ok xs)
      some.2) [
        | inl h ↦ absurd (cc)
        | inr h ↦ record {
          data_of = some.0;
          member_is = member_found name d some.0 some.1;
          fits = grind (arith, tests);
          each = each_found found some.0 xs h.1;
        }
      ]

  few_read : ((d : Data) (x : A) → Is d x → one_in d ≡ Ok x) → (most : ℕ) (many : ProgramFault)
      (name : List ℕ) (d : Data) (xs : List A) → ListIs Is most name d xs
      → (list_of name d >>= few_in most many one_in) ≡ Ok xs
  few_read read most many name d xs is =
      let short : nat_lt most (length is.data_of) ≡ false = grind (arith, tests, is.fits) in
      rw (member_read name d is.data_of is.member_is) (rw short (each_read read is.data_of xs is.each))

-- ---- alternatives

alt_name_found : (name : List ℕ) → is_alt_name name ≡ true → IsAltName name
alt_name_found name e = elim (or_true _ _ e) [
  | inl ops ↦ inl (same_word name (codes "ops") ops)
  | inr when ↦ inr (same_word name (codes "when") when)
]

alt_name_read : (name : List ℕ) → IsAltName name → is_alt_name name ≡ true
alt_name_read name (inl e) = rw e
alt_name_read name (inr e) = rw e

alt_lists_found : (d : Data) (found : Members) (a : Alt) → d ≡ object found
    → list_all is_alt_name (names found) ≡ true → alt_lists_in d ≡ Ok a → AltIs d a
alt_lists_found d found a is known e =
    let when = bound (conds_in (codes "when") d) _ a e in
    let ops = bound (ops_in (codes "ops") d) _ a when.2 in
    let same : record { when = record { items = when.0 }; ops = record { items = ops.0 } } ≡ a = cc in
    subst (λ (b : Alt). AltIs d b) same (record {
      members = found;
      object_is = is;
      known = all_of is_alt_name IsAltName alt_name_found (names found) known;
      conditions = few_found cond_in CondIs cond_found MAX_CONDITIONS TooManyConds (codes "when") d when.0 when.1;
      steps = few_found op_in OpIs op_found MAX_OPS TooManyOps (codes "ops") d ops.0 ops.1;
    })

alt_found : (d : Data) (a : Alt) → alt_in d ≡ Ok a → AltIs d a
unfolding alt_in
alt_found d a e =
    let some = there (λ members. cond (list_all is_alt_name (names members)) (alt_lists_in d)
    (Err (fault.BadShape Form))) (as_object d) (fault.BadShape Form) a e in
    elim (chosen (list_all is_alt_name (names some.0)) (alt_lists_in d) (Err (fault.BadShape Form))
    (Ok a) some.2) [
      | inl h ↦ alt_lists_found d some.0 a (object_of d some.0 some.1) h.0 h.1
      | inr h ↦ absurd (cc)
    ]

alt_read : (d : Data) (a : Alt) → AltIs d a → alt_in d ≡ Ok a
unfolding alt_in
alt_read d a is =
    let object_of_it : as_object d ≡ Some is.members = rw is.object_is in
    let when = few_read cond_in CondIs cond_read MAX_CONDITIONS TooManyConds (codes "when") d a.when.items
    is.conditions in
    let ops = few_read op_in OpIs op_read MAX_OPS TooManyOps (codes "ops") d a.ops.items is.steps in
    rw (object_of_it, of_all is_alt_name IsAltName alt_name_read (names is.members) is.known) (rw (when, ops))

-- ---- programs

name_found : (name : List ℕ) → is_member_name name ≡ true → IsProgramName name
name_found name e = elim (or_true _ _ e) [
  | inr update ↦ inr (inr (same_word name (codes "update") update))
  | inl others ↦ elim (or_true _ _ others) [
    | inl check ↦ inl (same_word name (codes "check") check)
    | inr merge ↦ inr (inl (same_word name (codes "merge") merge))
  ]
]

name_read : (name : List ℕ) → IsProgramName name → is_member_name name ≡ true
name_read name (inl e) = rw e
name_read name (inr (inl e)) = rw e
name_read name (inr (inr e)) = rw e

lists_found : (d : Data) (found : Members) (p : Program) → d ≡ object found
    → list_all is_member_name (names found) ≡ true → lists_in d ≡ Ok p → ProgramIs d p
lists_found d found p is known e =
    let check = bound (conds_in (codes "check") d) _ p e in
    let update = bound (ops_in (codes "update") d) _ p check.2 in
    let merge = bound (alts_in (codes "merge") d) _ p update.2 in
    let same : record {
      check = record { items = check.0 };
      update = record { items = update.0 };
      merge = record { items = merge.0 };
    } ≡ p = cc in
    subst (λ (q : Program). ProgramIs d q) same (record {
      members = found;
      object_is = is;
      known = all_of is_member_name IsProgramName name_found (names found) known;
      check = few_found cond_in CondIs cond_found MAX_CONDITIONS TooManyConds (codes "check") d check.0 check.1;
      merge = few_found alt_in AltIs alt_found MAX_ALTERNATIVES TooManyAlts (codes "merge") d merge.0 merge.1;
      update = few_found op_in OpIs op_found MAX_OPS TooManyOps (codes "update") d update.0 update.1;
    })

pub program_found : (d : Data) (p : Program) → program_in d ≡ Ok p → ProgramIs d p
unfolding program_in
program_found d p e =
    let some = there (λ members. cond (list_all is_member_name (names members)) (lists_in d)
    (Err (fault.BadShape Form))) (as_object d) (fault.BadShape Form) p e in
    elim (chosen (list_all is_member_name (names some.0)) (lists_in d) (Err (fault.BadShape Form))
    (Ok p) some.2) [
      | inl h ↦ lists_found d some.0 p (object_of d some.0 some.1) h.0 h.1
      | inr h ↦ absurd (cc)
    ]

pub program_read : (d : Data) (p : Program) → ProgramIs d p → program_in d ≡ Ok p
unfolding program_in
program_read d p is =
    let object_of_it : as_object d ≡ Some is.members = rw is.object_is in
    let check = few_read cond_in CondIs cond_read MAX_CONDITIONS TooManyConds (codes "check") d p.check.items
    is.check in
    let update = few_read op_in OpIs op_read MAX_OPS TooManyOps (codes "update") d p.update.items is.update in
    let merge = few_read alt_in AltIs alt_read MAX_ALTERNATIVES TooManyAlts (codes "merge") d p.merge.items
    is.merge in
    rw (object_of_it, of_all is_member_name IsProgramName name_read (names is.members) is.known)
    (rw (check, update, merge))
