-- What a claim does.
use Rattle.std.proofs.Common.{◌≡◌, ◌∙◌, ◌+◌, ℕ, false, List, [], ◌∷◌, ◌++◌, Option, None, Some, IfOk, IsSome, Result, Ok, Err, All, ap, arith, is_none, length, refl, subst, sym}
use Rattle.std.proofs.lemmas.List.Elements.{All-head, All-tail}
use Rattle.std.specs.List.{AllZip}
use Rattle.std.specs.Option.{option_map_or}
use Rattle.std.specs.declared.alloc.AllocError.{AllocError}
use Rattle.bayou_base.specs.declared.value.Value.{Value}
use Rattle.bayou_lang.specs.declared.eval.Outcome.TheVariants.{Merged, Nothing}
use Rattle.bayou_lang.specs.declared.program.Alt.{Alt}
use Rattle.bayou_lang.specs.declared.program.Cond.{Cond}
use Rattle.bayou_lang.specs.declared.program.Cond.TheVariants.{Absent}
use Rattle.bayou_lang.specs.declared.program.Op.{Op}
use Rattle.bayou_lang.specs.declared.program.Op.TheVariants.{Put}
use Rattle.bayou_lang.specs.declared.program.Program.{Program}
use Rattle.bayou_lang.specs.declared.program.Term.TheVariants.{Lit}
use Rattle.bayou_lang.specs.Database.{Database, changed, value_at}
use Rattle.bayou_lang.specs.Meaning.{Effect, after_alternative, merged}
use Rattle.bayou_person.specs.Doing.{Claims, IsTaken}
use Rattle.bayou_person.specs.Inner.Alternatives.{IsFallback}

pub present : (o : Option Value) → IsSome o → is_none o ≡ false
present None some = absurd (cc)
present (Some value) some = refl

-- an alternative fits where its key is absent
fits : (value : Value) (alt : Alt) (key : List ℕ) (database : Database) → IsFallback value alt key → value_at database key ≡ None
    → after_alternative alt database ≡ Some (changed key (Some value) database)
fits value alt key database is none = rw (is.when, is.ops, none) refl

-- and fails where it is present
fails : (value : Value) (alt : Alt) (key : List ℕ) (database : Database) → IsFallback value alt key → IsSome (value_at database key)
    → after_alternative alt database ≡ None
fails value alt key database is some = rw (is.when, present (value_at database key) some) refl

abbrev chosen : ℕ → Effect → Option Database → Effect
chosen number others made = option_map_or {T = Database} {U = Effect} (λ after. (Merged number, after)) made others

pub merged_none : (value : Value) (database : Database) (alts : List Alt) (keys : List (List ℕ)) (number : ℕ) → AllZip (IsFallback value) alts keys
    → All (IsTaken database) keys → merged number alts database ≡ (Nothing, database)
merged_none value database [] [] number zip all = refl
merged_none value database [] (key ∷ keys) number zip all = absurd zip
merged_none value database (alt ∷ alts) [] number zip all = absurd zip
merged_none value database (alt ∷ alts) (key ∷ keys) number (is, zip) all =
    ap (chosen number (merged (number + 1) alts database)) (fails value alt key database is (All-head (IsTaken database) key keys all))
    ∙ merged_none value database alts keys (number + 1) zip (All-tail (IsTaken database) key keys all)

pub merged_at : (value : Value) (database : Database) (alts : List Alt) (before : List (List ℕ)) (key : List ℕ) (after : List (List ℕ)) (number : ℕ)
    → AllZip (IsFallback value) alts (before ++ key ∷ after) → All (IsTaken database) before → value_at database key ≡ None
    → merged number alts database ≡ (Merged (number + length before), changed key (Some value) database)
merged_at value database [] [] key after number zip all none = absurd zip
merged_at value database [] (other ∷ before) key after number zip all none = absurd zip
merged_at value database (alt ∷ alts) [] key after number (is, zip) all none =
    ap (chosen number (merged (number + 1) alts database)) (fits value alt key database is none)
    ∙ ap (λ (at : ℕ). (Merged at, changed key (Some value) database)) (omega arith)
merged_at value database (alt ∷ alts) (other ∷ before) key after number (is, zip) all none =
    ap (chosen number (merged (number + 1) alts database)) (fails value alt other database is (All-head (IsTaken database) other before all))
    ∙ merged_at value database alts before key after (number + 1) zip (All-tail (IsTaken database) other before all) none
    ∙ ap (λ (at : ℕ). (Merged at, changed key (Some value) database)) (omega arith)

-- so the program with this check, this update and these alternatives claims the keys
pub claims : (key : List ℕ) (others : List (List ℕ)) (value : Value) (check : List Cond) (update : List Op) (alts : List Alt) (made : Result Program AllocError)
    → check ≡ Absent key ∷ [] → update ≡ Put key (Lit value) ∷ [] → AllZip (IsFallback value) alts others
    → IfOk made (λ program. (program.check.items ≡ check) × (program.update.items ≡ update) × (program.merge.items ≡ alts)) → IfOk made (Claims key others value)
claims key others value check update alts (Err fault) is_check is_update zip is = tt
claims key others value check update alts (Ok program) is_check is_update zip is =
    let checks : program.check.items ≡ Absent key ∷ [] = is.0 ∙ is_check in
    let updates : program.update.items ≡ Put key (Lit value) ∷ [] = is.1 ∙ is_update in
    let merges : AllZip (IsFallback value) program.merge.items others = subst (λ (l : List Alt). AllZip (IsFallback value) l others) (sym is.2) zip in
    record {
      first = λ database none. rw (checks, updates, none) refl;
      later = λ database before other after split taken all none.
          let here = subst (AllZip (IsFallback value) program.merge.items) split merges in
          rw (checks, present (value_at database key) taken)
          (merged_at value database program.merge.items before other after 0 here all none ∙ ap (λ (at : ℕ). (Merged at, changed other (Some value) database)) (omega arith));
      none = λ database taken all. rw (checks, present (value_at database key) taken) (merged_none value database program.merge.items others 0 merges all);
    }
