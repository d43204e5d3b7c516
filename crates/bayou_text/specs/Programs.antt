-- Programs and alternatives: objects of lists, each of which may be missing.
use Rattle.std.specs.Prelude.{ℕ, Bool, ◌||◌, List, [], Ok, Err, codes, length, nat_lt, if◌then◌else◌}
use Rattle.std.specs.Option.{option_map_or, ok_or}
use Rattle.std.specs.List.{list_all}
use Rattle.std.specs.Str.{bytes_eq}
use Rattle.serde_json.specs.Data.{Data}
use Rattle.serde_json.specs.Find.{as_array, as_object, get}
use Rattle.bayou_base.specs.declared.limits.TheConstants.{MAX_CONDITIONS, MAX_OPS, MAX_ALTERNATIVES}
use Rattle.bayou_lang.specs.declared.program.Op.{Op}
use Rattle.bayou_lang.specs.declared.program.Cond.{Cond}
use Rattle.bayou_lang.specs.declared.program.Alt.{Alt}
use Rattle.bayou_lang.specs.declared.program.Program.{Program}
use Rattle.bayou_lang.specs.declared.program.ProgramFault.{ProgramFault}
use Rattle.bayou_lang.specs.declared.program.ProgramFault.TheVariants.{TooManyConds, TooManyOps, TooManyAlts}
use Rattle.bayou_text.specs.declared.line.LineFault.TheVariants as fault
use Rattle.bayou_text.specs.declared.line.Shape.TheVariants.{Form}
use Rattle.bayou_text.specs.Parts.{op_in, cond_in}
use Rattle.bayou_text.specs.Reading.{Parsed, ◌>>=◌, listed, names, all_in}

abbrev pub list_in : Data → Parsed (List Data)
list_in d = ok_or (as_array d) (fault.BadShape Form) >>= λ items. Ok (listed items)

-- a list, empty where the object has no such member
abbrev pub list_of : List ℕ → Data → Parsed (List Data)
list_of name d = option_map_or list_in (get name d) (Ok [])

-- that there are too many is reported before the faults of each
abbrev pub few_in : {A : Type 0} → ℕ → ProgramFault → (Data → Parsed A) → List Data → Parsed (List A)
few_in most many one_in ds = if nat_lt most (length ds) then Err (fault.Program many) else all_in one_in ds

abbrev pub conds_in : List ℕ → Data → Parsed (List Cond)
conds_in name d = list_of name d >>= few_in MAX_CONDITIONS TooManyConds cond_in

abbrev pub ops_in : List ℕ → Data → Parsed (List Op)
ops_in name d = list_of name d >>= few_in MAX_OPS TooManyOps op_in

abbrev pub is_alt_name : List ℕ → Bool
is_alt_name name = bytes_eq name (codes "ops") || bytes_eq name (codes "when")

-- the conditions and the ops, in this order
abbrev pub alt_lists_in : Data → Parsed Alt
alt_lists_in d = do
  conditions ← conds_in (codes "when") d
  steps ← ops_in (codes "ops") d
  Ok (record { when = record { items = conditions }; ops = record { items = steps } })

-- {"ops":[op, ..],"when":[condition, ..]}: an unknown member is reported first
unfoldable pub alt_in : Data → Parsed Alt
alt_in d = ok_or (as_object d) (fault.BadShape Form) >>= λ members.
    if list_all is_alt_name (names members) then alt_lists_in d else Err (fault.BadShape Form)

abbrev pub alts_in : List ℕ → Data → Parsed (List Alt)
alts_in name d = list_of name d >>= few_in MAX_ALTERNATIVES TooManyAlts alt_in

abbrev pub is_member_name : List ℕ → Bool
is_member_name name =
    bytes_eq name (codes "check") || bytes_eq name (codes "merge") || bytes_eq name (codes "update")

-- the check, the update and the merge procedure, in this order
abbrev pub lists_in : Data → Parsed Program
lists_in d = do
  conditions ← conds_in (codes "check") d
  steps ← ops_in (codes "update") d
  alternatives ← alts_in (codes "merge") d
  Ok (record {
    check = record { items = conditions };
    update = record { items = steps };
    merge = record { items = alternatives };
  })

-- {"check":[condition, ..],"merge":[alternative, ..],"update":[op, ..]}: an unknown member is reported first
unfoldable pub program_in : Data → Parsed Program
program_in d = ok_or (as_object d) (fault.BadShape Form) >>= λ members.
    if list_all is_member_name (names members) then lists_in d else Err (fault.BadShape Form)
