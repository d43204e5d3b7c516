-- The one spelling of an entry, and the spellings of other lines that most of them have, as the JSON tokens that they are made of, and what
-- the types of an entry keep.
use Rattle.std.specs.Prelude.{◌≡◌, ◌<◌, ◌^◌, ℕ, Bool, true, false, List, [], ◌∷◌, ◌++◌, Result, OnOk, codes, flat_map, ⊤}
use Rattle.json.specs.Token.{Token, begin_array, end_array, key as key_token}
use Rattle.json.specs.Tree.{json_tokens}
use Rattle.json.specs.Written.{Written}
use Rattle.serde_json.specs.Data.{Data, string, array, object, member, no_items, no_members}
use Rattle.serde_json.specs.Written.{outline}
use Rattle.bayou_base.specs.Vector.{AreCounts}
use Rattle.bayou_base.specs.declared.entry.Entry.{Entry}
use Rattle.bayou_base.specs.declared.entry.What.{What}
use Rattle.bayou_base.specs.declared.entry.What.TheVariants as what
use Rattle.bayou_lang.specs.Ranges.{IsKey}
use Rattle.bayou_lang.specs.declared.program.Cond.{Cond}
use Rattle.bayou_lang.specs.declared.program.Op.{Op}
use Rattle.bayou_lang.specs.declared.write.Write.{Write}
use Rattle.bayou_text.specs.Spelling.{cond_json, count_json, form, list_json, op_json, vector_json}
use Rattle.serde_json.specs.View.{items_of}

abbrev pub tokens_of : Data → List Token
tokens_of d = json_tokens (outline d)

-- those of each in turn
abbrev pub all_tokens : List Data → List Token
all_tokens ds = flat_map tokens_of ds

-- where it goes well, these tokens stand after what was written
abbrev pub Adds : {E : Type 0} → Result (Unit {0}) E → Written → Written → List Token → Type 0
Adds r old new ts = OnOk r ((new.before ≡ old.before) × (new.tokens ≡ old.tokens ++ ts))

-- what became of an operation, by its type
abbrev pub IsWhat : What → Type 0
IsWhat what.Refused = ⊤
IsWhat (what.Read key vector) = IsKey key × AreCounts vector
IsWhat (what.Write wid stamp deps) = AreCounts deps

-- an entry, by its type
abbrev pub IsEntry : Entry → Type 0
IsEntry told = (told.place < 2 ^ 32) × IsWhat told.what

-- what the line of an operation begins with
abbrev pub operation_head : List ℕ → ℕ → ℕ → List Data
operation_head word who place = string word ∷ count_json who ∷ count_json place ∷ []

-- ---- a Write whose program is an update alone

-- {"update":[op, ..]}, or the same after the empty "check" and "merge"
abbrev pub update_json : Bool → List Op → Data
update_json false ops = object (member (codes "update") (list_json op_json ops) no_members)
update_json true ops =
    object (member (codes "check") (array no_items)
    (member (codes "merge") (array no_items)
    (member (codes "update") (list_json op_json ops) no_members)))

-- what stands before the update
abbrev pub empty_tokens : Bool → List Token
empty_tokens false = []
empty_tokens true =
    key_token (codes "check") ∷ begin_array ∷ end_array ∷ key_token (codes "merge") ∷ begin_array ∷ end_array ∷ []

-- [origin, seq, clock, deps, program]
abbrev pub updating_json : Bool → Write → ℕ → Data
updating_json is_whole item n =
    array (items_of (count_json item.wid.origin.index ∷ count_json item.wid.seq ∷ count_json item.stamp.clock ∷ vector_json n item.deps
    ∷ update_json is_whole item.program.update.items ∷ []))

-- ["held", server, [origin, seq, clock, deps, program]]
abbrev pub update_held_json : Bool → ℕ → Write → ℕ → Data
update_held_json is_whole place item n = form (codes "held") (count_json place ∷ updating_json is_whole item n ∷ [])

-- ["write", session, server, program]
abbrev pub update_line_json : Bool → ℕ → ℕ → List Op → Data
update_line_json is_whole who place ops = form (codes "write") (count_json who ∷ count_json place ∷ update_json is_whole ops ∷ [])

-- ---- a Write whose program is a check and an update

-- {"check":[condition, ..],"update":[op, ..]}
abbrev pub checked_json : List Cond → List Op → Data
checked_json conditions ops =
    object (member (codes "check") (list_json cond_json conditions)
    (member (codes "update") (list_json op_json ops) no_members))

-- ["write", session, server, program]
abbrev pub checked_line_json : ℕ → ℕ → List Cond → List Op → Data
checked_line_json who place conditions ops =
    form (codes "write") (count_json who ∷ count_json place ∷ checked_json conditions ops ∷ [])
