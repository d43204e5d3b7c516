-- Of which keys a request asks, by the query of its target (URL Standard, section 5.1): this project's own.
use Rattle.std.specs.Prelude.{◌≡◌, ℕ, List, [], ◌++◌, Option, Some, None}
use Rattle.form_urlencoded.specs.Form.{DecodesTo}
use Rattle.bayou_web.specs.declared.asked.TheConstants.{PREFIX}

-- of the keys that begin with what follows `prefix=`; of all where there is no query
abbrev pub AsksOf : (query : Option (List ℕ)) → (prefix : List ℕ) → Type 0
AsksOf None prefix = prefix ≡ []
AsksOf (Some query) prefix = (spelled : List ℕ) × (query ≡ PREFIX.now ++ spelled) × DecodesTo spelled prefix

-- there is a query, and it doesn't begin so
abbrev pub AsksNothing : (query : Option (List ℕ)) → Type 0
AsksNothing None = ⊥
AsksNothing (Some query) = (spelled : List ℕ) → ¬ (query ≡ PREFIX.now ++ spelled)
