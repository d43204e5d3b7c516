-- What stands beside the Writes that a server holds: the tags that it knows.
use Rattle.std.proofs.Common.{◌≡◌, ◌≢◌, ℕ, zero, suc, ◌==◌, true, false, cond, List, [], ◌∷◌, Option, None, Some, Contains, length, map, ap, refl, arith}
use Rattle.std.specs.List.{AllZip}
use Rattle.std.proofs.lemmas.Bool.Decides.{nat_tests}
use Rattle.bayou_base.specs.declared.tag.Tag.{Tag}
use Rattle.bayou_lang.specs.declared.write.Write.{Write}
use Rattle.bayou_server.specs.Server.{records}
use Rattle.bayou_wire.specs.declared.record.Record.{Record}
use Rattle.bayou_world.specs.Machine.{Made, tag_at, writes}
use Rattle.bayou_world.proofs.Lists.{Contains-here, Contains-later}

-- the tag of a Write that the server made
pub own_tag : (place : ℕ) (made : Made) → made.write.wid.origin.index ≡ place → tag_at place made ≡ Some made.tag
own_tag place made own =
    let is : (made.write.wid.origin.index == place) ≡ true = grind (arith, nat_tests) in
    ap (λ b. cond b (Some made.tag) None) is

-- it knows none of another's
pub no_tag : (place : ℕ) (made : Made) → made.write.wid.origin.index ≢ place → tag_at place made ≡ None
no_tag place made foreign =
    elim (made.write.wid.origin.index == place) as (λ b. (made.write.wid.origin.index == place) ≡ b → cond b (Some made.tag) None ≡ None) [
      | true ↦ λ is. absurd (foreign (grind (arith, nat_tests)))
      | false ↦ λ isnt. refl
    ] refl

-- what it knows is the tag
pub its_tag : (place : ℕ) (made : Made) (tag : Tag) → tag_at place made ≡ Some tag → made.tag ≡ tag
its_tag place made tag is =
    elim (made.write.wid.origin.index == place) as (λ b. cond b (Some made.tag) None ≡ Some tag → made.tag ≡ tag) [
      | true ↦ λ known. some_tag made.tag tag known
      | false ↦ λ none. absurd (no_some tag none)
    ] is
  where
    some_tag : (a b : Tag) → Some a ≡ Some b → a ≡ b
    some_tag a b both = cc

    no_some : (a : Tag) → None ≡ Some a → ⊥
    no_some a both = cc

-- ---- each Write with the tag beside it

-- the tag of what is kept is one of the tags
pub tag_kept : (held : List Write) (tags : List (Option Tag)) (kept : Record) → Contains (records held tags) kept → Contains tags kept.tag
tag_kept [] tags kept (k, within, is) = absurd (omega (arith, within))
tag_kept (write ∷ held) [] kept (k, within, is) = absurd (omega (arith, within))
tag_kept (write ∷ held) (tag ∷ tags) kept (zero, within, is) = (0, omega arith, ap (λ (r : Record). r.tag) is)
tag_kept (write ∷ held) (tag ∷ tags) kept (suc k, within, is) = Contains-later tag tags kept.tag (tag_kept held tags kept (k, omega (arith, within), is))

-- and what is kept is so of one of the Writes, where a server knows the tags of its own
pub kept_of : (place : ℕ) (held : List Made) (kept : Record) → Contains (records (writes held) (map (tag_at place) held)) kept
    → (made : Made) × Contains held made × (made.write ≡ kept.write) × (tag_at place made ≡ kept.tag)
kept_of place [] kept (k, within, is) = absurd (omega (arith, within))
kept_of place (made ∷ held) kept (zero, within, is) = (made, Contains-here made held, ap (λ (r : Record). r.write) is, ap (λ (r : Record). r.tag) is)
kept_of place (made ∷ held) kept (suc k, within, is) =
    let rest = kept_of place held kept (k, omega (arith, within), is) in (rest.0, Contains-later made held rest.0 rest.1, rest.2, rest.3)

-- where there is one tag each, the Writes and the tags follow from what is kept
pub kept_writes : (held : List Write) (tags : List (Option Tag)) → length tags ≡ length held → map (λ (r : Record). r.write) (records held tags) ≡ held
kept_writes [] tags same = refl
kept_writes (write ∷ held) [] same = absurd (omega (arith, same))
kept_writes (write ∷ held) (tag ∷ tags) same = ap (λ (l : List Write). write ∷ l) (kept_writes held tags (omega (arith, same)))

pub kept_tags : (held : List Write) (tags : List (Option Tag)) → length tags ≡ length held → map (λ (r : Record). r.tag) (records held tags) ≡ tags
kept_tags [] [] same = refl
kept_tags [] (tag ∷ tags) same = absurd (omega (arith, same))
kept_tags (write ∷ held) [] same = absurd (omega (arith, same))
kept_tags (write ∷ held) (tag ∷ tags) same = ap (λ (l : List (Option Tag)). tag ∷ l) (kept_tags held tags (omega (arith, same)))

-- of a list that stands beside another there is one for each
pub one_each : {A B : Type 0} (R : A → B → Type 0) (xs : List A) (ys : List B) → AllZip R xs ys → length ys ≡ length xs
one_each R [] [] each = refl
one_each R [] (y ∷ ys) each = absurd each
one_each R (x ∷ xs) [] each = absurd each
one_each R (x ∷ xs) (y ∷ ys) each = ap suc (one_each R xs ys each.1)
