-- What the definitions of meaning come to.
use Rattle.std.proofs.Common.{◌≡◌, ℕ, zero, suc, ◌+◌, ◌<◌, Bool, true, false, cond, List, [], ◌∷◌, Option, None, Some, slice_get, subst, ap, sym, ◌∙◌, refl, arith}
use Rattle.std.specs.Option.{option_map_or}
use Rattle.bayou_lang.specs.declared.eval.Outcome.TheVariants.{Updated, Merged, Nothing}
use Rattle.bayou_lang.specs.declared.program.Op.{Op}
use Rattle.bayou_lang.specs.declared.program.Alt.{Alt}
use Rattle.bayou_lang.specs.declared.program.Program.{Program}
use Rattle.bayou_lang.specs.Meaning.{Effect, after_alternative, after_ops, all_hold, mean, merged, updated}
use Rattle.bayou_lang.specs.Database.{Database}

-- the effect of an alternative, where it made something, else that of the others
abbrev chosen : ℕ → Effect → Option Database → Effect
chosen number others made = option_map_or {T = Database} {U = Effect} (λ after. (Merged number, after)) made others

-- the effect of an update, where it made something
abbrev tried : Database → Option Database → Effect
tried database made = option_map_or {T = Database} {U = Effect} (λ after. (Updated, after)) made (Nothing, database)

merged-nothing : (number : ℕ) (alts : List Alt) (database : Database) → (merged number alts database).0 ≡ Nothing → (merged number alts database).1 ≡ database
merged-nothing number [] database h = refl
merged-nothing number (alt ∷ alts) database h =
    let others = merged (number + 1) alts database in
    let P : Option Database → Type 0 = λ made. (chosen number others made).0 ≡ Nothing → (chosen number others made).1 ≡ database in
    elim (after_alternative alt database) as P [
      | None ↦ merged-nothing (number + 1) alts database
      | Some after ↦ λ e. cc
    ] h

updated-nothing : (ops : List Op) (database : Database) → (updated ops database).0 ≡ Nothing → (updated ops database).1 ≡ database
updated-nothing ops database h =
    let P : Option Database → Type 0 = λ made. (tried database made).0 ≡ Nothing → (tried database made).1 ≡ database in
    elim (after_ops ops database) as P [ None ↦ λ e. refl | Some after ↦ λ e. cc ] h

-- what is tried where the check holds, and where it fails
abbrev by_check : Program → Database → Bool → Effect
by_check program database held = cond held (updated program.update.items database) (merged 0 program.merge.items database)

pub mean-nothing : (program : Program) (database : Database) → (mean program database).0 ≡ Nothing → (mean program database).1 ≡ database
mean-nothing program database h =
    let P : Bool → Type 0 = λ held. (by_check program database held).0 ≡ Nothing → (by_check program database held).1 ≡ database in
    elim (all_hold program.check.items database) as P [
      | true ↦ updated-nothing program.update.items database
      | false ↦ merged-nothing 0 program.merge.items database
    ] h

merged-not_updated : (number : ℕ) (alts : List Alt) (database : Database) → (merged number alts database).0 ≡ Updated → ⊥
merged-not_updated number [] database h = cc
merged-not_updated number (alt ∷ alts) database h =
    let others = merged (number + 1) alts database in
    let P : Option Database → Type 0 = λ made. (chosen number others made).0 ≡ Updated → ⊥ in
    elim (after_alternative alt database) as P [ None ↦ merged-not_updated (number + 1) alts database | Some after ↦ λ e. cc ] h

updated-all : (ops : List Op) (database : Database) → (updated ops database).0 ≡ Updated → after_ops ops database ≡ Some (updated ops database).1
updated-all ops database h =
    let P : Option Database → Type 0 = λ made. (tried database made).0 ≡ Updated → made ≡ Some (tried database made).1 in
    elim (after_ops ops database) as P [ None ↦ λ e. cc | Some after ↦ λ e. refl ] h

pub mean-updated : (program : Program) (database : Database) → (mean program database).0 ≡ Updated → (all_hold program.check.items database ≡ true) × (after_ops program.update.items database ≡ Some (mean program database).1)
mean-updated program database h =
    let P : Bool → Type 0 = λ held. (by_check program database held).0 ≡ Updated → (held ≡ true) × (after_ops program.update.items database ≡ Some (by_check program database held).1) in
    elim (all_hold program.check.items database) as P [
      | true ↦ λ e. (refl, updated-all program.update.items database e)
      | false ↦ λ e. absurd (merged-not_updated 0 program.merge.items database e)
    ] h

-- the alternative at this place is the first that fits, and makes this
record IsFirstThatFits (alts : List Alt) (database : Database) (place : ℕ) (after : Database) : Type 0 where
  alt : Alt
  here : slice_get alts place ≡ Some alt
  fits : after_alternative alt database ≡ Some after
  none_before : (earlier : ℕ) (other : Alt) → earlier < place → slice_get alts earlier ≡ Some other → after_alternative other database ≡ None

first_after : (alt : Alt) (alts : List Alt) (database : Database) (place : ℕ) (after : Database) → after_alternative alt database ≡ None → IsFirstThatFits alts database place after → IsFirstThatFits (alt ∷ alts) database (suc place) after
first_after alt alts database place after unfit h = record { alt = h.alt; here = h.here; fits = h.fits; none_before = none_before }
  where
    none_before : (earlier : ℕ) (other : Alt) → earlier < suc place → slice_get (alt ∷ alts) earlier ≡ Some other → after_alternative other database ≡ None
    none_before zero other below is = let same : alt ≡ other = cc in ap (λ (a : Alt). after_alternative a database) (sym same) ∙ unfit
    none_before (suc earlier) other below is = h.none_before earlier other (omega arith) is

merged-first : (number : ℕ) (alts : List Alt) (database : Database) (told : ℕ) → (merged number alts database).0 ≡ Merged told → (place : ℕ) × (told ≡ number + place) × IsFirstThatFits alts database place (merged number alts database).1
merged-first number [] database told h = absurd cc
merged-first number (alt ∷ alts) database told h =
    let others = merged (number + 1) alts database in
    let P : Option Database → Type 0 = λ made. after_alternative alt database ≡ made → (chosen number others made).0 ≡ Merged told → (place : ℕ) × (told ≡ number + place) × IsFirstThatFits (alt ∷ alts) database place (chosen number others made).1 in
    elim (after_alternative alt database) as P [
      | None ↦ λ unfit e.
          let rest = merged-first (number + 1) alts database told e in
          (suc rest.0, omega (arith, rest.1), first_after alt alts database rest.0 _ unfit rest.2)
      | Some after ↦ λ fits e.
          let same : number ≡ told = cc in
          (0, omega (arith, same), record { alt = alt; here = refl; fits = fits; none_before = λ earlier other below is. absurd (omega arith) })
    ] refl h

pub mean-merged : (program : Program) (database : Database) (number : ℕ) → (mean program database).0 ≡ Merged number → (all_hold program.check.items database ≡ false)
    × ((alt : Alt) × (slice_get program.merge.items number ≡ Some alt) × (after_alternative alt database ≡ Some (mean program database).1))
    × ((earlier : ℕ) (alt : Alt) → earlier < number → slice_get program.merge.items earlier ≡ Some alt → after_alternative alt database ≡ None)
mean-merged program database number h =
    let P : Bool → Type 0 = λ held. (by_check program database held).0 ≡ Merged number → (held ≡ false)
    × ((alt : Alt) × (slice_get program.merge.items number ≡ Some alt) × (after_alternative alt database ≡ Some (by_check program database held).1))
    × ((earlier : ℕ) (alt : Alt) → earlier < number → slice_get program.merge.items earlier ≡ Some alt → after_alternative alt database ≡ None) in
    elim (all_hold program.check.items database) as P [
      | true ↦ λ e. absurd (updated-not_merged program.update.items database number e)
      | false ↦ λ e.
          let first = merged-first 0 program.merge.items database number e in
          let same : first.0 ≡ number = omega (arith, first.1) in
          let Q : ℕ → Type 0 = λ place. ((alt : Alt) × (slice_get program.merge.items place ≡ Some alt) × (after_alternative alt database ≡ Some (merged 0 program.merge.items database).1))
          × ((earlier : ℕ) (alt : Alt) → earlier < place → slice_get program.merge.items earlier ≡ Some alt → after_alternative alt database ≡ None) in
          let moved = subst Q same ((first.2.alt, first.2.here, first.2.fits), first.2.none_before) in
          (refl, moved.0, moved.1)
    ] h
  where
    updated-not_merged : (ops : List Op) (m : Database) (n : ℕ) → (updated ops m).0 ≡ Merged n → ⊥
    updated-not_merged ops m n e =
        let P : Option Database → Type 0 = λ made. (tried m made).0 ≡ Merged n → ⊥ in
        elim (after_ops ops m) as P [ None ↦ λ f. cc | Some after ↦ λ f. cc ] e
