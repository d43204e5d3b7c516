-- Dumps that were read.
use Rattle.std.proofs.Common.{◌≡◌, ℕ, zero, suc, ◌+◌, ◌<◌, ◌≤◌, ◌⊎◌, inl, inr, List, [], ◌∷◌, ◌++◌, Some, get_or, length, take, ap, sym, ◌∙◌, subst, arith}
use Rattle.std.specs.List.{slice_get}
use Rattle.std.proofs.lemmas.Bool.{cases_lt}
use Rattle.std.proofs.lemmas.List.{get_or_append_left, get_or_default, get_or_past, get_or_push, length_push, take_all, take_more}
use Rattle.std.proofs.lemmas.Option.{get_or_from_slice_get, slice_get-get_or, slice_get_within}
use Rattle.bayou_lang.specs.declared.write.Write.{Write}
use Rattle.bayou_lang.specs.Laws.Fitting.{AreFitting-empty, AreFitting-push}
use Rattle.bayou_lang.specs.Writes.{AreFitting}
use Rattle.bayou_judge.specs.Evidence.{AreGood, IsFirstBad, IsGood, IsGoodAt}
use Rattle.bayou_judge.specs.History.{dump_of}
use Rattle.bayou_judge.specs.Inner.Checks.{AreRead}
use Rattle.bayou_judge.specs.Inner.Index.{IsIndexOf, Tables}

-- a list is empty, or has a first element
at_most : (xs : List Write) (n : ℕ) → (length xs ≤ n) ⊎ ((write : Write) × (slice_get xs n ≡ Some write) × (take (n + 1) xs ≡ take n xs ++ write ∷ []))
at_most [] n = inl (omega arith)
at_most (x ∷ xs) n =
    elim (cases_lt n (length (x ∷ xs))) as (λ _. (length (x ∷ xs) ≤ n) ⊎ ((write : Write) × (slice_get (x ∷ xs) n ≡ Some write) × (take (n + 1) (x ∷ xs) ≡ take n (x ∷ xs) ++ write ∷ []))) [
      | inl within ↦ inr (get_or (x ∷ xs) n x, slice_get-get_or (x ∷ xs) n x within, take_more (x ∷ xs) n x within)
      | inr past ↦ inl past
    ]

-- a front each Write of which is good is fitting
pub good_front_fits : (count : ℕ) (dumps : List (List Write)) (server at : ℕ) → ((place : ℕ) → place < at → IsGoodAt count dumps server place) → AreFitting count (take at (dump_of dumps server))
good_front_fits count dumps server zero good = AreFitting-empty count
good_front_fits count dumps server (suc at) good =
    let dump = dump_of dumps server in
    let before = good_front_fits count dumps server at (λ place within. good place (omega arith)) in
    elim (at_most dump at) as (λ _. AreFitting count (take (suc at) dump)) [
      | inl past ↦ subst (AreFitting count) (take_all at dump past ∙ sym (take_all (suc at) dump (omega (arith, past)))) before
      | inr more ↦
          let fits = (good at (omega arith) more.0 more.1).fits in
          let same : at + 1 ≡ suc at = omega arith in
          subst (λ n. AreFitting count (take n dump)) same (subst (AreFitting count) (sym more.2) (AreFitting-push count (take at dump) more.0 before fits))
    ]

-- a dump each Write of which is good is fitting
pub good_fits : (count : ℕ) (dumps : List (List Write)) (server : ℕ) → ((place : ℕ) → IsGoodAt count dumps server place) → AreFitting count (dump_of dumps server)
good_fits count dumps server good =
    let dump = dump_of dumps server in
    subst (AreFitting count) (take_all (length dump) dump (omega arith)) (good_front_fits count dumps server (length dump) (λ place within. good place))

pub read_fits : (count : ℕ) (dumps : List (List Write)) (servers : ℕ) (indexes : List Tables) (other : ℕ) → AreRead count dumps servers indexes → other < servers → AreFitting count (dump_of dumps other)
read_fits count dumps servers indexes other read within = good_fits count dumps other (λ place. read.good other place within)

pub read_index : (count : ℕ) (dumps : List (List Write)) (servers : ℕ) (indexes : List Tables) (other : ℕ) (tables : Tables) → AreRead count dumps servers indexes → other < length indexes
    → tables ≡ get_or indexes other tables → IsIndexOf (dump_of dumps other) tables
read_index count dumps servers indexes other tables read within is = read.each other tables (slice_get-get_or indexes other tables within ∙ ap Some (sym is))

-- one more Write that is good
pub good_more : (count : ℕ) (dumps : List (List Write)) (servers server : ℕ) (dump : List Write) (at : ℕ) (write : Write) → server ≡ servers → dump ≡ dump_of dumps server
    → at < length dump → write ≡ get_or dump at write → IsGood count dumps servers (take at dump) write
    → ((place : ℕ) → place < at → IsGoodAt count dumps server place) → (place : ℕ) → place < at + 1 → IsGoodAt count dumps server place
good_more count dumps servers server dump at write next same within is good before place less other got =
    elim (cases_lt place at) as (λ _. IsGood count dumps server (take place (dump_of dumps server)) other) [
      | inl earlier ↦ before place earlier other got
      | inr last ↦
          let here : place ≡ at = omega (arith, last, less) in
          let one : write ≡ other = is ∙ sym (get_or_default dump at other write within) ∙ ap (λ list. get_or list at other) same ∙ ap (λ k. get_or (dump_of dumps server) k other) (sym here)
          ∙ get_or_from_slice_get (dump_of dumps server) place other other got in
          subst (IsGood count dumps server (take place (dump_of dumps server))) one
          (subst (λ k. IsGood count dumps server (take k (dump_of dumps server)) write) (sym here)
          (subst (λ list. IsGood count dumps server (take at list) write) same (subst (λ s. IsGood count dumps s (take at dump) write) (sym next) good)))
    ]

-- one that isn't good, behind those that are
pub first_bad : (count : ℕ) (dumps : List (List Write)) (servers server : ℕ) (dump : List Write) (at : ℕ) (write : Write) → server ≡ servers → dump ≡ dump_of dumps server
    → at < length dump → write ≡ get_or dump at write → ¬ IsGood count dumps servers (take at dump) write
    → ((other place : ℕ) → other < servers → IsGoodAt count dumps other place) → ((place : ℕ) → place < at → IsGoodAt count dumps server place) → IsFirstBad count dumps server at
first_bad count dumps servers server dump at write next same within is bad smaller before = record {
  bad = λ good.
      let got : slice_get (dump_of dumps server) at ≡ Some write = subst (λ list. slice_get list at ≡ Some write) same (slice_get-get_or dump at write within ∙ ap Some (sym is)) in
      bad (subst (λ s. IsGood count dumps s (take at dump) write) next (subst (λ list. IsGood count dumps server (take at list) write) (sym same) (good write got)));
  none_before = λ other place less. smaller other place (omega (arith, next, less));
  none_here = before;
}

-- the tables with one more Write
pub index_more : (dumps : List (List Write)) (server : ℕ) (dump : List Write) (at : ℕ) (write : Write) → dump ≡ dump_of dumps server → at < length dump → write ≡ get_or dump at write
    → (tables : Tables) → IsIndexOf (take at dump ++ write ∷ []) tables → IsIndexOf (take (at + 1) (dump_of dumps server)) tables
index_more dumps server dump at write same within is tables indexed =
    let longer : take at dump ++ write ∷ [] ≡ take (at + 1) dump = ap (λ w. take at dump ++ w ∷ []) is ∙ sym (take_more dump at write within) in
    subst (λ list. IsIndexOf (take (at + 1) list) tables) same (subst (λ list. IsIndexOf list tables) longer indexed)

-- where all places of a dump are good, so is each
pub good_whole : (count : ℕ) (dumps : List (List Write)) (server at : ℕ) → length (dump_of dumps server) ≤ at → ((place : ℕ) → place < at → IsGoodAt count dumps server place)
    → (place : ℕ) → IsGoodAt count dumps server place
good_whole count dumps server at past good place write got = good place (omega (arith, past, slice_get_within (dump_of dumps server) place write got)) write got

-- one more dump that was read
pub read_more : (count : ℕ) (dumps : List (List Write)) (server : ℕ) (indexes : List Tables) (tables : Tables) → length indexes ≡ server → AreRead count dumps server indexes
    → ((place : ℕ) → IsGoodAt count dumps server place) → IsIndexOf (dump_of dumps server) tables → AreRead count dumps (server + 1) (indexes ++ tables ∷ [])
read_more count dumps server indexes tables many read good indexed = record {
  good = λ other place less.
      elim (cases_lt other server) as (λ _. IsGoodAt count dumps other place) [
        | inl smaller ↦ read.good other place smaller
        | inr last ↦ let here : server ≡ other = omega (arith, last, less) in subst (λ s. IsGoodAt count dumps s place) here (good place)
      ];
  each = λ other found got.
      let all = indexes ++ tables ∷ [] in
      elim (cases_lt other (length indexes)) as (λ _. IsIndexOf (dump_of dumps other) found) [
        | inl smaller ↦
            read.each other found (slice_get-get_or indexes other found smaller ∙ ap Some (sym (get_or_append_left indexes (tables ∷ []) found other smaller) ∙ get_or_from_slice_get all other found found got))
        | inr last ↦
            let within : other < length indexes + 1 = omega (arith, slice_get_within all other found got, length_push indexes tables) in
            let here : length indexes ≡ other = omega (arith, last, within) in
            let one : tables ≡ found = sym (get_or_push indexes tables found other here) ∙ get_or_from_slice_get all other found found got in
            subst (IsIndexOf (dump_of dumps other)) one (subst (λ s. IsIndexOf (dump_of dumps s) tables) (sym many ∙ here) indexed)
      ];
}

-- all dumps were read
pub read_all : (count : ℕ) (dumps : List (List Write)) (servers : ℕ) (indexes : List Tables) → length indexes ≡ servers → length dumps ≤ servers → AreRead count dumps servers indexes → AreGood count dumps
read_all count dumps servers indexes many covered read server at write got =
    elim (cases_lt server servers) as (λ _. IsGood count dumps server (take at (dump_of dumps server)) write) [
      | inl within ↦ read.good server at within write got
      | inr past ↦
          let none : dump_of dumps server ≡ [] = get_or_past dumps server [] (omega (arith, past, covered)) in
          absurd (omega (arith, slice_get_within (dump_of dumps server) at write got, ap length none))
    ]
