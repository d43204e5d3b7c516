-- A list that is read from its front.
use Rattle.std.proofs.Common.{◌≡◌, ℕ, suc, ◌+◌, ◌<◌, ◌≤◌, List, [], ◌∷◌, ◌++◌, length, drop, map, get_or, Ok, Err, refl, ap, sym, ◌∙◌, append_assoc, append-nil, add-one, drop-cons, arith}
use Rattle.std.proofs.lemmas.List.{drop_all}
use Rattle.serde_json.specs.Data.{Data}
use Rattle.bayou_text.specs.declared.line.LineFault.{LineFault}
use Rattle.bayou_text.specs.declared.line.LineFault.TheVariants as fault
use Rattle.bayou_text.specs.Reading.{Parsed, ◌>>=◌, Fails, all_in}

-- those in front, and then those that are read
abbrev pub after : {A : Type 0} → List A → Parsed (List A) → Parsed (List A)
after front (Ok others) = Ok (front ++ others)
after front (Err e) = Err e

after_none : {A : Type 0} (read : Parsed (List A)) → read ≡ after [] read
after_none (Ok others) = refl
after_none (Err e) = refl

one_more : {A : Type 0} (front : List A) (one : A) (read : Parsed (List A))
    → after front (read >>= λ others. Ok (one ∷ others)) ≡ after (front ++ one ∷ []) read
one_more front one (Ok others) = ap Ok (sym (append_assoc front (one ∷ []) others))
one_more front one (Err e) = refl

module _ {A V : Type 0} (one_in : Data → Parsed A) (seen : V → Data) where
  abbrev pub IsReadTo : List V → ℕ → List A → Type 0
  IsReadTo values i front = all_in one_in (map seen values) ≡ after front
      (all_in one_in (map seen (drop i values)))

  pub read_none : (values : List V) → IsReadTo values 0 []
  read_none values = after_none (all_in one_in (map seen values))

  pub read_more : (values : List V) (i : ℕ) (v : V) (front : List A) (one : A) → i < length values
      → IsReadTo values i front → one_in (seen (get_or values i v)) ≡ Ok one
      → IsReadTo values (i + 1) (front ++ one ∷ [])
  read_more values i v front one below so_far found =
      let step : all_in one_in (map seen (drop i values)) ≡
      (all_in one_in (map seen (drop (i + 1) values)) >>= λ others. Ok (one ∷ others)) =
      rw (add-one, drop-cons values i v) (rw found) in
      so_far ∙ ap (after front) step ∙ one_more front one _

  pub read_fault : (values : List V) (i : ℕ) (v : V) (front : List A) (fault : LineFault) → i < length values
      → IsReadTo values i front → one_in (seen (get_or values i v)) ≡ Err fault
      → all_in one_in (map seen values) ≡ Err fault
  read_fault values i v front fault below so_far found =
      let step : all_in one_in (map seen (drop i values)) ≡ Err fault = rw (drop-cons values i v) (rw found) in
      so_far ∙ ap (after front) step

  pub read_fails : (values : List V) (i : ℕ) (v : V) (front : List A) (e : LineFault) → i < length values
      → IsReadTo values i front → Fails e (one_in (seen (get_or values i v)))
      → Fails e (all_in one_in (map seen values))
  read_fails values i v front fault.OutOfMemory below so_far given = tt
  read_fails values i v front fault.NotJson below so_far given = read_fault values i v front _ below so_far given
  read_fails values i v front (fault.BadShape what) below so_far given = read_fault values i v front _ below so_far given
  read_fails values i v front (fault.Key why) below so_far given = read_fault values i v front _ below so_far given
  read_fails values i v front (fault.Program why) below so_far given = read_fault values i v front _ below so_far given

  pub read_all : (values : List V) (i : ℕ) (front : List A) → drop i values ≡ [] → IsReadTo values i front
      → all_in one_in (map seen values) ≡ Ok front
  read_all values i front done so_far = so_far ∙ rw done (ap Ok (append-nil front))

-- ---- a list by its members

pub none_then : {A : Type 0} (parts : List A) (n : ℕ) → length parts ≤ n → drop n parts ≡ []
none_then parts n all = drop_all n parts all

pub item_then : {A : Type 0} (parts rest : List A) (i : ℕ) (a : A) → i < length parts → a ≡ get_or parts i a → drop (i + 1) parts ≡ rest
    → drop i parts ≡ a ∷ rest
item_then parts rest i a below is more =
    let next : suc i ≡ i + 1 = omega arith in
    let others : drop (suc i) parts ≡ rest = ap (λ n. drop n parts) next ∙ more in
    rw (drop-cons parts i a below, ← is, others) refl
