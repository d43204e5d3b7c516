-- The counts of Writes are numbers of Writes.
use Rattle.std.proofs.Common.{◌≡◌, ℕ, zero, suc, ◌+◌, ◌<◌, ◌==◌, true, false, cond, replicate, List, [], ◌∷◌, length, set, get_or, ap, sym, ◌∙◌, refl, inl, inr, arith}
use Rattle.std.specs.List.{filter}
use Rattle.std.proofs.lemmas.Bool.{cases_eq}
use Rattle.std.proofs.lemmas.Bool.Decides.{Decides-eqb, nat_tests}
use Rattle.std.proofs.lemmas.List.{get_or-set_same, get_or-set_other}
use Rattle.bayou_base.specs.declared.limits.TheConstants.{SERVERS}
use Rattle.bayou_lang.specs.declared.write.Write.{Write}
use Rattle.bayou_lang.specs.Writes.{count_of}
use Rattle.bayou_lang.specs.Laws.Fitting.{length-count_of}

-- a count after one of the counts was set
get_or-set : (counts : List ℕ) (i s n : ℕ) → i < length counts → get_or (set counts i n) s 0 ≡ cond (i == s) n (get_or counts s 0)
get_or-set counts i s n within =
    elim (cases_eq i s) as (λ _. get_or (set counts i n) s 0 ≡ cond (i == s) n (get_or counts s 0)) [
      | inl same ↦
          ap (λ k. get_or (set counts i n) k 0) (sym same) ∙ get_or-set_same counts i n 0 within
          ∙ sym (ap (λ t. cond t n (get_or counts s 0)) ((Decides-eqb i s).1 same))
      | inr differ ↦
          let off : (i == s) ≡ false = grind (arith, nat_tests) in
          get_or-set_other counts i s n 0 (λ e. differ (sym e)) ∙ sym (ap (λ t. cond t n (get_or counts s 0)) off)
    ]

get_or-zeros : (n s : ℕ) → let none : ℕ = 0 in get_or (replicate n none) s none ≡ none
get_or-zeros zero s = refl
get_or-zeros (suc n) zero = refl
get_or-zeros (suc n) (suc s) = get_or-zeros n s

-- a count is the number of the Writes of its server
pub count_of-filter : (writes : List Write) (server : ℕ) → server < SERVERS → get_or (count_of writes) server 0 ≡ length (filter (λ write. write.wid.origin.index == server) writes)
count_of-filter [] server within = get_or-zeros SERVERS server
count_of-filter (write ∷ writes) server within =
    let i = write.wid.origin.index in
    let counts = count_of writes in
    let rest = filter (λ write. write.wid.origin.index == server) writes in
    let here : i < length counts = omega (arith, write.wid.origin.in_range, length-count_of writes) in
    let before : get_or counts server 0 ≡ length rest = count_of-filter writes server within in
    get_or-set counts i server (get_or counts i 0 + 1) here
    ∙ elim (i == server) as (λ t. (i == server) ≡ t → cond t (get_or counts i 0 + 1) (get_or counts server 0) ≡ length (cond t (write ∷ rest) rest)) [
      | true ↦ λ e. let same : get_or counts i 0 ≡ get_or counts server 0 = ap (λ k. get_or counts k 0) ((Decides-eqb i server).0 e) in omega arith
      | false ↦ λ e. before
    ] refl
