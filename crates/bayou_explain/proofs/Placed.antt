-- The Write at a place of a dump.
use Rattle.std.proofs.Common.{◌≡◌, ◌∙◌, ◌<◌, ◌≤◌, ℕ, List, Option, None, Some, MatchOption, arith, length, refl, subst, sym, take}
use Rattle.std.specs.List.{slice_get}
use Rattle.std.proofs.lemmas.Option.{slice_get_within}
use Rattle.bayou_judge.specs.Evidence.{IsGood, IsGoodAt}
use Rattle.bayou_judge.specs.History.{dump_of}
use Rattle.bayou_lang.specs.declared.write.Write.{Write}
use Rattle.bayou_explain.specs.Misfit.{IsMisfit, IsMisfitAt}
use Rattle.bayou_explain.specs.declared.misfit.DumpMisfit.{DumpMisfit}

one_at : (xs : List Write) (at : ℕ) (x y : Write) → slice_get xs at ≡ Some x → slice_get xs at ≡ Some y → x ≡ y
one_at xs at x y here there = cc

-- what is found of the Write that stands there
pub placed : (count : ℕ) (dumps : List (List Write)) (server at : ℕ) (write : Write) (found : Option DumpMisfit) → slice_get (dump_of dumps server) at ≡ Some write
    → MatchOption found (IsGood count dumps server (take at (dump_of dumps server)) write) (IsMisfit count dumps server (take at (dump_of dumps server)) write)
    → MatchOption found (IsGoodAt count dumps server at) (IsMisfitAt count dumps server at)
placed count dumps server at write None is good = λ other there.
    subst (IsGood count dumps server (take at (dump_of dumps server))) (one_at (dump_of dumps server) at write other is there) good
placed count dumps server at write (Some misfit) is why = (write, is, why)

-- where none stands
pub beyond : (count : ℕ) (dumps : List (List Write)) (server at : ℕ) → length (dump_of dumps server) ≤ at → IsGoodAt count dumps server at
beyond count dumps server at past write is = absurd (omega (arith, past, slice_get_within (dump_of dumps server) at write is))
