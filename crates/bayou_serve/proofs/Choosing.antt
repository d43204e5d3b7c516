-- The answer that is chosen is among as many servers as each.
use Rattle.std.proofs.Common.{◌≡◌, ◌∙◌, ℕ, true, false, nat_lt, cond, Option, Some, None, Result, Ok, Err, IfOk, IfSome, ap, refl, subst, sym}
use Rattle.bayou_serve.specs.Choosing.{ChoosesAnswer, own_in}
use Rattle.bayou_serve.specs.declared.fault.ServeFault.{ServeFault}
use Rattle.bayou_serve.specs.declared.restoring.PeerAnswer.{PeerAnswer}

of_two : (server servers : ℕ) (best more chosen : PeerAnswer) → best.gathered.count ≡ servers → more.gathered.count ≡ servers → ChoosesAnswer server best more (Ok chosen) → chosen.gathered.count ≡ servers
of_two server servers best more chosen is also (one, agree) =
    ap (λ (answer : PeerAnswer). answer.gathered.count) one
    ∙ elim (nat_lt (own_in server best) (own_in server more)) as (λ t. (cond t more best).gathered.count ≡ servers) [ true ↦ also | false ↦ is ]

-- of the best so far and one more
pub same_servers : (server servers : ℕ) (best : Option PeerAnswer) (more : PeerAnswer) (result : Result PeerAnswer ServeFault)
    → IfSome best (λ answer. answer.gathered.count ≡ servers) → more.gathered.count ≡ servers
    → (best ≡ None → result ≡ Ok more) → IfSome best (λ best. ChoosesAnswer server best more result) → IfOk result (λ answer. answer.gathered.count ≡ servers)
same_servers server servers None more result so_far also first next = subst (λ (r : Result PeerAnswer ServeFault). IfOk r (λ answer. answer.gathered.count ≡ servers)) (sym (first refl)) also
same_servers server servers (Some best) more (Ok chosen) so_far also first next = of_two server servers best more chosen so_far also next
same_servers server servers (Some best) more (Err fault) so_far also first next = tt
