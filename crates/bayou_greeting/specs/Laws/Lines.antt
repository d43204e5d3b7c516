-- A key's line has its parts where its length says.
use Rattle.std.proofs.Common.{◌≡◌, ℕ, ◌-◌, refl, List, ◌∷◌, ◌++◌, length, take, drop, ap, ◌∙◌, arith}
use Rattle.std.proofs.lemmas.List.{take_at, drop_at, length-append}

-- what stands between a start and a space that digits follow
pub name_between : (start name digits line : List ℕ) (space n : ℕ) → length start ≡ n → line ≡ start ++ (name ++ space ∷ digits)
    → take (length (drop n line) - 1 - length digits) (drop n line) ≡ name
name_between start name digits line space n size is =
    let rest : drop n line ≡ name ++ space ∷ digits = ap (drop n) is ∙ drop_at start (name ++ space ∷ digits) n size in
    let long : length (drop n line) - 1 - length digits ≡ length name = omega (arith, ap length rest, length-append name (space ∷ digits)) in
    ap (λ k. take k (drop n line)) long ∙ ap (take (length name)) rest ∙ take_at name (space ∷ digits) (length name) refl

-- and the digits
pub digits_behind : (start name digits line : List ℕ) (space n : ℕ) → length start ≡ n → line ≡ start ++ (name ++ space ∷ digits)
    → drop 1 (drop (length (drop n line) - 1 - length digits) (drop n line)) ≡ digits
digits_behind start name digits line space n size is =
    let rest : drop n line ≡ name ++ space ∷ digits = ap (drop n) is ∙ drop_at start (name ++ space ∷ digits) n size in
    let long : length (drop n line) - 1 - length digits ≡ length name = omega (arith, ap length rest, length-append name (space ∷ digits)) in
    ap (drop 1) (ap (λ k. drop k (drop n line)) long ∙ ap (drop (length name)) rest ∙ drop_at name (space ∷ digits) (length name) refl)
