-- How much of its limit a server holds, and what stands behind that.
use Rattle.std.proofs.Common.{◌≡◌, ◌∙◌, ◌++◌, ℕ, List, Some, ap, append_assoc, codes, decimal, sum, sym}
use Rattle.bayou_print.specs.Connected.{share_text}

pub shared : (vector : List ℕ) (limit : ℕ) (rest : List ℕ)
    → codes " holds " ++ (decimal (sum vector) ++ (codes " of " ++ (decimal limit ++ rest))) ≡ share_text vector (Some limit) ++ rest
shared vector limit rest = ap (λ text. codes " holds " ++ text) (sym (append_assoc (decimal (sum vector)) (codes " of " ++ decimal limit) rest))
