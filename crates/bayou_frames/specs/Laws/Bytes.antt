-- Laws of bytes that are written to a stream and read from one, for proofs of the crates above.
use Rattle.std.proofs.Common.{◌≡◌, ℕ, List, [], ◌++◌, Option, refl, sym, ap, subst, ◌∙◌, append_assoc, take}
use Rattle.std.proofs.KnownBytes.{Appends-nil, Appends-trans, Consumes-trans}
use Rattle.std.proofs.lemmas.List.{append-nil}
use Rattle.std.specs.Io.KnownBytes.{Appends, Consumes}
use Rattle.bayou_streams.specs.Written.{AppendsFront}

-- ---- what was written

pub front_of_nothing : (contents : Option (List ℕ)) (text : List ℕ) → AppendsFront contents contents text
front_of_nothing contents text = ([], text, refl, Appends-nil contents)

pub front_of_more : (before after : Option (List ℕ)) (text more : List ℕ) → AppendsFront before after text → AppendsFront before after (text ++ more)
front_of_more before after text more (front, rest, split, wrote) =
    (front, rest ++ more, ap (λ text. text ++ more) split ∙ append_assoc front rest more, wrote)

pub front_behind : (before mid after : Option (List ℕ)) (text more : List ℕ) → Appends before mid text → AppendsFront mid after more → AppendsFront before after (text ++ more)
front_behind before mid after text more wrote (front, rest, split, then) =
    (text ++ front, rest, ap (λ more. text ++ more) split ∙ sym (append_assoc text front rest), Appends-trans before mid after text front wrote then)

pub front_of_whole : (before after : Option (List ℕ)) (text : List ℕ) → Appends before after text → AppendsFront before after text
front_of_whole before after text wrote = (text, [], sym (append-nil text), wrote)

-- ---- what was read

-- a read that gives nothing takes nothing
pub consumes_none : (a b c : Option (List ℕ)) (read piece : List ℕ) (count : ℕ) → count ≡ 0 → Consumes a b read → Consumes b c (take count piece) → Consumes a c read
consumes_none a b c read piece count none p q =
    subst (Consumes a c) (append-nil read) (Consumes-trans a b c read [] p (subst (λ (n : ℕ). Consumes b c (take n piece)) none q))
