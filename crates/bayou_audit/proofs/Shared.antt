-- New shares, one after another.
use Rattle.std.proofs.Common.{◌≡◌, ◌⊎◌, inl, inr, ℕ, ◌+◌, ◌<◌, ◌≤◌, List, [], ◌∷◌, ◌++◌, Some, length, get_or, sym, ap, subst, ◌∙◌, arith, length-append}
use Rattle.std.specs.List.{slice_get}
use Rattle.std.proofs.Math.Seq.{get_or-append_seam}
use Rattle.std.proofs.lemmas.Bool.{cases_lt}
use Rattle.std.proofs.lemmas.List.{get_or_append_left}
use Rattle.std.proofs.lemmas.Option.{get_or_from_slice_get, slice_get-get_or, slice_get_within}
use Rattle.bayou_audit.specs.Totals.{AreNewShares, Shared, no_totals}

-- the share at a place of the longer list
at_more : (number : ℕ) (shares : List Shared) (share found : Shared) (at : ℕ) → AreNewShares number shares
    → share.session.index ≡ number → share.totals ≡ no_totals → slice_get (shares ++ share ∷ []) at ≡ Some found
    → (at < length shares) ⊎ (length shares ≤ at) → (found.session.index ≡ at) × (found.totals ≡ no_totals)
at_more number shares share found at made named none is (inl before) =
    let reads = get_or_from_slice_get (shares ++ share ∷ []) at found found is in
    made.in_order at found (slice_get-get_or shares at found before
    ∙ ap Some (sym (get_or_append_left shares (share ∷ []) found at before) ∙ reads))
at_more number shares share found at made named none is (inr behind) =
    let within = slice_get_within (shares ++ share ∷ []) at found is in
    let reads = get_or_from_slice_get (shares ++ share ∷ []) at found found is in
    let last : at ≡ length shares = omega (arith, length-append shares (share ∷ [])) in
    let same : share ≡ found = sym (get_or-append_seam shares share [] found)
    ∙ ap (λ place. get_or (shares ++ share ∷ []) place found) (sym last) ∙ reads in
    subst (λ (s : Shared). (s.session.index ≡ at) × (s.totals ≡ no_totals)) same
    (named ∙ sym made.one_each ∙ sym last, none)

pub new_shares-more : (number : ℕ) (shares after : List Shared) (share : Shared) → AreNewShares number shares
    → after ≡ shares ++ share ∷ [] → share.session.index ≡ number → share.totals ≡ no_totals → AreNewShares (number + 1) after
new_shares-more number shares after share made more named none = subst (AreNewShares (number + 1)) (sym more) (record {
  one_each = omega (arith, length-append shares (share ∷ []), made.one_each);
  in_order = λ at found is. at_more number shares share found at made named none is (cases_lt at (length shares));
})
