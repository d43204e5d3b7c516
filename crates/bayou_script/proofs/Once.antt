-- Lines are a script in one way, or are refused for one line.
use Rattle.std.proofs.Common.{◌≡◌, ◌⊎◌, inl, inr, ℕ, suc, ◌+◌, ◌<◌, List, [], ◌∷◌, ◌++◌, Option, Some, true, false, IsTrue, length, get_or, unwrap_or, refl, sym, ap, ◌∙◌, subst, arith, append_assoc}
use Rattle.std.proofs.lemmas.Bool.{cases_lt}
use Rattle.bayou_base.specs.declared.limits.TheConstants.{DEFAULT_LIMIT}
use Rattle.bayou_base.specs.declared.entry.Entry.{Entry}
use Rattle.bayou_lang.specs.declared.write.Write.{Write}
use Rattle.bayou_text.specs.declared.line.LineFault.{LineFault}
use Rattle.bayou_text.specs.Lines.{IsFaultOf}
use Rattle.bayou_text.specs.Said.{Said, servers}
use Rattle.bayou_text.specs.Table.{Spells}
use Rattle.bayou_script.specs.AuditFile.{Evidence, IsAuditFile, audit_order, dump_told, entries_told}
use Rattle.bayou_script.specs.declared.fault.ScriptFault.{ScriptFault}
use Rattle.bayou_script.specs.Order.{Order, InOrderBy, nothing, skipped, added, HasFault, in_itself, misplaced, IsRefusedBy, at_line, at_end, kind_of}
use Rattle.bayou_script.specs.Script.{IsScript, Plan, script_order}

-- the laws of one line
pub record LineLaws : Type 0 where
  pub one_line : (bytes : List ℕ) (one other : Said) → Spells bytes one → Spells bytes other → one ≡ other
  pub one_fault : (bytes : List ℕ) (one other : LineFault) → IsFaultOf bytes one → IsFaultOf bytes other → one ≡ other
  pub not_both : (bytes : List ℕ) (line : Said) (fault : LineFault) → Spells bytes line → ¬ IsFaultOf bytes fault

none_is_snoc : (ys : List (List ℕ)) (y : List ℕ) → [] ≡ ys ++ y ∷ [] → ⊥
none_is_snoc [] y same = cc
none_is_snoc (first ∷ ys) y same = cc

-- two lists that end with one more each
snoc_same : (xs ys : List (List ℕ)) (x y : List ℕ) → xs ++ x ∷ [] ≡ ys ++ y ∷ [] → (xs ≡ ys) × (x ≡ y)
snoc_same [] [] x y same = (refl, cc)
snoc_same [] (first ∷ ys) x y same = let rest : [] ≡ ys ++ y ∷ [] = cc in absurd (none_is_snoc ys y rest)
snoc_same (first ∷ xs) [] x y same = let rest : [] ≡ xs ++ x ∷ [] = cc in absurd (none_is_snoc xs x rest)
snoc_same (first ∷ xs) (other ∷ ys) x y same =
    let heads : first ≡ other = cc in
    let rest : xs ++ x ∷ [] ≡ ys ++ y ∷ [] = cc in
    let both = snoc_same xs ys x y rest in (ap (λ l. first ∷ l) both.0 ∙ ap (λ h. h ∷ ys) heads, both.1)

-- what lines say in order is one
one_front : (order : Order) → LineLaws → (xs : List (List ℕ)) (f : List Said) → InOrderBy order xs f → (ys : List (List ℕ)) (g : List Said) → InOrderBy order ys g → xs ≡ ys → f ≡ g
one_front order laws xs f nothing ys g nothing same = refl
one_front order laws xs f nothing ys g (skipped lines front rest) same = absurd (none_is_snoc lines [] same)
one_front order laws xs f nothing ys g (added lines front line said rest some spells place) same = absurd (none_is_snoc lines line same)
one_front order laws xs f (skipped lines front rest) ys g nothing same = absurd (none_is_snoc lines [] (sym same))
one_front order laws xs f (skipped lines front rest) ys g (skipped others behind also) same = one_front order laws lines front rest others behind also (snoc_same lines others [] [] same).0
one_front order laws xs f (skipped lines front rest) ys g (added others behind line said also some spells place) same =
    absurd (some (sym (snoc_same lines others [] line same).1))
one_front order laws xs f (added lines front line said rest some spells place) ys g nothing same = absurd (none_is_snoc lines line (sym same))
one_front order laws xs f (added lines front line said rest some spells place) ys g (skipped others behind also) same =
    absurd (some (snoc_same lines others line [] same).1)
one_front order laws xs f (added lines front line said rest some spells place) ys g (added others behind other told also full reads right) same =
    let both = snoc_same lines others line other same in
    let fronts = one_front order laws lines front rest others behind also both.0 in
    let saids = laws.one_line other said told (subst (λ bytes. Spells bytes said) both.1 spells) reads in
    ap (λ l. l ++ said ∷ []) fronts ∙ ap (λ s. behind ++ s ∷ []) saids

-- ---- what a script says is one

plan_same : (one other : Plan) → one.count ≡ other.count → one.limit ≡ other.limit → one.commands ≡ other.commands → one ≡ other
plan_same one other counts limits commands =
    ap (λ n. record { count = n; limit = one.limit; commands = one.commands }) counts
    ∙ ap (λ n. record { count = other.count; limit = n; commands = one.commands }) limits
    ∙ ap (λ l. record { count = other.count; limit = other.limit; commands = l }) commands

pub one_plan : LineLaws → (lines : List (List ℕ)) (one other : Plan) → IsScript lines one → IsScript lines other → one ≡ other
one_plan laws lines one other is also =
    let same = one_front script_order laws lines (servers one.count is.most ∷ one.commands) is.in_order lines (servers other.count also.most ∷ other.commands) also.in_order refl in
    let mosts : is.most ≡ also.most = cc in
    plan_same one other (cc) (is.limit ∙ ap (λ (most : Option ℕ). unwrap_or most DEFAULT_LIMIT) mosts ∙ sym also.limit) (cc)

-- ---- so is the evidence of an audit file

-- lists of one length that have the same at each place
lists_same : (one other : List (List Write)) → length one ≡ length other → ((k : ℕ) → k < length one → get_or one k [] ≡ get_or other k []) → one ≡ other
lists_same [] [] same each = refl
lists_same [] (dump ∷ dumps) same each = absurd (omega (arith, same))
lists_same (dump ∷ dumps) [] same each = absurd (omega (arith, same))
lists_same (dump ∷ dumps) (item ∷ items) same each =
    let heads : dump ≡ item = each 0 (omega arith) in
    let tails = lists_same dumps items (omega (arith, same)) (λ k within. each (suc k) (omega (arith, within))) in
    ap (λ (l : List (List Write)). dump ∷ l) tails ∙ ap (λ (d : List Write). d ∷ items) heads

evidence_same : (one other : Evidence) → one.count ≡ other.count → one.entries ≡ other.entries → one.dumps ≡ other.dumps → one ≡ other
evidence_same one other counts entries dumps =
    ap (λ (n : ℕ). record { count = n; entries = one.entries; dumps = one.dumps }) counts
    ∙ ap (λ (l : List Entry). record { count = other.count; entries = l; dumps = one.dumps }) entries
    ∙ ap (λ (l : List (List Write)). record { count = other.count; entries = other.entries; dumps = l }) dumps

pub one_evidence : LineLaws → (lines : List (List ℕ)) (one other : Evidence) → IsAuditFile lines one → IsAuditFile lines other → one ≡ other
one_evidence laws lines one other is also =
    let same = one_front audit_order laws lines (servers one.count is.most ∷ is.others) is.in_order lines (servers other.count also.most ∷ also.others) also.in_order refl in
    let counts : one.count ≡ other.count = cc in
    let others : is.others ≡ also.others = cc in
    evidence_same one other counts (is.entries ∙ ap entries_told others ∙ sym also.entries)
    (lists_same one.dumps other.dumps (is.one_each ∙ counts ∙ sym also.one_each)
    (λ k within.
    let here : k < one.count = omega (arith, within, is.one_each) in
    let there : k < other.count = omega (arith, here, counts) in
    is.dumps k here ∙ ap (dump_told k) others ∙ sym (also.dumps k there)))

-- ---- a line that stands among lines in order has no fault

-- the line says nothing, or something that has its place behind the front
data IsGood (order : Order) (before : List (List ℕ)) (front : List Said) (bytes : List ℕ) : Type 0 where
  empty : bytes ≡ [] → IsGood order before front bytes
  says : (said : Said) → Spells bytes said → IsTrue (order (length before + 1) front said) → IsGood order before front bytes

record GoodAt (order : Order) (before : List (List ℕ)) (bytes : List ℕ) : Type 0 where
  pub front : List Said
  pub in_order : InOrderBy order before front
  pub good : IsGood order before front bytes

none_is_more : (ys : List (List ℕ)) (y : List ℕ) (zs : List (List ℕ)) → [] ≡ ys ++ y ∷ zs → ⊥
none_is_more [] y zs same = cc
none_is_more (first ∷ ys) y zs same = cc

-- nothing, or a list and a last member
snoc_view : (xs : List (List ℕ)) → (xs ≡ []) ⊎ ((init : List (List ℕ)) × (last : List ℕ) × (xs ≡ init ++ last ∷ []))
snoc_view [] = inl refl
snoc_view (x ∷ xs) = elim (snoc_view xs) as (λ _. (x ∷ xs ≡ []) ⊎ ((init : List (List ℕ)) × (last : List ℕ) × (x ∷ xs ≡ init ++ last ∷ []))) [
  | inl none ↦ inr ([], x, ap (λ l. x ∷ l) none)
  | inr more ↦ inr (x ∷ more.0, more.1, ap (λ l. x ∷ l) more.2)
]

behind_more : (lines before : List (List ℕ)) (line bytes : List ℕ) (after init : List (List ℕ)) (last : List ℕ) → lines ++ line ∷ [] ≡ before ++ bytes ∷ after
    → after ≡ init ++ last ∷ [] → lines ≡ before ++ bytes ∷ init
behind_more lines before line bytes after init last same is =
    (snoc_same lines (before ++ bytes ∷ init) line last (same ∙ ap (λ l. before ++ bytes ∷ l) is ∙ sym (append_assoc before (bytes ∷ init) (last ∷ [])))).0

behind_none : (lines before : List (List ℕ)) (line bytes : List ℕ) (after : List (List ℕ)) → lines ++ line ∷ [] ≡ before ++ bytes ∷ after → after ≡ []
    → (lines ≡ before) × (line ≡ bytes)
behind_none lines before line bytes after same none = snoc_same lines before line bytes (same ∙ ap (λ l. before ++ bytes ∷ l) none)

good_at : (order : Order) (xs : List (List ℕ)) (f : List Said) → InOrderBy order xs f → (before : List (List ℕ)) (bytes : List ℕ) (after : List (List ℕ)) → xs ≡ before ++ bytes ∷ after
    → GoodAt order before bytes
good_at order xs f nothing before bytes after same = absurd (none_is_more before bytes after same)
good_at order xs f (skipped lines front rest) before bytes after same = elim (snoc_view after) as (λ _. GoodAt order before bytes) [
  | inl none ↦
      let both = behind_none lines before [] bytes after same none in
      record { front = front; in_order = subst (λ l. InOrderBy order l front) both.0 rest; good = empty (sym both.1) }
  | inr more ↦ good_at order lines front rest before bytes more.0 (behind_more lines before [] bytes after more.0 more.1 same more.2)
]
good_at order xs f (added lines front line said rest some spells place) before bytes after same = elim (snoc_view after) as (λ _. GoodAt order before bytes) [
  | inl none ↦
      let both = behind_none lines before line bytes after same none in
      record {
        front = front;
        in_order = subst (λ l. InOrderBy order l front) both.0 rest;
        good = says said (subst (λ b. Spells b said) both.1 spells) (subst (λ l. IsTrue (order (length l + 1) front said)) both.0 place);
      }
  | inr more ↦ good_at order lines front rest before bytes more.0 (behind_more lines before line bytes after more.0 more.1 same more.2)
]

bad_is_not_good : (order : Order) → LineLaws → (before : List (List ℕ)) (front : List Said) (bytes : List ℕ) (number : ℕ) (fault : ScriptFault) → number ≡ length before + 1
    → HasFault order number front bytes fault → IsGood order before front bytes → ⊥
bad_is_not_good order laws before front bytes number fault is (in_itself why some has kind) (empty none) = some none
bad_is_not_good order laws before front bytes number fault is (in_itself why some has kind) (says said spells place) = laws.not_both bytes said why spells has
bad_is_not_good order laws before front bytes number fault is (misplaced said some spells wrong out) (empty none) = some none
bad_is_not_good order laws before front bytes number fault is (misplaced said some spells wrong out) (says told reads place) =
    let here : IsTrue (order number front told) = subst (λ n. IsTrue (order n front told)) (sym is) place in
    let right = subst (λ s. IsTrue (order number front s)) (laws.one_line bytes told said reads spells) here in
    let both : true ≡ false = sym right ∙ wrong in absurd (cc)

-- lines in order have no line with a fault
no_fault : (order : Order) → LineLaws → (lines : List (List ℕ)) (said front : List Said) (before : List (List ℕ)) (bytes : List ℕ) (after : List (List ℕ)) (number : ℕ) (fault : ScriptFault)
    → InOrderBy order lines said → lines ≡ before ++ bytes ∷ after → InOrderBy order before front → number ≡ length before + 1 → HasFault order number front bytes fault → ⊥
no_fault order laws lines said front before bytes after number fault whole is in_order place has =
    let good = good_at order lines said whole before bytes after is in
    let fronts = one_front order laws before front in_order before good.front good.in_order refl in
    bad_is_not_good order laws before good.front bytes number fault place (subst (λ f. HasFault order number f bytes fault) fronts has) good.good

-- lines that say something in order aren't refused
pub not_refused : (order : Order) → LineLaws → (lines : List (List ℕ)) (first : Said) (others : List Said) (number : ℕ) (fault : ScriptFault)
    → InOrderBy order lines (first ∷ others) → IsRefusedBy order lines number fault → ⊥
not_refused order laws lines first others number fault whole (at_line before bytes after front is in_order place has) =
    no_fault order laws lines (first ∷ others) front before bytes after number fault whole is in_order place has
not_refused order laws lines first others number fault whole (at_end in_order one out) =
    let same = one_front order laws lines [] in_order lines (first ∷ others) whole refl in absurd (cc)

-- ---- the refusal is one

one_fault_at : (order : Order) → LineLaws → (number more : ℕ) (front : List Said) (bytes : List ℕ) (fault other : ScriptFault) → HasFault order number front bytes fault
    → HasFault order more front bytes other → fault ≡ other
one_fault_at order laws number more front bytes fault other (in_itself why some has kind) (in_itself reason full also sort) =
    let kinds : Some fault ≡ Some other = sym kind ∙ ap kind_of (laws.one_fault bytes why reason has also) ∙ sort in cc
one_fault_at order laws number more front bytes fault other (in_itself why some has kind) (misplaced said full spells wrong out) = absurd (laws.not_both bytes said why spells has)
one_fault_at order laws number more front bytes fault other (misplaced said some spells wrong out) (in_itself why full has kind) = absurd (laws.not_both bytes said why spells has)
one_fault_at order laws number more front bytes fault other (misplaced said some spells wrong out) (misplaced told full reads also gone) = out ∙ sym gone

-- of two places in one list the earlier stands before the later
earlier_within : (before : List (List ℕ)) (x : List ℕ) (after behind : List (List ℕ)) (y : List ℕ) (rest : List (List ℕ)) → before ++ x ∷ after ≡ behind ++ y ∷ rest
    → length before < length behind → (mid : List (List ℕ)) × (behind ≡ before ++ x ∷ mid)
earlier_within before x after [] y rest same less = absurd (omega (arith, less))
earlier_within [] x after (first ∷ behind) y rest same less = let heads : x ≡ first = cc in (behind, ap (λ h. h ∷ behind) (sym heads))
earlier_within (first ∷ before) x after (other ∷ behind) y rest same less =
    let heads : first ≡ other = cc in
    let tails : before ++ x ∷ after ≡ behind ++ y ∷ rest = cc in
    let inner = earlier_within before x after behind y rest tails (omega (arith, less)) in
    (inner.0, ap (λ h. h ∷ behind) (sym heads) ∙ ap (λ l. first ∷ l) inner.1)

same_place : (before : List (List ℕ)) (x : List ℕ) (after behind : List (List ℕ)) (y : List ℕ) (rest : List (List ℕ)) → before ++ x ∷ after ≡ behind ++ y ∷ rest
    → length before ≡ length behind → (before ≡ behind) × (x ≡ y)
same_place [] x after [] y rest same equal = (refl, cc)
same_place [] x after (other ∷ behind) y rest same equal = absurd (omega (arith, equal))
same_place (first ∷ before) x after [] y rest same equal = absurd (omega (arith, equal))
same_place (first ∷ before) x after (other ∷ behind) y rest same equal =
    let heads : first ≡ other = cc in
    let tails : before ++ x ∷ after ≡ behind ++ y ∷ rest = cc in
    let inner = same_place before x after behind y rest tails (omega (arith, equal)) in
    (ap (λ h. h ∷ before) heads ∙ ap (λ l. other ∷ l) inner.0, inner.1)

pub one_refusal : (order : Order) → LineLaws → (lines : List (List ℕ)) (number more : ℕ) (fault other : ScriptFault) → IsRefusedBy order lines number fault → IsRefusedBy order lines more other
    → (number ≡ more) × (fault ≡ other)
one_refusal order laws lines number more fault other (at_line before x after front is in_order place has) (at_line behind y rest far also ordered there hits) =
    let same = sym is ∙ also in
    elim (cases_lt (length before) (length behind)) as (λ _. (number ≡ more) × (fault ≡ other)) [
      | inl less ↦
          let inner = earlier_within before x after behind y rest same less in
          absurd (no_fault order laws behind far front before x inner.0 number fault ordered inner.1 in_order place has)
      | inr most ↦ elim (cases_lt (length behind) (length before)) as (λ _. (number ≡ more) × (fault ≡ other)) [
        | inl less ↦
            let inner = earlier_within behind y rest before x after (sym same) less in
            absurd (no_fault order laws before front far behind y inner.0 more other in_order inner.1 ordered there hits)
        | inr least ↦
            let equal : length before ≡ length behind = omega (arith, most, least) in
            let both = same_place before x after behind y rest same equal in
            let fronts = one_front order laws before front in_order behind far ordered both.0 in
            let moved = subst (λ b. HasFault order number far b fault) both.1 (subst (λ f. HasFault order number f x fault) fronts has) in
            (place ∙ ap (λ n. n + 1) equal ∙ sym there, one_fault_at order laws number more far y fault other moved hits)
      ]
    ]
one_refusal order laws lines number more fault other (at_line before x after front is in_order place has) (at_end ordered first out) =
    absurd (no_fault order laws lines [] front before x after number fault ordered is in_order place has)
one_refusal order laws lines number more fault other (at_end in_order first out) (at_line behind y rest far also ordered there hits) =
    absurd (no_fault order laws lines [] far behind y rest more other in_order also ordered there hits)
one_refusal order laws lines number more fault other (at_end in_order first out) (at_end ordered same gone) = (first ∙ sym same, out ∙ sym gone)
