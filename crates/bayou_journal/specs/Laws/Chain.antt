-- Laws of a journal's bytes: one more body, and that its longest chain is one.
use Rattle.std.specs.Prelude.{◌≡◌, ℕ, List, [], ◌∷◌, ◌++◌, length, drop, refl}
use Rattle.std.specs.Int.{w16, to_be_bytes, from_be_bytes}
use Rattle.std.proofs.Common.{sym, ◌∙◌, ap, arith, append_assoc, length-append}
use Rattle.std.proofs.lemmas.List.{append_cancel_left, append-nil}
use Rattle.std.proofs.lemmas.Nat.{from_be_bytes-to_be_bytes_2}
use Rattle.bayou_journal.specs.Chain.{IsBody, AreBodies, NoEntry, IsLongestChain, header, link, entry, entries, last_link, first_link, chain_end, journal}

-- one more body: its entry stands after the others
pub entries-push : (before : List ℕ) (bodies : List (List ℕ)) (body : List ℕ) → entries before (bodies ++ body ∷ []) ≡ entries before bodies ++ entry (last_link before bodies) body
entries-push before [] body = append-nil (entry before body)
entries-push before (first ∷ bodies) body =
    ap (λ (l : List ℕ). entry before first ++ l) (entries-push (link before first) bodies body)
    ∙ sym (append_assoc (entry before first) (entries (link before first) bodies) (entry (last_link (link before first) bodies) body))

-- and the digest that the next one stands after is its own
pub last_link-push : (before : List ℕ) (bodies : List (List ℕ)) (body : List ℕ) → last_link before (bodies ++ body ∷ []) ≡ link (last_link before bodies) body
last_link-push before [] body = refl
last_link-push before (first ∷ bodies) body = last_link-push (link before first) bodies body

pub journal-push : (version server : ℕ) (bodies : List (List ℕ)) (body : List ℕ) → journal version server (bodies ++ body ∷ []) ≡ journal version server bodies ++ entry (chain_end version server bodies) body
journal-push version server bodies body =
    ap (λ (l : List ℕ). header version server ++ l) (entries-push (first_link version server) bodies body)
    ∙ sym (append_assoc (header version server) (entries (first_link version server) bodies) (entry (chain_end version server bodies) body))

pub chain_end-push : (version server : ℕ) (bodies : List (List ℕ)) (body : List ℕ) → chain_end version server (bodies ++ body ∷ []) ≡ link (chain_end version server bodies) body
chain_end-push version server bodies body = last_link-push (first_link version server) bodies body

pub AreBodies-push : (bodies : List (List ℕ)) (body : List ℕ) → AreBodies bodies → IsBody body → AreBodies (bodies ++ body ∷ [])
AreBodies-push [] body are is = (is, tt)
AreBodies-push (first ∷ bodies) body are is = (are.0, AreBodies-push bodies body are.1 is)

-- entries of some bodies and then of others
pub entries-append : (before : List ℕ) (bodies more : List (List ℕ)) → entries before (bodies ++ more) ≡ entries before bodies ++ entries (last_link before bodies) more
entries-append before [] more = refl
entries-append before (first ∷ bodies) more =
    ap (λ (l : List ℕ). entry before first ++ l) (entries-append (link before first) bodies more)
    ∙ sym (append_assoc (entry before first) (entries (link before first) bodies) (entries (last_link (link before first) bodies) more))

pub journal-append : (version server : ℕ) (bodies more : List (List ℕ)) → journal version server (bodies ++ more) ≡ journal version server bodies ++ entries (chain_end version server bodies) more
journal-append version server bodies more =
    ap (λ (l : List ℕ). header version server ++ l) (entries-append (first_link version server) bodies more)
    ∙ sym (append_assoc (header version server) (entries (first_link version server) bodies) (entries (chain_end version server bodies) more))

pub last_link-append : (before : List ℕ) (bodies more : List (List ℕ)) → last_link before (bodies ++ more) ≡ last_link (last_link before bodies) more
last_link-append before [] more = refl
last_link-append before (first ∷ bodies) more = last_link-append (link before first) bodies more

pub AreBodies-append : (bodies more : List (List ℕ)) → AreBodies bodies → AreBodies more → AreBodies (bodies ++ more)
AreBodies-append [] more are others = others
AreBodies-append (first ∷ bodies) more are others = (are.0, AreBodies-append bodies more are.1 others)

-- two fronts of one length, and what stands after each
pub record Same (xs ys ts us : List ℕ) : Type 0 where
  pub front : xs ≡ ys
  pub rest : ts ≡ us

pub same_parts : (xs ys ts us : List ℕ) → length xs ≡ length ys → xs ++ ts ≡ ys ++ us → Same xs ys ts us
same_parts [] [] ts us long eq = record { front = refl; rest = eq }
same_parts [] (y ∷ ys) ts us long eq = absurd (omega arith)
same_parts (x ∷ xs) [] ts us long eq = absurd (omega arith)
same_parts (x ∷ xs) (y ∷ ys) ts us long eq =
    let tails : xs ++ ts ≡ ys ++ us = ap (drop 1) eq in
    let more = same_parts xs ys ts us (omega arith) tails in
    let heads : x ≡ y = cc in
    record { front = let f = more.front in cc; rest = more.rest }

-- the entry that stands at the front is one
pub record SameEntry (one other ts us : List ℕ) : Type 0 where
  pub body : one ≡ other
  pub rest : ts ≡ us

pub same_entry : (before one other ts us : List ℕ) → IsBody one → IsBody other → entry before one ++ ts ≡ entry before other ++ us → SameEntry one other ts us
same_entry before one other ts us is_one is_other eq =
    let sizes = same_parts (to_be_bytes w16 (length one)) (to_be_bytes w16 (length other)) ((one ++ link before one) ++ ts) ((other ++ link before other) ++ us) refl
    (let left = regroup before one ts in let right = regroup before other us in sym left ∙ eq ∙ right) in
    let long : length one ≡ length other = sym (from_be_bytes-to_be_bytes_2 (length one) (omega (arith, is_one.within))) ∙ ap (from_be_bytes w16) sizes.front ∙ from_be_bytes-to_be_bytes_2 (length other) (omega (arith, is_other.within)) in
    let bodies = same_parts one other (link before one ++ ts) (link before other ++ us) long (sym (append_assoc one (link before one) ts) ∙ sizes.rest ∙ append_assoc other (link before other) us) in
    let links : link before one ≡ link before other = ap (link before) bodies.front in
    record {
      body = bodies.front;
      rest = append_cancel_left (link before other) ts us (ap (λ (l : List ℕ). l ++ ts) (sym links) ∙ bodies.rest);
    }
  where
    regroup : (before body rest : List ℕ) → entry before body ++ rest ≡ to_be_bytes w16 (length body) ++ ((body ++ link before body) ++ rest)
    regroup before body rest = simp append_assoc

-- a chain with which the bytes begin is the front of the longest one
pub record Front (bodies longest : List (List ℕ)) : Type 0 where
  pub more : List (List ℕ)
  pub is : longest ≡ bodies ++ more

pub front_of_longest : (before : List ℕ) (bodies longest : List (List ℕ)) (behind rest : List ℕ) → AreBodies bodies → AreBodies longest → NoEntry (last_link before longest) rest
    → entries before bodies ++ behind ≡ entries before longest ++ rest → Front bodies longest
front_of_longest before [] longest behind rest are_bodies are_longest none eq = record { more = longest; is = refl }
front_of_longest before (body ∷ bodies) [] behind rest are_bodies are_longest none eq =
    absurd (none body are_bodies.0 (entries (link before body) bodies ++ behind, sym eq ∙ append_assoc (entry before body) (entries (link before body) bodies) behind))
front_of_longest before (body ∷ bodies) (first ∷ longest) behind rest are_bodies are_longest none eq =
    let same = same_entry before body first (entries (link before body) bodies ++ behind) (entries (link before first) longest ++ rest) are_bodies.0 are_longest.0
    (sym (append_assoc (entry before body) (entries (link before body) bodies) behind) ∙ eq ∙ append_assoc (entry before first) (entries (link before first) longest) rest) in
    let tails : entries (link before first) bodies ++ behind ≡ entries (link before first) longest ++ rest =
    ap (λ (b : List ℕ). entries (link before b) bodies ++ behind) (sym same.body) ∙ same.rest in
    let next = front_of_longest (link before first) bodies longest behind rest are_bodies.1 are_longest.1 none tails in
    record { more = next.more; is = let b = same.body in let n = next.is in cc }

no_more : (bodies more : List (List ℕ)) → length more ≡ 0 → bodies ++ more ≡ bodies
no_more bodies [] none = append-nil bodies
no_more bodies (body ∷ more) none = absurd (omega arith)

-- the longest chain is one
pub longest_is_one : (version server : ℕ) (bytes : List ℕ) (bodies others : List (List ℕ)) (rest behind : List ℕ) → IsLongestChain version server bytes bodies rest → IsLongestChain version server bytes others behind
    → (bodies ≡ others) × (rest ≡ behind)
longest_is_one version server bytes bodies others rest behind one other =
    let whole : journal version server bodies ++ rest ≡ journal version server others ++ behind = sym one.split ∙ other.split in
    let tails : entries (first_link version server) bodies ++ rest ≡ entries (first_link version server) others ++ behind =
    append_cancel_left (header version server) (entries (first_link version server) bodies ++ rest) (entries (first_link version server) others ++ behind)
    (sym (append_assoc (header version server) (entries (first_link version server) bodies) rest) ∙ whole ∙ append_assoc (header version server) (entries (first_link version server) others) behind) in
    let left = front_of_longest (first_link version server) bodies others rest behind one.sizes other.sizes other.longest tails in
    let right = front_of_longest (first_link version server) others bodies behind rest other.sizes one.sizes one.longest (sym tails) in
    let none : length left.more ≡ 0 = omega (arith, ap length left.is, ap length right.is, length-append bodies left.more, length-append others right.more) in
    let same : bodies ≡ others = sym (left.is ∙ no_more bodies left.more none) in (
      same,
      append_cancel_left (entries (first_link version server) others) rest behind (ap (λ (b : List (List ℕ)). entries (first_link version server) b ++ rest) (sym same) ∙ tails),
    )
