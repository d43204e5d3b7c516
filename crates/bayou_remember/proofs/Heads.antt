-- No head of what is kept begins another.
use Rattle.std.proofs.Common.{arith, ◌≡◌, ℕ, ◌<◌, ◌≤◌, Bool, true, false, List, ◌++◌, Option, None, Some, take, drop, get_or, refl, sym, ap, subst, ◌∙◌}
use Rattle.std.specs.Coded.{le_prop}
use Rattle.std.specs.Int.{w32, from_be_bytes}
use Rattle.std.proofs.lemmas.Nat.{from_be_bytes-to_be_bytes_4}
use Rattle.bayou_base.specs.declared.asks.Asks.{Asks}
use Rattle.bayou_base.specs.declared.limits.TheConstants.{MAX_PLACES, SERVERS, SESSIONS}
use Rattle.bayou_base.specs.declared.server.ServerId.{ServerId}
use Rattle.bayou_base.specs.declared.session.SessionId.{SessionId}
use Rattle.bayou_remember.specs.Spelling.{flag_byte, head_bytes, server_bytes}

-- a session is its index
pub session_ext : (a b : SessionId) → a.index ≡ b.index → a ≡ b
session_ext a b same =
    let made : (n : ℕ) → n < SESSIONS → SessionId = λ n h. record { index = n; in_range = h } in
    let P : ℕ → Type 0 = λ n. (h : n < SESSIONS) → made a.index a.in_range ≡ made n h in
    subst P same (λ h. ap (made a.index) (le_prop a.in_range h)) b.in_range

-- a server is its index
pub server_ext : (a b : ServerId) → a.index ≡ b.index → a ≡ b
server_ext a b same =
    let made : (n : ℕ) → n < SERVERS → ServerId = λ n h. record { index = n; in_range = h } in
    let P : ℕ → Type 0 = λ n. (h : n < SERVERS) → made a.index a.in_range ≡ made n h in
    subst P same (λ h. ap (made a.index) (le_prop a.in_range h)) b.in_range

one_flag : (a b : Bool) → flag_byte a ≡ flag_byte b → a ≡ b
one_flag true true same = refl
one_flag false false same = refl
one_flag true false same = absurd (omega (arith, same))
one_flag false true same = absurd (omega (arith, same))

record SameServer (one other : Option ServerId) (xs ys : List ℕ) : Type 0 where
  pub server : one ≡ other
  pub rest : xs ≡ ys

one_server : (one other : Option ServerId) (xs ys : List ℕ) → server_bytes one ++ xs ≡ server_bytes other ++ ys → SameServer one other xs ys
one_server None None xs ys same = record { server = refl; rest = ap (drop 1) same }
one_server (Some a) (Some b) xs ys same = record { server = ap (λ s. Some s) (server_ext a b (ap (λ l. get_or l 1 0) same)); rest = ap (drop 2) same }
one_server None (Some b) xs ys same = absurd (omega (arith, ap (λ l. get_or l 0 0) same))
one_server (Some a) None xs ys same = absurd (omega (arith, ap (λ l. get_or l 0 0) same))

-- one of the same is one
one_of_each : (made : Bool → Bool → Bool → Bool → Asks) (a b c d e f g h : Bool) → a ≡ e → b ≡ f → c ≡ g → d ≡ h → made a b c d ≡ made e f g h
one_of_each made a b c d e f g h one two three four = cc

-- what two heads and what stands behind them have in common
pub record SameHead (session other : ℕ) (asks more : Asks) (begun place : ℕ) (server at : Option ServerId) (rest behind : List ℕ) : Type 0 where
  pub session_is : session ≡ other
  pub asks_are : asks ≡ more
  pub begun_is : begun ≡ place
  pub server_is : server ≡ at
  pub rest_is : rest ≡ behind

pub one_head : (session other : ℕ) (asks more : Asks) (begun place : ℕ) (server at : Option ServerId) (rest behind : List ℕ) → begun ≤ MAX_PLACES → place ≤ MAX_PLACES
    → head_bytes session asks begun server ++ rest ≡ head_bytes other more place at ++ behind → SameHead session other asks more begun place server at rest behind
one_head session other asks more begun place server at rest behind fits within same =
    let ryw = one_flag asks.ryw more.ryw (ap (λ l. get_or l 2 0) same) in
    let mr = one_flag asks.mr more.mr (ap (λ l. get_or l 3 0) same) in
    let wfr = one_flag asks.wfr more.wfr (ap (λ l. get_or l 4 0) same) in
    let mw = one_flag asks.mw more.mw (ap (λ l. get_or l 5 0) same) in
    let servers = one_server server at rest behind (ap (drop 10) same) in
    record {
      session_is = ap (λ l. get_or l 1 0) same;
      asks_are = one_of_each (λ a b c d. record { ryw = a; mr = b; wfr = c; mw = d }) asks.ryw asks.mr asks.wfr asks.mw more.ryw more.mr more.wfr more.mw ryw mr wfr mw;
      begun_is = sym (from_be_bytes-to_be_bytes_4 begun (omega (arith, fits))) ∙ ap (λ l. from_be_bytes w32 (take 4 (drop 6 l))) same ∙ from_be_bytes-to_be_bytes_4 place (omega (arith, within));
      server_is = servers.server;
      rest_is = servers.rest;
    }
