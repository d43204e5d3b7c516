use Rattle.std.proofs.Common.{◌≡◌, ◌++◌, List, Option, ℕ, refl, subst, sym}
use Rattle.std.specs.Io.KnownBytes.{Appends, Consumes}
use Rattle.std.proofs.KnownBytes.{Appends-trans, Consumes-trans}
use Rattle.bayou_handshake.proofs.Known.{met_by}
use Rattle.bayou_handshake.proofs.client_end.meet_server.Goals as goal

begun : {A : Type 0} (end : Option (List ℕ)) (text : List ℕ) (held : A → Option (List ℕ)) {x y : A} → x ≡ y → Appends (held x) end text → Appends (held y) end text
begun end text held same added = subst (λ w. Appends (held w) end text) same added

ended : {A : Type 0} (start : Option (List ℕ)) (text : List ℕ) (held : A → Option (List ℕ)) {x y : A} → x ≡ y → Appends start (held x) text → Appends start (held y) text
ended start text held same added = subst (λ w. Appends start (held w) text) same added

pub returns-clause-met : goal.returns-clause-met
returns-clause-met g c =
    let left = g.R.Read.remaining in
    let held = g.W.Write.contents in
    let (first, went, came) = c.in_ok-welcome.ensures.reads in
    let (second, gone, spells) = c.in_ok-known.ensures.reads in
    let read = subst (λ r. Consumes (left r) (left c.read_welcome.new.channel.reader) first) c.in_ok-send_greeting.ensures.other.0 went in
    let more = subst (λ r. Consumes (left r) (left c.read_known.new.channel.reader) second) c.in_ok-send_greeting-2.ensures.other.0 gone in
    let proof = begun _ _ held c.in_ok-welcome.ensures.other.0 c.in_ok-send_greeting-2.ensures.whole in
    let sent = Appends-trans _ _ _ _ _ c.in_ok-send_greeting.ensures.whole proof in (
      first ++ second,
      _,
      Consumes-trans _ _ _ _ _ read more,
      ended _ _ held (sym c.in_ok-known.ensures.other.0) sent,
      met_by c.args.hello.now c.args.key.now c.args.held c.in_ok-welcome.welcome c.in-Some.welcome _ first second c.in_ok-known.known c.in-Some.is (c.in_ok-greet.ensures.only refl) came c.proof_of-proof.ensures spells,
    )
