-- The bytes agree with a name as far as they go, or they are no journal's.
use Rattle.std.proofs.Common.{◌≡◌, ◌≤◌, inl, inr, ℕ, true, false, get_or, length, take, arith, refl, subst, sym, ◌∙◌, ap}
use Rattle.std.proofs.lemmas.List.{take_all}
use Rattle.bayou_journal.specs.Chain.{header}
use Rattle.bayou_journal.specs.Versions.{IsVersion, IsVersionOf}
use Rattle.bayou_journal.specs.declared.format.TheConstants.{HEADER_BYTES, NAME_BYTES}
use Rattle.bayou_journal.proofs.Heading.{IsNamed, has_header, is_foreign, is_new, named}
use Rattle.bayou_journal.proofs.chain.head_of.Goals as goal
use Rattle.bayou_journal.proofs.chain.head_of.Goals.{then-not-is_version-via-then-not-is_version, then-not-is_version-via-else-not-is_version+then-not-is_same, else-bytes-server-via-then-bytes-server+else-is_version_of, else-bytes-server-via-else-bytes-server}

pub returns-then-not-is_version : goal.returns-then-not-is_version
returns-then-not-is_version c =
    let parts : IsNamed c.args.bytes.now c.min-named.result = record { short = λ few. grind (arith, c.min-named.ensures, few); long = λ many. grind (arith, c.min-named.ensures, many) } in
    let version : c.version_in-version.result ≡ named c.args.bytes.now = c.version_in-version.ensures in
    is_foreign c.args.server.index c.min-named.result c.args.bytes.now parts (λ known same.
    elim c.then-not-is_version.branch [
      | then-not-is_version-via-then-not-is_version w ↦
          let wrong : false ≡ true = sym w.if-not-is_version.true ∙ c.is_version.ensures.1 (subst IsVersion (sym version) known) in cc
      | then-not-is_version-via-else-not-is_version+then-not-is_same w ↦
          let names : take c.min-named.result c.args.bytes.now ≡ take c.min-named.result c.header_of-header.result =
          same ∙ ap (λ (v : ℕ). take c.min-named.result (header v c.args.server.index)) (sym version) ∙ sym (ap (take c.min-named.result) c.header_of-header.ensures) in
          let wrong : false ≡ true = sym w.if-not-is_same.true ∙ w.is_same.ensures.1 names in cc
    ])

pub returns-then-bytes-lt-HEADER_BYTES : goal.returns-then-bytes-lt-HEADER_BYTES
returns-then-bytes-lt-HEADER_BYTES c =
    let all : c.min-named.result ≡ length c.args.bytes.now = grind (arith, c.min-named.ensures, c.if-bytes-lt-HEADER_BYTES.true) in
    let same : take c.min-named.result c.args.bytes.now ≡ take c.min-named.result c.header_of-header.result = c.is_same.ensures.0 c.if-not-is_same.false in
    is_new c.version_in-version.result c.args.server.index c.args.bytes.now (c.is_version.ensures.0 c.if-not-is_version.false) (omega arith)
    (ap (take (length c.args.bytes.now)) (sym c.header_of-header.ensures) ∙ ap (λ (n : ℕ). take n c.header_of-header.result) (sym all) ∙ sym same ∙ take_all c.min-named.result c.args.bytes.now (omega (arith, all)))

pub returns-else-bytes-server : goal.returns-else-bytes-server
returns-else-bytes-server c =
    let version = c.version_in-version.result in
    let owner = get_or c.args.bytes.now NAME_BYTES 0 in
    let long : HEADER_BYTES ≤ length c.args.bytes.now = grind (arith, c.if-bytes-lt-HEADER_BYTES.false) in
    let read : c.min-named.result ≡ NAME_BYTES = grind (arith, c.min-named.ensures, long) in
    let same : take c.min-named.result c.args.bytes.now ≡ take c.min-named.result c.header_of-header.result = c.is_same.ensures.0 c.if-not-is_same.false in
    record {
      version = version;
      owner = owner;
      known = c.is_version.ensures.0 c.if-not-is_version.false;
      another = elim c.else-bytes-server.branch [
        | else-bytes-server-via-then-bytes-server+else-is_version_of w ↦ inr (λ has.
            let wrong : false ≡ true = sym w.if-is_version_of.false ∙ w.is_version_of.ensures.1 (subst (λ (o : ℕ). IsVersionOf o version) w.if-bytes-server.true has) in cc)
        | else-bytes-server-via-else-bytes-server w ↦ inl w.if-bytes-server.false
      ];
      begins = has_header version c.args.server.index c.args.bytes.now owner long (ap (λ (n : ℕ). take n c.args.bytes.now) (sym read) ∙ same ∙ ap (take c.min-named.result) c.header_of-header.ensures ∙ ap (λ (n : ℕ). take n (header version c.args.server.index)) read) refl;
    }
