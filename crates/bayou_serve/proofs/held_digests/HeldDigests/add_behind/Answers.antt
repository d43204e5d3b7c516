use Rattle.std.proofs.Common.{◌≡◌, ◌∙◌, ◌+◌, ◌++◌, ◌^◌, ◌∷◌, ◌<◌, ◌≤◌, [], List, ap, arith, length, map, rules, subst, suc, sym, take, ℕ}
use Rattle.std.proofs.Math.Seq.{take-suc}
use Rattle.std.proofs.lemmas.List.{take_all}
use Rattle.bayou_lang.specs.declared.write.Write.{Write}
use Rattle.bayou_restore.specs.Restoring.{own_of}
use Rattle.bayou_wire.specs.Spelling.{write_bytes}
use Rattle.bayou_serve.specs.HeldDigests.{HasRead}
use Rattle.bayou_serve.proofs.Digesting.{read_more}
use Rattle.bayou_serve.proofs.held_digests.HeldDigests.add_behind.Goals as goal

pub loop-write-preserved : goal.loop-write-preserved
loop-write-preserved c =
    let all = c.args.writes.now in
    let at = c.loop-write.write-index in
    let within : at < length all = search rules in
    let next : at + 1 ≡ suc at = omega arith in
    let more : take (at + 1) all ≡ take at all ++ c.write-item.result ∷ [] =
    ap (λ n. take n all) next ∙ take-suc all at c.write-item.result within ∙ ap (λ (write : Write). take at all ++ write ∷ []) (sym c.write-item.is) in (
      λ origin before has.
          subst (λ (writes : List Write). HasRead c.add.new.self origin (before ++ map write_bytes (own_of origin.index writes))) (sym more)
          (read_more c.loop-write.self c.add.new.self origin before (take at all) c.write-item.result (c.loop-write.invariant.0 origin before has) c.in_ok-add.ensures.own c.in_ok-add.ensures.others),
      λ few.
          let counted = c.loop-write.invariant.1 few in
          omega (arith, counted, c.in_ok-add.ensures.counted (omega (arith, counted, within, few))),
    )

pub returns-clause-own : goal.returns-clause-own
returns-clause-own c origin before has same =
    let all = c.args.writes.now in
    let ended : length all ≤ c.loop-write.write-index = search rules in
    let whole : take c.loop-write.write-index all ≡ all = take_all c.loop-write.write-index all ended in
    subst (λ (writes : List Write). HasRead c.loop-write.self origin (before ++ map write_bytes (own_of origin.index writes))) whole (c.loop-write.invariant.0 origin before has)

pub returns-clause-counted : goal.returns-clause-counted
returns-clause-counted c same few =
    let ended : c.loop-write.write-index ≡ length c.args.writes.now = search rules in
    let all : c.args.self.now.read + length c.args.writes.now < 2 ^ 64 = omega (arith, same, few) in
    omega (arith, c.loop-write.invariant.1 all, ended, same)
