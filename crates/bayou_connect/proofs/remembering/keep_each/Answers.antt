use Rattle.std.proofs.Common.{◌≡◌, ◌∙◌, ◌+◌, ◌++◌, ◌∷◌, [], List, Option, ap, append_assoc, subst, sym, take}
use Rattle.std.proofs.lemmas.List.{take_all, take_more}
use Rattle.bayou_connect.specs.Anew.{those}
use Rattle.bayou_connect.proofs.Kept.{behind_more, those_more, those_same}
use Rattle.bayou_device.specs.Device.{one_more}
use Rattle.bayou_remember.specs.Memory.{HasAll}
use Rattle.bayou_client.specs.Operating.{Asking}
use Rattle.bayou_connect.proofs.remembering.keep_each.Goals as goal
use Rattle.bayou_connect.proofs.remembering.keep_each.Goals.{in-Some+in_default-keep, in_default}

pub loop-kept-preserved : goal.loop-kept-preserved
loop-kept-preserved g c =
    let items = c.args.all.now in
    let item = c.kept-item.result in
    let seen = take c.loop-kept.kept-index items in
    let init = c.args.memory.now.entries in
    let more : take (c.loop-kept.kept-index + 1) items ≡ seen ++ item ∷ [] =
    take_more items c.loop-kept.kept-index item c.loop-kept-test.true ∙ ap (λ (one : Option Asking). seen ++ one ∷ []) (sym c.kept-item.is) in
    elim c.match-kept.branch [
      | in-Some+in_default-keep w ↦
          let kept = w.in-Some.kept in
          let same : those (take (c.loop-kept.kept-index + 1) items) ≡ those seen ++ kept ∷ [] = ap those (more ∙ ap (λ (one : Option Asking). seen ++ one ∷ []) w.in-Some.is) ∙ those_more seen kept in
          let told = w.in_default-keep.ensures in
          rw (w.memory-is, same) (record {
            kept = λ modelled had has.
                subst (λ (all : List Asking). HasAll g.D.Device w.keep.new.self all) (append_assoc had (those seen) (kept ∷ []))
                (told.all modelled (had ++ those seen) (c.loop-kept.invariant.kept modelled had has));
            entries = ap (λ m. m.entries) told.keeps.others ∙ ap one_more c.loop-kept.invariant.entries ∙ sym (behind_more init (those seen) kept);
          })
      | in_default w ↦
          let same : those (take (c.loop-kept.kept-index + 1) items) ≡ those seen = ap those (more ∙ ap (λ (one : Option Asking). seen ++ one ∷ []) w.in_default.is) ∙ those_same seen in
          rw (w.memory-is, same) c.loop-kept.invariant
    ]

pub returns-clause-kept : goal.returns-clause-kept
returns-clause-kept g c = λ modelled had has.
    let items = c.args.all.now in
    let all : take c.loop-kept.kept-index items ≡ items = take_all c.loop-kept.kept-index items c.loop-kept-test.false in
    subst (λ (l : List (Option Asking)). HasAll g.D.Device c.loop-kept.memory (had ++ those l)) all (c.loop-kept.invariant.kept modelled had has)
