use Rattle.std.proofs.Common.{◌≡◌, ◌<◌, ◌∙◌, sym, ap, arith, append-nil}
use Rattle.bayou_text.specs.Said.{held}
use Rattle.bayou_script.specs.AuditFile.{entries_told}
use Rattle.bayou_script.proofs.Audited.{counts_more, entries_more, held_more, held_placed, started_are}
use Rattle.bayou_script.proofs.audit_draft.AuditDraft.add_held.Goals as goal

pub returns : goal.returns
returns c number front draft =
    let count = c.args.self.now.count in
    let place = c.args.server.index in
    let told = held place c.args.write c.args.counts in
    let within : place < count = omega arith in
    let accepted : c.args.write.wid.origin.index < count = omega (arith, ap (λ wid. wid.origin.index) c.wid.ensures) in
    let same : c.args.counts ≡ count = omega arith in
    record {
      place = held_placed number front place c.args.write c.args.counts count (started_are count front draft.counts) within accepted same;
      kept = λ _. record {
        counts = counts_more count front told (omega (arith, within)) draft.counts;
        entries = draft.entries ∙ sym (append-nil (entries_told front)) ∙ sym (entries_more front told);
        dumps = held_more c.args.self.now.dumps.items c.push.new.self c.index_mut-dump.result.now count place c.from.result c.args.write c.args.counts front
            c.args.self.now.one_each within c.from.ensures draft.dumps (sym c.index_mut-dump.ensures.value) c.in_ok-push.ensures.items;
      };
    }
