use Rattle.std.proofs.Common.{◌≡◌, ◌<◌, ◌∙◌, List, [], ◌∷◌, ◌++◌, length, unwrap_or, ap, sym, arith}
use Rattle.bayou_base.specs.declared.entry.Entry.{Entry}
use Rattle.bayou_base.specs.declared.limits.TheConstants.{MAX_ENTRIES}
use Rattle.bayou_text.specs.Said.{entry}
use Rattle.bayou_script.specs.AuditFile.{entries_told}
use Rattle.bayou_script.proofs.Audited.{counts_more, dump_same, entries_more, entry_placed, started_are}
use Rattle.bayou_script.proofs.audit_draft.AuditDraft.add_entry.Goals as goal

pub returns : goal.returns
returns c number front draft =
    let count = c.args.self.now.count in
    let told = entry c.args.entry c.args.counts in
    let within : c.args.entry.server.index < count = omega arith in
    let same : unwrap_or c.args.counts count ≡ count = sym c.unwrap_or.ensures ∙ c.if-unwrap_or-self.false in
    let room : length (entries_told front) < MAX_ENTRIES = omega (arith, ap (λ (l : List Entry). length l) draft.entries) in
    record {
      place = entry_placed number front c.args.entry c.args.counts count (started_are count front draft.counts) within same room;
      kept = λ _. record {
        counts = counts_more count front told (omega (arith, within)) draft.counts;
        entries = c.in_ok-push.ensures.items ∙ ap (λ (l : List Entry). l ++ c.args.entry ∷ []) draft.entries ∙ sym (entries_more front told);
        dumps = λ server below. draft.dumps server below ∙ sym (dump_same server front c.args.entry c.args.counts);
      };
    }
