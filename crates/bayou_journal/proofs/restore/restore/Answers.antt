-- What each exit leaves of the chains, and how many device calls it made.
use Rattle.std.proofs.Common.{◌≡◌, ℕ, ◌-◌, ◌++◌, List, [], length, map, take, refl, sym, ◌∙◌, ap, subst}
use Rattle.std.proofs.lemmas.List.{append-nil}
use Rattle.bayou_device.specs.Device.{BeginsWith, one_more}
use Rattle.bayou_journal.specs.Inner.Heads.{missing}
use Rattle.bayou_journal.specs.Opened.{body_at}
use Rattle.bayou_journal.specs.Opening.{FailsToAdd, FailsToOpen, Finds}
use Rattle.bayou_journal.specs.Versions.{journal_of, raised}
use Rattle.bayou_journal.proofs.Calls.{all_calls, one_call, without_cut}
use Rattle.bayou_journal.proofs.Ending.{cut_keeps, fails_to_open, raised_keeps, raises, raises_end, sizes_found}
use Rattle.bayou_journal.proofs.restore.restore.Goals as goal

pub returns-in_err-drop_tail-clause-safe : goal.returns-in_err-drop_tail-clause-safe
returns-in_err-drop_tail-clause-safe g c = λ modelled.
    let chain = c.in_ok-chain.chain in
    let found = c.in_ok-chain.ensures.found in
    let read : c.deref.result.now ≡ g.D.Device.content c.args.device.now = c.deref.ensures.value ∙ c.in_ok-bytes.ensures.bytes modelled in
    let kept : BeginsWith (g.D.Device.kept c.args.device.now) c.deref.result.now =
    subst (λ (l : List ℕ). BeginsWith (g.D.Device.kept c.args.device.now) l) (sym read) (g.met.D.Device.keeps c.args.device.now) in
    let front : BeginsWith (take chain.end (g.D.Device.kept c.args.device.now)) (g.D.Device.kept c.drop_tail.new.device) =
    subst (λ (l : List ℕ). BeginsWith (take chain.end l) (g.D.Device.kept c.drop_tail.new.device)) c.read_all.ensures.kept c.in_err-drop_tail.ensures.front in
    cut_keeps c.args.server.index c.deref.result.now found.records (length c.deref.result.now - chain.end) chain.end (g.D.Device.kept c.args.device.now) (g.D.Device.kept c.drop_tail.new.device)
    found.finds refl found.end_within kept front

pub returns-in-Err-clause-refused : goal.returns-in-Err-clause-refused
returns-in-Err-clause-refused g c =
    let chain = c.in_ok-chain.chain in
    let found = c.in_ok-chain.ensures.found in
    let counts : g.D.Device.failures c.drop_tail.new.device ≡ g.D.Device.failures c.args.device.now = c.in_ok-drop_tail.ensures.counts ∙ c.in_ok-bytes.ensures.counts in (
      c.in-Err.ensures.rose ∙ ap one_more counts,
      λ modelled.
          let read : c.deref.result.now ≡ g.D.Device.content c.args.device.now = c.deref.ensures.value ∙ c.in_ok-bytes.ensures.bytes modelled in
          let piece : c.deref-2.result.now ≡ missing c.args.server.index chain.version chain.last chain.end = c.deref-2.ensures.value ∙ c.write_missing-last.ensures.items in
          let middle : g.D.Device.content c.drop_tail.new.device ≡ take chain.end c.deref.result.now = c.in_ok-drop_tail.ensures.cut modelled ∙ ap (take chain.end) (c.in_ok-bytes.ensures.same ∙ sym read) in
          let new = g.D.Device.content c.write_through.new.device in
          let left : FailsToAdd g.D.Device.may_leave (missing c.args.server.index chain.version chain.last chain.end) (take chain.end c.deref.result.now) new =
          subst (λ (p : List ℕ). FailsToAdd g.D.Device.may_leave p (take chain.end c.deref.result.now) new) piece
          (subst (λ (b : List ℕ). FailsToAdd g.D.Device.may_leave c.deref-2.result.now b new) middle (c.in-Err.ensures.left modelled)) in
          let all : FailsToOpen g.D.Device.may_leave c.args.server.index c.deref.result.now new =
          fails_to_open g.D.Device.may_leave c.args.server.index c.deref.result.now chain.places.items chain.version chain.last chain.end new found left in
          subst (λ (b : List ℕ). FailsToOpen g.D.Device.may_leave c.args.server.index b new) read all,
    )

pub returns-in-Err-clause-safe : goal.returns-in-Err-clause-safe
returns-in-Err-clause-safe g c = λ modelled.
    let chain = c.in_ok-chain.chain in
    let found = c.in_ok-chain.ensures.found in
    let read : c.deref.result.now ≡ g.D.Device.content c.args.device.now = c.deref.ensures.value ∙ c.in_ok-bytes.ensures.bytes modelled in
    let kept : BeginsWith (g.D.Device.kept c.args.device.now) c.deref.result.now =
    subst (λ (l : List ℕ). BeginsWith (g.D.Device.kept c.args.device.now) l) (sym read) (g.met.D.Device.keeps c.args.device.now) in
    let same : g.D.Device.kept c.write_through.new.device ≡ take chain.end (g.D.Device.kept c.args.device.now) =
    c.in-Err.ensures.kept ∙ c.in_ok-drop_tail.ensures.kept modelled ∙ ap (take chain.end) c.read_all.ensures.kept in
    let front : BeginsWith (take chain.end (g.D.Device.kept c.args.device.now)) (g.D.Device.kept c.write_through.new.device) = ([], same ∙ sym (append-nil (take chain.end (g.D.Device.kept c.args.device.now)))) in
    cut_keeps c.args.server.index c.deref.result.now found.records (length c.deref.result.now - chain.end) chain.end (g.D.Device.kept c.args.device.now) (g.D.Device.kept c.write_through.new.device)
    found.finds refl found.end_within kept front

pub returns-in-Ok-clause-opened : goal.returns-in-Ok-clause-opened
returns-in-Ok-clause-opened g c =
    let chain = c.in_ok-chain.chain in
    let found = c.in_ok-chain.ensures.found in
    let bytes = c.deref.result.now in
    let of = sizes_found c.args.server.index bytes found.records (length bytes - chain.end) found.finds in
    record {
      records = found.records;
      known = of.0;
      sizes = of.1;
      finds = λ modelled.
          let read : bytes ≡ g.D.Device.content c.args.device.now = c.deref.ensures.value ∙ c.in_ok-bytes.ensures.bytes modelled in
          let dropped : length bytes - chain.end ≡ c.new.result.dropped = ap (λ (l : List ℕ). length l - chain.end) c.deref.ensures.value ∙ sym c.new.ensures.dropped in
          subst (λ (n : ℕ). Finds c.args.server.index (g.D.Device.content c.args.device.now) found.records n) dropped
          (subst (λ (b : List ℕ). Finds c.args.server.index b found.records (length bytes - chain.end)) read found.finds);
      tells = c.new.ensures.bodies ∙ ap (λ (b : List ℕ). map (body_at b) chain.places.items) (sym c.deref.ensures.value) ∙ found.tells;
      leaves = λ modelled.
          let read : bytes ≡ g.D.Device.content c.args.device.now = c.deref.ensures.value ∙ c.in_ok-bytes.ensures.bytes modelled in
          let piece : c.deref-2.result.now ≡ missing c.args.server.index chain.version chain.last chain.end = c.deref-2.ensures.value ∙ c.write_missing-last.ensures.items in
          let middle : g.D.Device.content c.drop_tail.new.device ≡ take chain.end bytes = c.in_ok-drop_tail.ensures.cut modelled ∙ ap (take chain.end) (c.in_ok-bytes.ensures.same ∙ sym read) in
          c.in-Ok.ensures.added modelled ∙ ap (λ (l : List ℕ). l ++ c.deref-2.result.now) middle ∙ ap (λ (l : List ℕ). take chain.end bytes ++ l) piece
          ∙ raises c.args.server.index bytes chain.places.items chain.version chain.last chain.end found;
      synced = c.in-Ok.ensures.synced;
      ends = c.write_missing-last.ensures.last ∙ raises_end c.args.server.index bytes chain.places.items chain.version chain.last chain.end found;
      counts = c.in-Ok.ensures.counts ∙ c.in_ok-drop_tail.ensures.counts ∙ c.in_ok-bytes.ensures.counts;
    }

pub returns-in-Ok-clause-safe : goal.returns-in-Ok-clause-safe
returns-in-Ok-clause-safe g c = λ modelled.
    let chain = c.in_ok-chain.chain in
    let found = c.in_ok-chain.ensures.found in
    let bytes = c.deref.result.now in
    let read : bytes ≡ g.D.Device.content c.args.device.now = c.deref.ensures.value ∙ c.in_ok-bytes.ensures.bytes modelled in
    let kept : BeginsWith (g.D.Device.kept c.args.device.now) bytes =
    subst (λ (l : List ℕ). BeginsWith (g.D.Device.kept c.args.device.now) l) (sym read) (g.met.D.Device.keeps c.args.device.now) in
    let piece : c.deref-2.result.now ≡ missing c.args.server.index chain.version chain.last chain.end = c.deref-2.ensures.value ∙ c.write_missing-last.ensures.items in
    let middle : g.D.Device.content c.drop_tail.new.device ≡ take chain.end bytes = c.in_ok-drop_tail.ensures.cut modelled ∙ ap (take chain.end) (c.in_ok-bytes.ensures.same ∙ sym read) in
    let whole : g.D.Device.kept c.write_through.new.device ≡ journal_of c.args.server.index (raised found.records) =
    c.in-Ok.ensures.synced ∙ c.in-Ok.ensures.added modelled ∙ ap (λ (l : List ℕ). l ++ c.deref-2.result.now) middle ∙ ap (λ (l : List ℕ). take chain.end bytes ++ l) piece
    ∙ raises c.args.server.index bytes chain.places.items chain.version chain.last chain.end found in
    raised_keeps c.args.server.index bytes chain.places.items chain.version chain.last chain.end (g.D.Device.kept c.args.device.now) (g.D.Device.kept c.write_through.new.device) found kept whole

pub returns-in_err-bytes-clause-calls : goal.returns-in_err-bytes-clause-calls
returns-in_err-bytes-clause-calls g c = one_call g.D.Device c.args.server.index _ _ g.met.D.Device.stays g.met.D.Device.goes_on c.read_all.ensures.calls

pub returns-in_err-chain-clause-calls : goal.returns-in_err-chain-clause-calls
returns-in_err-chain-clause-calls g c = one_call g.D.Device c.args.server.index _ _ g.met.D.Device.stays g.met.D.Device.goes_on c.read_all.ensures.calls

pub returns-in_err-drop_tail-clause-calls : goal.returns-in_err-drop_tail-clause-calls
returns-in_err-drop_tail-clause-calls g c =
    let chain = c.in_ok-chain.chain in
    let found = c.in_ok-chain.ensures.found in
    all_calls g.D.Device c.args.server.index _ _ c.drop_tail.new.device c.drop_tail.new.device c.deref.result.now chain.places.items chain.version chain.last chain.end (missing c.args.server.index chain.version chain.last chain.end)
    g.met.D.Device.stays g.met.D.Device.goes_on (λ modelled. c.deref.ensures.value ∙ c.in_ok-bytes.ensures.bytes modelled) found refl
    c.read_all.ensures.calls c.drop_tail.ensures.calls (λ all. c.drop_tail.ensures.nothing (all ∙ c.deref.ensures.len ∙ sym c.len.ensures)) (g.met.D.Device.stays 2 _) (λ _. g.met.D.Device.stays 1 _)

pub returns-in-Err-clause-calls : goal.returns-in-Err-clause-calls
returns-in-Err-clause-calls g c =
    let chain = c.in_ok-chain.chain in
    let found = c.in_ok-chain.ensures.found in
    all_calls g.D.Device c.args.server.index _ _ c.drop_tail.new.device c.write_through.new.device c.deref.result.now chain.places.items chain.version chain.last chain.end c.deref-2.result.now
    g.met.D.Device.stays g.met.D.Device.goes_on (λ modelled. c.deref.ensures.value ∙ c.in_ok-bytes.ensures.bytes modelled) found (c.deref-2.ensures.value ∙ c.write_missing-last.ensures.items)
    c.read_all.ensures.calls c.drop_tail.ensures.calls (λ all. c.drop_tail.ensures.nothing (all ∙ c.deref.ensures.len ∙ sym c.len.ensures)) c.write_through.ensures.calls c.write_through.ensures.nothing

pub returns-in-Ok-clause-calls : goal.returns-in-Ok-clause-calls
returns-in-Ok-clause-calls g c =
    let chain = c.in_ok-chain.chain in
    let found = c.in_ok-chain.ensures.found in
    all_calls g.D.Device c.args.server.index _ _ c.drop_tail.new.device c.write_through.new.device c.deref.result.now chain.places.items chain.version chain.last chain.end c.deref-2.result.now
    g.met.D.Device.stays g.met.D.Device.goes_on (λ modelled. c.deref.ensures.value ∙ c.in_ok-bytes.ensures.bytes modelled) found (c.deref-2.ensures.value ∙ c.write_missing-last.ensures.items)
    c.read_all.ensures.calls c.drop_tail.ensures.calls (λ all. c.drop_tail.ensures.nothing (all ∙ c.deref.ensures.len ∙ sym c.len.ensures)) c.write_through.ensures.calls c.write_through.ensures.nothing

pub returns-in-Ok-clause-uncut : goal.returns-in-Ok-clause-uncut
returns-in-Ok-clause-uncut g c = λ none.
    let chain = c.in_ok-chain.chain in
    let within = c.in_ok-chain.ensures.found.end_within in
    without_cut g.D.Device _ _ c.drop_tail.new.device c.write_through.new.device (length c.deref.result.now) chain.end g.met.D.Device.goes_on
    (ap (λ (l : List ℕ). length l - chain.end) c.deref.ensures.value ∙ sym c.new.ensures.dropped ∙ none) within
    c.read_all.ensures.calls (λ all. c.drop_tail.ensures.nothing (all ∙ c.deref.ensures.len ∙ sym c.len.ensures)) c.write_through.ensures.calls
