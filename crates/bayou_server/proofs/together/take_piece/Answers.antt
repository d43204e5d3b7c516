use Rattle.std.proofs.Common.{◌≡◌, List, [], Option, None, Some, Ok, Err, length, ap, sym, ◌∙◌, subst, arith, refl}
use Rattle.std.proofs.lemmas.List.{length-map}
use Rattle.std.specs.Global.{Vec}
use Rattle.bayou_journal.specs.Journal.{JournalState}
use Rattle.bayou_lang.specs.declared.write.Write.{Write}
use Rattle.bayou_server.specs.Inner.Fields.{core_of, server_of}
use Rattle.bayou_server.specs.Inner.Gathering.{AreGathered, bytes_of}
use Rattle.bayou_server.specs.Server.{Core, IsSoundServer, ServerState}
use Rattle.bayou_server.specs.Several.{StoresAll, TakesHeld, left_behind}
use Rattle.bayou_server.specs.TakesAll.{TakesAll}
use Rattle.bayou_server.proofs.Adding.{none_of}
use Rattle.bayou_server.proofs.Gathering.{many_bytes, many_bytes_of, no_bodies}
use Rattle.bayou_server.proofs.Steps.{no_doubt_tag}
use Rattle.bayou_server.proofs.TakingBack.{AppendsAll, alone_stores, alone_takes, all_stores, all_takes, back_again, doubted_stores, doubted_takes, doubted_together, elsewhere, gathered_together, nothing_gathered}
use Rattle.bayou_server.proofs.together.take_piece.Goals as goal

pub returns-then-is_some-clause-takes : goal.returns-then-is_some-clause-takes
returns-then-is_some-clause-takes g c =
    alone_takes (core_of c.args.holding.now c.args.id.index) c.args.writes.now.items c.take_alone.new.writes.items c.args.holding.now.taking.items c.take_alone.result c.requires.sound c.take_alone.ensures

pub returns-then-is_some-clause-stores : goal.returns-then-is_some-clause-stores
returns-then-is_some-clause-stores g c =
    alone_stores g.D.Device (server_of c.args.journal.now c.args.holding.now c.args.id.index) c.args.writes.now.items c.take_alone.new.writes.items c.take_alone.result c.take_alone.ensures

pub returns-then-is_empty-clause-takes : goal.returns-then-is_empty-clause-takes
returns-then-is_empty-clause-takes g c =
    let old = c.args.holding.now in
    let mid = c.gather-bodies.new.holding in
    let id = c.args.id.index in
    let told = c.take_alone-then-is_empty.result in
    let left = c.take_alone-then-is_empty.new.writes.items in
    let none = nothing_gathered id old mid c.args.writes.now.items c.gather-bodies.new.writes.items (bytes_of c.gather-bodies.result.items) c.gather-bodies.ensures.gathered
    (no_bodies c.gather-bodies.result.items _ _ c.gather-bodies.result.ok.0 c.is_empty.ensures c.if-is_empty.true) in
    let takes = alone_takes (core_of mid id) c.gather-bodies.new.writes.items left mid.taking.items told (subst IsSoundServer (sym none.core) c.requires.sound) c.take_alone-then-is_empty.ensures in
    subst (λ (s : Core). TakesAll TakesHeld s c.args.writes.now.items (left_behind told.refused mid.taking.items left) told (core_of mid id)) none.core
    (subst (λ (l : List Write). TakesAll TakesHeld (core_of mid id) l (left_behind told.refused mid.taking.items left) told (core_of mid id)) none.same takes)

pub returns-then-is_empty-clause-stores : goal.returns-then-is_empty-clause-stores
returns-then-is_empty-clause-stores g c =
    let old = c.args.holding.now in
    let mid = c.gather-bodies.new.holding in
    let id = c.args.id.index in
    let journal = c.args.journal.now in
    let told = c.take_alone-then-is_empty.result in
    let left = c.take_alone-then-is_empty.new.writes.items in
    let none = nothing_gathered id old mid c.args.writes.now.items c.gather-bodies.new.writes.items (bytes_of c.gather-bodies.result.items) c.gather-bodies.ensures.gathered
    (no_bodies c.gather-bodies.result.items _ _ c.gather-bodies.result.ok.0 c.is_empty.ensures c.if-is_empty.true) in
    let same : server_of journal mid id ≡ server_of journal old id =
    ap (λ (s : Core). record { core = s; device = journal.device; last = journal.last; taking = mid.taking.items }) none.core
    ∙ ap (λ (l : List Write). record { core = core_of old id; device = journal.device; last = journal.last; taking = l }) c.gather-bodies.ensures.gathered.taking in
    subst (λ s. StoresAll g.D.Device s told.refused (server_of journal mid id)) same
    (alone_stores g.D.Device (server_of journal mid id) c.gather-bodies.new.writes.items left told c.take_alone-then-is_empty.ensures)

pub overflow_cast-result : goal.overflow_cast-result
overflow_cast-result g c =
    let few = many_bytes (bytes_of c.gather-bodies.result.items) in
    omega (arith, few, c.gather-bodies.ensures.within, c.len.ensures, c.gather-bodies.result.ok.0, many_bytes_of c.gather-bodies.result.items)

pub returns-in-Ok-clause-together : goal.returns-in-Ok-clause-together
returns-in-Ok-clause-together g c =
    let up = none_of c.args.holding.now.doubt (sym c.is_some.ensures ∙ c.if-is_some.false) in
    let mid = c.gather-bodies.new.holding in
    let all = c.gather-bodies.ensures.gathered in
    elsewhere c.args.journal.now c.append_all.new.self mid c.args.id.index
    (gathered_together c.args.journal.now c.args.holding.now mid c.args.id.index c.args.writes.now.items c.gather-bodies.new.writes.items (bytes_of c.gather-bodies.result.items) c.requires up all)
    (all.doubt ∙ up) (ap (λ (j : JournalState g.row.D.Denot). j.server) c.in-Ok.ensures.ends) (ap (λ (j : JournalState g.row.D.Denot). j.is_down) c.in-Ok.ensures.ends)

pub returns-in-Ok-clause-takes : goal.returns-in-Ok-clause-takes
returns-in-Ok-clause-takes g c =
    let bodies = c.gather-bodies.result in
    let many : c.len.result ≡ length (bytes_of bodies.items) = c.len.ensures ∙ bodies.ok.0 ∙ many_bytes_of bodies.items in
    all_takes c.args.id.index c.args.holding.now c.gather-bodies.new.holding c.args.writes.now.items c.gather-bodies.new.writes.items (bytes_of bodies.items) _ c.requires.sound c.gather-bodies.ensures.gathered
    (ap (λ n. record { taken = n; had = 0; refused = None }) many)

pub returns-in-Ok-clause-stores : goal.returns-in-Ok-clause-stores
returns-in-Ok-clause-stores g c =
    let journal = c.args.journal.now in
    let after = c.append_all.new.self in
    let old = c.args.holding.now in
    let mid = c.gather-bodies.new.holding in
    let bodies = bytes_of c.deref.result.now in
    let given = c.args.writes.now.items in
    let left = c.gather-bodies.new.writes.items in
    let all : AreGathered c.args.id.index old given left bodies mid =
    subst (λ b. AreGathered c.args.id.index old given left (bytes_of b) mid) (sym c.deref.ensures.value) c.gather-bodies.ensures.gathered in
    let appends : AppendsAll g.D.Device journal after bodies (Ok tt) = record {
      down = c.in-Ok.ensures.down.0;
      added = c.in-Ok.ensures.added;
      synced = c.in-Ok.ensures.synced;
      ends = c.in-Ok.ensures.ends;
      counts = c.in-Ok.ensures.counts;
      fault = c.in-Ok.ensures.fault;
      rose = c.in-Ok.ensures.rose;
      left = c.in-Ok.ensures.left;
      safe = c.in-Ok.ensures.safe;
      calls = c.in-Ok.ensures.calls;
    } in
    all_stores g.D.Device journal after old mid c.args.id.index given left bodies (none_of old.doubt (sym c.is_some.ensures ∙ c.if-is_some.false)) all appends

pub returns-clause-together : goal.returns-clause-together
returns-clause-together g c =
    let journal = c.args.journal.now in
    let after = c.append_all.new.self in
    let old = c.args.holding.now in
    let mid = c.gather-bodies.new.holding in
    let new = c.doubt_last-wid.new.holding in
    let id = c.args.id.index in
    let bodies = bytes_of c.deref.result.now in
    let given = c.args.writes.now.items in
    let left = c.gather-bodies.new.writes.items in
    let up = none_of old.doubt (sym c.is_some.ensures ∙ c.if-is_some.false) in
    let all : AreGathered id old given left bodies mid = subst (λ b. AreGathered id old given left (bytes_of b) mid) (sym c.deref.ensures.value) c.gather-bodies.ensures.gathered in
    let number : c.len-in-Err.result ≡ length bodies =
    c.len-in-Err.ensures ∙ c.gather-bodies.result.ok.0 ∙ many_bytes_of c.gather-bodies.result.items ∙ ap (λ b. length (bytes_of b)) (sym c.deref.ensures.value) in
    let back = back_again id old mid new given left bodies c.len-in-Err.result all c.doubt_last-wid.ensures.back number in
    let appends : AppendsAll g.D.Device journal after bodies (Err c.in-Err.field-0) = record {
      down = c.in-Err.ensures.down.0;
      added = c.in-Err.ensures.added;
      synced = c.in-Err.ensures.synced;
      ends = c.in-Err.ensures.ends;
      counts = c.in-Err.ensures.counts;
      fault = c.in-Err.ensures.fault;
      rose = c.in-Err.ensures.rose;
      left = c.in-Err.ensures.left;
      safe = c.in-Err.ensures.safe;
      calls = c.in-Err.ensures.calls;
    } in
    doubted_together g.D.Device journal after old new id given left bodies c.in-Err.field-0 c.requires up back appends

pub returns-clause-takes : goal.returns-clause-takes
returns-clause-takes g c =
    let journal = c.args.journal.now in
    let after = c.append_all.new.self in
    let old = c.args.holding.now in
    let mid = c.gather-bodies.new.holding in
    let new = c.doubt_last-wid.new.holding in
    let id = c.args.id.index in
    let bodies = bytes_of c.deref.result.now in
    let given = c.args.writes.now.items in
    let left = c.gather-bodies.new.writes.items in
    let up = none_of old.doubt (sym c.is_some.ensures ∙ c.if-is_some.false) in
    let all : AreGathered id old given left bodies mid = subst (λ b. AreGathered id old given left (bytes_of b) mid) (sym c.deref.ensures.value) c.gather-bodies.ensures.gathered in
    let number : c.len-in-Err.result ≡ length bodies =
    c.len-in-Err.ensures ∙ c.gather-bodies.result.ok.0 ∙ many_bytes_of c.gather-bodies.result.items ∙ ap (λ b. length (bytes_of b)) (sym c.deref.ensures.value) in
    let back = back_again id old mid new given left bodies c.len-in-Err.result all c.doubt_last-wid.ensures.back number in
    doubted_takes id old new given left bodies c.doubt_last-wid.result c.told_alone.result c.requires.sound (no_doubt_tag (core_of old id) c.requires.sound up) back c.doubt_last-wid.ensures.name c.told_alone.ensures

pub returns-clause-stores : goal.returns-clause-stores
returns-clause-stores g c =
    let journal = c.args.journal.now in
    let after = c.append_all.new.self in
    let old = c.args.holding.now in
    let mid = c.gather-bodies.new.holding in
    let new = c.doubt_last-wid.new.holding in
    let id = c.args.id.index in
    let bodies = bytes_of c.deref.result.now in
    let given = c.args.writes.now.items in
    let left = c.gather-bodies.new.writes.items in
    let up = none_of old.doubt (sym c.is_some.ensures ∙ c.if-is_some.false) in
    let all : AreGathered id old given left bodies mid = subst (λ b. AreGathered id old given left (bytes_of b) mid) (sym c.deref.ensures.value) c.gather-bodies.ensures.gathered in
    let number : c.len-in-Err.result ≡ length bodies =
    c.len-in-Err.ensures ∙ c.gather-bodies.result.ok.0 ∙ many_bytes_of c.gather-bodies.result.items ∙ ap (λ b. length (bytes_of b)) (sym c.deref.ensures.value) in
    let back = back_again id old mid new given left bodies c.len-in-Err.result all c.doubt_last-wid.ensures.back number in
    let appends : AppendsAll g.D.Device journal after bodies (Err c.in-Err.field-0) = record {
      down = c.in-Err.ensures.down.0;
      added = c.in-Err.ensures.added;
      synced = c.in-Err.ensures.synced;
      ends = c.in-Err.ensures.ends;
      counts = c.in-Err.ensures.counts;
      fault = c.in-Err.ensures.fault;
      rose = c.in-Err.ensures.rose;
      left = c.in-Err.ensures.left;
      safe = c.in-Err.ensures.safe;
      calls = c.in-Err.ensures.calls;
    } in
    doubted_stores g.D.Device journal after old new id given left bodies c.doubt_last-wid.result c.told_alone.result c.in-Err.field-0 c.requires up back appends c.told_alone.ensures
