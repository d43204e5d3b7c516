-- What a run leaves is evidence of the machine's own history, and that is judged clean.
use Rattle.std.proofs.Common.{◌≡◌, inl, inr, ℕ, zero, suc, ◌<◌, List, [], ◌∷◌, ◌++◌, Option, None, Some, Ok, length, take, drop, get_or, Contains, All, AllPairs, ap, sym, ◌∙◌, refl, subst, arith}
use Rattle.std.specs.List.{slice_get}
use Rattle.std.specs.Option.{option_map}
use Rattle.std.specs.Global.{Vec}
use Rattle.std.proofs.lemmas.Bool.{cases_lt}
use Rattle.std.proofs.lemmas.List.{get_or_default, get_or-map, get_or_past, get_or-take, length-take, take-map}
use Rattle.std.proofs.lemmas.List.Elements.{All-contains, All-map, All-take, All-weaker}
use Rattle.std.proofs.lemmas.Option.{get_or_from_slice_get, slice_get-map, slice_get_within}
use Rattle.bayou_base.specs.declared.asks.Asks.{Asks}
use Rattle.bayou_base.specs.declared.entry.Entry.{Entry}
use Rattle.bayou_base.specs.declared.entry.What.{What}
use Rattle.bayou_base.specs.declared.entry.What.TheVariants as whats
use Rattle.bayou_base.specs.declared.session.SessionId.{SessionId}
use Rattle.bayou_lang.specs.declared.write.Write.{Write}
use Rattle.bayou_lang.specs.Laws.Equality.{server-ext}
use Rattle.bayou_lang.specs.Writes.{IsSound, count_of}
use Rattle.bayou_judge.specs.declared.verdict.Verdict.TheVariants.{Clean}
use Rattle.bayou_judge.specs.Answers.{Judges}
use Rattle.bayou_judge.specs.Evidence.{AreGenuine, AreGood, IsGenuine, IsTrueOf, TellsOf}
use Rattle.bayou_judge.specs.Guarantees.{Keeps}
use Rattle.bayou_judge.specs.History.{History, IsFrontOf, IsReadFrom, IsWriteOf, dump_of, history_of, lists_of}
use Rattle.bayou_world.specs.Inner.Good.{IsGoodMachine, IsHome, IsTrueAnswer, WasSo}
use Rattle.bayou_world.specs.Inner.Told.{IsLater, IsToldBy, IsToldMachine, IsToldTrue}
use Rattle.bayou_world.specs.Judged.{AreDumpsOf, AreOneHistory, entries_of}
use Rattle.bayou_world.specs.Machine.{Answered, Machine, Made, writes}
use Rattle.bayou_world.specs.Runs.{IsRead, history_of_machine}
use Rattle.bayou_world.proofs.Homes.{home_of_held, one_write}
use Rattle.bayou_world.proofs.Lists.{Contains-map, Contains-map_from}

-- no two databases of a dump have the same vector
abbrev pub OneVector : Type 0
OneVector = (dump database other : List Write) → IsFrontOf dump database → IsFrontOf dump other → count_of database ≡ count_of other → database ≡ other

-- what stands at a place, between what is before and what is behind
split_slice : {X : Type 0} (xs : List X) (at : ℕ) (x : X) → slice_get xs at ≡ Some x → xs ≡ take at xs ++ x ∷ drop (suc at) xs
split_slice [] at x got = let none : None ≡ Some x = got in absurd (cc)
split_slice (first ∷ xs) zero x got = let one : first ≡ x = cc in ap (λ y. y ∷ xs) one
split_slice (first ∷ xs) (suc at) x got = ap (λ ys. first ∷ ys) (split_slice xs at x got)

all_of_contained : {X : Type 0} (P : X → Type 0) (xs : List X) → ((x : X) → Contains xs x → P x) → All P xs
all_of_contained P xs each k d within = each _ (k, within, get_or_default xs k _ d within)

-- those before a place stand before it
pub all_before : {X : Type 0} (R : X → X → Type 0) (xs : List X) (at : ℕ) (x : X) → AllPairs R xs → slice_get xs at ≡ Some x → All (λ y. R y x) (take at xs)
all_before R xs at x pairs got k d within =
    let inside = slice_get_within xs at x got in
    let less : k < at = omega (arith, within, length-take at xs) in
    let here = get_or-take at xs k d less in
    let there = get_or_from_slice_get xs at x d got in
    subst (λ y. R y x) (sym here) (subst (R (get_or xs k d)) there (pairs k at d less inside))

module _ (machine : Machine) (count : ℕ) (asks : ℕ → Option Asks) (good : IsGoodMachine machine) (is : IsToldMachine count asks machine) (dumps : List (List Write)) (are : AreDumpsOf machine dumps) where
  -- each server's dump is what it holds, also beyond the last
  pub dump_is : (place : ℕ) → dump_of dumps place ≡ writes (machine.servers place).held
  dump_is place = elim (cases_lt place machine.count) as (λ _. dump_of dumps place ≡ writes (machine.servers place).held) [
    | inl known ↦ are.each place known
    | inr beyond ↦
        let none : dump_of dumps place ≡ [] = get_or_past dumps place [] (omega (arith, beyond, are.one_each)) in
        none ∙ ap writes (sym ((is.servers place).beyond (omega (arith, beyond, is.count_is))))
  ]

  -- what it has is at home
  home_of_dump : (place : ℕ) (write : Write) → Contains (dump_of dumps place) write → (made : Made) × (made.write ≡ write) × IsHome machine.servers made
  home_of_dump place write has =
      let at = Contains-map_from (λ (made : Made). made.write) (machine.servers place).held write (subst (λ list. Contains list write) (dump_is place) has) in
      (at.0, at.2, home_of_held machine.count machine.limit machine.servers good.servers place at.0 at.1)

  one_of_dumps : (here there : ℕ) (one other : Write) → Contains (dump_of dumps here) one → Contains (dump_of dumps there) other → one.wid ≡ other.wid → one ≡ other
  one_of_dumps here there one other has_one has_other same =
      let first = home_of_dump here one has_one in
      let second = home_of_dump there other has_other in
      one_write machine.count machine.limit machine.servers good.servers first.0 second.0 one other first.2 second.2 first.1 second.1 same

  sound_dump : (place : ℕ) → IsSound place machine.count (dump_of dumps place)
  sound_dump place = subst (IsSound place machine.count) (sym (dump_is place)) (good.servers place).sound

  pub dumps_are_good : AreGood machine.count dumps
  dumps_are_good server at write got =
      let dump = dump_of dumps server in
      let split = split_slice dump at write got in
      let sound = sound_dump server in
      let has : Contains dump write = (at, slice_get_within dump at write got, get_or_from_slice_get dump at write write got) in
      record {
        fits = sound.fitting (take at dump) write (drop (suc at) dump) split;
        own = λ own. sound.own (take at dump) write (drop (suc at) dump) split own;
        same = λ other less. all_of_contained (λ (held : Write). held.wid ≡ write.wid → held ≡ write) (dump_of dumps other)
            (λ held also same. one_of_dumps other server held write also has same);
      }

  -- ---- entries

  -- the database of a read is the one of its vector
  read_is : (what : What) (place : ℕ) (answered : Answered) → IsRead what → WasSo machine.servers what place answered → IsReadFrom (dump_of dumps place) what answered.database
  read_is (whats.Read key vector) place answered read was = (subst (λ list. IsFrontOf list answered.database) (sym (dump_is place)) was.1, sym was.2)
  read_is (whats.Write wid stamp deps) place answered read was = absurd read
  read_is whats.Refused place answered read was = absurd read

  -- a Write that is told of is in the dump of its server
  in_dump : (place : ℕ) (made : Made) → IsHome machine.servers made → made.write.wid.origin.index ≡ place → Contains (dump_of dumps place) made.write
  in_dump place made home here =
      let held = subst (λ n. Contains (machine.servers n).held made) here home in
      subst (λ list. Contains list made.write) (sym (dump_is place)) (Contains-map (λ (m : Made). m.write) (machine.servers place).held made held)

  home_of_told : (what : What) (place : ℕ) (answered : Answered) (made : Made) → answered.made ≡ Some made → WasSo machine.servers what place answered → IsHome machine.servers made
  home_of_told (whats.Read key vector) place answered made accepted was = let none : None ≡ Some made = sym was.0 ∙ accepted in absurd (cc)
  home_of_told (whats.Write wid stamp deps) place answered made accepted was =
      let both : Some was.0 ≡ Some made = sym was.1 ∙ accepted in
      let one : was.0 ≡ made = cc in
      subst (IsHome machine.servers) one was.2
  home_of_told whats.Refused place answered made accepted was = let none : None ≡ Some made = sym was ∙ accepted in absurd (cc)

  -- what an entry tells of is true, behind entries that tell of other Writes
  pub tells_true : (earlier : List Entry) (answered : Answered) → ((name : _) → TellsOf name answered.entry.what → All (λ entry. ¬ TellsOf name entry.what) earlier)
      → (what : What) → answered.entry.what ≡ what → WasSo machine.servers what answered.entry.server.index answered → IsToldBy what answered.entry.server.index answered.made
      → IsTrueOf (dump_of dumps answered.entry.server.index) answered.entry.server earlier what
  tells_true earlier answered others (whats.Read key vector) same was told =
      (answered.database, read_is (whats.Read key vector) answered.entry.server.index answered tt was)
  tells_true earlier answered others (whats.Write wid stamp deps) same was told =
      let place = answered.entry.server.index in
      let home = home_of_told (whats.Write wid stamp deps) place answered told.0 told.1 was in
      let origin : wid.origin.index ≡ place = ap (λ (w : _). w.origin.index) told.2 ∙ told.5 in (
        server-ext wid.origin answered.entry.server origin,
        (told.0.write, (in_dump place told.0 home told.5, sym told.2), sym told.3, sym told.4),
        others wid (subst (TellsOf wid) (sym same) refl),
      )
  tells_true earlier answered others whats.Refused same was told = tt

  -- the entry at a place is of the operation that was served there
  found_at : (found : Option Answered) (entry : Entry) → option_map (λ (a : Answered). a.entry) found ≡ Some entry → (answered : Answered) × (found ≡ Some answered) × (answered.entry ≡ entry)
  found_at None entry same = let none : None ≡ Some entry = same in absurd (cc)
  found_at (Some answered) entry same = (answered, refl, let one : answered.entry ≡ entry = cc in one)

  answered_at : (at : ℕ) (entry : Entry) → slice_get (entries_of machine) at ≡ Some entry → (answered : Answered) × (slice_get machine.served at ≡ Some answered) × (answered.entry ≡ entry)
  answered_at at entry got = found_at (slice_get machine.served at) entry (sym (slice_get-map (λ (a : Answered). a.entry) machine.served at) ∙ got)

  all_earlier : (P : Entry → Type 0) (at : ℕ) → All (λ (a : Answered). P a.entry) (take at machine.served) → All P (take at (entries_of machine))
  all_earlier P at all = subst (All P) (sym (take-map (λ (a : Answered). a.entry) at machine.served)) (All-map P (λ (a : Answered). a.entry) (take at machine.served) all)

  genuine_at : (at : ℕ) (answered : Answered) → slice_get machine.served at ≡ Some answered → IsGenuine machine.count dumps (take at (entries_of machine)) answered.entry
  genuine_at at answered got =
      let entry = answered.entry in
      let has : Contains machine.served answered = (at, slice_get_within machine.served at answered got, get_or_from_slice_get machine.served at answered answered got) in
      let told = All-contains (IsToldTrue count asks) machine.served answered is.served has in
      let was = All-contains (IsTrueAnswer machine.servers) machine.served answered good.served has in
      let later = all_before IsLater machine.served at answered is.in_order got in
      record {
        server = omega (arith, told.server, is.count_is);
        place = all_earlier (λ other. other.session ≡ entry.session → other.place < entry.place) at
            (All-weaker (λ (a : Answered). IsLater a answered) (λ (a : Answered). a.entry.session ≡ entry.session → a.entry.place < entry.place)
            (λ a behind same. behind.place (ap (λ (s : SessionId). s.index) same)) (take at machine.served) later);
        asks = all_earlier (λ other. other.session ≡ entry.session → other.asks ≡ entry.asks) at
            (All-weaker (IsToldTrue count asks) (λ (a : Answered). a.entry.session ≡ entry.session → a.entry.asks ≡ entry.asks)
            (λ a also same.
            let both : Some a.entry.asks ≡ Some entry.asks = sym also.asks_are ∙ ap (λ (s : SessionId). asks s.index) same ∙ told.asks_are in
            let one : a.entry.asks ≡ entry.asks = cc in one)
            (take at machine.served) (All-take (IsToldTrue count asks) at machine.served is.served));
        what = tells_true (take at (entries_of machine)) answered
            (λ name tells. all_earlier (λ other. ¬ TellsOf name other.what) at
            (All-weaker (λ (a : Answered). IsLater a answered) (λ (a : Answered). ¬ TellsOf name a.entry.what) (λ a behind here. behind.others name here tells) (take at machine.served) later))
            entry.what refl was told.what;
      }

  entries_are_genuine : AreGenuine machine.count dumps (entries_of machine)
  entries_are_genuine at entry got =
      let found = answered_at at entry got in
      subst (IsGenuine machine.count dumps (take at (entries_of machine))) found.2 (genuine_at at found.0 found.1)

  -- ---- the history

  of_one_answered : (answered : Answered) → Contains machine.served answered → IsTrueAnswer machine.servers answered × IsToldTrue count asks answered
  of_one_answered answered has = (All-contains (IsTrueAnswer machine.servers) machine.served answered good.served has, All-contains (IsToldTrue count asks) machine.served answered is.served has)

  -- the Write of an entry is the one that was accepted
  accepted_is : (what : What) (place : ℕ) (answered : Answered) (write : Write) → WasSo machine.servers what place answered → IsWriteOf (dump_of dumps place) what write
      → (made : Made) × (answered.made ≡ Some made) × (made.write ≡ write)
  accepted_is (whats.Read key vector) place answered write was has = absurd has
  accepted_is (whats.Write wid stamp deps) place answered write was has =
      let there = home_of_dump place write has.0 in
      (was.0, was.1, one_write machine.count machine.limit machine.servers good.servers was.0 there.0 was.0.write write was.2 there.2 refl there.1 (was.3 ∙ sym has.1))
  accepted_is whats.Refused place answered write was has = absurd has

  write_is : (what : What) (place : ℕ) (answered : Answered) (made : Made) → answered.made ≡ Some made → WasSo machine.servers what place answered → IsToldBy what place answered.made
      → IsWriteOf (dump_of dumps place) what made.write
  write_is (whats.Read key vector) place answered made accepted was told = let none : None ≡ Some made = sym was.0 ∙ accepted in absurd (cc)
  write_is (whats.Write wid stamp deps) place answered made accepted was told =
      let both : Some told.0 ≡ Some made = sym told.1 ∙ accepted in
      let one : told.0 ≡ made = cc in
      let here : made.write.wid.origin.index ≡ place = ap (λ (m : Made). m.write.wid.origin.index) (sym one) ∙ told.5 in
      (in_dump place made (home_of_told (whats.Write wid stamp deps) place answered made accepted was) here, ap (λ (m : Made). m.write.wid) (sym one) ∙ sym told.2)
  write_is whats.Refused place answered made accepted was told = let none : None ≡ Some made = sym was ∙ accepted in absurd (cc)

  reads : (dump : List Write) (what : What) (database : List Write) → IsReadFrom dump what database → IsRead what
  reads dump (whats.Read key vector) database from = tt
  reads dump (whats.Write wid stamp deps) database from = absurd from
  reads dump whats.Refused database from = absurd from

  one_database : OneVector → (dump : List Write) (what : What) (database other : List Write) → IsReadFrom dump what database → IsReadFrom dump what other → database ≡ other
  one_database one dump (whats.Read key vector) database other here there = one dump database other here.0 there.0 (here.1 ∙ sym there.1)
  one_database one dump (whats.Write wid stamp deps) database other here there = absurd here
  one_database one dump whats.Refused database other here there = absurd here

  pub one_history : OneVector → AreOneHistory (history_of (entries_of machine) dumps) (history_of_machine machine)
  one_history one = record {
    Wrote = λ session place write. (
      λ wrote.
          let at = Contains-map_from (λ (a : Answered). a.entry) machine.served wrote.0 wrote.1.0 in
          let is_of = of_one_answered at.0 at.1 in
          let of_entry = subst (λ (e : Entry). IsWriteOf (dump_of dumps e.server.index) e.what write) (sym at.2) wrote.2 in
          let accepted = accepted_is at.0.entry.what at.0.entry.server.index at.0 write is_of.0 of_entry in
          record {
            answered = at.0;
            among = at.1;
            at = record { session_is = ap (λ (e : Entry). e.session.index) at.2 ∙ wrote.1.1; place_is = ap (λ (e : Entry). e.place) at.2 ∙ wrote.1.2 };
            made = accepted.0;
            accepted = accepted.1;
            is = accepted.2;
          },
      λ wrote.
          let is_of = of_one_answered wrote.answered wrote.among in
          let of_made = write_is wrote.answered.entry.what wrote.answered.entry.server.index wrote.answered wrote.made wrote.accepted is_of.0 is_of.1.what in (
            wrote.answered.entry,
            (Contains-map (λ (a : Answered). a.entry) machine.served wrote.answered wrote.among, wrote.at.session_is, wrote.at.place_is),
            subst (IsWriteOf (dump_of dumps wrote.answered.entry.server.index) wrote.answered.entry.what) wrote.is of_made,
          ),
    );
    Read = λ session place server database. (
      λ read.
          let at = Contains-map_from (λ (a : Answered). a.entry) machine.served read.0 read.1.0 in
          let is_of = of_one_answered at.0 at.1 in
          let by : at.0.entry.server.index ≡ server = ap (λ (e : Entry). e.server.index) at.2 ∙ read.2 in
          let from : IsReadFrom (dump_of dumps server) at.0.entry.what database = subst (λ (e : Entry). IsReadFrom (dump_of dumps server) e.what database) (sym at.2) read.3 in
          let a_read = reads (dump_of dumps server) at.0.entry.what database from in
          let own : IsReadFrom (dump_of dumps server) at.0.entry.what at.0.database =
          subst (λ n. IsReadFrom (dump_of dumps n) at.0.entry.what at.0.database) by (read_is at.0.entry.what at.0.entry.server.index at.0 a_read is_of.0) in
          record {
            answered = at.0;
            among = at.1;
            at = record { session_is = ap (λ (e : Entry). e.session.index) at.2 ∙ read.1.1; place_is = ap (λ (e : Entry). e.place) at.2 ∙ read.1.2 };
            read = a_read;
            by = by;
            from = one_database one (dump_of dumps server) at.0.entry.what at.0.database database own from;
          },
      λ read.
          let is_of = of_one_answered read.answered read.among in
          let own = read_is read.answered.entry.what read.answered.entry.server.index read.answered read.read is_of.0 in (
            read.answered.entry,
            (Contains-map (λ (a : Answered). a.entry) machine.served read.answered read.among, read.at.session_is, read.at.place_is),
            read.by,
            subst (IsReadFrom (dump_of dumps server) read.answered.entry.what) read.from (subst (λ n. IsReadFrom (dump_of dumps n) read.answered.entry.what read.answered.database) read.by own),
          ),
    );
    Had = λ server database. (
      λ front. (is.servers server).had database (subst (λ list. IsFrontOf list database) (dump_is server) front),
      λ had. subst (λ list. IsFrontOf list database) (sym (dump_is server)) (All-contains (IsFrontOf (writes (machine.servers server).held)) (machine.servers server).had database (good.servers server).had had),
    );
  }

-- what one history keeps another keeps that has the same
keeps_too : (one other : History) → AreOneHistory one other → (asks : Asks) (session : ℕ) → Keeps other asks session → Keeps one asks session
keeps_too one other same asks session keeps = record {
  ryw = λ asked first second server write database less wrote read.
      keeps.ryw asked first second server write database less ((same.Wrote session first write).0 wrote) ((same.Read session second server database).0 read);
  mr = λ asked first second there server earlier later less read again.
      keeps.mr asked first second there server earlier later less ((same.Read session first there earlier).0 read) ((same.Read session second server later).0 again);
  wfr = λ asked first second server database write less read wrote earlier has place held had.
      keeps.wfr asked first second server database write less ((same.Read session first server database).0 read) ((same.Wrote session second write).0 wrote) earlier has place held ((same.Had place held).0 had);
  mw = λ asked first second earlier later less wrote again place held had.
      keeps.mw asked first second earlier later less ((same.Wrote session first earlier).0 wrote) ((same.Wrote session second later).0 again) place held ((same.Had place held).0 had);
}

-- The judge may answer that all was kept.
pub clean : (machine : Machine) (count : ℕ) (asks : ℕ → Option Asks) → IsGoodMachine machine → IsToldMachine count asks machine → (dumps : List (List Write)) → AreDumpsOf machine dumps → OneVector
    → ((session : ℕ) (wants : Asks) → asks session ≡ Some wants → Keeps (history_of_machine machine) wants session) → Judges count (entries_of machine) dumps (Ok Clean)
clean machine count asks good is dumps are one kept =
    let same = one_history machine count asks good is dumps are one in (
      record {
        dumps_are = subst (λ n. AreGood n dumps) is.count_is (dumps_are_good machine count asks good is dumps are);
        entries_are = subst (λ n. AreGenuine n dumps (entries_of machine)) is.count_is (entries_are_genuine machine count asks good is dumps are);
      },
      All-map (λ (entry : Entry). Keeps (history_of (entries_of machine) dumps) entry.asks entry.session.index) (λ (a : Answered). a.entry) machine.served
          (All-weaker (IsToldTrue count asks) (λ (a : Answered). Keeps (history_of (entries_of machine) dumps) a.entry.asks a.entry.session.index)
          (λ a told. keeps_too (history_of (entries_of machine) dumps) (history_of_machine machine) same a.entry.asks a.entry.session.index (kept a.entry.session.index a.entry.asks told.asks_are)) machine.served is.served),
    )

-- the dump of a server is what it holds
pub dump_there : (dumps : List (Vec Write)) (place : ℕ) (held : List Write) → place < length dumps → ((d : Vec Write) → (get_or dumps place d).items ≡ held) → dump_of (lists_of dumps) place ≡ held
dump_there [] place held inside each = absurd (omega (arith, inside))
dump_there (first ∷ dumps) place held inside each = get_or-map (λ (dump : Vec Write). dump.items) (first ∷ dumps) place first [] inside ∙ each first
