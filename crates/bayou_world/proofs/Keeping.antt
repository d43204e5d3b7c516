-- What is good keeps the four guarantees.
use Rattle.std.proofs.Common.{◌≡◌, ℕ, true, List, None, Some, Contains, sym, ◌∙◌, subst}
use Rattle.std.proofs.lemmas.List.Elements.{All-contains}
use Rattle.bayou_base.specs.declared.entry.What.{What}
use Rattle.bayou_base.specs.declared.entry.What.TheVariants as whats
use Rattle.bayou_base.specs.Order.{is_before}
use Rattle.bayou_lang.specs.declared.write.Write.{Write}
use Rattle.bayou_judge.specs.Guarantees.{Keeps, Precedes}
use Rattle.bayou_judge.specs.History.{IsFrontOf}
use Rattle.bayou_world.specs.Inner.Good.{IsGoodMachine, IsHome, IsMadeAt, WasSo, IsTrueAnswer}
use Rattle.bayou_world.specs.Machine.{Answered, Machine, Made, SessionSets, names, writes}
use Rattle.bayou_world.specs.Runs.{IsRead, IsReadAt, IsWriteAt, history_of_machine}
use Rattle.bayou_world.proofs.Homes.{home_of_had, home_of_past, one_write, past_is_before, past_is_had}
use Rattle.bayou_world.proofs.Lists.{Contains-map, Contains-map_from}

-- what was read is what its server had
read_true : (machine : Machine) (what : What) (place : ℕ) (answered : Answered) → IsRead what → WasSo machine.servers what place answered → IsFrontOf (writes (machine.servers place).held) answered.database
read_true machine (whats.Read key vector) place answered read is = is.1
read_true machine (whats.Write wid stamp deps) place answered read is = absurd read
read_true machine whats.Refused place answered read is = absurd read

read_had : (machine : Machine) → IsGoodMachine machine → (session place server : ℕ) (database : List Write) → IsReadAt machine.served session place server database
    → IsFrontOf (writes (machine.servers server).held) database
read_had machine good session place server database is =
    let is_true = All-contains (IsTrueAnswer machine.servers) machine.served is.answered good.served is.among in
    subst (IsFrontOf (writes (machine.servers server).held)) is.from
    (subst (λ n. IsFrontOf (writes (machine.servers n).held) is.answered.database) is.by
    (read_true machine is.answered.entry.what is.answered.entry.server.index is.answered is.read is_true))

-- what was made is at home
pub made_true : (machine : Machine) (what : What) (place : ℕ) (answered : Answered) (made : Made) → answered.made ≡ Some made → WasSo machine.servers what place answered → IsHome machine.servers made
made_true machine (whats.Read key vector) place answered made accepted is = let both : None ≡ Some made = sym is.0 ∙ accepted in absurd (cc)
made_true machine (whats.Write wid stamp deps) place answered made accepted (other, is, home, name) =
    let both : Some other ≡ Some made = sym is ∙ accepted in
    let one : other ≡ made = cc in
    subst (IsHome machine.servers) one home
made_true machine whats.Refused place answered made accepted is = let both : None ≡ Some made = sym is ∙ accepted in absurd (cc)

made_home : (machine : Machine) → IsGoodMachine machine → (session place : ℕ) (made : Made) → IsMadeAt machine.served session place made → IsHome machine.servers made
made_home machine good session place made is =
    made_true machine is.answered.entry.what is.answered.entry.server.index is.answered made is.accepted
    (All-contains (IsTrueAnswer machine.servers) machine.served is.answered good.served is.among)

-- the Write that was accepted, with its past
made_at : (machine : Machine) (session place : ℕ) (write : Write) → (is : IsWriteAt machine.served session place write) → IsMadeAt machine.served session place is.made
made_at machine session place write is = record {
  answered = is.answered;
  among = is.among;
  session_is = is.at.session_is;
  place_is = is.at.place_is;
  accepted = is.accepted;
}

-- a database that a server had has the Write whose name it has
has_named : (machine : Machine) → IsGoodMachine machine → (place : ℕ) (database : List Write) → IsFrontOf (writes (machine.servers place).held) database
    → (made : Made) (write : Write) → IsHome machine.servers made → made.write ≡ write → Contains (names database) write.wid → Contains database write
has_named machine good place database front made write home is named =
    let at = Contains-map_from (λ (w : Write). w.wid) database write.wid named in
    let there = home_of_had machine.count machine.limit machine.servers good.servers place database front at.0 at.1 in
    subst (Contains database) (one_write machine.count machine.limit machine.servers good.servers there.0 made at.0 write there.2 home there.1 is at.2) at.1

-- The Write's past has the other: so that precedes it everywhere.
past_precedes : (machine : Machine) → IsGoodMachine machine → (made earlier : Made) (write other : Write) → IsHome machine.servers made → IsHome machine.servers earlier
    → made.write ≡ write → earlier.write ≡ other → Contains (names made.past) other.wid → Precedes (history_of_machine machine) other write
past_precedes machine good made earlier write other home earlier_home is_write is_other named server database had has =
    let servers = machine.servers in
    let at = Contains-map_from (λ (w : Write). w.wid) made.past other.wid named in
    let there = home_of_past machine.count machine.limit servers good.servers made home at.0 at.1 in
    let same : at.0 ≡ other = one_write machine.count machine.limit servers good.servers there.0 earlier at.0 other there.2 earlier_home there.1 is_other at.2 in
    let in_past : Contains made.past other = subst (Contains made.past) same at.1 in
    let front = All-contains (IsFrontOf (writes (servers server).held)) (servers server).had database (good.servers server).had had in
    let has_made : Contains database made.write = subst (Contains database) (sym is_write) has in (
      past_is_had machine.count machine.limit servers good.servers made home server database front has_made other in_past,
      subst (λ (w : Write). is_before other.stamp w.stamp ≡ true) is_write (past_is_before machine.count machine.limit servers good.servers made home other in_past),
    )

pub keeps : (machine : Machine) → IsGoodMachine machine → (who : ℕ) (session : SessionSets) → machine.sessions who ≡ Some session → Keeps (history_of_machine machine) session.asks who
keeps machine good who session there =
    let mine = good.sessions who session there in
    record {
      ryw = λ asked first second server write database less one two.
          let made = made_at machine who first write one in
          let named = mine.ryw asked first second server one.made database less made two in
          has_named machine good server database (read_had machine good who second server database two) one.made write (made_home machine good who first one.made made) one.is
          (subst (λ (w : Write). Contains (names database) w.wid) one.is named);
      mr = λ asked first second other server earlier later less one two write has.
          let front = read_had machine good who first other earlier one in
          let home = home_of_had machine.count machine.limit machine.servers good.servers other earlier front write has in
          has_named machine good server later (read_had machine good who second server later two) home.0 write home.2 home.1
          (mine.mr asked first second other server earlier later less one two write.wid (Contains-map (λ (w : Write). w.wid) earlier write has));
      wfr = λ asked first second server database write less one two earlier has.
          let made = made_at machine who second write two in
          let front = read_had machine good who first server database one in
          let home = home_of_had machine.count machine.limit machine.servers good.servers server database front earlier has in
          past_precedes machine good two.made home.0 write earlier (made_home machine good who second two.made made) home.2 two.is home.1
          (mine.wfr asked first second server database two.made less one made earlier.wid (Contains-map (λ (w : Write). w.wid) database earlier has));
      mw = λ asked first second earlier later less one two.
          let made_one = made_at machine who first earlier one in
          let made_two = made_at machine who second later two in
          past_precedes machine good two.made one.made later earlier (made_home machine good who second two.made made_two) (made_home machine good who first one.made made_one) two.is one.is
          (subst (λ (w : Write). Contains (names two.made.past) w.wid) one.is (mine.mw asked first second one.made two.made less made_one made_two));
    }
