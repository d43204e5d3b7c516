-- The laws of the machine, at each run of the script's, and so the script, line by line.
use Rattle.std.proofs.Common.{◌≡◌, [], ◌∷◌, ◌++◌, ap, sym, subst, take, drop, take-append-drop}
use Rattle.bayou_text.specs.Said.{servers}
use Rattle.bayou_judge.specs.History.{history_of}
use Rattle.bayou_machine.specs.Standing.{dumps_of}
use Rattle.bayou_script.specs.Capacity.{capacity_for}
use Rattle.bayou_world.specs.Judged.{AreOneHistory}
use Rattle.bayou_world.specs.Runs.{history_of_machine}
use Rattle.bayou_runs.specs.Inner.Tie.{HaveRows, IsAt, StayHonest}
use Rattle.bayou_runs.specs.Runs.{asks_in, begun}
use Rattle.bayou_runs.proofs.Orders.{placed}
use Rattle.bayou_runs.proofs.Running.{IsJudgedSo, begins, dumps_are, lines_told, nothing_waits}
use Rattle.bayou_runs.proofs.laws.a_script_is_a_run.Goals as goal

pub returns : goal.returns
returns c lines plan number answers first last script in_range new run whole =
    let count = plan.count in
    let have : HaveRows plan = λ events replies now run_now. record {
      reads_are = c.the_steps_of_servers_are_rows.ensures.reads count plan.limit (capacity_for plan.commands) (asks_in plan.commands) events replies now run_now;
      writes_are = c.the_steps_of_servers_are_rows.ensures.writes count plan.limit (capacity_for plan.commands) (asks_in plan.commands) events replies now run_now;
      agains_are = c.the_steps_of_servers_are_rows.ensures.agains count plan.limit (capacity_for plan.commands) (asks_in plan.commands) events replies now run_now;
      collects_are = c.the_steps_of_servers_are_rows.ensures.collects count plan.limit (capacity_for plan.commands) (asks_in plan.commands) events replies now run_now;
      takes_are = c.the_rules_of_servers_refuse_nothing_impossible.ensures.rows count plan.limit (capacity_for plan.commands) (asks_in plan.commands) events replies now run_now;
      reopens_are = c.the_steps_of_servers_are_rows.ensures.reopens count plan.limit (capacity_for plan.commands) (asks_in plan.commands) events replies now run_now;
      starts_are = c.the_steps_of_servers_are_rows.ensures.starts count plan.limit (capacity_for plan.commands) (asks_in plan.commands) events replies now run_now;
      needs_are = c.a_sessions_vectors_stand_for_its_sets.ensures.needs count plan.limit (capacity_for plan.commands) (asks_in plan.commands) events replies now run_now;
      hears_are = c.a_sessions_vectors_stand_for_its_sets.ensures.hears count plan.limit (capacity_for plan.commands) (asks_in plan.commands) events replies now run_now;
    } in
    let tears = c.a_device_in_memory_only_tears.ensures in
    let laws : StayHonest = record {
      written = λ tag need program result old new. c.an_honest_server_stays_honest.ensures.written tag need program result old new tears;
      taken = λ given result old new. c.an_honest_server_stays_honest.ensures.taken given result old new tears;
      reopened = λ result old new. c.an_honest_server_is_reopened_honestly.ensures.left result old new tears;
      answered = λ result old new. c.an_honest_server_is_reopened_honestly.ensures.answer result old new tt;
      started = λ id count limit dropped device server. c.a_start_on_an_honest_device_is_honest.ensures.whole id count limit dropped device server tt;
      found = λ old dropped device server. c.a_start_on_an_honest_device_is_honest.ensures.records old dropped device server tt;
      refused = λ old device left fault. c.a_start_on_an_honest_device_is_honest.ensures.left old device left fault tears;
      device = c.an_honest_server_has_an_honest_device.ensures;
      moved = c.what_its_device_holds_decides.ensures;
    } in
    let judged : IsJudgedSo plan = record {
      clean = λ events replies now run_now dumps are. c.every_book_is_judged_clean.ensures.clean count plan.limit (capacity_for plan.commands) (asks_in plan.commands) events replies now run_now dumps are;
      keeps = λ events replies now run_now. c.every_run_keeps_what_was_asked_for.ensures count plan.limit (capacity_for plan.commands) (asks_in plan.commands) events replies now run_now;
      one = λ events replies now run_now. c.every_book_is_judged_clean.ensures.history count plan.limit (capacity_for plan.commands) (asks_in plan.commands) events replies now run_now;
      violates = c.a_breach_violates.ensures;
    } in
    let at = begins plan in_range c.a_start_on_an_empty_device_holds_nothing.ensures laws first new in
    let split : plan.commands ≡ take number plan.commands ++ drop number plan.commands = sym (take-append-drop number plan.commands) in
    let told = lines_told plan in_range have laws c.a_sessions_vectors_stand_for_its_sets.ensures.begins judged script.most
    (λ front said after is. (placed lines (servers plan.count script.most ∷ plan.commands) script.in_order).1 (servers plan.count script.most ∷ front) said after (ap (λ list. servers plan.count script.most ∷ list) is))
    [] (take number plan.commands) (drop number plan.commands) first last (begun plan) answers (subst (λ list. IsAt plan [] list first (begun plan)) split at) whole run in
    let end = told.at in
    let dumps = dumps_are plan (take number plan.commands) (drop number plan.commands) last told.last end in
    record {
      last = told.last;
      run = told.run;
      filed = end.entries;
      dumps = dumps;
      kept = judged.keeps end.events end.replies told.last end.run;
      history = subst (λ list. AreOneHistory (history_of list (dumps_of last.standing)) (history_of_machine told.last)) (sym end.entries)
          (judged.one end.events end.replies told.last end.run (nothing_waits plan (take number plan.commands) (drop number plan.commands) last told.last end) (dumps_of last.standing) dumps);
      clean = told.clean;
    }
