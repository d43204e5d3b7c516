use Rattle.bayou_world.proofs.Agreeing.{needs_agree}
use Rattle.bayou_world.proofs.Rows.{again_row, read_row, write_row}
use Rattle.bayou_world.proofs.RowsServers.{collect_row, refused_row, reopen_row, start_row}
use Rattle.bayou_world.proofs.Running.{run_is_good, run_is_tagged}
use Rattle.bayou_world.proofs.laws.the_steps_of_servers_are_rows.Goals as goal

pub returns : goal.returns
returns c = record {
  reads = λ count limit capacity asks events replies last run who place session told may stands key answer does.
      read_row last who place session told
      (needs_agree c.read_need_is_what_is_asked.ensures c.write_need_is_what_is_asked.ensures last (run_is_good count limit capacity asks events replies last run) session told stands) may key answer does;
  writes = λ count limit capacity asks events replies last run who place session told may stands tag of_tag program answer new does.
      write_row last (run_is_tagged count limit capacity asks events replies last run) who place session told
      (needs_agree c.read_need_is_what_is_asked.ensures c.write_need_is_what_is_asked.ensures last (run_is_good count limit capacity asks events replies last run) session told stands) may tag of_tag program answer new does;
  agains = λ count limit capacity asks events replies last run who place session told stands asking asked at may tag of_tag answer new does.
      let good = run_is_good count limit capacity asks events replies last run in
      again_row c.write_need_is_what_is_asked.ensures last good (run_is_tagged count limit capacity asks events replies last run) who place session told
      (needs_agree c.read_need_is_what_is_asked.ensures c.write_need_is_what_is_asked.ensures last good session told stands) stands asking asked at may tag of_tag answer new does;
  collects = λ count limit capacity asks events replies last run place offer offered running there.
      collect_row last (run_is_good count limit capacity asks events replies last run) place offer offered running there;
  reopens = λ count limit capacity asks events replies last run place running answer new honest does. reopen_row last place running answer new honest does;
  starts = λ count limit capacity asks events replies last run place there new starts honest. start_row last place there new starts honest;
  refused = λ count limit capacity asks events replies last run place there fault honest. refused_row last place there fault honest;
}
