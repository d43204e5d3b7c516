use Rattle.bayou_world.proofs.Agreeing.{begins_standing, heard_standing, needs_agree}
use Rattle.bayou_world.proofs.Standing.{stands_along}
use Rattle.bayou_world.proofs.Running.{run_is_good}
use Rattle.bayou_world.proofs.laws.a_sessions_vectors_stand_for_its_sets.Goals as goal

pub returns : goal.returns
returns c = record {
  begins = begins_standing;
  hears = λ count limit capacity asks events replies last run who session answered there flies old new is told.
      heard_standing last (run_is_good count limit capacity asks events replies last run) who session answered there flies old new is told;
  along = λ count limit capacity asks who id run wants events replies last told asked tells. stands_along count limit capacity asks who id run wants events replies last told asked tells;
  needs = λ count limit capacity asks events replies last run session told is.
      needs_agree c.read_need_is_what_is_asked.ensures c.write_need_is_what_is_asked.ensures last (run_is_good count limit capacity asks events replies last run) session told is;
}
