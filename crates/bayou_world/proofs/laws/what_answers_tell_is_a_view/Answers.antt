use Rattle.bayou_world.proofs.Final.{had_on, join_on, told_by_program, told_by_read, told_by_repeat, told_by_write}
use Rattle.bayou_world.proofs.laws.what_answers_tell_is_a_view.Goals as goal

pub returns : goal.returns
returns c = record { reads = told_by_read; programs = told_by_program; again = told_by_repeat; writes = told_by_write; join = join_on; had = had_on }
