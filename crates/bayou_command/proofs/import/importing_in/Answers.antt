use Rattle.std.proofs.Common.{◌≡◌}
use Rattle.clap.specs.Words.{found_of, rows_of}
use Rattle.bayou_command.specs.Import.{Import, import_of}
use Rattle.bayou_command.proofs.import.importing_in.Goals as goal

pub returns : goal.returns
returns c =
    let same : ◌≡◌ {A = Import} _ (import_of (rows_of (found_of c.args.found.now))) = λ i. record {
      servers = c.in_ok-texts_in.ensures i;
      count = c.count_in.ensures.value i;
      key = c.text_if_given.ensures i;
      state = c.text_if_given-2.ensures i;
      wait_seconds = c.number_in.ensures.value i;
      timeout_seconds = c.number_in-2.ensures.value i;
      file = c.text_in.ensures i;
    } in
    same
