use Rattle.std.proofs.Common.{◌≡◌}
use Rattle.clap.specs.Words.{found_of, rows_of}
use Rattle.bayou_command.specs.Export.{Export, export_of}
use Rattle.bayou_command.proofs.export.exporting_in.Goals as goal

pub returns : goal.returns
returns c =
    let same : ◌≡◌ {A = Export} _ (export_of (rows_of (found_of c.args.found.now))) = λ i. record {
      servers = c.in_ok-texts_in.ensures i;
      count = c.count_in.ensures.value i;
      key = c.text_if_given.ensures i;
      timeout_seconds = c.number_in.ensures.value i;
      folder = c.text_if_given-2.ensures i;
      id = c.id_in.ensures.value i;
      prefix = c.text_if_given-3.ensures i;
    } in
    same
