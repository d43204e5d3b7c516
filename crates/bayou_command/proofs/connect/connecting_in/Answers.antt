use Rattle.std.proofs.Common.{◌≡◌}
use Rattle.clap.specs.Words.{found_of, rows_of}
use Rattle.bayou_command.specs.Connect.{Connection, connection_of}
use Rattle.bayou_command.proofs.connect.connecting_in.Goals as goal

pub returns : goal.returns
returns c =
    let same : ◌≡◌ {A = Connection} _ (connection_of (rows_of (found_of c.args.found.now))) = λ i. record {
      servers = c.in_ok-texts_in.ensures i;
      count = c.count_in.ensures.value i;
      asks = c.text_if_given.ensures i;
      key = c.text_if_given-2.ensures i;
      state = c.text_if_given-3.ensures i;
      book = c.text_if_given-4.ensures i;
      log = c.text_if_given-5.ensures i;
      wait_seconds = c.number_in.ensures.value i;
      timeout_seconds = c.number_in-2.ensures.value i;
      is_json = c.flag_in.ensures i;
      input = c.source_in.ensures i;
    } in
    same
