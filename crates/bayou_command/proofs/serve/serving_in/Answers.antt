use Rattle.std.proofs.Common.{◌≡◌}
use Rattle.clap.specs.Words.{found_of, rows_of}
use Rattle.bayou_command.specs.Serve.{Service, service_of}
use Rattle.bayou_command.proofs.serve.serving_in.Goals as goal

pub returns : goal.returns
returns c =
    let same : ◌≡◌ {A = Service} (record {
      id = c.number_in.result;
      servers = c.number_in-2.result;
      folder = c.folder_in.result.now;
      listen = c.text_in.result.now;
      peers = _;
      left_out = _;
      key = _;
      every_seconds = c.number_in-every.result;
      limit = c.number_in-3.result;
      connections = c.number_in-connections.result;
      idle_seconds = c.number_in-4.result;
      until_input_ends = c.flag_in.result;
      is_new = c.flag_in-2.result;
      is_restored = c.flag_in-3.result;
      serves_anyone = c.flag_in-4.result;
    }) (service_of (rows_of (found_of c.args.found.now))) = λ i. record {
      id = c.number_in.ensures.value i;
      servers = c.number_in-2.ensures.value i;
      folder = c.folder_in.ensures i;
      listen = c.text_in.ensures i;
      peers = c.in_ok-texts_in.ensures i;
      left_out = c.in_ok-texts_in-2.ensures i;
      key = c.text_if_given.ensures i;
      every_seconds = c.number_in-every.ensures.value i;
      limit = c.number_in-3.ensures.value i;
      connections = c.number_in-connections.ensures.value i;
      idle_seconds = c.number_in-4.ensures.value i;
      until_input_ends = c.flag_in.ensures i;
      is_new = c.flag_in-2.ensures i;
      is_restored = c.flag_in-3.ensures i;
      serves_anyone = c.flag_in-4.ensures i;
    } in
    same
