use Rattle.std.proofs.Common.{◌≡◌}
use Rattle.clap.specs.Words.{found_of, rows_of}
use Rattle.bayou_command.specs.Web.{Web, web_of}
use Rattle.bayou_command.proofs.web.showing_in.Goals as goal

pub returns : goal.returns
returns c =
    let same : ◌≡◌ {A = Web} _ (web_of (rows_of (found_of c.args.found.now))) = λ i. record {
      servers = c.in_ok-texts_in.ensures i;
      count = c.count_in.ensures.value i;
      asks = c.text_if_given.ensures i;
      key = c.text_if_given-2.ensures i;
      state = c.text_in.ensures i;
      name = c.text_if_given-3.ensures i;
      listen = c.listen_in.ensures i;
      timeout_seconds = c.number_in.ensures.value i;
    } in
    same
