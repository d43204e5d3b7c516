use Rattle.std.proofs.Common.{◌≡◌, ◌∙◌, ap}
use Rattle.clap.specs.Words.{found_of, rows_of}
use Rattle.bayou_base.specs.declared.limits.TheConstants.{SERVERS}
use Rattle.std.specs.Prelude.{codes}
use Rattle.bayou_command.specs.Options.{number_of}
use Rattle.bayou_command.specs.Renew.{Renewal, renewal_of}
use Rattle.bayou_command.proofs.renew.renewing_in.Goals as goal

pub returns : goal.returns
returns c =
    let rows = rows_of (found_of c.args.found.now) in
    let servers_then = c.number_in-2.ensures.value ∙ ap (λ other. number_of (codes "servers-then") 1 SERVERS other rows) c.number_in-servers.ensures.value in
    let same : ◌≡◌ {A = Renewal} _ (renewal_of rows) = λ i. record {
      id = c.number_in.ensures.value i;
      servers = c.number_in-servers.ensures.value i;
      servers_then = servers_then i;
      folder = c.folder_in.ensures i;
      to = c.text_in.ensures i;
      at = c.text_in-2.ensures i;
      without = c.in_ok-texts_in.ensures i;
      is_full = c.flag_in.ensures i;
    } in
    same
