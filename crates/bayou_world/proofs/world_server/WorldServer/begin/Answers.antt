use Rattle.std.proofs.Common.{List, [], Option, None, ap, refl, ◌∙◌}
use Rattle.bayou_base.specs.declared.tag.Tag.{Tag}
use Rattle.bayou_lang.specs.declared.write.Write.{Write}
use Rattle.bayou_device.specs.Memory.{Memory}
use Rattle.bayou_world.proofs.world_server.WorldServer.begin.Goals as goal

pub returns-in-Ok-clause-fresh : goal.returns-in-Ok-clause-fresh
returns-in-Ok-clause-fresh c =
    let id = c.args.role.id.index in
    let count = c.args.role.count in
    let limit = c.args.role.limit in
    let server = c.in-Ok.server in
    let starts = c.in-Ok.ensures.starts in
    let opens = c.in-Ok.ensures.opens in
    let none = c.a_start_on_an_empty_device_holds_nothing.ensures id count limit _ _ server tt (ap (λ (d : Memory). d.bytes) c.new-device.ensures) starts opens in record {
      runs = refl;
      core = starts.is
          ∙ ap (λ (held : List Write). record { id = id; count = count; limit = limit; held = held; tags = server.core.tags; doubt = None; doubt_tag = None }) none.0
          ∙ ap (λ (tags : List (Option Tag)). record { id = id; count = count; limit = limit; held = []; tags = tags; doubt = None; doubt_tag = None }) none.1;
      kept = record { honest = c.a_start_on_an_honest_device_is_honest.ensures.whole id count limit _ _ server tt starts opens; alone = c.in-Ok.ensures.others };
    }
