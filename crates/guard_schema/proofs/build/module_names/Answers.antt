use Rattle.std.proofs.Common.{map}
use Rattle.std.specs.Prelude.{string_bytes}
use Rattle.std.proofs.lemmas.List.{map_push}
use Rattle.guard_schema.proofs.Modules.Names.{name_at, one_name}
use Rattle.guard_schema.proofs.build.module_names.Goals as goal

pub loop-module-preserved : goal.loop-module-preserved
loop-module-preserved c =
    let ms = c.args.modules.now in
    let i = c.loop-module.module-index in
    let m = c.module-item.result in
    let utf8 = name_at ms i m c.requires c.loop-module-test.true c.module-item.is in
    rw (c.in_ok-push.ensures.items, map_push string_bytes c.loop-module.names.items)
    (one_name ms i m (map string_bytes c.loop-module.names.items) (string_bytes c.in_ok-from_utf8_lossy.field-0) c.loop-module-test.true c.module-item.is
    (c.in_ok-from_utf8_lossy.ensures.ok utf8) c.loop-module.invariant)
