use Rattle.std.proofs.Common.{map, sym, string_bytes}
use Rattle.std.proofs.lemmas.List.{map_push}
use Rattle.guard_policy.proofs.ModuleNames.{one_name, no_name}
use Rattle.guard_policy.proofs.types.module_names.Goals as goal
use Rattle.guard_policy.proofs.types.module_names.Goals.{in-Some+in_ok-push, in_default}

pub loop-place-preserved : goal.loop-place-preserved
loop-place-preserved g c =
    let modules = (g.S.Types.types c.args.schema.now).modules in
    elim c.match-branch-2.branch [
      | in-Some+in_ok-push w ↦
          rw (w.names-is, w.in_ok-push.ensures.items, map_push string_bytes c.loop-place.names.items)
          (one_name modules (map string_bytes c.loop-place.names.items) c.loop-place.place (string_bytes w.in-Some.name) c.loop-place.invariant (sym (rw w.in-Some.is at c.in_ok-name.ensures)))
      | in_default w ↦
          rw w.names-is
          (no_name modules (map string_bytes c.loop-place.names.items) c.loop-place.place c.loop-place.invariant (sym (rw w.in_default.is at c.in_ok-name.ensures)))
    ]
