use Rattle.std.proofs.Common.{◌≡◌, ◌+◌, ◌<◌, ◌≤◌, [], ◌∷◌, length, map, get_or, slice_get, ap, ◌∙◌, arith}
use Rattle.std.specs.Prelude.{Bool, List, ℕ}
use Rattle.std.proofs.lemmas.List.{length-map, length-append}
use Rattle.guard_model.specs.TypeView.{shared_type_view}
use Rattle.guard_names.specs.Declarations.{definitions}
use Rattle.guard_names.specs.Faults.{fault_of_names}
use Rattle.guard_names.specs.NamesView.{modules_of, order_of}
use Rattle.guard_names.proofs.Faults.Refusals.{none_is}
use Rattle.guard_tagging.specs.ScopeView.{known_list}
use Rattle.guard_tagging.specs.Surroundings.{is_automatic_definition}
use Rattle.guard_tagging.proofs.Definitions.Flags.{none_flagged, all_flagged, one_flag_more}
use Rattle.guard_tagging.proofs.definition.automatic_lists.Goals as goal

pub loop-place-init : goal.loop-place-init
loop-place-init c = record {
  counted = ap length c.in_ok-automatic.ensures.items;
  known =
      none_flagged (modules_of c.args.names.now) (order_of c.args.names.now)
      (map shared_type_view c.args.types.now) c.in_ok-automatic.automatic.items c.in_ok-automatic.ensures.items;
}

pub loop-place-preserved : goal.loop-place-preserved
loop-place-preserved c =
    let ms = modules_of c.args.names.now in
    let order = order_of c.args.names.now in
    let types = map shared_type_view c.args.types.now in
    let flags = c.loop-place.automatic.items in
    let place = c.loop-place.place in
    let flag = c.is_automatic_definition-is_automatic.result in
    let many : length types ≡ length c.args.types.now = length-map c.args.types.now shared_type_view in
    let below : place < length c.args.types.now = c.loop-place-test.true in
    let listed : length c.args.types.now ≤ length order = c.requires in
    let appended : length c.push.new.self.items ≡ length flags + 1 =
    ap length c.in_ok-push.ensures.items ∙ length-append flags (flag ∷ []) in
    record {
      counted = appended ∙ ap (λ n. n + 1) c.loop-place.invariant.counted;
      known =
          one_flag_more ms (none_is
          (fault_of_names ms) c.args.names.now.faultless) order c.args.names.now.ordered types flags place
          c.loop-place.invariant.counted c.loop-place.invariant.known (omega (arith, below, listed))
          (omega (arith, below, many)) _ flag
          (ap (λ (xs : List ℕ). get_or xs place 0) c.order.ensures.same)
          (c.is_automatic_definition-is_automatic.ensures
          ∙ ap (λ (fs : List Bool). is_automatic_definition ms order (known_list types fs)
          (slice_get (definitions ms) (get_or c.order.result.now place 0))) c.deref.ensures.value)
          c.push.new.self.items c.in_ok-push.ensures.items;
    }

pub returns : goal.returns
returns c =
    let types = map shared_type_view c.args.types.now in
    let many : length types ≡ length c.args.types.now = length-map c.args.types.now shared_type_view in
    let past : length c.args.types.now ≤ c.loop-place.place = c.loop-place-test.false in
    all_flagged (modules_of c.args.names.now)
    (order_of c.args.names.now) types c.loop-place.automatic.items c.loop-place.place
    (omega (arith, past, many)) c.loop-place.invariant.known
