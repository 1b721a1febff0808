use Rattle.std.proofs.Common.{Some, ap, sym, ◌∙◌}
use Rattle.std.specs.Option.{option_copied}
use Rattle.guard_model.specs.TypeView.{type_view}
use Rattle.guard_model.specs.declared.ty.Ty.{Ty}
use Rattle.guard_values.specs.Meanings.{Governed}
use Rattle.guard_values.specs.Views.{shared_view}
use Rattle.guard_values.proofs.Counting.KnownLengths.{slot_found, slot_empty, no_clash, found_pair, same_value, kept_length}
use Rattle.guard_values.proofs.scope.Known.at.Goals as goal

pub returns-in_err-length : goal.returns-in_err-length
returns-in_err-length c =
    let k = c.args.self.now in
    let i = c.args.place in
    let typed = slot_found c.get.result k.types.items c.deref.result.now i c.in_ok-ty.ty c.deref.ensures.value c.get.ensures.lookup.3 c.in_ok-ty.was in
    let valued = slot_found c.get-2.result k.values.items c.deref-2.result.now i c.in_ok-get.field-0 c.deref-2.ensures.value c.get-2.ensures.lookup.3 c.in_ok-get.was ∙ ap Some (sym c.as_ref.ensures.value ∙ ap option_copied c.in_ok-value.was) in
    let none = slot_empty c.get-3.result k.lengths.items c.deref-3.result.now i c.deref-3.ensures.value c.get-3.ensures.lookup.3 c.in_err-length.was in
    no_clash _ _ none (kept_length k.types.items k.values.items k.lengths.items i c.in_ok-ty.ty.now c.in_ok-value.value.now k.counted typed valued)

pub invariant_of-result : goal.invariant_of-result
invariant_of-result c =
    let k = c.args.self.now in
    let i = c.args.place in
    let typed = slot_found c.get.result k.types.items c.deref.result.now i c.in_ok-ty.ty c.deref.ensures.value c.get.ensures.lookup.3 c.in_ok-ty.was in
    let valued = slot_found c.get-2.result k.values.items c.deref-2.result.now i c.in_ok-get.field-0 c.deref-2.ensures.value c.get-2.ensures.lookup.3 c.in_ok-get.was ∙ ap Some (sym c.as_ref.ensures.value ∙ ap option_copied c.in_ok-value.was) in
    let some = slot_found c.get-3.result k.lengths.items c.deref-3.result.now i c.in_ok-length.field-0 c.deref-3.ensures.value c.get-3.ensures.lookup.3 c.in_ok-length.was in
    record {
      counted = rw c.deref-4.ensures (same_value _ _ _ some (kept_length k.types.items k.values.items k.lengths.items i c.in_ok-ty.ty.now c.in_ok-value.value.now k.counted typed valued));
    }

pub returns : goal.returns
returns c =
    let k = c.args.self.now in
    let i = c.args.place in
    let typed = slot_found c.get.result k.types.items c.deref.result.now i c.in_ok-ty.ty c.deref.ensures.value c.get.ensures.lookup.3 c.in_ok-ty.was in
    let valued = slot_found c.get-2.result k.values.items c.deref-2.result.now i c.in_ok-get.field-0 c.deref-2.ensures.value c.get-2.ensures.lookup.3 c.in_ok-get.was ∙ ap Some (sym c.as_ref.ensures.value ∙ ap option_copied c.in_ok-value.was) in
    ap (λ (ty : Ty). let g : Governed = record { ty = type_view ty; value = shared_view c.in_ok-value.value.now } in Some g) c.deref-4.ensures
    ∙ sym (found_pair k.types.items k.values.items i c.in_ok-ty.ty.now c.in_ok-value.value.now typed valued)
