use Rattle.std.proofs.Common.{◌≡◌, ℕ, ◌+◌, List, length, map, sym, ap, ◌∙◌}
use Rattle.std.specs.Borrow.{Bor}
use Rattle.std.proofs.lemmas.List.{length-map}
use Rattle.guard_model.specs.AbstractType.{AbstractType}
use Rattle.guard_model.specs.TypeView.{type_view}
use Rattle.guard_model.specs.declared.ty.Ty.{Ty}
use Rattle.guard_tables.specs.Slots.{below}
use Rattle.guard_tables.specs.Tables.{types_view}
use Rattle.guard_tables.proofs.Faultless.{faultless_alike}
use Rattle.guard_tables.proofs.OfTables.{of_copies, consistent_again, stands_again, types_again}
use Rattle.guard_tables.proofs.table.Table.compile.Goals as goal

pub invariant_of-result : goal.invariant_of-result
invariant_of-result c =
    let d = type_view c.args.declared.now in
    let rules = types_view c.args.rules.now in
    let others = types_view c.in_ok-compiled.compiled.others.items in
    let all : map type_view c.in_ok-others.others.items ≡ others = c.in_ok-others.ensures ∙ ap types_view c.deref.ensures.value in
    let e = of_copies c.new.result d rules c.in_ok-copy.copy c.in_ok-others.others.items others c.in_ok-compiled.compiled.places.items c.new.ensures
    c.in_ok-copy.ensures all c.in_ok-compiled.ensures.types in
    record {
      all = c.slots_of.ensures ∙ ap (λ (n : ℕ). below (n + 1)) (sym (ap (λ (ts : List AbstractType). length ts) e.1 ∙ length-map c.args.rules.now (λ (t : Bor Ty). type_view t.now)));
      consistent = consistent_again c.new.result d rules e
          (record { declared_sound = c.requires.declared_sound; rules_sound = c.requires.rules_sound; faultless = c.in_ok-find_fault.ensures.faultless });
      stands = ∣ stands_again c.in_ok-compiled.compiled.nodes c.new.result d rules e c.in_ok-compiled.ensures.stands ∣₁;
    }

pub returns-clause-types : goal.returns-clause-types
returns-clause-types c =
    let d = type_view c.args.declared.now in
    let rules = types_view c.args.rules.now in
    let others = types_view c.in_ok-compiled.compiled.others.items in
    let all : map type_view c.in_ok-others.others.items ≡ others = c.in_ok-others.ensures ∙ ap types_view c.deref.ensures.value in
    types_again c.new.result d rules
    (of_copies c.new.result d rules c.in_ok-copy.copy c.in_ok-others.others.items others c.in_ok-compiled.compiled.places.items c.new.ensures
    c.in_ok-copy.ensures all c.in_ok-compiled.ensures.types)

pub returns-clause-alike : goal.returns-clause-alike
returns-clause-alike c = faultless_alike (type_view c.args.declared.now) (types_view c.args.rules.now) c.in_ok-find_fault.ensures.faultless
