use Rattle.std.proofs.Common.{◌≡◌, List, ◌∷◌, map, option_map, Some, ap, sym, ◌∙◌, subst}
use Rattle.std.specs.Arc.{arc_value}
use Rattle.std.specs.Prelude.{IfSome}
use Rattle.std.specs.Borrow.{Bor}
use Rattle.std.proofs.lemmas.Result.{err_from_is_err_and}
use Rattle.guard_model.specs.AbstractType.{AbstractType}
use Rattle.guard_model.specs.TypeView.{type_view}
use Rattle.guard_tables.specs.Tables.{types_view, first_fault}
use Rattle.guard_policy.specs.Consistency.{types_for}
use Rattle.guard_policy.specs.declared.policy.SaidRule.{SaidRule}
use Rattle.guard_policy.specs.Policies.{AbstractRule}
use Rattle.guard_policy.specs.PolicyFaults.{bad_table, named}
use Rattle.guard_policy.specs.SaidView.{said_message_view, said_view}
use Rattle.guard_policy.specs.Routing.{IsRouting}
use Rattle.guard_policy.specs.inside.Said.{rules_view}
use Rattle.guard_policy.proofs.Consistent.{types_sound}
use Rattle.guard_policy.proofs.RulesNamed.{types_given, few_named, tabled_here, routed_here}
use Rattle.guard_policy.proofs.tables.keep_message.Goals as goal

pub table_of-requires-clause-rules_sound : goal.table_of-requires-clause-rules_sound
table_of-requires-clause-rules_sound c =
    let name = c.args.message.now.name.now in
    let rules = map said_view c.args.rules.now in
    let are : types_view c.deref-3.result.now ≡ types_for name rules =
    types_given name rules c.in_ok-named.named.items c.deref.result.now c.in_ok-types.types.items c.deref-3.result.now c.in_ok-named.ensures c.deref.ensures.value c.in_ok-types.ensures c.deref-3.ensures.value in
    rw are (types_sound name rules c.requires.rules_sound)

pub of-requires : goal.of-requires
of-requires c =
    let name = c.args.message.now.name.now in
    let rules = map said_view c.args.rules.now in
    let ty = type_view c.args.message.now.ty.now in
    let are : types_view c.deref-3.result.now ≡ types_for name rules =
    types_given name rules c.in_ok-named.named.items c.deref.result.now c.in_ok-types.types.items c.deref-3.result.now c.in_ok-named.ensures c.deref.ensures.value c.in_ok-types.ensures c.deref-3.ensures.value in
    record {
      few = rw c.deref-4.ensures.value
          (few_named rules name ty (arc_value c.in_ok-table.table) c.in_ok-named.named.items
          (c.in_ok-table.ensures.types ∙ ap (λ (ts : List AbstractType). ty ∷ ts) are) c.in_ok-named.ensures);
    }

pub returns-in_err-table-clause-met : goal.returns-in_err-table-clause-met
returns-in_err-table-clause-met c =
    let name = c.args.message.now.name.now in
    let rules = map said_view c.args.rules.now in
    let ty = type_view c.args.message.now.ty.now in
    let are : types_view c.deref-3.result.now ≡ types_for name rules =
    types_given name rules c.in_ok-named.named.items c.deref.result.now c.in_ok-types.types.items c.deref-3.result.now c.in_ok-named.ensures c.deref.ensures.value c.in_ok-types.ensures c.deref-3.ensures.value in
    let p = err_from_is_err_and c.from_residual-in_err-table.result c.from_residual-in_err-table.ensures.1 in
    rw (p.1, p.2)
    (subst (λ (ts : List AbstractType). IfSome (named c.in_err-table.field-0.0) (λ f. option_map (bad_table c.args.number) (first_fault ty ts) ≡ Some f)) are c.in_err-table.ensures.met)

pub returns-clause-met : goal.returns-clause-met
returns-clause-met c =
    let name = c.args.message.now.name.now in
    let rules = map said_view c.args.rules.now in
    let ty = type_view c.args.message.now.ty.now in
    let are : types_view c.deref-3.result.now ≡ types_for name rules =
    types_given name rules c.in_ok-named.named.items c.deref.result.now c.in_ok-types.types.items c.deref-3.result.now c.in_ok-named.ensures c.deref.ensures.value c.in_ok-types.ensures c.deref-3.ensures.value in
    ap (λ (ts : List AbstractType). option_map (bad_table c.args.number) (first_fault ty ts)) (sym are) ∙ c.in_ok-table.ensures.met

pub returns-clause-kept : goal.returns-clause-kept
returns-clause-kept c =
    let name = c.args.message.now.name.now in
    let rules = map said_view c.args.rules.now in
    let ty = type_view c.args.message.now.ty.now in
    let are : types_view c.deref-3.result.now ≡ types_for name rules =
    types_given name rules c.in_ok-named.named.items c.deref.result.now c.in_ok-types.types.items c.deref-3.result.now c.in_ok-named.ensures c.deref.ensures.value c.in_ok-types.ensures c.deref-3.ensures.value in
    tabled_here rules (said_message_view c.args.message.now) _ _ _ c.in_ok-name.ensures.ok c.in_ok-home.ensures.ok
    (c.in_ok-table.ensures.types ∙ ap (λ (ts : List AbstractType). ty ∷ ts) are)

pub returns-clause-routed : goal.returns-clause-routed
returns-clause-routed c =
    let name = c.args.message.now.name.now in
    let rules = map said_view c.args.rules.now in
    let ty = type_view c.args.message.now.ty.now in
    let are : types_view c.deref-3.result.now ≡ types_for name rules =
    types_given name rules c.in_ok-named.named.items c.deref.result.now c.in_ok-types.types.items c.deref-3.result.now c.in_ok-named.ensures c.deref.ensures.value c.in_ok-types.ensures c.deref-3.ensures.value in
    routed_here rules name _ ty c.in_ok-name.ensures.ok (c.in_ok-numbers.ensures ∙ c.requires.numbered name)
    (c.in_ok-table.ensures.types ∙ ap (λ (ts : List AbstractType). ty ∷ ts) are)
    (subst (λ (named : List AbstractRule). IsRouting named c.in_ok-routing.routing)
    (ap (λ (named : List (Bor SaidRule)). rules_view named) c.deref-4.ensures.value ∙ c.in_ok-named.ensures) c.in_ok-routing.ensures)
