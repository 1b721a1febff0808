use Rattle.std.proofs.Common.{Err, ap, ◌∙◌}
use Rattle.std.specs.Prelude.{not}
use Rattle.guard_model.specs.Answer.{◌>>=◌}
use Rattle.guard_model.specs.AbstractValue.{AbstractValue}
use Rattle.guard_model.specs.TypeView.{type_view}
use Rattle.guard_syntax.specs.Trees.{WrittenValue}
use Rattle.guard_syntax.specs.Views as trees
use Rattle.guard_values.specs.declared.fault.ValueFault.TheVariants.{TooLarge}
use Rattle.guard_values.specs.inside.Reading.{Read, limited, site_of}
use Rattle.guard_values.specs.Views.{known_value_view}
use Rattle.guard_values.proofs.Braces.EntriesInTurn.{value_view_is}
use Rattle.guard_values.proofs.Counting.CountedValues.{in_tags_counted, limited_short, limited_long}
use Rattle.guard_values.proofs.written.value_within_limit.Goals as goal

pub returns-then-is_none-clause-given : goal.returns-then-is_none-clause-given
returns-then-is_none-clause-given c =
    let v = known_value_view c.in_ok-known.known in
    let t = type_view c.args.ty.now in
    let tree = trees.value_view c.args.tree.now in
    let n = c.tagged_length.result in
    let whole = in_tags_counted c.args.ty.now v c.in_ok-known.known.length n c.in_ok-known.ensures.counted (rw c.deref.ensures.value at c.tagged_length.ensures) in
    ap (λ (r : Read AbstractValue). r >>= λ v. limited (site_of tree) t v) c.in_ok-known.ensures.given ∙ limited_long (site_of tree) t v n whole (c.is_none.ensures ∙ ap not c.if-is_none.true)
    ∙ ap (λ (w : WrittenValue). Err (TooLarge (site_of w))) (value_view_is c.args.tree.now)

pub returns-clause-given : goal.returns-clause-given
returns-clause-given c =
    let v = known_value_view c.in_ok-known.known in
    let t = type_view c.args.ty.now in
    let tree = trees.value_view c.args.tree.now in
    let n = c.tagged_length.result in
    let whole = in_tags_counted c.args.ty.now v c.in_ok-known.known.length n c.in_ok-known.ensures.counted (rw c.deref.ensures.value at c.tagged_length.ensures) in
    ap (λ (r : Read AbstractValue). r >>= λ v. limited (site_of tree) t v) c.in_ok-known.ensures.given ∙ limited_short (site_of tree) t v n whole (c.is_none.ensures ∙ ap not c.if-is_none.false)
