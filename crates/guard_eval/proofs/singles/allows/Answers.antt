use Rattle.std.proofs.Common.{List, map, ap, sym, ◌∙◌}
use Rattle.guard_model.specs.AbstractType.{at}
use Rattle.guard_model.specs.TypeView.{kind_view, constraint_view, constraints_of}
use Rattle.guard_model.specs.ValueView.{value_view}
use Rattle.guard_model.specs.declared.ty.Cons.{Cons}
use Rattle.guard_model.specs.declared.ty.Kind.TheViews.{out-Cons}
use Rattle.guard_eval.specs.inside.Failures.{some_allows}
use Rattle.guard_eval.specs.inside.Together.{passes}
use Rattle.guard_eval.proofs.AtPlace.{constraint_view_is}
use Rattle.guard_eval.proofs.Law.{clear_unless}
use Rattle.guard_eval.proofs.RuleViews.{view_any}
use Rattle.guard_eval.proofs.singles.allows.Goals as goal

pub returns-in-Any-Some : goal.returns-in-Any-Some
returns-in-Any-Some c =
    let kind = kind_view c.args.kind.now in
    let v = value_view c.args.value.now in
    let cons = out-Cons c.args.cons.now in
    c.union_allows.ensures ∙ ap (λ (cs : List Cons). some_allows (constraints_of (map constraint_view cs)) kind v) c.deref.ensures.value
    ∙ sym (ap (passes kind v) (constraint_view_is c.args.cons.now ∙ ap (at cons.site) (view_any cons.rule c.in-Any-Some.list c.in-Any-Some.is-0)) ∙ clear_unless _ cons.site)
