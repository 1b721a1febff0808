use Rattle.std.proofs.Common.{Result, IfOk, subst}
use Rattle.guard_model.specs.Kinds.{kind_of}
use Rattle.guard_model.specs.TypeView.{type_view}
use Rattle.guard_model.specs.ValueView.{value_view}
use Rattle.guard_values.specs.declared.fault.ValueFault.{ValueFault}
use Rattle.guard_values.specs.declared.lengths.Counted.{Counted}
use Rattle.guard_values.specs.inside.Lengths.{HasContents}
use Rattle.guard_values.proofs.Counting.CountedValues.{in_tags_counted}
use Rattle.guard_values.proofs.lengths.in_tags.Goals as goal

pub returns-clause-counted : goal.returns-clause-counted
returns-clause-counted c = λ read.
    let contents = subst (λ (r : Result Counted ValueFault). IfOk r (HasContents (kind_of (type_view c.args.ty.now)))) c.in_ok-contents.was read in
    in_tags_counted c.args.ty.now (value_view c.in_ok-contents.contents.value) c.in_ok-contents.contents.length c.tagged_length-length.result contents (rw c.deref.ensures.value at c.tagged_length-length.ensures)
