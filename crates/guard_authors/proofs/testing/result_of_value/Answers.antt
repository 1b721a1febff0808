use Rattle.std.proofs.Common.{inl}
use Rattle.std.proofs.lemmas.Result.{IfOk-weaker}
use Rattle.guard_model.specs.ValueView.{value_view}
use Rattle.guard_authors.proofs.testing.result_of_value.Goals as goal

pub returns-in-Ok : goal.returns-in-Ok
returns-in-Ok c =
    IfOk-weaker c.result_of_octets.result _ _
    (λ came h. inl (value_view c.in-Ok.field-0-0, c.in-Ok.octets.items, c.in-Ok.ensures.encoding, rw c.deref.ensures.value at h))
    c.result_of_octets.ensures
