use Rattle.std.proofs.Common.{◌≡◌, ◌∙◌, ℕ, sym, ap, length, None, arith}
use Rattle.std.specs.Prelude.{replicate}
use Rattle.guard_model.specs.AbstractValue.{fields_of}
use Rattle.guard_model.proofs.Components.{fields_absent}
use Rattle.guard_model.proofs.slots.absent_fields.Goals as goal

pub returns-clause-absent : goal.returns-clause-absent
returns-clause-absent c =
    let all : c.loop-comp._comp-index ≡ length c.args.comps.now = omega arith in
    let filled = c.loop-comp.invariant ∙ ap (λ (n : ℕ). replicate n None) all in
    sym (fields_absent c.args.comps.now ∙ sym (ap fields_of filled))
