use Rattle.std.proofs.Common.{sym, ap, ◌∙◌}
use Rattle.guard_model.specs.inside.Spelled.{spelled, numbers_of}
use Rattle.guard_model.proofs.Spelled.{same_as_spelled}
use Rattle.guard_model.proofs.Tests.{and_on, and_stop}
use Rattle.guard_model.proofs.named_list.NamedList.is_same.Goals as goal

pub returns-then-eq : goal.returns-then-eq
returns-then-eq c =
    let one = c.as_slice.ensures.value ∙ c.self.invariant.by_octets ∙ ap spelled c.self.view_is in
    let two = c.as_slice-2.ensures.value ∙ c.other.invariant.by_octets ∙ ap spelled c.other.view_is in
    let first = c.as_slice-then-eq.ensures.value ∙ c.self.invariant.by_place ∙ ap numbers_of c.self.view_is in
    let second = c.as_slice-then-eq-2.ensures.value ∙ c.other.invariant.by_place ∙ ap numbers_of c.other.view_is in
    c.eq-then-eq.ensures ∙ and_on _ _ _ (sym c.eq.ensures ∙ c.if-eq.true) (same_as_spelled c.args.self.now c.args.other.now _ _ _ _ one two first second)

pub returns-else-eq : goal.returns-else-eq
returns-else-eq c =
    let one = c.as_slice.ensures.value ∙ c.self.invariant.by_octets ∙ ap spelled c.self.view_is in
    let two = c.as_slice-2.ensures.value ∙ c.other.invariant.by_octets ∙ ap spelled c.other.view_is in
    let first = c.self.invariant.by_place ∙ ap numbers_of c.self.view_is in
    let second = c.other.invariant.by_place ∙ ap numbers_of c.other.view_is in
    c.if-eq.false ∙ and_stop _ _ _ (sym c.eq.ensures ∙ c.if-eq.false) (same_as_spelled c.args.self.now c.args.other.now _ _ _ _ one two first second)
