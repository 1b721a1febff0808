use Rattle.std.proofs.Common.{◌∙◌, ℤ, not, ap, sym, true≢false}
use Rattle.std.specs.Prelude.{◌^◌, ◌-◌, pos, int_le}
use Rattle.std.proofs.lemmas.Int.{to_z-of_z}
use mir.Syntax.{w128}
use Rattle.guard_policy.specs.Barren.{least_number}
use Rattle.guard_policy.proofs.NothingShared.{empty_exactly}
use Rattle.guard_policy.proofs.barren.is_empty.Goals as goal

pub returns-then-not-has : goal.returns-then-not-has
returns-then-not-has c =
    let last = c.alike_to.result in
    empty_exactly c.args.set.now last c.reaches_all.result (sym c.has.ensures ∙ c.if-not-has.true) c.alike_to.ensures.alike c.alike_to.ensures.from
    c.alike_to.ensures.last (c.reaches_all.ensures ∙ ap (λ (z : ℤ). int_le (pos (2 ^ 127 - 1)) z) (to_z-of_z w128 last (record { sfits = c.alike_to.type_inv })))

pub returns-else-not-has : goal.returns-else-not-has
returns-else-not-has c = (
  λ is. absurd (true≢false (sym is ∙ ap not c.if-not-has.false)),
  λ none. absurd (true≢false (sym c.if-not-has.false ∙ c.has.ensures ∙ none least_number)),
)
