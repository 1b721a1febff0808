use Rattle.std.proofs.Common.{◌∙◌, arith, ap, vec_len}
use Rattle.guard_tables.specs.Plan.{Body, plan, tags_in, form_in, body_in}
use Rattle.guard_tables.specs.inside.Assembled.{plan_in}
use Rattle.guard_tables.proofs.Comings.{formula_comes, implied_cold, unimplied, some_implied, laid_as}
use Rattle.guard_tables.proofs.LaidSteps.{nothing_there, something_there}
use Rattle.guard_tables.proofs.assembly.with_formulas.Goals as goal

pub invariant_of-result : goal.invariant_of-result
invariant_of-result c = record {
  stands = rw (c.bare-node.ensures.hot, c.len-first.ensures ∙ c.args.laid.builder.hots.ok.0)
      (formula_comes c.args.laid c.in_ok-builder.builder c.in_ok-builder.ensures (implied_cold c.bare-node.result.cold c.args.implications)
      c.bare-node.ensures.cold.default c.bare-node.ensures.cold.present c.bare-node.ensures.cold.conditions).node;
}

pub returns : goal.returns
returns c = laid_as c.args.laid.builder _ _ _
    (ap (λ (b : Body). plan (tags_in (plan_in c.args.laid)) (form_in (plan_in c.args.laid)) b) (some_implied c.args.implications.items (body_in (plan_in c.args.laid)) (let n = something_there (vec_len c.args.implications) c.is_empty.result c.is_empty.ensures c.if-is_empty.false in omega (arith, n, c.args.implications.ok.0))))
    (record {
      grows = c.in_ok-builder.ensures.grows;
      stands = rw (c.bare-node.ensures.hot, c.len-first.ensures ∙ c.args.laid.builder.hots.ok.0)
          (formula_comes c.args.laid c.in_ok-builder.builder c.in_ok-builder.ensures (implied_cold c.bare-node.result.cold c.args.implications)
          c.bare-node.ensures.cold.default c.bare-node.ensures.cold.present c.bare-node.ensures.cold.conditions).stands;
    })

pub returns-then-is_empty : goal.returns-then-is_empty
returns-then-is_empty c = unimplied c.args.laid c.args.implications.items (let n = nothing_there (vec_len c.args.implications) c.is_empty.result c.is_empty.ensures c.if-is_empty.true in omega (arith, n, c.args.implications.ok.0))
