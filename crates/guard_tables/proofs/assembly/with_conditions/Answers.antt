use Rattle.std.proofs.Common.{◌∙◌, arith, ap, vec_len}
use Rattle.guard_tables.specs.Plan.{Body, plan, tags_in, form_in, body_in}
use Rattle.guard_tables.specs.inside.Assembled.{plan_in}
use Rattle.guard_tables.proofs.Comings.{asked_comes, unasked, some_asked, asked_cold, laid_as}
use Rattle.guard_tables.proofs.LaidSteps.{nothing_there, something_there}
use Rattle.guard_tables.proofs.assembly.with_conditions.Goals as goal

pub invariant_of-result : goal.invariant_of-result
invariant_of-result c = record {
  stands = rw (c.bare-node.ensures.hot, c.len-first.ensures ∙ c.args.laid.builder.hots.ok.0)
      (asked_comes c.args.laid c.in_ok-builder.builder c.in_ok-builder.ensures (asked_cold c.bare-node.result.cold c.args.conditions) c.bare-node.ensures.cold.default c.bare-node.ensures.cold.present).node;
}

pub returns : goal.returns
returns c = laid_as c.args.laid.builder _ _ _
    (ap (λ (b : Body). plan (tags_in (plan_in c.args.laid)) (form_in (plan_in c.args.laid)) b) (some_asked c.args.conditions.list.items (body_in (plan_in c.args.laid)) (let n = something_there (vec_len c.args.conditions.list) c.is_empty.result c.is_empty.ensures c.if-is_empty.false in omega (arith, n, c.args.conditions.list.ok.0))))
    (record {
      grows = c.in_ok-builder.ensures.grows;
      stands = rw (c.bare-node.ensures.hot, c.len-first.ensures ∙ c.args.laid.builder.hots.ok.0)
          (asked_comes c.args.laid c.in_ok-builder.builder c.in_ok-builder.ensures (asked_cold c.bare-node.result.cold c.args.conditions) c.bare-node.ensures.cold.default c.bare-node.ensures.cold.present).stands;
    })

pub returns-then-is_empty : goal.returns-then-is_empty
returns-then-is_empty c = unasked c.args.laid c.args.conditions.list.items (let n = nothing_there (vec_len c.args.conditions.list) c.is_empty.result c.is_empty.ensures c.if-is_empty.true in omega (arith, n, c.args.conditions.list.ok.0))
