use Rattle.std.proofs.Common.{◌∙◌, ◌++◌, ap, map, option_map, refl, subst}
use Rattle.guard_syntax.specs.ModuleViews.{module_view}
use Rattle.guard_policy.specs.PolicyView.{policy_view}
use Rattle.guard_frames.specs.Bodies.{body_view}
use Rattle.guard_notes.specs.Sources.{AbstractSources}
use Rattle.guard_files.specs.Answers.{answer_view}
use Rattle.guard_messages.specs.Decided.{IsVerdict, OfHeld}
use Rattle.guard_messages.proofs.deciding.decided_over.Goals as goal

pub returns : goal.returns
returns c =
    let l = c.args.loaded.now in
    let v = answer_view c.in_ok-verdict.verdict in (
      v,
      subst (λ (s : AbstractSources). OfHeld (IsVerdict c.args.explain (record { sources = s; modules = map module_view l.trees.now }) (policy_view l.policy)) (option_map body_view c.args.held) v)
          c.sources_of.ensures c.in_ok-verdict.ensures,
      c.in_ok-add.ensures ∙ ap (λ n. v.out ++ n) (c.deref.ensures.value ∙ c.in_ok-names.ensures),
      refl,
    )
