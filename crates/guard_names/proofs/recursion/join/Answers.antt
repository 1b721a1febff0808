use Rattle.std.proofs.Common.{◌≡◌, ◌<◌, ◌≤◌, true, length, get_or, take, ◌++◌, ◌∷◌, [], ◌∙◌, ap, subst, arith}
use Rattle.guard_names.specs.inside.Searches.{no_part}
use Rattle.guard_names.specs.declared.recursion.Part.{Part}
use Rattle.guard_names.proofs.Recursive.Lists.{any_default, cut_and_set}
use Rattle.guard_names.proofs.recursion.join.Goals as goal

pub returns : goal.returns
returns c =
    let here : c.loop-last.last < length c.args.parts.now.items = c.loop-last.invariant.here in
    let found = c.index.ensures ∙ any_default c.args.parts.now.items c.loop-last.last c.index.result.now no_part here in
    let same : c.index_mut.result.now ≡ get_or c.args.parts.now.items c.loop-last.last no_part =
    c.index_mut.ensures.value ∙ c.truncate.ensures.by_index c.loop-last.last c.index_mut.result.now (omega arith) ∙ any_default c.args.parts.now.items c.loop-last.last c.index_mut.result.now no_part here in
    record {
      last = c.loop-last.last;
      here = here;
      start = subst (λ p. p.start ≤ c.args.place) found c.loop-last-test.false;
      after = c.loop-last.invariant.after;
      is = cut_and_set c.args.parts.now.items c.truncate.new.self.items c.loop-last.last (record { start = c.index_mut.result.now.start; cyclic = true }) here c.truncate.ensures.items
          ∙ ap (λ (p : Part). take c.loop-last.last c.args.parts.now.items ++ record { start = p.start; cyclic = true } ∷ []) same;
    }
