use Rattle.std.proofs.Common.{◌≡◌, ◌++◌, ◌∷◌, [], map, Ok, refl, ◌∙◌, ap}
use Rattle.std.proofs.lemmas.List.{map-append}
use Rattle.std.proofs.lemmas.Result.{err_from_is_err_and}
use Rattle.guard_syntax.specs.ModuleViews.{assignment_view}
use Rattle.guard_names.specs.declared.fault.NameFault.TheVariants as fault
use Rattle.guard_model.specs.Answer.{Refuses}
use Rattle.guard_names.specs.Faults.{named, first_found, undefined_mention_in}
use Rattle.guard_names.specs.inside.Reading.{refused_at, used_in, listed_uses}
use Rattle.guard_names.specs.TableViews.{meaning_in}
use Rattle.guard_names.proofs.Faults.FirstFaults.{refused_so, accepted_so, found_here, passes_here, none_found}
use Rattle.guard_names.proofs.Mentioned.Gathering.{one_more, all_gathered}
use Rattle.guard_names.proofs.Declared.Keys.{moved_within}
use Rattle.guard_names.proofs.uses.add_uses.Goals as goal

pub returns-in_err-used-clause-refused : goal.returns-in_err-used-clause-refused
returns-in_err-used-clause-refused c =
    let p = err_from_is_err_and c.from_residual.result c.from_residual.ensures.1 in
    rw (p.1, p.2)
    (moved_within c.within-within.result c.args.meanings.now c.args.tree.now.name.now c.within-within.ensures.meanings c.within-within.ensures.home
    (λ n h. Refuses (named c.in_err-used.field-0.0) (refused_at (λ s. fault.Undefined s) (first_found (undefined_mention_in n h) (map assignment_view c.args.tree.now.assignments.items))))
    (refused_so (λ s. fault.Undefined s) (named c.in_err-used.field-0.0) _ _ c.in_err-used.ensures.refused
    (found_here (undefined_mention_in (meaning_in c.within-within.result.meanings.now) c.within-within.result.home.now) assignment_view c.args.tree.now.assignments.items c.loop-assignment.assignment-index c.assignment-item.result
    (rw c.deref-assignment-items.ensures.value at c.loop-assignment-test.true) (rw c.deref-assignment-items.ensures.value at c.assignment-item.is) _ c.loop-assignment.invariant.rest)))

pub loop-assignment-init : goal.loop-assignment-init
loop-assignment-init c = record { found = refl; rest = refl }

pub loop-assignment-preserved : goal.loop-assignment-preserved
loop-assignment-preserved c =
    let numbers = meaning_in c.within-within.result.meanings.now in
    let home = c.within-within.result.home.now in
    let inside = rw c.deref-assignment-items.ensures.value at c.loop-assignment-test.true in
    let is = rw c.deref-assignment-items.ensures.value at c.assignment-item.is in
    record {
      found = one_more (λ xs. map (used_in numbers home) (map assignment_view xs)) c.args.tree.now.assignments.items c.loop-assignment.assignment-index _ c.assignment-item.result
          (used_in numbers home (assignment_view c.assignment-item.result) ∷ []) (listed_uses c.loop-assignment.into) (listed_uses c.push.new.self) inside is
          (ap (map (λ v. v.items)) c.in_ok-push.ensures.items ∙ map-append (λ v. v.items) c.loop-assignment.into.items (c.in_ok-used.used ∷ []) ∙ ap (λ u. listed_uses c.loop-assignment.into ++ u ∷ []) c.in_ok-used.ensures.found)
          c.loop-assignment.invariant.found refl;
      rest = passes_here (undefined_mention_in numbers home) assignment_view c.args.tree.now.assignments.items c.loop-assignment.assignment-index c.assignment-item.result inside is _ c.loop-assignment.invariant.rest
          (accepted_so (λ s. fault.Undefined s) _ c.in_ok-used.ensures.refused);
    }

pub returns : goal.returns
returns c =
    let numbers = meaning_in c.within-within.result.meanings.now in
    let home = c.within-within.result.home.now in
    let ends = rw c.deref-assignment-items.ensures.value at c.loop-assignment-test.false in
    record {
      found = moved_within c.within-within.result c.args.meanings.now c.args.tree.now.name.now c.within-within.ensures.meanings c.within-within.ensures.home
          (λ n h. listed_uses c.loop-assignment.into ≡ listed_uses c.args.into.now ++ map (used_in n h) (map assignment_view c.args.tree.now.assignments.items))
          (all_gathered (λ xs. map (used_in numbers home) (map assignment_view xs)) c.args.tree.now.assignments.items c.loop-assignment.assignment-index _ (listed_uses c.loop-assignment.into) ends refl c.loop-assignment.invariant.found);
      refused = moved_within c.within-within.result c.args.meanings.now c.args.tree.now.name.now c.within-within.ensures.meanings c.within-within.ensures.home
          (λ n h. refused_at (λ s. fault.Undefined s) (first_found (undefined_mention_in n h) (map assignment_view c.args.tree.now.assignments.items)) ≡ Ok tt)
          (ap (refused_at (λ s. fault.Undefined s)) (none_found (undefined_mention_in numbers home) assignment_view c.args.tree.now.assignments.items c.loop-assignment.assignment-index _ ends c.loop-assignment.invariant.rest));
    }

pub returns-in_err-push : goal.returns-in_err-push
returns-in_err-push c =
    let p = err_from_is_err_and c.from_residual-in_err-push.result c.from_residual-in_err-push.ensures.1 in
    record { found = rw p.1 tt; refused = rw (p.1, p.2) tt }
