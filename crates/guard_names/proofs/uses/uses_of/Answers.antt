use Rattle.std.proofs.Common.{◌++◌, map, refl, sym, ◌∙◌, ap}
use Rattle.std.specs.List.{filter_map}
use Rattle.std.proofs.lemmas.Result.{err_from_is_err_and}
use Rattle.guard_names.specs.declared.fault.NameFault.TheVariants as fault
use Rattle.guard_names.specs.Faults.{named, first_where, is_undefined_mention}
use Rattle.guard_names.specs.inside.Reading.{refused_at}
use Rattle.guard_names.specs.TableViews.{meaning_in}
use Rattle.guard_names.specs.inside.Views.{mention_view}
use Rattle.guard_names.proofs.Faults.FirstFaults.{refused_so, accepted_so, where_here, passes_where, none_where}
use Rattle.guard_names.proofs.Mentioned.Gathering.{all_gathered}
use Rattle.guard_names.proofs.Mentioned.Used.{used_of, one_more_used}
use Rattle.guard_names.proofs.uses.uses_of.Goals as goal

pub loop-mention-init : goal.loop-mention-init
loop-mention-init c = record {
  found = ap (λ xs. xs ++ used_of (meaning_in c.args.within.now.meanings.now) c.args.within.now.home.now c.deref-mention-items.result.now) c.new-used.ensures.items;
  rest = refl;
}

pub loop-mention-preserved : goal.loop-mention-preserved
loop-mention-preserved c = record {
  found = one_more_used (meaning_in c.args.within.now.meanings.now) c.args.within.now.home.now c.deref-mention-items.result.now c.loop-mention.mention-index _ c.loop-mention.used.items c.add_use.new.into.items _
      c.loop-mention-test.true c.in_ok-add_use.ensures.found c.loop-mention.invariant.found;
  rest = passes_where (is_undefined_mention (meaning_in c.args.within.now.meanings.now) c.args.within.now.home.now) (λ x. x.site) mention_view c.deref-mention-items.result.now c.loop-mention.mention-index _
      c.loop-mention-test.true _ c.loop-mention.invariant.rest (accepted_so (λ s. fault.Undefined s) _ c.in_ok-add_use.ensures.refused);
}

pub returns-in_err-mentioned : goal.returns-in_err-mentioned
returns-in_err-mentioned c =
    let p = err_from_is_err_and c.from_residual.result c.from_residual.ensures.1 in
    record { found = rw p.1 tt; refused = rw (p.1, p.2) tt }

pub returns-in_err-add_use : goal.returns-in_err-add_use
returns-in_err-add_use c =
    let p = err_from_is_err_and c.from_residual-in_err-add_use.result c.from_residual-in_err-add_use.ensures.1 in
    let all = ap (map mention_view) c.deref-mention-items.ensures.value ∙ c.in_ok-mentioned.ensures in
    record {
      found = rw p.1 tt;
      refused = rw (p.1, p.2)
          (refused_so (λ s. fault.Undefined s) (named c.in_err-add_use.field-0.0) _ _ c.in_err-add_use.ensures.refused
          (λ s h. sym (ap (first_where (is_undefined_mention (meaning_in c.args.within.now.meanings.now) c.args.within.now.home.now) (λ x. x.site)) all)
          ∙ where_here (is_undefined_mention (meaning_in c.args.within.now.meanings.now) c.args.within.now.home.now) (λ x. x.site) mention_view c.deref-mention-items.result.now c.loop-mention.mention-index _
          c.loop-mention-test.true _ c.loop-mention.invariant.rest s h));
    }

pub returns : goal.returns
returns c =
    let all = ap (map mention_view) c.deref-mention-items.ensures.value ∙ c.in_ok-mentioned.ensures in
    record {
      found = all_gathered (used_of (meaning_in c.args.within.now.meanings.now) c.args.within.now.home.now) c.deref-mention-items.result.now c.loop-mention.mention-index _ c.loop-mention.used.items c.loop-mention-test.false refl c.loop-mention.invariant.found
          ∙ ap (filter_map (λ x. meaning_in c.args.within.now.meanings.now c.args.within.now.home.now x.name)) all;
      refused = ap (refused_at (λ s. fault.Undefined s))
          (sym (ap (first_where (is_undefined_mention (meaning_in c.args.within.now.meanings.now) c.args.within.now.home.now) (λ x. x.site)) all)
          ∙ none_where (is_undefined_mention (meaning_in c.args.within.now.meanings.now) c.args.within.now.home.now) (λ x. x.site) mention_view c.deref-mention-items.result.now c.loop-mention.mention-index _ c.loop-mention-test.false c.loop-mention.invariant.rest);
    }
