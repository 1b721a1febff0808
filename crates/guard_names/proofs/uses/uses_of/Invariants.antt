use Rattle.std.proofs.Common.{◌≡◌, ◌++◌, map, drop}
use Rattle.std.specs.List.{filter_map}
use Rattle.guard_names.specs.Faults.{first_where, is_undefined_mention}
use Rattle.guard_names.specs.TableViews.{meaning_in}
use Rattle.guard_names.specs.inside.Views.{mention_view}
use Rattle.guard_names.proofs.uses.uses_of.Given as goal

abbrev pub invariant-loop-mention : goal.invariant-loop-mention
invariant-loop-mention l = record {
  found :
      l.used.items ++ filter_map (λ x. meaning_in l.within.meanings.now l.within.home.now x.name) (map mention_view (drop l.mention-index l.mention-items))
      ≡ filter_map (λ x. meaning_in l.within.meanings.now l.within.home.now x.name) (map mention_view l.mention-items);
  rest :
      first_where (is_undefined_mention (meaning_in l.within.meanings.now) l.within.home.now) (λ x. x.site) (map mention_view (drop l.mention-index l.mention-items))
      ≡ first_where (is_undefined_mention (meaning_in l.within.meanings.now) l.within.home.now) (λ x. x.site) (map mention_view l.mention-items);
}
