-- Which fault a refusal names.
use Rattle.std.proofs.Common.{◌≡◌, ℕ, List, false, None, Ok, Err, sym, ap, ◌∙◌}
use Rattle.std.specs.Global.{Vec}
use Rattle.guard_model.specs.Answer.{◌>>=◌}
use Rattle.guard_model.proofs.Components.{in_view}
use Rattle.guard_model.proofs.TypeViews.{kind_view_choice}
use Rattle.guard_model.specs.AbstractType.{AbstractType, AbstractKind}
use Rattle.guard_model.specs.AbstractValue.{AbstractValue}
use Rattle.guard_model.specs.TypeView.{kind_view}
use Rattle.guard_model.specs.declared.site.Site.{Site}
use Rattle.guard_model.specs.declared.ty.Comp.{Comp}
use Rattle.guard_model.specs.declared.ty.Kind.{Kind, Choice}
use Rattle.guard_syntax.specs.Trees.{WrittenValue}
use Rattle.guard_syntax.specs.Views.{value_view}
use Rattle.guard_syntax.specs.declared.tree.ValueTree.{ValueTree}
use Rattle.guard_syntax.specs.declared.tree.EntryTree.TheViews.{out-ValueTree}
use Rattle.guard_values.specs.declared.fault.ValueFault.TheVariants.{UnknownName, TooLarge}
use Rattle.guard_values.specs.Meanings.{Meaning}
use Rattle.guard_values.specs.Places.{located}
use Rattle.guard_values.specs.inside.Reading.{Read, answered, alternative, site_of, build, build_first_fault}
use Rattle.guard_values.proofs.Braces.EntriesInTurn.{value_view_is}

-- a name of no alternative
pub no_alternative : (site : Site) (kind : Kind) (alternatives : Vec Comp) (name : List ℕ) → kind ≡ Choice alternatives → None ≡ located name (in_view alternatives.items) → alternative site (kind_view kind) name ≡ Err (UnknownName site)
no_alternative site kind alternatives name is none =
    ap (λ (k : Kind). alternative site (kind_view k) name) is ∙ ap (λ (k : AbstractKind). alternative site k name) (kind_view_choice alternatives) ∙ ap (answered (UnknownName site)) (sym none)

-- nothing else is at fault
pub too_long : (m : Meaning) (t : AbstractType) (tree : ValueTree) (v : AbstractValue) → build m false t (value_view tree) ≡ Ok v → build_first_fault m t (value_view tree) ≡ Err (TooLarge (out-ValueTree tree).site)
too_long m t tree v e =
    ap (λ (r : Read AbstractValue). r >>= λ w. Err (TooLarge (site_of (value_view tree)))) e ∙ ap (λ (w : WrittenValue). Err (TooLarge (site_of w))) (value_view_is tree)
