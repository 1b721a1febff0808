-- Components of the code as parts of a list.
use Rattle.std.proofs.Common.{◌≡◌, List, [], ◌∷◌, map, refl, sym, ap, ◌∙◌}
use Rattle.std.specs.Global.{Vec}
use Rattle.guard_model.specs.Components.{components_in}
use Rattle.guard_model.specs.TypeView.{OneComponent, kind_view, component_view, components_of}
use Rattle.guard_model.specs.declared.ty.Comp.{Comp}
use Rattle.guard_model.specs.declared.ty.Kind.{Kind}
use Rattle.guard_model.specs.declared.ty.Kind.TheVariants as code
use Rattle.guard_model.specs.AbstractType.{AbstractKind}
use Rattle.guard_model.proofs.TypeViews.{kind_view_sequence, kind_view_set, kind_view_choice}
use Rattle.guard_tagging.specs.inside.ReadParts.{listed}

pub listed_back : (cs : List OneComponent) → listed (components_of cs) ≡ cs
listed_back [] = refl
listed_back (c ∷ cs) = ap (λ (rest : List OneComponent). c ∷ rest) (listed_back cs)

abbrev inside : AbstractKind → List OneComponent
inside kind = listed (components_in kind)

pub taken_sequence : (kind : Kind) (comps : Vec Comp) → kind ≡ code.Sequence comps
    → map component_view comps.items ≡ listed (components_in (kind_view kind))
taken_sequence kind comps is =
    sym (ap (λ (k : Kind). inside (kind_view k)) is ∙ ap inside (kind_view_sequence comps)
    ∙ listed_back (map component_view comps.items))

pub taken_set : (kind : Kind) (comps : Vec Comp) → kind ≡ code.Set comps
    → map component_view comps.items ≡ listed (components_in (kind_view kind))
taken_set kind comps is =
    sym (ap (λ (k : Kind). inside (kind_view k)) is ∙ ap inside (kind_view_set comps)
    ∙ listed_back (map component_view comps.items))

pub taken_choice : (kind : Kind) (comps : Vec Comp) → kind ≡ code.Choice comps
    → map component_view comps.items ≡ listed (components_in (kind_view kind))
taken_choice kind comps is =
    sym (ap (λ (k : Kind). inside (kind_view k)) is ∙ ap inside (kind_view_choice comps)
    ∙ listed_back (map component_view comps.items))
