-- The first shared tag is the first of the one type that is noted, where the tags of the other are.
use Rattle.std.proofs.Common.{◌≡◌, ℕ, Bool, true, false, List, [], ◌∷◌, map, Option, Some, None, refl, sym, ap, ◌∙◌}
use Rattle.std.specs.Prelude.{if◌then◌else◌, is_some}
use Rattle.std.specs.List.{slice_get}
use Rattle.std.specs.Option.{option_or}
use Rattle.std.proofs.lemmas.Option.{same_Some}
use Rattle.guard_model.specs.declared.tag.Tag.{Tag}
use Rattle.guard_model.specs.AbstractType.{AbstractType, AbstractKind, Constraints, type_of}
use Rattle.guard_model.specs.TypeView.{type_view, kind_view, constraint_view, constraints_of}
use Rattle.guard_model.specs.declared.ty.Ty.{Ty}
use Rattle.guard_model.specs.declared.ty.Kind.TheViews.{out-Ty}
use Rattle.guard_model.proofs.TypeViews.{type_view_is}
use Rattle.guard_tagcheck.specs.FirstTags.{begins_with}
use Rattle.guard_tagcheck.specs.InCommon.{shared_tag}
use Rattle.guard_tagcheck.specs.inside.Noting.{Notes, AreNoted}

noted_or_not : (x : Bool) (p : ℕ) → is_some (if x then Some p else None) ≡ x
noted_or_not true p = refl
noted_or_not false p = refl

pub all_noted : (old new : Tag → Option ℕ) (b : AbstractType) (p : ℕ) → ((tag : Tag) → old tag ≡ None) → Notes old (begins_with b) p new → AreNoted new b
all_noted old new b p none notes = λ tag.
    ap is_some (notes tag ∙ ap (λ (o : Option ℕ). option_or o (if begins_with b tag then Some p else None)) (none tag)) ∙ noted_or_not (begins_with b tag) p

shared_first : (tags : List Tag) (kind : AbstractKind) (cons : Constraints) (tag : Tag) (b : AbstractType) → slice_get tags 0 ≡ Some tag
    → (if begins_with b tag then Some tag else None) ≡ shared_tag (type_of tags kind cons) b
shared_first [] kind cons tag b e = absurd cc
shared_first (t ∷ ts) kind cons tag b e = ap (λ (u : Tag). if begins_with b u then Some u else None) (sym (same_Some t tag e))

pub shared_if_noted : (ty : Ty) (tag : Tag) (b : AbstractType) (there : Bool) → slice_get (out-Ty ty).tags.items 0 ≡ Some tag → there ≡ begins_with b tag
    → (if there then Some tag else None) ≡ shared_tag (type_view ty) b
shared_if_noted ty tag b there e is =
    ap (λ (x : Bool). if x then Some tag else None) is
    ∙ rw (type_view_is ty) (shared_first (out-Ty ty).tags.items (kind_view (out-Ty ty).kind) (constraints_of (map constraint_view (out-Ty ty).cons.items)) tag b e)
