-- What the walk gives for the tree of a definition is the type of that definition.
use Rattle.std.proofs.Common.{◌≡◌, ℕ, zero, suc, ◌+◌, ◌≤◌, true, List, [], ◌∷◌, ◌++◌, map, Option, Some, None, Ok, slice_get, sym, subst, arith}
use Rattle.std.specs.Global.{Global}
use Rattle.std.specs.declared.sync.Arc.{Arc}
use Rattle.std.specs.Prelude.{IfSome, All, IsTrue}
use Rattle.std.proofs.lemmas.Option.{same_Some}
use Rattle.guard_model.specs.AbstractType.{AbstractType}
use Rattle.guard_model.specs.Answer.{Refuses}
use Rattle.guard_model.specs.TypeView.{shared_type_view}
use Rattle.guard_model.specs.declared.ty.Ty.{Ty}
use Rattle.guard_syntax.specs.Trees.{WrittenAssignment, WrittenModule}
use Rattle.guard_names.specs.Declarations.{Definition, definitions}
use Rattle.guard_tagcheck.specs.Limits.{is_within_limits}
use Rattle.guard_tagging.specs.declared.fault.TagFault.{TagFault}
use Rattle.guard_tagging.specs.Faults.{nodes, most_nodes}
use Rattle.guard_tagging.specs.inside.ReadNodes.{Made}
use Rattle.guard_tagging.specs.inside.ReadTypes.{read_type}
use Rattle.guard_tagging.specs.Skeletons.{AreSurroundings, IsTypeOf, IsFaultOf}
use Rattle.guard_tagging.specs.Spelled.{IsSpelled, AreAssigned, IsSpelledModule}
use Rattle.guard_tagging.specs.Surroundings.{nodes_of_all}
use Rattle.guard_tagging.specs.KnownNames.{IsKnown}
use Rattle.guard_tagging.specs.Tagged.{IsTagged, IsFirstFault, KeepLimits}
use Rattle.guard_tagging.specs.Types.{Surroundings}
use Rattle.guard_tagging.proofs.Types.Denoted.{given, refused, within, few}

-- ---- the definitions of modules whose names are spelled so

assigned_spelled : (m : WrittenModule) (assignments : List WrittenAssignment) (rest : List Definition)
    → AreAssigned assignments
    → ((i : ℕ) (d : Definition) → slice_get rest i ≡ Some d → IsSpelled d.assignment.ty)
    → (i : ℕ) (d : Definition) → slice_get (map (λ a. record { home = m; assignment = a }) assignments
    ++ rest) i ≡ Some d → IsSpelled d.assignment.ty
assigned_spelled m [] rest s others i d h = others i d h
assigned_spelled m (a ∷ assignments) rest s others zero d h =
    subst (λ (x : Definition). IsSpelled x.assignment.ty) (same_Some _ d h) s.0
assigned_spelled m (a ∷ assignments) rest s others (suc i) d h = assigned_spelled m assignments rest s.1 others i d h

pub all_spelled : (ms : List WrittenModule) → All IsSpelledModule ms → (i : ℕ) (d : Definition)
    → slice_get (definitions ms) i ≡ Some d → IsSpelled d.assignment.ty
all_spelled [] s i d h = absurd cc
all_spelled (m ∷ ms) s i d h =
    assigned_spelled m m.assignments (definitions ms) (s zero m (omega arith))
    (all_spelled ms (λ k x l. s (suc k) x (omega (arith, l)))) i d h

-- ---- types that keep the limits

pub all_kept : (types : List (Arc Ty Global)) → All (λ t. IsTrue (is_within_limits (shared_type_view t))) types
    → (place : ℕ) (t : AbstractType) → slice_get (map shared_type_view types) place ≡ Some t → is_within_limits t ≡ true
all_kept [] s place t h = absurd cc
all_kept (u ∷ types) s zero t h = subst (λ x. is_within_limits x ≡ true) (same_Some _ t h) (s zero u (omega arith))
all_kept (u ∷ types) s (suc place) t h = all_kept types (λ k x l. s (suc k) x (omega (arith, l))) place t h

-- ---- one definition

module _ (ms : List WrittenModule) (order : List ℕ) (types : List AbstractType) (id : ℕ) (d : Definition)
    (is : Some d ≡ slice_get (definitions ms) id)
    (around : Surroundings) (are : AreSurroundings ms order types d around) (before : ℕ)
    (counted : before ≡ nodes_of_all types)
    (spelled : IsSpelled d.assignment.ty) (kept : KeepLimits around) (known : IsKnown around d.assignment.ty) where
  -- the type that was made
  module _ (m : Made) (h : read_type around true None before d.assignment.ty ≡ Ok m) where
    tagged_here : IsTagged around before d.assignment.ty m.ty
    tagged_here = (given around kept before d.assignment.ty spelled known m h).0

    pub tagged_so : IsTypeOf ms order types id m.ty
    tagged_so = (d, sym is, around, are, subst (λ (n : ℕ). IsTagged around n d.assignment.ty m.ty) counted tagged_here)

    pub counted_so : m.nodes ≡ before + nodes m.ty
    counted_so = (given around kept before d.assignment.ty spelled known m h).1

    pub few_so : m.nodes ≤ most_nodes
    few_so = subst (λ (n : ℕ). n ≤ most_nodes) (sym counted_so) (few around before d.assignment.ty m.ty tagged_here)

    pub within_so : is_within_limits m.ty ≡ true
    within_so = within around kept before d.assignment.ty m.ty tagged_here

  -- the fault that was found
  pub refused_so : (f : Option TagFault) → Refuses f (read_type around true None before d.assignment.ty)
      → IfSome f (IsFaultOf ms order types id)
  refused_so None h = tt
  refused_so (Some f) h = (
    d,
    sym is,
    around,
    are,
    subst (λ (n : ℕ). IsFirstFault around n d.assignment.ty f) counted
        (refused around kept before d.assignment.ty spelled known f h),
  )
