-- What the walk gives for the type of a definition is what the definitions say.
use Rattle.std.proofs.Common.{◌≡◌, ℕ, ◌+◌, ◌≤◌, true, false, Option, Some, None, Result, Ok, Err, refl, sym, ap, subst, ◌∙◌}
use Rattle.guard_model.specs.AbstractType.{AbstractType}
use Rattle.guard_tagcheck.specs.Limits.{is_within_limits}
use Rattle.guard_syntax.specs.Trees.{WrittenType}
use Rattle.guard_tagging.specs.declared.fault.TagFault.{TagFault}
use Rattle.guard_tagging.specs.Faults.{nodes, most_nodes, first_fault, fault_in}
use Rattle.guard_tagging.specs.Named.{unless}
use Rattle.guard_tagging.specs.inside.ReadNodes.{Made}
use Rattle.guard_tagging.specs.inside.ReadTypes.{read_type}
use Rattle.guard_tagging.specs.Spelled.{IsSpelled}
use Rattle.guard_tagging.specs.KnownNames.{IsKnown}
use Rattle.guard_tagging.specs.Tagged.{IsTagged, IsFirstFault, KeepLimits}
use Rattle.guard_tagging.specs.Types.{Surroundings, denoted}
use Rattle.guard_tagging.proofs.Types.WithinLimits as limits
use Rattle.guard_tagging.proofs.Types.WithoutParts.{counted_is, made_of}
use Rattle.guard_tagging.proofs.Types.WrittenTypes.{type_is}

module _ (around : Surroundings) (kept : KeepLimits around) (before : ℕ) (t : WrittenType) (spelled : IsSpelled t)
    (known : IsKnown around t) where
  abbrev made : Made
  made = record { ty = denoted around t; nesting = (made_of true None before (denoted around t)).nesting; nodes = before + nodes (denoted around t) }

  pub read : read_type around true None before t
      ≡ unless (first_fault around before t)
      (record { ty = denoted around t; nesting = (made_of true None before (denoted around t)).nesting; nodes = before + nodes (denoted around t) })
  read = type_is around kept true None before t spelled
      ∙ ap (λ (n : ℕ). unless (fault_in around false before (before + n) t)
      (record { ty = denoted around t; nesting = (made_of true None before (denoted around t)).nesting; nodes = before + n })) (counted_is (denoted around t))

  abbrev Answers : Result Made TagFault → Type 0
  Answers (Ok m) = IsTagged around before t m.ty × (m.nodes ≡ before + nodes m.ty)
  Answers (Err f) = IsFirstFault around before t f

  answered : (f : Option TagFault) → first_fault around before t ≡ f → Answers (unless f made)
  answered None none = ((none, refl, known), refl)
  answered (Some f) some = (some, known)

  answers : Answers (read_type around true None before t)
  answers = subst Answers (sym read) (answered (first_fault around before t) refl)

  pub given : (m : Made) → read_type around true None before t ≡ Ok m
      → IsTagged around before t m.ty × (m.nodes ≡ before + nodes m.ty)
  given m is = subst Answers is answers

  pub refused : (f : TagFault) → read_type around true None before t ≡ Err f → IsFirstFault around before t f
  refused f is = subst Answers is answers

pub within : (around : Surroundings) → KeepLimits around → (before : ℕ) (written : WrittenType) (t : AbstractType)
    → IsTagged around before written t → is_within_limits t ≡ true
within around meant before written t tagged =
    ap is_within_limits tagged.1 ∙ limits.within around meant before (before
    + nodes (denoted around written)) written tagged.0

pub few : (around : Surroundings) (before : ℕ) (written : WrittenType) (t : AbstractType)
    → IsTagged around before written t → before + nodes t ≤ most_nodes
few around before written t tagged =
    subst (λ (n : ℕ). n ≤ most_nodes) (ap (λ (u : AbstractType). before + nodes u) (sym tagged.1))
    (limits.few around false before (before + nodes (denoted around written)) written tagged.0)
