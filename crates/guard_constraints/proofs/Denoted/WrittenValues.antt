-- What guard_values proves of written values, as constraints need it, and what is known of visible names.
use Rattle.std.proofs.Common.{◌≡◌, ℕ, ◌&&◌, List, [], ◌∷◌, Option, Some, None, Result, Ok, Err, inl, refl, IfSome, IsTrue, subst}
use Rattle.std.specs.Prelude.{nat_le}
use Rattle.std.proofs.lemmas.Bool.{and_parts}
use Rattle.guard_model.specs.AbstractType.{AbstractType}
use Rattle.guard_model.specs.AbstractValue.{AbstractValue}
use Rattle.guard_tagcheck.specs.Limits.{nesting}
use Rattle.guard_tagcheck.specs.Search.{first_clash}
use Rattle.guard_der.specs.Fits.{fits}
use Rattle.guard_der.specs.Sound.{is_sound, is_proper, none_clash}
use Rattle.guard_syntax.specs.Trees.{WrittenValue}
use Rattle.guard_names.specs.declared.names.Names.{Names}
use Rattle.guard_values.specs.declared.fault.ValueFault.{ValueFault}
use Rattle.guard_values.specs.declared.scope.Known.{Known}
use Rattle.guard_values.specs.Meanings.{Meaning, AreFitting}
use Rattle.guard_values.specs.Denotes as values
use Rattle.guard_values.specs.inside.Reading.{read_whole}
use Rattle.guard_values.specs.Views.{place_from, placed_type, types_from}
use Rattle.guard_values.proofs.Denoted.DenotedIsRead.{says_read}
use Rattle.guard_values.proofs.OneAnswer.FaultOrValue.{first_excludes}
use Rattle.guard_values.proofs.FirstFaults.WholeValues.{whole_denotes, whole_first}
use Rattle.guard_values.proofs.Fitting.DenotedValuesFit.{says_fits}
use Rattle.guard_constraints.specs.FirstFault.{value_under}
use Rattle.guard_constraints.specs.inside.Reading.{of_value}
use Rattle.guard_constraints.specs.Views.{AreKnownSound}
use Rattle.guard_constraints.proofs.Denoted.Agreement.{Agrees}
use Rattle.guard_constraints.proofs.Denoted.PlainElements.{DenotesFitting, ValuesAgree}
use Rattle.guard_constraints.proofs.Denoted.DenotedIsRead.{ValuesSaid}

pub sound_proper : (t : AbstractType) → IsTrue (is_sound t) → IsTrue (is_proper t)
sound_proper t sound = (and_parts (is_proper t) (none_clash (first_clash t)) (and_parts (is_proper t && none_clash (first_clash t)) (nat_le (nesting t) 32) sound).0).0

-- ---- values

pub values_said : (m : Meaning) → ValuesSaid m
values_said m = λ t tree v h. rw (says_read m tree t v h.0, h.1) refl

pub denoted_fits : (m : Meaning) → AreFitting m → (t : AbstractType) (tree : WrittenValue) (v : AbstractValue) → IsTrue (is_sound t) → values.Denotes m t tree v → IsTrue (fits t v)
denoted_fits m fit t tree v sound h = says_fits m fit tree t v (sound_proper t sound) h.0

value_agrees : (m : Meaning) → AreFitting m → (t : AbstractType) (tree : WrittenValue) → IsTrue (is_sound t) → (r : Result AbstractValue ValueFault) → read_whole m t tree ≡ r
    → Agrees m (DenotesFitting m t tree) (of_value r) (value_under t tree ∷ [])
value_agrees m fit t tree sound (Ok v) e =
    let h = whole_denotes m tree t v e in
    (((λ k. first_excludes m tree t k.0 v sound k.1 h), tt), (h, denoted_fits m fit t tree v sound h))
value_agrees m fit t tree sound (Err f) e = inl (f, whole_first m tree t f e, refl)

pub values_agree : (m : Meaning) → AreFitting m → ValuesAgree m
values_agree m fit = λ t tree sound. value_agrees m fit t tree sound (read_whole m t tree) refl

-- ---- names

module _ (names : Names) (known : Known) (id : ℕ) where
  sound_there : (found : Option AbstractType) (u : AbstractType) → IfSome found (λ t. IsTrue (is_sound t)) → found ≡ Some u → IsTrue (is_sound u)
  sound_there None u h e = absurd cc
  sound_there (Some t) u h e = let same : t ≡ u = cc in subst (λ (x : AbstractType). IsTrue (is_sound x)) same h

  pub visible_sound : AreKnownSound known → (name : List ℕ) (u : AbstractType) → types_from names known id name ≡ Some u → IsTrue (is_sound u)
  visible_sound sound name u e = sound_there (types_from names known id name) u (at (place_from names id name)) e where
    at : (there : Option ℕ) → IfSome (placed_type known there) (λ t. IsTrue (is_sound t))
    at None = tt
    at (Some p) = sound p
