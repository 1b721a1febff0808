-- What whole values come to, by the code's answers.
use Rattle.std.proofs.Common.{◌≡◌, Option, Some, None, List, ℕ, false, true, ◌&&◌, Result, Ok, Err, ap, subst, ◌∙◌, IfOk, IfErr, IfSome, IsTrue}
use Rattle.std.specs.Prelude.{nat_le, option_and_then}
use Rattle.std.proofs.Math.Path.{fun_ext}
use Rattle.std.proofs.lemmas.Bool.{and_parts}
use Rattle.guard_model.specs.Answer.{Gives, Refuses}
use Rattle.guard_model.proofs.Results.{bind_ok}
use Rattle.guard_model.specs.declared.site.Site.{Site}
use Rattle.guard_model.specs.AbstractType.{AbstractType}
use Rattle.guard_model.specs.AbstractValue.{AbstractValue}
use Rattle.guard_tagcheck.specs.Limits.{nesting}
use Rattle.guard_der.specs.Fits.{fits}
use Rattle.guard_der.specs.Sound.{is_sound, is_proper, has_distinct_tags}
use Rattle.guard_model.specs.Limits.{deepest_nesting}
use Rattle.guard_syntax.specs.Trees.{WrittenValue}
use Rattle.guard_names.specs.declared.names.Names.{Names}
use Rattle.guard_names.specs.Meanings.{number_meant_in}
use Rattle.guard_names.specs.NamesView.{modules_of, order_of}
use Rattle.guard_names.specs.Places.{place_in}
use Rattle.guard_values.specs.declared.fault.ValueFault.{ValueFault}
use Rattle.guard_values.specs.declared.scope.Known.{Known}
use Rattle.guard_values.specs.declared.scope.KnownValue.{KnownValue}
use Rattle.guard_values.specs.Meanings.{Meaning, AreFitting}
use Rattle.guard_values.specs.Denotes.{Denotes}
use Rattle.guard_values.specs.Conditions.{IsFaultIn}
use Rattle.guard_values.specs.FirstFault.{IsFirstFault}
use Rattle.guard_values.specs.inside.Reading.{Read, element_at, read, read_whole}
use Rattle.guard_values.specs.Views.{named, known_value_view, known_definition}
use Rattle.guard_values.proofs.Denoted.ReadIsDenoted.{read_said}
use Rattle.guard_values.proofs.Fitting.DenotedValuesFit.{says_fits}
use Rattle.guard_values.proofs.FirstFaults.WholeValues.{whole_first, whole_holds, whole_denotes, whole_denotes_none}

pub sound_proper : (t : AbstractType) → is_sound t ≡ true → is_proper t ≡ true
sound_proper t sound = (and_parts (is_proper t) (has_distinct_tags t) (and_parts (is_proper t && has_distinct_tags t) (nat_le (nesting t) deepest_nesting) sound).0).0

-- ---- what is read fits

pub read_fits : (m : Meaning) → AreFitting m → (tree : WrittenValue) (t : AbstractType) (v : AbstractValue) → is_proper t ≡ true → read m true t tree ≡ Ok v → fits t v ≡ true
read_fits m fit tree t v proper e = says_fits m fit tree t v proper (read_said m tree t v e)

pub element_read : (t : AbstractType) (site place : Site) (name : Option (List ℕ)) (value_read : Read AbstractValue) (v : AbstractValue) → element_at false t site name place value_read ≡ Ok v → value_read ≡ Ok v
element_read t site place (Some name) value_read v e = absurd cc
element_read t site place None value_read v e = let b = bind_ok value_read (λ w. Ok w) v e in b.1 ∙ b.2

-- ---- what a call answers

-- what is read in the module at a place is read by what the names mean there
pub read_there : (names : Names) (known : Known) (place : Option ℕ) (meant : List ℕ → Option ℕ)
    → ((name : List ℕ) → number_meant_in (modules_of names) place name ≡ meant name)
    → (t : AbstractType) (tree : WrittenValue) (answer : Result KnownValue ValueFault)
    → Gives known_value_view named answer (read_whole (λ name. known_definition known (option_and_then (place_in (order_of names)) (number_meant_in (modules_of names) place name))) t tree)
    → Gives known_value_view named answer (read_whole (λ name. known_definition known (option_and_then (place_in (order_of names)) (meant name))) t tree)
read_there names known place meant same t tree answer = subst (λ (m : Meaning). Gives known_value_view named answer (read_whole m t tree))
    (fun_ext (λ name. ap (λ (o : Option ℕ). known_definition known (option_and_then (place_in (order_of names)) o)) (same name)))

module _ (m : Meaning) (t : AbstractType) (tree : WrittenValue) where
  pub gives_denoted : (answer : Result KnownValue ValueFault) → Gives known_value_view named answer (read_whole m t tree) → IfOk answer (λ v. Denotes m t tree (known_value_view v))
  gives_denoted (Ok v) h = whole_denotes m tree t (known_value_view v) h
  gives_denoted (Err e) h = tt

  pub gives_fitting : AreFitting m → is_proper t ≡ true → (answer : Result KnownValue ValueFault) → Gives known_value_view named answer (read_whole m t tree) → IfOk answer (λ v. IsTrue (fits t (known_value_view v)))
  gives_fitting fit proper (Ok v) h = says_fits m fit tree t (known_value_view v) proper (whole_denotes m tree t (known_value_view v) h).0
  gives_fitting fit proper (Err e) h = tt

  faults_hold : (f : Option ValueFault) → Refuses f (read_whole m t tree) → IfSome f (λ g. IsFaultIn m t tree g)
  faults_hold None h = tt
  faults_hold (Some f) h = whole_holds m tree t f h

  pub gives_fault : (answer : Result KnownValue ValueFault) → Gives known_value_view named answer (read_whole m t tree) → IfErr answer (λ e. IfSome (named e) (λ f. IsFaultIn m t tree f))
  gives_fault (Ok v) h = tt
  gives_fault (Err e) h = faults_hold (named e) h

  faults_denote_none : (f : Option ValueFault) → Refuses f (read_whole m t tree) → IfSome f (λ g. (v : AbstractValue) → Denotes m t tree v → ⊥)
  faults_denote_none None h = tt
  faults_denote_none (Some f) h = whole_denotes_none m tree t f h

  pub gives_none : (answer : Result KnownValue ValueFault) → Gives known_value_view named answer (read_whole m t tree) → IfErr answer (λ e. IfSome (named e) (λ f. (v : AbstractValue) → Denotes m t tree v → ⊥))
  gives_none (Ok v) h = tt
  gives_none (Err e) h = faults_denote_none (named e) h

  first_faults : (f : Option ValueFault) → Refuses f (read_whole m t tree) → IfSome f (IsFirstFault m t tree)
  first_faults None h = tt
  first_faults (Some f) h = whole_first m tree t f h

  pub gives_first : (answer : Result KnownValue ValueFault) → Gives known_value_view named answer (read_whole m t tree) → IfErr answer (λ e. IfSome (named e) (IsFirstFault m t tree))
  gives_first (Ok v) h = tt
  gives_first (Err e) h = first_faults (named e) h
