-- The faults of names in their order: what a refusal names, and what there isn't where nothing is refused.
use Rattle.std.proofs.Common.{◌≡◌, inl, ℕ, ◌≤◌, Bool, true, false, List, Option, Some, None, option_map, Result, Ok, Err, is_some, IfSome, if◌then◌else◌, length, map, refl, sym, ◌∙◌, ap, subst, arith}
use Rattle.std.specs.Prelude.{nat_lt}
use Rattle.std.specs.Option.{option_or}
use Rattle.std.proofs.lemmas.Option.{same_Some}
use Rattle.std.proofs.lemmas.List.{length-map}
use Rattle.std.proofs.lemmas.Bool.Decides.{nat_tests}
use Rattle.guard_model.specs.declared.site.Site.{Site}
use Rattle.guard_model.specs.Answer.{◌>>=◌, Refuses}
use Rattle.guard_syntax.specs.Trees.{WrittenModule}
use Rattle.guard_names.specs.declared.fault.NameFault.{NameFault}
use Rattle.guard_names.specs.declared.fault.NameFault.TheVariants.{Duplicate, Undefined, NoModule, NotExported, ImportNotDefined, Recursive, TooManyModules, OutOfMemory}
use Rattle.guard_names.specs.Faults.{most_modules, too_many, duplicate, no_module, not_defined, not_exported, undefined, fault_of_names, IsFirstFault, named}
use Rattle.guard_names.specs.inside.Reading.{refused_at, check_names}

-- it is refused with this fault, where there is one
abbrev pub refused_with : Option NameFault → Result (Unit {0}) NameFault
refused_with None = Ok tt
refused_with (Some f) = Err f

abbrev first_of : Option Site → Option Site → Option Site → Option Site → Option Site → Option NameFault
first_of a b c d e = option_or (option_map Duplicate a) (option_or (option_map NoModule b) (option_or (option_map ImportNotDefined c) (option_or (option_map NotExported d) (option_map Undefined e))))

steps_are : (a b c d e : Option Site)
    → (refused_at Duplicate a >>= λ _. ((refused_at NoModule b >>= λ _. (refused_at ImportNotDefined c >>= λ _. refused_at NotExported d)) >>= λ _. refused_at Undefined e)) ≡ refused_with (first_of a b c d e)
steps_are (Some s) b c d e = refl
steps_are None (Some s) c d e = refl
steps_are None None (Some s) d e = refl
steps_are None None None (Some s) e = refl
steps_are None None None None (Some s) = refl
steps_are None None None None None = refl

few : (n : ℕ) → n ≤ most_modules → nat_lt most_modules n ≡ false
few n h = grind (arith, nat_tests)

pub few_enough : {X : Type 0} (view : X → WrittenModule) (xs : List X) → length xs ≤ most_modules → too_many (map view xs) ≡ false
few_enough view xs h = few (length (map view xs)) (subst (λ n. n ≤ most_modules) (sym (length-map xs view)) h)

-- where the modules aren't too many, the steps refuse with the first fault
pub check_is_fault : (ms : List WrittenModule) → too_many ms ≡ false → check_names ms ≡ refused_with (fault_of_names ms)
check_is_fault ms few = steps_are (duplicate ms) (no_module ms) (not_defined ms) (not_exported ms) (undefined ms) ∙ rw few refl

refused_is : (o : Option NameFault) (f : NameFault) → refused_with o ≡ Err f → o ≡ Some f
refused_is None f h = absurd cc
refused_is (Some g) f h = grind arith

pub accepted_is : (o : Option NameFault) → refused_with o ≡ Ok tt → o ≡ None
accepted_is None h = refl
accepted_is (Some g) h = absurd cc

-- none of these is a fault of recursion, or says that memory ran out
abbrev is_of_names : NameFault → Bool
is_of_names (Duplicate s) = true
is_of_names (Undefined s) = true
is_of_names (NoModule s) = true
is_of_names (NotExported s) = true
is_of_names (ImportNotDefined s) = true
is_of_names (Recursive s) = false
is_of_names TooManyModules = true
is_of_names OutOfMemory = false

first_is_of_names : (a b c d e : Option Site) (f : NameFault) → first_of a b c d e ≡ Some f → is_of_names f ≡ true
first_is_of_names (Some s) b c d e f h = ap is_of_names (sym (same_Some (Duplicate s) f h))
first_is_of_names None (Some s) c d e f h = ap is_of_names (sym (same_Some (NoModule s) f h))
first_is_of_names None None (Some s) d e f h = ap is_of_names (sym (same_Some (ImportNotDefined s) f h))
first_is_of_names None None None (Some s) e f h = ap is_of_names (sym (same_Some (NotExported s) f h))
first_is_of_names None None None None (Some s) f h = ap is_of_names (sym (same_Some (Undefined s) f h))
first_is_of_names None None None None None f h = absurd cc

pub fault_is_of_names : (ms : List WrittenModule) (f : NameFault) → fault_of_names ms ≡ Some f → is_of_names f ≡ true
fault_is_of_names ms f h = by (too_many ms) h
  where
    by : (b : Bool) → option_or (if b then Some TooManyModules else None) (first_of (duplicate ms) (no_module ms) (not_defined ms) (not_exported ms) (undefined ms)) ≡ Some f → is_of_names f ≡ true
    by true h' = ap is_of_names (sym (same_Some TooManyModules f h'))
    by false h' = first_is_of_names (duplicate ms) (no_module ms) (not_defined ms) (not_exported ms) (undefined ms) f h'

-- a refusal names the first fault
pub refuses_first : (ms : List WrittenModule) → too_many ms ≡ false → (f : NameFault) → Refuses (named f) (check_names ms) → IfSome (named f) (IsFirstFault ms)
refuses_first ms few f h = by f (λ g r. refused_is (fault_of_names ms) g (sym (check_is_fault ms few) ∙ r)) h
  where
    never : false ≡ true → ⊥
    never h' = cc

    by : (f : NameFault) → ((g : NameFault) → check_names ms ≡ Err g → fault_of_names ms ≡ Some g) → Refuses (named f) (check_names ms) → IfSome (named f) (IsFirstFault ms)
    by (Duplicate s) so h' = inl (so (Duplicate s) h')
    by (Undefined s) so h' = inl (so (Undefined s) h')
    by (NoModule s) so h' = inl (so (NoModule s) h')
    by (NotExported s) so h' = inl (so (NotExported s) h')
    by (ImportNotDefined s) so h' = inl (so (ImportNotDefined s) h')
    by (Recursive s) so h' = absurd (never (fault_is_of_names ms (Recursive s) (so (Recursive s) h')))
    by TooManyModules so h' = inl (so TooManyModules h')
    by OutOfMemory so h' = tt

pub accepts_none : (ms : List WrittenModule) → too_many ms ≡ false → check_names ms ≡ Ok tt → fault_of_names ms ≡ None
accepts_none ms few h = accepted_is (fault_of_names ms) (sym (check_is_fault ms few) ∙ h)

-- ---- where there is no fault, there is none of each kind

none_each : (a b c d e : Option Site) → first_of a b c d e ≡ None → (a ≡ None) × (b ≡ None) × (c ≡ None) × (d ≡ None) × (e ≡ None)
none_each (Some s) b c d e h = absurd cc
none_each None (Some s) c d e h = absurd cc
none_each None None (Some s) d e h = absurd cc
none_each None None None (Some s) e h = absurd cc
none_each None None None None (Some s) h = absurd cc
none_each None None None None None h = (refl, refl, refl, refl, refl)

none_kinds : (ms : List WrittenModule) → fault_of_names ms ≡ None → first_of (duplicate ms) (no_module ms) (not_defined ms) (not_exported ms) (undefined ms) ≡ None
none_kinds ms h = by (too_many ms) h
  where
    by : (b : Bool) → option_or (if b then Some TooManyModules else None) (first_of (duplicate ms) (no_module ms) (not_defined ms) (not_exported ms) (undefined ms)) ≡ None
        → first_of (duplicate ms) (no_module ms) (not_defined ms) (not_exported ms) (undefined ms) ≡ None
    by true h' = absurd cc
    by false h' = h'

pub none_duplicate : (ms : List WrittenModule) → fault_of_names ms ≡ None → duplicate ms ≡ None
none_duplicate ms h = (none_each (duplicate ms) (no_module ms) (not_defined ms) (not_exported ms) (undefined ms) (none_kinds ms h)).0

pub none_missing : (ms : List WrittenModule) → fault_of_names ms ≡ None → no_module ms ≡ None
none_missing ms h = (none_each (duplicate ms) (no_module ms) (not_defined ms) (not_exported ms) (undefined ms) (none_kinds ms h)).1

pub none_is : (o : Option NameFault) → is_some o ≡ false → o ≡ None
none_is None h = refl
none_is (Some f) h = absurd cc
