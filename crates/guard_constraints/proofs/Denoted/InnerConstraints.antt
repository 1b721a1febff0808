-- What is read of an element with a constraint inside agrees with what it denotes, where that of the inner one does.
use Rattle.std.proofs.Common.{◌≡◌, Bool, true, false, List, [], ◌∷◌, ◌++◌, Option, Some, None, Ok, refl}
use Rattle.std.specs.Prelude.{IsTrue, not}
use Rattle.std.specs.Option.{is_some, is_none, option_or, option_map}
use Rattle.guard_model.specs.declared.site.Site.{Site}
use Rattle.guard_model.specs.AbstractType as type
use Rattle.guard_model.specs.AbstractType.{AbstractType, AbstractKind, Constraint, Parts, at}
use Rattle.guard_model.specs.Answer.{◌>>=◌}
use Rattle.guard_model.specs.Kinds.{has_size, type_of_size, is_string, element_of, has_parts, kind_of, has_named_bits}
use Rattle.guard_syntax.specs.Trees.{WrittenSet, WrittenParts, constraint}
use Rattle.guard_values.specs.Meanings.{Meaning}
use Rattle.guard_constraints.specs.declared.fault.ConsFault.{ConsFault}
use Rattle.guard_constraints.specs.declared.fault.ConsFault.TheVariants.{NotApplicable, AlphabetForm, SizeOnNamedBits}
use Rattle.guard_constraints.specs.PermittedAlphabets.{AlphabetItem, items_of, first_bad, ranges_of}
use Rattle.guard_constraints.specs.ListedParts.{heads}
use Rattle.guard_constraints.specs.PartFaults.{part_fault}
use Rattle.guard_constraints.specs.Denotes.{AlphabetDenotes, SizeDenotes, EachDenotes, PartsDenote}
use Rattle.guard_constraints.specs.Faults.{unless, characters_fault, items_fault, named_bits_fault}
use Rattle.guard_constraints.specs.FirstFault.{Check, element_has, checks_on}
use Rattle.guard_constraints.specs.inside.Reading.{Read, found, unless_fault, read_alphabet, sized, read_size, read_each, read_listed}
use Rattle.guard_constraints.proofs.Denoted.Agreement.{Agrees, free_agrees, then_agrees, made_agrees, made_unless, demanded_agrees, typed_agrees, checked_agrees}

no_bad : (there : Option Site) → option_map characters_fault there ≡ None → there ≡ None
no_bad None e = refl
no_bad (Some s) e = absurd cc

passed : (b : Bool) (f : ConsFault) → unless b f ≡ None → IsTrue b
passed true f e = refl
passed false f e = absurd cc

module _ (m : Meaning) where
  -- ---- FROM

  -- of what was taken apart, whose characters may be outside the alphabet
  taken_agrees : (t : AbstractType) (site : Site) (there found_items : Option (List AlphabetItem)) → IsTrue (is_string (kind_of t)) → there ≡ found_items
      → Agrees m (λ c. IsTrue (is_string (kind_of t)) × ((items : List AlphabetItem) × (there ≡ Some items) × (first_bad (kind_of t) items ≡ None) × (c ≡ at site (type.permitted_alphabet (ranges_of items)))))
      (found (AlphabetForm site) found_items >>= λ items. unless_fault (option_map characters_fault (first_bad (kind_of t) items)) >>= λ _. Ok (at site (type.permitted_alphabet (ranges_of items))))
      (element_has (unless (not (is_none found_items)) (AlphabetForm site)) ∷ element_has (items_fault (kind_of t) found_items) ∷ [])
  taken_agrees t site there None string e = refl
  taken_agrees t site there (Some items) string e =
      let D : Constraint → Type 0 = λ c. IsTrue (is_string (kind_of t)) × ((items : List AlphabetItem) × (there ≡ Some items) × (first_bad (kind_of t) items ≡ None) × (c ≡ at site (type.permitted_alphabet (ranges_of items)))) in
      free_agrees m D (unless_fault (option_map characters_fault (first_bad (kind_of t) items)) >>= λ _. Ok (at site (type.permitted_alphabet (ranges_of items)))) (element_has (items_fault (kind_of t) (Some items)) ∷ [])
      (made_unless m D (option_map characters_fault (first_bad (kind_of t) items)) (at site (type.permitted_alphabet (ranges_of items)))
      (λ none. (string, (items, e, no_bad (first_bad (kind_of t) items) none, refl))))

  pub alphabet_agrees : (t : AbstractType) (site inner : Site) (set : WrittenSet)
      → Agrees m (AlphabetDenotes t site (constraint inner set)) (read_alphabet t site (constraint inner set))
      (element_has (option_or (unless (is_string (kind_of t)) (NotApplicable site)) (unless (not (is_none (items_of set))) (AlphabetForm site))) ∷ element_has (items_fault (kind_of t) (items_of set)) ∷ [])
  alphabet_agrees t site inner set =
      demanded_agrees m (AlphabetDenotes t site (constraint inner set)) (is_string (kind_of t)) (NotApplicable site)
      (λ _. found (AlphabetForm site) (items_of set) >>= λ items. unless_fault (option_map characters_fault (first_bad (kind_of t) items)) >>= λ _. Ok (at site (type.permitted_alphabet (ranges_of items))))
      (unless (not (is_none (items_of set))) (AlphabetForm site)) (element_has (items_fault (kind_of t) (items_of set)) ∷ [])
      (λ string. taken_agrees t site (items_of set) (items_of set) string refl)

  -- ---- SIZE and WITH COMPONENT

  pub size_agrees : (t : AbstractType) (site : Site) (Inner : AbstractType → Constraint → Type 0) (inner : AbstractType → Read Constraint) (cs : List Check)
      → Agrees m (Inner type_of_size) (inner type_of_size) cs
      → Agrees m (SizeDenotes t site Inner) (read_size t site inner)
      (element_has (option_or (unless (has_size (kind_of t)) (NotApplicable site)) None) ∷ (cs ++ element_has (named_bits_fault (kind_of t) site) ∷ []))
  size_agrees t site Inner inner cs agree =
      typed_agrees m (SizeDenotes t site Inner) (has_size (kind_of t)) (NotApplicable site) type_of_size (λ u. inner u >>= λ c. sized t site c)
      (cs ++ element_has (named_bits_fault (kind_of t) site) ∷ [])
      (λ counted. then_agrees m (Inner type_of_size) (SizeDenotes t site Inner) (inner type_of_size) (λ c. sized t site c) cs (element_has (named_bits_fault (kind_of t) site) ∷ []) agree
      (λ d h. made_unless m (SizeDenotes t site Inner) (named_bits_fault (kind_of t) site) (at site (type.size d))
      (λ none. (counted, passed (not (has_named_bits (kind_of t))) (SizeOnNamedBits site) none, (d, h, refl)))))

  -- of the elements' type that was found
  each_found : (site : Site) (there found_type : Option AbstractType) (Inner : AbstractType → Constraint → Type 0) (inner : AbstractType → Read Constraint) (find : AbstractType → List Check)
      → there ≡ found_type → ((u : AbstractType) → there ≡ Some u → Agrees m (Inner u) (inner u) (find u))
      → Agrees m (λ c. (u : AbstractType) × (d : Constraint) × (there ≡ Some u) × Inner u d × (c ≡ at site (type.with_component d)))
      (found (NotApplicable site) found_type >>= λ u. inner u >>= λ c. Ok (at site (type.with_component c)))
      (element_has (option_or (unless (is_some found_type) (NotApplicable site)) None) ∷ checks_on find found_type)
  each_found site there None Inner inner find e agree = refl
  each_found site there (Some u) Inner inner find e agree =
      let D : Constraint → Type 0 = λ c. (w : AbstractType) × (d : Constraint) × (there ≡ Some w) × Inner w d × (c ≡ at site (type.with_component d)) in
      free_agrees m D (inner u >>= λ c. Ok (at site (type.with_component c))) (find u)
      (made_agrees m (Inner u) D (inner u) (λ c. at site (type.with_component c)) (find u) (agree u e) (λ d h. (u, d, e, h, refl)))

  pub each_agrees : (t : AbstractType) (site : Site) (Inner : AbstractType → Constraint → Type 0) (inner : AbstractType → Read Constraint) (find : AbstractType → List Check)
      → ((u : AbstractType) → element_of (kind_of t) ≡ Some u → Agrees m (Inner u) (inner u) (find u))
      → Agrees m (EachDenotes t site Inner) (read_each t site inner) (element_has (option_or (unless (is_some (element_of (kind_of t))) (NotApplicable site)) None) ∷ checks_on find (element_of (kind_of t)))
  each_agrees t site Inner inner find agree = each_found site (element_of (kind_of t)) (element_of (kind_of t)) Inner inner find refl agree

  -- ---- WITH COMPONENTS

  pub listed_agrees : (t : AbstractType) (site : Site) (partial : Bool) (ps : WrittenParts) (Listed : AbstractKind → Parts → Type 0) (listed : AbstractKind → Read Parts) (cs : List Check)
      → (part_fault (kind_of t) (heads ps) ≡ None → Agrees m (Listed (kind_of t)) (listed (kind_of t)) cs)
      → Agrees m (PartsDenote t site partial ps Listed) (read_listed t site partial ps listed)
      (element_has (option_or (unless (has_parts (kind_of t)) (NotApplicable site)) (part_fault (kind_of t) (heads ps))) ∷ cs)
  listed_agrees t site partial ps Listed listed cs agree =
      checked_agrees m (PartsDenote t site partial ps Listed) (has_parts (kind_of t)) (NotApplicable site) (part_fault (kind_of t) (heads ps))
      (λ _. listed (kind_of t) >>= λ qs. Ok (at site (type.with_components partial qs))) cs
      (λ there none. made_agrees m (Listed (kind_of t)) (PartsDenote t site partial ps Listed) (listed (kind_of t)) (λ qs. at site (type.with_components partial qs)) cs (agree none)
      (λ qs h. (there, none, (qs, h, refl))))
