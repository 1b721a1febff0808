-- What a constraint tree denotes is what is read. So it denotes one constraint at most.
use Rattle.std.proofs.Common.{◌≡◌, Bool, List, Option, Some, None, Ok, refl, sym, ap, ◌∙◌}
use Rattle.std.specs.Prelude.{IsTrue, not}
use Rattle.std.specs.Option.{option_map}
use Rattle.guard_model.specs.declared.site.Site.{Site}
use Rattle.guard_model.specs.declared.ty.Limit.{Limit}
use Rattle.guard_model.specs.AbstractType as type
use Rattle.guard_model.specs.AbstractType.{AbstractType, AbstractKind, Constraint, Constraints, Parts, at}
use Rattle.guard_model.specs.AbstractValue as value
use Rattle.guard_model.specs.AbstractValue.{AbstractValue}
use Rattle.guard_model.specs.Answer.{◌>>=◌}
use Rattle.guard_model.specs.Kinds.{is_integer, has_size, type_of_size, is_string, element_of, has_parts, kind_of, has_named_bits}
use Rattle.guard_syntax.specs.Trees as written
use Rattle.guard_syntax.specs.Trees.{WrittenValue, WrittenEnd, WrittenRange, WrittenSet, WrittenSetForm, WrittenUnited, WrittenIntersection, WrittenMet, WrittenDifference, WrittenElement, WrittenElementForm, WrittenConstraint, WrittenParts, set_node, all_except, union, none_united, united, intersection, none_met, met, element_alone, element_except, element_node, constraint, no_parts, part, part_in}
use Rattle.guard_values.specs.Meanings.{Meaning}
use Rattle.guard_values.specs.Denotes as values
use Rattle.guard_constraints.specs.declared.fault.ConsFault.{ConsFault}
use Rattle.guard_constraints.specs.declared.fault.ConsFault.TheVariants.{NotApplicable, ExclusiveLimit, AlphabetForm, UnknownComponent}
use Rattle.guard_constraints.specs.Visible.{Visible}
use Rattle.guard_constraints.specs.RangeEnds.{has_proper_ends, value_of_end, limit_at, LimitDenotes}
use Rattle.guard_constraints.specs.PermittedAlphabets.{items_of, first_bad, ranges_of}
use Rattle.guard_constraints.specs.ListedParts.{PartHead, heads, word_of, named_in}
use Rattle.guard_constraints.specs.PartFaults.{part_fault}
use Rattle.guard_constraints.specs.Faults.{characters_fault}
use Rattle.guard_constraints.specs.Denotes.{RangeDenotes, Denotes, SetDenotes, SetFormDenotes, UnitedDenote, IntersectionDenotes, MetDenote, DifferenceDenotes, ElementDenotes, FormDenotes, ListedDenote, joined}
use Rattle.guard_constraints.specs.inside.Reading.{Read, demanded, unless_fault, found, read_value, integer_in, read_end, read_limit, read_range, size_type, sized, checked, read, read_set, read_set_form, read_united, read_intersection, read_met, read_difference, read_element, read_element_form, read_parts}

-- What is denoted by a written value is read of it: guard_values proves it of its reading.
abbrev pub ValuesSaid : Meaning → Type 0
ValuesSaid m = (t : AbstractType) (tree : WrittenValue) (v : AbstractValue) → values.Denotes m t tree v → read_value m t tree ≡ Ok v

-- ---- steps

two : {A B : Type 0} (r : Read A) (next : A → Read B) (x : A) (y : B) → r ≡ Ok x → next x ≡ Ok y → (r >>= next) ≡ Ok y
two r next x y e f = rw e f

granted : {B : Type 0} (b : Bool) (fault : ConsFault) (next : Unit {0} → Read B) (y : B) → IsTrue b → next tt ≡ Ok y → (demanded b fault >>= next) ≡ Ok y
granted b fault next y h e = rw h e

faultless : {B : Type 0} (fault : Option ConsFault) (next : Unit {0} → Read B) (y : B) → fault ≡ None → next tt ≡ Ok y → (unless_fault fault >>= next) ≡ Ok y
faultless fault next y h e = rw h e

there : {A B : Type 0} (fault : ConsFault) (o : Option A) (next : A → Read B) (x : A) (y : B) → o ≡ Some x → next x ≡ Ok y → (found fault o >>= next) ≡ Ok y
there fault o next x y h e = rw h e

counted : (t : AbstractType) (site : Site) → IsTrue (has_size (kind_of t)) → size_type t site ≡ Ok type_of_size
counted t site h = rw h refl

size_said : (t : AbstractType) (site : Site) (d : Constraint) → IsTrue (not (has_named_bits (kind_of t))) → sized t site d ≡ Ok (at site (type.size d))
size_said t site d h = rw h refl

pub checked_said : (t : AbstractType) (site : Site) (hs : List PartHead) → IsTrue (has_parts (kind_of t)) → part_fault (kind_of t) hs ≡ None → checked t site hs ≡ Ok tt
checked_said t site hs h e = rw (h, e) refl

-- ---- ranges

limit_said : (m : Meaning) (t : AbstractType) (outside : Bool) (end : Option WrittenEnd) (l : Limit) → ValuesSaid m → LimitDenotes m t outside end l → read_limit m t outside end ≡ Ok l
limit_said m t outside None l said h = ap Ok (sym h)
limit_said m t outside (Some e) l said h =
    two (read_end m t e) (λ z. Ok (limit_at outside z)) h.0 l
    (two (read_value m t (value_of_end e)) (λ v. integer_in e.site v) (value.integer h.0) h.0 (said t (value_of_end e) (value.integer h.0) h.1) refl)
    (ap Ok (sym h.2))

range_said : (names : Visible) (t : AbstractType) (site : Site) (r : WrittenRange) (c : Constraint) → ValuesSaid names.values → RangeDenotes names t site r c → read_range names.values t site r ≡ Ok c
range_said names t site r c said h =
    let after_low : Limit → Read Constraint = λ low. read_limit names.values t r.below_high r.high >>= λ high. Ok (at site (type.range low high)) in
    let limits : Read Constraint = read_limit names.values t r.above_low r.low >>= after_low in
    granted (is_integer (kind_of t)) (NotApplicable site) (λ _. demanded (has_proper_ends r) (ExclusiveLimit site) >>= λ _. limits) c h.0 (
    granted (has_proper_ends r) (ExclusiveLimit site) (λ _. limits) c h.1 (
    two (read_limit names.values t r.above_low r.low) after_low h.2.0 c (limit_said names.values t r.above_low r.low h.2.0 said h.2.2)
    (two (read_limit names.values t r.below_high r.high) (λ high. Ok (at site (type.range h.2.0 high))) h.2.1 c (limit_said names.values t r.below_high r.high h.2.1 said h.2.3) (ap Ok (sym h.2.4)))
    )
    )

-- ---- all of it

mutual
  unfolding read

  pub denotes_read : (names : Visible) (t : AbstractType) (tree : WrittenConstraint) (c : Constraint) → ValuesSaid names.values → Denotes names t tree c → read names t tree ≡ Ok c
  denotes_read names t (constraint site tree) c said h = set_said names t tree c said h

  set_said : (names : Visible) (t : AbstractType) (tree : WrittenSet) (c : Constraint) → ValuesSaid names.values → SetDenotes names t tree c → read_set names t tree ≡ Ok c
  set_said names t (set_node site form) c said h = form_said names t site form c said h

  form_said : (names : Visible) (t : AbstractType) (site : Site) (form : WrittenSetForm) (c : Constraint) → ValuesSaid names.values → SetFormDenotes names t site form c → read_set_form names t site form ≡ Ok c
  form_said names t site (all_except e) c said h = two (read_element names t e) (λ d. Ok (at site (type.all_except d))) h.0 c (element_said names t e h.0 said h.1) (ap Ok (sym h.2))
  form_said names t site (union first others) c said h =
      two (read_intersection names t first) (λ d. read_united names t others >>= λ ds. Ok (joined type.union site d ds)) h.0 c (intersection_said names t first h.0 said h.2)
      (two (read_united names t others) (λ ds. Ok (joined type.union site h.0 ds)) h.1 c (united_said names t others h.1 said h.3) (ap Ok (sym h.4)))

  united_said : (names : Visible) (t : AbstractType) (tree : WrittenUnited) (cs : Constraints) → ValuesSaid names.values → UnitedDenote names t tree cs → read_united names t tree ≡ Ok cs
  united_said names t none_united cs said h = ap Ok (sym h)
  united_said names t (united mark one others) cs said h =
      two (read_intersection names t one) (λ d. read_united names t others >>= λ ds. Ok (type.constraint d ds)) h.0 cs (intersection_said names t one h.0 said h.2)
      (two (read_united names t others) (λ ds. Ok (type.constraint h.0 ds)) h.1 cs (united_said names t others h.1 said h.3) (ap Ok (sym h.4)))

  intersection_said : (names : Visible) (t : AbstractType) (tree : WrittenIntersection) (c : Constraint) → ValuesSaid names.values → IntersectionDenotes names t tree c → read_intersection names t tree ≡ Ok c
  intersection_said names t (intersection site first others) c said h =
      two (read_difference names t first) (λ d. read_met names t others >>= λ ds. Ok (joined type.intersection site d ds)) h.0 c (difference_said names t first h.0 said h.2)
      (two (read_met names t others) (λ ds. Ok (joined type.intersection site h.0 ds)) h.1 c (met_said names t others h.1 said h.3) (ap Ok (sym h.4)))

  met_said : (names : Visible) (t : AbstractType) (tree : WrittenMet) (cs : Constraints) → ValuesSaid names.values → MetDenote names t tree cs → read_met names t tree ≡ Ok cs
  met_said names t none_met cs said h = ap Ok (sym h)
  met_said names t (met mark one others) cs said h =
      two (read_difference names t one) (λ d. read_met names t others >>= λ ds. Ok (type.constraint d ds)) h.0 cs (difference_said names t one h.0 said h.2)
      (two (read_met names t others) (λ ds. Ok (type.constraint h.0 ds)) h.1 cs (met_said names t others h.1 said h.3) (ap Ok (sym h.4)))

  difference_said : (names : Visible) (t : AbstractType) (tree : WrittenDifference) (c : Constraint) → ValuesSaid names.values → DifferenceDenotes names t tree c → read_difference names t tree ≡ Ok c
  difference_said names t (element_alone site e) c said h = element_said names t e c said h
  difference_said names t (element_except site e f) c said h =
      two (read_element names t e) (λ d. read_element names t f >>= λ less. Ok (at site (type.except d less))) h.0 c (element_said names t e h.0 said h.2)
      (two (read_element names t f) (λ less. Ok (at site (type.except h.0 less))) h.1 c (element_said names t f h.1 said h.3) (ap Ok (sym h.4)))

  element_said : (names : Visible) (t : AbstractType) (tree : WrittenElement) (c : Constraint) → ValuesSaid names.values → ElementDenotes names t tree c → read_element names t tree ≡ Ok c
  element_said names t (element_node site form) c said h = element_form_said names t site form c said h

  element_form_said : (names : Visible) (t : AbstractType) (site : Site) (form : WrittenElementForm) (c : Constraint) → ValuesSaid names.values → FormDenotes names t site form c → read_element_form names t site form ≡ Ok c
  element_form_said names t site (written.parentheses tree) c said h = set_said names t tree c said h
  element_form_said names t site (written.value tree) c said h = two (read_value names.values t tree) (λ v. Ok (at site (type.single_value v))) h.0 c (said t tree h.0 h.1) (ap Ok (sym h.2))
  element_form_said names t site (written.contained includes name_site name) c said h = rw (h.1, h.2) (ap Ok (sym h.3))
  element_form_said names t site (written.range r) c said h = range_said names t site r c said h
  element_form_said names t site (written.size inner) c said h =
      two (size_type t site) (λ u. read names u inner >>= λ d. sized t site d) type_of_size c (counted t site h.0)
      (two (read names type_of_size inner) (λ d. sized t site d) h.2.0 c (denotes_read names type_of_size inner h.2.0 said h.2.1) (size_said t site h.2.0 h.1 ∙ ap Ok (sym h.2.2)))
  element_form_said names t site (written.from (constraint inner tree)) c said h =
      granted (is_string (kind_of t)) (NotApplicable site)
      (λ _. found (AlphabetForm site) (items_of tree) >>= λ items. unless_fault (option_map characters_fault (first_bad (kind_of t) items)) >>= λ _. Ok (at site (type.permitted_alphabet (ranges_of items)))) c h.0
      (there (AlphabetForm site) (items_of tree) (λ items. unless_fault (option_map characters_fault (first_bad (kind_of t) items)) >>= λ _. Ok (at site (type.permitted_alphabet (ranges_of items)))) h.1.0 c h.1.1
      (faultless (option_map characters_fault (first_bad (kind_of t) h.1.0)) (λ _. Ok (at site (type.permitted_alphabet (ranges_of h.1.0)))) c (ap (option_map characters_fault) h.1.2) (ap Ok (sym h.1.3))))
  element_form_said names t site (written.with_component inner) c said h =
      there (NotApplicable site) (element_of (kind_of t)) (λ u. read names u inner >>= λ d. Ok (at site (type.with_component d))) h.0 c h.2
      (two (read names h.0 inner) (λ d. Ok (at site (type.with_component d))) h.1 c (denotes_read names h.0 inner h.1 said h.3) (ap Ok (sym h.4)))
  element_form_said names t site (written.with_components partial ps) c said h =
      two (checked t site (heads ps)) (λ _. read_parts names (kind_of t) ps >>= λ qs. Ok (at site (type.with_components partial qs))) tt c (checked_said t site (heads ps) h.0 h.1)
      (two (read_parts names (kind_of t) ps) (λ qs. Ok (at site (type.with_components partial qs))) h.2.0 c (parts_said names (kind_of t) ps h.2.0 said h.2.1) (ap Ok (sym h.2.2)))

  parts_said : (names : Visible) (kind : AbstractKind) (ps : WrittenParts) (qs : Parts) → ValuesSaid names.values → ListedDenote names kind ps qs → read_parts names kind ps ≡ Ok qs
  parts_said names kind no_parts qs said h = ap Ok (sym h)
  parts_said names kind (part site name presence others) qs said h =
      there (UnknownComponent site) (named_in kind name) (λ p. read_parts names kind others >>= λ more. Ok (type.part site p.place (option_map word_of presence) more)) h.0 qs h.2
      (two (read_parts names kind others) (λ more. Ok (type.part site h.0.place (option_map word_of presence) more)) h.1 qs (parts_said names kind others h.1 said h.3) (ap Ok (sym h.4)))
  parts_said names kind (part_in site name inner presence others) qs said h =
      there (UnknownComponent site) (named_in kind name)
      (λ p. read names p.ty inner >>= λ c. read_parts names kind others >>= λ more. Ok (type.part_within site p.place c (option_map word_of presence) more)) h.0 qs h.3
      (two (read names h.0.ty inner) (λ c. read_parts names kind others >>= λ more. Ok (type.part_within site h.0.place c (option_map word_of presence) more)) h.1 qs (denotes_read names h.0.ty inner h.1 said h.4)
      (two (read_parts names kind others) (λ more. Ok (type.part_within site h.0.place h.1 (option_map word_of presence) more)) h.2 qs (parts_said names kind others h.2 said h.5) (ap Ok (sym h.6))))
