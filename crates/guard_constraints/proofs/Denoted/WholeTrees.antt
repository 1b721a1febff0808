-- What is read of a constraint tree agrees with what it denotes and with the first check that fails.
use Rattle.std.proofs.Common.{◌≡◌, Bool, true, false, cond, List, [], ◌∷◌, Option, Some, None, Ok, refl}
use Rattle.std.specs.Prelude.{IsTrue}
use Rattle.std.specs.Option.{is_none, option_or, option_map}
use Rattle.guard_model.specs.declared.site.Site.{Site}
use Rattle.guard_model.specs.AbstractType as type
use Rattle.guard_model.specs.AbstractType.{AbstractType, Parts, at}
use Rattle.guard_model.specs.Answer.{◌>>=◌}
use Rattle.guard_der.specs.Sound.{is_sound}
use Rattle.guard_model.specs.Kinds.{type_of_size, kind_of}
use Rattle.guard_syntax.specs.Trees as written
use Rattle.guard_syntax.specs.Trees.{WrittenSet, WrittenSetForm, WrittenUnited, WrittenIntersection, WrittenMet, WrittenDifference, WrittenElement, WrittenElementForm, WrittenConstraint, WrittenParts, set_node, all_except, union, none_united, united, intersection, none_met, met, element_alone, element_except, element_node, constraint, no_parts, part, part_in}
use Rattle.guard_values.specs.Places.{Located}
use Rattle.guard_constraints.specs.declared.fault.ConsFault.{ConsFault}
use Rattle.guard_constraints.specs.declared.fault.ConsFault.TheVariants.{UnknownComponent}
use Rattle.guard_constraints.specs.Visible.{Visible}
use Rattle.guard_constraints.specs.ListedParts.{PartHead, heads, word_of, named_in, is_unknown, first_where}
use Rattle.guard_constraints.specs.PartFaults.{word_fault, repeated_fault, present_fault}
use Rattle.guard_constraints.specs.Denotes.{ValueDenotes, Denotes, SetDenotes, SetFormDenotes, UnitedDenote, IntersectionDenotes, MetDenote, DifferenceDenotes, ElementDenotes, FormDenotes, ListedDenote, joined}
use Rattle.guard_constraints.specs.Faults.{own_fault}
use Rattle.guard_constraints.specs.FirstFault.{Check, element_has, value_under, checks, set_checks, set_form_checks, united_checks, intersection_checks, met_checks, difference_checks, element_checks, checks_inside, part_checks, checks_on, type_there}
use Rattle.guard_constraints.specs.inside.Reading.{Read, found, read_value, read, read_set, read_set_form, read_united, read_intersection, read_met, read_difference, read_element, read_element_form, read_parts}
use Rattle.guard_constraints.proofs.Denoted.Agreement.{Agrees, free_agrees, then_agrees, made_agrees}
use Rattle.guard_constraints.proofs.Denoted.PlainElements.{ValuesAgree, value_agrees, contained_agrees, range_agrees}
use Rattle.guard_constraints.proofs.Denoted.InnerConstraints.{alphabet_agrees, size_agrees, each_agrees, listed_agrees}
use Rattle.guard_constraints.proofs.Denoted.SoundParts.{size_sound, element_sound, component_sound}

-- ---- parts of WITH COMPONENTS, each of which names a component

not_first : (test : PartHead → Bool) (h : PartHead) (hs : List PartHead) (b : Bool) → test h ≡ b → cond b (Some h.site) (first_where test hs) ≡ None → (test h ≡ false) × (first_where test hs ≡ None)
not_first test h hs true e none = absurd cc
not_first test h hs false e none = (e, none)

pub none_first : (test : PartHead → Bool) (h : PartHead) (hs : List PartHead) → first_where test (h ∷ hs) ≡ None → (test h ≡ false) × (first_where test hs ≡ None)
none_first test h hs none = not_first test h hs (test h) refl none

is_there : (fd : Option Located) → is_none fd ≡ false → (p : Located) × (fd ≡ Some p)
is_there None e = absurd cc
is_there (Some p) e = (p, refl)

found_then : {A B : Type 0} (fault : ConsFault) (fd : Option A) (x : A) (next : A → Read B) → fd ≡ Some x → (found fault fd >>= next) ≡ next x
found_then fault fd x next e = rw e refl

checks_there : (find : AbstractType → List Check) (fd : Option Located) (p : Located) → fd ≡ Some p → checks_on find (type_there fd) ≡ find p.ty
checks_there find fd p e = rw e refl

-- where no part has a fault of its own each names a component
none_unknown : (a b c : Option ConsFault) (d : Option Site) → option_or a (option_or (option_map UnknownComponent d) (option_or b c)) ≡ None → d ≡ None
none_unknown None b c None e = refl
none_unknown None b c (Some s) e = absurd cc
none_unknown (Some f) b c d e = absurd cc

-- ---- all of it

mutual
  unfolding read

  pub set_agrees : (names : Visible) (t : AbstractType) (tree : WrittenSet) → ValuesAgree names.values → IsTrue (is_sound t)
      → Agrees names.values (SetDenotes names t tree) (read_set names t tree) (set_checks names t tree)
  set_agrees names t (set_node site form) agree sound = form_agrees names t site form agree sound

  pub form_agrees : (names : Visible) (t : AbstractType) (site : Site) (form : WrittenSetForm) → ValuesAgree names.values → IsTrue (is_sound t)
      → Agrees names.values (SetFormDenotes names t site form) (read_set_form names t site form) (set_form_checks names t form)
  form_agrees names t site (all_except e) agree sound =
      made_agrees names.values (ElementDenotes names t e) (SetFormDenotes names t site (all_except e)) (read_element names t e) (λ c. at site (type.all_except c)) (element_checks names t e)
      (element_agrees names t e agree sound) (λ c h. (c, h, refl))
  form_agrees names t site (union first others) agree sound =
      then_agrees names.values (IntersectionDenotes names t first) (SetFormDenotes names t site (union first others)) (read_intersection names t first)
      (λ c. read_united names t others >>= λ cs. Ok (joined type.union site c cs)) (intersection_checks names t first) (united_checks names t others)
      (intersection_agrees names t first agree sound)
      (λ c h. made_agrees names.values (UnitedDenote names t others) (SetFormDenotes names t site (union first others)) (read_united names t others) (λ cs. joined type.union site c cs) (united_checks names t others)
      (united_agrees names t others agree sound) (λ cs k. (c, cs, h, k, refl)))

  pub united_agrees : (names : Visible) (t : AbstractType) (tree : WrittenUnited) → ValuesAgree names.values → IsTrue (is_sound t)
      → Agrees names.values (UnitedDenote names t tree) (read_united names t tree) (united_checks names t tree)
  united_agrees names t none_united agree sound = (tt, refl)
  united_agrees names t (united mark one others) agree sound =
      then_agrees names.values (IntersectionDenotes names t one) (UnitedDenote names t (united mark one others)) (read_intersection names t one)
      (λ c. read_united names t others >>= λ cs. Ok (type.constraint c cs)) (intersection_checks names t one) (united_checks names t others)
      (intersection_agrees names t one agree sound)
      (λ c h. made_agrees names.values (UnitedDenote names t others) (UnitedDenote names t (united mark one others)) (read_united names t others) (λ cs. type.constraint c cs) (united_checks names t others)
      (united_agrees names t others agree sound) (λ cs k. (c, cs, h, k, refl)))

  pub intersection_agrees : (names : Visible) (t : AbstractType) (tree : WrittenIntersection) → ValuesAgree names.values → IsTrue (is_sound t)
      → Agrees names.values (IntersectionDenotes names t tree) (read_intersection names t tree) (intersection_checks names t tree)
  intersection_agrees names t (intersection site first others) agree sound =
      then_agrees names.values (DifferenceDenotes names t first) (IntersectionDenotes names t (intersection site first others)) (read_difference names t first)
      (λ c. read_met names t others >>= λ cs. Ok (joined type.intersection site c cs)) (difference_checks names t first) (met_checks names t others)
      (difference_agrees names t first agree sound)
      (λ c h. made_agrees names.values (MetDenote names t others) (IntersectionDenotes names t (intersection site first others)) (read_met names t others) (λ cs. joined type.intersection site c cs) (met_checks names t others)
      (met_agrees names t others agree sound) (λ cs k. (c, cs, h, k, refl)))

  pub met_agrees : (names : Visible) (t : AbstractType) (tree : WrittenMet) → ValuesAgree names.values → IsTrue (is_sound t)
      → Agrees names.values (MetDenote names t tree) (read_met names t tree) (met_checks names t tree)
  met_agrees names t none_met agree sound = (tt, refl)
  met_agrees names t (met mark one others) agree sound =
      then_agrees names.values (DifferenceDenotes names t one) (MetDenote names t (met mark one others)) (read_difference names t one)
      (λ c. read_met names t others >>= λ cs. Ok (type.constraint c cs)) (difference_checks names t one) (met_checks names t others)
      (difference_agrees names t one agree sound)
      (λ c h. made_agrees names.values (MetDenote names t others) (MetDenote names t (met mark one others)) (read_met names t others) (λ cs. type.constraint c cs) (met_checks names t others)
      (met_agrees names t others agree sound) (λ cs k. (c, cs, h, k, refl)))

  pub difference_agrees : (names : Visible) (t : AbstractType) (tree : WrittenDifference) → ValuesAgree names.values → IsTrue (is_sound t)
      → Agrees names.values (DifferenceDenotes names t tree) (read_difference names t tree) (difference_checks names t tree)
  difference_agrees names t (element_alone site e) agree sound = element_agrees names t e agree sound
  difference_agrees names t (element_except site e f) agree sound =
      then_agrees names.values (ElementDenotes names t e) (DifferenceDenotes names t (element_except site e f)) (read_element names t e)
      (λ c. read_element names t f >>= λ d. Ok (at site (type.except c d))) (element_checks names t e) (element_checks names t f)
      (element_agrees names t e agree sound)
      (λ c h. made_agrees names.values (ElementDenotes names t f) (DifferenceDenotes names t (element_except site e f)) (read_element names t f) (λ d. at site (type.except c d)) (element_checks names t f)
      (element_agrees names t f agree sound) (λ d k. (c, d, h, k, refl)))

  pub element_agrees : (names : Visible) (t : AbstractType) (tree : WrittenElement) → ValuesAgree names.values → IsTrue (is_sound t)
      → Agrees names.values (ElementDenotes names t tree) (read_element names t tree) (element_checks names t tree)
  element_agrees names t (element_node site form) agree sound = element_form_agrees names t site form agree sound

  pub element_form_agrees : (names : Visible) (t : AbstractType) (site : Site) (form : WrittenElementForm) → ValuesAgree names.values → IsTrue (is_sound t)
      → Agrees names.values (FormDenotes names t site form) (read_element_form names t site form) (element_has (own_fault names t site form) ∷ checks_inside names t site form)
  element_form_agrees names t site (written.parentheses tree) agree sound = free_agrees names.values (SetDenotes names t tree) (read_set names t tree) (set_checks names t tree) (set_agrees names t tree agree sound)
  element_form_agrees names t site (written.value tree) agree sound =
      free_agrees names.values (ValueDenotes names t site tree) (read_value names.values t tree >>= λ v. Ok (at site (type.single_value v))) (value_under t tree ∷ []) (value_agrees names t site tree agree sound)
  element_form_agrees names t site (written.contained includes name_site name) agree sound = contained_agrees names t site name
  element_form_agrees names t site (written.range r) agree sound = range_agrees names t site r agree sound
  element_form_agrees names t site (written.size inner) agree sound =
      size_agrees names.values t site (λ u d. Denotes names u inner d) (λ u. read names u inner) (checks names type_of_size inner) (agrees names type_of_size inner agree size_sound)
  element_form_agrees names t site (written.from (constraint inner tree)) agree sound = alphabet_agrees names.values t site inner tree
  element_form_agrees names t site (written.with_component inner) agree sound =
      each_agrees names.values t site (λ u d. Denotes names u inner d) (λ u. read names u inner) (λ u. checks names u inner) (λ u e. agrees names u inner agree (element_sound t u sound e))
  element_form_agrees names t site (written.with_components partial ps) agree sound =
      listed_agrees names.values t site partial ps (λ kind qs. ListedDenote names kind ps qs) (λ kind. read_parts names kind ps) (part_checks names (kind_of t) ps)
      (λ none. parts_agree names t ps agree sound
      (none_unknown (word_fault (kind_of t) (heads ps)) (repeated_fault (heads ps)) (present_fault (kind_of t) (heads ps)) (first_where (is_unknown (kind_of t)) (heads ps)) none))

  pub agrees : (names : Visible) (t : AbstractType) (tree : WrittenConstraint) → ValuesAgree names.values → IsTrue (is_sound t)
      → Agrees names.values (Denotes names t tree) (read names t tree) (checks names t tree)
  agrees names t (constraint site tree) agree sound = set_agrees names t tree agree sound

  pub parts_agree : (names : Visible) (t : AbstractType) (ps : WrittenParts) → ValuesAgree names.values → IsTrue (is_sound t) → first_where (is_unknown (kind_of t)) (heads ps) ≡ None
      → Agrees names.values (ListedDenote names (kind_of t) ps) (read_parts names (kind_of t) ps) (part_checks names (kind_of t) ps)
  parts_agree names t no_parts agree sound known = (tt, refl)
  parts_agree names t (part site name presence others) agree sound known =
      let k = none_first (is_unknown (kind_of t)) (record { site = site; name = name; presence = presence }) (heads others) known in
      let p = is_there (named_in (kind_of t) name) k.0 in
      rw (found_then (UnknownComponent site) (named_in (kind_of t) name) p.0 (λ p. read_parts names (kind_of t) others >>= λ qs. Ok (type.part site p.place (option_map word_of presence) qs)) p.1) (
      made_agrees names.values (ListedDenote names (kind_of t) others) (ListedDenote names (kind_of t) (part site name presence others)) (read_parts names (kind_of t) others)
      (λ qs. type.part site p.0.place (option_map word_of presence) qs) (part_checks names (kind_of t) others)
      (parts_agree names t others agree sound k.1) (λ qs h. (p.0, qs, p.1, h, refl))
      )
  parts_agree names t (part_in site name inner presence others) agree sound known =
      let k = none_first (is_unknown (kind_of t)) (record { site = site; name = name; presence = presence }) (heads others) known in
      let p = is_there (named_in (kind_of t) name) k.0 in
      let next : Located → Read Parts = λ p. read names p.ty inner >>= λ c. read_parts names (kind_of t) others >>= λ qs. Ok (type.part_within site p.place c (option_map word_of presence) qs) in
      rw (found_then (UnknownComponent site) (named_in (kind_of t) name) p.0 next p.1, checks_there (λ u. checks names u inner) (named_in (kind_of t) name) p.0 p.1) (
      then_agrees names.values (Denotes names p.0.ty inner) (ListedDenote names (kind_of t) (part_in site name inner presence others)) (read names p.0.ty inner)
      (λ c. read_parts names (kind_of t) others >>= λ qs. Ok (type.part_within site p.0.place c (option_map word_of presence) qs)) (checks names p.0.ty inner) (part_checks names (kind_of t) others)
      (agrees names p.0.ty inner agree (component_sound t name p.0 sound p.1))
      (λ c h. made_agrees names.values (ListedDenote names (kind_of t) others) (ListedDenote names (kind_of t) (part_in site name inner presence others)) (read_parts names (kind_of t) others)
      (λ qs. type.part_within site p.0.place c (option_map word_of presence) qs) (part_checks names (kind_of t) others)
      (parts_agree names t others agree sound k.1) (λ qs more. (p.0, c, qs, p.1, h, more, refl)))
      )
