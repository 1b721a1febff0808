-- What the walk finds is the violation, with a path as far as the code's numbers go, where contained types keep the base and the value fits.
use Rattle.std.proofs.Common.{◌≡◌, refl, ap, ◌∙◌, ℕ, zero, suc, ℤ, pos, Bool, true, false, not, ◌&&◌, ◌||◌, List, [], ◌∷◌, map, take, Option, Some, None, IsTrue, option_map}
use Rattle.std.specs.Option.{option_or, is_none, is_some}
use Rattle.std.proofs.lemmas.Bool.{and_parts}
use Rattle.guard_model.specs.declared.site.Site.{Site}
use Rattle.guard_model.specs.declared.site.Step.{Step}
use Rattle.guard_model.specs.declared.site.Step.TheVariants.{Component, Element}
use Rattle.guard_model.specs.declared.ty.Word.{Word}
use Rattle.guard_model.specs.AbstractType as type
use Rattle.guard_model.specs.AbstractType.{AbstractType, AbstractKind, Components, Constraint, Constraints, Parts, type_of, no_components, component, at, no_constraints, constraint}
use Rattle.guard_model.specs.AbstractValue as value
use Rattle.guard_model.specs.AbstractValue.{AbstractValue, Fields, Items}
use Rattle.guard_model.specs.Components.{components_in, component_at}
use Rattle.guard_model.specs.TypeView.{OneComponent}
use Rattle.guard_der.specs.Fits.{fits, fits_kind, fits_fields, fits_alternative, every_fits, are_few, fits_items, may_be_absent}
use Rattle.guard_der.specs.ProperConstraints.{takes_size}
use Rattle.guard_model.specs.Limits.{fits_128_bits}
use Rattle.guard_eval.specs.Elements.{has_base, size_of, some_passes, has_size}
use Rattle.guard_eval.specs.Presence.{element_kind, kind_at, has_parts, part_at, is_there, is_placed, first_intruder}
use Rattle.guard_eval.specs.Member.{is_member, holds, some_hold}
use Rattle.guard_eval.specs.Violations.{AbstractViolation, below, unless, first_among, blame_in_items, misplaced, blame_in_part, blame_intruder, violation, violation_inside, violation_from, violation_of_chosen, first_failing, blame, first_failing_part}
use Rattle.guard_eval.proofs.Applied.{with_true, base_kept}
use Rattle.guard_eval.proofs.Bases.{KeepsBase, PartsKeepBase, ComponentsKeepBase, AllKeepBase, ConstraintKeepsBase, ListedKeepBase}
use Rattle.guard_eval.specs.inside.Failures.{near, under, failure_among, failure_in_items, placing_failure, failure_in_part, intruder_failure, failure, failure_inside, failure_from, failure_of_chosen, first_failure, some_allows, failure_by, first_part_failure}
use Rattle.guard_eval.proofs.Law.{constraint_clear, type_clear}
use Rattle.guard_eval.proofs.SameFits.{same_fits}
use Rattle.guard_eval.proofs.PartFits.{fits_at}

-- as far as the code's numbers go
abbrev pub cut : AbstractViolation → AbstractViolation
cut w = record { site = w.site; path = take 32 (map near w.path) }

abbrev pub seen : Option AbstractViolation → Option AbstractViolation
seen w = option_map cut w

-- ---- one step

take_less : {A : Type 0} (n : ℕ) (xs : List A) → take n (take (suc n) xs) ≡ take n xs
take_less zero xs = refl
take_less (suc n) [] = refl
take_less (suc n) (x ∷ xs) = ap (λ ys. x ∷ ys) (take_less n xs)

under_seen : (s : Step) (a : Option AbstractViolation) {x : Option AbstractViolation} → x ≡ seen a → under s x ≡ seen (below s a)
under_seen s None e = ap (under s) e
under_seen s (Some w) e = ap (under s) e ∙ ap (λ (p : List Step). Some (record { site = w.site; path = near s ∷ p })) (take_less 31 (map near w.path))

or_seen : (a b : Option AbstractViolation) {x y : Option AbstractViolation} → x ≡ seen a → y ≡ seen b → option_or x y ≡ seen (option_or a b)
or_seen None b {x} {y} e f = ap (λ a. option_or a y) e ∙ f
or_seen (Some w) b {x} {y} e f = ap (λ a. option_or a y) e

unless_seen : (site : Site) {a b : Bool} → a ≡ b → unless a site ≡ seen (unless b site)
unless_seen site {a} {b} e = ap (λ x. unless x site) e ∙ kept b
  where
    kept : (b : Bool) → unless b site ≡ seen (unless b site)
    kept true = refl
    kept false = refl

pub seen_clear : (w : Option AbstractViolation) → is_none (seen w) ≡ is_none w
seen_clear None = refl
seen_clear (Some w) = refl

some_not_none : (w : Option AbstractViolation) → is_some w ≡ not (is_none w)
some_not_none None = refl
some_not_none (Some w) = refl

-- a test by the walk
pub tested : (c : Constraint) (kind : AbstractKind) (v : AbstractValue) {x : Option AbstractViolation} → x ≡ seen (blame c kind v) → is_none x ≡ holds c kind v
tested c kind v e = ap is_none e ∙ seen_clear (blame c kind v) ∙ constraint_clear c kind v

untested : (c : Constraint) (kind : AbstractKind) (v : AbstractValue) {x : Option AbstractViolation} → x ≡ seen (blame c kind v) → is_some x ≡ not (holds c kind v)
untested c kind v {x} e = some_not_none x ∙ ap not (tested c kind v e)

or_both : {a b c d : Bool} → a ≡ c → b ≡ d → (a || b) ≡ (c || d)
or_both e f = cc

-- ---- a size is a number, of no other kind

mutual
  number_free : (c : Constraint) (k l : AbstractKind) (z : ℤ) → failure_by c k (value.integer z) ≡ failure_by c l (value.integer z)
  number_free (at site (type.union cs)) k l z = ap (λ b. unless b site) (some_free cs k l z)
  number_free (at site (type.intersection cs)) k l z = first_free cs k l z
  number_free (at site (type.except c d)) k l z = rw (number_free c k l z, number_free d k l z) refl
  number_free (at site (type.all_except c)) k l z = rw (number_free c k l z) refl
  number_free (at site (type.single_value w)) k l z = refl
  number_free (at site (type.contained_subtype t)) k l z = refl
  number_free (at site (type.range low high)) k l z = refl
  number_free (at site (type.size c)) k l z = refl
  number_free (at site (type.permitted_alphabet ranges)) k l z = refl
  number_free (at site (type.with_component c)) k l z = refl
  number_free (at site (type.with_components partial ps)) k l z = refl

  first_free : (cs : Constraints) (k l : AbstractKind) (z : ℤ) → first_failure cs k (value.integer z) ≡ first_failure cs l (value.integer z)
  first_free no_constraints k l z = refl
  first_free (constraint c cs) k l z = rw (number_free c k l z, first_free cs k l z) refl

  some_free : (cs : Constraints) (k l : AbstractKind) (z : ℤ) → some_allows cs k (value.integer z) ≡ some_allows cs l (value.integer z)
  some_free no_constraints k l z = refl
  some_free (constraint c cs) k l z = rw (number_free c k l z, some_free cs k l z) refl

and_then : (a b c : Bool) → (IsTrue a → b ≡ c) → (a && b) ≡ (a && c)
and_then true b c e = e refl
and_then false b c e = refl

passes_same : (f g : AbstractValue → Bool) (size : Option ℕ) → ((n : ℕ) → IsTrue (fits_128_bits (pos n)) → f (value.integer (pos n)) ≡ g (value.integer (pos n))) → some_passes f size ≡ some_passes g size
passes_same f g None same = refl
passes_same f g (Some n) same = and_then (fits_128_bits (pos n)) (f (value.integer (pos n))) (g (value.integer (pos n))) (same n)

-- ---- elements and parts

among_seen : (f g : AbstractValue → Option AbstractViolation) (fit : AbstractValue → Bool) → ((v : AbstractValue) → IsTrue (fit v) → f v ≡ seen (g v))
    → (i : ℕ) (vs : Items) → IsTrue (every_fits fit vs) → failure_among f i vs ≡ seen (first_among g i vs)
among_seen f g fit agree i value.no_items h = refl
among_seen f g fit agree i (value.item v vs) h =
    let k = and_parts (fit v) (every_fits fit vs) h in
    or_seen (below (Element i) (g v)) (first_among g (suc i) vs) (under_seen (Element i) (g v) (agree v k.0)) (among_seen f g fit agree (suc i) vs k.1)

items_seen : (f g : AbstractValue → Option AbstractViolation) (kind : AbstractKind) → ((v : AbstractValue) → IsTrue (fits_kind (element_kind kind) v) → f v ≡ seen (g v))
    → (site : Site) (v : AbstractValue) → IsTrue (fits_kind kind v) → failure_in_items f site v ≡ seen (blame_in_items g site v)
items_seen f g (type.sequence_of (type_of tags k cons)) agree site (value.items vs) h =
    among_seen f g (fits (type_of tags k cons)) agree 0 vs (and_parts (are_few vs) (every_fits (fits (type_of tags k cons)) vs) h).1
items_seen f g (type.set_of (type_of tags k cons)) agree site (value.items vs) h =
    among_seen f g (fits (type_of tags k cons)) agree 0 vs
    (and_parts (are_few vs) (every_fits (fits (type_of tags k cons)) vs) (and_parts (fits_items (fits (type_of tags k cons)) vs) _ h).0).1
items_seen f g _ agree site (value.items vs) h = absurd cc
items_seen f g kind agree site _ h = refl

placing_seen : (partial : Bool) (site : Site) (i : ℕ) (found : Option OneComponent) (word : Option Word) (there : Bool) → placing_failure partial site i found word there ≡ seen (misplaced partial site i found word there)
placing_seen partial site i None word there = refl
placing_seen partial site i (Some c) word there = under_seen (Component i) (unless (is_placed partial (Some c) word there) site) (unless_seen site refl)

part_seen : (f g : AbstractValue → Option AbstractViolation) (i : ℕ) (part : Option AbstractValue) → ((v : AbstractValue) → part ≡ Some v → f v ≡ seen (g v)) → failure_in_part f i part ≡ seen (blame_in_part g i part)
part_seen f g i None agree = refl
part_seen f g i (Some v) agree = under_seen (Component i) (g v) (agree v refl)

-- what is said of a part that the type doesn't have fails before its constraint
placed_seen : (partial : Bool) (site : Site) (i : ℕ) (found : Option OneComponent) (word : Option Word) (there : Bool) (x y : Option AbstractViolation)
    → ((c : OneComponent) → found ≡ Some c → x ≡ seen y)
    → option_or (placing_failure partial site i found word there) x ≡ seen (option_or (misplaced partial site i found word there) y)
placed_seen partial site i None word there x y agree = refl
placed_seen partial site i (Some c) word there x y agree =
    or_seen (misplaced partial site i (Some c) word there) y (placing_seen partial site i (Some c) word there) (agree c refl)

intruder_seen : (site : Site) (i : Option ℕ) → intruder_failure site i ≡ seen (blame_intruder site i)
intruder_seen site None = refl
intruder_seen site (Some i) = refl

-- ---- all of it

mutual
  pub walked : (t : AbstractType) (v : AbstractValue) → KeepsBase t → IsTrue (fits t v) → failure t v ≡ seen (violation t v)
  walked (type_of tags kind cons) v b h =
      or_seen (first_failing cons kind v) (violation_inside kind v) (all_walked cons kind v b.0 h) (inside_walked kind v b.1 h)

  inside_walked : (kind : AbstractKind) (v : AbstractValue) → PartsKeepBase kind → IsTrue (fits_kind kind v) → failure_inside kind v ≡ seen (violation_inside kind v)
  inside_walked (type.sequence cs) (value.fields fs) b h = from_walked 0 cs fs b h
  inside_walked (type.set cs) (value.fields fs) b h = from_walked 0 cs fs b h
  inside_walked (type.choice cs) (value.chosen i v) b h = under_seen (Component i) (violation_of_chosen cs i v) (chosen_walked cs i v b h)
  inside_walked (type.sequence_of t) (value.items vs) b h =
      among_seen (failure t) (violation t) (fits t) (λ v k. walked t v b k) 0 vs (and_parts (are_few vs) (every_fits (fits t) vs) h).1
  inside_walked (type.set_of t) (value.items vs) b h =
      among_seen (failure t) (violation t) (fits t) (λ v k. walked t v b k) 0 vs
      (and_parts (are_few vs) (every_fits (fits t) vs) (and_parts (fits_items (fits t) vs) _ h).0).1
  inside_walked _ _ b h = refl

  from_walked : (i : ℕ) (cs : Components) (fs : Fields) → ComponentsKeepBase cs → IsTrue (fits_fields cs fs) → failure_from i cs fs ≡ seen (violation_from i cs fs)
  from_walked i no_components fs b h = refl
  from_walked i (component name t presence cs) value.no_fields b h = refl
  from_walked i (component name t presence cs) (value.absent fs) b h = from_walked (suc i) cs fs b.1 (and_parts (may_be_absent presence) (fits_fields cs fs) h).1
  from_walked i (component name t presence cs) (value.present v fs) b h =
      let k = and_parts (fits t v) (fits_fields cs fs) h in
      or_seen (below (Component i) (violation t v)) (violation_from (suc i) cs fs) (under_seen (Component i) (violation t v) (walked t v b.0 k.0)) (from_walked (suc i) cs fs b.1 k.1)

  chosen_walked : (cs : Components) (i : ℕ) (v : AbstractValue) → ComponentsKeepBase cs → IsTrue (fits_alternative cs i v) → failure_of_chosen cs i v ≡ seen (violation_of_chosen cs i v)
  chosen_walked no_components i v b h = refl
  chosen_walked (component name t presence cs) zero v b h = walked t v b.0 h
  chosen_walked (component name t presence cs) (suc i) v b h = chosen_walked cs i v b.1 h

  pub all_walked : (cs : Constraints) (kind : AbstractKind) (v : AbstractValue) → AllKeepBase cs kind → IsTrue (fits_kind kind v) → first_failure cs kind v ≡ seen (first_failing cs kind v)
  all_walked no_constraints kind v b h = refl
  all_walked (constraint c cs) kind v b h = or_seen (blame c kind v) (first_failing cs kind v) (by_walked c kind v b.0 h) (all_walked cs kind v b.1 h)

  some_walked : (cs : Constraints) (kind : AbstractKind) (v : AbstractValue) → AllKeepBase cs kind → IsTrue (fits_kind kind v) → some_allows cs kind v ≡ some_hold cs kind v
  some_walked no_constraints kind v b h = refl
  some_walked (constraint c cs) kind v b h = or_both (tested c kind v (by_walked c kind v b.0 h)) (some_walked cs kind v b.1 h)

  pub by_walked : (c : Constraint) (kind : AbstractKind) (v : AbstractValue) → ConstraintKeepsBase c kind → IsTrue (fits_kind kind v) → failure_by c kind v ≡ seen (blame c kind v)
  by_walked (at site (type.contained_subtype (type_of tags k cons))) kind v b h =
      let t : AbstractType = type_of tags k cons in
      let f : IsTrue (fits_kind k v) = same_fits k kind v b.0 ∙ h in
      unless_seen site
      (ap is_none (walked (type_of tags k cons) v b.1 f) ∙ seen_clear (violation t v) ∙ type_clear t v f ∙ with_true (has_base kind t) (is_member t v) (base_kept t kind b.0))
  by_walked (at site (type.size c)) kind v b h =
      unless_seen site
      (passes_same (λ n. is_none (failure_by c kind n)) (holds c (type.integer [])) (size_of v)
      (λ n k. ap is_none (number_free c kind (type.integer []) (pos n)) ∙ tested c (type.integer []) (value.integer (pos n)) (by_walked c (type.integer []) (value.integer (pos n)) b.1 k))
      ∙ with_true (takes_size kind) (has_size (holds c (type.integer [])) v) b.0)
  by_walked (at site (type.with_component c)) kind v b h =
      items_seen (failure_by c (element_kind kind)) (blame c (element_kind kind)) kind (λ w k. by_walked c (element_kind kind) w b k) site v h
  by_walked (at site (type.with_components partial ps)) kind v b h =
      or_seen (unless (has_parts v) site) _ (unless_seen site refl)
      (or_seen (first_failing_part ps partial kind v) (blame_intruder site (first_intruder partial kind ps v)) (listed_walked ps partial kind v b h) (intruder_seen site (first_intruder partial kind ps v)))
  by_walked (at site (type.union cs)) kind v b h = unless_seen site (some_walked cs kind v b h)
  by_walked (at site (type.intersection cs)) kind v b h = all_walked cs kind v b h
  by_walked (at site (type.except c d)) kind v b h =
      or_seen (blame c kind v) _ (by_walked c kind v b.0 h) (unless_seen site (untested d kind v (by_walked d kind v b.1 h)))
  by_walked (at site (type.all_except c)) kind v b h = unless_seen site (untested c kind v (by_walked c kind v b h))
  by_walked (at site (type.single_value w)) kind v b h = unless_seen site refl
  by_walked (at site (type.range low high)) kind v b h = unless_seen site refl
  by_walked (at site (type.permitted_alphabet ranges)) kind v b h = unless_seen site refl

  listed_walked : (ps : Parts) (partial : Bool) (kind : AbstractKind) (v : AbstractValue) → ListedKeepBase ps kind → IsTrue (fits_kind kind v) → first_part_failure ps partial kind v ≡ seen (first_failing_part ps partial kind v)
  listed_walked type.no_parts partial kind v b h = refl
  listed_walked (type.part site i word ps) partial kind v b h =
      or_seen (misplaced partial site i (component_at i (components_in kind)) word (is_there i v)) (first_failing_part ps partial kind v)
      (placing_seen partial site i (component_at i (components_in kind)) word (is_there i v)) (listed_walked ps partial kind v b h)
  listed_walked (type.part_within site i c word ps) partial kind v b h =
      or_seen _ (first_failing_part ps partial kind v)
      (placed_seen partial site i (component_at i (components_in kind)) word (is_there i v) _ (blame_in_part (blame c (kind_at i kind)) i (part_at i v))
      (λ found e. part_seen (failure_by c (kind_at i kind)) (blame c (kind_at i kind)) i (part_at i v)
      (λ p f. by_walked c (kind_at i kind) p b.0 (fits_at kind v i found p e f h))))
      (listed_walked ps partial kind v b.1 h)
