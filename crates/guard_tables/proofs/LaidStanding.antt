-- The plan that is laid for a sound type stands for the type: it has its tags, parts and defaults.
use Rattle.std.proofs.Common.{◌≡◌, ℕ, suc, Bool, true, false, List, [], ◌∷◌, Option, Some, None, refl, sym, ap, ◌∙◌, subst, IsTrue}
use Rattle.std.specs.Prelude.{◌&&◌, nat_le, option_and_then}
use Rattle.std.specs.Option.{option_or}
use Rattle.std.proofs.lemmas.Bool.{and_parts}
use Rattle.std.proofs.lemmas.Option.{same_Some}
use Rattle.guard_model.specs.declared.site.Step.TheVariants.{Component, Element}
use Rattle.guard_model.specs.declared.tag.Tag.{Tag}
use Rattle.guard_model.specs.AbstractType as type
use Rattle.guard_model.specs.AbstractType.{AbstractType, AbstractKind, AbstractPresence, Components, Constraints, NamedNumber, type_of, no_components, component, no_constraints}
use Rattle.guard_model.specs.AbstractValue.{AbstractValue}
use Rattle.guard_model.specs.Counts.{component_count}
use Rattle.guard_model.specs.Same.{same, same_numbers}
use Rattle.guard_model.proofs.Sameness.{equal_values, same_itself, equal_numbers, same_numbers_itself}
use Rattle.guard_model.proofs.Tests.{same_test}
use Rattle.guard_tagcheck.specs.Limits.{is_tagged, are_low}
use Rattle.guard_tagcheck.specs.Search.{first_clash, clash_inside, first_pair, here, inside}
use Rattle.guard_tagcheck.proofs.Options.{inside_none}
use Rattle.guard_der.specs.Der.{◌>>=◌, der, contents_octets, is_constructed}
use Rattle.guard_der.specs.Element.{element, tagged}
use Rattle.guard_der.specs.Fits.{fits, fits_kind}
use Rattle.guard_der.specs.ProperConstraints.{is_short}
use Rattle.guard_der.specs.Sound.{is_proper, is_proper_kind, are_proper, is_proper_presence, are_proper_constraints, is_sound}
use Rattle.guard_tables.specs.declared.slots.Slots.{Slots}
use Rattle.guard_tables.specs.Slots as slots
use Rattle.guard_tables.specs.Slots.{added}
use Rattle.guard_tables.specs.Plan.{AbstractCondition, Plan, Body, Parts, plan, part, series, set, choice, list, set_of, asked_of}
use Rattle.guard_tables.specs.Marking.{type_marked}
use Rattle.guard_tables.specs.Standing.{Spells, Tells, DefaultFor, SideFor, SimpleFor, IsWhole, PlanFor, BodyFor, PartsFor, AlternativesFor}
use Rattle.guard_tables.specs.Demands.{SlotDemand, Term}
use Rattle.guard_tables.specs.Formulas.{Implication}
use Rattle.guard_tables.specs.Forms.{forms_of}
use Rattle.guard_tables.specs.OfParts.{each_of, within_of, terms_at}
use Rattle.guard_tables.specs.Lay.{conditions_of, absent_of, present_of, inside_octets, side_for, nameless, lay, lay_kind, lay_parts, lay_alternatives, implied_of}
use Rattle.guard_tables.proofs.SlotSums.{added_again}
use Rattle.guard_tables.proofs.Adding.{adds_type}
use Rattle.guard_tables.proofs.Telling.{HasContents, standing_contents, one_contents, one_encoding}
use Rattle.guard_tables.proofs.ReadsBack.{contents_back, inside_back}
use Rattle.guard_tables.proofs.Laying.{IsWell, IsWellKind, well_kind, well_sound, none_of_two}

-- ---- defaults

-- octets by which a value is encoded tell it from each other value
told : (d v : AbstractValue) (stored os : List ℕ) (encode : AbstractValue → Option (List ℕ)) → encode d ≡ Some stored → encode v ≡ Some os → (encode v ≡ Some stored → d ≡ v) → same d v ≡ same_numbers stored os
told d v stored os encode is_d is_v one =
    same_test (same d v) (same_numbers stored os)
    (λ h. let both : stored ≡ os = same_Some stored os (sym is_d ∙ ap encode (equal_values d v h) ∙ is_v) in subst (λ (x : List ℕ). same_numbers stored x ≡ true) both (same_numbers_itself stored))
    (λ h. let is : d ≡ v = one (is_v ∙ ap (λ (x : List ℕ). Some x) (sym (equal_numbers stored os h))) in subst (λ (x : AbstractValue). same d x ≡ true) is (same_itself d))

contents_tell : (kind : AbstractKind) → IsWellKind kind → (d : AbstractValue) (c : HasContents kind d) → IsTrue (fits_kind kind d) → Tells [] kind d c.octets
contents_tell kind w d c fit at start os v digits short e =
    let back = contents_back kind at start os v w.0 w.1 digits short e in
    told d v c.octets os (contents_octets kind) c.are back.1 (λ same_as. one_contents kind w.0 w.1 d v c.octets fit back.0 c.are same_as c.short)

default_bare : (kind : AbstractKind) → IsWellKind kind → (d : AbstractValue) (c : HasContents kind d) → IsTrue (fits_kind kind d) → DefaultFor (inside_octets [] kind d) [] kind d
default_bare kind w d c fit = subst (λ (o : Option (List ℕ)). DefaultFor o [] kind d) (sym c.are) (contents_tell kind w d c fit)

default_tagged : (t : Tag) (kind : AbstractKind) → IsWellKind kind → (d : AbstractValue) (c : HasContents kind d) → IsTrue (fits_kind kind d) → DefaultFor (inside_octets (t ∷ []) kind d) (t ∷ []) kind d
default_tagged t kind w d c fit =
    subst (λ (o : Option (List ℕ)). DefaultFor o (t ∷ []) kind d) (sym (ap (option_and_then (tagged [] (is_constructed kind))) c.are)) (contents_tell kind w d c fit)

some_inside : (t : Tag) (o : Option (List ℕ)) → IsTrue (is_short (option_and_then (element t true) o)) → (z : List ℕ) × (o ≡ Some z)
some_inside t None h = absurd cc
some_inside t (Some z) h = (z, refl)

default_wrapped : (t u : Tag) (ts : List Tag) (kind : AbstractKind) → IsWellKind kind → are_low (t ∷ u ∷ ts) ≡ true → (d : AbstractValue) (c : HasContents kind d) → IsTrue (fits_kind kind d)
    → IsTrue (is_short (der (type_of (t ∷ u ∷ ts) kind no_constraints) d)) → DefaultFor (inside_octets (t ∷ u ∷ ts) kind d) (t ∷ u ∷ ts) kind d
default_wrapped t u ts kind w low d c fit short =
    let inner : AbstractType = type_of (u ∷ ts) kind no_constraints in
    let low_inside : are_low (u ∷ ts) ≡ true = (and_parts (nat_le t.number 268435455) (are_low (u ∷ ts)) low).1 in
    let proper : is_proper inner ≡ true = ap (λ (b : Bool). b && true && is_proper_kind kind) low_inside ∙ w.0 in
    let z = some_inside t (tagged (u ∷ ts) (is_constructed kind) c.octets) (ap is_short (sym (ap (λ (o : Option (List ℕ)). o >>= tagged (t ∷ u ∷ ts) (is_constructed kind)) c.are)) ∙ short) in
    let encoded : der inner d ≡ Some z.0 = ap (λ (o : Option (List ℕ)). o >>= tagged (u ∷ ts) (is_constructed kind)) c.are ∙ z.1 in
    let stored : inside_octets (t ∷ u ∷ ts) kind d ≡ Some z.0 = ap (option_and_then (tagged (u ∷ ts) (is_constructed kind))) c.are ∙ z.1 in
    let tells : Tells (t ∷ u ∷ ts) kind d z.0 =
    λ at start os v digits short e.
    let back = inside_back u ts kind start os v low_inside w.0 w.1 digits e in
    told d v z.0 os (der inner) encoded back.1 (λ same_as. one_encoding inner proper w.1 d v z.0 fit back.0 encoded same_as) in
    subst (λ (o : Option (List ℕ)). DefaultFor o (t ∷ u ∷ ts) kind d) (sym stored) tells

default_for : (tags : List Tag) (kind : AbstractKind) → IsWellKind kind → are_low tags ≡ true → (d : AbstractValue) → IsTrue (fits_kind kind d) → IsTrue (is_short (der (type_of tags kind no_constraints) d)) → HasContents kind d
    → DefaultFor (inside_octets tags kind d) tags kind d
default_for [] kind w low d fit short c = default_bare kind w d c fit
default_for (t ∷ []) kind w low d fit short c = default_tagged t kind w d c fit
default_for (t ∷ u ∷ ts) kind w low d fit short c = default_wrapped t u ts kind w low d c fit short

low_tags : (tags : List Tag) (kind : AbstractKind) (cons : Constraints) → is_proper (type_of tags kind cons) ≡ true → are_low tags ≡ true
low_tags tags kind cons e =
    let a = and_parts (is_tagged tags kind && are_low tags && are_proper_constraints cons (type_of tags kind cons)) (is_proper_kind kind) e in
    let b = and_parts (is_tagged tags kind && are_low tags) (are_proper_constraints cons (type_of tags kind cons)) a.0 in
    (and_parts (is_tagged tags kind) (are_low tags) b.0).1

absent_as_default : (t : AbstractType) (p : Plan) (d : AbstractValue) (present m : Slots) → type_marked t p d (added m present) ≡ added m (type_marked t p d present)
absent_as_default t p d present m =
    adds_type t p d (added m present) ∙ added_again m present (type_marked t p d slots.none) ∙ ap (added m) (sym (adds_type t p d present))

side_stands : (tags : List Tag) (kind : AbstractKind) (cons : Constraints) (presence : AbstractPresence) → IsWell (type_of tags kind cons) → IsTrue (is_proper_presence (type_of tags kind cons) presence)
    → (body : Body) (absent present : Slots)
    → SideFor (side_for (type_of tags kind cons) presence (plan tags (is_constructed kind) body) absent present) (plan tags (is_constructed kind) body) tags kind presence
unfolding type_marked
side_stands tags kind cons type.mandatory w h body absent present = (refl, refl)
side_stands tags kind cons type.optional w h body absent present = (refl, refl)
side_stands tags kind cons type.pending w h body absent present = absurd cc
side_stands tags kind cons (type.default d) w h body absent present =
    let t : AbstractType = type_of tags kind cons in
    let a = and_parts (fits t d) (is_short (der t d)) h in
    (refl, default_for tags kind (well_kind tags kind cons w) (low_tags tags kind cons w.0) d a.0 a.1 (standing_contents kind t d refl h), absent_as_default t (plan tags (is_constructed kind) body) d present)

-- ---- simple kinds

bare_bits : (names : List NamedNumber) → SimpleFor (nameless (type.bit_string names)) (type.bit_string names)
bare_bits [] = refl
bare_bits (name ∷ names) = refl

same_items : (items : List NamedNumber) → SimpleFor (nameless (type.enumerated items)) (type.enumerated items)
same_items [] = refl
same_items (n ∷ items) = let rest = same_items items in cc

-- ---- all kinds

asked_for : (cs : List AbstractCondition) (b : Body) (kind : AbstractKind) → Spells kind → IsWhole b → BodyFor b kind → BodyFor (asked_of cs b) kind
asked_for [] b kind spells whole h = h
asked_for (c ∷ cs) b kind spells whole h = (spells, h, whole)

formulas_for : (rs : List Implication) (b : Body) (kind : AbstractKind) → BodyFor b kind → BodyFor (implied_of rs b) kind
formulas_for [] b kind h = h
formulas_for (r ∷ rs) b kind h = h

spells_for : (kind : AbstractKind) → IsWellKind kind → Spells kind
spells_for kind w at start os v digits short e = (contents_back kind at start os v w.0 w.1 digits short e).1

abbrev IsWellList : Components → ℕ → Type 0
IsWellList cs i = (are_proper cs ≡ true) × (clash_inside i cs ≡ None)

well_list : (in_sequence : Bool) (cs : Components) → (nat_le (component_count cs) 64 && are_proper cs) ≡ true → option_or (here (first_pair in_sequence 0 cs)) (clash_inside 0 cs) ≡ None → IsWellList cs 0
well_list in_sequence cs e clear = ((and_parts (nat_le (component_count cs) 64) (are_proper cs) e).1, (none_of_two (here (first_pair in_sequence 0 cs)) (clash_inside 0 cs) clear).1)

one_part : (name : List ℕ) (t : AbstractType) (presence : AbstractPresence) (cs : Components) → IsWell t → IsTrue (is_proper_presence t presence) → (demands : List SlotDemand) (absent present : Slots) (ps : Parts)
    → PlanFor (lay t demands) t → PartsFor ps cs → PartsFor (part (side_for t presence (lay t demands) absent present) (lay t demands) ps) (component name t presence cs)
one_part name (type_of tags kind cons) presence cs w h demands absent present ps stands rest =
    (stands, side_stands tags kind cons presence w h (implied_of (forms_of demands).implications (lay_kind kind (terms_at demands))) absent present, rest)

mutual
  type_stands : (t : AbstractType) → IsWell t → (demands : List SlotDemand) → PlanFor (lay t demands) t
  type_stands (type_of tags kind cons) w demands =
      (refl, refl, formulas_for (forms_of demands).implications (lay_kind kind (terms_at demands)) kind (kind_stands kind (well_kind tags kind cons w) (terms_at demands)))

  kind_stands : (kind : AbstractKind) → IsWellKind kind → (ts : List Term) → BodyFor (lay_kind kind ts) kind
  kind_stands type.boolean w ts = tt
  kind_stands (type.integer names) w ts = tt
  kind_stands (type.bit_string names) w ts = bare_bits names
  kind_stands type.octet_string w ts = tt
  kind_stands type.null w ts = tt
  kind_stands type.object_identifier w ts = tt
  kind_stands (type.enumerated items) w ts = same_items items
  kind_stands (type.characters k) w ts = refl
  kind_stands (type.sequence cs) w ts =
      asked_for (conditions_of (type.sequence cs) ts) (series (lay_parts 0 cs ts)) (type.sequence cs) (spells_for (type.sequence cs) w) tt (parts_stand 0 cs (well_list true cs w.0 w.1) ts)
  kind_stands (type.set cs) w ts =
      asked_for (conditions_of (type.set cs) ts) (set (lay_parts 0 cs ts)) (type.set cs) (spells_for (type.set cs) w) tt (parts_stand 0 cs (well_list false cs w.0 w.1) ts)
  kind_stands (type.choice cs) w ts =
      asked_for (conditions_of (type.choice cs) ts) (choice (lay_alternatives 0 cs ts)) (type.choice cs) (spells_for (type.choice cs) w) tt (alternatives_stand 0 cs (well_list false cs w.0 w.1) ts)
  kind_stands (type.sequence_of t) w ts =
      asked_for (conditions_of (type.sequence_of t) ts) (list (lay t (each_of ts))) (type.sequence_of t) (spells_for (type.sequence_of t) w) tt
      (type_stands t (w.0, inside_none (Element 0) (first_clash t) w.1) (each_of ts))
  kind_stands (type.set_of t) w ts =
      asked_for (conditions_of (type.set_of t) ts) (set_of (lay t (each_of ts))) (type.set_of t) (spells_for (type.set_of t) w) tt
      (type_stands t (w.0, inside_none (Element 0) (first_clash t) w.1) (each_of ts))

  parts_stand : (i : ℕ) (cs : Components) → IsWellList cs i → (ts : List Term) → PartsFor (lay_parts i cs ts) cs
  parts_stand i no_components w ts = tt
  parts_stand i (component name t presence cs) w ts =
      let p = and_parts (is_proper t && is_proper_presence t presence) (are_proper cs) w.0 in
      let q = and_parts (is_proper t) (is_proper_presence t presence) p.0 in
      let n = none_of_two (inside (Component i) (first_clash t)) (clash_inside (suc i) cs) w.1 in
      let well : IsWell t = (q.0, inside_none (Component i) (first_clash t) n.0) in
      one_part name t presence cs well q.1 (within_of i ts) (absent_of i ts) (present_of i ts) (lay_parts (suc i) cs ts) (type_stands t well (within_of i ts)) (parts_stand (suc i) cs (p.1, n.1) ts)

  alternatives_stand : (i : ℕ) (cs : Components) → IsWellList cs i → (ts : List Term) → AlternativesFor (lay_alternatives i cs ts) cs
  alternatives_stand i no_components w ts = tt
  alternatives_stand i (component name t presence cs) w ts =
      let p = and_parts (is_proper t && is_proper_presence t presence) (are_proper cs) w.0 in
      let q = and_parts (is_proper t) (is_proper_presence t presence) p.0 in
      let n = none_of_two (inside (Component i) (first_clash t)) (clash_inside (suc i) cs) w.1 in
      (type_stands t (q.0, inside_none (Component i) (first_clash t) n.0) (within_of i ts), alternatives_stand (suc i) cs (p.1, n.1) ts)

pub stands_law : (t : AbstractType) → IsTrue (is_sound t) → (demands : List SlotDemand) → PlanFor (lay t demands) t
stands_law t sound demands = type_stands t (well_sound t sound) demands
