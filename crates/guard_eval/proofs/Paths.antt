-- Of types within the limits paths are shorter than the types are nested, and steps as near as the limits say: nothing is cut off.
use Rattle.std.proofs.Common.{◌≡◌, refl, sym, ap, subst, ◌∙◌, ℕ, zero, suc, ◌+◌, ◌≤◌, ◌<◌, max, length, List, [], ◌∷◌, map, take, Bool, true, false, ◌&&◌, not, IsTrue, IfSome, Option, Some, None, cond, arith}
use Rattle.std.specs.Prelude.{nat_le}
use Rattle.std.specs.Option.{option_or}
use Rattle.std.proofs.Math.Nat.{min-eq_left}
use Rattle.std.proofs.lemmas.Bool.{and_parts, leb-true}
use Rattle.std.proofs.lemmas.Option.{same_Some}
use Rattle.guard_model.specs.declared.site.Site.{Site}
use Rattle.guard_model.specs.declared.site.Step.{Step}
use Rattle.guard_model.specs.declared.site.Step.TheVariants.{Component, Element}
use Rattle.guard_model.specs.declared.tag.Tag.{Tag}
use Rattle.guard_model.specs.declared.ty.Word.{Word}
use Rattle.guard_model.specs.AbstractType as type
use Rattle.guard_model.specs.AbstractType.{AbstractType, AbstractKind, Components, Constraint, Constraints, Parts, type_of, no_components, component, at, no_constraints, constraint}
use Rattle.guard_model.specs.AbstractValue as value
use Rattle.guard_model.specs.AbstractValue.{AbstractValue, Fields, Items}
use Rattle.guard_model.specs.Components.{components_in, component_at}
use Rattle.guard_model.specs.Counts.{component_count, item_count}
use Rattle.guard_model.specs.TypeView.{OneComponent}
use Rattle.guard_tagcheck.specs.Limits.{nesting, nesting_inside, deepest, is_tagged, is_formed, has_few_components, every_part, every_component, keeps_limits, is_within_limits}
use Rattle.guard_der.specs.Fits.{fits, fits_kind, fits_fields, fits_alternative, every_fits, are_few, fits_items, may_be_absent}
use Rattle.guard_model.specs.Kinds.{kind_of}
use Rattle.guard_eval.specs.Presence.{element_kind, kind_at, kind_found, has_parts, part_at, is_there, is_placed, is_ruled_out, first_ruled_out, first_intruder}
use Rattle.guard_eval.specs.Member.{holds}
use Rattle.guard_eval.specs.Violations.{AbstractViolation, below, here, unless, first_among, blame_in_items, misplaced, blame_in_part, blame_intruder, violation, violation_inside, violation_from, violation_of_chosen, first_failing, blame, first_failing_part}
use Rattle.guard_eval.specs.inside.Failures.{near}
use Rattle.guard_eval.proofs.PartFits.{fits_at}
use Rattle.guard_eval.proofs.Walk.{seen}

-- shorter than this, with near steps
abbrev IsShort : ℕ → Option AbstractViolation → Type 0
IsShort n w = IfSome w (λ x. (length x.path < n) × (map near x.path ≡ x.path))

either_short : (n : ℕ) (v w : Option AbstractViolation) → IsShort n v → IsShort n w → IsShort n (option_or v w)
either_short n None w d e = e
either_short n (Some v) w d e = d

below_short : (step : Step) (m n : ℕ) (w : Option AbstractViolation) → near step ≡ step → m < n → IsShort m w → IsShort n (below step w)
below_short step m n None s h e = tt
below_short step m n (Some w) s h e = (omega (arith, e.0), rw (s, e.1) refl)

here_short : (site : Site) (n : ℕ) → 0 < n → IsShort n (here site)
here_short site n h = (h, refl)

unless_short : (b : Bool) (site : Site) (n : ℕ) → 0 < n → IsShort n (unless b site)
unless_short true site n h = tt
unless_short false site n h = here_short site n h

near_component : (i : ℕ) → i ≤ 255 → near (Component i) ≡ Component i
near_component i h = ap Component (min-eq_left h)

near_element : (i : ℕ) → i ≤ 4294967295 → near (Element i) ≡ Element i
near_element i h = ap Element (min-eq_left h)

-- ---- parts of types within the limits

-- of a component: it keeps the limits, isn't nested deeper and is one of so many
component_is : (cs : Components) (i : ℕ) (c : OneComponent) → component_at i cs ≡ Some c → IsTrue (every_component is_formed cs)
    → IsTrue (keeps_limits c.ty) × (nesting c.ty ≤ deepest cs) × (i < component_count cs)
component_is no_components i c e h = absurd cc
component_is (component name t presence cs) zero c e h =
    subst (λ (c : OneComponent). IsTrue (keeps_limits c.ty) × (nesting c.ty ≤ max (nesting t) (deepest cs)) × (0 < suc (component_count cs))) (same_Some _ _ e)
    ((and_parts (keeps_limits t) (every_component is_formed cs) h).0, omega arith, omega arith)
component_is (component name t presence cs) (suc i) c e h =
    let k = component_is cs i c e (and_parts (keeps_limits t) (every_component is_formed cs) h).1 in
    (k.0, omega (arith, k.1), omega (arith, k.2))

-- how long a path from a value of this kind may be
abbrev room : AbstractKind → ℕ
room (type.sequence cs) = deepest cs
room (type.set cs) = deepest cs
room (type.choice cs) = deepest cs
room (type.sequence_of t) = nesting t
room (type.set_of t) = nesting t
room _ = 0

room_inside : (kind : AbstractKind) → room kind ≤ nesting_inside kind
room_inside (type.choice cs) = omega arith
room_inside (type.sequence cs) = omega arith
room_inside (type.set cs) = omega arith
room_inside (type.sequence_of t) = omega arith
room_inside (type.set_of t) = omega arith
room_inside _ = omega arith

-- a type has a tag, or is a CHOICE
one_level : (tags : List Tag) (kind : AbstractKind) → IsTrue (is_tagged tags kind) → room kind < length tags + nesting_inside kind
one_level (t ∷ ts) kind h = omega (arith, room_inside kind)
one_level [] (type.choice cs) h = omega arith
one_level [] _ h = absurd cc

-- few components or alternatives, and every part keeps the limits
abbrev IsLawful : AbstractKind → Type 0
IsLawful kind = (component_count (components_in kind) ≤ 64) × IsTrue (every_part is_formed kind)

type_is : (tags : List Tag) (kind : AbstractKind) (cons : Constraints) → IsTrue (keeps_limits (type_of tags kind cons)) → (room kind < nesting (type_of tags kind cons)) × IsLawful kind
type_is tags kind cons h =
    let a = and_parts (is_formed tags kind) (every_part is_formed kind) h in
    let b = and_parts (is_tagged tags kind) (has_few_components tags kind) a.0 in
    (one_level tags kind b.0, (leb-true (component_count (components_in kind)) 64 b.1, a.1))

lawful_kind : (t : AbstractType) → IsTrue (keeps_limits t) → (room (kind_of t) < nesting t) × IsLawful (kind_of t)
lawful_kind (type_of tags kind cons) h = type_is tags kind cons h

found_in : (kind : AbstractKind) (i : ℕ) (c : OneComponent) → component_at i (components_in kind) ≡ Some c → IsTrue (every_part is_formed kind)
    → IsTrue (keeps_limits c.ty) × (nesting c.ty ≤ room kind) × (i < component_count (components_in kind))
found_in (type.sequence cs) i c e h = component_is cs i c e h
found_in (type.set cs) i c e h = component_is cs i c e h
found_in (type.choice cs) i c e h = component_is cs i c e h
found_in _ i c e h = absurd cc

-- ---- elements and parts

among_short : (find : AbstractValue → Option AbstractViolation) (fit : AbstractValue → Bool) (m n : ℕ) → m < n → ((v : AbstractValue) → IsTrue (fit v) → IsShort m (find v))
    → (i : ℕ) (vs : Items) → i + item_count vs ≤ 4294967295 → IsTrue (every_fits fit vs) → IsShort n (first_among find i vs)
among_short find fit m n h short i value.no_items few k = tt
among_short find fit m n h short i (value.item v vs) few k =
    let p = and_parts (fit v) (every_fits fit vs) k in
    either_short n (below (Element i) (find v)) (first_among find (suc i) vs)
    (below_short (Element i) m n (find v) (near_element i (omega arith)) h (short v p.0)) (among_short find fit m n h short (suc i) vs (omega arith) p.1)

items_short : (find : AbstractValue → Option AbstractViolation) (fit : AbstractValue → Bool) (m n : ℕ) → m < n → ((v : AbstractValue) → IsTrue (fit v) → IsShort m (find v))
    → (vs : Items) → IsTrue (fits_items fit vs) → IsShort n (first_among find 0 vs)
items_short find fit m n h short vs k =
    let p = and_parts (are_few vs) (every_fits fit vs) k in
    among_short find fit m n h short 0 vs (omega (arith, leb-true (item_count vs) 4294967295 p.0)) p.1

each_short : (find : AbstractValue → Option AbstractViolation) (kind : AbstractKind) (n : ℕ) → room kind < n → IsLawful kind
    → ((m : ℕ) → room (element_kind kind) < m → IsLawful (element_kind kind) → (v : AbstractValue) → IsTrue (fits_kind (element_kind kind) v) → IsShort m (find v))
    → (site : Site) (v : AbstractValue) → IsTrue (fits_kind kind v) → IsShort n (blame_in_items find site v)
each_short find (type.sequence_of (type_of tags k cons)) n r l short site (value.items vs) h =
    let t = type_is tags k cons l.1 in
    items_short find (fits (type_of tags k cons)) (nesting (type_of tags k cons)) n r (short (nesting (type_of tags k cons)) t.0 t.1) vs h
each_short find (type.set_of (type_of tags k cons)) n r l short site (value.items vs) h =
    let t = type_is tags k cons l.1 in
    items_short find (fits (type_of tags k cons)) (nesting (type_of tags k cons)) n r (short (nesting (type_of tags k cons)) t.0 t.1) vs (and_parts (fits_items (fits (type_of tags k cons)) vs) _ h).0
each_short find _ n r l short site (value.items vs) h = absurd cc
each_short find kind n r l short site _ h = here_short site n (omega (arith, r))

-- the component at the place of a part, if there is one, and what is blamed in it
placed_short : (partial : Bool) (site : Site) (i : ℕ) (kind : AbstractKind) (found : Option OneComponent) (word : Option Word) (there : Bool) (n : ℕ) (w : Option AbstractViolation)
    → component_at i (components_in kind) ≡ found → room kind < n → IsLawful kind → ((c : OneComponent) → found ≡ Some c → IsShort n w)
    → IsShort n (option_or (misplaced partial site i found word there) w)
placed_short partial site i kind None word there n w e r l short = here_short site n (omega (arith, r))
placed_short partial site i kind (Some c) word there n w e r l short =
    let k = found_in kind i c e l.1 in
    let one = (lawful_kind c.ty k.0).0 in
    either_short n (misplaced partial site i (Some c) word there) w
    (below_short (Component i) 1 n (unless (is_placed partial (Some c) word there) site) (near_component i (omega (arith, k.2, l.0))) (omega (arith, k.1, one, r)) (unless_short (is_placed partial (Some c) word there) site 1 (omega arith)))
    (short c refl)

part_short : (find : AbstractValue → Option AbstractViolation) (i m n : ℕ) (part : Option AbstractValue) → i ≤ 255 → m < n → ((v : AbstractValue) → part ≡ Some v → IsShort m (find v)) → IsShort n (blame_in_part find i part)
part_short find i m n None near less short = tt
part_short find i m n (Some v) near less short = below_short (Component i) m n (find v) (near_component i near) less (short v refl)

-- an intruder is one of the components
intruder_at : (kind : AbstractKind) (ps : Parts) (v : AbstractValue) (i : ℕ) (cs : Components) → IsTrue (every_component is_formed cs)
    → IfSome (first_ruled_out kind ps v i cs) (λ j. (j < i + component_count cs) × (0 < deepest cs))
intruder_at kind ps v i no_components h = tt
intruder_at kind ps v i (component name t presence cs) h =
    let k = and_parts (keeps_limits t) (every_component is_formed cs) h in
    let one = (lawful_kind t k.0).0 in
    elim (is_ruled_out kind ps i presence && is_there i v)
    as (λ b. IfSome (cond b (Some i) (first_ruled_out kind ps v (suc i) cs)) (λ j. (j < i + suc (component_count cs)) × (0 < max (nesting t) (deepest cs)))) [
      | true ↦ (omega arith, omega (arith, one))
      | false ↦ further (first_ruled_out kind ps v (suc i) cs) (λ j x. (omega (arith, x.0), omega (arith, x.1))) (intruder_at kind ps v (suc i) cs k.1)
    ]
  where
    further : {P Q : ℕ → Type 0} (j : Option ℕ) → ((j : ℕ) → P j → Q j) → IfSome j P → IfSome j Q
    further None f p = tt
    further (Some j) f p = f j p

components_kept : (kind : AbstractKind) → IsTrue (every_part is_formed kind) → IsTrue (every_component is_formed (components_in kind)) × (deepest (components_in kind) ≤ room kind)
components_kept (type.sequence cs) h = (h, omega arith)
components_kept (type.set cs) h = (h, omega arith)
components_kept (type.choice cs) h = (h, omega arith)
components_kept (type.sequence_of t) h = (refl, omega arith)
components_kept (type.set_of t) h = (refl, omega arith)
components_kept _ h = (refl, omega arith)

one_intruder : (site : Site) (n d count : ℕ) (i : Option ℕ) → count ≤ 64 → d < n → IfSome i (λ j. (j < 0 + count) × (0 < d)) → IsShort n (blame_intruder site i)
one_intruder site n d count None few less h = tt
one_intruder site n d count (Some i) few less h =
    below_short (Component i) 1 n (here site) (near_component i (omega (arith, h.0))) (omega (arith, h.1)) (here_short site 1 (omega arith))

intruder_short : (partial : Bool) (site : Site) (kind : AbstractKind) (ps : Parts) (v : AbstractValue) (n : ℕ) → room kind < n → IsLawful kind → IsShort n (blame_intruder site (first_intruder partial kind ps v))
intruder_short true site kind ps v n r l = tt
intruder_short false site kind ps v n r l =
    let k = components_kept kind l.1 in
    one_intruder site n (deepest (components_in kind)) (component_count (components_in kind)) (first_ruled_out kind ps v 0 (components_in kind)) l.0 (omega (arith, k.1, r)) (intruder_at kind ps v 0 (components_in kind) k.0)

alone : (w : Option AbstractViolation) (n : ℕ) → IsShort n (option_or w None) → IsShort n w
alone None n h = h
alone (Some w) n h = h

longer : (w : Option AbstractViolation) (m n : ℕ) → m ≤ n → IsShort m w → IsShort n w
longer None m n less h = tt
longer (Some w) m n less h = (omega (arith, h.0), h.1)

-- ---- constraints

mutual
  all_short : (cs : Constraints) (kind : AbstractKind) (v : AbstractValue) (n : ℕ) → room kind < n → IsLawful kind → IsTrue (fits_kind kind v) → IsShort n (first_failing cs kind v)
  all_short no_constraints kind v n r l h = tt
  all_short (constraint c cs) kind v n r l h = either_short n (blame c kind v) (first_failing cs kind v) (by_short c kind v n r l h) (all_short cs kind v n r l h)

  by_short : (c : Constraint) (kind : AbstractKind) (v : AbstractValue) (n : ℕ) → room kind < n → IsLawful kind → IsTrue (fits_kind kind v) → IsShort n (blame c kind v)
  by_short (at site (type.with_component c)) kind v n r l h =
      each_short (blame c (element_kind kind)) kind n r l (λ m r l w h. by_short c (element_kind kind) w m r l h) site v h
  by_short (at site (type.with_components partial ps)) kind v n r l h =
      either_short n (unless (has_parts v) site) _ (unless_short (has_parts v) site n (omega (arith, r)))
      (either_short n (first_failing_part ps partial kind v) _ (listed_short ps partial kind v n r l h) (intruder_short partial site kind ps v n r l))
  by_short (at site (type.intersection cs)) kind v n r l h = all_short cs kind v n r l h
  by_short (at site (type.except c d)) kind v n r l h =
      either_short n (blame c kind v) _ (by_short c kind v n r l h) (unless_short (not (holds d kind v)) site n (omega (arith, r)))
  by_short (at site (type.single_value w)) kind v n r l h = unless_short _ site n (omega (arith, r))
  by_short (at site (type.contained_subtype t)) kind v n r l h = unless_short _ site n (omega (arith, r))
  by_short (at site (type.range low high)) kind v n r l h = unless_short _ site n (omega (arith, r))
  by_short (at site (type.size c)) kind v n r l h = unless_short _ site n (omega (arith, r))
  by_short (at site (type.permitted_alphabet ranges)) kind v n r l h = unless_short _ site n (omega (arith, r))
  by_short (at site (type.union cs)) kind v n r l h = unless_short _ site n (omega (arith, r))
  by_short (at site (type.all_except c)) kind v n r l h = unless_short _ site n (omega (arith, r))

  listed_short : (ps : Parts) (partial : Bool) (kind : AbstractKind) (v : AbstractValue) (n : ℕ) → room kind < n → IsLawful kind → IsTrue (fits_kind kind v) → IsShort n (first_failing_part ps partial kind v)
  listed_short type.no_parts partial kind v n r l h = tt
  listed_short (type.part site i word ps) partial kind v n r l h =
      either_short n (misplaced partial site i (component_at i (components_in kind)) word (is_there i v)) (first_failing_part ps partial kind v)
      (alone (misplaced partial site i (component_at i (components_in kind)) word (is_there i v)) n
      (placed_short partial site i kind (component_at i (components_in kind)) word (is_there i v) n None refl r l (λ c e. tt)))
      (listed_short ps partial kind v n r l h)
  listed_short (type.part_within site i c word ps) partial kind v n r l h =
      either_short n _ (first_failing_part ps partial kind v)
      (placed_short partial site i kind (component_at i (components_in kind)) word (is_there i v) n (blame_in_part (blame c (kind_at i kind)) i (part_at i v)) refl r l
      (λ found e.
      let k = found_in kind i found e l.1 in
      let t = lawful_kind found.ty k.0 in
      let same : kind_of found.ty ≡ kind_at i kind = sym (ap (kind_found kind) e) in
      part_short (blame c (kind_at i kind)) i (nesting found.ty) n (part_at i v) (omega (arith, k.2, l.0)) (omega (arith, k.1, r))
      (λ p f. by_short c (kind_at i kind) p (nesting found.ty) (subst (λ x. room x < nesting found.ty) same t.0) (subst (λ x. IsLawful x) same t.1) (fits_at kind v i found p e f h))))
      (listed_short ps partial kind v n r l h)

-- ---- types

mutual
  type_short : (t : AbstractType) (v : AbstractValue) → IsTrue (keeps_limits t) → IsTrue (fits t v) → IsShort (nesting t) (violation t v)
  type_short (type_of tags kind cons) v k h =
      let t = type_is tags kind cons k in
      either_short _ (first_failing cons kind v) (violation_inside kind v) (all_short cons kind v _ t.0 t.1 h) (inside_short kind v _ t.0 t.1 h)

  inside_short : (kind : AbstractKind) (v : AbstractValue) (n : ℕ) → room kind < n → IsLawful kind → IsTrue (fits_kind kind v) → IsShort n (violation_inside kind v)
  inside_short (type.sequence cs) (value.fields fs) n r l h = from_short 0 cs fs n r (omega (arith, l.0)) l.1 h
  inside_short (type.set cs) (value.fields fs) n r l h = from_short 0 cs fs n r (omega (arith, l.0)) l.1 h
  inside_short (type.choice cs) (value.chosen i v) n r l h =
      let k = chosen_short cs i v l.1 h in
      below_short (Component i) (deepest cs) n (violation_of_chosen cs i v) (near_component i (omega (arith, k.0, l.0))) r k.1
  inside_short (type.sequence_of t) (value.items vs) n r l h = items_short (violation t) (fits t) (nesting t) n r (λ v k. type_short t v l.1 k) vs h
  inside_short (type.set_of t) (value.items vs) n r l h =
      items_short (violation t) (fits t) (nesting t) n r (λ v k. type_short t v l.1 k) vs (and_parts (fits_items (fits t) vs) _ h).0
  inside_short _ _ n r l h = tt

  from_short : (i : ℕ) (cs : Components) (fs : Fields) (n : ℕ) → deepest cs < n → i + component_count cs ≤ 64 → IsTrue (every_component is_formed cs) → IsTrue (fits_fields cs fs) → IsShort n (violation_from i cs fs)
  from_short i no_components fs n r few l h = tt
  from_short i (component name t presence cs) value.no_fields n r few l h = tt
  from_short i (component name t presence cs) (value.absent fs) n r few l h =
      from_short (suc i) cs fs n (omega arith) (omega arith) (and_parts (keeps_limits t) (every_component is_formed cs) l).1 (and_parts (may_be_absent presence) (fits_fields cs fs) h).1
  from_short i (component name t presence cs) (value.present v fs) n r few l h =
      let k = and_parts (keeps_limits t) (every_component is_formed cs) l in
      let f = and_parts (fits t v) (fits_fields cs fs) h in
      either_short n (below (Component i) (violation t v)) (violation_from (suc i) cs fs)
      (below_short (Component i) (nesting t) n (violation t v) (near_component i (omega arith)) (omega arith) (type_short t v k.0 f.0))
      (from_short (suc i) cs fs n (omega arith) (omega arith) k.1 f.1)

  chosen_short : (cs : Components) (i : ℕ) (v : AbstractValue) → IsTrue (every_component is_formed cs) → IsTrue (fits_alternative cs i v) → (i < component_count cs) × IsShort (deepest cs) (violation_of_chosen cs i v)
  chosen_short no_components i v l h = absurd cc
  chosen_short (component name t presence cs) zero v l h =
      (omega arith, longer (violation t v) (nesting t) (max (nesting t) (deepest cs)) (omega arith) (type_short t v (and_parts (keeps_limits t) (every_component is_formed cs) l).0 h))
  chosen_short (component name t presence cs) (suc i) v l h =
      let k = chosen_short cs i v (and_parts (keeps_limits t) (every_component is_formed cs) l).1 h in
      (omega (arith, k.0), longer (violation_of_chosen cs i v) (deepest cs) (max (nesting t) (deepest cs)) (omega arith) k.1)

-- ---- nothing is cut off

take_whole : (n : ℕ) (p : List Step) → length p ≤ n → take n p ≡ p
take_whole zero [] h = refl
take_whole (suc n) [] h = refl
take_whole zero (s ∷ p) h = absurd (omega arith)
take_whole (suc n) (s ∷ p) h = ap (λ q. s ∷ q) (take_whole n p (omega arith))

whole : (w : Option AbstractViolation) (n : ℕ) → n ≤ 32 → IsShort n w → seen w ≡ w
whole None n less h = refl
whole (Some w) n less h = ap (λ (p : List Step). Some (record { site = w.site; path = p })) (ap (take 32) h.1 ∙ take_whole 32 w.path (omega (arith, h.0)))

pub whole_path : (t : AbstractType) (v : AbstractValue) → IsTrue (is_within_limits t) → IsTrue (fits t v) → seen (violation t v) ≡ violation t v
whole_path t v l h =
    let k = and_parts (keeps_limits t) (nat_le (nesting t) 32) l in
    whole (violation t v) (nesting t) (leb-true (nesting t) 32 k.1) (type_short t v k.0 h)
