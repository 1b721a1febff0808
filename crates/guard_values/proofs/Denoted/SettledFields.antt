-- Fields are settled as the definition has them.
use Rattle.std.proofs.Common.{◌≡◌, ℕ, zero, suc, ◌+◌, Bool, true, false, cond, List, Option, Some, None, Ok, inl, inr, option_map, refl, sym, ap, subst, arith}
use Rattle.std.specs.Prelude.{nat_eq, bytes_eq}
use Rattle.std.proofs.lemmas.Bool.{eq-eqb}
use Rattle.std.proofs.lemmas.Bool.Decides.{eqb_tells}
use Rattle.guard_model.specs.Answer.{◌>>=◌}
use Rattle.guard_model.specs.declared.site.Site.{Site}
use Rattle.guard_model.specs.AbstractType as type
use Rattle.guard_model.specs.AbstractType.{AbstractType, AbstractPresence, Components, no_components, component}
use Rattle.guard_model.specs.AbstractValue as value
use Rattle.guard_model.specs.AbstractValue.{AbstractValue, Fields}
use Rattle.guard_tagcheck.specs.Distinct.{component_type}
use Rattle.guard_model.specs.Slots.{all_absent}
use Rattle.guard_der.specs.Reading.{is_filled, fill, field_before}
use Rattle.guard_values.specs.Places.{Located, located, further, is_among, LeftOut, FieldDenotes, FieldsDenote}
use Rattle.guard_values.specs.inside.Reading.{Read, settled, completed}

-- ---- fields by their places

abbrev pub field_at : ℕ → Fields → Option AbstractValue
field_at i value.no_fields = None
field_at zero (value.present v fs) = Some v
field_at zero (value.absent fs) = None
field_at (suc i) (value.present v fs) = field_at i fs
field_at (suc i) (value.absent fs) = field_at i fs

-- one field for each component
abbrev pub HasFields : Components → Fields → Type 0
HasFields no_components value.no_fields = Unit {0}
HasFields (component name t presence rest) (value.present v fs) = HasFields rest fs
HasFields (component name t presence rest) (value.absent fs) = HasFields rest fs
HasFields _ _ = ⊥

pub has_absent : (cs : Components) → HasFields cs (all_absent cs)
has_absent no_components = tt
has_absent (component name t presence rest) = has_absent rest

pub has_filled : (cs : Components) (i : ℕ) (v : AbstractValue) (fs : Fields) → HasFields cs fs → HasFields cs (fill i v fs)
has_filled no_components i v value.no_fields h = tt
has_filled no_components i v (value.present w fs) h = absurd h
has_filled no_components i v (value.absent fs) h = absurd h
has_filled (component name t presence rest) i v value.no_fields h = absurd h
has_filled (component name t presence rest) zero v (value.present w fs) h = h
has_filled (component name t presence rest) zero v (value.absent fs) h = h
has_filled (component name t presence rest) (suc i) v (value.present w fs) h = has_filled rest i v fs h
has_filled (component name t presence rest) (suc i) v (value.absent fs) h = has_filled rest i v fs h

pub nothing_at : (cs : Components) (i : ℕ) → field_at i (all_absent cs) ≡ None
nothing_at no_components i = refl
nothing_at (component name t presence rest) zero = refl
nothing_at (component name t presence rest) (suc i) = nothing_at rest i

pub none_filled : (cs : Components) (i : ℕ) → is_filled i (all_absent cs) ≡ false
none_filled no_components zero = refl
none_filled no_components (suc i) = refl
none_filled (component name t presence rest) zero = refl
none_filled (component name t presence rest) (suc i) = none_filled rest i

pub filled_there : (cs : Components) (i : ℕ) (u : AbstractType) (v : AbstractValue) (fs : Fields) → HasFields cs fs → component_type i cs ≡ Some u → field_at i (fill i v fs) ≡ Some v
filled_there no_components i u v fs h e = absurd cc
filled_there (component name t presence rest) i u v value.no_fields h e = absurd h
filled_there (component name t presence rest) zero u v (value.present w fs) h e = refl
filled_there (component name t presence rest) zero u v (value.absent fs) h e = refl
filled_there (component name t presence rest) (suc i) u v (value.present w fs) h e = filled_there rest i u v fs h e
filled_there (component name t presence rest) (suc i) u v (value.absent fs) h e = filled_there rest i u v fs h e

before_differ : (j i : ℕ) → nat_eq (suc j) (suc i) ≡ false → nat_eq j i ≡ false
before_differ j i e = elim (eqb_tells j i) [
  | inl h ↦ let same : nat_eq (suc j) (suc i) ≡ true = eq-eqb (suc j) (suc i) (ap suc h.1) in absurd cc
  | inr h ↦ h.0
]

pub kept_elsewhere : (i j : ℕ) (v : AbstractValue) (fs : Fields) → nat_eq j i ≡ false → field_at j (fill i v fs) ≡ field_at j fs
kept_elsewhere i j v value.no_fields e = refl
kept_elsewhere zero zero v (value.present w fs) e = absurd cc
kept_elsewhere zero zero v (value.absent fs) e = absurd cc
kept_elsewhere zero (suc j) v (value.present w fs) e = refl
kept_elsewhere zero (suc j) v (value.absent fs) e = refl
kept_elsewhere (suc i) zero v (value.present w fs) e = refl
kept_elsewhere (suc i) zero v (value.absent fs) e = refl
kept_elsewhere (suc i) (suc j) v (value.present w fs) e = kept_elsewhere i j v fs (before_differ j i e)
kept_elsewhere (suc i) (suc j) v (value.absent fs) e = kept_elsewhere i j v fs (before_differ j i e)

pub unfilled_elsewhere : (i j : ℕ) (v : AbstractValue) (fs : Fields) → nat_eq j i ≡ false → is_filled j (fill i v fs) ≡ is_filled j fs
unfilled_elsewhere i j v value.no_fields e = refl
unfilled_elsewhere zero zero v (value.present w fs) e = absurd cc
unfilled_elsewhere zero zero v (value.absent fs) e = absurd cc
unfilled_elsewhere zero (suc j) v (value.present w fs) e = refl
unfilled_elsewhere zero (suc j) v (value.absent fs) e = refl
unfilled_elsewhere (suc i) zero v (value.present w fs) e = refl
unfilled_elsewhere (suc i) zero v (value.absent fs) e = refl
unfilled_elsewhere (suc i) (suc j) v (value.present w fs) e = unfilled_elsewhere i j v fs (before_differ j i e)
unfilled_elsewhere (suc i) (suc j) v (value.absent fs) e = unfilled_elsewhere i j v fs (before_differ j i e)

-- ---- a component by its name

type_further : (found : Option Located) (l : Located) (name : List ℕ) (t : AbstractType) (presence : AbstractPresence) (rest : Components) → option_map further found ≡ Some l
    → ((k : Located) → found ≡ Some k → component_type k.place rest ≡ Some k.ty) → component_type l.place (component name t presence rest) ≡ Some l.ty
type_further None l name t presence rest e inside = absurd cc
type_further (Some k) l name t presence rest e inside =
    let P : Located → Type 0 = λ x. component_type x.place (component name t presence rest) ≡ Some x.ty in
    let same : further k ≡ l = cc in
    subst P same (inside k refl)

located_first : (b : Bool) (l : Located) (name other : List ℕ) (t : AbstractType) (presence : AbstractPresence) (rest : Components)
    → cond b (Some (record { place = 0; ty = t })) (option_map further (located name rest)) ≡ Some l
    → ((k : Located) → located name rest ≡ Some k → component_type k.place rest ≡ Some k.ty) → component_type l.place (component other t presence rest) ≡ Some l.ty
located_first true l name other t presence rest e inside =
    let P : Located → Type 0 = λ x. component_type x.place (component other t presence rest) ≡ Some x.ty in
    let first : Located = record { place = 0; ty = t } in
    let same : first ≡ l = cc in
    subst P same refl
located_first false l name other t presence rest e inside = type_further (located name rest) l other t presence rest e inside

pub located_type : (cs : Components) (name : List ℕ) (l : Located) → located name cs ≡ Some l → component_type l.place cs ≡ Some l.ty
located_type no_components name l e = absurd cc
located_type (component other t presence rest) name l e = located_first (bytes_eq name other) l name other t presence rest e (λ k f. located_type rest name k f)

-- ---- what components are after the last entry

left_out_settles : (site : Site) (presence : AbstractPresence) (field : Option AbstractValue) → LeftOut presence field → settled site presence None ≡ Ok field
left_out_settles site type.mandatory field h = absurd h
left_out_settles site type.pending field h = absurd h
left_out_settles site type.optional field h = ap Ok (sym h)
left_out_settles site (type.default d) field h = ap Ok (sym h)

slot_settles : (site : Site) (b : Bool) (Denoted : AbstractValue → Type 0) (presence : AbstractPresence) (field slot : Option AbstractValue)
    → FieldDenotes b Denoted presence field → slot ≡ cond b field None → settled site presence slot ≡ Ok field
slot_settles site true Denoted presence field slot h e = rw (e, h.1) refl
slot_settles site false Denoted presence field slot h e = rw e (left_out_settles site presence field h)

two_steps : (first : Read (Option AbstractValue)) (others : Read Fields) (field : Option AbstractValue) (fs : Fields) → first ≡ Ok field → others ≡ Ok fs → (first >>= λ f. others >>= λ gs. Ok (field_before f gs)) ≡ Ok (field_before field fs)
two_steps first others field fs e f = rw (e, f) refl

completed_first : (site : Site) (name : List ℕ) (t : AbstractType) (presence : AbstractPresence) (rest : Components) (slot field : Option AbstractValue) (cur fs : Fields)
    → settled site presence slot ≡ Ok field → completed site rest cur ≡ Ok fs → completed site (component name t presence rest) (field_before slot cur) ≡ Ok (field_before field fs)
unfolding completed
completed_first site name t presence rest None field cur fs e f = two_steps (settled site presence None) (completed site rest cur) field fs e f
completed_first site name t presence rest (Some v) field cur fs e f = two_steps (settled site presence (Some v)) (completed site rest cur) field fs e f

-- the places that entries name hold what the definition has, the others nothing
abbrev pub Holds : List (Option ℕ) → ℕ → Fields → Fields → Type 0
Holds given i fs cur = (j k : ℕ) → k ≡ i + j → field_at j cur ≡ cond (is_among k given) (field_at j fs) None

pub completed_again : (site : Site) (given : List (Option ℕ)) (Denoted : ℕ → AbstractType → AbstractValue → Type 0) (i : ℕ) (cs : Components) (fs cur : Fields)
    → FieldsDenote given Denoted i cs fs → HasFields cs cur → Holds given i fs cur → completed site cs cur ≡ Ok fs
unfolding completed
completed_again site given Denoted i no_components value.no_fields value.no_fields h shape holds = refl
completed_again site given Denoted i no_components value.no_fields (value.present w cur) h shape holds = absurd shape
completed_again site given Denoted i no_components value.no_fields (value.absent cur) h shape holds = absurd shape
completed_again site given Denoted i no_components (value.present v fs) cur h shape holds = absurd h
completed_again site given Denoted i no_components (value.absent fs) cur h shape holds = absurd h
completed_again site given Denoted i (component name t presence rest) value.no_fields cur h shape holds = absurd h
completed_again site given Denoted i (component name t presence rest) (value.present v fs) value.no_fields h shape holds = absurd shape
completed_again site given Denoted i (component name t presence rest) (value.absent fs) value.no_fields h shape holds = absurd shape
completed_again site given Denoted i (component name t presence rest) (value.present v fs) (value.present w cur) h shape holds =
    completed_first site name t presence rest (Some w) (Some v) cur fs (slot_settles site (is_among i given) (Denoted i t) presence (Some v) (Some w) h.0 (holds 0 i (omega arith)))
    (completed_again site given Denoted (suc i) rest fs cur h.1 shape (λ j k e. holds (suc j) k (omega (arith, e))))
completed_again site given Denoted i (component name t presence rest) (value.present v fs) (value.absent cur) h shape holds =
    completed_first site name t presence rest None (Some v) cur fs (slot_settles site (is_among i given) (Denoted i t) presence (Some v) None h.0 (holds 0 i (omega arith)))
    (completed_again site given Denoted (suc i) rest fs cur h.1 shape (λ j k e. holds (suc j) k (omega (arith, e))))
completed_again site given Denoted i (component name t presence rest) (value.absent fs) (value.present w cur) h shape holds =
    completed_first site name t presence rest (Some w) None cur fs (slot_settles site (is_among i given) (Denoted i t) presence None (Some w) h.0 (holds 0 i (omega arith)))
    (completed_again site given Denoted (suc i) rest fs cur h.1 shape (λ j k e. holds (suc j) k (omega (arith, e))))
completed_again site given Denoted i (component name t presence rest) (value.absent fs) (value.absent cur) h shape holds =
    completed_first site name t presence rest None None cur fs (slot_settles site (is_among i given) (Denoted i t) presence None None h.0 (holds 0 i (omega arith)))
    (completed_again site given Denoted (suc i) rest fs cur h.1 shape (λ j k e. holds (suc j) k (omega (arith, e))))

-- ---- what the definition wants at the places that entries name

abbrev pub Wanted : List (Option ℕ) → (ℕ → AbstractType → AbstractValue → Type 0) → ℕ → Components → Fields → Type 0
Wanted given Denoted i cs fs = (j k : ℕ) (u : AbstractType) → k ≡ i + j → component_type j cs ≡ Some u → is_among k given ≡ true → (v : AbstractValue) × (field_at j fs ≡ Some v) × Denoted k u v

one_wanted : (b : Bool) (Denoted : AbstractValue → Type 0) (presence : AbstractPresence) (field : Option AbstractValue) → FieldDenotes b Denoted presence field → b ≡ true → (v : AbstractValue) × (field ≡ Some v) × Denoted v
one_wanted true Denoted presence field h e = h
one_wanted false Denoted presence field h e = absurd cc

first_wanted : (given : List (Option ℕ)) (Denoted : ℕ → AbstractType → AbstractValue → Type 0) (i k : ℕ) (t u : AbstractType) (presence : AbstractPresence) (field : Option AbstractValue)
    → FieldDenotes (is_among i given) (Denoted i t) presence field → k ≡ i + 0 → ◌≡◌ {A = Option AbstractType} (Some t) (Some u) → is_among k given ≡ true
    → (v : AbstractValue) × (field ≡ Some v) × Denoted k u v
first_wanted given Denoted i k t u presence field h e same among =
    let place : i ≡ k = omega (arith, e) in
    let ty : t ≡ u = cc in
    let H : ℕ → Type 0 = λ n. FieldDenotes (is_among n given) (Denoted n t) presence field in
    let found = one_wanted (is_among k given) (Denoted k t) presence field (subst H place h) among in
    let P : AbstractType → Type 0 = λ x. Denoted k x found.0 in
    (found.0, found.1, subst P ty found.2)

wanted_at : (given : List (Option ℕ)) (Denoted : ℕ → AbstractType → AbstractValue → Type 0) (i : ℕ) (cs : Components) (fs : Fields) → FieldsDenote given Denoted i cs fs
    → (j k : ℕ) (u : AbstractType) → k ≡ i + j → component_type j cs ≡ Some u → is_among k given ≡ true → (v : AbstractValue) × (field_at j fs ≡ Some v) × Denoted k u v
wanted_at given Denoted i no_components fs h j k u e f among = absurd cc
wanted_at given Denoted i (component name t presence rest) value.no_fields h j k u e f among = absurd h
wanted_at given Denoted i (component name t presence rest) (value.present v fs) h zero k u e f among = first_wanted given Denoted i k t u presence (Some v) h.0 e f among
wanted_at given Denoted i (component name t presence rest) (value.absent fs) h zero k u e f among = first_wanted given Denoted i k t u presence None h.0 e f among
wanted_at given Denoted i (component name t presence rest) (value.present v fs) h (suc j) k u e f among = wanted_at given Denoted (suc i) rest fs h.1 j k u (omega (arith, e)) f among
wanted_at given Denoted i (component name t presence rest) (value.absent fs) h (suc j) k u e f among = wanted_at given Denoted (suc i) rest fs h.1 j k u (omega (arith, e)) f among

pub fields_wanted : (given : List (Option ℕ)) (Denoted : ℕ → AbstractType → AbstractValue → Type 0) (i : ℕ) (cs : Components) (fs : Fields) → FieldsDenote given Denoted i cs fs → Wanted given Denoted i cs fs
fields_wanted given Denoted i cs fs h = λ j k u e f among. wanted_at given Denoted i cs fs h j k u e f among
