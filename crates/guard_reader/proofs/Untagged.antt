-- An element without a tag of its own: only a CHOICE has none, and is its alternative.
use Rattle.std.proofs.Common.{◌≡◌, ℕ, ◌+◌, true, false, List, [], ◌∷◌, take, drop, Result, Ok, refl, sym, ap, subst, ◌∙◌, arith, inl, inr, length-take}
use Rattle.std.specs.Prelude.{◌⊎◌, option_map}
use Rattle.guard_model.specs.AbstractType as type
use Rattle.guard_model.specs.AbstractType.{AbstractType, AbstractKind, Components}
use Rattle.guard_model.specs.AbstractValue.{AbstractValue}
use Rattle.guard_tagcheck.specs.FirstTags.{alternative_begins_with}
use Rattle.guard_der.specs.Breach.{AbstractBreach}
use Rattle.guard_der.specs.Head.{Head, head_of}
use Rattle.guard_der.specs.Reading.{untagged_at, contents_at}
use Rattle.guard_tables.specs.declared.slots.Slots.{Slots}
use Rattle.guard_tables.specs.Marking.{marked}
use Rattle.guard_tables.specs.Plan.{Body}
use Rattle.guard_reader.specs.Fronts.{Front, here, elsewhere, broken, front_of, all_inside}
use Rattle.guard_reader.specs.Judging.{Sight, contents_judged}
use Rattle.guard_reader.specs.Octets.{ok}
use Rattle.guard_reader.proofs.Places.{Digits, digits_take, Bad}
use Rattle.guard_reader.proofs.Sights.{Way, Stands, Seen, IsAway, IsBroken, SightLaw}
use Rattle.guard_reader.proofs.OrderedReadings.{front_drop}
use Rattle.guard_reader.proofs.Taken.{whole_read}
use Rattle.guard_reader.proofs.Choices.{Shape, nothing_begins}

abbrev pub bare_way : AbstractKind → Body → Way
bare_way kind b = record {
  pass = λ os m. contents_judged b os m;
  wanted = λ tag. alternative_begins_with kind tag;
  reader = λ at h os. untagged_at kind at h os;
  body = contents_at kind;
  mark = λ v m. marked kind b v m;
}

-- which element is there, the whole of it inside
abbrev pub BareSeen : AbstractKind → Body → ℕ → List ℕ → Front → Type 0
BareSeen kind b o os (here inside rest) =
    (h : Head) × (head_of (o ∷ os) ≡ Ok h) × (alternative_begins_with kind h.tag ≡ true) × (drop (h.size + h.contents) (o ∷ os) ≡ rest) × (inside ≡ take (h.size + h.contents) (o ∷ os))
BareSeen kind b o os elsewhere = IsAway (bare_way kind b) o os
BareSeen kind b o os broken = IsBroken (bare_way kind b) o os

pub record BareLaw (sight : Sight) (kind : AbstractKind) (b : Body) : Type 0 where
  pub ended : sight [] ≡ elsewhere
  pub seen : (o : ℕ) (os : List ℕ) → Digits (o ∷ os) → BareSeen kind b o os (sight (o ∷ os))

shape_seen : (cs : Components) (b : Body) (o : ℕ) (os : List ℕ) (f : Front) → Shape cs o os f → BareSeen (type.choice cs) b o os (all_inside (o ∷ os) f)
unfolding untagged_at
shape_seen cs b o os (here contents rest) (h, e, tag, is) = (h, e, tag, is, ap (front_of (o ∷ os)) (sym is) ∙ front_drop (h.size + h.contents) (o ∷ os))
shape_seen cs b o os elsewhere s = s
shape_seen cs b o os broken s = s

pub choice_bare : (parts : Sight) (cs : Components) (b : Body) → parts [] ≡ elsewhere → ((o : ℕ) (os : List ℕ) → Digits (o ∷ os) → Shape cs o os (parts (o ∷ os))) → BareLaw (λ os. all_inside os (parts os)) (type.choice cs) b
choice_bare parts cs b ended shape = record {
  ended = ap (all_inside []) ended;
  seen = λ o os digits. shape_seen cs b o os (parts (o ∷ os)) (shape o os digits);
}

-- a body in front of another one
pub in_front : (sight : Sight) (kind : AbstractKind) (b other : Body) → BareLaw sight kind b → BareLaw sight kind other
in_front sight kind b other law = record {
  ended = law.ended;
  seen = λ o os digits. turned o os (sight (o ∷ os)) (law.seen o os digits);
}
  where
    turned : (o : ℕ) (os : List ℕ) (f : Front) → BareSeen kind b o os f → BareSeen kind other o os f
    turned o os (here contents rest) s = s
    turned o os elsewhere s = s
    turned o os broken s = s

-- other kinds aren't there without a tag
pub never_bare : (kind : AbstractKind) (b : Body) → ((h : Head) → alternative_begins_with kind h.tag ≡ false) → BareLaw (λ os. elsewhere) kind b
never_bare kind b never = record { ended = refl; seen = λ o os digits. away o os (nothing_begins o os) }
  where
    away : (o : ℕ) (os : List ℕ) → Bad o os ⊎ ((h : Head) × (head_of (o ∷ os) ≡ Ok h) × (false ≡ false)) → IsAway (bare_way kind b) o os
    away o os (inl bad) = inl bad
    away o os (inr (h, e, same)) = inr (h, e, never h)

abbrev pub BareRead : AbstractKind → Body → Type 0
BareRead kind b = (h : Head) (at : ℕ) (os : List ℕ) (m : Slots) → alternative_begins_with kind h.tag ≡ true → Digits os → contents_judged b os m ≡ option_map (λ v. marked kind b v m) (ok (contents_at kind at at os))

bare_seen : (kind : AbstractKind) (b : Body) (o : ℕ) (os : List ℕ) (f : Front) → BareRead kind b → Digits (o ∷ os) → BareSeen kind b o os f → Seen (bare_way kind b) o os f
bare_seen kind b o os (here contents rest) law digits (h, e, tag, is, all) =
    let whole : List ℕ = take (h.size + h.contents) (o ∷ os) in
    let inner : Digits whole = digits_take (h.size + h.contents) (o ∷ os) digits in
    let given : Stands (bare_way kind b) o os whole rest = record {
      header = h;
      header_is = e;
      tag = tag;
      rest_is = is;
      digits = inner;
      shorter = omega (arith, length-take (h.size + h.contents) (o ∷ os));
      start = λ at. at;
      read = λ at. sym (whole_read kind at h (o ∷ os) digits e tag);
      judged = λ at m. law h at whole m tag inner ∙ ap (λ (r : Result AbstractValue AbstractBreach). option_map (λ v. marked kind b v m) (ok r)) (whole_read kind at h (o ∷ os) digits e tag);
    } in
    subst (λ (x : List ℕ). Stands (bare_way kind b) o os x rest) (sym all) given
bare_seen kind b o os elsewhere law digits s = s
bare_seen kind b o os broken law digits s = s

pub bare_sight : (sight : Sight) (kind : AbstractKind) (b : Body) → BareRead kind b → BareLaw sight kind b → SightLaw sight (bare_way kind b)
bare_sight sight kind b law bare = record {
  ended = bare.ended;
  seen = λ o os digits. bare_seen kind b o os (sight (o ∷ os)) law digits (bare.seen o os digits);
}
