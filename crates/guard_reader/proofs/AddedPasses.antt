-- What fails in a pass is added to what failed before.
use Rattle.std.proofs.Common.{◌≡◌, ℕ, zero, suc, Bool, true, false, cond, List, [], ◌∷◌, length, Option, Some, None, refl, sym, ap, ◌∙◌}
use Rattle.std.specs.Prelude.{option_map}
use Rattle.guard_model.specs.declared.tag.Tag.{Tag}
use Rattle.guard_der.specs.declared.breach.Code.{Code}
use Rattle.guard_der.specs.Fits.{descends}
use Rattle.guard_der.specs.Simple.{simple_fault, simple_value}
use Rattle.guard_tables.specs.declared.slots.Slots.{Slots}
use Rattle.guard_tables.specs.Formulas.{Implication, implied}
use Rattle.guard_tables.specs.Marking.{facts, conditions_marked}
use Rattle.guard_tables.specs.Plan.{Side, Plan, Body, Parts, plan, simple, series, set, choice, list, set_of, asked, formula, no_parts, part}
use Rattle.guard_tables.specs.Slots.{none, added}
use Rattle.guard_tables.specs.TableNodes.{is_default}
use Rattle.guard_tables.proofs.Adding.{Adds, adds_conditions, adds_implied}
use Rattle.guard_tables.proofs.SlotSums.{added_again, added_none, added_turned, none_added}
use Rattle.guard_reader.specs.Fronts.{Front, here, elsewhere, broken, element_in, front, front_of, innermost}
use Rattle.guard_reader.specs.Judging.{Member, Pass, Sight, absences_at, absent_part, chosen_at, chosen_judged, contents_judged, elements_at, fields_judged, inside_judged, is_read, member_at, member_judged, members_at, ordered_at, outside, part_at, present_part, size_in, tag_after, tag_at, unless_fault, watched, whole_facts, with_rest}
use Rattle.guard_reader.specs.Octets.{◌>>=◌}

-- what it does to a set is to add what it makes of none, or it refuses every one
abbrev pub AddsUp : (Slots → Option Slots) → Type 0
AddsUp f = (m : Slots) → f m ≡ option_map (λ k. added m k) (f none)

abbrev pub AllAddUp : Pass → Type 0
AllAddUp pass = (os : List ℕ) → AddsUp (λ m. pass os m)

-- ---- steps

twice : (m k : Slots) (r : Option Slots) → option_map (λ j. added (added m k) j) r ≡ option_map (λ j. added m j) (option_map (λ j. added k j) r)
twice m k None = refl
twice m k (Some j) = ap (λ (s : Slots). Some s) (added_again m k j)

bound : (g : Slots → Option Slots) → AddsUp g → (m : Slots) (r : Option Slots) → (option_map (λ k. added m k) r >>= λ k. g k) ≡ option_map (λ k. added m k) (r >>= λ k. g k)
bound g q m None = refl
bound g q m (Some k) = q (added m k) ∙ twice m k (g none) ∙ sym (ap (option_map (λ k. added m k)) (q k))

pub adds_then : (f g : Slots → Option Slots) → AddsUp f → AddsUp g → AddsUp (λ m. f m >>= λ k. g k)
adds_then f g p q m = ap (λ (r : Option Slots). r >>= λ k. g k) (p m) ∙ bound g q m (f none)

adds_same : (f g : Slots → Option Slots) → ((m : Slots) → f m ≡ g m) → AddsUp g → AddsUp f
adds_same f g e p m = e m ∙ p m ∙ ap (option_map (λ k. added m k)) (sym (e none))

adds_found : {A : Type 0} (r : Option A) (f : A → Slots → Option Slots) → ((x : A) → AddsUp (f x)) → AddsUp (λ m. r >>= λ x. f x m)
adds_found None f p m = refl
adds_found (Some x) f p m = p x m

adds_unless : (b : Bool) (f : Slots → Option Slots) → AddsUp f → AddsUp (λ m. cond b None (f m))
adds_unless true f p m = refl
adds_unless false f p m = p m

adds_marked : (f : Slots → Slots) → Adds f → AddsUp (λ m. Some (f m))
adds_marked f p m = ap (λ (k : Slots). Some k) (p m)

adds_slots : (k : Slots) → AddsUp (λ m. Some (added m k))
adds_slots k m = ap (λ (k : Slots). Some (added m k)) (sym (none_added k))

adds_none : AddsUp (λ m. Some m)
adds_none m = ap (λ (k : Slots). Some k) (sym (added_none m))

adds_after : (k : Slots) (g : Slots → Option Slots) → AddsUp g → AddsUp (λ m. g (added m k))
adds_after k g q m = adds_then (λ m. Some (added m k)) g (adds_slots k) q m

-- two of them in either order
sums : (f g : Slots → Option Slots) → AddsUp f → AddsUp g → (m : Slots) (a b : Option Slots) → f none ≡ a → g none ≡ b → (f m >>= λ k. g k) ≡ (g m >>= λ k. f k)
sums f g p q m None None e d = ap (λ (r : Option Slots). r >>= λ k. g k) (p m ∙ ap (option_map (λ k. added m k)) e) ∙ sym (ap (λ (r : Option Slots). r >>= λ k. f k) (q m ∙ ap (option_map (λ k. added m k)) d))
sums f g p q m None (Some y) e d =
    ap (λ (r : Option Slots). r >>= λ k. g k) (p m ∙ ap (option_map (λ k. added m k)) e)
    ∙ sym (ap (λ (r : Option Slots). r >>= λ k. f k) (q m ∙ ap (option_map (λ k. added m k)) d) ∙ p (added m y) ∙ ap (option_map (λ k. added (added m y) k)) e)
sums f g p q m (Some x) None e d =
    ap (λ (r : Option Slots). r >>= λ k. g k) (p m ∙ ap (option_map (λ k. added m k)) e) ∙ q (added m x) ∙ ap (option_map (λ k. added (added m x) k)) d
    ∙ sym (ap (λ (r : Option Slots). r >>= λ k. f k) (q m ∙ ap (option_map (λ k. added m k)) d))
sums f g p q m (Some x) (Some y) e d =
    ap (λ (r : Option Slots). r >>= λ k. g k) (p m ∙ ap (option_map (λ k. added m k)) e) ∙ q (added m x) ∙ ap (option_map (λ k. added (added m x) k)) d
    ∙ ap (λ (k : Slots). Some k) (added_again m x y ∙ ap (added m) (added_turned x y) ∙ sym (added_again m y x))
    ∙ sym (ap (λ (r : Option Slots). r >>= λ k. f k) (q m ∙ ap (option_map (λ k. added m k)) d) ∙ p (added m y) ∙ ap (option_map (λ k. added (added m y) k)) e)

pub either_order : (f g : Slots → Option Slots) → AddsUp f → AddsUp g → (m : Slots) → (f m >>= λ k. g k) ≡ (g m >>= λ k. f k)
either_order f g p q m = sums f g p q m (f none) (g none) refl refl

-- ---- components

pub adds_absent : (absent : Option Slots) → AddsUp (λ m. absent_part absent m)
adds_absent None m = refl
adds_absent (Some k) m = adds_slots k m

pub adds_unread : (b : Bool) (absent : Option Slots) → AddsUp (λ m. cond b (Some m) (absent_part absent m))
adds_unread true absent m = adds_none m
adds_unread false absent m = adds_absent absent m

pub adds_present : (side : Side) (pass : Pass) (os : List ℕ) → AllAddUp pass → AddsUp (λ m. present_part side pass os m)
unfolding present_part watched
adds_present side pass os p m =
    adds_then (λ m. cond (is_default side.default os) None (Some (added m side.present))) (λ k. pass os k)
    (adds_unless (is_default side.default os) (λ m. Some (added m side.present)) (adds_slots side.present)) (p os) m

pub with_later : (rest : List ℕ) (r : Option Slots) (later : Pass) → (with_rest rest r >>= λ x. later x.1 x.0) ≡ (r >>= λ k. later rest k)
with_later rest None later = refl
with_later rest (Some k) later = refl

adds_part : (side : Side) (f : Front) (pass : Pass) (os : List ℕ) (later : Pass) → AllAddUp pass → AllAddUp later → AddsUp (λ m. part_at side f pass os m >>= λ x. later x.1 x.0)
unfolding part_at
adds_part side (here inside rest) pass os later p q m =
    adds_same (λ m. with_rest rest (present_part side pass inside m) >>= λ x. later x.1 x.0) (λ m. present_part side pass inside m >>= λ k. later rest k)
    (λ m. with_later rest (present_part side pass inside m) later)
    (adds_then (λ m. present_part side pass inside m) (λ k. later rest k) (adds_present side pass inside p) (q rest)) m
adds_part side elsewhere pass os later p q m =
    adds_same (λ m. with_rest os (absent_part side.absent m) >>= λ x. later x.1 x.0) (λ m. absent_part side.absent m >>= λ k. later os k)
    (λ m. with_later os (absent_part side.absent m) later)
    (adds_then (λ m. absent_part side.absent m) (λ k. later os k) (adds_absent side.absent) (q os)) m
adds_part side broken pass os later p q m = refl

-- ---- components of a SET

-- what is found of the component at this place, and the same after more has failed
abbrev pub found_there : ℕ → List ℕ → Slots → Member
found_there i rest k = Some (i, k, rest)

abbrev more : Slots → ℕ × Slots × List ℕ → ℕ × Slots × List ℕ
more m x = (x.0, added m x.1, x.2)

abbrev MemberAddsUp : (Slots → Member) → Type 0
MemberAddsUp f = (m : Slots) → f m ≡ option_map (more m) (f none)

placed : (i : ℕ) (rest : List ℕ) (m : Slots) (r : Option Slots) → (option_map (λ k. added m k) r >>= found_there i rest) ≡ option_map (more m) (r >>= found_there i rest)
placed i rest m None = refl
placed i rest m (Some k) = refl

member_unless : (b : Bool) (i : ℕ) (rest : List ℕ) (f : Slots → Option Slots) → AddsUp f → MemberAddsUp (λ m. cond b None (f m >>= found_there i rest))
member_unless true i rest f p m = refl
member_unless false i rest f p m = ap (λ (r : Option Slots). r >>= found_there i rest) (p m) ∙ placed i rest m (f none)

adds_member : (side : Side) (f : Front) (pass : Pass) (i : ℕ) (places : List ℕ) (later : Slots → Member) → AllAddUp pass → MemberAddsUp later → MemberAddsUp (λ m. member_at side f pass i places m (later m))
unfolding member_at
adds_member side (here inside rest) pass i places later p q m = member_unless (is_read places i) i rest (λ m. present_part side pass inside m) (adds_present side pass inside p) m
adds_member side elsewhere pass i places later p q m = q m
adds_member side broken pass i places later p q m = refl

bound_member : (later : ℕ → Pass) → ((i : ℕ) → AllAddUp (later i)) → (m : Slots) (r : Member) → (option_map (more m) r >>= λ x. later x.0 x.2 x.1) ≡ option_map (λ k. added m k) (r >>= λ x. later x.0 x.2 x.1)
bound_member later q m None = refl
bound_member later q m (Some x) = q x.0 x.2 (added m x.1) ∙ twice m x.1 (later x.0 x.2 none) ∙ sym (ap (option_map (λ k. added m k)) (q x.0 x.2 x.1))

adds_members : (tries : ℕ) (member : List ℕ → List ℕ → Slots → Member) (absent : List ℕ → Slots → Option Slots) (places : List ℕ) (last : Option Tag) (os : List ℕ) → ((places os : List ℕ) → MemberAddsUp (λ m. member places os m)) → ((places : List ℕ) → AddsUp (λ m. absent places m))
    → AddsUp (λ m. members_at tries member absent places last os m)
unfolding members_at
adds_members tries member absent places last [] p q m = q places m
adds_members zero member absent places last (o ∷ os) p q m = refl
adds_members (suc tries) member absent places last (o ∷ os) p q m =
    adds_found (tag_after last (tag_at (o ∷ os))) (λ tag m. member places (o ∷ os) m >>= λ x. members_at tries member absent (x.0 ∷ places) (Some tag) x.2 x.1)
    (λ tag m. ap (λ (r : Member). r >>= λ x. members_at tries member absent (x.0 ∷ places) (Some tag) x.2 x.1) (p places (o ∷ os) m)
    ∙ bound_member (λ i os m. members_at tries member absent (i ∷ places) (Some tag) os m) (λ i os m. adds_members tries member absent (i ∷ places) (Some tag) os p q m) m (member places (o ∷ os) none)) m

pub adds_absences : (i : ℕ) (ps : Parts) (places : List ℕ) → AddsUp (λ m. absences_at i ps places m)
unfolding absences_at
adds_absences i no_parts places m = adds_none m
adds_absences i (part side p ps) places m =
    adds_then (λ m. cond (is_read places i) (Some m) (absent_part side.absent m)) (λ k. absences_at (suc i) ps places k) (adds_unread (is_read places i) side.absent) (adds_absences (suc i) ps places) m

-- ---- alternatives and elements

adds_chosen : (side : Side) (f : Front) (pass : Pass) (later : Slots → Option Slots) → AllAddUp pass → AddsUp later → AddsUp (λ m. chosen_at side f pass m (later m))
unfolding chosen_at
adds_chosen side (here inside []) pass later p q m = adds_after side.present (λ m. pass inside m) (p inside) m
adds_chosen side (here inside (o ∷ rest)) pass later p q m = refl
adds_chosen side elsewhere pass later p q m = q m
adds_chosen side broken pass later p q m = refl

adds_elements : (tries : ℕ) (sight : Sight) (pass : Pass) (os : List ℕ) → AllAddUp pass → AddsUp (λ m. elements_at tries sight pass os m)
unfolding elements_at
adds_elements tries sight pass [] p m = adds_none m
adds_elements zero sight pass (o ∷ os) p m = refl
adds_elements (suc tries) sight pass (o ∷ os) p m =
    adds_found (element_in (sight (o ∷ os))) (λ x m. pass x.0 m >>= λ k. elements_at tries sight pass x.1 k)
    (λ x m. adds_then (λ m. pass x.0 m) (λ k. elements_at tries sight pass x.1 k) (p x.0) (adds_elements tries sight pass x.1 p) m) m

adds_ordered : (tries : ℕ) (sight : Sight) (pass : Pass) (before os : List ℕ) → AllAddUp pass → AddsUp (λ m. ordered_at tries sight pass before os m)
unfolding ordered_at
adds_ordered tries sight pass before [] p m = adds_none m
adds_ordered zero sight pass before (o ∷ os) p m = refl
adds_ordered (suc tries) sight pass before (o ∷ os) p m =
    adds_found (element_in (sight (o ∷ os))) (λ x m. pass x.0 m >>= λ k. cond (descends before (front_of (o ∷ os) x.1)) None (ordered_at tries sight pass (front_of (o ∷ os) x.1) x.1 k))
    (λ x m. adds_then (λ m. pass x.0 m) (λ k. cond (descends before (front_of (o ∷ os) x.1)) None (ordered_at tries sight pass (front_of (o ∷ os) x.1) x.1 k)) (p x.0)
    (adds_unless (descends before (front_of (o ∷ os) x.1)) (λ k. ordered_at tries sight pass (front_of (o ∷ os) x.1) x.1 k) (adds_ordered tries sight pass (front_of (o ∷ os) x.1) x.1 p)) m) m

-- ---- all kinds

adds_fault : (c : Option Code) (f : Slots → Slots) → Adds f → AddsUp (λ m. unless_fault c (f m))
adds_fault None f p m = adds_marked f p m
adds_fault (Some c) f p m = refl

adds_outside : (rs : List Implication) (inner : Option Slots) → AddsUp (λ m. outside rs m inner)
adds_outside rs None m = refl
adds_outside rs (Some k) m = adds_marked (λ m. implied rs k m) (adds_implied rs k) m

mutual
  unfolding contents_judged

  pub adds_contents : (b : Body) (os : List ℕ) → AddsUp (λ m. contents_judged b os m)
  adds_contents (simple kind cs) os m = adds_fault (simple_fault kind os) (λ m. conditions_marked cs (facts (simple_value kind os) (Some os)) m) (adds_conditions cs (facts (simple_value kind os) (Some os))) m
  adds_contents (series ps) os m = adds_fields ps os m
  adds_contents (set ps) os m =
      adds_members (length os) (λ places os m. member_judged ps 0 places os m) (λ places m. absences_at 0 ps places m) [] None os
      (λ places os m. adds_set_member ps 0 places os m) (λ places m. adds_absences 0 ps places m) m
  adds_contents (choice ps) os m = adds_alternative ps os m
  adds_contents (list p) os m = adds_elements (length os) (λ os. front p os) (λ os m. inside_judged p os m) os (λ os m. adds_inside p os m) m
  adds_contents (set_of p) os m = adds_ordered (length os) (λ os. front p os) (λ os m. inside_judged p os m) [] os (λ os m. adds_inside p os m) m
  adds_contents (asked cs b) os m =
      adds_then (λ m. contents_judged b os m) (λ k. Some (conditions_marked cs (whole_facts (size_in b os) os) k))
      (λ m. adds_contents b os m) (adds_marked (λ k. conditions_marked cs (whole_facts (size_in b os) os) k) (adds_conditions cs (whole_facts (size_in b os) os))) m
  adds_contents (formula rs b) os m = adds_outside rs (contents_judged b os none) m

  pub adds_inside : (p : Plan) (os : List ℕ) → AddsUp (λ m. inside_judged p os m)
  adds_inside (plan tags constructed b) os m = adds_found (innermost tags constructed os) (λ inside m. contents_judged b inside m) (λ inside m. adds_contents b inside m) m

  adds_fields : (ps : Parts) (os : List ℕ) → AddsUp (λ m. fields_judged ps os m)
  adds_fields no_parts [] m = adds_none m
  adds_fields no_parts (o ∷ os) m = refl
  adds_fields (part side p ps) os m = adds_part side (front p os) (λ os m. inside_judged p os m) os (λ os m. fields_judged ps os m) (λ os m. adds_inside p os m) (λ os m. adds_fields ps os m) m

  adds_set_member : (ps : Parts) (i : ℕ) (places os : List ℕ) → MemberAddsUp (λ m. member_judged ps i places os m)
  adds_set_member no_parts i places os m = refl
  adds_set_member (part side p ps) i places os m =
      adds_member side (front p os) (λ os m. inside_judged p os m) i places (λ m. member_judged ps (suc i) places os m) (λ os m. adds_inside p os m) (λ m. adds_set_member ps (suc i) places os m) m

  adds_alternative : (ps : Parts) (os : List ℕ) → AddsUp (λ m. chosen_judged ps os m)
  adds_alternative no_parts os m = refl
  adds_alternative (part side p ps) os m =
      adds_chosen side (front p os) (λ os m. inside_judged p os m) (λ m. chosen_judged ps os m) (λ os m. adds_inside p os m) (λ m. adds_alternative ps os m) m
