-- A pass over octets reads them as `decode` does, and marks what fails at the value.
use Rattle.std.proofs.Common.{◌≡◌, ℕ, suc, ◌^◌, ◌<◌, true, false, List, [], ◌∷◌, length, Option, Some, None, Result, Ok, Err, refl, sym, ap}
use Rattle.std.specs.Prelude.{option_map}
use Rattle.guard_model.specs.AbstractType as type
use Rattle.guard_model.specs.AbstractType.{AbstractType, AbstractKind, Components, type_of, no_components, component}
use Rattle.guard_model.specs.AbstractValue.{AbstractValue, Fields, Items}
use Rattle.guard_model.specs.Slots.{all_absent}
use Rattle.guard_tagcheck.specs.FirstTags.{begins_with, alternative_begins_with}
use Rattle.guard_der.specs.Breach.{AbstractBreach}
use Rattle.guard_der.specs.Der.{contents_octets}
use Rattle.guard_der.specs.Head.{Head}
use Rattle.guard_der.specs.Reading as read
use Rattle.guard_der.specs.Reading.{fields_at, items_at, set_at, part_at, contents_at, element_at, end_at, fields_read, items_read}
use Rattle.guard_tables.specs.declared.slots.Slots.{Slots}
use Rattle.guard_tables.specs.Slots.{none}
use Rattle.guard_tables.specs.Formulas.{Implication}
use Rattle.guard_tables.specs.Marking.{facts_of, items_marked, marked, type_marked, fields_marked}
use Rattle.guard_tables.specs.Plan.{Plan, Body, Parts, plan, simple, series, set, choice, list, set_of, asked, formula, no_parts, part}
use Rattle.guard_tables.specs.Standing.{Spells, SimpleFor, PlanFor, BodyFor, PartsFor, AlternativesFor, IsWhole}
use Rattle.guard_reader.specs.Fronts as fronts
use Rattle.guard_reader.specs.Fronts.{front, body_front, parts_front}
use Rattle.guard_reader.specs.Judging.{contents_judged, fields_judged, member_judged, chosen_judged, inside_judged, members_at, absences_at, elements, ordered, message_judged, outside, whole_facts, size_in, element_count}
use Rattle.guard_reader.specs.Octets.{ok}
use Rattle.guard_reader.proofs.Places.{Digits, Bad}
use Rattle.guard_reader.proofs.Sights.{alone_read}
use Rattle.guard_reader.proofs.Ways.{way_of, PlanLaw}
use Rattle.guard_reader.proofs.Choices.{ChosenLaw, ShapeLaw, choice_read, more_chosen, none_chosen_of, more_shape, none_shape}
use Rattle.guard_reader.proofs.Members as members
use Rattle.guard_reader.proofs.Members.{SidesLaw, MemberLaw, member_step}
use Rattle.guard_reader.proofs.ReadTypes.{IsRead, IsReadKind, AreRead}
use Rattle.guard_reader.proofs.Untagged.{BareLaw, choice_bare, in_front, never_bare, bare_sight}
use Rattle.guard_reader.proofs.Tagged.{tagged_plan, bare_plan, with_tags}
use Rattle.guard_reader.proofs.SimpleReadings.{simple_read}
use Rattle.guard_reader.proofs.WholeReadings.{asked_read, fields_known, items_known, choice_known}
use Rattle.guard_reader.proofs.OrderedReadings.{ordered_read}
use Rattle.guard_reader.proofs.ComponentReadings.{end_read, side_law, bad_part, part_then_read}
use Rattle.guard_reader.proofs.ElementReadings.{elements_read, items_counted}

-- ---- octets inside a tag have a length; those of an untagged CHOICE are a whole element

abbrev pub IsShort : AbstractKind → List ℕ → Type 0
IsShort (type.choice cs) os = Unit {0}
IsShort kind os = length os < 2 ^ 32

pub any_short : (kind : AbstractKind) (os : List ℕ) → length os < 2 ^ 32 → IsShort kind os
any_short (type.choice cs) os short = tt
any_short kind os short = short

bare_short : (kind : AbstractKind) (h : Head) (os : List ℕ) → alternative_begins_with kind h.tag ≡ true → IsShort kind os
bare_short (type.choice cs) h os tag = tt
bare_short kind h os tag = absurd cc

simple_short : (one kind : AbstractKind) (os : List ℕ) → SimpleFor one kind → IsShort kind os → length os < 2 ^ 32
simple_short type.boolean type.boolean os f short = short
simple_short (type.integer ns) (type.integer ks) os f short = short
simple_short (type.bit_string ns) (type.bit_string ks) os f short = short
simple_short type.octet_string type.octet_string os f short = short
simple_short type.null type.null os f short = short
simple_short type.object_identifier type.object_identifier os f short = short
simple_short (type.enumerated ns) (type.enumerated ks) os f short = short
simple_short (type.characters j) (type.characters k) os f short = short
simple_short one kind os f short = absurd f

simple_never : (one kind : AbstractKind) → SimpleFor one kind → (h : Head) → alternative_begins_with kind h.tag ≡ false
simple_never type.boolean type.boolean f h = refl
simple_never (type.integer ns) (type.integer ks) f h = refl
simple_never (type.bit_string ns) (type.bit_string ks) f h = refl
simple_never type.octet_string type.octet_string f h = refl
simple_never type.null type.null f h = refl
simple_never type.object_identifier type.object_identifier f h = refl
simple_never (type.enumerated ns) (type.enumerated ks) f h = refl
simple_never (type.characters j) (type.characters k) f h = refl
simple_never one kind f h = absurd f

spelled : (kind : AbstractKind) → Spells kind → IsReadKind kind → (at start : ℕ) (os : List ℕ) (v : AbstractValue) → Digits os → IsShort kind os → contents_at kind at start os ≡ Ok v → contents_octets kind v ≡ Some os
spelled (type.choice cs) spells r at start os v digits short e = r.0 at start os v digits e
spelled kind spells r at start os v digits short e = spells at start os v digits short e

-- ---- values that have parts

formula_read : (implications : List Implication) (b : Body) (kind : AbstractKind) (m : Slots) (r : Result AbstractValue AbstractBreach) (a : Option Slots) → a ≡ option_map (λ v. marked kind b v none) (ok r) → outside implications m a ≡ option_map (λ v. marked kind (formula implications b) v m) (ok r)
unfolding marked
formula_read implications b kind m (Err breach) a e = ap (outside implications m) e
formula_read implications b kind m (Ok v) a e = ap (outside implications m) e

series_read : (ps : Parts) (cs : Components) (m : Slots) (r : Result Fields AbstractBreach) (a : Option Slots) → a ≡ option_map (λ fs. fields_marked cs ps fs m) (ok r) → a ≡ option_map (λ v. marked (type.sequence cs) (series ps) v m) (ok (fields_read r))
unfolding marked
series_read ps cs m (Err breach) a e = e
series_read ps cs m (Ok fs) a e = e

members_set : (ps : Parts) (cs : Components) (m : Slots) (r : Result Fields AbstractBreach) (a : Option Slots) → a ≡ option_map (λ fs. fields_marked cs ps fs m) (ok r) → a ≡ option_map (λ v. marked (type.set cs) (set ps) v m) (ok (fields_read r))
unfolding marked
members_set ps cs m (Err breach) a e = e
members_set ps cs m (Ok fs) a e = e

set_read : (p : Plan) (t : AbstractType) (m : Slots) (r : Result Items AbstractBreach) (a : Option Slots) → a ≡ option_map (λ vs. items_marked (λ v m. type_marked t p v m) vs m) (ok r) → a ≡ option_map (λ v. marked (type.set_of t) (set_of p) v m) (ok (items_read r))
unfolding marked
set_read p t m (Err b) a e = e
set_read p t m (Ok vs) a e = e

list_read : (p : Plan) (t : AbstractType) (m : Slots) (r : Result Items AbstractBreach) (a : Option Slots) → a ≡ option_map (λ vs. items_marked (λ v m. type_marked t p v m) vs m) (ok r) → a ≡ option_map (λ v. marked (type.sequence_of t) (list p) v m) (ok (items_read r))
unfolding marked
list_read p t m (Err b) a e = e
list_read p t m (Ok vs) a e = e

sides_law : (ps : Parts) (cs : Components) → PartsFor ps cs → SidesLaw ps cs
sides_law no_parts no_components f = tt
sides_law (part side (plan tags con b) ps) (component name (type_of others kind cons) presence cs) f = (side_law side tags others con b kind cons presence f.1, sides_law ps cs f.2)
sides_law no_parts (component name t presence cs) f = absurd f
sides_law (part side p ps) no_components f = absurd f

-- ---- all kinds

mutual
  unfolding contents_judged contents_at end_at fronts.front marked

  pub contents_read : (b : Body) (kind : AbstractKind) → BodyFor b kind → IsReadKind kind → (at start : ℕ) (os : List ℕ) (m : Slots) → Digits os → IsShort kind os → contents_judged b os m ≡ option_map (λ v. marked kind b v m) (ok (contents_at kind at start os))
  contents_read (simple one cs) kind f r at start os m digits short = simple_read one cs kind f at start os m digits (simple_short one kind os f short)
  contents_read (series ps) (type.sequence cs) f r at start os m digits short = series_read ps cs m (fields_at 0 cs start os) (fields_judged ps os m) (fields_law ps cs f r 0 start os m digits short)
  contents_read (choice ps) (type.choice cs) f r at start os m digits short = choice_read (λ os m. chosen_judged ps os m) ps cs (chosen_law ps cs f r.1) at start os m digits
  contents_read (list p) (type.sequence_of t) f r at start os m digits short =
      list_read p t m (items_at (length os) false (begins_with t) (element_at t) 0 [] start os) (elements (λ os. front p os) (λ os m. inside_judged p os m) os m)
      (elements_read (λ os. front p os) (way_of p t) (plan_law p t f r) (length os) 0 start [] os m digits)
  contents_read (set_of p) (type.set_of t) f r at start os m digits short =
      set_read p t m (items_at (length os) true (begins_with t) (element_at t) 0 [] start os) (ordered (λ os. front p os) (λ os m. inside_judged p os m) [] os m)
      (ordered_read (λ os. front p os) (way_of p t) (plan_law p t f r) (length os) 0 start [] os m digits)
  contents_read (formula implications b) kind f r at start os m digits short = formula_read implications b kind m (contents_at kind at start os) (contents_judged b os none) (contents_read b kind f r at start os none digits short)
  contents_read (asked cs b) kind f r at start os m digits short =
      asked_read cs b kind os m (contents_at kind at start os) (contents_judged b os m) (λ v e. whole_known b kind f.1 f.2 r at start os v digits (spelled kind f.0 r at start os v digits short e) e)
      (contents_read b kind f.1 r at start os m digits short)
  contents_read (set ps) (type.set cs) f r at start os m digits short =
      members_set ps cs m (set_at (length os) cs (part_at cs) (all_absent cs) None start os) (members_at (length os) (λ places os m. member_judged ps 0 places os m) (λ places m. absences_at 0 ps places m) [] None os m)
      (members.set_read (λ places os m. member_judged ps 0 places os m) ps cs (sides_law ps cs f) (member_law ps cs f r 0) start os m digits short)
  contents_read b kind f r at start os m digits short = absurd f

  whole_known : (b : Body) (kind : AbstractKind) → BodyFor b kind → IsWhole b → IsReadKind kind → (at start : ℕ) (os : List ℕ) (v : AbstractValue) → Digits os → contents_octets kind v ≡ Some os
      → contents_at kind at start os ≡ Ok v → facts_of kind v ≡ whole_facts (size_in b os) os
  whole_known (series ps) (type.sequence cs) f whole r at start os v digits is e = fields_known (type.sequence cs) os (fields_at 0 cs start os) v is e
  whole_known (choice ps) (type.choice cs) f whole r at start os v digits is e = choice_known cs at start os v is e
  whole_known (list p) (type.sequence_of t) f whole r at start os v digits is e =
      items_known (type.sequence_of t) (element_count (λ os. front p os) os) os (items_at (length os) false (begins_with t) (element_at t) 0 [] start os) v
      (λ vs found. items_counted (λ os. front p os) (way_of p t) (plan_law p t f r) false (length os) 0 start [] os vs digits found) is e
  whole_known (set_of p) (type.set_of t) f whole r at start os v digits is e =
      items_known (type.set_of t) (element_count (λ os. front p os) os) os (items_at (length os) true (begins_with t) (element_at t) 0 [] start os) v
      (λ vs found. items_counted (λ os. front p os) (way_of p t) (plan_law p t f r) true (length os) 0 start [] os vs digits found) is e
  whole_known (formula implications b) kind f whole r at start os v digits is e = whole_known b kind f whole r at start os v digits is e
  whole_known (asked cs b) kind f whole r at start os v digits is e = whole_known b kind f.1 whole r at start os v digits is e
  whole_known (simple one cs) kind f whole r at start os v digits is e = absurd whole
  whole_known (set ps) (type.set cs) f whole r at start os v digits is e = fields_known (type.set cs) os (set_at (length os) cs (part_at cs) (all_absent cs) None start os) v is e
  whole_known b kind f whole r at start os v digits is e = absurd f

  pub plan_law : (p : Plan) (t : AbstractType) → PlanFor p t → IsRead t → PlanLaw p t
  plan_law (plan tags con b) (type_of [] kind cons) f r =
      with_tags tags [] con b (type_of [] kind cons) kind f.0 f.1
      (bare_plan b kind cons (bare_sight (λ os. body_front b os) kind b (λ h at os m tag digits. contents_read b kind f.2 r at at os m digits (bare_short kind h os tag)) (bare_law b kind f.2 r)))
  plan_law (plan tags con b) (type_of (t ∷ ts) kind cons) f r =
      with_tags tags (t ∷ ts) con b (type_of (t ∷ ts) kind cons) kind f.0 f.1
      (tagged_plan t ts b kind cons (λ at start os m digits short. contents_read b kind f.2 r at start os m digits (any_short kind os short)))

  bare_law : (b : Body) (kind : AbstractKind) → BodyFor b kind → IsReadKind kind → BareLaw (λ os. body_front b os) kind b
  bare_law (choice ps) (type.choice cs) f r = let s = shape_law ps cs f r.1 in choice_bare (λ os. parts_front ps os) cs (choice ps) s.ended s.seen
  bare_law (asked cs b) kind f r = in_front (λ os. body_front b os) kind b (asked cs b) (bare_law b kind f.1 r)
  bare_law (formula implications b) kind f r = in_front (λ os. body_front b os) kind b (formula implications b) (bare_law b kind f r)
  bare_law (simple one cs) kind f r = never_bare kind (simple one cs) (simple_never one kind f)
  bare_law (series ps) (type.sequence cs) f r = never_bare (type.sequence cs) (series ps) (λ h. refl)
  bare_law (set ps) (type.set cs) f r = never_bare (type.set cs) (set ps) (λ h. refl)
  bare_law (list p) (type.sequence_of t) f r = never_bare (type.sequence_of t) (list p) (λ h. refl)
  bare_law (set_of p) (type.set_of t) f r = never_bare (type.set_of t) (set_of p) (λ h. refl)
  bare_law b kind f r = absurd f

  shape_law : (ps : Parts) (cs : Components) → AlternativesFor ps cs → AreRead cs → ShapeLaw (λ os. parts_front ps os) cs
  shape_law no_parts no_components f r = none_shape
  shape_law (part side p ps) (component name t presence cs) f r = more_shape (λ os. parts_front ps os) p name t presence cs (plan_law p t f.0 r.0) (shape_law ps cs f.1 r.1)
  shape_law no_parts (component name t presence cs) f r = absurd f
  shape_law (part side p ps) no_components f r = absurd f

  chosen_law : (ps : Parts) (cs : Components) → AlternativesFor ps cs → AreRead cs → ChosenLaw (λ os m. chosen_judged ps os m) ps cs
  chosen_law no_parts no_components f r = none_chosen_of
  chosen_law (part side p ps) (component name t presence cs) f r = more_chosen (λ os m. chosen_judged ps os m) side p ps name t presence cs (plan_law p t f.0 r.0) (chosen_law ps cs f.1 r.1)
  chosen_law no_parts (component name t presence cs) f r = absurd f
  chosen_law (part side p ps) no_components f r = absurd f

  fields_law : (ps : Parts) (cs : Components) → PartsFor ps cs → AreRead cs → (i at : ℕ) (os : List ℕ) (m : Slots) → Digits os → length os < 2 ^ 32
      → fields_judged ps os m ≡ option_map (λ fs. fields_marked cs ps fs m) (ok (fields_at i cs at os))
  fields_law no_parts no_components f r i at [] m digits short = refl
  fields_law no_parts no_components f r i at (o ∷ os) m digits short = sym (ap (option_map (λ fs. fields_marked no_components no_parts fs m)) (end_read at o os))
  fields_law (part side (plan tags con b) ps) (component name (type_of others kind cons) presence cs) f r i at os m digits short =
      part_then_read side (λ os. front (plan tags con b) os) (way_of (plan tags con b) (type_of others kind cons)) (plan tags con b) ps (type_of others kind cons) name presence cs (λ m os. fields_judged ps os m)
      (plan_law (plan tags con b) (type_of others kind cons) f.0 r.0) (side_law side tags others con b kind cons presence f.1) refl
      (λ i at os m digits short. fields_law ps cs f.2 r.1 i at os m digits short) (λ o os m digits bad. fields_bad ps cs f.2 r.1 o os m digits bad) i at os m digits short
  fields_law no_parts (component name t presence cs) f r i at os m digits short = absurd f
  fields_law (part side p ps) no_components f r i at os m digits short = absurd f

  -- no component takes octets that have no header
  fields_bad : (ps : Parts) (cs : Components) → PartsFor ps cs → AreRead cs → (o : ℕ) (os : List ℕ) (m : Slots) → Digits (o ∷ os) → Bad o os → fields_judged ps (o ∷ os) m ≡ None
  fields_bad no_parts no_components f r o os m digits bad = refl
  fields_bad (part side (plan tags con b) ps) (component name (type_of others kind cons) presence cs) f r o os m digits bad =
      bad_part side (λ os. front (plan tags con b) os) (way_of (plan tags con b) (type_of others kind cons)) o os m (λ m os. fields_judged ps os m)
      (plan_law (plan tags con b) (type_of others kind cons) f.0 r.0) digits bad (λ k. fields_bad ps cs f.2 r.1 o os k digits bad)
  fields_bad no_parts (component name t presence cs) f r o os m digits bad = absurd f
  fields_bad (part side p ps) no_components f r o os m digits bad = absurd f

  -- an element of a SET
  member_law : (ps : Parts) (cs : Components) → PartsFor ps cs → AreRead cs → (i : ℕ) → MemberLaw (λ places os m. member_judged ps i places os m) ps cs i
  member_law no_parts no_components f r i places at o os h m digits short e = refl
  member_law (part side (plan tags con b) ps) (component name (type_of others kind cons) presence cs) f r i places at o os h m digits short e =
      member_step side (plan tags con b) ps name (type_of others kind cons) presence cs i places at o os h m (member_judged ps (suc i) places (o ∷ os) m) (front (plan tags con b) (o ∷ os))
      ((plan_law (plan tags con b) (type_of others kind cons) f.0 r.0).seen o os digits) e (side_law side tags others con b kind cons presence f.1) short
      (member_law ps cs f.2 r.1 (suc i) places at o os h m digits short e)
  member_law no_parts (component name t presence cs) f r i places at o os h m digits short e = absurd f
  member_law (part side p ps) no_components f r i places at o os h m digits short e = absurd f

-- ---- a whole message

pub message_read : (p : Plan) (t : AbstractType) (os : List ℕ) → PlanFor p t → IsRead t → Digits os → message_judged p os ≡ option_map (λ v. type_marked t p v none) (ok (read.message_of t os))
unfolding message_judged read.message_of
message_read p t os f r digits = alone_read (λ os. front p os) (way_of p t) (plan_law p t f r) 0 os none digits
