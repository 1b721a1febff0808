-- Components of a SET, in ascending order of tags (X.690 8.11, 10.3).
use Rattle.std.proofs.Common.{◌≡◌, ℕ, zero, suc, ◌+◌, ◌^◌, ◌<◌, Bool, true, false, eqb, List, [], ◌∷◌, length, drop, Option, Some, None, Result, Ok, Err, cond, refl, sym, ap, subst, ◌∙◌, arith, inl, inr, length-drop}
use Rattle.std.specs.Prelude.{◌||◌, option_map}
use Rattle.std.proofs.lemmas.Bool.{cond-true, cond-false, eqb-true, eqb-false}
use Rattle.guard_model.specs.Answer as answer
use Rattle.guard_model.specs.declared.tag.Tag.{Tag}
use Rattle.guard_model.specs.declared.site.Step.TheVariants as step
use Rattle.guard_model.specs.AbstractType.{AbstractType, AbstractPresence, Components, no_components, component}
use Rattle.guard_model.specs.AbstractValue as value
use Rattle.guard_model.specs.AbstractValue.{AbstractValue, Fields}
use Rattle.guard_model.specs.Counts.{component_count}
use Rattle.guard_tagcheck.specs.FirstTags.{begins_with}
use Rattle.guard_der.specs.declared.breach.Code.{Code}
use Rattle.guard_der.specs.declared.breach.Code.TheVariants as code
use Rattle.guard_der.specs.Breach.{AbstractBreach, one_with, below}
use Rattle.guard_der.specs.Der.{is_left_out}
use Rattle.guard_der.specs.Head.{Head, head_of}
use Rattle.guard_der.specs.Reading.{fault, inside, follows, is_filled, fill, presence_at, set_at, set_element_at, completed, not_sent, missing_at, field_before, element_at, part_at}
use Rattle.guard_model.specs.Slots.{all_absent}
use Rattle.guard_der.proofs.Components.ByTag.{with_tag}
use Rattle.guard_der.proofs.Sets.OneElement.{place_free, place_unknown, place_descends, place_full, set_element_reads, set_element_bad, set_element_strays, set_element_fails, set_element_default}
use Rattle.guard_tables.specs.declared.slots.Slots.{Slots}
use Rattle.guard_tables.specs.Slots.{none, added}
use Rattle.guard_tables.specs.Marking.{marked, type_marked, fields_marked, alternative_marked}
use Rattle.guard_tables.specs.Plan.{Side, Plan, Parts, no_parts, part}
use Rattle.guard_tables.proofs.Adding.{Adds, adds_both, adds_nothing, adds_slots, adds_absence, adds_type}
use Rattle.guard_tables.proofs.SlotSums.{added_again, added_turned}
use Rattle.guard_reader.specs.Fronts.{Front, here, elsewhere, broken}
use Rattle.guard_reader.specs.Judging.{Member, is_read, absent_part, member_at, tag_after, members_at, absences_at, inside_judged}
use Rattle.guard_reader.specs.Octets.{◌>>=◌, ok}
use Rattle.guard_reader.proofs.Places.{Digits, digits_drop}
use Rattle.guard_reader.proofs.Sights.{Stands, Seen, one_header, never_bad}
use Rattle.guard_reader.proofs.Ways.{inside_type, way_of}
use Rattle.guard_reader.proofs.Choices.{later_with}
use Rattle.guard_reader.proofs.ComponentReadings.{SideLaw, field_marked, present_read, joined_read}

-- ---- what is marked doesn't depend on the order

turned : (f g : Slots → Slots) → Adds f → Adds g → (m : Slots) → f (g m) ≡ g (f m)
turned f g p q m =
    p (g m) ∙ ap (λ (k : Slots). added k (f none)) (q m) ∙ added_again m (g none) (f none) ∙ ap (added m) (added_turned (g none) (f none))
    ∙ sym (q (f m) ∙ ap (λ (k : Slots). added k (g none)) (p m) ∙ added_again m (f none) (g none))

-- of components that were read
abbrev pub filled_marked : Components → Parts → Fields → Slots → Slots
filled_marked (component name t presence cs) (part side p ps) (value.present v fs) m = filled_marked cs ps fs (type_marked t p v (added m side.present))
filled_marked (component name t presence cs) (part side p ps) (value.absent fs) m = filled_marked cs ps fs m
filled_marked _ _ _ m = m

adds_one : (t : AbstractType) (p : Plan) (v : AbstractValue) (k : Slots) → Adds (λ m. type_marked t p v (added m k))
adds_one t p v k = adds_both (λ m. added m k) (λ m. type_marked t p v m) (adds_slots k) (adds_type t p v)

adds_filled : (cs : Components) (ps : Parts) (fs : Fields) → Adds (λ m. filled_marked cs ps fs m)
adds_filled (component name t presence cs) (part side p ps) (value.present v fs) m =
    adds_both (λ m. type_marked t p v (added m side.present)) (λ m. filled_marked cs ps fs m) (adds_one t p v side.present) (adds_filled cs ps fs) m
adds_filled (component name t presence cs) (part side p ps) (value.absent fs) m = adds_filled cs ps fs m
adds_filled cs ps fs m = adds_nothing m

adds_field : (side : Side) (t : AbstractType) (p : Plan) (f : Option AbstractValue) → Adds (λ m. field_marked side (λ v m. type_marked t p v m) f m)
adds_field side t p None m = adds_absence side.absent m
adds_field side t p (Some v) m = adds_one t p v side.present m

-- ---- fields of components

abbrev pub Alike : Components → Parts → Fields → Type 0
Alike no_components no_parts value.no_fields = Unit {0}
Alike (component name t presence cs) (part side p ps) (value.present v fs) = Alike cs ps fs
Alike (component name t presence cs) (part side p ps) (value.absent fs) = Alike cs ps fs
Alike _ _ _ = ⊥

fill_alike : (cs : Components) (ps : Parts) (fs : Fields) (j : ℕ) (v : AbstractValue) → Alike cs ps fs → Alike cs ps (fill j v fs)
fill_alike no_components no_parts value.no_fields j v a = tt
fill_alike (component name t presence cs) (part side p ps) (value.present w fs) zero v a = a
fill_alike (component name t presence cs) (part side p ps) (value.present w fs) (suc j) v a = fill_alike cs ps fs j v a
fill_alike (component name t presence cs) (part side p ps) (value.absent fs) zero v a = a
fill_alike (component name t presence cs) (part side p ps) (value.absent fs) (suc j) v a = fill_alike cs ps fs j v a
fill_alike cs ps fs j v a = absurd a

apart : (a b : ℕ) (t : Bool) → eqb a b ≡ t → (a ≡ b → ⊥) → t ≡ false
apart a b true e ne = absurd (ne (eqb-true a b e))
apart a b false e ne = refl

below_both : (j k : ℕ) (t u : Bool) → eqb (suc j) (suc k) ≡ t → eqb j k ≡ u → u ≡ t
below_both j k true true e f = refl
below_both j k true false e f = absurd (eqb-false j k f (omega (arith, eqb-true (suc j) (suc k) e)))
below_both j k false true e f = absurd (eqb-false (suc j) (suc k) e (omega (arith, eqb-true j k f)))
below_both j k false false e f = refl

filled_now : (cs : Components) (ps : Parts) (fs : Fields) (j : ℕ) (v : AbstractValue) (k : ℕ) → Alike cs ps fs → j < component_count cs → is_filled k (fill j v fs) ≡ (eqb j k || is_filled k fs)
filled_now no_components no_parts value.no_fields j v k a within = absurd (omega (arith, within))
filled_now (component name t presence cs) (part side p ps) (value.present w fs) zero v zero a within = refl
filled_now (component name t presence cs) (part side p ps) (value.present w fs) zero v (suc k) a within = ap (λ (b : Bool). b || is_filled k fs) (sym (apart 0 (suc k) (eqb 0 (suc k)) refl (λ e. omega (arith, e))))
filled_now (component name t presence cs) (part side p ps) (value.present w fs) (suc j) v zero a within = one_or (eqb (suc j) 0)
  where
    one_or : (b : Bool) → true ≡ (b || true)
    one_or true = refl
    one_or false = refl
filled_now (component name t presence cs) (part side p ps) (value.present w fs) (suc j) v (suc k) a within =
    filled_now cs ps fs j v k a (omega (arith, within)) ∙ ap (λ (b : Bool). b || is_filled k fs) (below_both j k (eqb (suc j) (suc k)) (eqb j k) refl refl)
filled_now (component name t presence cs) (part side p ps) (value.absent fs) zero v zero a within = refl
filled_now (component name t presence cs) (part side p ps) (value.absent fs) zero v (suc k) a within = ap (λ (b : Bool). b || is_filled k fs) (sym (apart 0 (suc k) (eqb 0 (suc k)) refl (λ e. omega (arith, e))))
filled_now (component name t presence cs) (part side p ps) (value.absent fs) (suc j) v zero a within = ap (λ (b : Bool). b || false) (sym (apart (suc j) 0 (eqb (suc j) 0) refl (λ e. omega (arith, e))))
filled_now (component name t presence cs) (part side p ps) (value.absent fs) (suc j) v (suc k) a within =
    filled_now cs ps fs j v k a (omega (arith, within)) ∙ ap (λ (b : Bool). b || is_filled k fs) (below_both j k (eqb (suc j) (suc k)) (eqb j k) refl refl)
filled_now cs ps fs j v k a within = absurd a

-- one more component that was read
fill_marked : (cs : Components) (ps : Parts) (fs : Fields) (j : ℕ) (v : AbstractValue) (m : Slots) → Alike cs ps fs → is_filled j fs ≡ false → alternative_marked cs ps j v (filled_marked cs ps fs m) ≡ filled_marked cs ps (fill j v fs) m
unfolding marked
fill_marked no_components no_parts value.no_fields j v m a free = refl
fill_marked (component name t presence cs) (part side p ps) (value.present w fs) zero v m a free = absurd cc
fill_marked (component name t presence cs) (part side p ps) (value.present w fs) (suc j) v m a free = fill_marked cs ps fs j v (type_marked t p w (added m side.present)) a free
fill_marked (component name t presence cs) (part side p ps) (value.absent fs) zero v m a free =
    turned (λ m. type_marked t p v (added m side.present)) (λ m. filled_marked cs ps fs m) (adds_one t p v side.present) (adds_filled cs ps fs) m
fill_marked (component name t presence cs) (part side p ps) (value.absent fs) (suc j) v m a free = fill_marked cs ps fs j v m a free
fill_marked cs ps fs j v m a free = absurd a

abbrev pub SidesLaw : Parts → Components → Type 0
SidesLaw no_parts no_components = Unit {0}
SidesLaw (part side p ps) (component name t presence cs) = SideLaw side (inside_type t) (λ v m. type_marked t p v m) presence × SidesLaw ps cs
SidesLaw _ _ = ⊥

all_alike : (cs : Components) (ps : Parts) → SidesLaw ps cs → Alike cs ps (all_absent cs)
all_alike no_components no_parts sides = tt
all_alike (component name t presence cs) (part side p ps) sides = all_alike cs ps sides.1
all_alike cs ps sides = absurd sides

none_filled : (cs : Components) (k : ℕ) → is_filled k (all_absent cs) ≡ false
none_filled no_components zero = refl
none_filled no_components (suc k) = refl
none_filled (component name t presence cs) zero = refl
none_filled (component name t presence cs) (suc k) = none_filled cs k

none_marked : (cs : Components) (ps : Parts) (m : Slots) → SidesLaw ps cs → filled_marked cs ps (all_absent cs) m ≡ m
none_marked no_components no_parts m sides = refl
none_marked (component name t presence cs) (part side p ps) m sides = none_marked cs ps m sides.1
none_marked cs ps m sides = absurd sides

-- ---- components that weren't read

absent_step : (side : Side) (p : Plan) (ps : Parts) (t : AbstractType) (name : List ℕ) (presence : AbstractPresence) (cs : Components) (k m : Slots) (go : Slots → Option Slots) (r : Result (Option AbstractValue) AbstractBreach) (rest : Result Fields AbstractBreach)
    → absent_part side.absent k ≡ option_map (λ f. field_marked side (λ v m. type_marked t p v m) f k) (ok r)
    → ((f : Option AbstractValue) → go (field_marked side (λ v m. type_marked t p v m) f k) ≡ option_map (λ gs. fields_marked cs ps gs (field_marked side (λ v m. type_marked t p v m) f m)) (ok rest))
    → (absent_part side.absent k >>= go) ≡ option_map (λ gs. fields_marked (component name t presence cs) (part side p ps) gs m) (ok (answer.◌>>=◌ r (λ f. answer.◌>>=◌ rest (λ gs. Ok (field_before f gs)))))
absent_step side p ps t name presence cs k m go (Err b) rest e h = ap (λ (x : Option Slots). x >>= go) e
absent_step side p ps t name presence cs k m go (Ok f) rest e h = ap (λ (x : Option Slots). x >>= go) e ∙ h f ∙ joined_read side p ps t name presence cs f m rest

abbrev Reached : ℕ → List ℕ → Fields → Type 0
Reached i places fs = (k : ℕ) → is_read places (i + k) ≡ is_filled k fs

absences_read : (i : ℕ) (cs : Components) (ps : Parts) (fs : Fields) (places : List ℕ) (at : ℕ) (m : Slots) → SidesLaw ps cs → Alike cs ps fs → Reached i places fs
    → absences_at i ps places (filled_marked cs ps fs m) ≡ option_map (λ gs. fields_marked cs ps gs m) (ok (completed i cs fs at))
unfolding absences_at completed marked
absences_read i no_components no_parts value.no_fields places at m sides a is = refl
absences_read i (component name t presence cs) (part side p ps) (value.present v fs) places at m sides a is =
    let first : i + 0 ≡ i = omega arith in
    let own : is_read places i ≡ true = ap (is_read places) (sym first) ∙ is 0 in
    let k : Slots = type_marked t p v (added m side.present) in
    ap (λ (b : Bool). cond b (Some (filled_marked cs ps fs k)) (absent_part side.absent (filled_marked cs ps fs k)) >>= λ k. absences_at (suc i) ps places k) own
    ∙ absences_read (suc i) cs ps fs places at k sides.1 a (λ j. let next : suc i + j ≡ i + suc j = omega arith in ap (is_read places) next ∙ is (suc j))
    ∙ joined_read side p ps t name presence cs (Some v) m (completed (suc i) cs fs at)
absences_read i (component name t presence cs) (part side p ps) (value.absent fs) places at m sides a is =
    let first : i + 0 ≡ i = omega arith in
    let own : is_read places i ≡ false = ap (is_read places) (sym first) ∙ is 0 in
    let k : Slots = filled_marked cs ps fs m in
    let mark : AbstractValue → Slots → Slots = λ v m. type_marked t p v m in
    ap (λ (b : Bool). cond b (Some k) (absent_part side.absent k) >>= λ k. absences_at (suc i) ps places k) own
    ∙ absent_step side p ps t name presence cs k m (λ k. absences_at (suc i) ps places k) (not_sent presence (missing_at i at)) (completed (suc i) cs fs at) (sides.0.absent k (missing_at i at))
    (λ f. ap (λ (k : Slots). absences_at (suc i) ps places k) (turned (λ m. field_marked side mark f m) (λ m. filled_marked cs ps fs m) (adds_field side t p f) (adds_filled cs ps fs) m)
    ∙ absences_read (suc i) cs ps fs places at (field_marked side mark f m) sides.1 a (λ j. let next : suc i + j ≡ i + suc j = omega arith in ap (is_read places) next ∙ is (suc j)))
absences_read i cs ps fs places at m sides a is = absurd a

-- ---- one element

abbrev member_with : ℕ → List ℕ → Slots → Member
member_with i rest k = Some (i, k, rest)

abbrev sent_of : AbstractPresence → Option AbstractValue → Option AbstractValue
sent_of presence r = r >>= λ v. cond (is_left_out presence v) None (Some v)

abbrev pub member_of : Components → Parts → ℕ → List ℕ → Option ℕ → ℕ → Head → List ℕ → Slots → Member
member_of cs ps i places None at h os m = None
member_of cs ps i places (Some k) at h os m =
    cond (is_read places (i + k)) None (sent_of (presence_at k cs) (ok (part_at cs k at h os)) >>= λ v. Some (i + k, alternative_marked cs ps k v m, drop (h.size + h.contents) os))

sent_is : (presence : AbstractPresence) (at i : ℕ) (rest : List ℕ) (f : AbstractValue → Slots) (r : Result AbstractValue AbstractBreach)
    → (option_map f (ok (inside (step.Component 0) (answer.◌>>=◌ r (λ v. cond (is_left_out presence v) (Err (fault code.DefaultPresent at)) (Ok v))))) >>= member_with i rest) ≡ (sent_of presence (ok r) >>= λ v. member_with i rest (f v))
sent_is presence at i rest f (Err b) = refl
sent_is presence at i rest f (Ok v) = tested (is_left_out presence v)
  where
    tested : (b : Bool) → (option_map f (ok (inside (step.Component 0) (cond b (Err (fault code.DefaultPresent at)) (Ok v)))) >>= member_with i rest) ≡ (cond b None (Some v) >>= λ v. member_with i rest (f v))
    tested true = refl
    tested false = refl

nothing_sent : (presence : AbstractPresence) (b : Bool) (r : Option AbstractValue) (f : AbstractValue → Member) → r ≡ None → None ≡ cond b None (sent_of presence r >>= f)
nothing_sent presence true r f e = refl
nothing_sent presence false r f e = sym (ap (λ (r : Option AbstractValue). sent_of presence r >>= f) e)

moved : (name : List ℕ) (t : AbstractType) (presence : AbstractPresence) (cs : Components) (side : Side) (p : Plan) (ps : Parts) (i : ℕ) (places : List ℕ) (found : Option ℕ) (at : ℕ) (h : Head) (os : List ℕ) (m : Slots)
    → member_of cs ps (suc i) places found at h os m ≡ member_of (component name t presence cs) (part side p ps) i places (option_map suc found) at h os m
unfolding part_at marked
moved name t presence cs side p ps i places None at h os m = refl
moved name t presence cs side p ps i places (Some k) at h os m =
    let next : suc i + k ≡ i + suc k = omega arith in
    ap (λ (n : ℕ). cond (is_read places n) None (sent_of (presence_at k cs) (ok (part_at cs k at h os)) >>= λ v. member_with n (drop (h.size + h.contents) os) (alternative_marked cs ps k v m))) next

abbrev MemberStep : Side → Plan → Parts → List ℕ → AbstractType → AbstractPresence → Components → ℕ → List ℕ → ℕ → Head → List ℕ → Slots → Member → Front → Type 0
MemberStep side p ps name t presence cs i places at h os m later f =
    member_at side f (λ os m. inside_judged p os m) i places m later ≡ member_of (component name t presence cs) (part side p ps) i places (one_with 0 (component name t presence cs) h.tag) at h os m

member_here : (side : Side) (p : Plan) (ps : Parts) (name : List ℕ) (t : AbstractType) (presence : AbstractPresence) (cs : Components) (i : ℕ) (places : List ℕ) (at o : ℕ) (os : List ℕ) (m : Slots) (later : Member) (contents rest : List ℕ) (s : Stands (way_of p t) o os contents rest)
    → SideLaw side (inside_type t) (λ v m. type_marked t p v m) presence → length (o ∷ os) < 2 ^ 32 → MemberStep side p ps name t presence cs i places at s.header (o ∷ os) m later (here contents rest)
unfolding member_at part_at marked
member_here side p ps name t presence cs i places at o os m later contents rest s sl short =
    let h = s.header in
    let r : Result AbstractValue AbstractBreach = element_at t at h (o ∷ os) in
    let mark : AbstractValue → Slots = λ v. type_marked t p v (added m side.present) in
    let all : List ℕ = drop (h.size + h.contents) (o ∷ os) in
    let first : i ≡ i + 0 = omega arith in
    ap (λ (x : Option Slots). cond (is_read places i) None (x >>= member_with i rest))
    (present_read side (inside_type t) (λ v m. type_marked t p v m) (λ os m. inside_judged p os m) presence 0 at (s.start at) contents m r sl s.digits (omega (arith, short, s.shorter)) (sym (s.read at)) (λ k. s.judged at k))
    ∙ ap (λ (x : Member). cond (is_read places i) None x) (sent_is presence at i rest mark r)
    ∙ ap (λ (rest : List ℕ). cond (is_read places i) None (sent_of presence (ok r) >>= λ v. member_with i rest (mark v))) (sym s.rest_is)
    ∙ ap (λ (n : ℕ). cond (is_read places n) None (sent_of presence (ok r) >>= λ v. member_with n all (mark v))) first
    ∙ ap (λ (found : Option ℕ). member_of (component name t presence cs) (part side p ps) i places found at h (o ∷ os) m) (sym (cond-true (begins_with t h.tag) (Some 0) (one_with 1 cs h.tag) s.tag))

pub member_step : (side : Side) (p : Plan) (ps : Parts) (name : List ℕ) (t : AbstractType) (presence : AbstractPresence) (cs : Components) (i : ℕ) (places : List ℕ) (at o : ℕ) (os : List ℕ) (h : Head) (m : Slots) (later : Member) (f : Front)
    → Seen (way_of p t) o os f → head_of (o ∷ os) ≡ Ok h → SideLaw side (inside_type t) (λ v m. type_marked t p v m) presence → length (o ∷ os) < 2 ^ 32
    → later ≡ member_of cs ps (suc i) places (one_with 0 cs h.tag) at h (o ∷ os) m → MemberStep side p ps name t presence cs i places at h (o ∷ os) m later f
unfolding member_at part_at
member_step side p ps name t presence cs i places at o os h m later (here contents rest) s e sl short is =
    subst (λ (h : Head). MemberStep side p ps name t presence cs i places at h (o ∷ os) m later (here contents rest)) (one_header o os s.header h s.header_is e)
    (member_here side p ps name t presence cs i places at o os m later contents rest s sl short)
member_step side p ps name t presence cs i places at o os h m later elsewhere (inl bad) e sl short is = never_bad o os h e bad
member_step side p ps name t presence cs i places at o os h m later elsewhere (inr (g, there, tag)) e sl short is =
    let other : begins_with t h.tag ≡ false = ap (λ (h : Head). begins_with t h.tag) (sym (one_header o os g h there e)) ∙ tag in
    is ∙ moved name t presence cs side p ps i places (one_with 0 cs h.tag) at h (o ∷ os) m
    ∙ ap (λ (found : Option ℕ). member_of (component name t presence cs) (part side p ps) i places found at h (o ∷ os) m)
    (sym (later_with 0 cs h.tag) ∙ sym (cond-false (begins_with t h.tag) (Some 0) (one_with 1 cs h.tag) other))
member_step side p ps name t presence cs i places at o os h m later broken (inl bad) e sl short is = never_bad o os h e bad
member_step side p ps name t presence cs i places at o os h m later broken (inr (g, there, tag, fails)) e sl short is =
    let one : g ≡ h = one_header o os g h there e in
    let own : begins_with t h.tag ≡ true = ap (λ (h : Head). begins_with t h.tag) (sym one) ∙ tag in
    let no_value : ok (element_at t at h (o ∷ os)) ≡ None = ap (λ (h : Head). ok (element_at t at h (o ∷ os))) (sym one) ∙ fails at in
    nothing_sent presence (is_read places (i + 0)) (ok (element_at t at h (o ∷ os))) (λ v. Some (i + 0, alternative_marked (component name t presence cs) (part side p ps) 0 v m, drop (h.size + h.contents) (o ∷ os))) no_value
    ∙ ap (λ (found : Option ℕ). member_of (component name t presence cs) (part side p ps) i places found at h (o ∷ os) m) (sym (cond-true (begins_with t h.tag) (Some 0) (one_with 1 cs h.tag) own))

-- ---- all of them

abbrev pub MemberLaw : (List ℕ → List ℕ → Slots → Member) → Parts → Components → ℕ → Type 0
MemberLaw member ps cs i =
    (places : List ℕ) (at o : ℕ) (os : List ℕ) (h : Head) (m : Slots) → Digits (o ∷ os) → length (o ∷ os) < 2 ^ 32 → head_of (o ∷ os) ≡ Ok h
    → member places (o ∷ os) m ≡ member_of cs ps i places (one_with 0 cs h.tag) at h (o ∷ os) m

abbrev Absent : Parts → List ℕ → Slots → Option Slots
Absent ps places m = absences_at 0 ps places m

abbrev AllRead : (List ℕ → List ℕ → Slots → Member) → Parts → Components → ℕ → Type 0
AllRead member ps cs n =
    (places : List ℕ) (fs : Fields) (last : Option Tag) (at : ℕ) (os : List ℕ) (m : Slots) → Alike cs ps fs → Reached 0 places fs → Digits os → length os < 2 ^ 32
    → members_at n member (λ places m. absences_at 0 ps places m) places last os (filled_marked cs ps fs m) ≡ option_map (λ gs. fields_marked cs ps gs m) (ok (set_at n cs (part_at cs) fs last at os))

abbrev ReadMember : Type 0
ReadMember = ℕ × AbstractValue × Head

abbrev then_set : ℕ → Components → Fields → ℕ → List ℕ → ReadMember → Result Fields AbstractBreach
then_set n cs fs at os x = set_at n cs (part_at cs) (fill x.0 x.1 fs) (Some x.2.tag) (at + (x.2.size + x.2.contents)) (drop (x.2.size + x.2.contents) os)

abbrev then_members : (List ℕ → List ℕ → Slots → Member) → Parts → ℕ → List ℕ → Option Tag → Member → Option Slots
then_members member ps n places tag x = tag >>= λ tag. x >>= λ x. members_at n member (λ places m. absences_at 0 ps places m) (x.0 ∷ places) (Some tag) x.2 x.1

no_member : (member : List ℕ → List ℕ → Slots → Member) (ps : Parts) (n : ℕ) (places : List ℕ) (tag : Option Tag) → then_members member ps n places tag None ≡ None
no_member member ps n places None = refl
no_member member ps n places (Some tag) = refl

abbrev Step : (List ℕ → List ℕ → Slots → Member) → Parts → Components → ℕ → List ℕ → Fields → ℕ → List ℕ → Slots → Option Tag → Member → Result ReadMember AbstractBreach → Type 0
Step member ps cs n places fs at os m tag x r = then_members member ps n places tag x ≡ option_map (λ gs. fields_marked cs ps gs m) (ok (answer.◌>>=◌ r (then_set n cs fs at os)))

refused : (member : List ℕ → List ℕ → Slots → Member) (ps : Parts) (cs : Components) (n : ℕ) (places : List ℕ) (fs : Fields) (at : ℕ) (os : List ℕ) (m : Slots) (tag : Option Tag) (x : Member) (r : Result ReadMember AbstractBreach) (b : AbstractBreach)
    → then_members member ps n places tag x ≡ None → r ≡ Err b → Step member ps cs n places fs at os m tag x r
refused member ps cs n places fs at os m tag x r b none e = none ∙ sym (ap (λ (r : Result ReadMember AbstractBreach). option_map (λ gs. fields_marked cs ps gs m) (ok (answer.◌>>=◌ r (then_set n cs fs at os)))) e)

same_step : (member : List ℕ → List ℕ → Slots → Member) (ps : Parts) (cs : Components) (n : ℕ) (places : List ℕ) (fs : Fields) (at : ℕ) (os : List ℕ) (m : Slots) (tag : Option Tag) (x y : Member) (r s : Result ReadMember AbstractBreach)
    → x ≡ y → r ≡ s → Step member ps cs n places fs at os m tag y s → Step member ps cs n places fs at os m tag x r
same_step member ps cs n places fs at os m tag x y r s e f step = rw (e, f) step

abbrev element_of : Components → Fields → Option Tag → ℕ → List ℕ → Result ReadMember AbstractBreach
element_of cs fs last at os = set_element_at cs (part_at cs) fs last at os

-- an element whose component is known, wasn't read, and comes next
kept_step : (member : List ℕ → List ℕ → Slots → Member) (ps : Parts) (cs : Components) (n : ℕ) (places : List ℕ) (fs : Fields) (last : Option Tag) (at o : ℕ) (os : List ℕ) (m : Slots) (h : Head) (j : ℕ) (r : Result AbstractValue AbstractBreach)
    → AllRead member ps cs n → Alike cs ps fs → Reached 0 places fs → Digits (o ∷ os) → length (o ∷ os) < 2 ^ 32 → head_of (o ∷ os) ≡ Ok h → one_with 0 cs h.tag ≡ Some j → follows last h.tag ≡ true → is_filled j fs ≡ false → part_at cs j at h (o ∷ os) ≡ r
    → Step member ps cs n places fs at (o ∷ os) m (Some h.tag) (sent_of (presence_at j cs) (ok r) >>= λ v. Some (j, alternative_marked cs ps j v (filled_marked cs ps fs m), drop (h.size + h.contents) (o ∷ os))) (element_of cs fs last at (o ∷ os))
kept_step member ps cs n places fs last at o os m h j (Err b) later a is digits short e found next free read =
    refused member ps cs n places fs at (o ∷ os) m (Some h.tag) None (element_of cs fs last at (o ∷ os)) (below (step.Component j) b) refl
    (set_element_fails cs (part_at cs) fs last at (o ∷ os) h j b e (place_free cs fs last at h.tag j found next free) read)
kept_step member ps cs n places fs last at o os m h j (Ok v) later a is digits short e found next free read = tested (is_left_out (presence_at j cs) v) refl
  where
    tested : (left : Bool) → is_left_out (presence_at j cs) v ≡ left
        → Step member ps cs n places fs at (o ∷ os) m (Some h.tag) (cond left None (Some v) >>= λ v. Some (j, alternative_marked cs ps j v (filled_marked cs ps fs m), drop (h.size + h.contents) (o ∷ os))) (element_of cs fs last at (o ∷ os))
    tested true left =
        refused member ps cs n places fs at (o ∷ os) m (Some h.tag) None (element_of cs fs last at (o ∷ os)) (below (step.Component j) (fault code.DefaultPresent at)) refl
        (set_element_default cs (part_at cs) fs last at (o ∷ os) h j v e (place_free cs fs last at h.tag j found next free) read left)
    tested false left =
        let size : ℕ = h.size + h.contents in
        let one : ReadMember = (j, v, h) in
        let within : j < component_count cs = (with_tag cs h.tag j found).0 in
        ap (λ (k : Slots). members_at n member (λ places m. absences_at 0 ps places m) (j ∷ places) (Some h.tag) (drop size (o ∷ os)) k) (fill_marked cs ps fs j v m a free)
        ∙ later (j ∷ places) (fill j v fs) (Some h.tag) (at + size) (drop size (o ∷ os)) m (fill_alike cs ps fs j v a)
        (λ k. ap (λ (b : Bool). eqb j (0 + k) || b) (is k) ∙ counted k ∙ sym (filled_now cs ps fs j v k a within)) (digits_drop size (o ∷ os) digits) (omega (arith, short, length-drop size (o ∷ os)))
        ∙ ap (λ (r : Result ReadMember AbstractBreach). option_map (λ gs. fields_marked cs ps gs m) (ok (answer.◌>>=◌ r (then_set n cs fs at (o ∷ os)))))
        (sym (set_element_reads cs (part_at cs) fs last at (o ∷ os) h j v e (place_free cs fs last at h.tag j found next free) read left))
      where
        counted : (k : ℕ) → (eqb j (0 + k) || is_filled k fs) ≡ (eqb j k || is_filled k fs)
        counted k = let same : 0 + k ≡ k = omega arith in ap (λ (n : ℕ). eqb j n || is_filled k fs) same

found_step : (member : List ℕ → List ℕ → Slots → Member) (ps : Parts) (cs : Components) (n : ℕ) (places : List ℕ) (fs : Fields) (last : Option Tag) (at o : ℕ) (os : List ℕ) (m : Slots) (h : Head) (j : ℕ) (follow full : Bool)
    → AllRead member ps cs n → Alike cs ps fs → Reached 0 places fs → Digits (o ∷ os) → length (o ∷ os) < 2 ^ 32 → head_of (o ∷ os) ≡ Ok h → one_with 0 cs h.tag ≡ Some j → follows last h.tag ≡ follow → is_filled j fs ≡ full
    → Step member ps cs n places fs at (o ∷ os) m (cond follow (Some h.tag) None)
    (cond full None (sent_of (presence_at j cs) (ok (part_at cs j at h (o ∷ os))) >>= λ v. Some (j, alternative_marked cs ps j v (filled_marked cs ps fs m), drop (h.size + h.contents) (o ∷ os)))) (element_of cs fs last at (o ∷ os))
found_step member ps cs n places fs last at o os m h j false full later a is digits short e found next free =
    refused member ps cs n places fs at (o ∷ os) m None
    (cond full None (sent_of (presence_at j cs) (ok (part_at cs j at h (o ∷ os))) >>= λ v. Some (j, alternative_marked cs ps j v (filled_marked cs ps fs m), drop (h.size + h.contents) (o ∷ os)))) (element_of cs fs last at (o ∷ os)) (below (step.Component j) (fault code.SetOrder at)) refl
    (set_element_strays cs (part_at cs) fs last at (o ∷ os) h (below (step.Component j) (fault code.SetOrder at)) e (place_descends cs fs last at h.tag j found next))
found_step member ps cs n places fs last at o os m h j true true later a is digits short e found next free =
    refused member ps cs n places fs at (o ∷ os) m (Some h.tag) None (element_of cs fs last at (o ∷ os)) (fault code.UnexpectedTag at) refl
    (set_element_strays cs (part_at cs) fs last at (o ∷ os) h (fault code.UnexpectedTag at) e (place_full cs fs last at h.tag j found next free))
found_step member ps cs n places fs last at o os m h j true false later a is digits short e found next free =
    kept_step member ps cs n places fs last at o os m h j (part_at cs j at h (o ∷ os)) later a is digits short e found next free refl

placed_step : (member : List ℕ → List ℕ → Slots → Member) (ps : Parts) (cs : Components) (n : ℕ) (places : List ℕ) (fs : Fields) (last : Option Tag) (at o : ℕ) (os : List ℕ) (m : Slots) (h : Head) (found : Option ℕ)
    → AllRead member ps cs n → Alike cs ps fs → Reached 0 places fs → Digits (o ∷ os) → length (o ∷ os) < 2 ^ 32 → head_of (o ∷ os) ≡ Ok h → one_with 0 cs h.tag ≡ found
    → Step member ps cs n places fs at (o ∷ os) m (cond (follows last h.tag) (Some h.tag) None) (member_of cs ps 0 places found at h (o ∷ os) (filled_marked cs ps fs m)) (element_of cs fs last at (o ∷ os))
placed_step member ps cs n places fs last at o os m h None later a is digits short e found =
    refused member ps cs n places fs at (o ∷ os) m (cond (follows last h.tag) (Some h.tag) None) None (element_of cs fs last at (o ∷ os)) (fault code.UnexpectedTag at) (no_member member ps n places (cond (follows last h.tag) (Some h.tag) None))
    (set_element_strays cs (part_at cs) fs last at (o ∷ os) h (fault code.UnexpectedTag at) e (place_unknown cs fs last at h.tag found))
placed_step member ps cs n places fs last at o os m h (Some j) later a is digits short e found =
    let first : 0 + j ≡ j = omega arith in
    let sent : Option AbstractValue = sent_of (presence_at j cs) (ok (part_at cs j at h (o ∷ os))) in
    let k : Slots = filled_marked cs ps fs m in
    same_step member ps cs n places fs at (o ∷ os) m (cond (follows last h.tag) (Some h.tag) None) (member_of cs ps 0 places (Some j) at h (o ∷ os) k)
    (cond (is_filled j fs) None (sent >>= λ v. member_with j (drop (h.size + h.contents) (o ∷ os)) (alternative_marked cs ps j v k))) (element_of cs fs last at (o ∷ os)) (element_of cs fs last at (o ∷ os))
    (ap (λ (b : Bool). cond b None (sent >>= λ v. member_with (0 + j) (drop (h.size + h.contents) (o ∷ os)) (alternative_marked cs ps j v k))) (is j)
    ∙ ap (λ (n : ℕ). cond (is_filled j fs) None (sent >>= λ v. member_with n (drop (h.size + h.contents) (o ∷ os)) (alternative_marked cs ps j v k))) first) refl
    (found_step member ps cs n places fs last at o os m h j (follows last h.tag) (is_filled j fs) later a is digits short e found refl refl)

header_step : (member : List ℕ → List ℕ → Slots → Member) (ps : Parts) (cs : Components) (n : ℕ) (places : List ℕ) (fs : Fields) (last : Option Tag) (at o : ℕ) (os : List ℕ) (m : Slots) (r : Result Head Code)
    → MemberLaw member ps cs 0 → AllRead member ps cs n → Alike cs ps fs → Reached 0 places fs → Digits (o ∷ os) → length (o ∷ os) < 2 ^ 32 → head_of (o ∷ os) ≡ r
    → Step member ps cs n places fs at (o ∷ os) m (tag_after last (ok r >>= λ h. Some h.tag)) (member places (o ∷ os) (filled_marked cs ps fs m)) (element_of cs fs last at (o ∷ os))
header_step member ps cs n places fs last at o os m (Err c) law later a is digits short e =
    refused member ps cs n places fs at (o ∷ os) m None (member places (o ∷ os) (filled_marked cs ps fs m)) (element_of cs fs last at (o ∷ os)) (fault c at) refl (set_element_bad cs (part_at cs) fs last at (o ∷ os) c e)
header_step member ps cs n places fs last at o os m (Ok h) law later a is digits short e =
    same_step member ps cs n places fs at (o ∷ os) m (cond (follows last h.tag) (Some h.tag) None) (member places (o ∷ os) (filled_marked cs ps fs m))
    (member_of cs ps 0 places (one_with 0 cs h.tag) at h (o ∷ os) (filled_marked cs ps fs m)) (element_of cs fs last at (o ∷ os)) (element_of cs fs last at (o ∷ os))
    (law places at o os h (filled_marked cs ps fs m) digits short e) refl
    (placed_step member ps cs n places fs last at o os m h (one_with 0 cs h.tag) later a is digits short e refl)

members_read : (member : List ℕ → List ℕ → Slots → Member) (ps : Parts) (cs : Components) → SidesLaw ps cs → MemberLaw member ps cs 0 → (n : ℕ) → AllRead member ps cs n
unfolding members_at set_at
members_read member ps cs sides law n places fs last at [] m a is digits short = absences_read 0 cs ps fs places at m sides a is
members_read member ps cs sides law zero places fs last at (o ∷ os) m a is digits short = refl
members_read member ps cs sides law (suc n) places fs last at (o ∷ os) m a is digits short =
    header_step member ps cs n places fs last at o os m (head_of (o ∷ os)) law (λ places fs last at os m a is digits short. members_read member ps cs sides law n places fs last at os m a is digits short) a is digits short refl

-- from no component
pub set_read : (member : List ℕ → List ℕ → Slots → Member) (ps : Parts) (cs : Components) → SidesLaw ps cs → MemberLaw member ps cs 0 → (at : ℕ) (os : List ℕ) (m : Slots) → Digits os → length os < 2 ^ 32
    → members_at (length os) member (λ places m. absences_at 0 ps places m) [] None os m ≡ option_map (λ gs. fields_marked cs ps gs m) (ok (set_at (length os) cs (part_at cs) (all_absent cs) None at os))
set_read member ps cs sides law at os m digits short =
    ap (members_at (length os) member (λ places m. absences_at 0 ps places m) [] None os) (sym (none_marked cs ps m sides))
    ∙ members_read member ps cs sides law (length os) [] (all_absent cs) None at os m (all_alike cs ps sides) (λ k. sym (none_filled cs k)) digits short
