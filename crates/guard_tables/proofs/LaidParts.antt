-- What the nodes of parts fail is what was asked of them at the node of the whole.
use Rattle.std.proofs.Common.{◌≡◌, ℕ, suc, ◌+◌, ◌-◌, Bool, true, false, cond, eqb, leb, List, [], ◌∷◌, ◌++◌, Option, Some, None, refl, sym, ap, ◌∙◌, subst, arith, IsTrue}
use Rattle.std.specs.Prelude.{not, ◌&&◌, ◌||◌, option_map}
use Rattle.std.specs.Option.{is_some}
use Rattle.std.specs.List.{list_any}
use Rattle.std.proofs.lemmas.Bool.{and_parts, eqb-true, leb-true}
use Rattle.std.proofs.lemmas.List.Folds.{list_any-append}
use Rattle.guard_model.specs.AbstractType as type
use Rattle.guard_model.specs.AbstractType.{AbstractType, AbstractKind, AbstractPresence, Components, no_components, component}
use Rattle.guard_model.specs.AbstractValue as value
use Rattle.guard_model.specs.AbstractValue.{AbstractValue, Fields, Items}
use Rattle.guard_model.specs.Components.{component_at}
use Rattle.guard_model.specs.Kinds.{kind_of, element_of, part_of}
use Rattle.guard_model.specs.TypeView.{OneComponent}
use Rattle.guard_der.specs.Fits.{every_fits, may_be_absent}
use Rattle.guard_eval.specs.Elements.{every_item}
use Rattle.guard_eval.specs.Presence.{field_at, if_there}
use Rattle.guard_tables.specs.declared.slots.Slots.{Slots}
use Rattle.guard_tables.specs.Slots.{none, added, has}
use Rattle.guard_tables.specs.Plan.{Plan}
use Rattle.guard_tables.specs.Marking.{absence_marked, items_marked}
use Rattle.guard_tables.specs.Demands.{Demand, SlotDemand, Atom, scalar, equals, sized, spelled, each, within, sent, unsent, Term, meets, demand_fails, demands_fail}
use Rattle.guard_tables.specs.Apt.{AreApt, IsAptFor, Speaks, AllSpeak}
use Rattle.guard_tables.specs.OfParts.{slot_demand, each_in, each_of, within_in, within_of}
use Rattle.guard_tables.specs.Lay.{added_if, is_sent, absent_of, is_unsent, present_of, chosen_of, side_for}
use Rattle.guard_tables.proofs.SlotSets.{none_law, added_law}
use Rattle.guard_tables.proofs.Truths.{or_no, and_yes, and_no, or_again, crossed, nothing_more, has_added_if}
use Rattle.guard_tables.proofs.OwnTests.{inside_passes, inside_fails, inside_fail}

-- ---- what can't be asked

no_demand : (o : Option AbstractType) (d : Demand) → o ≡ None → IsAptFor o d → ⊥
no_demand None d e s = s
no_demand (Some t) d e s = absurd cc

not_there : (o : Option AbstractType) → o ≡ None → IsTrue (is_some o) → ⊥
not_there None e h = absurd cc
not_there (Some t) e h = absurd cc

-- ---- what is asked of parts may be asked of them

each_apt_step : (kind : AbstractKind) (t : AbstractType) → element_of kind ≡ Some t → (k : Slots) (a : Atom) → Speaks kind a → (demands : List SlotDemand) → AreApt (kind_of t) demands → AreApt (kind_of t) (each_in k a ++ demands)
each_apt_step kind t e k (each d) s demands q = (subst (λ (o : Option AbstractType). IsAptFor o d) e s, q)
each_apt_step kind t e k (scalar own c) s demands q = q
each_apt_step kind t e k (equals w) s demands q = q
each_apt_step kind t e k (sized c) s demands q = q
each_apt_step kind t e k (spelled ranges) s demands q = q
each_apt_step kind t e k (within i d) s demands q = q
each_apt_step kind t e k (sent i) s demands q = q
each_apt_step kind t e k (unsent i) s demands q = q

pub each_apt : (kind : AbstractKind) (t : AbstractType) → element_of kind ≡ Some t → (ts : List Term) → AllSpeak kind ts → AreApt (kind_of t) (each_of ts)
each_apt kind t e [] s = tt
each_apt kind t e (x ∷ ts) s = each_apt_step kind t e x.slots x.atom s.0 (each_of ts) (each_apt kind t e ts s.1)

within_apt_here : (b : Bool) (kind : AbstractKind) (t : AbstractType) (i j : ℕ) → eqb j i ≡ b → part_of i kind ≡ Some t → (k : Slots) (d : Demand) → IsAptFor (part_of j kind) d → (demands : List SlotDemand) → AreApt (kind_of t) demands
    → AreApt (kind_of t) (cond b (slot_demand k d ∷ []) [] ++ demands)
within_apt_here true kind t i j same e k d s demands q =
    (subst (λ (o : Option AbstractType). IsAptFor o d) e (subst (λ (n : ℕ). IsAptFor (part_of n kind) d) (eqb-true j i same) s), q)
within_apt_here false kind t i j same e k d s demands q = q

within_apt_step : (kind : AbstractKind) (t : AbstractType) (i : ℕ) → part_of i kind ≡ Some t → (k : Slots) (a : Atom) → Speaks kind a → (demands : List SlotDemand) → AreApt (kind_of t) demands → AreApt (kind_of t) (within_in i k a ++ demands)
within_apt_step kind t i e k (within j d) s demands q = within_apt_here (eqb j i) kind t i j refl e k d s demands q
within_apt_step kind t i e k (scalar own c) s demands q = q
within_apt_step kind t i e k (equals w) s demands q = q
within_apt_step kind t i e k (sized c) s demands q = q
within_apt_step kind t i e k (spelled ranges) s demands q = q
within_apt_step kind t i e k (each d) s demands q = q
within_apt_step kind t i e k (sent j) s demands q = q
within_apt_step kind t i e k (unsent j) s demands q = q

pub within_apt : (kind : AbstractKind) (t : AbstractType) (i : ℕ) → part_of i kind ≡ Some t → (ts : List Term) → AllSpeak kind ts → AreApt (kind_of t) (within_of i ts)
within_apt kind t i e [] s = tt
within_apt kind t i e (x ∷ ts) s = within_apt_step kind t i e x.slots x.atom s.0 (within_of i ts) (within_apt kind t i e ts s.1)

-- ---- elements

no_item_asked : (kind : AbstractKind) → ((i : ℕ) → part_of i kind ≡ None) → (a : Atom) → Speaks kind a → inside_passes a (value.items value.no_items) ≡ true
no_item_asked kind p (each d) s = refl
no_item_asked kind p (scalar own c) s = refl
no_item_asked kind p (equals w) s = refl
no_item_asked kind p (sized c) s = refl
no_item_asked kind p (spelled ranges) s = refl
no_item_asked kind p (within i d) s = refl
no_item_asked kind p (sent i) s = absurd (not_there (part_of i kind) (p i) s)
no_item_asked kind p (unsent i) s = refl

no_item_fails : (kind : AbstractKind) → ((i : ℕ) → part_of i kind ≡ None) → (ts : List Term) → AllSpeak kind ts → (slot : ℕ) → inside_fail slot (value.items value.no_items) ts ≡ false
no_item_fails kind p [] s slot = refl
no_item_fails kind p (t ∷ ts) s slot =
    ap (λ (b : Bool). (has t.slots slot && not b) || inside_fail slot (value.items value.no_items) ts) (no_item_asked kind p t.atom s.0)
    ∙ ap (λ (b : Bool). b || inside_fail slot (value.items value.no_items) ts) (and_no (has t.slots slot))
    ∙ no_item_fails kind p ts s.1 slot

first_or_later : (h x y : Bool) → (h && not (x && y)) ≡ (((h && not x) || false) || (h && not y))
first_or_later true true y = refl
first_or_later true false y = refl
first_or_later false x y = refl

item_step : (k : Slots) (a : Atom) (v : AbstractValue) (vs : Items) (slot : ℕ)
    → (has k slot && not (inside_passes a (value.items (value.item v vs)))) ≡ (demands_fail slot v (each_in k a) || (has k slot && not (inside_passes a (value.items vs))))
item_step k (each d) v vs slot = first_or_later (has k slot) (meets d v) (every_item (meets d) vs)
item_step k (scalar own c) v vs slot = refl
item_step k (equals w) v vs slot = refl
item_step k (sized c) v vs slot = refl
item_step k (spelled ranges) v vs slot = refl
item_step k (within i d) v vs slot = refl
item_step k (sent i) v vs slot = refl
item_step k (unsent i) v vs slot = refl

item_fails : (ts : List Term) (v : AbstractValue) (vs : Items) (slot : ℕ) → inside_fail slot (value.items (value.item v vs)) ts ≡ (demands_fail slot v (each_of ts) || inside_fail slot (value.items vs) ts)
item_fails [] v vs slot = refl
item_fails (t ∷ ts) v vs slot =
    ap (λ (b : Bool). b || inside_fail slot (value.items (value.item v vs)) ts) (item_step t.slots t.atom v vs slot)
    ∙ ap (λ (b : Bool). (demands_fail slot v (each_in t.slots t.atom) || inside_fails slot (value.items vs) t) || b) (item_fails ts v vs slot)
    ∙ crossed (demands_fail slot v (each_in t.slots t.atom)) (inside_fails slot (value.items vs) t) (demands_fail slot v (each_of ts)) (inside_fail slot (value.items vs) ts)
    ∙ ap (λ (b : Bool). b || (inside_fails slot (value.items vs) t || inside_fail slot (value.items vs) ts)) (sym (list_any-append (demand_fails slot v) (each_in t.slots t.atom) (each_of ts)))

-- marks that fail, besides what has failed, what is asked of each value that fits
abbrev pub Marks : (AbstractValue → Bool) → (AbstractValue → Slots → Slots) → List SlotDemand → Type 0
Marks fit mark demands = (v : AbstractValue) → IsTrue (fit v) → (m : Slots) (slot : ℕ) → has (mark v m) slot ≡ (has m slot || demands_fail slot v demands)

pub items_laid : (kind : AbstractKind) → ((i : ℕ) → part_of i kind ≡ None) → (ts : List Term) → AllSpeak kind ts → (fit : AbstractValue → Bool) (mark : AbstractValue → Slots → Slots) → Marks fit mark (each_of ts)
    → (vs : Items) → IsTrue (every_fits fit vs) → (m : Slots) (slot : ℕ) → has (items_marked mark vs m) slot ≡ (has m slot || inside_fail slot (value.items vs) ts)
items_laid kind p ts s fit mark h value.no_items all m slot = sym (or_no (has m slot)) ∙ ap (λ (b : Bool). has m slot || b) (sym (no_item_fails kind p ts s slot))
items_laid kind p ts s fit mark h (value.item v vs) all m slot =
    let q = and_parts (fit v) (every_fits fit vs) all in
    let rest : Bool = inside_fail slot (value.items vs) ts in
    items_laid kind p ts s fit mark h vs q.1 (mark v m) slot
    ∙ ap (λ (b : Bool). b || rest) (h v q.0 m slot)
    ∙ or_again (has m slot) (demands_fail slot v (each_of ts)) rest
    ∙ ap (λ (b : Bool). has m slot || b) (sym (item_fails ts v vs slot))

-- ---- the chosen alternative

within_chosen : (b : Bool) (k m : Slots) (d : Demand) (v : AbstractValue) (slot : ℕ)
    → (has m slot || demands_fail slot v (cond b (slot_demand k d ∷ []) [])) ≡ (has m slot || (has k slot && not (if_there (meets d) (cond b (Some v) None))))
within_chosen true k m d v slot = ap (λ (x : Bool). has m slot || x) (or_no (has k slot && not (meets d v)))
within_chosen false k m d v slot = or_no (has m slot) ∙ nothing_more (has m slot) (has k slot)

sent_chosen : (b : Bool) (k m : Slots) (v : AbstractValue) (slot : ℕ) → (has (added_if (not b) k m) slot || false) ≡ (has m slot || (has k slot && not (is_some (cond b (Some v) None))))
sent_chosen true k m v slot = or_no (has m slot) ∙ nothing_more (has m slot) (has k slot)
sent_chosen false k m v slot = or_no (has (added m k) slot) ∙ added_law m k slot ∙ ap (λ (x : Bool). has m slot || x) (sym (and_yes (has k slot)))

unsent_chosen : (b : Bool) (k m : Slots) (v : AbstractValue) (slot : ℕ) → (has (added_if b k m) slot || false) ≡ (has m slot || (has k slot && not (not (is_some (cond b (Some v) None)))))
unsent_chosen true k m v slot = or_no (has (added_if true k m) slot) ∙ has_added_if true k m slot
unsent_chosen false k m v slot = or_no (has m slot) ∙ nothing_more (has m slot) (has k slot)

other_atom : (k m : Slots) (slot : ℕ) → (has m slot || false) ≡ (has m slot || (has k slot && false))
other_atom k m slot = or_no (has m slot) ∙ nothing_more (has m slot) (has k slot)

chosen_step : (kind : AbstractKind) → element_of kind ≡ None → (i : ℕ) (k m : Slots) (a : Atom) → Speaks kind a → (v : AbstractValue) (slot : ℕ)
    → (has (added_if (is_unsent true i a) k m) slot || demands_fail slot v (within_in i k a)) ≡ (has m slot || (has k slot && not (inside_passes a (value.chosen i v))))
chosen_step kind e i k m (within j d) s v slot = within_chosen (eqb j i) k m d v slot
chosen_step kind e i k m (sent j) s v slot = sent_chosen (eqb j i) k m v slot
chosen_step kind e i k m (unsent j) s v slot = unsent_chosen (eqb j i) k m v slot
chosen_step kind e i k m (each d) s v slot = absurd (no_demand (element_of kind) d e s)
chosen_step kind e i k m (scalar own c) s v slot = other_atom k m slot
chosen_step kind e i k m (equals w) s v slot = other_atom k m slot
chosen_step kind e i k m (sized c) s v slot = other_atom k m slot
chosen_step kind e i k m (spelled ranges) s v slot = other_atom k m slot

-- what is on the left of each step moves to the right of what is there
regrouped : (g x w y r : Bool) → (g || x) ≡ (r || y) → (g || (x || w)) ≡ ((r || w) || y)
regrouped g x w y r e = sym (or_again g x w) ∙ ap (λ (b : Bool). b || w) e ∙ swapped r y w
  where
    swapped : (a b c : Bool) → ((a || b) || c) ≡ ((a || c) || b)
    swapped true b c = refl
    swapped false true true = refl
    swapped false true false = refl
    swapped false false true = refl
    swapped false false false = refl

pub chosen_fails : (kind : AbstractKind) → element_of kind ≡ None → (i : ℕ) (ts : List Term) → AllSpeak kind ts → (v : AbstractValue) (slot : ℕ)
    → (has (chosen_of i ts) slot || demands_fail slot v (within_of i ts)) ≡ inside_fail slot (value.chosen i v) ts
chosen_fails kind e i [] s v slot = or_no (has none slot) ∙ none_law slot
chosen_fails kind e i (t ∷ ts) s v slot =
    let g : Slots = chosen_of i ts in
    let w : Bool = demands_fail slot v (within_of i ts) in
    let f : Bool = inside_fails slot (value.chosen i v) t in
    ap (λ (x : Bool). has (added_if (is_unsent true i t.atom) t.slots g) slot || x) (list_any-append (demand_fails slot v) (within_in i t.slots t.atom) (within_of i ts))
    ∙ regrouped (has (added_if (is_unsent true i t.atom) t.slots g) slot) (demands_fail slot v (within_in i t.slots t.atom)) w f (has g slot) (chosen_step kind e i t.slots g t.atom s.0 v slot)
    ∙ ap (λ (x : Bool). x || f) (chosen_fails kind e i ts s.1 v slot)
    ∙ or_turned (inside_fail slot (value.chosen i v) ts) f
  where
    or_turned : (a b : Bool) → (a || b) ≡ (b || a)
    or_turned true true = refl
    or_turned true false = refl
    or_turned false true = refl
    or_turned false false = refl

-- ---- components

-- the part of which a test speaks
abbrev place_of : Atom → ℕ
place_of (within i d) = i
place_of (sent i) = i
place_of (unsent i) = i
place_of (each d) = 0
place_of (scalar own c) = 0
place_of (equals w) = 0
place_of (sized c) = 0
place_of (spelled ranges) = 0

-- of the parts from this place on
abbrev from_fails : ℕ → ℕ → Fields → Term → Bool
from_fails i slot fs t = leb i (place_of t.atom) && inside_fails slot (value.fields fs) t

abbrev pub from_fail : ℕ → ℕ → Fields → List Term → Bool
from_fail i slot fs ts = list_any (from_fails i slot fs) ts

from_here : (i j : ℕ) → leb i j ≡ (eqb j i || leb (suc i) j)
from_here i j = grind arith

spread_or : (e a f : Bool) → ((e || a) && f) ≡ ((e && f) || (a && f))
spread_or true true true = refl
spread_or true true false = refl
spread_or true false true = refl
spread_or true false false = refl
spread_or false a f = refl

here_or_on : (i j : ℕ) (f : Bool) → ((eqb j i && f) || (leb (suc i) j && f)) ≡ (leb i j && f)
here_or_on i j f = sym (ap (λ (b : Bool). b && f) (from_here i j) ∙ spread_or (eqb j i) (leb (suc i) j) f)

from_zero : (j : ℕ) → leb 0 j ≡ true
from_zero j = grind arith

pub all_from : (ts : List Term) (fs : Fields) (slot : ℕ) → from_fail 0 slot fs ts ≡ inside_fail slot (value.fields fs) ts
all_from [] fs slot = refl
all_from (t ∷ ts) fs slot =
    ap (λ (b : Bool). (b && inside_fails slot (value.fields fs) t) || from_fail 0 slot fs ts) (from_zero (place_of t.atom))
    ∙ ap (λ (b : Bool). inside_fails slot (value.fields fs) t || b) (all_from ts fs slot)

-- ---- a component that is there

nothing_here : (e h m : Bool) → (m || false) ≡ (m || (e && (h && false)))
nothing_here e h true = refl
nothing_here true true false = refl
nothing_here true false false = refl
nothing_here false h false = refl

unsent_there : (e : Bool) (i j : ℕ) (fs : Fields) (v : AbstractValue) (k m : Slots) (slot : ℕ) → eqb j i ≡ e → field_at i fs ≡ Some v
    → (has (added_if e k m) slot || false) ≡ (has m slot || (e && (has k slot && not (not (is_some (field_at j fs))))))
unsent_there true i j fs v k m slot e there =
    or_no (has (added_if true k m) slot) ∙ has_added_if true k m slot
    ∙ ap (λ (o : Option AbstractValue). has m slot || (has k slot && not (not (is_some o)))) (sym there)
    ∙ ap (λ (n : ℕ). has m slot || (has k slot && not (not (is_some (field_at n fs))))) (sym (eqb-true j i e))
unsent_there false i j fs v k m slot e there = refl

within_there : (e : Bool) (i j : ℕ) (fs : Fields) (v : AbstractValue) (k m : Slots) (d : Demand) (slot : ℕ) → eqb j i ≡ e → field_at i fs ≡ Some v
    → (has m slot || demands_fail slot v (cond e (slot_demand k d ∷ []) [])) ≡ (has m slot || (e && (has k slot && not (if_there (meets d) (field_at j fs)))))
within_there true i j fs v k m d slot e there =
    ap (λ (x : Bool). has m slot || x) (or_no (has k slot && not (meets d v)))
    ∙ ap (λ (o : Option AbstractValue). has m slot || (has k slot && not (if_there (meets d) o))) (sym there)
    ∙ ap (λ (n : ℕ). has m slot || (has k slot && not (if_there (meets d) (field_at n fs)))) (sym (eqb-true j i e))
within_there false i j fs v k m d slot e there = refl

sent_there : (e : Bool) (i j : ℕ) (fs : Fields) (v : AbstractValue) (k m : Slots) (slot : ℕ) → eqb j i ≡ e → field_at i fs ≡ Some v
    → (has m slot || false) ≡ (has m slot || (e && (has k slot && not (is_some (field_at j fs)))))
sent_there true i j fs v k m slot e there =
    nothing_here true (has k slot) (has m slot)
    ∙ ap (λ (o : Option AbstractValue). has m slot || (has k slot && not (is_some o))) (sym there)
    ∙ ap (λ (n : ℕ). has m slot || (has k slot && not (is_some (field_at n fs)))) (sym (eqb-true j i e))
sent_there false i j fs v k m slot e there = refl

there_step : (kind : AbstractKind) → element_of kind ≡ None → (i : ℕ) (k m : Slots) (a : Atom) → Speaks kind a → (fs : Fields) (v : AbstractValue) (slot : ℕ) → field_at i fs ≡ Some v
    → (has (added_if (is_unsent false i a) k m) slot || demands_fail slot v (within_in i k a)) ≡ (has m slot || (eqb (place_of a) i && (has k slot && not (inside_passes a (value.fields fs)))))
there_step kind e i k m (within j d) s fs v slot there = within_there (eqb j i) i j fs v k m d slot refl there
there_step kind e i k m (sent j) s fs v slot there = sent_there (eqb j i) i j fs v k m slot refl there
there_step kind e i k m (unsent j) s fs v slot there = unsent_there (eqb j i) i j fs v k m slot refl there
there_step kind e i k m (each d) s fs v slot there = absurd (no_demand (element_of kind) d e s)
there_step kind e i k m (scalar own c) s fs v slot there = nothing_here (eqb 0 i) (has k slot) (has m slot)
there_step kind e i k m (equals w) s fs v slot there = nothing_here (eqb 0 i) (has k slot) (has m slot)
there_step kind e i k m (sized c) s fs v slot there = nothing_here (eqb 0 i) (has k slot) (has m slot)
there_step kind e i k m (spelled ranges) s fs v slot there = nothing_here (eqb 0 i) (has k slot) (has m slot)

shuffled : (g y w z r : Bool) → (((g || w) || y) || (z || r)) ≡ ((y || z) || ((g || w) || r))
shuffled true true w z r = refl
shuffled true false w true r = refl
shuffled true false w false r = refl
shuffled false true true z r = refl
shuffled false true false z r = refl
shuffled false false true true r = refl
shuffled false false true false r = refl
shuffled false false false z r = refl

pub there_fails : (kind : AbstractKind) → element_of kind ≡ None → (i : ℕ) (ts : List Term) → AllSpeak kind ts → (fs : Fields) (v : AbstractValue) (slot : ℕ) → field_at i fs ≡ Some v
    → ((has (present_of i ts) slot || demands_fail slot v (within_of i ts)) || from_fail (suc i) slot fs ts) ≡ from_fail i slot fs ts
there_fails kind e i [] s fs v slot there = ap (λ (b : Bool). (b || false) || false) (none_law slot)
there_fails kind e i (t ∷ ts) s fs v slot there =
    let k : Slots = t.slots in
    let a : Atom = t.atom in
    let g : Slots = present_of i ts in
    let w : Bool = demands_fail slot v (within_of i ts) in
    let r : Bool = from_fail (suc i) slot fs ts in
    let f : Bool = has k slot && not (inside_passes a (value.fields fs)) in
    let y : Bool = eqb (place_of a) i && f in
    let z : Bool = leb (suc i) (place_of a) && f in
    ap (λ (x : Bool). (has (added_if (is_unsent false i a) k g) slot || x) || (z || r)) (list_any-append (demand_fails slot v) (within_in i k a) (within_of i ts))
    ∙ ap (λ (x : Bool). x || (z || r)) (regrouped (has (added_if (is_unsent false i a) k g) slot) (demands_fail slot v (within_in i k a)) w y (has g slot) (there_step kind e i k g a s.0 fs v slot there))
    ∙ shuffled (has g slot) y w z r
    ∙ ap (λ (x : Bool). x || ((has g slot || w) || r)) (here_or_on i (place_of a) f)
    ∙ ap (λ (x : Bool). (leb i (place_of a) && f) || x) (there_fails kind e i ts s.1 fs v slot there)

-- ---- a component that isn't

sent_gone : (e : Bool) (i j : ℕ) (fs : Fields) (k m : Slots) (slot : ℕ) → eqb j i ≡ e → field_at i fs ≡ None → has (added_if e k m) slot ≡ (has m slot || (e && (has k slot && not (is_some (field_at j fs)))))
sent_gone true i j fs k m slot e gone =
    has_added_if true k m slot
    ∙ ap (λ (o : Option AbstractValue). has m slot || (has k slot && not (is_some o))) (sym gone)
    ∙ ap (λ (n : ℕ). has m slot || (has k slot && not (is_some (field_at n fs)))) (sym (eqb-true j i e))
sent_gone false i j fs k m slot e gone = sym (or_no (has m slot))

passed_gone : (e : Bool) (i j : ℕ) (fs : Fields) (k m : Slots) (test : Option AbstractValue → Bool) (slot : ℕ) → eqb j i ≡ e → field_at i fs ≡ None → test None ≡ true
    → has m slot ≡ (has m slot || (e && (has k slot && not (test (field_at j fs)))))
passed_gone true i j fs k m test slot e gone passes =
    nothing_more (has m slot) (has k slot)
    ∙ ap (λ (b : Bool). has m slot || (has k slot && not b)) (sym passes)
    ∙ ap (λ (o : Option AbstractValue). has m slot || (has k slot && not (test o))) (sym gone)
    ∙ ap (λ (n : ℕ). has m slot || (has k slot && not (test (field_at n fs)))) (sym (eqb-true j i e))
passed_gone false i j fs k m test slot e gone passes = sym (or_no (has m slot))

gone_step : (kind : AbstractKind) → element_of kind ≡ None → (i : ℕ) (k m : Slots) (a : Atom) → Speaks kind a → (fs : Fields) (slot : ℕ) → field_at i fs ≡ None
    → has (added_if (is_sent i a) k m) slot ≡ (has m slot || (eqb (place_of a) i && (has k slot && not (inside_passes a (value.fields fs)))))
gone_step kind e i k m (within j d) s fs slot gone = passed_gone (eqb j i) i j fs k m (if_there (meets d)) slot refl gone refl
gone_step kind e i k m (sent j) s fs slot gone = sent_gone (eqb j i) i j fs k m slot refl gone
gone_step kind e i k m (unsent j) s fs slot gone = passed_gone (eqb j i) i j fs k m (λ o. not (is_some o)) slot refl gone refl
gone_step kind e i k m (each d) s fs slot gone = absurd (no_demand (element_of kind) d e s)
gone_step kind e i k m (scalar own c) s fs slot gone = sym (or_no (has m slot)) ∙ nothing_here (eqb 0 i) (has k slot) (has m slot)
gone_step kind e i k m (equals w) s fs slot gone = sym (or_no (has m slot)) ∙ nothing_here (eqb 0 i) (has k slot) (has m slot)
gone_step kind e i k m (sized c) s fs slot gone = sym (or_no (has m slot)) ∙ nothing_here (eqb 0 i) (has k slot) (has m slot)
gone_step kind e i k m (spelled ranges) s fs slot gone = sym (or_no (has m slot)) ∙ nothing_here (eqb 0 i) (has k slot) (has m slot)

moved : (y z g r : Bool) → ((g || y) || (z || r)) ≡ ((y || z) || (g || r))
moved true true true r = refl
moved true true false r = refl
moved true false true r = refl
moved true false false r = refl
moved false true true r = refl
moved false true false r = refl
moved false false true r = refl
moved false false false r = refl

pub gone_fails : (kind : AbstractKind) → element_of kind ≡ None → (i : ℕ) (ts : List Term) → AllSpeak kind ts → (fs : Fields) (slot : ℕ) → field_at i fs ≡ None
    → (has (absent_of i ts) slot || from_fail (suc i) slot fs ts) ≡ from_fail i slot fs ts
gone_fails kind e i [] s fs slot gone = ap (λ (b : Bool). b || false) (none_law slot)
gone_fails kind e i (t ∷ ts) s fs slot gone =
    let k : Slots = t.slots in
    let a : Atom = t.atom in
    let g : Slots = absent_of i ts in
    let r : Bool = from_fail (suc i) slot fs ts in
    let f : Bool = has k slot && not (inside_passes a (value.fields fs)) in
    let y : Bool = eqb (place_of a) i && f in
    let z : Bool = leb (suc i) (place_of a) && f in
    ap (λ (x : Bool). x || (z || r)) (gone_step kind e i k g a s.0 fs slot gone)
    ∙ moved y z (has g slot) r
    ∙ ap (λ (x : Bool). x || (has g slot || r)) (here_or_on i (place_of a) f)
    ∙ ap (λ (x : Bool). (leb i (place_of a) && f) || x) (gone_fails kind e i ts s.1 fs slot gone)

-- ---- the fields and components from a place on

abbrev pub FollowFields : ℕ → Fields → Fields → Type 0
FollowFields i fs rs = (j : ℕ) → field_at (i + j) fs ≡ field_at j rs

abbrev pub FollowTypes : ℕ → Components → AbstractKind → Type 0
FollowTypes i cs kind = (j : ℕ) → part_of (i + j) kind ≡ option_map (λ (c : OneComponent). c.ty) (component_at j cs)

pub after_present : (i : ℕ) (fs rs : Fields) (v : AbstractValue) → FollowFields i fs (value.present v rs) → FollowFields (suc i) fs rs
after_present i fs rs v h j = subst (λ (n : ℕ). field_at n fs ≡ field_at j rs) (omega arith) (h (suc j))

pub after_absent : (i : ℕ) (fs rs : Fields) → FollowFields i fs (value.absent rs) → FollowFields (suc i) fs rs
after_absent i fs rs h j = subst (λ (n : ℕ). field_at n fs ≡ field_at j rs) (omega arith) (h (suc j))

pub after_component : (i : ℕ) (cs : Components) (kind : AbstractKind) (name : List ℕ) (t : AbstractType) (presence : AbstractPresence) → FollowTypes i (component name t presence cs) kind → FollowTypes (suc i) cs kind
after_component i cs kind name t presence h j = subst (λ (n : ℕ). part_of n kind ≡ option_map (λ (c : OneComponent). c.ty) (component_at j cs)) (omega arith) (h (suc j))

pub type_here : (i : ℕ) (cs : Components) (kind : AbstractKind) (name : List ℕ) (t : AbstractType) (presence : AbstractPresence) → FollowTypes i (component name t presence cs) kind → part_of i kind ≡ Some t
type_here i cs kind name t presence h = subst (λ (n : ℕ). part_of n kind ≡ Some t) (omega arith) (h 0)

-- no test speaks of what comes after the last component
after_last : (b : Bool) (i j : ℕ) (kind : AbstractKind) (f : Bool) → leb i j ≡ b → FollowTypes i no_components kind → (part_of j kind ≡ None → ⊥) → (b && f) ≡ false
after_last true i j kind f e h there = absurd (there (subst (λ (n : ℕ). part_of n kind ≡ None) (omega (arith, leb-true i j e)) (h (j - i))))
after_last false i j kind f e h there = refl

nothing_after : (b h : Bool) → (b && (h && false)) ≡ false
nothing_after true h = and_no h
nothing_after false h = refl

end_step : (kind : AbstractKind) → element_of kind ≡ None → (i : ℕ) (k : Slots) (a : Atom) → Speaks kind a → (fs : Fields) (slot : ℕ) → FollowTypes i no_components kind
    → (leb i (place_of a) && (has k slot && not (inside_passes a (value.fields fs)))) ≡ false
end_step kind e i k (within j d) s fs slot h = after_last (leb i j) i j kind (has k slot && not (if_there (meets d) (field_at j fs))) refl h (λ gone. no_demand (part_of j kind) d gone s)
end_step kind e i k (sent j) s fs slot h = after_last (leb i j) i j kind (has k slot && not (is_some (field_at j fs))) refl h (λ gone. not_there (part_of j kind) gone s)
end_step kind e i k (unsent j) s fs slot h = after_last (leb i j) i j kind (has k slot && not (not (is_some (field_at j fs)))) refl h (λ gone. not_there (part_of j kind) gone s)
end_step kind e i k (each d) s fs slot h = absurd (no_demand (element_of kind) d e s)
end_step kind e i k (scalar own c) s fs slot h = nothing_after (leb i 0) (has k slot)
end_step kind e i k (equals w) s fs slot h = nothing_after (leb i 0) (has k slot)
end_step kind e i k (sized c) s fs slot h = nothing_after (leb i 0) (has k slot)
end_step kind e i k (spelled ranges) s fs slot h = nothing_after (leb i 0) (has k slot)

pub at_end : (kind : AbstractKind) → element_of kind ≡ None → (i : ℕ) (ts : List Term) → AllSpeak kind ts → (fs : Fields) (slot : ℕ) → FollowTypes i no_components kind → from_fail i slot fs ts ≡ false
at_end kind e i [] s fs slot h = refl
at_end kind e i (t ∷ ts) s fs slot h = ap (λ (b : Bool). b || from_fail i slot fs ts) (end_step kind e i t.slots t.atom s.0 fs slot h) ∙ at_end kind e i ts s.1 fs slot h

-- ---- what is said of a component

pub present_is : (t : AbstractType) (presence : AbstractPresence) (p : Plan) (absent present : Slots) → (side_for t presence p absent present).present ≡ present
present_is t type.mandatory p absent present = refl
present_is t type.optional p absent present = refl
present_is t type.pending p absent present = refl
present_is t (type.default d) p absent present = refl

pub absence_is : (t : AbstractType) (presence : AbstractPresence) (p : Plan) (absent present m : Slots) → may_be_absent presence ≡ true → absence_marked (side_for t presence p absent present).absent m ≡ added m absent
absence_is t type.optional p absent present m e = refl
absence_is t presence p absent present m e = absurd cc
