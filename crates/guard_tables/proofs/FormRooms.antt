-- What loops over constraints and demands put together, and that there is room for the slots of those that are left.
use Rattle.std.proofs.Common.{◌≡◌, ℕ, suc, ◌+◌, ◌<◌, ◌≤◌, true, false, List, [], ◌∷◌, ◌++◌, length, get_or, map, drop, refl, sym, ap, ◌∙◌, append_assoc, add-one, arith}
use Rattle.std.proofs.lemmas.List.{at_drop_more, map-append}
use Rattle.guard_model.specs.AbstractType as type
use Rattle.guard_model.specs.AbstractType.{AbstractKind, Constraint, Constraints}
use Rattle.guard_model.specs.TypeView.{constraint_view, constraints_of}
use Rattle.guard_model.specs.declared.ty.Cons.{Cons}
use Rattle.guard_tables.specs.declared.demands.SlotDemand as code
use Rattle.guard_tables.specs.declared.node.Form as node
use Rattle.guard_tables.specs.declared.node.Implication as implication
use Rattle.guard_tables.specs.declared.slots.Slots.{Slots}
use Rattle.guard_tables.specs.Slots.{only}
use Rattle.guard_tables.specs.Demands.{SlotDemand, Term}
use Rattle.guard_tables.specs.Formulas.{Form, Implication}
use Rattle.guard_tables.specs.Forms.{Formula, Formulas, aside, own_form, form_one, form_element, form_all, form_each, form_own, form, conjoined, and_implication, implication_of, forms_from, nothing_yet}
use Rattle.guard_tables.specs.NodeViews.{form_view, implication_view}
use Rattle.guard_tables.specs.inside.DemandViews.{demand_view, slot_demands_view}
use Rattle.guard_tables.proofs.SlotCounts.{all_up, each_up, own_up, conjoined_up, forms_up}

abbrev pub rest_of : List Cons → Constraints
rest_of cs = constraints_of (map constraint_view cs)

-- a function of the constraints that are left, at the next of them
next_of : {A : Type 0} (f : Constraints → A) (cs : List Cons) (i : ℕ) (c : Cons) → i < length cs → c ≡ get_or cs i c → f (rest_of (drop i cs)) ≡ f (rest_of (c ∷ drop (i + 1) cs))
next_of f cs i c lt is = at_drop_more (λ (ds : List Cons). f (rest_of ds)) cs i c lt ∙ ap (λ (d : Cons). f (rest_of (d ∷ drop (i + 1) cs))) (sym is)

pub all_so_far : (k : Slots) (kind : AbstractKind) (cs : List Cons) (i : ℕ) (c : Cons) (f g all : Formula) → i < length cs → c ≡ get_or cs i c → g ≡ form_one k kind (constraint_view c) f
    → form_all k kind (rest_of (drop i cs)) f ≡ all → form_all k kind (rest_of (drop (i + 1) cs)) g ≡ all
all_so_far k kind cs i c f g all lt is same so_far = ap (form_all k kind (rest_of (drop (i + 1) cs))) same ∙ sym (next_of (λ ds. form_all k kind ds f) cs i c lt is) ∙ so_far

pub all_room : (k : Slots) (kind : AbstractKind) (cs : List Cons) (i : ℕ) (c : Cons) (f all : Formula) → i < length cs → c ≡ get_or cs i c → form_all k kind (rest_of (drop i cs)) f ≡ all → all.next ≤ 256
    → (form_one k kind (constraint_view c) f).next ≤ 256
all_room k kind cs i c f all lt is so_far room =
    let g : Formula = form_one k kind (constraint_view c) f in
    let e : (form_all k kind (rest_of (drop (i + 1) cs)) g).next ≡ all.next = ap (λ (h : Formula). h.next) (all_so_far k kind cs i c f g all lt is refl so_far) in
    let p = all_up k kind (rest_of (drop (i + 1) cs)) g in
    omega (arith, e, p, room)

pub each_so_far : (kind : AbstractKind) (cs : List Cons) (i : ℕ) (c : Cons) (f g all : Formula) → i < length cs → c ≡ get_or cs i c → g ≡ form_own false kind (constraint_view c) f
    → form_each kind (rest_of (drop i cs)) f ≡ all → form_each kind (rest_of (drop (i + 1) cs)) g ≡ all
each_so_far kind cs i c f g all lt is same so_far = ap (form_each kind (rest_of (drop (i + 1) cs))) same ∙ sym (next_of (λ ds. form_each kind ds f) cs i c lt is) ∙ so_far

pub each_room : (kind : AbstractKind) (cs : List Cons) (i : ℕ) (c : Cons) (f all : Formula) → i < length cs → c ≡ get_or cs i c → form_each kind (rest_of (drop i cs)) f ≡ all → all.next ≤ 256
    → (form_own false kind (constraint_view c) f).next ≤ 256
each_room kind cs i c f all lt is so_far room =
    let g : Formula = form_own false kind (constraint_view c) f in
    let e : (form_each kind (rest_of (drop (i + 1) cs)) g).next ≡ all.next = ap (λ (h : Formula). h.next) (each_so_far kind cs i c f g all lt is refl so_far) in
    let p = each_up kind (rest_of (drop (i + 1) cs)) g in
    omega (arith, e, p, room)

pub minus_room : (k : Slots) (kind : AbstractKind) (a b : Constraint) (f : Formula) → (form_element k kind (type.except a b) f).next ≤ 256 → (form_one k kind a f).next ≤ 256
minus_room k kind a b f room = let p = own_up true kind b (form_one k kind a f) in omega (arith, p, room)

-- ---- demands

next_demand : {A : Type 0} (f : List code.SlotDemand → A) (demands : List code.SlotDemand) (i : ℕ) (a : code.SlotDemand) → i < length demands → a ≡ get_or demands i a → f (drop i demands) ≡ f (a ∷ drop (i + 1) demands)
next_demand f demands i a lt is = at_drop_more f demands i a lt ∙ ap (λ (b : code.SlotDemand). f (b ∷ drop (i + 1) demands)) (sym is)

pub conjoined_so_far : (demands : List code.SlotDemand) (i : ℕ) (a : code.SlotDemand) (f g all : Formula) → i < length demands → a ≡ get_or demands i a → g ≡ form a.slots (demand_view a.demand) f
    → conjoined (slot_demands_view (drop i demands)) f ≡ all → conjoined (slot_demands_view (drop (i + 1) demands)) g ≡ all
conjoined_so_far demands i a f g all lt is same so_far = ap (conjoined (slot_demands_view (drop (i + 1) demands))) same ∙ sym (next_demand (λ xs. conjoined (slot_demands_view xs) f) demands i a lt is) ∙ so_far

pub conjoined_room : (demands : List code.SlotDemand) (i : ℕ) (a : code.SlotDemand) (f all : Formula) → i < length demands → a ≡ get_or demands i a → conjoined (slot_demands_view (drop i demands)) f ≡ all → all.next ≤ 256
    → (form a.slots (demand_view a.demand) f).next ≤ 256
conjoined_room demands i a f all lt is so_far room =
    let g : Formula = form a.slots (demand_view a.demand) f in
    let e : (conjoined (slot_demands_view (drop (i + 1) demands)) g).next ≡ all.next = ap (λ (h : Formula). h.next) (conjoined_so_far demands i a f g all lt is refl so_far) in
    let p = conjoined_up (slot_demands_view (drop (i + 1) demands)) g in
    omega (arith, e, p, room)

-- with a slot of its own, the first that is left
own_more : (i own : ℕ) (demands : List code.SlotDemand) (a : code.SlotDemand) (f g : Formula) → i < length demands → a ≡ get_or demands i a → own ≡ i → g ≡ aside (form (only own) (demand_view a.demand) (aside f))
    → forms_from i (slot_demands_view (drop i demands)) f ≡ and_implication (implication_of i a.slots (form (only own) (demand_view a.demand) (aside f))) (forms_from (i + 1) (slot_demands_view (drop (i + 1) demands)) g)
own_more i own demands a f g lt is place same =
    let rest : List SlotDemand = slot_demands_view (drop (i + 1) demands) in
    next_demand (λ xs. forms_from i (slot_demands_view xs) f) demands i a lt is
    ∙ ap (λ (h : Formula). and_implication (implication_of i a.slots h) (forms_from (suc i) rest (aside h))) (ap (λ (k : ℕ). form (only k) (demand_view a.demand) (aside f)) (sym place))
    ∙ ap (λ (h : Formula). and_implication (implication_of i a.slots (form (only own) (demand_view a.demand) (aside f))) (forms_from (suc i) rest h)) (sym same)
    ∙ ap (λ (j : ℕ). and_implication (implication_of i a.slots (form (only own) (demand_view a.demand) (aside f))) (forms_from j rest g)) (sym (add-one i))

pub terms_more : (i own : ℕ) (demands : List code.SlotDemand) (a : code.SlotDemand) (f g : Formula) (total : List Term) → i < length demands → a ≡ get_or demands i a → own ≡ i → g ≡ aside (form (only own) (demand_view a.demand) (aside f))
    → (forms_from i (slot_demands_view (drop i demands)) f).terms ≡ total → (forms_from (i + 1) (slot_demands_view (drop (i + 1) demands)) g).terms ≡ total
terms_more i own demands a f g total lt is place same so_far = sym (ap (λ (x : Formulas). x.terms) (own_more i own demands a f g lt is place same)) ∙ so_far

pub implications_more : (i own : ℕ) (demands : List code.SlotDemand) (a : code.SlotDemand) (f g : Formula) (total : List Implication) (rs qs : List implication.Implication) (r : node.Form) → i < length demands → a ≡ get_or demands i a → own ≡ i
    → g ≡ aside (form (only own) (demand_view a.demand) (aside f)) → form_view r ≡ own_form own (form (only own) (demand_view a.demand) (aside f)).forms → qs ≡ rs ++ record { slots = a.slots; where_failed = r } ∷ []
    → map implication_view rs ++ (forms_from i (slot_demands_view (drop i demands)) f).implications ≡ total → map implication_view qs ++ (forms_from (i + 1) (slot_demands_view (drop (i + 1) demands)) g).implications ≡ total
implications_more i own demands a f g total rs qs r lt is place same fails more so_far =
    let rest : List Implication = (forms_from (i + 1) (slot_demands_view (drop (i + 1) demands)) g).implications in
    let code_implication : implication.Implication = record { slots = a.slots; where_failed = r } in
    ap (λ (xs : List implication.Implication). map implication_view xs ++ rest) more
    ∙ ap (λ (xs : List Implication). xs ++ rest) (map-append implication_view rs (code_implication ∷ []))
    ∙ append_assoc (map implication_view rs) (implication_view code_implication ∷ []) rest
    ∙ ap (λ (x : Form). map implication_view rs ++ record { slots = a.slots; where_failed = x } ∷ rest) (fails ∙ ap (λ (k : ℕ). own_form k (form (only own) (demand_view a.demand) (aside f)).forms) place)
    ∙ sym (ap (λ (x : Formulas). map implication_view rs ++ x.implications) (own_more i own demands a f g lt is place same)) ∙ so_far

pub next_more : (i own : ℕ) (demands : List code.SlotDemand) (a : code.SlotDemand) (f g : Formula) (total : ℕ) → i < length demands → a ≡ get_or demands i a → own ≡ i → g ≡ aside (form (only own) (demand_view a.demand) (aside f))
    → (forms_from i (slot_demands_view (drop i demands)) f).next ≡ total → (forms_from (i + 1) (slot_demands_view (drop (i + 1) demands)) g).next ≡ total
next_more i own demands a f g total lt is place same so_far = sym (ap (λ (x : Formulas). x.next) (own_more i own demands a f g lt is place same)) ∙ so_far

pub own_room : (i own : ℕ) (demands : List code.SlotDemand) (a : code.SlotDemand) (f : Formula) (total : ℕ) → i < length demands → a ≡ get_or demands i a → own ≡ i → (forms_from i (slot_demands_view (drop i demands)) f).next ≡ total → total ≤ 256
    → (form (only own) (demand_view a.demand) (aside f)).next ≤ 256
own_room i own demands a f total lt is place so_far room =
    let g : Formula = aside (form (only own) (demand_view a.demand) (aside f)) in
    let e = next_more i own demands a f g total lt is place refl so_far in
    let p = forms_up (i + 1) (slot_demands_view (drop (i + 1) demands)) g in
    omega (arith, e, p, room)

pub place_room : (i : ℕ) (demands : List code.SlotDemand) → i < length demands → (forms_from 0 (slot_demands_view demands) (nothing_yet (length demands))).next ≤ 256 → i < 256
place_room i demands lt room = let p = forms_up 0 (slot_demands_view demands) (nothing_yet (length demands)) in omega (arith, p, lt, room)
