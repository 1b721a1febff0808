-- All that is asked at a node: conjunctions with their own slots, or formulas over slots of the node.
use Rattle.std.proofs.Common.{◌≡◌, ℕ, suc, ◌+◌, ◌<◌, ◌≤◌, Bool, true, false, List, [], ◌∷◌, length, refl, sym, ap, ◌∙◌, arith, inl, inr, IsTrue}
use Rattle.std.specs.Prelude.{not, ◌&&◌, ◌||◌, ◌⊎◌}
use Rattle.std.specs.List.{list_any}
use Rattle.std.proofs.lemmas.Bool.{eq-eqb, ne_eqb}
use Rattle.guard_model.specs.AbstractType.{AbstractKind}
use Rattle.guard_model.specs.AbstractValue.{AbstractValue}
use Rattle.guard_der.specs.Fits.{fits_kind}
use Rattle.guard_tables.specs.declared.slots.Slots.{Slots}
use Rattle.guard_tables.specs.Slots.{none, only, has}
use Rattle.guard_tables.specs.Formulas.{Form, never, fails_where, Implication, failed_unless, implied}
use Rattle.guard_tables.specs.Forms.{Formula, Formulas, formulas, eithers, aside, form, conjoined, forms_from, forms_of, if_conjoined, nothing_yet}
use Rattle.guard_tables.specs.Lay.{implied_of}
use Rattle.guard_tables.specs.Plan.{Body}
use Rattle.guard_tables.specs.Marking.{marked}
use Rattle.guard_tables.specs.Demands.{SlotDemand, Term, meets, demand_fails, demands_fail, terms_fail}
use Rattle.guard_tables.specs.Apt.{AreApt}
use Rattle.guard_tables.specs.OfParts.{terms_at}
use Rattle.guard_tables.proofs.SlotSets.{none_law, only_law}
use Rattle.guard_tables.proofs.Truths.{or_no, not_twice, or_again, has_unless}
use Rattle.guard_tables.proofs.Forming.{Put, form_put, form_none, conjunction}

-- ---- conjunctions

-- no slot is taken before, nor at the next
conjoined_none : (demands : List SlotDemand) (f : Formula) → (conjoined demands f).forms ≡ [] → f.forms ≡ []
conjoined_none [] f e = e
conjoined_none (a ∷ demands) f e = (form_none a.slots a.demand f (conjoined_none demands (form a.slots a.demand f) e)).before

conjoined_fail : (kind : AbstractKind) (demands : List SlotDemand) (f : Formula) → AreApt kind demands → (conjoined demands f).forms ≡ [] → (v : AbstractValue) → IsTrue (fits_kind kind v) → (slot : ℕ)
    → terms_fail slot v (conjoined demands f).terms ≡ (terms_fail slot v f.terms || demands_fail slot v demands)
conjoined_fail kind [] f apt e v fit slot = sym (or_no (terms_fail slot v f.terms))
conjoined_fail kind (a ∷ demands) f apt e v fit slot =
    let g : Formula = form a.slots a.demand f in
    conjoined_fail kind demands g apt.1 e v fit slot
    ∙ ap (λ (b : Bool). b || demands_fail slot v demands) (conjunction kind a.demand a.slots f v apt.0 fit (conjoined_none demands g e) slot)
    ∙ or_again (terms_fail slot v f.terms) (demand_fails slot v a) (demands_fail slot v demands)

-- ---- formulas

abbrev implication_fails : ℕ → (ℕ → Bool) → Implication → Bool
implication_fails slot failed r = has r.slots slot && fails_where r.where_failed failed

abbrev implications_fail : ℕ → (ℕ → Bool) → List Implication → Bool
implications_fail slot failed rs = list_any (implication_fails slot failed) rs

other_slot : (k j : ℕ) → (k ≡ j → ⊥) → has (only k) j ≡ false
other_slot k j ne = only_law k j ∙ ne_eqb k j ne

own_slot : (k : ℕ) → has (only k) k ≡ true
own_slot k = only_law k k ∙ eq-eqb k k refl

-- what is asked of the first of these, with slot k
abbrev first : ℕ → SlotDemand → Formula → Formula
first k a f = form (only k) a.demand (aside f)

forms_up : (kind : AbstractKind) (k : ℕ) (demands : List SlotDemand) (f : Formula) → AreApt kind demands → (v : AbstractValue) → IsTrue (fits_kind kind v) → f.next ≤ (forms_from k demands f).next
forms_up kind k [] f apt v fit = omega arith
forms_up kind k (a ∷ demands) f apt v fit =
    let up = (form_put kind a.demand (only k) (aside f) v apt.0 fit).up in
    let on = forms_up kind (suc k) demands (aside (first k a f)) apt.1 v fit in
    omega (arith, up, on)

-- no slot but those of these demands, from k on, and free ones
abbrev Outside : ℕ → ℕ → List SlotDemand → Formula → Type 0
Outside j k demands f = ((j < k) ⊎ (k + length demands ≤ j)) × ((j < f.next) ⊎ ((forms_from k demands f).next ≤ j))

others_untouched : (kind : AbstractKind) (k : ℕ) (demands : List SlotDemand) (f : Formula) → AreApt kind demands → (v : AbstractValue) → IsTrue (fits_kind kind v)
    → (j : ℕ) → Outside j k demands f → terms_fail j v (forms_from k demands f).terms ≡ terms_fail j v f.terms
others_untouched kind k [] f apt v fit j out = refl
others_untouched kind k (a ∷ demands) f apt v fit j out =
    let g : Formula = first k a f in
    let put : Put (only k) v (aside f) g (meets a.demand v) = form_put kind a.demand (only k) (aside f) v apt.0 fit in
    let up = put.up in
    let on = forms_up kind (suc k) demands (aside g) apt.1 v fit in
    let own : (j < suc k) ⊎ (suc k + length demands ≤ j) = elim out.0 [ inl o ↦ inl (omega (arith, o)) | inr o ↦ inr (omega (arith, o)) ] in
    let rest : (j < g.next) ⊎ ((forms_from (suc k) demands (aside g)).next ≤ j) = elim out.1 [ inl o ↦ inl (omega (arith, o, up)) | inr o ↦ inr o ] in
    let here : (j < f.next) ⊎ (g.next ≤ j) = elim out.1 [ inl o ↦ inl o | inr o ↦ inr (omega (arith, o, on)) ] in
    let ne : k ≡ j → ⊥ = λ e. elim out.0 [ inl o ↦ absurd (omega (arith, o, e)) | inr o ↦ absurd (omega (arith, o, e)) ] in
    others_untouched kind (suc k) demands (aside g) apt.1 v fit j (own, rest) ∙ put.others j (other_slot k j ne) here

-- slots that these take: their own and free ones
abbrev Taken : ℕ → ℕ → List SlotDemand → Formula → Type 0
Taken j k demands f = ((k ≤ j) × (j < k + length demands)) ⊎ ((f.next ≤ j) × (j < (forms_from k demands f).next))

-- What the formulas imply is what the demands fail.
formulas_tell : (kind : AbstractKind) (k : ℕ) (demands : List SlotDemand) (f : Formula) → AreApt kind demands → k + length demands ≤ f.next → (v : AbstractValue) → IsTrue (fits_kind kind v)
    → ((j : ℕ) → Taken j k demands f → terms_fail j v f.terms ≡ false)
    → (failed : ℕ → Bool) → ((j : ℕ) → Taken j k demands f → failed j ≡ terms_fail j v (forms_from k demands f).terms)
    → (slot : ℕ) → implications_fail slot failed (forms_from k demands f).implications ≡ demands_fail slot v demands
formulas_tell kind k [] f apt room v fit unused failed h slot = refl
formulas_tell kind k (a ∷ demands) f apt room v fit unused failed h slot =
    let g : Formula = first k a f in
    let put : Put (only k) v (aside f) g (meets a.demand v) = form_put kind a.demand (only k) (aside f) v apt.0 fit in
    let up = put.up in
    let on = forms_up kind (suc k) demands (aside g) apt.1 v fit in
    let later : List Term = (forms_from (suc k) demands (aside g)).terms in
    let here : (j : ℕ) → Outside j (suc k) demands (aside g) → terms_fail j v later ≡ terms_fail j v g.terms = λ j out. others_untouched kind (suc k) demands (aside g) apt.1 v fit j out in
    let fresh : (j : ℕ) → f.next ≤ j → j < g.next → failed j ≡ terms_fail j v g.terms =
    λ j from to. h j (inr (from, omega (arith, to, on))) ∙ here j (inr (omega (arith, from, room)), inl to) in
    let own : failed k ≡ terms_fail k v g.terms = h k (inl (omega arith, omega arith)) ∙ here k (inl (omega arith), inl (omega (arith, room, up))) in
    let free : (j : ℕ) → f.next ≤ j → j < g.next → (terms_fail j v f.terms ≡ false) × (has (only k) j ≡ false) =
    λ j from to. (unused j (inr (from, omega (arith, to, on))), other_slot k j (λ e. absurd (omega (arith, e, from, room)))) in
    let whole : (failed k || fails_where (eithers g.forms never) failed) ≡ not (meets a.demand v) =
    ap (λ (b : Bool). b || fails_where (eithers g.forms never) failed) own
    ∙ put.tells free failed fresh k (own_slot k)
    ∙ ap (λ (b : Bool). b || not (meets a.demand v)) (unused k (inl (omega arith, omega arith))) in
    let unused_on : (j : ℕ) → Taken j (suc k) demands (aside g) → terms_fail j v g.terms ≡ false =
    λ j place. elim place [
      | inl o ↦
          let from : suc k ≤ j = o.0 in
          let to : j < suc k + length demands = o.1 in
          put.others j (other_slot k j (λ e. absurd (omega (arith, e, from)))) (inl (omega (arith, to, room))) ∙ unused j (inl (omega (arith, from), omega (arith, to)))
      | inr o ↦
          let from : g.next ≤ j = o.0 in
          put.others j (other_slot k j (λ e. absurd (omega (arith, e, from, up, room)))) (inr from) ∙ unused j (inr (omega (arith, from, up), o.1))
    ] in
    let more : (j : ℕ) → Taken j (suc k) demands (aside g) → failed j ≡ terms_fail j v later =
    λ j place. elim place [
      | inl o ↦ h j (inl (omega (arith, o.0), omega (arith, o.1)))
      | inr o ↦ h j (inr (omega (arith, o.0, up), o.1))
    ] in
    ap (λ (b : Bool). (has a.slots slot && b) || implications_fail slot failed (forms_from (suc k) demands (aside g)).implications) whole
    ∙ ap (λ (b : Bool). demand_fails slot v a || b) (formulas_tell kind (suc k) demands (aside g) apt.1 (omega (arith, room, up)) v fit unused_on failed more slot)

has_implied : (rs : List Implication) (inner m : Slots) (slot : ℕ) → has (implied rs inner m) slot ≡ (has m slot || implications_fail slot (has inner) rs)
has_implied [] inner m slot = sym (or_no (has m slot))
has_implied (r ∷ rs) inner m slot =
    let w : Bool = fails_where r.where_failed (has inner) in
    has_implied rs inner (failed_unless (not w) r.slots m) slot
    ∙ ap (λ (b : Bool). b || implications_fail slot (has inner) rs) (has_unless (not w) r.slots m slot ∙ ap (λ (b : Bool). has m slot || (has r.slots slot && b)) (not_twice w))
    ∙ or_again (has m slot) (has r.slots slot && w) (implications_fail slot (has inner) rs)

-- ---- a node

-- a body that fails, besides what has failed, what these tests fail
abbrev pub Tests : AbstractKind → Body → List Term → AbstractValue → Type 0
Tests kind b ts v = (m : Slots) (slot : ℕ) → has (marked kind b v m) slot ≡ (has m slot || terms_fail slot v ts)

-- where there are demands there is an implication
implications_alone : (demands : List SlotDemand) (f : Formula) (k : ℕ) (w : Form) (ws : List Form) → (conjoined demands f).forms ≡ w ∷ ws → f.forms ≡ [] → (g : Formula) (kind : AbstractKind) (b : Body) (v : AbstractValue) (m : Slots)
    → marked kind (implied_of (forms_from k demands g).implications b) v m ≡ implied (forms_from k demands g).implications (marked kind b v none) m
unfolding marked
implications_alone [] f k w ws e none g kind b v m = let no = sym e ∙ none in absurd cc
implications_alone (a ∷ demands) f k w ws e none g kind b v m = refl

abbrev begun : List SlotDemand → Formula
begun demands = nothing_yet (length demands)

node_of : (ws : List Form) (kind : AbstractKind) (demands : List SlotDemand) → (conjoined demands (begun demands)).forms ≡ ws → AreApt kind demands → (b : Body) (v : AbstractValue) → IsTrue (fits_kind kind v)
    → (fs : Formulas) → fs ≡ if_conjoined ws (formulas (conjoined demands (begun demands)).terms [] (conjoined demands (begun demands)).next) (forms_from 0 demands (begun demands))
    → Tests kind b fs.terms v → (m : Slots) (slot : ℕ) → has (marked kind (implied_of fs.implications b) v m) slot ≡ (has m slot || demands_fail slot v demands)
node_of [] kind demands e apt b v fit fs is h m slot =
    ap (λ (gs : Formulas). has (marked kind (implied_of gs.implications b) v m) slot) is
    ∙ h m slot
    ∙ ap (λ (x : Bool). has m slot || x) (ap (λ (gs : Formulas). terms_fail slot v gs.terms) is ∙ conjoined_fail kind demands (begun demands) apt e v fit slot)
node_of (w ∷ ws) kind demands e apt b v fit fs is h m slot =
    let gs : Formulas = forms_from 0 demands (begun demands) in
    ap (λ (gs : Formulas). has (marked kind (implied_of gs.implications b) v m) slot) is
    ∙ ap (λ (x : Slots). has x slot) (implications_alone demands (begun demands) 0 w ws e refl (begun demands) kind b v m)
    ∙ has_implied gs.implications (marked kind b v none) m slot
    ∙ ap (λ (x : Bool). has m slot || x)
    (formulas_tell kind 0 demands (begun demands) apt (omega arith) v fit (λ j place. refl) (has (marked kind b v none))
    (λ j place. h none j ∙ ap (λ (x : Bool). x || terms_fail j v fs.terms) (none_law j) ∙ ap (λ (gs : Formulas). terms_fail j v gs.terms) is) slot)

pub node_laid : (kind : AbstractKind) (demands : List SlotDemand) → AreApt kind demands → (b : Body) (v : AbstractValue) → IsTrue (fits_kind kind v)
    → Tests kind b (terms_at demands) v → (m : Slots) (slot : ℕ) → has (marked kind (implied_of (forms_of demands).implications b) v m) slot ≡ (has m slot || demands_fail slot v demands)
node_laid kind demands apt b v fit h m slot = node_of (conjoined demands (begun demands)).forms kind demands refl apt b v fit (forms_of demands) refl h m slot
