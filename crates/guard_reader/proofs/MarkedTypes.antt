-- What a pass by a table's nodes tells: the types that have the value are those whose slots haven't failed.
use Rattle.std.proofs.Common.{◌≡◌, ℕ, zero, suc, ◌<◌, ◌≤◌, Bool, true, false, ltb, List, [], ◌∷◌, length, Some, None, refl, sym, ap, ◌∙◌, arith, inl, inr}
use Rattle.std.specs.Prelude.{◌&&◌, ◌⊎◌, not, IsTrue}
use Rattle.std.specs.List.{AllByRecursion}
use Rattle.std.proofs.lemmas.Bool.{ltb-true, ltb-false, lt-ltb, le-ltb}
use Rattle.std.proofs.lemmas.Option.{same_Some}
use Rattle.std.proofs.Math.Bool.{Bool-set}
use Rattle.std.proofs.Math.Logic.{∥∥₁_elim}
use Rattle.guard_model.specs.AbstractType.{AbstractType}
use Rattle.guard_model.specs.AbstractValue.{AbstractValue}
use Rattle.guard_der.specs.Der.{der}
use Rattle.guard_der.specs.Fits.{fits}
use Rattle.guard_der.specs.Breach.{AbstractBreach, IsBreach}
use Rattle.guard_der.specs.Sound.{is_sound}
use Rattle.guard_der.proofs.Types.Messages.{some_answer, never_both}
use Rattle.guard_eval.specs.Member.{is_member}
use Rattle.guard_tables.specs.declared.node_list.Nodes.{Nodes}
use Rattle.guard_tables.specs.declared.slots.Slots.{Slots}
use Rattle.guard_tables.specs.Laws.{has_failed}
use Rattle.guard_tables.specs.Marking.{type_marked}
use Rattle.guard_tables.specs.NodesView.{root_of}
use Rattle.guard_tables.specs.Slots.{none, below, without, has}
use Rattle.guard_tables.specs.StandsFor.{StandsFor}
use Rattle.guard_tables.proofs.SlotRanges.{below_law, without_law}
use Rattle.guard_reader.specs.Judging.{message_judged}
use Rattle.guard_reader.specs.Laws.{MessageLaw}
use Rattle.guard_reader.specs.Marking.{is_in}
use Rattle.guard_reader.proofs.Messages.{message_law}

-- ---- what hasn't failed

less_by_one : (n k : ℕ) (b : Bool) → ltb n k ≡ b → ltb (suc n) (suc k) ≡ b
less_by_one n k true h = let lt = ltb-true n k h in lt-ltb (suc n) (suc k) (omega (arith, lt))
less_by_one n k false h = let le = ltb-false n k h in le-ltb (suc n) (suc k) (omega (arith, le))

twice : (b : Bool) → not (not b) ≡ b
twice true = refl
twice false = refl

not_failed : (types : List AbstractType) (v : AbstractValue) (slot : ℕ) → (ltb slot (length types) && not (has_failed types v slot)) ≡ is_in types v slot
not_failed [] v slot = ap (λ (b : Bool). b && true) (le-ltb slot 0 (omega arith))
not_failed (t ∷ ts) v zero =
    ap (λ (b : Bool). b && not (not (is_member t v))) (lt-ltb 0 (length (t ∷ ts)) (omega arith)) ∙ twice (is_member t v)
not_failed (t ∷ ts) v (suc slot) =
    ap (λ (b : Bool). b && not (has_failed ts v slot)) (less_by_one slot (length ts) (ltb slot (length ts)) refl) ∙ not_failed ts v slot

both_are : (a b c d : Bool) → a ≡ c → b ≡ d → (a && not b) ≡ (c && not d)
both_are a b c d e f = rw (e, f) refl

left_are : (types : List AbstractType) (v : AbstractValue) (failed : Slots) (n : ℕ) → n ≡ length types → n ≤ 256 → ((slot : ℕ) → has failed slot ≡ has_failed types v slot) → (slot : ℕ) → has (without (below n) failed) slot ≡ is_in types v slot
left_are types v failed n is few fails slot =
    without_law (below n) failed slot
    ∙ both_are (has (below n) slot) (has failed slot) (ltb slot (length types)) (has_failed types v slot) (below_law n slot few ∙ ap (λ (k : ℕ). ltb slot k) is) (fails slot)
    ∙ not_failed types v slot

-- ---- of a table's types

-- what is given of a table and of octets
pub record Given (nodes : Nodes) (declared : AbstractType) (rules : List AbstractType) (os : List ℕ) : Type 0 where
  pub stands : ∥ StandsFor nodes declared rules ∥₁
  pub sound : IsTrue (is_sound declared)
  pub few : length rules ≤ 255
  pub digits : AllByRecursion (λ o. o < 256) os

its_law : (nodes : Nodes) (declared : AbstractType) (rules : List AbstractType) (os : List ℕ) → Given nodes declared rules os → StandsFor nodes declared rules → MessageLaw (root_of nodes) declared os
its_law nodes declared rules os g s = message_law (root_of nodes) declared os s.plan g.sound g.digits

-- of the value that the octets encode
members_by : (nodes : Nodes) (declared : AbstractType) (rules : List AbstractType) (os : List ℕ) → Given nodes declared rules os → StandsFor nodes declared rules → (failed : Slots) → message_judged (root_of nodes) os ≡ Some failed
    → (v : AbstractValue) → IsTrue (fits declared v) → der declared v ≡ Some os → (n : ℕ) → n ≡ length (declared ∷ rules) → (slot : ℕ) → has (without (below n) failed) slot ≡ is_in (declared ∷ rules) v slot
members_by nodes declared rules os g s failed e v fit encoded n is =
    let few = g.few in
    let marked : type_marked declared (root_of nodes) v none ≡ failed = same_Some (type_marked declared (root_of nodes) v none) failed (sym ((its_law nodes declared rules os g s).only v fit encoded) ∙ e) in
    left_are (declared ∷ rules) v failed n is (omega (arith, few, is)) (λ slot. ap (λ (m : Slots). has m slot) (sym marked) ∙ s.fails v fit slot)

nothing_once : IsProp ⊥
nothing_once = hlevel

abbrev pub Members : AbstractType → List AbstractType → List ℕ → Slots → Type 0
Members declared rules os members =
    (v : AbstractValue) × IsTrue (fits declared v) × (der declared v ≡ Some os) × ((slot : ℕ) → has members slot ≡ is_in (declared ∷ rules) v slot)

found_in : (nodes : Nodes) (declared : AbstractType) (rules : List AbstractType) (os : List ℕ) → Given nodes declared rules os → (failed : Slots) → message_judged (root_of nodes) os ≡ Some failed → (n : ℕ) → n ≡ length (declared ∷ rules)
    → ((v : AbstractValue) × IsTrue (fits declared v) × (der declared v ≡ Some os)) ⊎ ((b : AbstractBreach) × IsBreach declared os b) → Members declared rules os (without (below n) failed)
found_in nodes declared rules os g failed e n is (inl (v, fit, encoded)) =
    (v, fit, encoded, λ slot. ∥∥₁_elim g.stands (Bool-set (has (without (below n) failed) slot) (is_in (declared ∷ rules) v slot)) (λ s. members_by nodes declared rules os g s failed e v fit encoded n is slot))
found_in nodes declared rules os g failed e n is (inr (b, breach)) =
    absurd (∥∥₁_elim {P = ⊥} g.stands nothing_once (λ s. let f = (its_law nodes declared rules os g s).found failed e in never_both declared os f.0 b g.sound f.1 f.2 breach))

pub members_found : (nodes : Nodes) (declared : AbstractType) (rules : List AbstractType) (os : List ℕ) → Given nodes declared rules os → (failed : Slots) → message_judged (root_of nodes) os ≡ Some failed → (n : ℕ) → n ≡ length (declared ∷ rules)
    → Members declared rules os (without (below n) failed)
members_found nodes declared rules os g failed e n is = found_in nodes declared rules os g failed e n is (some_answer declared os g.digits g.sound)

pub some_found : (nodes : Nodes) (declared : AbstractType) (rules : List AbstractType) (os : List ℕ) → Given nodes declared rules os → message_judged (root_of nodes) os ≡ None → (v : AbstractValue) → IsTrue (fits declared v) → der declared v ≡ Some os → ⊥
some_found nodes declared rules os g e v fit encoded =
    ∥∥₁_elim {P = ⊥} g.stands nothing_once (λ s. let both : None ≡ Some (type_marked declared (root_of nodes) v none) = sym e ∙ (its_law nodes declared rules os g s).only v fit encoded in absurd cc)
