-- The search finds the first clash of a type, and none only where all tags that must differ do.
use Rattle.std.proofs.Common.{◌≡◌, ℕ, zero, suc, ◌+◌, ◌<◌, ◌≤◌, Bool, true, false, List, [], ◌∷◌, Some, None, ◌⊎◌, inl, inr, refl, sym, ap, ◌∙◌, arith}
use Rattle.guard_model.specs.declared.tag.Tag.{Tag}
use Rattle.guard_model.specs.declared.site.Step.{Step}
use Rattle.guard_model.specs.declared.site.Step.TheVariants.{Component, Element}
use Rattle.guard_model.specs.AbstractType as type
use Rattle.guard_model.specs.AbstractType.{AbstractType, AbstractKind, AbstractPresence, Components, Constraints, type_of, no_components, component}
use Rattle.guard_tagcheck.specs.Distinct.{component_type, part_at, Collide, CollideAt, Distinct, AbstractClash, Before, IsClash}
use Rattle.guard_tagcheck.specs.Search.{first_pair, first_clash, clash_of_kind, clash_inside, here, inside, below}
use Rattle.std.specs.Option.{option_or}
use Rattle.std.proofs.lemmas.Option.{same_Some, none-some}
use Rattle.std.proofs.lemmas.Bool.{cases_order}
use Rattle.guard_model.proofs.Options.{option_or_some, option_or_none}
use Rattle.guard_tagcheck.proofs.Options.{inside_some, inside_none, here_some, here_none, clash_here}
use Rattle.guard_tagcheck.proofs.LeastPairs.{pair_some, pair_none}
use Rattle.guard_tagcheck.proofs.Collisions.{Agrees, PartsAre, PartIs, sequence_agrees, set_agrees, choice_agrees, sequence_part, set_part, choice_part, sequence_of_part, set_of_part, collide_here, collide_inside, collide_round, collide_moved, distinct_moved, clash_moved}

-- ---- where nothing is found

list_none : (tags : List Tag) (kind : AbstractKind) (cons : Constraints) (s : Bool) (cs : Components) → Agrees (type_of tags kind cons) s cs → PartsAre kind cs
    → first_pair s 0 cs ≡ None → ((d : ℕ) (v : AbstractType) → component_type d cs ≡ Some v → Distinct v) → Distinct (type_of tags kind cons)
list_none tags kind cons s cs agrees parts none inner [] i j p = pair_none s 0 cs none i j (agrees.0 i j (collide_here (type_of tags kind cons) i j p))
list_none tags kind cons s cs agrees parts none inner (step ∷ path) i j p =
    let v = collide_inside tags kind cons step path i j p in
    let d = parts.0 step v.0 v.1 in
    inner d.0 v.0 d.2 path i j v.2

part_none : (tags : List Tag) (kind : AbstractKind) (cons : Constraints) (t : AbstractType) → ((i j : ℕ) → Collide (type_of tags kind cons) i j → ⊥) → PartIs kind t
    → Distinct t → Distinct (type_of tags kind cons)
part_none tags kind cons t none part inner [] i j p = none i j (collide_here (type_of tags kind cons) i j p)
part_none tags kind cons t none part inner (step ∷ path) i j p =
    let v = collide_inside tags kind cons step path i j p in
    inner path i j (collide_moved t v.0 (part step v.0 v.1).1 path i j v.2)

leaf_none : (tags : List Tag) (kind : AbstractKind) (cons : Constraints) → ((i j : ℕ) → Collide (type_of tags kind cons) i j → ⊥) → ((s : Step) → part_at kind s ≡ None) → Distinct (type_of tags kind cons)
leaf_none tags kind cons none parts [] i j p = none i j (collide_here (type_of tags kind cons) i j p)
leaf_none tags kind cons none parts (step ∷ path) i j p =
    let v = collide_inside tags kind cons step path i j p in
    absurd (none-some v.0 (sym (parts step) ∙ v.1))

mutual
  pub type_none : (t : AbstractType) → first_clash t ≡ None → Distinct t
  type_none (type_of tags kind cons) e = kind_none tags kind cons e

  kind_none : (tags : List Tag) (kind : AbstractKind) (cons : Constraints) → clash_of_kind kind ≡ None → Distinct (type_of tags kind cons)
  kind_none tags (type.sequence cs) cons e =
      let n = option_or_none (here (first_pair true 0 cs)) (clash_inside 0 cs) e in
      list_none tags (type.sequence cs) cons true cs (sequence_agrees tags cs cons) (sequence_part cs, λ i. refl) (here_none (first_pair true 0 cs) n.0) (inside_all 0 cs n.1)
  kind_none tags (type.set cs) cons e =
      let n = option_or_none (here (first_pair false 0 cs)) (clash_inside 0 cs) e in
      list_none tags (type.set cs) cons false cs (set_agrees tags cs cons) (set_part cs, λ i. refl) (here_none (first_pair false 0 cs) n.0) (inside_all 0 cs n.1)
  kind_none tags (type.choice cs) cons e =
      let n = option_or_none (here (first_pair false 0 cs)) (clash_inside 0 cs) e in
      list_none tags (type.choice cs) cons false cs (choice_agrees tags cs cons) (choice_part cs, λ i. refl) (here_none (first_pair false 0 cs) n.0) (inside_all 0 cs n.1)
  kind_none tags (type.sequence_of t) cons e = part_none tags (type.sequence_of t) cons t (λ i j p. p.0) (sequence_of_part t) (type_none t (inside_none (Element 0) (first_clash t) e))
  kind_none tags (type.set_of t) cons e = part_none tags (type.set_of t) cons t (λ i j p. p.0) (set_of_part t) (type_none t (inside_none (Element 0) (first_clash t) e))
  kind_none tags type.boolean cons e = leaf_none tags type.boolean cons (λ i j p. p.0) (λ s. refl)
  kind_none tags (type.integer ns) cons e = leaf_none tags (type.integer ns) cons (λ i j p. p.0) (λ s. refl)
  kind_none tags (type.bit_string ns) cons e = leaf_none tags (type.bit_string ns) cons (λ i j p. p.0) (λ s. refl)
  kind_none tags type.octet_string cons e = leaf_none tags type.octet_string cons (λ i j p. p.0) (λ s. refl)
  kind_none tags type.null cons e = leaf_none tags type.null cons (λ i j p. p.0) (λ s. refl)
  kind_none tags type.object_identifier cons e = leaf_none tags type.object_identifier cons (λ i j p. p.0) (λ s. refl)
  kind_none tags (type.enumerated ns) cons e = leaf_none tags (type.enumerated ns) cons (λ i j p. p.0) (λ s. refl)
  kind_none tags (type.characters k) cons e = leaf_none tags (type.characters k) cons (λ i j p. p.0) (λ s. refl)

  inside_all : (i : ℕ) (cs : Components) → clash_inside i cs ≡ None → (d : ℕ) (v : AbstractType) → component_type d cs ≡ Some v → Distinct v
  inside_all i no_components e d v is = absurd cc
  inside_all i (component name t presence rest) e zero v is =
      distinct_moved t v (same_Some t v is) (type_none t (inside_none (Component i) (first_clash t) (option_or_none (inside (Component i) (first_clash t)) (clash_inside (suc i) rest) e).0))
  inside_all i (component name t presence rest) e (suc d) v is =
      inside_all (suc i) rest (option_or_none (inside (Component i) (first_clash t)) (clash_inside (suc i) rest) e).1 d v is

-- ---- where something is found

-- a clash of one of these components, of which the first is component i, and none before it
abbrev InsideFirst : ℕ → Components → AbstractClash → Type 0
InsideFirst i cs c =
    (d : ℕ) × (v : AbstractType) × (b : AbstractClash)
    × (component_type d cs ≡ Some v) × IsClash v b × (c ≡ below (Component (i + d)) b)
    × ((e : ℕ) (w : AbstractType) → e < d → component_type e cs ≡ Some w → Distinct w)

before_later : (name : List ℕ) (t : AbstractType) (presence : AbstractPresence) (rest : Components) (d : ℕ) → Distinct t
    → ((e : ℕ) (w : AbstractType) → e < d → component_type e rest ≡ Some w → Distinct w)
    → (e : ℕ) (w : AbstractType) → e < suc d → component_type e (component name t presence rest) ≡ Some w → Distinct w
before_later name t presence rest d first others zero w lt is = distinct_moved t w (same_Some t w is) first
before_later name t presence rest d first others (suc e) w lt is = others e w (omega (arith, lt)) is

first_here : (t : AbstractType) (s : Bool) (cs : Components) (c : AbstractClash) → Agrees t s cs → here (first_pair s 0 cs) ≡ Some c → IsClash t c
first_here t s cs c agrees e =
    let p = here_some (first_pair s 0 cs) c e in
    let m = pair_some s 0 cs p.0 p.1 in
    let first : p.0.0 ≡ m.0 = omega (arith, m.2) in
    let second : p.0.1 ≡ m.1 = omega (arith, m.3) in
    let is : c ≡ clash_here (m.0, m.1) = p.2 ∙ ap (λ (n : ℕ). clash_here (n, p.0.1)) first ∙ ap (λ (n : ℕ). clash_here (m.0, n)) second in
    clash_moved t c (clash_here (m.0, m.1)) is ((t, refl, agrees.1 m.0 m.1 m.4), nothing_before, λ i j x. m.5 i j (agrees.0 i j (collide_here t i j x)))
  where
    nothing_before : (path : List Step) (i j : ℕ) → CollideAt t path i j → ([] ≡ path) ⊎ Before [] path
    nothing_before [] i j x = inl refl
    nothing_before (r ∷ path) i j x = inr tt

same_part : (cs : Components) (d e : ℕ) (v w : AbstractType) → d ≡ e → component_type d cs ≡ Some v → component_type e cs ≡ Some w → v ≡ w
same_part cs d e v w is at there = same_Some v w (sym at ∙ ap (λ (k : ℕ). component_type k cs) is ∙ there)

in_order : (cs : Components) (d : ℕ) (v : AbstractType) (b : AbstractClash) → component_type d cs ≡ Some v → IsClash v b
    → ((e : ℕ) (w : AbstractType) → e < d → component_type e cs ≡ Some w → Distinct w)
    → (e : ℕ) (w : AbstractType) (path : List Step) (i j : ℕ) → component_type e cs ≡ Some w → CollideAt w path i j
    → (Component d ∷ b.path ≡ Component e ∷ path) ⊎ Before (Component d ∷ b.path) (Component e ∷ path)
in_order cs d v b at clash earlier e w path i j there x = elim (cases_order d e) [
  | inl is ↦ elim (clash.1 path i j (collide_moved v w (same_part cs d e v w is at there) path i j x)) [
    | inl same ↦ inl (ap (λ (k : ℕ). Component k ∷ b.path) is ∙ ap (λ (p : List Step). Component e ∷ p) same)
    | inr before ↦ inr (inr (ap (λ (k : ℕ). Component k) is, before))
  ]
  | inr (inl lt) ↦ inr (inl lt)
  | inr (inr gt) ↦ absurd (earlier e w gt there path i j x)
]

at_step : (c : List Step) (s r : Step) (path : List Step) → s ≡ r → (c ≡ r ∷ path) ⊎ Before c (r ∷ path) → (c ≡ s ∷ path) ⊎ Before c (s ∷ path)
at_step c s r path e x = rw e x

first_inside : (tags : List Tag) (kind : AbstractKind) (cons : Constraints) (s : Bool) (cs : Components) (c : AbstractClash) → Agrees (type_of tags kind cons) s cs → PartsAre kind cs
    → first_pair s 0 cs ≡ None → InsideFirst 0 cs c → IsClash (type_of tags kind cons) c
first_inside tags kind cons s cs c agrees parts none (d, v, b, at, clash, is, earlier) =
    let here : 0 + d ≡ d = omega arith in
    clash_moved (type_of tags kind cons) c (below (Component d) b) (is ∙ ap (λ (k : ℕ). below (Component k) b) here)
    (collide_round tags kind cons (Component d) b.path v b.first b.second (parts.1 d ∙ at) clash.0, ordered, least)
  where
    ordered : (path : List Step) (i j : ℕ) → CollideAt (type_of tags kind cons) path i j → (Component d ∷ b.path ≡ path) ⊎ Before (Component d ∷ b.path) path
    ordered [] i j x = absurd (pair_none s 0 cs none i j (agrees.0 i j (collide_here (type_of tags kind cons) i j x)))
    ordered (r ∷ path) i j x =
        let w = collide_inside tags kind cons r path i j x in
        let e = parts.0 r w.0 w.1 in
        at_step (Component d ∷ b.path) r (Component e.0) path e.1 (in_order cs d v b at clash earlier e.0 w.0 path i j e.2 w.2)

    least : (i j : ℕ) → CollideAt (type_of tags kind cons) (Component d ∷ b.path) i j → (b.first < i) ⊎ ((b.first ≡ i) × (b.second ≤ j))
    least i j x =
        let w = collide_inside tags kind cons (Component d) b.path i j x in
        clash.2 i j (collide_moved v w.0 (same_part cs d d v w.0 refl at (sym (parts.1 d) ∙ w.1)) b.path i j w.2)

list_some : (tags : List Tag) (kind : AbstractKind) (cons : Constraints) (s : Bool) (cs : Components) (c : AbstractClash) → Agrees (type_of tags kind cons) s cs → PartsAre kind cs
    → ((b : AbstractClash) → clash_inside 0 cs ≡ Some b → InsideFirst 0 cs b) → option_or (here (first_pair s 0 cs)) (clash_inside 0 cs) ≡ Some c → IsClash (type_of tags kind cons) c
list_some tags kind cons s cs c agrees parts inner e = elim (option_or_some (here (first_pair s 0 cs)) (clash_inside 0 cs) c e) [
  | inl pair ↦ first_here (type_of tags kind cons) s cs c agrees pair
  | inr (none, deeper) ↦ first_inside tags kind cons s cs c agrees parts (here_none (first_pair s 0 cs) none) (inner c deeper)
]

part_some : (tags : List Tag) (kind : AbstractKind) (cons : Constraints) (t : AbstractType) (c b : AbstractClash) → ((i j : ℕ) → Collide (type_of tags kind cons) i j → ⊥) → PartIs kind t
    → part_at kind (Element 0) ≡ Some t → IsClash t b → c ≡ below (Element 0) b → IsClash (type_of tags kind cons) c
part_some tags kind cons t c b none part there clash is =
    clash_moved (type_of tags kind cons) c (below (Element 0) b) is (collide_round tags kind cons (Element 0) b.path t b.first b.second there clash.0, ordered, least)
  where
    ordered : (path : List Step) (i j : ℕ) → CollideAt (type_of tags kind cons) path i j → (Element 0 ∷ b.path ≡ path) ⊎ Before (Element 0 ∷ b.path) path
    ordered [] i j x = absurd (none i j (collide_here (type_of tags kind cons) i j x))
    ordered (r ∷ path) i j x =
        let w = collide_inside tags kind cons r path i j x in
        let e = part r w.0 w.1 in
        at_step (Element 0 ∷ b.path) r (Element 0) path e.0 (elim (clash.1 path i j (collide_moved t w.0 e.1 path i j w.2)) [
          | inl same ↦ inl (ap (λ (p : List Step). Element 0 ∷ p) same)
          | inr before ↦ inr (inr (refl, before))
        ])

    least : (i j : ℕ) → CollideAt (type_of tags kind cons) (Element 0 ∷ b.path) i j → (b.first < i) ⊎ ((b.first ≡ i) × (b.second ≤ j))
    least i j x =
        let w = collide_inside tags kind cons (Element 0) b.path i j x in
        clash.2 i j (collide_moved t w.0 (part (Element 0) w.0 w.1).1 b.path i j w.2)

mutual
  pub type_some : (t : AbstractType) (c : AbstractClash) → first_clash t ≡ Some c → IsClash t c
  type_some (type_of tags kind cons) c e = kind_some tags kind cons c e

  kind_some : (tags : List Tag) (kind : AbstractKind) (cons : Constraints) (c : AbstractClash) → clash_of_kind kind ≡ Some c → IsClash (type_of tags kind cons) c
  kind_some tags (type.sequence cs) cons c e = list_some tags (type.sequence cs) cons true cs c (sequence_agrees tags cs cons) (sequence_part cs, λ i. refl) (inside_first 0 cs) e
  kind_some tags (type.set cs) cons c e = list_some tags (type.set cs) cons false cs c (set_agrees tags cs cons) (set_part cs, λ i. refl) (inside_first 0 cs) e
  kind_some tags (type.choice cs) cons c e = list_some tags (type.choice cs) cons false cs c (choice_agrees tags cs cons) (choice_part cs, λ i. refl) (inside_first 0 cs) e
  kind_some tags (type.sequence_of t) cons c e =
      let d = inside_some (Element 0) (first_clash t) c e in
      part_some tags (type.sequence_of t) cons t c d.0 (λ i j p. p.0) (sequence_of_part t) refl (type_some t d.0 d.1) d.2
  kind_some tags (type.set_of t) cons c e =
      let d = inside_some (Element 0) (first_clash t) c e in
      part_some tags (type.set_of t) cons t c d.0 (λ i j p. p.0) (set_of_part t) refl (type_some t d.0 d.1) d.2
  kind_some tags type.boolean cons c e = absurd cc
  kind_some tags (type.integer ns) cons c e = absurd cc
  kind_some tags (type.bit_string ns) cons c e = absurd cc
  kind_some tags type.octet_string cons c e = absurd cc
  kind_some tags type.null cons c e = absurd cc
  kind_some tags type.object_identifier cons c e = absurd cc
  kind_some tags (type.enumerated ns) cons c e = absurd cc
  kind_some tags (type.characters k) cons c e = absurd cc

  inside_first : (i : ℕ) (cs : Components) (c : AbstractClash) → clash_inside i cs ≡ Some c → InsideFirst i cs c
  inside_first i no_components c e = absurd cc
  inside_first i (component name t presence rest) c e = elim (option_or_some (inside (Component i) (first_clash t)) (clash_inside (suc i) rest) c e) [
    | inl first ↦
        let d = inside_some (Component i) (first_clash t) c first in
        let at : i ≡ i + 0 = omega arith in
        (0, t, d.0, refl, type_some t d.0 d.1, d.2 ∙ ap (λ (k : ℕ). below (Component k) d.0) at, λ e w lt is. absurd (omega (arith, lt)))
    | inr (none, later) ↦
        let f = inside_first (suc i) rest c later in
        let at : suc i + f.0 ≡ i + suc f.0 = omega arith in (
          suc f.0,
          f.1,
          f.2,
          f.3,
          f.4,
          f.5 ∙ ap (λ (k : ℕ). below (Component k) f.2) at,
          before_later name t presence rest f.0 (type_none t (inside_none (Component i) (first_clash t) none)) f.6,
        )
  ]
