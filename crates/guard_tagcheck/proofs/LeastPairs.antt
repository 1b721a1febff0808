-- The search among the components of a type finds the least pair that collides.
use Rattle.std.proofs.Common.{◌≡◌, ℕ, zero, suc, ◌+◌, ◌<◌, ◌≤◌, Bool, false, cond, List, Option, Some, None, ◌⊎◌, inl, inr, refl, ap, ◌∙◌, arith}
use Rattle.std.specs.Prelude.{IsTrue, IfSome}
use Rattle.guard_model.specs.AbstractType.{AbstractType, AbstractPresence, Components, no_components, component}
use Rattle.guard_model.specs.TypeView.{OneComponent}
use Rattle.guard_model.specs.Components.{component_at}
use Rattle.guard_tagcheck.specs.Search.{share_tag, is_passed, partner, first_pair, paired}
use Rattle.std.proofs.lemmas.Bool.{both_ways}
use Rattle.std.proofs.lemmas.Option.{same_Some, none-some}
use Rattle.guard_model.proofs.Options.{option_or_some, option_or_none}
use Rattle.guard_model.proofs.Tests.{chosen}
use Rattle.guard_tagcheck.proofs.Options.{paired_some, paired_none}

-- a later component may come next, past component k
abbrev pub PassedAt : Bool → Components → ℕ → Type 0
PassedAt in_sequence cs k = IfSome (component_at k cs) (λ c. IsTrue (is_passed in_sequence c.presence))

-- component d shares a tag with a type before these components, and an encoding may get from there to it
abbrev pub Partner : Bool → AbstractType → Components → ℕ → Type 0
Partner in_sequence a cs d =
    ((k : ℕ) → k < d → PassedAt in_sequence cs k) × ((b : OneComponent) × (component_at d cs ≡ Some b) × IsTrue (share_tag a b.ty))

abbrev pub Pair : Bool → Components → ℕ → ℕ → Type 0
Pair in_sequence cs i j =
    (i < j)
    × ((k : ℕ) → i ≤ k → k < j → PassedAt in_sequence cs k)
    × ((a : OneComponent) × (b : OneComponent) × (component_at i cs ≡ Some a) × (component_at j cs ≡ Some b) × IsTrue (share_tag a.ty b.ty))

abbrev one : List ℕ → AbstractType → AbstractPresence → OneComponent
one name t presence = record { name = name; ty = t; presence = presence }

-- ---- the partner of a type

later_partner : (s : Bool) (a : AbstractType) (name : List ℕ) (t : AbstractType) (presence : AbstractPresence) (rest : Components) (d : ℕ)
    → IsTrue (is_passed s presence) → Partner s a rest d → Partner s a (component name t presence rest) (suc d)
later_partner s a name t presence rest d passed (before, b) = (λ k. passed_at k, b)
  where
    passed_at : (k : ℕ) → k < suc d → PassedAt s (component name t presence rest) k
    passed_at zero lt = passed
    passed_at (suc k) lt = before k (omega (arith, lt))

later_partner_back : (s : Bool) (a : AbstractType) (name : List ℕ) (t : AbstractType) (presence : AbstractPresence) (rest : Components) (d : ℕ)
    → Partner s a (component name t presence rest) (suc d) → IsTrue (is_passed s presence) × Partner s a rest d
later_partner_back s a name t presence rest d (before, b) = (before 0 (omega arith), (λ k lt. before (suc k) (omega (arith, lt)), b))

-- the first component is none
not_first : (s : Bool) (a : AbstractType) (name : List ℕ) (t : AbstractType) (presence : AbstractPresence) (rest : Components)
    → share_tag a t ≡ false → Partner s a (component name t presence rest) 0 → ⊥
not_first s a name t presence rest apart (before, (b, at, shared)) =
    both_ways (share_tag a t) apart (ap (λ (c : OneComponent). share_tag a c.ty) (same_Some (one name t presence) b at) ∙ shared)

least_later : (s : Bool) (a : AbstractType) (name : List ℕ) (t : AbstractType) (presence : AbstractPresence) (rest : Components) (d : ℕ)
    → share_tag a t ≡ false → ((e : ℕ) → Partner s a rest e → d ≤ e) → (e : ℕ) → Partner s a (component name t presence rest) e → suc d ≤ e
least_later s a name t presence rest d apart least zero p = absurd (not_first s a name t presence rest apart p)
least_later s a name t presence rest d apart least (suc e) p = omega (arith, least e (later_partner_back s a name t presence rest e p).1)

pub partner_some : (s : Bool) (a : AbstractType) (j : ℕ) (cs : Components) (m : ℕ) → partner s a j cs ≡ Some m
    → (d : ℕ) × (m ≡ j + d) × Partner s a cs d × ((e : ℕ) → Partner s a cs e → d ≤ e)
partner_some s a j no_components m e = absurd cc
partner_some s a j (component name t presence rest) m e =
    elim (chosen (share_tag a t) (Some j) (cond (is_passed s presence) (partner s a (suc j) rest) None) (Some m) e) [
      | inl (shared, is) ↦ (0, omega (arith, same_Some j m is), (λ k lt. absurd (omega (arith, lt)), (one name t presence, refl, shared)), λ e p. omega arith)
      | inr (apart, more) ↦ elim (chosen (is_passed s presence) (partner s a (suc j) rest) None (Some m) more) [
        | inl (passed, is) ↦
            let p = partner_some s a (suc j) rest m is in
            (suc p.0, omega (arith, p.1), later_partner s a name t presence rest p.0 passed p.2, least_later s a name t presence rest p.0 apart p.3)
        | inr (stopped, is) ↦ absurd cc
      ]
    ]

none_later : (s : Bool) (a : AbstractType) (name : List ℕ) (t : AbstractType) (presence : AbstractPresence) (rest : Components)
    → share_tag a t ≡ false → (IsTrue (is_passed s presence) → (e : ℕ) → Partner s a rest e → ⊥) → (e : ℕ) → Partner s a (component name t presence rest) e → ⊥
none_later s a name t presence rest apart none zero p = not_first s a name t presence rest apart p
none_later s a name t presence rest apart none (suc e) p = let b = later_partner_back s a name t presence rest e p in none b.0 e b.1

pub partner_none : (s : Bool) (a : AbstractType) (j : ℕ) (cs : Components) → partner s a j cs ≡ None → (e : ℕ) → Partner s a cs e → ⊥
partner_none s a j no_components is = λ e p. none-some p.1.0 p.1.1
partner_none s a j (component name t presence rest) is =
    elim (chosen (share_tag a t) (Some j) (cond (is_passed s presence) (partner s a (suc j) rest) None) None is) [
      | inl (shared, some) ↦ absurd cc
      | inr (apart, more) ↦ none_later s a name t presence rest apart (λ passed. elim (chosen (is_passed s presence) (partner s a (suc j) rest) None None more) [
        | inl (passed, none) ↦ partner_none s a (suc j) rest none
        | inr (stopped, none) ↦ absurd (both_ways (is_passed s presence) stopped passed)
      ])
    ]

-- ---- the least pair

first_from : (s : Bool) (name : List ℕ) (t : AbstractType) (presence : AbstractPresence) (rest : Components) (j : ℕ)
    → IsTrue (is_passed s presence) → Partner s t rest j → Pair s (component name t presence rest) 0 (suc j)
first_from s name t presence rest j passed (before, (b, at, shared)) = (omega arith, λ k. passed_at k, (one name t presence, b, refl, at, shared))
  where
    passed_at : (k : ℕ) → 0 ≤ k → k < suc j → PassedAt s (component name t presence rest) k
    passed_at zero le lt = passed
    passed_at (suc k) le lt = before k (omega (arith, lt))

first_to : (s : Bool) (name : List ℕ) (t : AbstractType) (presence : AbstractPresence) (rest : Components) (j : ℕ)
    → Pair s (component name t presence rest) 0 (suc j) → IsTrue (is_passed s presence) × Partner s t rest j
first_to s name t presence rest j (lt, passed, (a, b, at, later, shared)) =
    (passed 0 (omega arith) (omega arith), (λ k less. passed (suc k) (omega arith) (omega (arith, less)), (b, later, ap (λ (c : OneComponent). share_tag c.ty b.ty) (same_Some (one name t presence) a at) ∙ shared)))

later_from : (s : Bool) (name : List ℕ) (t : AbstractType) (presence : AbstractPresence) (rest : Components) (i j : ℕ)
    → Pair s rest i j → Pair s (component name t presence rest) (suc i) (suc j)
later_from s name t presence rest i j (lt, passed, found) = (omega (arith, lt), λ k. passed_at k, found)
  where
    passed_at : (k : ℕ) → suc i ≤ k → k < suc j → PassedAt s (component name t presence rest) k
    passed_at zero le less = absurd (omega (arith, le))
    passed_at (suc k) le less = passed k (omega (arith, le)) (omega (arith, less))

later_to : (s : Bool) (name : List ℕ) (t : AbstractType) (presence : AbstractPresence) (rest : Components) (i j : ℕ)
    → Pair s (component name t presence rest) (suc i) (suc j) → Pair s rest i j
later_to s name t presence rest i j (lt, passed, found) = (omega (arith, lt), λ k le less. passed (suc k) (omega (arith, le)) (omega (arith, less)), found)

abbrev pair_of_first : Bool → ℕ → AbstractType → AbstractPresence → Components → Option (ℕ × ℕ)
pair_of_first s i t presence rest = cond (is_passed s presence) (paired i (partner s t (suc i) rest)) None

no_first : (s : Bool) (i : ℕ) (name : List ℕ) (t : AbstractType) (presence : AbstractPresence) (rest : Components) → pair_of_first s i t presence rest ≡ None
    → (y : ℕ) → Pair s (component name t presence rest) 0 y → ⊥
no_first s i name t presence rest is zero (lt, passed, found) = omega (arith, lt)
no_first s i name t presence rest is (suc y) p =
    let b = first_to s name t presence rest y p in
    elim (chosen (is_passed s presence) (paired i (partner s t (suc i) rest)) None None is) [
      | inl (passed, none) ↦ partner_none s t (suc i) rest (paired_none i (partner s t (suc i) rest) none) y b.1
      | inr (stopped, none) ↦ both_ways (is_passed s presence) stopped b.0
    ]

abbrev pub IsLeast : Bool → Components → ℕ → ℕ → Type 0
IsLeast s cs d e = (x y : ℕ) → Pair s cs x y → (d < x) ⊎ ((d ≡ x) × (e ≤ y))

least_of_first : (s : Bool) (name : List ℕ) (t : AbstractType) (presence : AbstractPresence) (rest : Components) (d : ℕ)
    → ((e : ℕ) → Partner s t rest e → d ≤ e) → IsLeast s (component name t presence rest) 0 (suc d)
least_of_first s name t presence rest d least zero zero (lt, passed, found) = absurd (omega (arith, lt))
least_of_first s name t presence rest d least zero (suc y) p = inr (refl, omega (arith, least y (first_to s name t presence rest y p).1))
least_of_first s name t presence rest d least (suc x) y p = inl (omega arith)

one_further : (d e x y : ℕ) → (d < x) ⊎ ((d ≡ x) × (e ≤ y)) → (suc d < suc x) ⊎ ((suc d ≡ suc x) × (suc e ≤ suc y))
one_further d e x y (inl lt) = inl (omega (arith, lt))
one_further d e x y (inr (is, le)) = inr (ap suc is, omega (arith, le))

least_of_later : (s : Bool) (name : List ℕ) (t : AbstractType) (presence : AbstractPresence) (rest : Components) (d e : ℕ)
    → ((y : ℕ) → Pair s (component name t presence rest) 0 y → ⊥) → IsLeast s rest d e → IsLeast s (component name t presence rest) (suc d) (suc e)
least_of_later s name t presence rest d e none least zero y p = absurd (none y p)
least_of_later s name t presence rest d e none least (suc x) zero (lt, passed, found) = absurd (omega (arith, lt))
least_of_later s name t presence rest d e none least (suc x) (suc y) p = one_further d e x y (least x y (later_to s name t presence rest x y p))

pub pair_some : (s : Bool) (i : ℕ) (cs : Components) (p : ℕ × ℕ) → first_pair s i cs ≡ Some p
    → (d : ℕ) × (e : ℕ) × (p.0 ≡ i + d) × (p.1 ≡ i + e) × Pair s cs d e × IsLeast s cs d e
pair_some s i no_components p e = absurd cc
pair_some s i (component name t presence rest) p e = elim (option_or_some (pair_of_first s i t presence rest) (first_pair s (suc i) rest) p e) [
  | inl first ↦ elim (chosen (is_passed s presence) (paired i (partner s t (suc i) rest)) None (Some p) first) [
    | inl (passed, is) ↦
        let j = paired_some i (partner s t (suc i) rest) p is in
        let m = partner_some s t (suc i) rest j.0 j.1 in (
          0,
          suc m.0,
          omega (arith, ap (λ (p : ℕ × ℕ). p.0) j.2),
          omega (arith, ap (λ (p : ℕ × ℕ). p.1) j.2, m.1),
          first_from s name t presence rest m.0 passed m.2,
          least_of_first s name t presence rest m.0 m.3,
        )
    | inr (stopped, is) ↦ absurd cc
  ]
  | inr (none, later) ↦
      let m = pair_some s (suc i) rest p later in (
        suc m.0,
        suc m.1,
        omega (arith, m.2),
        omega (arith, m.3),
        later_from s name t presence rest m.0 m.1 m.4,
        least_of_later s name t presence rest m.0 m.1 (no_first s i name t presence rest none) m.5,
      )
]

none_behind : (s : Bool) (name : List ℕ) (t : AbstractType) (presence : AbstractPresence) (rest : Components)
    → ((y : ℕ) → Pair s (component name t presence rest) 0 y → ⊥) → ((x y : ℕ) → Pair s rest x y → ⊥) → (x y : ℕ) → Pair s (component name t presence rest) x y → ⊥
none_behind s name t presence rest first later zero y p = first y p
none_behind s name t presence rest first later (suc x) zero (lt, passed, found) = omega (arith, lt)
none_behind s name t presence rest first later (suc x) (suc y) p = later x y (later_to s name t presence rest x y p)

pub pair_none : (s : Bool) (i : ℕ) (cs : Components) → first_pair s i cs ≡ None → (x y : ℕ) → Pair s cs x y → ⊥
pair_none s i no_components is = λ x y p. none-some p.2.0 p.2.2
pair_none s i (component name t presence rest) is =
    let n = option_or_none (pair_of_first s i t presence rest) (first_pair s (suc i) rest) is in
    none_behind s name t presence rest (no_first s i name t presence rest n.0) (pair_none s (suc i) rest n.1)
