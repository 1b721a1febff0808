-- Pairs that collide in a type, in the terms of the search and of its parts.
use Rattle.std.proofs.Common.{◌≡◌, ℕ, zero, suc, Bool, true, false, List, [], ◌∷◌, Option, Some, None, refl}
use Rattle.std.specs.Prelude.{IsTrue, IfSome, ◌≢◌}
use Rattle.guard_model.specs.declared.tag.Tag.{Tag}
use Rattle.guard_model.specs.declared.site.Step.{Step}
use Rattle.guard_model.specs.declared.site.Step.TheVariants.{Component, Element}
use Rattle.guard_model.specs.AbstractType as type
use Rattle.guard_model.specs.AbstractType.{AbstractType, AbstractKind, AbstractPresence, Components, Constraints, type_of}
use Rattle.guard_model.specs.TypeView.{OneComponent}
use Rattle.guard_tagcheck.specs.Distinct.{component_type, part_at, type_at, Collide, CollideAt, Distinct, AbstractClash, IsClash}
use Rattle.guard_tagcheck.specs.Search.{is_passed}
use Rattle.std.proofs.lemmas.Option.{same_Some}
use Rattle.guard_model.specs.Components.{component_at}
use Rattle.guard_tagcheck.proofs.SharedTags.{share_from, share_to}
use Rattle.guard_tagcheck.proofs.LeastPairs.{Pair}

-- ---- the pairs that are looked at are those that collide

absent_from : (p : AbstractPresence) → IsTrue (is_passed true p) → p ≢ type.mandatory
absent_from type.mandatory passed = absurd cc
absent_from type.optional passed = λ e. cc
absent_from type.pending passed = λ e. cc
absent_from (type.default v) passed = λ e. cc

absent_to : (p : AbstractPresence) → p ≢ type.mandatory → IsTrue (is_passed true p)
absent_to type.mandatory absent = absurd (absent refl)
absent_to type.optional absent = refl
absent_to type.pending absent = refl
absent_to (type.default v) absent = refl

passed_from : (o : Option OneComponent) → IfSome o (λ c. IsTrue (is_passed true c.presence)) → IfSome o (λ c. c.presence ≢ type.mandatory)
passed_from None passed = tt
passed_from (Some c) passed = absent_from c.presence passed

passed_to : (o : Option OneComponent) → IfSome o (λ c. c.presence ≢ type.mandatory) → IfSome o (λ c. IsTrue (is_passed true c.presence))
passed_to None absent = tt
passed_to (Some c) absent = absent_to c.presence absent

all_passed : (o : Option OneComponent) → IfSome o (λ c. IsTrue (is_passed false c.presence))
all_passed None = tt
all_passed (Some c) = refl

abbrev pub Agrees : AbstractType → Bool → Components → Type 0
Agrees t s cs = ((i j : ℕ) → Collide t i j → Pair s cs i j) × ((i j : ℕ) → Pair s cs i j → Collide t i j)

pub sequence_agrees : (tags : List Tag) (cs : Components) (cons : Constraints) → Agrees (type_of tags (type.sequence cs) cons) true cs
sequence_agrees tags cs cons = (
  λ i j p. (p.0.0, λ k le lt. passed_to (component_at k cs) (p.0.1 k le lt), (p.1.0, p.1.1, p.1.2, p.1.3, share_to p.1.0.ty p.1.1.ty p.1.4)),
  λ i j p. ((p.0, λ k le lt. passed_from (component_at k cs) (p.1 k le lt)), (p.2.0, p.2.1, p.2.2, p.2.3, share_from p.2.0.ty p.2.1.ty p.2.4)),
)

pub set_agrees : (tags : List Tag) (cs : Components) (cons : Constraints) → Agrees (type_of tags (type.set cs) cons) false cs
set_agrees tags cs cons = (
  λ i j p. (p.0, λ k le lt. all_passed (component_at k cs), (p.1.0, p.1.1, p.1.2, p.1.3, share_to p.1.0.ty p.1.1.ty p.1.4)),
  λ i j p. (p.0, (p.2.0, p.2.1, p.2.2, p.2.3, share_from p.2.0.ty p.2.1.ty p.2.4)),
)

pub choice_agrees : (tags : List Tag) (cs : Components) (cons : Constraints) → Agrees (type_of tags (type.choice cs) cons) false cs
choice_agrees tags cs cons = (
  λ i j p. (p.0, λ k le lt. all_passed (component_at k cs), (p.1.0, p.1.1, p.1.2, p.1.3, share_to p.1.0.ty p.1.1.ty p.1.4)),
  λ i j p. (p.0, (p.2.0, p.2.1, p.2.2, p.2.3, share_from p.2.0.ty p.2.1.ty p.2.4)),
)

-- ---- the parts of a kind

abbrev pub PartsAre : AbstractKind → Components → Type 0
PartsAre kind cs =
    ((s : Step) (v : AbstractType) → part_at kind s ≡ Some v → (i : ℕ) × (s ≡ Component i) × (component_type i cs ≡ Some v))
    × ((i : ℕ) → part_at kind (Component i) ≡ component_type i cs)

pub sequence_part : (cs : Components) (s : Step) (v : AbstractType) → part_at (type.sequence cs) s ≡ Some v → (i : ℕ) × (s ≡ Component i) × (component_type i cs ≡ Some v)
sequence_part cs (Component i) v e = (i, refl, e)
sequence_part cs (Element zero) v e = absurd cc
sequence_part cs (Element (suc n)) v e = absurd cc

pub set_part : (cs : Components) (s : Step) (v : AbstractType) → part_at (type.set cs) s ≡ Some v → (i : ℕ) × (s ≡ Component i) × (component_type i cs ≡ Some v)
set_part cs (Component i) v e = (i, refl, e)
set_part cs (Element zero) v e = absurd cc
set_part cs (Element (suc n)) v e = absurd cc

pub choice_part : (cs : Components) (s : Step) (v : AbstractType) → part_at (type.choice cs) s ≡ Some v → (i : ℕ) × (s ≡ Component i) × (component_type i cs ≡ Some v)
choice_part cs (Component i) v e = (i, refl, e)
choice_part cs (Element zero) v e = absurd cc
choice_part cs (Element (suc n)) v e = absurd cc

abbrev pub PartIs : AbstractKind → AbstractType → Type 0
PartIs kind t = (s : Step) (v : AbstractType) → part_at kind s ≡ Some v → (s ≡ Element 0) × (t ≡ v)

pub sequence_of_part : (t : AbstractType) → PartIs (type.sequence_of t) t
sequence_of_part t (Component i) v e = absurd cc
sequence_of_part t (Element zero) v e = (refl, same_Some t v e)
sequence_of_part t (Element (suc n)) v e = absurd cc

pub set_of_part : (t : AbstractType) → PartIs (type.set_of t) t
set_of_part t (Component i) v e = absurd cc
set_of_part t (Element zero) v e = (refl, same_Some t v e)
set_of_part t (Element (suc n)) v e = absurd cc

-- ---- collisions in a type and in its parts

same_type : (t u : AbstractType) → t ≡ u → (i j : ℕ) → Collide u i j → Collide t i j
same_type t u e i j p = rw e p

pub collide_here : (t : AbstractType) (i j : ℕ) → CollideAt t [] i j → Collide t i j
collide_here t i j (u, e, p) = same_type t u (same_Some t u e) i j p

through : (part : Option AbstractType) (path : List Step) (u : AbstractType) → elim part [ None ↦ None | Some v ↦ type_at path v ] ≡ Some u
    → (v : AbstractType) × (part ≡ Some v) × (type_at path v ≡ Some u)
through None path u e = absurd cc
through (Some v) path u e = (v, refl, e)

through_back : (part : Option AbstractType) (path : List Step) (v u : AbstractType) → part ≡ Some v → type_at path v ≡ Some u → elim part [ None ↦ None | Some v ↦ type_at path v ] ≡ Some u
through_back part path v u is e = rw is e

pub collide_inside : (tags : List Tag) (kind : AbstractKind) (cons : Constraints) (s : Step) (path : List Step) (i j : ℕ) → CollideAt (type_of tags kind cons) (s ∷ path) i j
    → (v : AbstractType) × (part_at kind s ≡ Some v) × CollideAt v path i j
collide_inside tags kind cons s path i j (u, e, p) = let v = through (part_at kind s) path u e in (v.0, v.1, (u, v.2, p))

pub collide_round : (tags : List Tag) (kind : AbstractKind) (cons : Constraints) (s : Step) (path : List Step) (v : AbstractType) (i j : ℕ)
    → part_at kind s ≡ Some v → CollideAt v path i j → CollideAt (type_of tags kind cons) (s ∷ path) i j
collide_round tags kind cons s path v i j is (u, e, p) = (u, through_back (part_at kind s) path v u is e, p)

pub collide_moved : (t u : AbstractType) → t ≡ u → (path : List Step) (i j : ℕ) → CollideAt u path i j → CollideAt t path i j
collide_moved t u e path i j p = rw e p

pub distinct_moved : (t u : AbstractType) → t ≡ u → Distinct t → Distinct u
distinct_moved t u e distinct = λ path i j p. distinct path i j (collide_moved t u e path i j p)

pub clash_moved : (t : AbstractType) (c d : AbstractClash) → c ≡ d → IsClash t d → IsClash t c
clash_moved t c d e p = rw e p
