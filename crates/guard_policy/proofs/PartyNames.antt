-- What the look-ups of senders, or of receivers, find, as they are made.
use Rattle.std.proofs.Common.{◌≡◌, ℕ, List, [], ◌∷◌, ◌++◌, map, Bool, true, false, cond, ◌||◌, Option, Some, None, unwrap_or, refl, ap, sym, ◌∙◌, subst}
use Rattle.std.specs.Prelude.{bytes_eq}
use Rattle.std.specs.List.{list_any}
use Rattle.std.specs.Map.{lookup}
use Rattle.std.proofs.lemmas.Slice.Eq.{bytes_eq-Decides}
use Rattle.indexmap.specs.IndexMap.{insert_entry}
use Rattle.guard_tables.specs.declared.slots.Slots.{Slots}
use Rattle.guard_policy.specs.declared.routing.Side.{Side}
use Rattle.guard_policy.specs.Names.{is_meant, anyone}
use Rattle.guard_policy.specs.Policies.{AbstractRule}
use Rattle.guard_policy.specs.Routing.{given_by, slots_meant, slots_from}
use Rattle.guard_policy.proofs.Listed.{alike}

-- ---- a look-up after an insertion

other_name : (q a b : List ℕ) → bytes_eq q a ≡ true → bytes_eq a b ≡ false → bytes_eq q b ≡ false
other_name q a b same differ = ap (λ (x : List ℕ). bytes_eq x b) ((bytes_eq-Decides q a).0 same) ∙ differ

pub lookup-inserted : {K X : Type 0} (items : K → List ℕ) (es : List (K × X)) (k : K) (v : X) (q : List ℕ)
    → lookup (λ x. bytes_eq q (items x)) (insert_entry (λ x y. bytes_eq (items x) (items y)) es k v) ≡ cond (bytes_eq q (items k)) (Some v) (lookup (λ x. bytes_eq q (items x)) es)
lookup-inserted items [] k v q = refl
lookup-inserted {K} {X} items (e ∷ es) k v q =
    (elim (bytes_eq (items k) (items e.0)) as (λ (b : Bool). bytes_eq (items k) (items e.0) ≡ b
    → lookup (λ x. bytes_eq q (items x)) (cond b ((e.0, v) ∷ es) (e ∷ insert_entry (λ x y. bytes_eq (items x) (items y)) es k v))
    ≡ cond (bytes_eq q (items k)) (Some v) (cond (bytes_eq q (items e.0)) (Some e.1) (lookup (λ x. bytes_eq q (items x)) es))) [
      | true ↦ λ same.
          let name : items k ≡ items e.0 = (bytes_eq-Decides (items k) (items e.0)).0 same in
          ap (λ (n : List ℕ). cond (bytes_eq q n) (Some v) (lookup (λ x. bytes_eq q (items x)) es)) (sym name)
          ∙ again (bytes_eq q (items k)) (bytes_eq q (items e.0)) (ap (bytes_eq q) name)
      | false ↦ λ differ.
          ap (cond (bytes_eq q (items e.0)) (Some e.1)) (lookup-inserted items es k v q)
          ∙ turned (bytes_eq q (items k)) (bytes_eq q (items e.0)) (λ named. other_name q (items k) (items e.0) named differ)
    ]) refl
  where
    rest : Option X
    rest = lookup (λ x. bytes_eq q (items x)) es

    again : (a b : Bool) → a ≡ b → cond a (Some v) rest ≡ cond a (Some v) (cond b (Some e.1) rest)
    again true b same = refl
    again false true same = absurd cc
    again false false same = refl

    turned : (a b : Bool) → (a ≡ true → b ≡ false) → cond b (Some e.1) (cond a (Some v) rest) ≡ cond a (Some v) (cond b (Some e.1) rest)
    turned true true apart = absurd (let no = apart refl in cc)
    turned true false apart = refl
    turned false b apart = refl

-- ---- the names that were put in

-- What a look-up of this name finds, where the names of these rules were put in: the set of the rules that speak of it,
-- or nothing where none of them has the name.
abbrev pub Finds : Side → List AbstractRule → List AbstractRule → List ℕ → Option Slots → Type 0
Finds side rules taken name (Some slots) = slots ≡ slots_meant side name rules
Finds side rules taken name None = list_any (λ r. bytes_eq name (given_by side r)) taken ≡ false

any-push : {A : Type 0} (p : A → Bool) (xs : List A) (x : A) → list_any p xs ≡ false → p x ≡ false → list_any p (xs ++ x ∷ []) ≡ false
any-push p [] x none here = ap (λ b. b || false) here
any-push p (y ∷ ys) x none here =
    (elim (p y) as (λ (b : Bool). (b || list_any p ys) ≡ false → (b || list_any p (ys ++ x ∷ [])) ≡ false) [
      | true ↦ λ e. absurd cc
      | false ↦ λ e. any-push p ys x e here
    ]) none

pub finds_one : (side : Side) (rules taken : List AbstractRule) (r : AbstractRule) (name : List ℕ) (found : Option Slots) (slots : Slots)
    → slots ≡ slots_meant side (given_by side r) rules → Finds side rules taken name found
    → Finds side rules (taken ++ r ∷ []) name (cond (bytes_eq name (given_by side r)) (Some slots) found)
finds_one side rules taken r name found slots is before =
    (elim (bytes_eq name (given_by side r)) as (λ (b : Bool). bytes_eq name (given_by side r) ≡ b → Finds side rules (taken ++ r ∷ []) name (cond b (Some slots) found)) [
      | true ↦ λ same. is ∙ ap (λ (n : List ℕ). slots_meant side n rules) (sym ((bytes_eq-Decides name (given_by side r)).0 same))
      | false ↦ λ other. by found before other
    ]) refl
  where
    by : (o : Option Slots) → Finds side rules taken name o → bytes_eq name (given_by side r) ≡ false → Finds side rules (taken ++ r ∷ []) name o
    by None none other = any-push (λ x. bytes_eq name (given_by side x)) taken r none other
    by (Some s) same other = same

-- ---- those that no rule names

or_same : (b : Bool) → (b || b) ≡ b
or_same true = refl
or_same false = refl

-- the rules that speak of one that none names are those with `*`
meant_unnamed : (side : Side) (name : List ℕ) (rules : List AbstractRule) → list_any (λ r. bytes_eq name (given_by side r)) rules ≡ false
    → map (λ r. is_meant (given_by side r) name) rules ≡ map (λ r. is_meant (given_by side r) anyone) rules
meant_unnamed side name [] none = refl
meant_unnamed side name (r ∷ rs) none =
    (elim (bytes_eq name (given_by side r)) as (λ (b : Bool). bytes_eq name (given_by side r) ≡ b → (b || list_any (λ x. bytes_eq name (given_by side x)) rs) ≡ false
    → map (λ x. is_meant (given_by side x) name) (r ∷ rs) ≡ map (λ x. is_meant (given_by side x) anyone) (r ∷ rs)) [
      | true ↦ λ same e. absurd cc
      | false ↦ λ other more.
          ap (λ b. (b || bytes_eq (given_by side r) anyone) ∷ map (λ x. is_meant (given_by side x) name) rs) (alike (given_by side r) name ∙ other)
          ∙ ap (λ b. b ∷ map (λ x. is_meant (given_by side x) name) rs) (sym (or_same (bytes_eq (given_by side r) anyone)))
          ∙ ap (λ (bs : List Bool). is_meant (given_by side r) anyone ∷ bs) (meant_unnamed side name rs more)
    ]) refl none

pub finds_all : (side : Side) (rules : List AbstractRule) (name : List ℕ) (found : Option Slots) (others : Slots) → others ≡ slots_meant side anyone rules
    → Finds side rules rules name found → unwrap_or found others ≡ slots_meant side name rules
finds_all side rules name None others is none = is ∙ ap (slots_from 1) (sym (meant_unnamed side name rules none))
finds_all side rules name (Some slots) others is same = same

-- ---- as a loop puts them in

pub put_one : {K : Type 0} (items : K → List ℕ) (side : Side) (rules taken more : List AbstractRule) (r : AbstractRule) (es new : List (K × Slots)) (k : K) (slots : Slots)
    → more ≡ taken ++ r ∷ [] → new ≡ insert_entry (λ x y. bytes_eq (items x) (items y)) es k slots → items k ≡ given_by side r → slots ≡ slots_meant side (given_by side r) rules
    → ((name : List ℕ) → Finds side rules taken name (lookup (λ x. bytes_eq name (items x)) es))
    → (name : List ℕ) → Finds side rules more name (lookup (λ x. bytes_eq name (items x)) new)
put_one {K} items side rules taken more r es new k slots more_is new_is named is so_far name =
    let found : lookup (λ x. bytes_eq name (items x)) new ≡ cond (bytes_eq name (given_by side r)) (Some slots) (lookup (λ x. bytes_eq name (items x)) es) =
    ap (lookup (λ x. bytes_eq name (items x))) new_is ∙ lookup-inserted items es k slots name
    ∙ ap (λ (n : List ℕ). cond (bytes_eq name n) (Some slots) (lookup (λ x. bytes_eq name (items x)) es)) named in
    subst (λ (l : List AbstractRule). Finds side rules l name (lookup (λ x. bytes_eq name (items x)) new)) (sym more_is)
    (subst (Finds side rules (taken ++ r ∷ []) name) (sym found) (finds_one side rules taken r name (lookup (λ x. bytes_eq name (items x)) es) slots is (so_far name)))
