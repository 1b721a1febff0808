-- The numbers of the rules of each message, as they are gathered and as they are read.
use Rattle.std.proofs.Common.{◌≡◌, ℕ, ◌+◌, ◌<◌, Bool, true, false, cond, List, [], ◌∷◌, ◌++◌, length, drop, get_or, slice_get, Option, Some, None, option_map, unwrap_or, refl, ap, sym, ◌∙◌, arith}
use Rattle.std.specs.Prelude.{bytes_eq}
use Rattle.std.specs.Borrow.{Bor}
use Rattle.std.specs.Map.{lookup}
use Rattle.std.specs.Global.{Vec}
use Rattle.std.proofs.lemmas.List.{append_assoc, map_push}
use Rattle.std.proofs.lemmas.Slice.Eq.{bytes_eq-Decides}
use Rattle.indexmap.specs.IndexMap.{insert_entry}
use Rattle.guard_policy.specs.declared.policy.SaidRule.{SaidRule}
use Rattle.guard_policy.specs.Policies.{AbstractRule}
use Rattle.guard_policy.specs.SaidView.{said_view}
use Rattle.guard_policy.specs.Routing.{rules_named}
use Rattle.guard_policy.specs.inside.Listings.{numbers_for}
use Rattle.guard_policy.specs.inside.Numbers.{picked}
use Rattle.guard_policy.specs.inside.Said.{rules_view}
use Rattle.guard_policy.proofs.Listed.{alike, drop_get, drop_rest, front_is}
use Rattle.guard_policy.proofs.PartyNames.{lookup-inserted}

-- ---- the rules of a message are those of its numbers

picked_from : (name : List ℕ) (all rest : List AbstractRule) (i : ℕ) → drop i all ≡ rest → picked all (numbers_for name i rest) ≡ rules_named name rest
picked_from name all [] i e = refl
picked_from name all (r ∷ rs) i e =
    let more : picked all (numbers_for name (i + 1) rs) ≡ rules_named name rs = picked_from name all rs (i + 1) (drop_rest all i r rs e) in
    elim (bytes_eq r.message name) as (λ (b : Bool). picked all (cond b (i ∷ numbers_for name (i + 1) rs) (numbers_for name (i + 1) rs)) ≡ cond b (r ∷ rules_named name rs) (rules_named name rs)) [
      | true ↦ ap (λ (o : Option AbstractRule). elim o [ Some x ↦ x ∷ picked all (numbers_for name (i + 1) rs) | None ↦ picked all (numbers_for name (i + 1) rs) ]) (drop_get all i r rs e)
          ∙ ap (λ (rest : List AbstractRule). r ∷ rest) more
      | false ↦ more
    ]

pub picked_all : (name : List ℕ) (rules : List AbstractRule) → picked rules (numbers_for name 0 rules) ≡ rules_named name rules
picked_all name rules = picked_from name rules rules 0 refl

-- ---- one rule more

numbers_for-push : (name : List ℕ) (i n : ℕ) (rules : List AbstractRule) (r : AbstractRule) → n ≡ i + length rules
    → numbers_for name i (rules ++ r ∷ []) ≡ cond (bytes_eq r.message name) (numbers_for name i rules ++ n ∷ []) (numbers_for name i rules)
numbers_for-push name i n [] r e = let same : i ≡ n = omega (arith, e) in ap (λ k. cond (bytes_eq r.message name) (k ∷ []) []) same
numbers_for-push name i n (x ∷ xs) r e =
    let more = numbers_for-push name (i + 1) n xs r (omega (arith, e)) in
    elim (bytes_eq x.message name) as (λ (b : Bool). cond b (i ∷ numbers_for name (i + 1) (xs ++ r ∷ [])) (numbers_for name (i + 1) (xs ++ r ∷ []))
    ≡ cond (bytes_eq r.message name) (cond b (i ∷ numbers_for name (i + 1) xs) (numbers_for name (i + 1) xs) ++ n ∷ []) (cond b (i ∷ numbers_for name (i + 1) xs) (numbers_for name (i + 1) xs))) [
      | true ↦ ap (λ (ns : List ℕ). i ∷ ns) more ∙ within (bytes_eq r.message name)
      | false ↦ more
    ]
  where
    within : (b : Bool) → i ∷ cond b (numbers_for name (i + 1) xs ++ n ∷ []) (numbers_for name (i + 1) xs) ≡ cond b (i ∷ (numbers_for name (i + 1) xs ++ n ∷ [])) (i ∷ numbers_for name (i + 1) xs)
    within true = refl
    within false = refl

abbrev pub items_of : Option (Vec ℕ) → List ℕ
items_of found = unwrap_or (option_map (λ (numbers : Vec ℕ). numbers.items) found) []

abbrev Key : Type 0
Key = Bor (List ℕ)

abbrev pub found : List ℕ → List (Key × Vec ℕ) → Option (Vec ℕ)
found name es = lookup (λ x. bytes_eq name x.now) es

pub items_or : (o : Option (Vec ℕ)) (other : Vec ℕ) → other.items ≡ [] → (unwrap_or o other).items ≡ items_of o
items_or None other e = e
items_or (Some numbers) other e = refl

-- the numbers of a name, put in the place of nothing
pub numbers_put : (rules : List AbstractRule) (r : AbstractRule) (n : ℕ) (es once twice : List (Key × Vec ℕ)) (k : Key) (nothing numbers : Vec ℕ)
    → n ≡ length rules → r.message ≡ k.now
    → once ≡ insert_entry (λ x y. bytes_eq x.now y.now) es k nothing → twice ≡ insert_entry (λ x y. bytes_eq x.now y.now) once k numbers
    → numbers.items ≡ items_of (found k.now es) ++ n ∷ []
    → ((name : List ℕ) → items_of (found name es) ≡ numbers_for name 0 rules)
    → (name : List ℕ) → items_of (found name twice) ≡ numbers_for name 0 (rules ++ r ∷ [])
numbers_put rules r n es once twice k nothing numbers counted named first second more are name =
    ap (λ (all : List (Key × Vec ℕ)). items_of (found name all)) second
    ∙ ap items_of (lookup-inserted (λ x. x.now) once k numbers name)
    ∙ ap (λ (o : Option (Vec ℕ)). items_of (cond (bytes_eq name k.now) (Some numbers) o)) (ap (λ (all : List (Key × Vec ℕ)). found name all) first ∙ lookup-inserted (λ x. x.now) es k nothing name)
    ∙ here
    ∙ ap (λ b. cond b (numbers_for name 0 rules ++ n ∷ []) (numbers_for name 0 rules)) (alike name k.now ∙ ap (λ (m : List ℕ). bytes_eq m name) (sym named))
    ∙ sym (numbers_for-push name 0 n rules r (omega (arith, counted)))
  where
    here : items_of (cond (bytes_eq name k.now) (Some numbers) (cond (bytes_eq name k.now) (Some nothing) (found name es)))
        ≡ cond (bytes_eq name k.now) (numbers_for name 0 rules ++ n ∷ []) (numbers_for name 0 rules)
    here =
        (elim (bytes_eq name k.now) as (λ (b : Bool). bytes_eq name k.now ≡ b
        → items_of (cond b (Some numbers) (cond b (Some nothing) (found name es))) ≡ cond b (numbers_for name 0 rules ++ n ∷ []) (numbers_for name 0 rules)) [
          | true ↦ λ same. more ∙ ap (λ (ns : List ℕ). ns ++ n ∷ []) (are k.now ∙ ap (λ (m : List ℕ). numbers_for m 0 rules) (sym ((bytes_eq-Decides name k.now).0 same)))
          | false ↦ λ differ. are name
        ]) refl

-- ---- one number more is read

abbrev with_first : List AbstractRule → Option AbstractRule → List AbstractRule
with_first rest o = elim o [ Some r ↦ r ∷ rest | None ↦ rest ]

module _ (all : List AbstractRule) (numbers : List ℕ) (i : ℕ) (lt : i < length numbers) (o : Option (Bor SaidRule))
    (at : option_map (λ r. said_view r.now) o ≡ slice_get all (get_or numbers i 0)) where
  next_is : (x : Option (Bor SaidRule)) → o ≡ x → picked all (drop i numbers) ≡ with_first (picked all (drop (i + 1) numbers)) (option_map (λ r. said_view r.now) x)
  next_is x e =
      ap (picked all) (front_is numbers i 0 lt)
      ∙ ap (with_first (picked all (drop (i + 1) numbers))) (sym at ∙ ap (option_map (λ (r : Bor SaidRule). said_view r.now)) e)

  pub rule_picked : (named : List (Bor SaidRule)) (x : Bor SaidRule) → o ≡ Some x → rules_view named ++ picked all (drop i numbers) ≡ picked all numbers
      → rules_view (named ++ x ∷ []) ++ picked all (drop (i + 1) numbers) ≡ picked all numbers
  rule_picked named x e so_far =
      ap (λ (rules : List AbstractRule). rules ++ picked all (drop (i + 1) numbers)) (map_push (λ r. said_view r.now) named x)
      ∙ append_assoc (rules_view named) (said_view x.now ∷ []) (picked all (drop (i + 1) numbers))
      ∙ ap (λ (rules : List AbstractRule). rules_view named ++ rules) (sym (next_is (Some x) e)) ∙ so_far

  pub none_picked : (named : List (Bor SaidRule)) → o ≡ None → rules_view named ++ picked all (drop i numbers) ≡ picked all numbers
      → rules_view named ++ picked all (drop (i + 1) numbers) ≡ picked all numbers
  none_picked named e so_far = ap (λ (rules : List AbstractRule). rules_view named ++ rules) (sym (next_is None e)) ∙ so_far
