-- The definitions that each definition uses, by look-ups and by what names mean.
use Rattle.std.proofs.Common.{◌≡◌, ◌⊎◌, inl, inr, ⊎_elim, ℕ, zero, suc, ◌<◌, Bool, true, false, ◌||◌, List, [], ◌∷◌, ◌++◌, map, length, get_or, Option, Some, None, Contains, refl, sym, ◌∙◌, ap, subst, arith}
use Rattle.std.specs.Prelude.{nat_eq, slice_get}
use Rattle.std.specs.List.{flat_map, filter_map, cons_option}
use Rattle.std.proofs.lemmas.Bool.{eqb-true, eq-eqb, or_cases}
use Rattle.std.proofs.lemmas.Option.{same_Some}
use Rattle.std.proofs.lemmas.List.{map-append}
use Rattle.guard_syntax.specs.Trees.{WrittenAssignment, WrittenModule}
use Rattle.guard_names.specs.Mentions.{Mention, mentions}
use Rattle.guard_names.specs.Declarations.{Definition, definitions, defined_in, Numbers}
use Rattle.guard_names.specs.Meanings.{Means, Uses}
use Rattle.guard_names.specs.Order.{is_listed}
use Rattle.guard_names.specs.inside.Queues.{UsesIn}
use Rattle.guard_names.specs.inside.Reading.{used_in, used_in_module}

abbrev pub uses_of : Numbers → Definition → List ℕ
uses_of numbers d = used_in numbers d.home.name d.assignment

-- those of each definition, in the order of the definitions
pub listed_by_definition : (numbers : Numbers) (ms : List WrittenModule) → flat_map (used_in_module numbers) ms ≡ map (uses_of numbers) (definitions ms)
listed_by_definition numbers [] = refl
listed_by_definition numbers (m ∷ ms) =
    ap (λ rest. used_in_module numbers m ++ rest) (listed_by_definition numbers ms)
    ∙ ap (λ first. first ++ map (uses_of numbers) (definitions ms)) (of_module m.assignments)
    ∙ sym (map-append (uses_of numbers) (defined_in m) (definitions ms))
  where
    of_module : (rest : List WrittenAssignment) → map (used_in numbers m.name) rest ≡ map (uses_of numbers) (map (λ a. record { home = m; assignment = a }) rest)
    of_module [] = refl
    of_module (a ∷ rest) = ap (λ more. used_in numbers m.name a ∷ more) (of_module rest)

at_map : {X Y : Type 0} (f : X → Y) (xs : List X) (i : ℕ) (x : X) (d : Y) → slice_get xs i ≡ Some x → get_or (map f xs) i d ≡ f x
at_map f [] i x d h = absurd cc
at_map f (y ∷ ys) zero x d h = ap f (same_Some y x h)
at_map f (y ∷ ys) (suc i) x d h = at_map f ys i x d h

-- a place inside has something, and one past the end nothing
at_place : {X : Type 0} (xs : List X) (i : ℕ) → ((x : X) × (slice_get xs i ≡ Some x)) ⊎ (slice_get xs i ≡ None)
at_place [] i = inr refl
at_place (x ∷ xs) zero = inl (x, refl)
at_place (x ∷ xs) (suc i) = at_place xs i

past_map : {X Y : Type 0} (f : X → Y) (xs : List X) (i : ℕ) (d : Y) → slice_get xs i ≡ None → get_or (map f xs) i d ≡ d
past_map f [] i d h = refl
past_map f (y ∷ ys) zero d h = absurd cc
past_map f (y ∷ ys) (suc i) d h = past_map f ys i d h

-- ---- what is used by an assignment

used_so : (numbers : Numbers) (home : List ℕ) (xs : List Mention) (used : ℕ) → is_listed (filter_map (λ x. numbers home x.name) xs) used ≡ true
    → (x : Mention) × Contains xs x × (numbers home x.name ≡ Some used)
used_so numbers home [] used h = absurd cc
used_so numbers home (x ∷ xs) used h = by (numbers home x.name) refl h (used_so numbers home xs used)
  where
    later : (y : Mention) × Contains xs y × (numbers home y.name ≡ Some used) → (y : Mention) × Contains (x ∷ xs) y × (numbers home y.name ≡ Some used)
    later (y, is, e) = (y, (suc is.0, omega (arith, is.1), is.2), e)

    by : (o : Option ℕ) → numbers home x.name ≡ o → is_listed (cons_option o (filter_map (λ x. numbers home x.name) xs)) used ≡ true
        → (is_listed (filter_map (λ x. numbers home x.name) xs) used ≡ true → (y : Mention) × Contains xs y × (numbers home y.name ≡ Some used))
        → (y : Mention) × Contains (x ∷ xs) y × (numbers home y.name ≡ Some used)
    by None e h' rest = later (rest h')
    by (Some n) e h' rest = ⊎_elim
        (λ (same : nat_eq used n ≡ true). (x, (0, omega arith, refl), e ∙ ap Some (sym (eqb-true used n same))))
        (λ (more : is_listed (filter_map (λ x. numbers home x.name) xs) used ≡ true). later (rest more))
        (or_cases (nat_eq used n) (is_listed (filter_map (λ x. numbers home x.name) xs) used) h')

so_used : (numbers : Numbers) (home : List ℕ) (xs : List Mention) (used k : ℕ) (x : Mention) → k < length xs → get_or xs k x ≡ x → numbers home x.name ≡ Some used
    → is_listed (filter_map (λ x. numbers home x.name) xs) used ≡ true
so_used numbers home [] used k x l is e = absurd (omega (arith, l))
so_used numbers home (y ∷ ys) used zero x l is e =
    let here : numbers home y.name ≡ Some used = ap (λ (m : Mention). numbers home m.name) is ∙ e in
    rw (here, eq-eqb used used refl) refl
so_used numbers home (y ∷ ys) used (suc k) x l is e = by (numbers home y.name) (so_used numbers home ys used k x (omega (arith, l)) is e)
  where
    or_right : (a b : Bool) → b ≡ true → (a || b) ≡ true
    or_right true b h = refl
    or_right false b h = h

    by : (o : Option ℕ) → is_listed (filter_map (λ x. numbers home x.name) ys) used ≡ true → is_listed (cons_option o (filter_map (λ x. numbers home x.name) ys)) used ≡ true
    by None h = h
    by (Some n) h = or_right (nat_eq used n) _ h

-- ---- the same uses

module _ (ms : List WrittenModule) (numbers : Numbers)
    (means : (home name : List ℕ) (number : ℕ) → numbers home name ≡ Some number → Means ms home name number)
    (meant : (home name : List ℕ) (number : ℕ) → Means ms home name number → numbers home name ≡ Some number) where
  abbrev pub listed_uses_of : List (List ℕ)
  listed_uses_of = map (uses_of numbers) (definitions ms)

  pub uses_from_list : (number used : ℕ) → UsesIn listed_uses_of number used → Uses ms number used
  uses_from_list number used u = by (at_place (definitions ms) number)
    where
      no_use : false ≡ true → ⊥
      no_use h = cc

      by : ((d : Definition) × (slice_get (definitions ms) number ≡ Some d)) ⊎ (slice_get (definitions ms) number ≡ None) → Uses ms number used
      by (inl (d, at)) =
          let h : is_listed (uses_of numbers d) used ≡ true = subst (λ xs. is_listed xs used ≡ true) (at_map (uses_of numbers) (definitions ms) number d [] at) u in
          let x = used_so numbers d.home.name (mentions d.assignment) used h in
          (d, at, x.0, x.1, means d.home.name x.0.name used x.2)
      by (inr none) = absurd (no_use (subst (λ xs. is_listed xs used ≡ true) (past_map (uses_of numbers) (definitions ms) number [] none) u))

  pub list_from_uses : (number used : ℕ) → Uses ms number used → UsesIn listed_uses_of number used
  list_from_uses number used (d, at, x, is, m) =
      subst (λ xs. is_listed xs used ≡ true) (sym (at_map (uses_of numbers) (definitions ms) number d [] at))
      (so_used numbers d.home.name (mentions d.assignment) used is.0 x is.1 is.2 (meant d.home.name x.name used m))
