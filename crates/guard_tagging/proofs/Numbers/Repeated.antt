-- Names and numbers that a loop has seen.
use Rattle.std.proofs.Common.{◌≡◌, ℕ, zero, suc, ◌+◌, ◌<◌, Bool, true, false, cond, not, ◌||◌, List, [], ◌∷◌, ◌++◌, map, length, get_or, take, drop, Option, Some, None, refl, sym, ap, ◌∙◌, add-one, arith, ◌⊎◌, inl, inr}
use Rattle.std.specs.Arc.{arc_str_bytes}
use Rattle.std.specs.Prelude.{option_map, bytes_eq, ℤ, pos, negsuc}
use Rattle.std.specs.List.{list_any}
use Rattle.std.specs.Ordering.{is_eq, nat_cmp, bool_cmp, ordering_then, int_eq}
use Rattle.std.specs.declared.cmp.Ordering.{Ordering}
use Rattle.std.specs.Cmp.Lexicographic.{slice_cmp}
use Rattle.std.proofs.lemmas.Bool.Decides.{same_from_decides, Decides-like, Decides-int_eq, nat_tests}
use Rattle.std.proofs.lemmas.Slice.Eq.{bytes_eq-Decides}
use Rattle.std.proofs.lemmas.Map.Text.{is_eq-slice_cmp}
use Rattle.std.proofs.lemmas.List.{map-append}
use Rattle.std.proofs.lemmas.List.Folds.{list_any-append}
use Rattle.std.proofs.Math.Seq.{take-suc, drop-cons}
use Rattle.guard_model.specs.declared.site.Site.{Site}
use Rattle.guard_model.specs.declared.ty.Comp.{Comp}
use Rattle.guard_model.specs.TypeView.{OneComponent, component_view}
use Rattle.guard_model.specs.declared.ty.Kind.TheViews.{out-Comp}
use Rattle.guard_model.proofs.TypeViews.{component_view_is}
use Rattle.guard_tagging.specs.declared.names.Placed as code
use Rattle.guard_tagging.specs.Faults.{Placed, clash_with, same_number, repeated}
use Rattle.guard_tagging.specs.inside.ReadNames.{signed_key, same_key, has_number, read_places}
use Rattle.guard_tagging.specs.inside.Views.{place_view}

bytes_eq-comm : (xs ys : List ℕ) → bytes_eq xs ys ≡ bytes_eq ys xs
bytes_eq-comm xs ys =
    same_from_decides (bytes_eq xs ys) (bytes_eq ys xs) (bytes_eq-Decides xs ys)
    (Decides-like (bytes_eq ys xs) sym sym (bytes_eq-Decides ys xs))

cond-or : (a b : Bool) → cond a true b ≡ (b || (a || false))
cond-or true true = refl
cond-or true false = refl
cond-or false true = refl
cond-or false false = refl

abbrev pub seen : List code.Placed → ℕ → List Placed
seen all i = map place_view (take i all)

one_more : (all : List code.Placed) (i : ℕ) (d : code.Placed) → i < length all
    → seen all (i + 1) ≡ seen all i ++ place_view (get_or all i d) ∷ []
one_more all i d lt = rw (add-one, take-suc all i d lt) (map-append place_view (take i all) (get_or all i d ∷ []))

-- what a set has after one more went in
pub seen_after : (test : Placed → Bool) (all : List code.Placed) (i : ℕ) (d : code.Placed) (hit old new : Bool)
    → i < length all
    → old ≡ list_any test (seen all i) → new ≡ cond hit true old → hit ≡ test (place_view (get_or all i d))
    → new ≡ list_any test (seen all (i + 1))
seen_after test all i d hit old new lt was is e =
    is ∙ rw (one_more all i d lt, list_any-append test (seen all i) (place_view (get_or all i d) ∷ []), ← e, was)
    (cond-or hit (list_any test (seen all i)))

pub cond-swap : (a b : Bool) → cond a true b ≡ (b || a)
cond-swap true true = refl
cond-swap true false = refl
cond-swap false true = refl
cond-swap false false = refl

or-nil : (a b : Bool) → (a || b) ≡ (a || (b || false))
or-nil a true = refl
or-nil true false = refl
or-nil false false = refl

pub seen_or : (test : Placed → Bool) (all : List code.Placed) (i : ℕ) (d : code.Placed) (old new : Bool)
    → i < length all
    → old ≡ list_any test (seen all i) → new ≡ (old || test (place_view (get_or all i d)))
    → new ≡ list_any test (seen all (i + 1))
seen_or test all i d old new lt was is =
    is ∙ rw (one_more all i d lt, list_any-append test (seen all i) (place_view (get_or all i d) ∷ []), was)
    (or-nil (list_any test (seen all i)) (test (place_view (get_or all i d))))

pub name_hit : (x q : List ℕ) → is_eq (slice_cmp nat_cmp x q) ≡ bytes_eq q x
name_hit x q = is_eq-slice_cmp x q ∙ bytes_eq-comm x q

same_pos : (a b : ℕ) → is_eq (nat_cmp a b) ≡ int_eq (pos a) (pos b)
same_pos a b = grind (arith, nat_tests)

same_negsuc : (a b : ℕ) → is_eq (nat_cmp a b) ≡ int_eq (negsuc a) (negsuc b)
same_negsuc a b = grind (arith, nat_tests)

abbrev key_cmp : Bool × ℕ → Bool × ℕ → Ordering
key_cmp k q = ordering_then (bool_cmp k.0 q.0) (nat_cmp k.1 q.1)

key_hit : (k q : Bool × ℕ) → is_eq (key_cmp k q) ≡ same_key (Some k) (Some q)
key_hit (false, a) (false, b) = same_pos a b
key_hit (false, a) (true, b) = refl
key_hit (true, a) (false, b) = refl
key_hit (true, a) (true, b) = same_negsuc a b

same_number-comm : (a b : Option ℤ) → same_number a b ≡ same_number b a
same_number-comm None None = refl
same_number-comm None (Some b) = refl
same_number-comm (Some a) None = refl
same_number-comm (Some a) (Some b) =
    same_from_decides (int_eq a b) (int_eq b a) (Decides-int_eq a b)
    (Decides-like (int_eq b a) sym sym (Decides-int_eq b a))

pub keys_hit : (q : Bool × ℕ) (ks : List (Bool × ℕ)) → list_any (λ k. is_eq (key_cmp q k)) ks ≡ has_number ks (Some q)
keys_hit q [] = refl
keys_hit q (k ∷ ks) = (λ i. key_hit q k i || keys_hit q ks i)

pub none_hit : (ks : List (Bool × ℕ)) → false ≡ has_number ks None
none_hit [] = refl
none_hit (k ∷ ks) = none_hit ks

-- what the set has after this key went in
pub keys_after : (new old : List (Bool × ℕ)) (x q : Bool × ℕ)
    → list_any (λ k. is_eq (key_cmp q k)) new
    ≡ cond (is_eq (key_cmp x q)) true (list_any (λ k. is_eq (key_cmp q k)) old)
    → has_number new (Some q) ≡ (has_number old (Some q) || same_key (Some q) (Some x))
keys_after new old x q e =
    sym (keys_hit q new) ∙ e ∙ rw (
      keys_hit q old,
      key_hit x q,
      same_number-comm (Some (signed_key x)) (Some (signed_key q)),
    )
    (cond-swap (same_key (Some q) (Some x)) (has_number old (Some q)))

pub nothing_more : (b : Bool) → b ≡ (b || false)
nothing_more true = refl
nothing_more false = refl

-- ---- the first that is repeated

or-parts : (a b c d : Bool) → ((a || b) || (c || d)) ≡ ((a || c) || (b || d))
or-parts true b c d = refl
or-parts false true true d = refl
or-parts false true false d = refl
or-parts false false c d = refl

any_or : (f g : Placed → Bool) (ps : List Placed) → list_any (λ p. f p || g p) ps ≡ (list_any f ps || list_any g ps)
any_or f g [] = refl
any_or f g (p ∷ ps) =
    ap (λ (b : Bool). (f p || g p) || b) (any_or f g ps) ∙ or-parts (f p) (g p) (list_any f ps) (list_any g ps)

abbrev pub new_name : List Placed → Placed → Bool
new_name before p = not (list_any (λ b. bytes_eq p.name b.name) before)

abbrev pub new_number : List Placed → Placed → Bool
new_number before p = not (list_any (λ b. same_number p.number b.number) before)

not-not : (a b : Bool) → (a || b) ≡ (not (not a) || not (not b))
not-not true b = refl
not-not false true = refl
not-not false false = refl

clashes : (before : List Placed) (p : Placed)
    → list_any (clash_with p) before ≡ (not (new_name before p) || not (new_number before p))
clashes before p =
    any_or (λ b. bytes_eq p.name b.name) (λ b. same_number p.number b.number) before
    ∙ not-not (list_any (λ b. bytes_eq p.name b.name) before) (list_any (λ b. same_number p.number b.number) before)

either : (a b : Bool) → (a ≡ false) ⊎ (b ≡ false) → (not a || not b) ≡ true
either false b h = refl
either true b (inl e) = absurd cc
either true b (inr e) = rw e refl

neither : (a b : Bool) → a ≡ true → b ≡ true → (not a || not b) ≡ false
neither a b e f = rw (e, f) refl

module _ (all : List code.Placed) (i : ℕ) (d : code.Placed) (lt : i < length all) (name number : Bool)
    (name_is : name ≡ new_name (seen all i) (place_view (get_or all i d)))
    (number_is : number ≡ new_number (seen all i) (place_view (get_or all i d)))
    (total : Option Site) (so_far : repeated (seen all i) (map place_view (drop i all)) ≡ total) where
  clash_is : list_any (clash_with (place_view (get_or all i d))) (seen all i) ≡ (not name || not number)
  clash_is = rw (name_is, number_is) (clashes (seen all i) (place_view (get_or all i d)))

  pub found_again : (name ≡ false) ⊎ (number ≡ false) → total ≡ Some (get_or all i d).site
  found_again h =
      let hit : list_any (clash_with (place_view (get_or all i d))) (seen all i) ≡ true =
      clash_is ∙ either name number h in
      let whole : repeated (seen all i) (map place_view (drop i all)) ≡ Some (get_or all i d).site =
      rw (drop-cons all i d lt, hit) refl in
      sym so_far ∙ whole

  pub goes_on : name ≡ true → number ≡ true → repeated (seen all (i + 1)) (map place_view (drop (i + 1) all)) ≡ total
  goes_on h k =
      let miss : list_any (clash_with (place_view (get_or all i d))) (seen all i) ≡ false =
      clash_is ∙ neither name number h k in
      let whole : repeated (seen all i) (map place_view (drop i all))
      ≡ repeated (seen all (i + 1)) (map place_view (drop (i + 1) all)) =
      rw (drop-cons all i d lt, miss, one_more all i d lt, add-one) refl in
      sym whole ∙ so_far

-- ---- the places of components

one_place_more : (sites : List Site) (comps : List Comp) (i : ℕ) (d : Site) (e : Comp) → i < length sites
    → length sites ≡ length comps
    → read_places (take (suc i) sites) (map component_view (take (suc i) comps))
    ≡ read_places (take i sites) (map component_view (take i comps))
    ++ record { site = get_or sites i d; name = arc_str_bytes (out-Comp (get_or comps i e)).name; number = None } ∷ []
one_place_more [] comps i d e lt same = absurd (omega (arith, lt))
one_place_more (site ∷ sites) [] i d e lt same = absurd (omega (arith, same))
one_place_more (site ∷ sites) (c ∷ comps) zero d e lt same =
    ap (λ (o : OneComponent). record { site = site; name = o.name; number = None } ∷ []) (component_view_is c)
one_place_more (site ∷ sites) (c ∷ comps) (suc i) d e lt same =
    ap (λ (ps : List Placed). record { site = site; name = (component_view c).name; number = None } ∷ ps)
    (one_place_more sites comps i d e (omega (arith, lt)) (omega (arith, same)))

pub one_place : (sites : List Site) (comps : List Comp) (i : ℕ) (d : Site) (x : Comp) → i < length sites
    → length sites ≡ length comps → x ≡ get_or comps i x
    → read_places (take (i + 1) sites) (map component_view (take (i + 1) comps))
    ≡ read_places (take i sites) (map component_view (take i comps))
    ++ record { site = get_or sites i d; name = arc_str_bytes (out-Comp x).name; number = None } ∷ []
one_place sites comps i d x lt same is =
    rw add-one (one_place_more sites comps i d x lt same)
    ∙ ap (λ (y : Comp). read_places (take i sites) (map component_view (take i comps))
    ++ record { site = get_or sites i d; name = arc_str_bytes (out-Comp y).name; number = None } ∷ []) (sym is)

-- ---- whether a number is new

none_same : (ps : List Placed) → false ≡ list_any (λ p. same_number None p.number) ps
none_same [] = refl
none_same (p ∷ ps) = none_same ps

pub number_new : (keys : List (Bool × ℕ)) (before : List Placed) (number : Option (Bool × ℕ))
    → ((q : Bool × ℕ) → has_number keys (Some q) ≡ list_any (λ p. same_number (Some (signed_key q)) p.number) before)
    → has_number keys number ≡ list_any (λ p. same_number (option_map signed_key number) p.number) before
number_new keys before None h = sym (none_hit keys) ∙ none_same before
number_new keys before (Some q) h = h q
