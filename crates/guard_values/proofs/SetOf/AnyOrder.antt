-- The elements of a SET OF may be written in any order.
use Rattle.std.proofs.Common.{◌≡◌, ℕ, ◌+◌, Bool, true, false, cond, ◌&&◌, ◌||◌, List, [], ◌∷◌, ◌++◌, length, map, get_or, set, inl, inr, Option, Some, None, refl, sym, ap, ◌∙◌, subst, arith}
use Rattle.std.specs.Prelude.{nat_lt, nat_le, nat_eq, filter, All, sum_by}
use Rattle.std.specs.List.{swap}
use Rattle.std.specs.List.Sorted.{IsPermutation, ties}
use Rattle.std.proofs.lemmas.Bool.{and_from, and_parts, eq-eqb}
use Rattle.std.proofs.lemmas.Bool.Decides.{eqb_tells}
use Rattle.std.proofs.lemmas.Grind.{common_steps}
use Rattle.std.proofs.lemmas.List.{append-nil, map-set, length-map}
use Rattle.std.proofs.lemmas.List.Sums.{sum_by-cons}
use Rattle.std.proofs.Math.ListN.{get_or-map}
use Rattle.std.proofs.lemmas.List.Elements.{All-nil, All-cons, All-head, All-tail}
use Rattle.std.proofs.lemmas.List.Sorted.{IsPermutation-refl, IsPermutation-trans, IsPermutation-swap, IsPermutation-map, IsPermutation-keeps, length_permutation, All-permutation, sum_by-IsPermutation}
use Rattle.guard_model.specs.declared.site.Site.{Site}
use Rattle.guard_model.specs.declared.tag.Tag.{Tag}
use Rattle.guard_model.specs.AbstractType as type
use Rattle.guard_model.specs.AbstractType.{AbstractType, Constraints, type_of}
use Rattle.guard_model.specs.AbstractValue as value
use Rattle.guard_model.specs.AbstractValue.{AbstractValue, items_of}
use Rattle.guard_der.specs.Der.{der}
use Rattle.guard_der.specs.Fits.{fits, every_fits, descends}
use Rattle.guard_der.specs.ProperConstraints.{is_short}
use Rattle.guard_der.specs.Sound.{is_sound}
use Rattle.guard_der.proofs.Types.Messages.{no_prefix}
use Rattle.guard_syntax.specs.Trees as written
use Rattle.guard_syntax.specs.Trees.{WrittenValue, WrittenEntry, WrittenEntries, value_node, entry, entries_of}
use Rattle.guard_values.specs.Meanings.{Meaning, AreFitting}
use Rattle.guard_values.specs.Arrangement.{octets_in, encoding_in, arranged, are_short}
use Rattle.guard_values.specs.Denotes.{are_few, Says, EntriesSay, Denotes}
use Rattle.guard_values.proofs.SetOf.Insertion.{one_list, kept_sorted, both_not}
use Rattle.guard_values.proofs.Fitting.DenotedValuesFit.{after_in, order_in, arranged_in, arranged_ascend, entries_fit}
use Rattle.guard_values.proofs.OneAnswer.CodeAnswers.{sound_proper}

-- ---- encodings that tie

-- neither descends to the other: one begins the other
after : (a b c : Bool) → b ≡ true → (a || (b && c)) ≡ false → c ≡ false
after true b c e f = absurd cc
after false true c e f = f
after false false c e f = absurd cc

first_fails : (a b : Bool) → (a || b) ≡ false → a ≡ false
first_fails true b e = absurd cc
first_fails false b e = refl

unequal : (x y : ℕ) → nat_lt y x ≡ false → nat_lt x y ≡ false → nat_eq x y ≡ false → ⊥
unequal x y e f g = grind (arith, common_steps)

level : (xs ys : List ℕ) → descends xs ys ≡ false → descends ys xs ≡ false → (x : List ℕ) × (y : List ℕ) × (xs ++ x ≡ ys ++ y)
level [] ys e f = (ys, [], sym (append-nil ys))
level (x ∷ xs) [] e f = ([], x ∷ xs, append-nil (x ∷ xs))
level (x ∷ xs) (y ∷ ys) e f = elim (eqb_tells x y) [
  | inl h ↦
      let down : descends xs ys ≡ false = after (nat_lt y x) (nat_eq x y) (descends xs ys) h.0 e in
      let up : descends ys xs ≡ false = after (nat_lt x y) (nat_eq y x) (descends ys xs) (eq-eqb y x (sym h.1)) f in
      let l = level xs ys down up in
      (l.0, l.1, ap (λ (os : List ℕ). x ∷ os) l.2 ∙ ap (λ (o : ℕ). o ∷ (ys ++ l.1)) h.1)
  | inr h ↦ absurd (unequal x y (first_fails (nat_lt y x) (nat_eq x y && descends xs ys) e) (first_fails (nat_lt x y) (nat_eq y x && descends ys xs) f) h.0)
]

abbrev pub Good : AbstractType → AbstractValue → Type 0
Good u w = (fits u w ≡ true) × ((os : List ℕ) × (der u w ≡ Some os))

tied : (u : AbstractType) (a b : AbstractValue) → is_sound u ≡ true → Good u a → Good u b → descends (encoding_in u a) (encoding_in u b) ≡ false → descends (encoding_in u b) (encoding_in u a) ≡ false → a ≡ b
tied u a b sound good_a good_b down up =
    let l = level (encoding_in u a) (encoding_in u b) down up in
    let first : encoding_in u a ≡ good_a.1.0 = ap octets_in good_a.1.1 in
    let second : encoding_in u b ≡ good_b.1.0 = ap octets_in good_b.1.1 in
    let same : good_a.1.0 ++ l.0 ≡ good_b.1.0 ++ l.1 = ap (λ (os : List ℕ). os ++ l.0) (sym first) ∙ l.2 ∙ ap (λ (os : List ℕ). os ++ l.1) second in
    (no_prefix u a b good_a.1.0 good_b.1.0 l.0 l.1 sound good_a.0 good_b.0 good_a.1.1 good_b.1.1 same).0

-- ---- one list

module _ (u : AbstractType) (sound : is_sound u ≡ true) (x : AbstractValue) where
  abbrev pub passes : AbstractValue → Bool
  passes w = ties (after_in u) x w

  abbrev pub Passing : AbstractValue → Type 0
  Passing w = Good u w × (passes w ≡ true)

  same_passing : (a b : AbstractValue) → Passing a → Passing b → a ≡ b
  same_passing a b p q =
      let o = order_in u in
      let one = both_not (after_in u x a) (after_in u a x) p.1 in
      let other = both_not (after_in u x b) (after_in u b x) q.1 in
      tied u a b sound p.0 q.0 (o.chain b x a other.1 one.0) (o.chain a x b one.1 other.0)

  one_passes : (w : AbstractValue) (ws : List AbstractValue) (b : Bool) → passes w ≡ b → Good u w → All Passing (filter passes ws) → All Passing (cond b (w ∷ filter passes ws) (filter passes ws))
  one_passes w ws true e good others = All-cons Passing w (filter passes ws) (good, e) others
  one_passes w ws false e good others = others

  all_pass : (ws : List AbstractValue) → All (Good u) ws → All Passing (filter passes ws)
  all_pass [] good = All-nil Passing
  all_pass (w ∷ ws) good = one_passes w ws (passes w) refl (All-head (Good u) w ws good) (all_pass ws (All-tail (Good u) w ws good))

  same_lists : (vs ws : List AbstractValue) → length vs ≡ length ws → All Passing vs → All Passing ws → vs ≡ ws
  same_lists [] [] e p q = refl
  same_lists [] (w ∷ ws) e p q = absurd (omega (arith, e))
  same_lists (v ∷ vs) [] e p q = absurd (omega (arith, e))
  same_lists (v ∷ vs) (w ∷ ws) e p q =
      let first : v ≡ w = same_passing v w (All-head Passing v vs p) (All-head Passing w ws q) in
      ap (λ (y : AbstractValue). y ∷ vs) first ∙ ap (λ (ys : List AbstractValue). w ∷ ys) (same_lists vs ws (omega (arith, e)) (All-tail Passing v vs p) (All-tail Passing w ws q))

  abbrev pub weight : AbstractValue → ℕ
  weight w = cond (passes w) 1 0

  one_counted : (w : AbstractValue) (ws : List AbstractValue) (b : Bool) → length (cond b (w ∷ filter passes ws) (filter passes ws)) ≡ cond b 1 0 + length (filter passes ws)
  one_counted w ws true = omega arith
  one_counted w ws false = omega arith

  counted : (ws : List AbstractValue) → length (filter passes ws) ≡ sum_by weight ws
  counted [] = refl
  counted (w ∷ ws) = one_counted w ws (passes w) ∙ ap (λ (n : ℕ). weight w + n) (counted ws) ∙ sym (sum_by-cons weight w ws)

  same_filtered : (vs ws : List AbstractValue) → IsPermutation vs ws → All (Good u) vs → filter passes vs ≡ filter passes ws
  same_filtered vs ws perm good =
      same_lists (filter passes vs) (filter passes ws) (counted vs ∙ sym (sum_by-IsPermutation weight vs ws perm) ∙ sym (counted ws)) (all_pass vs good) (all_pass ws (All-permutation (Good u) vs ws perm good))

pub arranged_permuted : (u : AbstractType) (vs ws : List AbstractValue) → is_sound u ≡ true → IsPermutation vs ws → All (Good u) vs → arranged u vs ≡ arranged u ws
arranged_permuted u vs ws sound perm good =
    one_list (after_in u) (order_in u) (arranged u vs) (arranged u ws) (arranged_ascend u vs) (arranged_ascend u ws) (λ x.
    ap (filter (ties (after_in u) x)) (sym (arranged_in u vs)) ∙ kept_sorted (after_in u) (order_in u) x vs ∙ same_filtered u sound x vs ws perm good
    ∙ sym (kept_sorted (after_in u) (order_in u) x ws) ∙ ap (filter (ties (after_in u) x)) (arranged_in u ws))

-- ---- entries and what they say, in pairs

abbrev pub Pair : Type 0
Pair = WrittenEntry × AbstractValue

abbrev pub entry_in : Pair → WrittenEntry
entry_in p = p.0

abbrev pub value_in : Pair → AbstractValue
value_in p = p.1

abbrev pub OneSays : Meaning → AbstractType → Pair → Type 0
OneSays m u p = (p.0.name ≡ None) × Says m u p.0.value p.1

module _ (m : Meaning) (u : AbstractType) where
  first_says : (site : Site) (name : Option (List ℕ)) (tree : WrittenValue) (rest : WrittenEntries) (ws : List AbstractValue) → EntriesSay m u (entry site name tree rest) ws
      → (name ≡ None) × ((v : AbstractValue) × (others : List AbstractValue) × Says m u tree v × EntriesSay m u rest others × (ws ≡ v ∷ others))
  first_says site None tree rest ws h = (refl, h)
  first_says site (Some n) tree rest ws h = absurd h

  in_pairs : (es : List WrittenEntry) (ws : List AbstractValue) → EntriesSay m u (entries_of es) ws → (ps : List Pair) × (map entry_in ps ≡ es) × (map value_in ps ≡ ws) × All (OneSays m u) ps
  in_pairs [] ws h = ([], refl, sym h, All-nil (OneSays m u))
  in_pairs (e ∷ es) ws h =
      let f = first_says e.site e.name e.value (entries_of es) ws h in
      let v = f.1.0 in
      let p = in_pairs es f.1.1 f.1.3 in
      ((e, v) ∷ p.0, ap (λ (xs : List WrittenEntry). e ∷ xs) p.1, ap (λ (xs : List AbstractValue). v ∷ xs) p.2 ∙ sym f.1.4, All-cons (OneSays m u) (e, v) p.0 (f.0, f.1.2) p.3)

  says_first : (site : Site) (name : Option (List ℕ)) (tree : WrittenValue) (rest : WrittenEntries) (v : AbstractValue) (others : List AbstractValue) → name ≡ None → Says m u tree v → EntriesSay m u rest others
      → EntriesSay m u (entry site name tree rest) (v ∷ others)
  says_first site None tree rest v others e h k = (v, others, h, k, refl)
  says_first site (Some n) tree rest v others e h k = absurd cc

  from_pairs : (ps : List Pair) → All (OneSays m u) ps → EntriesSay m u (entries_of (map entry_in ps)) (map value_in ps)
  from_pairs [] h = refl
  from_pairs (p ∷ ps) h =
      let one = All-head (OneSays m u) p ps h in
      says_first p.0.site p.0.name p.0.value (entries_of (map entry_in ps)) p.1 (map value_in ps) one.0 one.1 (from_pairs ps (All-tail (OneSays m u) p ps h))

swap_pairs : {X Y : Type 0} (f : X → Y) (xs : List X) (i j : ℕ) → map f (swap xs i j) ≡ swap (map f xs) i j
swap_pairs f [] i j = refl
swap_pairs {X} {Y} f (x ∷ xs) i j =
    map-set f (set (x ∷ xs) i (get_or (x ∷ xs) j x)) j (get_or (x ∷ xs) i x)
    ∙ ap (λ (ys : List Y). set ys j (f (get_or (x ∷ xs) i x))) (map-set f (x ∷ xs) i (get_or (x ∷ xs) j x))
    ∙ ap (λ (y : Y). set (set (map f (x ∷ xs)) i (f (get_or (x ∷ xs) j x))) j y) (sym (get_or-map f (x ∷ xs) i x))
    ∙ ap (λ (y : Y). set (set (map f (x ∷ xs)) i y) j (get_or (map f (x ∷ xs)) i (f x))) (sym (get_or-map f (x ∷ xs) j x))

permuted_pairs : (ps : List Pair) (others : List WrittenEntry) → IsPermutation (map entry_in ps) others → (qs : List Pair) × IsPermutation ps qs × (map entry_in qs ≡ others)
permuted_pairs ps others perm =
    IsPermutation-keeps (map entry_in ps) (λ l. (qs : List Pair) × IsPermutation ps qs × (map entry_in qs ≡ l)) (ps, IsPermutation-refl ps, refl) (λ l i j below beneath h.
    let count : length h.0 ≡ length l = sym (length-map h.0 entry_in) ∙ ap length h.2 in (
      swap h.0 i j,
      IsPermutation-trans ps h.0 (swap h.0 i j) h.1 (IsPermutation-swap h.0 (swap h.0 i j) i j (omega (arith, below, count)) (omega (arith, beneath, count)) refl),
      swap_pairs entry_in h.0 i j ∙ ap (λ (es : List WrittenEntry). swap es i j) h.2,
    )) others perm

-- ---- the law

all_good : (u : AbstractType) (ws : List AbstractValue) → every_fits (fits u) (items_of ws) ≡ true → are_short u ws ≡ true → All (Good u) ws
all_good u [] fit short = All-nil (Good u)
all_good u (w ∷ ws) fit short =
    let f = and_parts (fits u w) (every_fits (fits u) (items_of ws)) fit in
    let s = and_parts (is_short (der u w)) (are_short u ws) short in
    All-cons (Good u) w ws (f.0, there (der u w) s.0) (all_good u ws f.1 s.1)
  where
    there : (o : Option (List ℕ)) → is_short o ≡ true → (os : List ℕ) × (o ≡ Some os)
    there None e = absurd cc
    there (Some os) e = (os, refl)

short_all : (u : AbstractType) (ws : List AbstractValue) → are_short u ws ≡ true → All (λ w. is_short (der u w) ≡ true) ws
short_all u [] e = All-nil _
short_all u (w ∷ ws) e = let s = and_parts (is_short (der u w)) (are_short u ws) e in All-cons (λ v. is_short (der u v) ≡ true) w ws s.0 (short_all u ws s.1)

all_short : (u : AbstractType) (ws : List AbstractValue) → All (λ w. is_short (der u w) ≡ true) ws → are_short u ws ≡ true
all_short u [] h = refl
all_short u (w ∷ ws) h = and_from (is_short (der u w)) (are_short u ws) (All-head (λ v. is_short (der u v) ≡ true) w ws h) (all_short u ws (All-tail (λ v. is_short (der u v) ≡ true) w ws h))

pub any_order : (m : Meaning) → AreFitting m → (u : AbstractType) → is_sound u ≡ true → (es others : List WrittenEntry) (tags : List Tag) (cons : Constraints) (site : Site) (v : AbstractValue) → IsPermutation es others
    → Denotes m (type_of tags (type.set_of u) cons) (value_node site (written.list (entries_of es))) v → Denotes m (type_of tags (type.set_of u) cons) (value_node site (written.list (entries_of others))) v
any_order m fit u sound es others tags cons site v perm h =
    let ws = h.0.0 in
    let ps = in_pairs m u es ws h.0.1 in
    let moved = permuted_pairs ps.0 others (subst (λ l. IsPermutation l others) (sym ps.1) perm) in
    let xs = map value_in moved.0 in
    let values : IsPermutation ws xs = subst (λ l. IsPermutation l xs) ps.2 (IsPermutation-map value_in ps.0 moved.0 moved.1) in
    let says : EntriesSay m u (entries_of others) xs = subst (λ l. EntriesSay m u (entries_of l) xs) moved.2 (from_pairs m u moved.0 (All-permutation (OneSays m u) ps.0 moved.0 moved.1 ps.3)) in
    let good = all_good u ws (entries_fit m fit (entries_of es) u ws (sound_proper u sound) h.0.1) h.0.3 in
    let few : are_few xs ≡ true = ap (λ (n : ℕ). nat_le n 4294967295) (length_permutation ws xs values) ∙ h.0.2 in
    let short : are_short u xs ≡ true = all_short u xs (All-permutation (λ w. is_short (der u w) ≡ true) ws xs values (short_all u ws h.0.3)) in
    ((xs, says, few, short, h.0.4 ∙ ap (λ (ys : List AbstractValue). value.items (items_of ys)) (arranged_permuted u ws xs sound values good)), h.1)
