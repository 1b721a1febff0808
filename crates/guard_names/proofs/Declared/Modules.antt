-- The numbers of modules.
use Rattle.std.proofs.Common.{◌≡◌, ℕ, zero, suc, ◌<◌, Bool, true, false, cond, List, [], ◌∷◌, map, length, get_or, Option, Some, None, option_map, is_some, slice_get, Result, Ok, Err, refl, sym, ◌∙◌, ap, arith}
use Rattle.std.specs.Prelude.{bytes_eq, option_and_then, OnOk}
use Rattle.std.specs.Cmp.Lexicographic.{bytes_decides}
use Rattle.std.proofs.lemmas.Option.{same_Some, slice_get-map}
use Rattle.guard_syntax.specs.Trees.{WrittenModule}
use Rattle.guard_syntax.specs.declared.tree.Module.{Module}
use Rattle.guard_syntax.specs.ModuleViews.{module_view}
use Rattle.guard_names.specs.Meanings.{number_meant, number_meant_in}
use Rattle.guard_names.specs.TableViews.{module_number}

-- ---- modules of one number have one name

never_both : (o : Option ℕ) (n : ℕ) → Some 0 ≡ Some n → option_map suc o ≡ Some n → ⊥
never_both None n first second = cc
never_both (Some k) n first second = cc

later : (o : Option ℕ) (n : ℕ) → option_map suc o ≡ Some n → (k : ℕ) × (o ≡ Some k) × (suc k ≡ n)
later None n h = absurd cc
later (Some k) n h = (k, refl, same (suc k) n h)
  where
    same : (x y : ℕ) → ◌≡◌ {A = Option ℕ} (Some x) (Some y) → x ≡ y
    same x y e = cc

pub one_name : (ms : List WrittenModule) (n : ℕ) (a b : List ℕ) → module_number ms a ≡ Some n → module_number ms b ≡ Some n → a ≡ b
one_name [] n a b first second = absurd cc
one_name (m ∷ ms) n a b first second = by (bytes_eq a m.name) refl (bytes_eq b m.name) refl first second (λ k x y. one_name ms k a b x y)
  where
    by : (p : Bool) → bytes_eq a m.name ≡ p → (q : Bool) → bytes_eq b m.name ≡ q
        → cond p (Some 0) (option_map suc (module_number ms a)) ≡ Some n → cond q (Some 0) (option_map suc (module_number ms b)) ≡ Some n
        → ((k : ℕ) → module_number ms a ≡ Some k → module_number ms b ≡ Some k → a ≡ b) → a ≡ b
    by true e true f first second rest = (bytes_decides a m.name).0 e ∙ sym ((bytes_decides b m.name).0 f)
    by true e false f first second rest = absurd (never_both (module_number ms b) n first second)
    by false e true f first second rest = absurd (never_both (module_number ms a) n second first)
    by false e false f first second rest =
        let x = later (module_number ms a) n first in
        let y = later (module_number ms b) n second in
        let same : y.0 ≡ x.0 = omega (arith, x.2, y.2) in
        rest x.0 x.1 (y.1 ∙ ap (λ (k : ℕ). Some k) same)

-- ---- the first module of a name, as a loop looks for it

pub number_at : (name : List ℕ) (xs : List Module) (i : ℕ) (x : Module) → i < length xs
    → ((k : ℕ) (d : Module) → k < i → bytes_eq name (get_or xs k d).name.now ≡ false) → bytes_eq name (get_or xs i x).name.now ≡ true
    → Some i ≡ module_number (map module_view xs) name
number_at name [] i x inside before here = absurd (omega (arith, inside))
number_at name (y ∷ ys) zero x inside before here = sym (ap (λ b. cond b (Some 0) (option_map suc (module_number (map module_view ys) name))) here)
number_at name (y ∷ ys) (suc i) x inside before here =
    ap (option_map suc) (number_at name ys i x (omega (arith, inside)) (λ k d l. before (suc k) d (omega (arith, l))) here)
    ∙ sym (ap (λ b. cond b (Some 0) (option_map suc (module_number (map module_view ys) name))) (before zero y (omega arith)))

pub number_nowhere : (name : List ℕ) (xs : List Module) → ((k : ℕ) (d : Module) → k < length xs → bytes_eq name (get_or xs k d).name.now ≡ false)
    → None ≡ module_number (map module_view xs) name
number_nowhere name [] before = refl
number_nowhere name (y ∷ ys) before =
    ap (option_map suc) (number_nowhere name ys (λ k d l. before (suc k) d (omega (arith, l))))
    ∙ sym (ap (λ b. cond b (Some 0) (option_map suc (module_number (map module_view ys) name))) (before zero y (omega arith)))

-- ---- a module that is there has a number

some_later : (o : Option ℕ) → is_some o ≡ true → is_some (option_map suc o) ≡ true
some_later None h = absurd cc
some_later (Some k) h = refl

pub has_number : (xs : List Module) (i : ℕ) (x : Module) → i < length xs → x ≡ get_or xs i x → is_some (module_number (map module_view xs) x.name.now) ≡ true
has_number [] i x inside is = absurd (omega (arith, inside))
has_number (y ∷ ys) zero x inside is =
    ap (λ b. is_some (cond b (Some 0) (option_map suc (module_number (map module_view ys) x.name.now))))
    ((bytes_decides x.name.now y.name.now).1 (ap (λ (m : Module). m.name.now) is))
has_number (y ∷ ys) (suc i) x inside is = by (bytes_eq x.name.now y.name.now) (has_number ys i x (omega (arith, inside)) is)
  where
    by : (b : Bool) → is_some (module_number (map module_view ys) x.name.now) ≡ true → is_some (cond b (Some 0) (option_map suc (module_number (map module_view ys) x.name.now))) ≡ true
    by true rest = refl
    by false rest = some_later (module_number (map module_view ys) x.name.now) rest

-- ---- what names mean in the module at a place

-- the module that has the number
there : (ms : List WrittenModule) (home : List ℕ) (n : ℕ) → module_number ms home ≡ Some n → (m : WrittenModule) × (slice_get ms n ≡ Some m) × (m.name ≡ home)
there [] home n is = absurd cc
there (m ∷ ms) home n is = by (bytes_eq home m.name) refl is (there ms home)
  where
    by : (b : Bool) → bytes_eq home m.name ≡ b → cond b (Some 0) (option_map suc (module_number ms home)) ≡ Some n
        → ((k : ℕ) → module_number ms home ≡ Some k → (d : WrittenModule) × (slice_get ms k ≡ Some d) × (d.name ≡ home))
        → (d : WrittenModule) × (slice_get (m ∷ ms) n ≡ Some d) × (d.name ≡ home)
    by true same is' rest = (m, ap (slice_get (m ∷ ms)) (sym (same_Some 0 n is')), sym ((bytes_decides home m.name).0 same))
    by false other is' rest =
        let k = later (module_number ms home) n is' in
        let d = rest k.0 k.1 in
        (d.0, ap (slice_get (m ∷ ms)) (sym k.2) ∙ d.1, d.2)

pub meant_there : (ms : List WrittenModule) (home name : List ℕ) → (None ≡ module_number ms home → number_meant ms home name ≡ None)
    → number_meant_in ms (module_number ms home) name ≡ number_meant ms home name
meant_there ms home name nowhere = by (module_number ms home) refl
  where
    by : (o : Option ℕ) → module_number ms home ≡ o → number_meant_in ms o name ≡ number_meant ms home name
    by None is = sym (nowhere (sym is))
    by (Some n) is =
        let m = there ms home n is in
        ap (option_and_then (λ (d : WrittenModule). number_meant ms d.name name)) m.1 ∙ ap (λ h. number_meant ms h name) m.2

module _ (xs : List Module) (name : List ℕ) (place : ℕ) where
  abbrev numbers : List (Option ℕ)
  numbers = map (λ m. module_number (map module_view xs) m.name.now) xs

  abbrev meant : WrittenModule → Option ℕ
  meant m = number_meant (map module_view xs) m.name name

  pub meant_at : (number found : Option ℕ) → Some number ≡ slice_get numbers place
      → ((home : List ℕ) → number ≡ module_number (map module_view xs) home → found ≡ number_meant (map module_view xs) home name)
      → found ≡ number_meant_in (map module_view xs) (Some place) name
  meant_at number found at same = by (slice_get xs place) (at ∙ slice_get-map _ xs place) (slice_get-map module_view xs place)
    where
      by : (o : Option Module) → Some number ≡ option_map (λ m. module_number (map module_view xs) m.name.now) o
          → slice_get (map module_view xs) place ≡ option_map module_view o → found ≡ number_meant_in (map module_view xs) (Some place) name
      by None none is = absurd cc
      by (Some m) numbered is = same m.name.now (same_Some number _ numbered) ∙ ap (option_and_then meant) (sym is)

  pub meant_nowhere : None ≡ slice_get numbers place → None ≡ number_meant_in (map module_view xs) (Some place) name
  meant_nowhere at = by (slice_get xs place) (at ∙ slice_get-map _ xs place) (slice_get-map module_view xs place)
    where
      by : (o : Option Module) → None ≡ option_map (λ m. module_number (map module_view xs) m.name.now) o
          → slice_get (map module_view xs) place ≡ option_map module_view o → None ≡ number_meant_in (map module_view xs) (Some place) name
      by None none is = ap (option_and_then meant) (sym is)
      by (Some m) numbered is = absurd cc

-- what follows from what holds of success
pub on_ok : {X E A B : Type 0} (r : Result X E) → (A → B) → OnOk r A → OnOk r B
on_ok (Ok x) f h = f h
on_ok (Err e) f h = tt
