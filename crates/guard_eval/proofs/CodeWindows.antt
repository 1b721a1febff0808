-- Texts whose characters are looked up in one window of codes after the other.
use Rattle.std.proofs.Common.{◌≡◌, ℕ, ◌+◌, ◌-◌, ◌<◌, ◌≤◌, Bool, true, false, ◌&&◌, ◌||◌, List, [], ◌∷◌, length, take, drop, get_or, nat_le, nat_lt, Some, None, inl, inr, refl, sym, ap, ◌∙◌, arith}
use Rattle.std.specs.List.{list_all}
use Rattle.std.proofs.lemmas.Bool.{and_parts, cases_Bool, cases_lt, le-leb, lt-leb, leb-true, lt-ltb, le-ltb, ltb-true}
use Rattle.std.proofs.lemmas.List.{at_drop_more, drop_all, get_or_default, get_or_past}
use Rattle.std.proofs.lemmas.List.Folds.{list_all_more}
use Rattle.guard_eval.specs.Elements.{is_in_some}
use Rattle.guard_eval.specs.inside.Windows.{is_clear, is_kept}

-- ---- tests of all characters

pub test_next : (p : ℕ → Bool) (cs : List ℕ) (n c : ℕ) → (n < length cs) × (c ≡ get_or cs n c) → list_all p (drop n cs) ≡ (p c && list_all p (drop (n + 1) cs))
test_next p cs n c h = at_drop_more (list_all p) cs n c h.0 ∙ ap (λ (x : ℕ). p x && list_all p (drop (n + 1) cs)) (sym h.1)

pub test_end : (p : ℕ → Bool) (cs : List ℕ) (n : ℕ) (w : Bool) → n ≡ length cs → list_all p (drop n cs) ≡ w → true ≡ w
test_end p cs n w all e = rw (drop_all n cs (omega (arith, all))) at e

both : (a b : Bool) → a ≡ true → b ≡ true → (a && b) ≡ true
both a b e f = rw (e, f) refl

pub all_imply : (p q : ℕ → Bool) → ((c : ℕ) → p c ≡ true → q c ≡ true) → (cs : List ℕ) → list_all p cs ≡ true → list_all q cs ≡ true
all_imply p q f [] h = refl
all_imply p q f (c ∷ cs) h = let k = and_parts (p c) (list_all p cs) h in both (q c) (list_all q cs) (f c k.0) (all_imply p q f cs k.1)

-- ---- the next code

pub clear_more : (p q : ℕ → Bool) (cs : List ℕ) (n c : ℕ) → (n < length cs) × (c ≡ get_or cs n c) → ((x : ℕ) → p x ≡ true → q x ≡ true) → q c ≡ true
    → list_all p (take n cs) ≡ true → list_all q (take (n + 1) cs) ≡ true
clear_more p q cs n c h kept clear so_far =
    list_all_more q cs n c h.0 ∙ both (list_all q (take n cs)) (q (get_or cs n c)) (all_imply p q kept (take n cs) so_far) (ap q (sym h.1) ∙ clear)

-- ---- one window more

-- whether the ranges have the code, if it is below the begin
abbrev pub is_done : List (ℕ × ℕ) → ℕ → ℕ → Bool
is_done rs begin c = nat_le begin c || is_in_some rs c

or_right : (a b : Bool) → a ≡ false → (a || b) ≡ true → b ≡ true
or_right a b e h = sym (ap (λ (x : Bool). x || b) e) ∙ h

or_true : (a b : Bool) → b ≡ true → (a || b) ≡ true
or_true true b e = refl
or_true false b e = e

pub each_passes : (p : ℕ → Bool) → ((c : ℕ) → p c ≡ true) → (cs : List ℕ) → list_all p cs ≡ true
each_passes p f [] = refl
each_passes p f (c ∷ cs) = both (p c) (list_all p cs) (f c) (each_passes p f cs)

all_together : (p q r s : ℕ → Bool) → ((c : ℕ) → p c ≡ true → q c ≡ true → r c ≡ true → s c ≡ true) → (cs : List ℕ) → list_all p cs ≡ true → list_all q cs ≡ true → list_all r cs ≡ true → list_all s cs ≡ true
all_together p q r s f [] h k m = refl
all_together p q r s f (c ∷ cs) h k m =
    let a = and_parts (p c) (list_all p cs) h in
    let b = and_parts (q c) (list_all q cs) k in
    let d = and_parts (r c) (list_all r cs) m in
    both (s c) (list_all s cs) (f c a.0 b.0 d.0) (all_together p q r s f cs a.1 b.1 d.1)

pub none_below : (rs : List (ℕ × ℕ)) (cs : List ℕ) → list_all (is_done rs 0) cs ≡ true
none_below rs cs = each_passes (is_done rs 0) (λ c. ap (λ (b : Bool). b || is_in_some rs c) (le-leb 0 c (omega (arith)))) cs

module _ (rs : List (ℕ × ℕ)) (known : List Bool) (first : ℕ) (size : length known ≡ 1024)
    (are : (place : ℕ) → place < 1024 → get_or known place false ≡ is_in_some rs (first + place)) where
  marked : (c : ℕ) → first ≤ c → c < first + 1024 → get_or known (c - first) true ≡ is_in_some rs c
  marked c from under =
      let within : c - first < 1024 = omega (arith, from, under) in
      let placed : first + (c - first) ≡ c = omega (arith, from) in
      get_or_default known (c - first) true false (omega (arith, within, size)) ∙ are (c - first) within ∙ ap (λ (x : ℕ). is_in_some rs x) placed

  done_at : (begin c : ℕ) → is_done rs begin c ≡ true → is_clear begin (Some first) c ≡ true → is_kept known first c ≡ true → is_done rs (first + 1024) c ≡ true
  done_at begin c done clear kept = elim (cases_lt c begin) [
    | inl below ↦ or_true (nat_le (first + 1024) c) (is_in_some rs c) (or_right (nat_le begin c) (is_in_some rs c) (lt-leb begin c below) done)
    | inr at ↦
        let from : first ≤ c = leb-true first c (or_right (nat_lt c begin) (nat_le first c) (le-ltb c begin at) clear) in
        elim (cases_lt c (first + 1024)) [
          | inl under ↦ or_true (nat_le (first + 1024) c) (is_in_some rs c) (sym (marked c from under) ∙ or_right (nat_lt c first) (get_or known (c - first) true) (le-ltb c first from) kept)
          | inr past ↦ ap (λ (b : Bool). b || is_in_some rs c) (le-leb (first + 1024) c past)
        ]
  ]

  pub window_done : (begin : ℕ) (cs : List ℕ) → list_all (is_done rs begin) cs ≡ true → list_all (is_clear begin (Some first)) cs ≡ true → list_all (is_kept known first) cs ≡ true → list_all (is_done rs (first + 1024)) cs ≡ true
  window_done begin cs = all_together (is_done rs begin) (is_clear begin (Some first)) (is_kept known first) (is_done rs (first + 1024)) (done_at begin) cs

  kept_at : (c : ℕ) → is_in_some rs c ≡ true → is_kept known first c ≡ true
  kept_at c is = elim (cases_lt c first) [
    | inl below ↦ ap (λ (b : Bool). b || get_or known (c - first) true) (lt-ltb c first below)
    | inr from ↦ or_true (nat_lt c first) (get_or known (c - first) true) (elim (cases_lt c (first + 1024)) [
      | inl under ↦ marked c from under ∙ is
      | inr past ↦ get_or_past known (c - first) true (omega (arith, size, past))
    ])
  ]

  pub window_refused : (cs : List ℕ) → list_all (is_kept known first) cs ≡ false → false ≡ list_all (is_in_some rs) cs
  window_refused cs refused = elim (cases_Bool (list_all (is_in_some rs) cs)) [
    | inl all ↦ let h : list_all (is_kept known first) cs ≡ true = all_imply (is_in_some rs) (is_kept known first) kept_at cs all in sym refused ∙ h ∙ sym all
    | inr is ↦ sym is
  ]

below_begin : (rs : List (ℕ × ℕ)) (begin c : ℕ) → is_done rs begin c ≡ true → is_clear begin None c ≡ true → is_in_some rs c ≡ true
below_begin rs begin c done clear = or_right (nat_le begin c) (is_in_some rs c) (lt-leb begin c (ltb-true c begin clear)) done

pub windows_end : (rs : List (ℕ × ℕ)) (begin : ℕ) (cs : List ℕ) → list_all (is_done rs begin) cs ≡ true → list_all (is_clear begin None) cs ≡ true → true ≡ list_all (is_in_some rs) cs
windows_end rs begin cs done clear = sym (all_together (is_done rs begin) (is_clear begin None) (is_done rs begin) (is_in_some rs) (λ c d k e. below_begin rs begin c d k) cs done clear done)
