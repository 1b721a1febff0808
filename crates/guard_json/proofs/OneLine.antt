-- What is printed of tokens has no line feed.
use Rattle.std.proofs.Common.{◌≡◌, ℕ, ◌/◌, ◌%◌, ◌+◌, ◌≤◌, Bool, true, false, ◌&&◌, ◌||◌, not, ◌==◌, cond, nat_lt, List, [], ◌∷◌, ◌++◌, refl, ap, ap₂, ◌∙◌, inl, inr, arith}
use Rattle.std.specs.List.{list_all}
use Rattle.std.specs.Char.{is_ascii_digit, digit_char}
use Rattle.std.proofs.lemmas.Bool.{ne_eqb, eqb-true, leb-true, ltb-false, and_parts, and_from, or_cases}
use Rattle.std.proofs.lemmas.List.Folds.{list_all-append}
use Rattle.json.specs.Token.{Token, begin_object, end_object, begin_array, end_array, key, string, number, boolean, null, bad}
use Rattle.json.specs.Print.{escape_letter, escape_byte, escape, quoted, token_text, ends, begins, separator, print_from}
use Rattle.guard_json.specs.Cutting.{is_number}
use Rattle.guard_json.specs.Taken.{is_no_feed, is_one_line}
use Rattle.guard_json.specs.inside.Drafting.{is_fine}
use Rattle.guard_json.proofs.Drafts.{digits_of}

pub one_line_both : (xs ys : List ℕ) → is_one_line xs ≡ true → is_one_line ys ≡ true → is_one_line (xs ++ ys) ≡ true
one_line_both xs ys h k = list_all-append is_no_feed xs ys ∙ and_from _ _ h k

chosen : (t : Bool) (xs ys : List ℕ) → (t ≡ true → is_one_line xs ≡ true) → (t ≡ false → is_one_line ys ≡ true) → is_one_line (cond t xs ys) ≡ true
chosen true xs ys f g = f refl
chosen false xs ys f g = g refl

no_ten : (t : Bool) (x y : ℕ) → (t ≡ true → (x == 10) ≡ false) → (y == 10) ≡ false → (cond t x y == 10) ≡ false
no_ten true x y f h = f refl
no_ten false x y f h = h

letter : (x : ℕ) → (escape_letter x == 10) ≡ false
letter x =
    no_ten ((x == 34) || (x == 92)) x _
    (λ t. elim (or_cases _ _ t) [ inl e ↦ ap (λ y. y == 10) (eqb-true x 34 e) | inr e ↦ ap (λ y. y == 10) (eqb-true x 92 e) ])
    (no_ten (x == 8) 98 _ (λ t. refl) (no_ten (x == 12) 102 _ (λ t. refl) (no_ten (x == 10) 110 _ (λ t. refl)
    (no_ten (x == 13) 114 _ (λ t. refl) (no_ten (x == 9) 116 0 (λ t. refl) refl)))))

digit : (d : ℕ) → (digit_char d == 10) ≡ false
digit d = no_ten (nat_lt d 10) (48 + d) (87 + d) (λ t. ne_eqb (48 + d) 10 (λ e. omega arith)) (ne_eqb (87 + d) 10 (λ e. omega arith))

byte : (x : ℕ) → is_one_line (escape_byte x) ≡ true
unfolding escape_byte
byte x =
    chosen (nat_lt 0 (escape_letter x)) (92 ∷ escape_letter x ∷ []) _ (λ t. ap (λ b. not b && true) (letter x))
    (λ f. chosen (nat_lt x 32) (92 ∷ 117 ∷ 48 ∷ 48 ∷ digit_char (x / 16) ∷ digit_char (x % 16) ∷ []) (x ∷ [])
    (λ t. ap₂ (λ u v. not u && (not v && true)) (digit (x / 16)) (digit (x % 16)))
    (λ g. let high : 32 ≤ x = ltb-false x 32 g in ap (λ b. not b && true) (ne_eqb x 10 (λ e. omega arith))))

escaped : (s : List ℕ) → is_one_line (escape s) ≡ true
escaped [] = refl
escaped (x ∷ xs) = one_line_both (escape_byte x) (escape xs) (byte x) (escaped xs)

string_line : (s : List ℕ) → is_one_line (quoted s) ≡ true
string_line s = one_line_both (escape s) (34 ∷ []) (escaped s) refl

no_feed_digit : (c : ℕ) → is_ascii_digit c ≡ true → is_no_feed c ≡ true
no_feed_digit c h =
    let low : 48 ≤ c = leb-true 48 c (and_parts _ _ h).0 in
    ap not (ne_eqb c 10 (λ e. omega arith))

digits_line : (cs : List ℕ) → list_all is_ascii_digit cs ≡ true → is_one_line cs ≡ true
digits_line [] h = refl
digits_line (c ∷ cs) h = let p = and_parts _ _ h in and_from _ _ (no_feed_digit c p.0) (digits_line cs p.1)

number_line : (s : List ℕ) → is_number s ≡ true → is_one_line s ≡ true
number_line s h = digits_line s (digits_of s h)

token_line : (t : Token) → is_fine t ≡ true → is_one_line (token_text t) ≡ true
token_line begin_object h = refl
token_line end_object h = refl
token_line begin_array h = refl
token_line end_array h = refl
token_line (key s) h = one_line_both (quoted s) (58 ∷ []) (string_line s) refl
token_line (string s) h = string_line s
token_line (number s) h = number_line s h
token_line (boolean true) h = refl
token_line (boolean false) h = refl
token_line null h = refl
token_line bad h = refl

comma_line : (b : Bool) → is_one_line (cond b (44 ∷ []) []) ≡ true
comma_line true = refl
comma_line false = refl

pub print_line : (b : Bool) (ts : List Token) → list_all is_fine ts ≡ true → is_one_line (print_from b ts) ≡ true
unfolding print_from
print_line b [] h = refl
print_line b (t ∷ ts) h =
    let p = and_parts _ _ h in
    one_line_both (separator b t) (token_text t ++ print_from (ends t) ts) (comma_line (b && begins t))
    (one_line_both (token_text t) (print_from (ends t) ts) (token_line t p.0) (print_line (ends t) ts p.1))
