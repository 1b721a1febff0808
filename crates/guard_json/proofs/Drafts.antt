-- How parts of an object come together.
use Rattle.std.proofs.Common.{◌≡◌, ℕ, zero, suc, ◌+◌, ◌<◌, ◌≤◌, lit<, Bool, true, false, ◌==◌, ◌&&◌, cond, List, [], ◌∷◌, ◌++◌, length, drop, refl, sym, ap, ap₂, ◌∙◌, subst, append-nil, append_assoc, arith, Bor}
use Rattle.std.specs.Prelude.{Option, Some, None, IfSome, IfOk, Result, Ok, Err, OnOk, is_ok, option_and_then, option_map}
use Rattle.std.specs.List.{list_all, prefix_len}
use Rattle.std.specs.Char.{is_ascii_digit}
use Rattle.std.proofs.lemmas.Bool.{true≢false, false≢true, ne_eqb, eqb-true, leb-true, and_parts, and_from}
use Rattle.std.proofs.lemmas.Bool.Decides.{nat_tests}
use Rattle.std.proofs.lemmas.List.{drop_all}
use Rattle.std.proofs.lemmas.List.Folds.{list_all-append}
use Rattle.std.proofs.lemmas.Str.{IsUtf8-from_ascii, IsUtf8-from_is_utf8, is_utf8-from_IsUtf8}
use Rattle.std.specs.Str.{IsAscii, IsUtf8, is_utf8}
use Rattle.guard_policy.specs.Names.{is_name_octet, is_name}
use Rattle.json.specs.Token.{Token, begin_object, end_object, begin_array, end_array, key, string, number, boolean, null, bad}
use Rattle.json.specs.Word.{after_whole, after_fraction, after_exponent, after_number}
use Rattle.json.specs.Print.{IsNumber, IsPrintable}
use Rattle.json.specs.Written.{Writes}
use Rattle.guard_json.specs.declared.draft.Draft.{Draft}
use Rattle.guard_json.specs.Cutting.{is_number, is_visible, is_path}
use Rattle.guard_json.specs.Members.{Part, both, mark}
use Rattle.guard_json.specs.inside.Drafting.{drafted, is_fine, Adds, Reads}

both_none : (a : Part) → both a None ≡ None
both_none None = refl
both_none (Some a) = refl

pub both_nothing : (a : Part) → both a (Some []) ≡ a
both_nothing None = refl
both_nothing (Some a) = ap Some (append-nil a)

pub both_first : (a : Part) → both (Some []) a ≡ a
both_first None = refl
both_first (Some a) = refl

pub both_assoc : (a b c : Part) → both (both a b) c ≡ both a (both b c)
both_assoc None b c = refl
both_assoc (Some a) None c = refl
both_assoc (Some a) (Some b) None = refl
both_assoc (Some a) (Some b) (Some c) = ap Some (append_assoc a b c)

pub Adds_nothing : (a : Draft) → Adds a a (Some [])
Adds_nothing a = record {
  before = refl;
  memory = λ m. m;
  added = λ m. sym (both_nothing (drafted a));
  fine = λ f. f;
}

pub Adds_is : {a b : Draft} {p q : Part} → Adds a b p → p ≡ q → Adds a b q
Adds_is {a} {b} {p} {q} h e = record {
  before = h.before;
  memory = h.memory;
  added = λ m. h.added m ∙ ap (both (drafted a)) e;
  fine = h.fine;
}

-- two parts, of which the first is meant as q
pub Adds_two : {a b c : Draft} {p q r : Part} → Adds a b p → p ≡ q → Adds b c r → Adds a c (both q r)
Adds_two {a} {b} {c} {p} {q} {r} h e k = record {
  before = k.before ∙ h.before;
  memory = λ m. h.memory (k.memory m);
  added = λ m. k.added m ∙ ap (λ x. both x r) (h.added (k.memory m) ∙ ap (both (drafted a)) e) ∙ both_assoc (drafted a) q r;
  fine = λ f. k.fine (h.fine f);
}

pub Adds_more : {a b c : Draft} {p q : Part} → Adds a b p → Adds b c q → Adds a c (both p q)
Adds_more h k = Adds_two h refl k

pub Adds_then : {a b : Draft} {t : Bool} {p : Part} (q : Part) → Adds a b p → t ≡ true → Adds a b (cond t p q)
Adds_then {a} {b} {t} {p} q h e = Adds_is h (sym (ap (λ x. cond x p q) e))

pub Adds_else : {a b : Draft} {t : Bool} {q : Part} (p : Part) → Adds a b q → t ≡ false → Adds a b (cond t p q)
Adds_else {a} {b} {t} {q} p h e = Adds_is h (sym (ap (λ x. cond x p q) e))

pub Adds_to : {a b c : Draft} {p : Part} → Adds a b p → c ≡ b → Adds a c p
Adds_to {a} {b} {c} {p} h e = subst (λ x. Adds a x p) (sym e) h

-- ---- what the steps of a draft add

with_token : (b : Bool) (ts us : List Token) (t : Token) → us ≡ ts ++ t ∷ [] → cond b (Some us) None ≡ both (cond b (Some ts) None) (mark t)
with_token true ts us t e = ap Some e
with_token false ts us t e = refl

Adds_token : {a b : Draft} {t : Token} → b.writer.before ≡ a.writer.before → b.writer.tokens ≡ a.writer.tokens ++ t ∷ []
    → b.has_form ≡ a.has_form → b.has_memory ≡ a.has_memory → is_fine t ≡ true → Adds a b (mark t)
Adds_token {a} {b} {t} before grew form memory fine = record {
  before = before;
  memory = λ m. sym memory ∙ m;
  added = λ m. ap (λ x. cond x (Some b.writer.tokens) None) form ∙ with_token a.has_form a.writer.tokens b.writer.tokens t grew;
  fine = λ f. ap (list_all is_fine) grew ∙ list_all-append is_fine a.writer.tokens (t ∷ []) ∙ and_from _ _ f (and_from _ _ fine refl);
}

-- where memory has run out all may be
Adds_none : {a b : Draft} {p : Part} → b.writer.before ≡ a.writer.before → b.writer.tokens ≡ a.writer.tokens → b.has_memory ≡ false → Adds a b p
Adds_none {a} {b} {p} before same memory = record {
  before = before;
  memory = λ m. absurd (true≢false (sym m ∙ memory));
  added = λ m. absurd (true≢false (sym m ∙ memory));
  fine = λ f. ap (list_all is_fine) same ∙ f;
}

-- the token is added, where there was memory for it
pub Adds_written : {a b : Draft} {t : Token} {E : Type 0} (r : Result (Unit {0}) E) → Writes r a.writer b.writer t
    → b.has_form ≡ a.has_form → a.has_memory ≡ true → b.has_memory ≡ is_ok r → is_fine t ≡ true → Adds a b (mark t)
Adds_written (Ok _) w form had memory fine = Adds_token w.room.0 w.ok form (memory ∙ sym had) fine
Adds_written (Err _) w form had memory fine = Adds_none w.room.0 w.err memory

pub Adds_no_form : (a : Draft) → Adds a (record a { has_form = false }) None
Adds_no_form a = record {
  before = refl;
  memory = λ m. m;
  added = λ m. sym (both_none (drafted a));
  fine = λ f. f;
}

-- ---- by results

pub some_is : {X : Type 0} {x y : X} → Some x ≡ Some y → x ≡ y
some_is h = cc

pub some_of : {X : Type 0} (P : X → Type 0) (o : Option X) (x : X) → o ≡ Some x → IfSome o P → P x
some_of P o x e h = subst (λ y. IfSome y P) e h

pub if_ok_and : {X E : Type 0} {P Q : X → Type 0} {M : Type 0} (r : Result X E) → OnOk r M → IfOk r P → (M → (x : X) → P x → Q x) → IfOk r Q
if_ok_and (Ok x) m h f = f m x h
if_ok_and (Err e) m h f = tt

pub on_ok_and : {X E P Q M : Type 0} (r : Result X E) → OnOk r M → OnOk r P → (M → P → Q) → OnOk r Q
on_ok_and (Ok x) m h f = f m h
on_ok_and (Err e) m h f = tt

-- what was added to a new draft
pub only_part : (a b : Part) (p : Part) → a ≡ Some [] → b ≡ both a p → b ≡ p
only_part a b p e h = h ∙ ap (λ x. both x p) e ∙ both_first p

pub Reads_if : (b : Bool) (ts : List Token) → Reads ts → IfSome (cond b (Some ts) None) Reads
Reads_if true ts h = h
Reads_if false ts h = tt

-- ---- words are ASCII

-- what holds of each octet makes it ASCII
ascii : (p : ℕ → Bool) → ((c : ℕ) → p c ≡ true → c < 128) → (w : List ℕ) → list_all p w ≡ true → IsUtf8 w
ascii p small w h = IsUtf8-from_ascii w (among w h)
  where
    among : (w : List ℕ) → list_all p w ≡ true → IsAscii w
    among [] h i = lit< tt
    among (c ∷ cs) h zero = small c (and_parts _ _ h).0
    among (c ∷ cs) h (suc i) = among cs (and_parts _ _ h).1 i

digit_small : (c : ℕ) → is_ascii_digit c ≡ true → c < 128
digit_small c h = let high : c ≤ 57 = leb-true c 57 (and_parts _ _ h).1 in omega arith

rest_digits : (z : Bool) (cs : List ℕ) → cond z (length cs == 0) (list_all is_ascii_digit cs) ≡ true → list_all is_ascii_digit cs ≡ true
rest_digits true [] h = refl
rest_digits true (c ∷ cs) h = absurd (true≢false (sym h ∙ ne_eqb (length (c ∷ cs)) 0 (λ e. omega arith)))
rest_digits false cs h = h

-- a number is of digits
pub digits_of : (w : List ℕ) → is_number w ≡ true → list_all is_ascii_digit w ≡ true
digits_of [] h = absurd (false≢true h)
digits_of (c ∷ cs) h = let p = and_parts _ _ h in and_from _ _ p.0 (rest_digits (c == 48) cs p.1)

pub IsUtf8-is_number : (w : List ℕ) → is_number w ≡ true → IsUtf8 w
IsUtf8-is_number w h = ascii is_ascii_digit digit_small w (digits_of w h)

name_small : (c : ℕ) → is_name_octet c ≡ true → c < 128
name_small c h = grind (arith, nat_tests)

pub IsUtf8-is_name : (w : List ℕ) → is_name w ≡ true → IsUtf8 w
IsUtf8-is_name w h = ascii is_name_octet name_small w (and_parts _ _ h).1

visible_small : (c : ℕ) → is_visible c ≡ true → c < 128
visible_small c h = let high : c ≤ 126 = leb-true c 126 (and_parts _ _ h).1 in omega arith

pub IsUtf8-is_path : (w : List ℕ) → is_path w ≡ true → IsUtf8 w
IsUtf8-is_path [] h = absurd (false≢true h)
IsUtf8-is_path (c ∷ cs) h =
    let p = and_parts _ _ h in
    ascii is_visible visible_small (c ∷ cs) (and_from _ _ (ap is_visible (eqb-true c 36 p.0)) p.1)

not_utf8_at : (b : Bool) (w : List ℕ) → is_utf8 w ≡ b → (IsUtf8 w → ⊥) → is_utf8 w ≡ false
not_utf8_at true w e h = absurd (h (IsUtf8-from_is_utf8 w e))
not_utf8_at false w e h = e

pub not_utf8 : (w : List ℕ) → (IsUtf8 w → ⊥) → is_utf8 w ≡ false
not_utf8 w h = not_utf8_at (is_utf8 w) w refl h

-- a word that only a text can be
pub where_utf8 : (h t : Bool) (w : List ℕ) → h ≡ t → (t ≡ true → IsUtf8 w) → h && is_utf8 w ≡ t
where_utf8 h true w e k = ap₂ (λ a b. a && b) e (is_utf8-from_IsUtf8 w (k refl))
where_utf8 h false w e k = ap (λ a. a && is_utf8 w) e

-- a word of one kind is its token
pub token_where : (t : Bool) (v : Option (Bor (List ℕ))) (w : List ℕ) (F : List ℕ → Token)
    → option_map (λ x. x.now) v ≡ cond t (Some w) None → option_map (λ x. F x.now) v ≡ cond t (Some (F w)) None
token_where true None w F h = ap (option_map F) h
token_where true (Some x) w F h = ap (option_map F) h
token_where false None w F h = ap (option_map F) h
token_where false (Some x) w F h = ap (option_map F) h

-- ---- what may be written

digits_all : (ds : List ℕ) → list_all is_ascii_digit ds ≡ true → prefix_len is_ascii_digit ds ≡ length ds
digits_all [] h = refl
digits_all (d ∷ ds) h =
    let p = and_parts _ _ h in
    ap (λ b. cond b (1 + prefix_len is_ascii_digit ds) 0) p.0 ∙ (let e : prefix_len is_ascii_digit ds ≡ length ds = digits_all ds p.1 in omega arith)

-- the whole part of such a number, by whether its first digit is 0
whole : (z : Bool) (d : ℕ) (ds : List ℕ) → is_ascii_digit d ≡ true → cond z (length ds == 0) (list_all is_ascii_digit ds) ≡ true
    → cond z (Some ds) (cond (prefix_len is_ascii_digit (d ∷ ds) == 0) None (Some (drop (prefix_len is_ascii_digit (d ∷ ds)) (d ∷ ds)))) ≡ Some []
whole true d [] first h = refl
whole true d (c ∷ cs) first h = absurd (true≢false (sym h ∙ ne_eqb (length (c ∷ cs)) 0 (λ e. omega arith)))
whole false d ds first h =
    let n : prefix_len is_ascii_digit (d ∷ ds) ≡ length (d ∷ ds) = digits_all (d ∷ ds) (and_from _ _ first h) in
    rw (n, ne_eqb (length (d ∷ ds)) 0 (λ e. omega arith)) (ap Some (drop_all (length (d ∷ ds)) (d ∷ ds) (omega arith)))

pub IsNumber-is_number : (s : List ℕ) → is_number s ≡ true → IsNumber s
unfolding after_number
IsNumber-is_number [] h = absurd (false≢true h)
IsNumber-is_number (d ∷ ds) h =
    let p = and_parts _ _ h in
    let low : 48 ≤ d = leb-true 48 d (and_parts _ _ p.0).0 in
    ap (λ o. option_and_then after_exponent (option_and_then after_fraction o))
    (ap (λ b. after_whole (cond b ds (d ∷ ds))) (ne_eqb d 45 (λ e. omega arith)) ∙ whole (d == 48) d ds p.0 p.1)

pub IsPrintable-is_fine : (t : Token) → is_fine t ≡ true → IsPrintable t
IsPrintable-is_fine begin_object h = tt
IsPrintable-is_fine end_object h = tt
IsPrintable-is_fine begin_array h = tt
IsPrintable-is_fine end_array h = tt
IsPrintable-is_fine (key s) h = tt
IsPrintable-is_fine (string s) h = tt
IsPrintable-is_fine (number s) h = IsNumber-is_number s h
IsPrintable-is_fine (boolean b) h = tt
IsPrintable-is_fine null h = tt
IsPrintable-is_fine bad h = absurd (false≢true h)
