-- The test of permitted characters, one at a time, and how many characters a text has.
use Rattle.std.proofs.Common.{◌≡◌, ℕ, suc, ◌+◌, ◌/◌, ◌%◌, ◌<◌, ◌≤◌, Bool, true, false, cond, nat_lt, nat_le, ◌||◌, List, [], ◌∷◌, length, drop, get_or, refl, sym, ap, ◌∙◌, ◌&&◌, arith}
use Rattle.std.proofs.lemmas.Bool.Decides.{nat_tests}
use Rattle.std.proofs.lemmas.List.{at_drop_more, drop_all}
use Rattle.std.proofs.lemmas.List.Sums.{sum_by-append}
use Rattle.std.proofs.lemmas.Str.{encodes-chars, chars-IsAscii}
use Rattle.std.specs.List.{list_all, count_by}
use Rattle.std.specs.Str.{chars, IsUtf8, IsAscii, encode_utf8_all}
use Rattle.std.specs.Char.{encode_utf8}
use Rattle.guard_eval.specs.Elements.{is_in_some}
use Rattle.guard_eval.specs.inside.Characters.{begins_one}

pub character_next : (rs : List (ℕ × ℕ)) (cs : List ℕ) (n c : ℕ) → (n < length cs) × (c ≡ get_or cs n c) → list_all (is_in_some rs) (drop n cs) ≡ (is_in_some rs c && list_all (is_in_some rs) (drop (n + 1) cs))
character_next rs cs n c h = at_drop_more (list_all (is_in_some rs)) cs n c h.0 ∙ ap (λ (x : ℕ). is_in_some rs x && list_all (is_in_some rs) (drop (n + 1) cs)) (sym h.1)

pub characters_end : (rs : List (ℕ × ℕ)) (cs : List ℕ) (n : ℕ) (w : Bool) → n ≡ length cs → list_all (is_in_some rs) (drop n cs) ≡ w → true ≡ w
characters_end rs cs n w all e = rw (drop_all n cs (omega (arith, all))) at e

-- ---- octets that are characters

each_marked : (p : ℕ → Bool) (known : List Bool) → ((c : ℕ) → c < length known → get_or known c false ≡ p c) → 128 ≤ length known → (bs : List ℕ) → IsAscii bs → list_all (λ b. get_or known b false) bs ≡ list_all p bs
each_marked p known is size [] ascii = refl
each_marked p known is size (b ∷ bs) ascii =
    ap (λ (x : Bool). x && list_all (λ b. get_or known b false) bs) (is b (omega (arith, size, ascii 0)))
    ∙ ap (λ (x : Bool). p b && x) (each_marked p known is size bs (λ i. ascii (suc i)))

-- where a table marks what passes a test, the octets of a text of ASCII are marked if its characters pass
pub ascii_marked : (p : ℕ → Bool) (known : List Bool) (bs : List ℕ) → ((c : ℕ) → c < length known → get_or known c false ≡ p c) → 128 ≤ length known → IsAscii bs → list_all (λ b. get_or known b false) bs ≡ list_all p (chars bs)
ascii_marked p known bs is size ascii = each_marked p known is size bs ascii ∙ ap (list_all p) (sym (chars-IsAscii bs ascii))

-- ---- octets that begin a character

begins_low : (b : ℕ) → nat_lt b 128 ≡ true → begins_one b ≡ true
begins_low b low = ap (λ (x : Bool). x || nat_le 192 b) low

begins_high : (b : ℕ) → 192 ≤ b → begins_one b ≡ true
begins_high b le = grind (arith, nat_tests)

continues : (b : ℕ) → begins_one (128 + b % 64) ≡ false
continues b = grind (arith, nat_tests)

-- the first of these octets begins a character, and those after it continue it
first_alone : (b c d e : ℕ) → begins_one b ≡ true → (count_by begins_one (b ∷ []) ≡ 1) × (count_by begins_one (b ∷ (128 + c % 64) ∷ []) ≡ 1)
    × (count_by begins_one (b ∷ (128 + c % 64) ∷ (128 + d % 64) ∷ []) ≡ 1) × (count_by begins_one (b ∷ (128 + c % 64) ∷ (128 + d % 64) ∷ (128 + e % 64) ∷ []) ≡ 1)
first_alone b c d e h = rw (h, continues c, continues d, continues e) (refl, refl, refl, refl)

of_form : (x y z : Bool) (p q r s : List ℕ) → (x ≡ true → count_by begins_one p ≡ 1) → count_by begins_one q ≡ 1 → count_by begins_one r ≡ 1 → count_by begins_one s ≡ 1 → count_by begins_one (cond x p (cond y q (cond z r s))) ≡ 1
of_form true y z p q r s one two three four = one refl
of_form false true z p q r s one two three four = two
of_form false false true p q r s one two three four = three
of_form false false false p q r s one two three four = four

one_begins : (c : ℕ) → count_by begins_one (encode_utf8 c) ≡ 1
unfolding encode_utf8
one_begins c =
    of_form (nat_lt c 128) (nat_lt c 2048) (nat_lt c 65536) _ _ _ _
    (λ low. (first_alone c 0 0 0 (begins_low c low)).0)
    (first_alone (192 + c / 64) c 0 0 (begins_high (192 + c / 64) (omega arith))).1
    (first_alone (224 + c / 4096) (c / 64) c 0 (begins_high (224 + c / 4096) (omega arith))).2
    (first_alone (240 + c / 262144) (c / 4096) (c / 64) c (begins_high (240 + c / 262144) (omega arith))).3

all_begin : (cs : List ℕ) → count_by begins_one (encode_utf8_all cs) ≡ length cs
all_begin [] = refl
all_begin (c ∷ cs) = sum_by-append _ (encode_utf8 c) (encode_utf8_all cs) ∙ rw (one_begins c, all_begin cs) (omega arith)

pub beginnings : (bs : List ℕ) → IsUtf8 bs → count_by begins_one bs ≡ length (chars bs)
beginnings bs utf8 = ap (count_by begins_one) (sym (encodes-chars bs utf8)) ∙ all_begin (chars bs)
