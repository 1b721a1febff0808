-- Numbers, as they are written, are read as tokens.
use Rattle.std.proofs.Common.{◌≡◌, ℕ, suc, ◌^◌, ◌<◌, true, ℤ, pos, negsuc, List, [], ◌∷◌, ◌++◌, map, nat_lt, refl, sym, subst, decimal, append_assoc, arith}
use Rattle.std.specs.Fmt.{signed_decimal}
use Rattle.std.proofs.lemmas.Bool.{and_parts}
use Rattle.std.proofs.lemmas.Bool.Decides.{nat_tests}
use Rattle.guard_model.specs.Limits.{fits_128_bits}
use Rattle.guard_der.specs.Fits.{all_below}
use Rattle.guard_lexer.specs.declared.token.Mark.TheVariants.{LeftBrace, RightBrace, Minus}
use Rattle.guard_syntax.specs.Lexemes.{Lexeme, mark, number}
use Rattle.guard_syntax.specs.TokensOf.{number_then, each_then, arc_then}
use Rattle.guard_report.specs.ValueText.{further_arcs, arcs_text}
use Rattle.reads_back.specs.inside.TreeOf.{number_written, arc_written}
use Rattle.reads_back.proofs.Cuts.{Reads}
use Rattle.reads_back.proofs.Pieces.{left_brace, right_brace, space, minus}
use Rattle.reads_back.proofs.WordPieces.{is_apart, number_piece}
use Rattle.reads_back.proofs.Decimals.{decimal_number, decimal_value, decimal_begins}

wide : (n : ℕ) → n < 2 ^ 128 → n < 10 ^ 64
wide n h = omega (arith, h)

pub decimal_reads : (n : ℕ) (rest : List ℕ) (ls : List Lexeme) → n < 2 ^ 128 → is_apart rest ≡ true → Reads rest ls → Reads (decimal n ++ rest) (number (decimal n) ∷ ls)
decimal_reads n rest ls h apart r =
    let value = decimal_value n (wide n h) in
    number_piece (decimal n) rest ls (decimal_number n (wide n h)) (omega (arith, value, h)) apart r

sign_reads : (n : ℕ) (rest : List ℕ) (ls : List Lexeme) → n < 2 ^ 128 → Reads (decimal n ++ rest) ls → Reads (45 ∷ decimal n ++ rest) (mark Minus ∷ ls)
sign_reads n rest ls h r =
    let b = decimal_begins n (wide n h) in
    subst (λ (x : List ℕ). Reads (45 ∷ x ++ rest) (mark Minus ∷ ls)) (sym b.split) (minus b.first (b.others ++ rest) ls b.digit (subst (λ (x : List ℕ). Reads (x ++ rest) ls) b.split r))

pub integer_reads : (z : ℤ) (rest : List ℕ) (ls : List Lexeme) → fits_128_bits z ≡ true → is_apart rest ≡ true → Reads rest ls → Reads (signed_decimal z ++ rest) (number_then (number_written z) ls)
integer_reads (pos n) rest ls h apart r = let lt : n < 2 ^ 127 = grind (arith, nat_tests) in decimal_reads n rest ls (omega (arith, lt)) apart r
integer_reads (negsuc n) rest ls h apart r =
    let lt : n < 2 ^ 127 = grind (arith, nat_tests) in
    let small : suc n < 2 ^ 128 = omega (arith, lt) in
    sign_reads (suc n) rest (number (decimal (suc n)) ∷ ls) small (decimal_reads (suc n) rest ls small apart r)

-- ---- arcs

arcs_apart : (arcs rest : List ℕ) → is_apart (further_arcs arcs ++ rest) ≡ true
arcs_apart [] rest = refl
arcs_apart (a ∷ arcs) rest = refl

further_reads : (arcs rest : List ℕ) (ls : List Lexeme) → all_below (2 ^ 128) arcs ≡ true → Reads rest ls → Reads (further_arcs arcs ++ rest) (each_then arc_then (map arc_written arcs) (mark RightBrace ∷ ls))
further_reads [] rest ls h r = right_brace rest ls r
further_reads (a ∷ arcs) rest ls h r =
    let p = and_parts (nat_lt a (2 ^ 128)) (all_below (2 ^ 128) arcs) h in
    let lt : a < 2 ^ 128 = grind (arith, nat_tests, p.0) in
    let more = further_arcs arcs ++ rest in
    subst (λ (x : List ℕ). Reads (32 ∷ x) (each_then arc_then (map arc_written (a ∷ arcs)) (mark RightBrace ∷ ls))) (sym (append_assoc (decimal a) (further_arcs arcs) rest))
    (space (decimal a ++ more) _ (decimal_reads a more _ lt (arcs_apart arcs rest) (further_reads arcs rest ls p.1 r)))

pub arcs_read : (arcs rest : List ℕ) (ls : List Lexeme) → all_below (2 ^ 128) arcs ≡ true → Reads rest ls → Reads (arcs_text arcs ++ rest) (mark LeftBrace ∷ each_then arc_then (map arc_written arcs) (mark RightBrace ∷ ls))
arcs_read [] rest ls h r = left_brace (125 ∷ rest) (mark RightBrace ∷ ls) (right_brace rest ls r)
arcs_read (a ∷ arcs) rest ls h r =
    let p = and_parts (nat_lt a (2 ^ 128)) (all_below (2 ^ 128) arcs) h in
    let lt : a < 2 ^ 128 = grind (arith, nat_tests, p.0) in
    let more = further_arcs arcs ++ rest in
    subst (λ (x : List ℕ). Reads (123 ∷ x) (mark LeftBrace ∷ each_then arc_then (map arc_written (a ∷ arcs)) (mark RightBrace ∷ ls))) (sym (append_assoc (decimal a) (further_arcs arcs) rest))
    (left_brace (decimal a ++ more) _ (decimal_reads a more _ lt (arcs_apart arcs rest) (further_reads arcs rest ls p.1 r)))
