-- A word is a text: letters, digits and hyphens are ASCII.
use Rattle.std.proofs.Common.{◌≡◌, ℕ, ◌<◌, true, List, [], ◌∷◌, arith}
use Rattle.std.specs.Prelude.{IsUtf8}
use Rattle.std.specs.Str.{IsAscii}
use Rattle.std.specs.Char.{is_ascii_alphabetic}
use Rattle.std.proofs.lemmas.Bool.Decides.{nat_tests}
use Rattle.std.proofs.lemmas.Bool.{and_parts}
use Rattle.std.proofs.lemmas.Str.{IsUtf8-from_ascii}
use Rattle.std.proofs.lemmas.Str.Ascii.{IsAscii-cons, IsAscii-nil}
use Rattle.guard_lexer.specs.Items.{is_of_word, are_of_word, is_word}

alphabetic_ascii : (c : ℕ) → is_ascii_alphabetic c ≡ true → c < 128
alphabetic_ascii c h = grind (arith, nat_tests)

of_word_ascii : (c : ℕ) (after : List ℕ) → is_of_word c after ≡ true → c < 128
of_word_ascii c after h = grind (arith, nat_tests)

are_ascii : (octets : List ℕ) → are_of_word octets ≡ true → IsAscii octets
are_ascii [] h = IsAscii-nil
are_ascii (c ∷ cs) h =
    let p = and_parts (is_of_word c cs) (are_of_word cs) h in
    IsAscii-cons c cs (of_word_ascii c cs p.0) (are_ascii cs p.1)

pub word_is_text : (octets : List ℕ) → is_word octets ≡ true → IsUtf8 octets
word_is_text [] h = absurd cc
word_is_text (c ∷ cs) h =
    let p = and_parts (is_ascii_alphabetic c) (are_of_word cs) h in
    IsUtf8-from_ascii (c ∷ cs) (IsAscii-cons c cs (alphabetic_ascii c p.0) (are_ascii cs p.1))
