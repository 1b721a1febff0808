-- How bits are written, read as tokens.
use Rattle.std.proofs.Common.{◌≡◌, ℕ, zero, suc, Bool, true, false, pos, List, [], ◌∷◌, ◌++◌, Option, Some, None, is_some, refl, inl, inr}
use Rattle.std.proofs.lemmas.Bool.{and_parts, cases_Bool, false≢true}
use Rattle.guard_model.specs.AbstractType.{NamedNumber}
use Rattle.guard_der.specs.Fits.{all_below}
use Rattle.guard_lexer.specs.declared.token.Mark.TheVariants.{RightBrace}
use Rattle.guard_syntax.specs.Lexemes.{Lexeme, mark}
use Rattle.guard_syntax.specs.Trees.{WrittenEntries}
use Rattle.guard_syntax.specs.TokensOf.{value_then, entries_then, entries_comma}
use Rattle.guard_report.specs.declared.layout.Layout.TheVariants.{Line}
use Rattle.guard_report.specs.Layouts.{parts_from}
use Rattle.guard_report.specs.Text.{name_or_number}
use Rattle.guard_report.specs.Strings.{bits_text, bits_as_digits, bits_of, are_named, names_of_ones, name_of}
use Rattle.reads_back.specs.inside.TreeOf.{names_written, digits_tree, bits_tree}
use Rattle.reads_back.specs.Names.{IsIdentifier, HaveNames}
use Rattle.reads_back.proofs.Cuts.{Reads}
use Rattle.reads_back.proofs.Pieces.{left_brace}
use Rattle.reads_back.proofs.Identifiers.{identifier}
use Rattle.reads_back.proofs.Braces.{closing_reads, behind_part, one_part}
use Rattle.reads_back.proofs.StringTexts.{hexadecimal_reads, binary_reads}
use Rattle.reads_back.proofs.Named.{some_named}

abbrev AreIdentifiers : List (List ℕ) → Type 0
AreIdentifiers [] = Unit {0}
AreIdentifiers (name ∷ names) = IsIdentifier name × AreIdentifiers names

-- a comma before entries, but for the first ones
abbrev pub comma_entries : Bool → WrittenEntries → List Lexeme → List Lexeme
comma_entries true es ls = ls
comma_entries false es ls = entries_comma es ls

names_read : (is_first : Bool) (names : List (List ℕ)) (rest : List ℕ) (ls : List Lexeme) → AreIdentifiers names → Reads rest ls
    → Reads (parts_from Line is_first names ++ rest) (comma_entries is_first (names_written names) (entries_then (names_written names) (mark RightBrace ∷ ls)))
names_read true [] rest ls h r = closing_reads Line true rest ls r
names_read false [] rest ls h r = closing_reads Line false rest ls r
names_read true (name ∷ names) rest ls h r =
    one_part Line true name names rest _ (identifier name (parts_from Line false names ++ rest) _ h.0 (behind_part Line names rest) (names_read false names rest ls h.1 r))
names_read false (name ∷ names) rest ls h r =
    one_part Line false name names rest _ (identifier name (parts_from Line false names ++ rest) _ h.0 (behind_part Line names rest) (names_read false names rest ls h.1 r))

one_name : (ns : List NamedNumber) (i : ℕ) (o : Option (List ℕ)) → HaveNames ns → name_of ns (pos i) ≡ o → is_some o ≡ true → IsIdentifier (name_or_number o i)
one_name ns i None h e s = absurd (false≢true s)
one_name ns i (Some name) h e s = (some_named ns (pos i) name h e).identifier

ones_named : (ns : List NamedNumber) (i : ℕ) (bits : List ℕ) → HaveNames ns → are_named ns i bits ≡ true → AreIdentifiers (names_of_ones ns i bits)
ones_named ns i [] h e = tt
ones_named ns i (zero ∷ bits) h e = ones_named ns (suc i) bits h e
ones_named ns i (suc b ∷ bits) h e =
    let p = and_parts (is_some (name_of ns (pos i))) (are_named ns (suc i) bits) e in
    (one_name ns i (name_of ns (pos i)) h refl p.0, ones_named ns (suc i) bits h p.1)

digits_read : (octets : List ℕ) (unused : ℕ) (rest : List ℕ) (ls : List Lexeme) → all_below 256 octets ≡ true → Reads rest ls → Reads (bits_as_digits octets unused ++ rest) (value_then (digits_tree octets unused) ls)
digits_read octets zero rest ls h r = hexadecimal_reads octets rest ls h r
digits_read octets (suc unused) rest ls h r = binary_reads (bits_of octets (suc unused)) rest ls r

pub bits_read : (ns : List NamedNumber) (octets : List ℕ) (unused : ℕ) (rest : List ℕ) (ls : List Lexeme) → HaveNames ns → all_below 256 octets ≡ true → Reads rest ls
    → Reads (bits_text ns octets unused ++ rest) (value_then (bits_tree ns octets unused) ls)
bits_read [] octets unused rest ls h below r = digits_read octets unused rest ls below r
bits_read (n ∷ ns) octets unused rest ls h below r =
    elim (cases_Bool (are_named (n ∷ ns) 0 (bits_of octets unused))) [
      | inl named ↦
          rw named (left_brace (parts_from Line true (names_of_ones (n ∷ ns) 0 (bits_of octets unused)) ++ rest) _ (names_read true (names_of_ones (n ∷ ns) 0 (bits_of octets unused)) rest ls (ones_named (n ∷ ns) 0 (bits_of octets unused) h named) r))
      | inr not_all ↦ rw not_all (digits_read octets unused rest ls below r)
    ]
