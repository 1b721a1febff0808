-- The name of a module is text, since it is a word among the module's tokens.
use Rattle.std.proofs.Common.{◌≡◌, ◌∙◌, ℕ, zero, suc, ◌+◌, ◌<◌, List, [], ◌∷◌, ◌++◌, map, length, get_or, take, add-one, ap, subst, sym, arith}
use Rattle.std.specs.Prelude.{All, IsUtf8}
use Rattle.std.proofs.lemmas.List.{map_push}
use Rattle.std.proofs.lemmas.List.Elements.{All-head, All-tail}
use Rattle.std.proofs.Math.Seq.{take-suc}
use Rattle.guard_lexer.specs.declared.token.Token.{Token}
use Rattle.guard_lexer.specs.Spans.{AreSpans}
use Rattle.guard_lexer.proofs.WordTexts.{word_is_text}
use Rattle.guard_syntax.specs.Lexemes.{lexemes_of}
use Rattle.guard_syntax.specs.ModuleViews.{module_view}
use Rattle.guard_syntax.specs.declared.tree.Module.{Module}
use Rattle.guard_syntax.specs.Parses.{IsWritten}
use Rattle.guard_syntax.specs.Trees.{WrittenModule}
use Rattle.guard_syntax.proofs.SpelledNames.{module_name}

pub named_text : (text : List ℕ) (tokens : List Token) (m : WrittenModule) → AreSpans text tokens
    → IsWritten m (lexemes_of text tokens) → IsUtf8 m.name
named_text text tokens m spans written = word_is_text m.name (module_name text tokens m spans written).0.word

-- the one at a place
pub name_at : (ms : List Module) (i : ℕ) (m : Module) → All (λ (w : WrittenModule). IsUtf8 w.name) (map module_view ms)
    → i < length ms → m ≡ get_or ms i m → IsUtf8 (module_view m).name
name_at [] i m h lt is = absurd (omega (arith, lt))
name_at (n ∷ ms) zero m h lt is = subst (λ (x : Module). IsUtf8 (module_view x).name) (sym is)
    (All-head (λ (w : WrittenModule). IsUtf8 w.name) (module_view n) (map module_view ms) h)
name_at (n ∷ ms) (suc i) m h lt is = name_at ms i m
    (All-tail (λ (w : WrittenModule). IsUtf8 w.name) (module_view n) (map module_view ms) h) (omega (arith, lt)) is

-- those of the modules before a place
abbrev names_of : List Module → List (List ℕ)
names_of ms = map (λ (w : WrittenModule). w.name) (map module_view ms)

names_more : (ms : List Module) (i : ℕ) (m : Module) → i < length ms → m ≡ get_or ms i m
    → names_of (take (i + 1) ms) ≡ names_of (take i ms) ++ (module_view m).name ∷ []
names_more ms i m lt is =
    ap (λ n. names_of (take n ms)) (add-one i) ∙ ap names_of (take-suc ms i m lt)
    ∙ ap (map (λ (w : WrittenModule). w.name)) (map_push module_view (take i ms) (get_or ms i m))
    ∙ map_push (λ (w : WrittenModule). w.name) (map module_view (take i ms)) (module_view (get_or ms i m))
    ∙ ap (λ (x : Module). names_of (take i ms) ++ (module_view x).name ∷ []) (sym is)

-- and that of the one there
pub one_name : (ms : List Module) (i : ℕ) (m : Module) (so_far : List (List ℕ)) (name : List ℕ) → i < length ms
    → m ≡ get_or ms i m → name ≡ (module_view m).name → so_far ≡ names_of (take i ms)
    → so_far ++ name ∷ [] ≡ names_of (take (i + 1) ms)
one_name ms i m so_far name lt is same before =
    ap (λ (names : List (List ℕ)). names ++ name ∷ []) before
    ∙ ap (λ (x : List ℕ). names_of (take i ms) ++ x ∷ []) same ∙ sym (names_more ms i m lt is)
