-- What modules write, and values alone, is read again.
use Rattle.std.proofs.Common.{◌≡◌, ℕ, true, false, not, List, [], ◌∷◌, length, Option, Some, None, Ok, refl, ap, arith}
use Rattle.guard_model.specs.declared.site.Site.{Site}
use Rattle.guard_lexer.specs.declared.token.TokenKind.TheVariants.{Reserved, Mark}
use Rattle.guard_lexer.specs.declared.token.Reserved.TheVariants.{All, Begin, Definitions, End, Exports, From, Imports}
use Rattle.guard_lexer.specs.declared.token.Mark.TheVariants.{Assignment, Colon, LeftBrace, LeftParenthesis, RightBrace, Semicolon}
use Rattle.guard_syntax.specs.declared.tree.TagDefault.{TagDefault}
use Rattle.guard_syntax.specs.declared.tree.TagDefault.TheVariants as tag_default
use Rattle.guard_syntax.specs.declared.tree.SymbolKind.{SymbolKind}
use Rattle.guard_syntax.specs.declared.tree.SymbolKind.TheVariants as symbol
use Rattle.guard_syntax.specs.Lexemes.{Lexeme, word, mark, upper_name}
use Rattle.guard_syntax.specs.Trees.{WrittenArc, WrittenValue, WrittenType, WrittenIdentifierPart, bare_name, arc_part, WrittenSymbol, WrittenExports, all_exported, exported, WrittenImport, WrittenAssignment, WrittenModule}
use Rattle.guard_syntax.specs.TokensOf.{each_then, parted_then, comma_before, perhaps_then, arc_form_then, value_then, identifier_part_then, identifier_then, tag_default_then, symbol_lexeme, symbol_then, exports_then, import_then, imports_then, assigned_then, assignment_then, tokens_of}
use Rattle.guard_syntax.specs.Sites.{past, sited_each, sited_parted, sited_perhaps, sited_arc, sited_type, sited_identifier_part, sited_identifier, past_tag_default, sited_symbol, sited_exports, sited_import, sited_imports, sited_assigned, sited_assignment, sited, sited_value}
use Rattle.guard_syntax.specs.Grammar.{Any, AreEach, AreSome, IsPerhaps, IsImport, most_levels, IsType, IsValue, IsAssignment, IsModule}
use Rattle.guard_syntax.specs.inside.ReadTokens.{begins_with, read_token, read_spelling, read_each}
use Rattle.guard_syntax.specs.inside.ReadValues.{does_not_close}
use Rattle.guard_syntax.specs.inside.ReadModule.{read_identifier_part, read_identifier_parts, read_identifier, read_tag_default, read_symbol, read_exported, read_exports, read_import, goes_on_importing, read_imports, read_type_assignment, read_value_assignment, read_assignment, goes_on_assigning, WrittenHead, read_head, read_end, read_module, read_value_alone}
use Rattle.guard_syntax.proofs.SoundModule.{identifier_part_sound, symbol_sound, import_sound, assignment_sound}
use Rattle.guard_syntax.proofs.CompleteLists.{place, Complete, Whatever, NotBefore, arc_complete, each_complete, parted_complete}
use Rattle.guard_syntax.proofs.CompleteValues.{value_complete}
use Rattle.guard_syntax.proofs.CompleteTypes.{AfterType, type_complete}

-- ---- object identifiers

arc_part_complete : (site : Site) (name : Option (List ℕ)) (digits : List ℕ) (ls : List Lexeme) (ss : List Site) → let a : WrittenArc = record { site = site; name = name; number = digits } in
    read_identifier_part (place (identifier_part_then (arc_part a) ls) ss) ≡ Ok (arc_part (sited_arc a ss).0, place ls (sited_arc a ss).1)
unfolding read_identifier_part
arc_part_complete site None digits ls ss = rw (arc_complete (record { site = site; name = None; number = digits }) ls ss tt tt) refl
arc_part_complete site (Some name) digits ls ss = rw (arc_complete (record { site = site; name = Some name; number = digits }) ls ss tt tt) refl

identifier_part_complete : Complete identifier_part_then sited_identifier_part Any (NotBefore (Mark LeftParenthesis)) read_identifier_part
unfolding read_identifier_part read_spelling
identifier_part_complete (bare_name name) ls ss h after = rw (after (past ss)) refl
identifier_part_complete (arc_part a) ls ss h after = arc_part_complete a.site a.name a.number ls ss

arc_first : (name : Option (List ℕ)) (digits : List ℕ) (ls : List Lexeme) (ss : List Site) → (begins_with (Mark LeftParenthesis) (place (arc_form_then name digits ls) ss) ≡ false) × (begins_with (Mark RightBrace) (place (arc_form_then name digits ls) ss) ≡ false)
arc_first None digits ls ss = (refl, refl)
arc_first (Some name) digits ls ss = (refl, refl)

part_first : (p : WrittenIdentifierPart) (ls : List Lexeme) (ss : List Site) → (begins_with (Mark LeftParenthesis) (place (identifier_part_then p ls) ss) ≡ false) × (begins_with (Mark RightBrace) (place (identifier_part_then p ls) ss) ≡ false)
part_first (bare_name name) ls ss = (refl, refl)
part_first (arc_part a) ls ss = arc_first a.name a.number ls ss

parts_any : (ps : List WrittenIdentifierPart) → AreEach Any ps
parts_any [] = tt
parts_any (p ∷ ps) = (tt, parts_any ps)

identifier_complete : (all : List WrittenIdentifierPart) (ls : List Lexeme) (ss : List Site) → NotBefore (Mark LeftBrace) ls → read_identifier (place (identifier_then all ls) ss) ≡ Ok ((sited_identifier all ss).0, place ls (sited_identifier all ss).1)
unfolding read_identifier read_identifier_parts read_token
identifier_complete [] ls ss after = rw (after ss) refl
identifier_complete (p ∷ ps) ls ss after =
    let inside = place (each_then identifier_part_then (p ∷ ps) (mark RightBrace ∷ ls)) (past ss) in
    rw ((part_first p (each_then identifier_part_then ps (mark RightBrace ∷ ls)) (past ss)).1, each_complete identifier_part_sound identifier_part_complete does_not_close (λ q more ts h. ap not (part_first q more ts).1) (λ q more h ts. (part_first q more ts).0) (p ∷ ps) (length inside) (mark RightBrace ∷ ls) (past ss) (parts_any (p ∷ ps)) (λ ts. refl) (λ ts. refl) (omega arith) (omega arith)) refl

-- ---- exports and imports

symbol_complete_at : (site : Site) (k : SymbolKind) (name : List ℕ) (ls : List Lexeme) (ss : List Site) → let s : WrittenSymbol = record { site = site; kind = k; name = name } in
    read_symbol (place (symbol_then s ls) ss) ≡ Ok ((sited_symbol s ss).0, place ls (sited_symbol s ss).1)
unfolding read_symbol read_spelling
symbol_complete_at site symbol.Type name ls ss = refl
symbol_complete_at site symbol.Value name ls ss = refl

symbol_complete : Complete symbol_then sited_symbol Any Whatever read_symbol
symbol_complete s ls ss h after = symbol_complete_at s.site s.kind s.name ls ss

symbol_first : (k : SymbolKind) (name : List ℕ) (ls : List Lexeme) (ss : List Site) → let ps = place (symbol_lexeme k name ∷ ls) ss in
    (begins_with (Reserved All) ps ≡ false) × (begins_with (Mark Semicolon) ps ≡ false) × (begins_with (Mark LeftBrace) ps ≡ false)
symbol_first symbol.Type name ls ss = (refl, refl, refl)
symbol_first symbol.Value name ls ss = (refl, refl, refl)

symbols_any : (all : List WrittenSymbol) → AreEach Any all
symbols_any [] = tt
symbols_any (s ∷ all) = (tt, symbols_any all)

exports_complete : (x : Option WrittenExports) (ls : List Lexeme) (ss : List Site) → NotBefore (Reserved Exports) ls → read_exports (place (perhaps_then exports_then x ls) ss) ≡ Ok ((sited_perhaps sited_exports x ss).0, place ls (sited_perhaps sited_exports x ss).1)
unfolding read_exports read_exported read_token
exports_complete None ls ss after = rw (after ss) refl
exports_complete (Some all_exported) ls ss after = refl
exports_complete (Some (exported [])) ls ss after = refl
exports_complete (Some (exported (s ∷ all))) ls ss after =
    let inside = place (parted_then symbol_then (s ∷ all) (mark Semicolon ∷ ls)) (past ss) in
    let f = symbol_first s.kind s.name (comma_before all (parted_then symbol_then all (mark Semicolon ∷ ls))) (past ss) in
    rw (f.0, f.1, parted_complete symbol_sound symbol_complete (λ more. tt) (s ∷ all) (length inside) (mark Semicolon ∷ ls) (past ss) (symbols_any (s ∷ all)) tt (λ ts. refl) (omega arith)) refl

import_complete_at : (site : Site) (s : WrittenSymbol) (all : List WrittenSymbol) (at : Site) (name : List ℕ) (id : List WrittenIdentifierPart) (ls : List Lexeme) (ss : List Site) → NotBefore (Mark LeftBrace) ls
    → let i : WrittenImport = record { site = site; symbols = s ∷ all; module_site = at; module_name = name; identifier = id } in read_import (place (import_then i ls) ss) ≡ Ok ((sited_import i ss).0, place ls (sited_import i ss).1)
unfolding read_import read_spelling read_token
import_complete_at site s all at name id ls ss after =
    let more = word From ∷ upper_name name ∷ identifier_then id ls in
    let inside = place (parted_then symbol_then (s ∷ all) more) ss in
    let behind_names = (sited_parted sited_symbol (s ∷ all) ss).1 in
    rw (parted_complete symbol_sound symbol_complete (λ more. tt) (s ∷ all) (length inside) more ss (symbols_any (s ∷ all)) tt (λ ts. refl) (omega arith), identifier_complete id ls (past (past behind_names)) after) refl

import_some : (site : Site) (all : List WrittenSymbol) (at : Site) (name : List ℕ) (id : List WrittenIdentifierPart) (ls : List Lexeme) (ss : List Site) → AreSome Any all → NotBefore (Mark LeftBrace) ls
    → let i : WrittenImport = record { site = site; symbols = all; module_site = at; module_name = name; identifier = id } in read_import (place (import_then i ls) ss) ≡ Ok ((sited_import i ss).0, place ls (sited_import i ss).1)
import_some site [] at name id ls ss h after = absurd h
import_some site (s ∷ all) at name id ls ss h after = import_complete_at site s all at name id ls ss after

import_complete : Complete import_then sited_import IsImport (NotBefore (Mark LeftBrace)) read_import
import_complete i ls ss h after = import_some i.site i.symbols i.module_site i.module_name i.identifier ls ss h after

import_first : (all : List WrittenSymbol) (ls : List Lexeme) (ss : List Site) → AreSome Any all → let ps = place (parted_then symbol_then all ls) ss in (goes_on_importing ps ≡ true) × (begins_with (Mark LeftBrace) ps ≡ false)
import_first [] ls ss h = absurd h
import_first (s ∷ all) ls ss h =
    let f = symbol_first s.kind s.name (comma_before all (parted_then symbol_then all ls)) ss in
    (ap not f.1, f.2)

imports_complete : (x : Option (List WrittenImport)) (ls : List Lexeme) (ss : List Site) → IsPerhaps (AreEach IsImport) x → NotBefore (Reserved Imports) ls → read_imports (place (perhaps_then imports_then x ls) ss) ≡ Ok ((sited_perhaps sited_imports x ss).0, place ls (sited_perhaps sited_imports x ss).1)
unfolding read_imports read_token
imports_complete None ls ss h after = rw (after ss) refl
imports_complete (Some all) ls ss h after =
    let inside = place (each_then import_then all (mark Semicolon ∷ ls)) (past ss) in
    rw (each_complete import_sound import_complete goes_on_importing (λ i more ts k. (import_first i.symbols (word From ∷ upper_name i.module_name ∷ identifier_then i.identifier more) ts k).0) (λ i more k ts. (import_first i.symbols (word From ∷ upper_name i.module_name ∷ identifier_then i.identifier more) ts k).1) all (length inside) (mark Semicolon ∷ ls) (past ss) h (λ ts. refl) (λ ts. refl) (omega arith) (omega arith)) refl

-- ---- assignments

record AfterAssignment (ls : List Lexeme) : Type 0 where
  pub after : AfterType ls
  pub not_colon : NotBefore (Mark Colon) ls

assigned_complete : (site : Site) (name : List ℕ) (ty : WrittenType) (v : Option WrittenValue) (ls : List Lexeme) (ss : List Site) → IsType most_levels ty → IsPerhaps (IsValue most_levels) v → AfterAssignment ls
    → read_assignment (place (assigned_then name ty v ls) ss) ≡ Ok ((sited_assigned name ty v ss).0, place ls (sited_assigned name ty v ss).1)
unfolding read_assignment read_type_assignment read_value_assignment read_spelling read_token
assigned_complete site name ty None ls ss h k after = rw (type_complete most_levels ty ls (past (past ss)) h after.after) refl
assigned_complete site name ty (Some v) ls ss h k after =
    let behind_type = (sited_type ty (past ss)).1 in
    rw (type_complete most_levels ty (mark Assignment ∷ value_then v ls) (past ss) h (record { not_constraint = λ ts. refl; not_brace = λ ts. refl; more = omega arith }), value_complete most_levels v ls (past behind_type) k after.not_colon) refl

assignment_complete : Complete assignment_then sited_assignment IsAssignment AfterAssignment read_assignment
assignment_complete a ls ss h after = assigned_complete a.site a.name a.ty a.value ls ss h.0 h.1 after

assigned_after : (name : List ℕ) (ty : WrittenType) (v : Option WrittenValue) (ls : List Lexeme) → AfterAssignment (assigned_then name ty v ls)
assigned_after name ty None ls = record { after = record { not_constraint = λ ts. refl; not_brace = λ ts. refl; more = omega arith }; not_colon = λ ts. refl }
assigned_after name ty (Some v) ls = record { after = record { not_constraint = λ ts. refl; not_brace = λ ts. refl; more = omega arith }; not_colon = λ ts. refl }

assigned_goes : (name : List ℕ) (ty : WrittenType) (v : Option WrittenValue) (ls : List Lexeme) (ss : List Site) → let ps = place (assigned_then name ty v ls) ss in
    (goes_on_assigning ps ≡ true) × (begins_with (Reserved Exports) ps ≡ false) × (begins_with (Reserved Imports) ps ≡ false)
assigned_goes name ty None ls ss = (refl, refl, refl)
assigned_goes name ty (Some v) ls ss = (refl, refl, refl)

-- the assignments up to the word END
assignments_then : List WrittenAssignment → List Lexeme
assignments_then all = each_then assignment_then all (word End ∷ [])

assignments_complete : (all : List WrittenAssignment) (ss : List Site) → AreEach IsAssignment all → let ps = place (assignments_then all) ss in
    read_each goes_on_assigning read_assignment (length ps) ps ≡ Ok ((sited_each sited_assignment all ss).0, place (word End ∷ []) (sited_each sited_assignment all ss).1)
unfolding assignments_then
assignments_complete all ss h =
    each_complete assignment_sound assignment_complete goes_on_assigning (λ a more ts k. (assigned_goes a.name a.ty a.value more ts).0) (λ a more k. assigned_after a.name a.ty a.value more) all (length (place (each_then assignment_then all (word End ∷ [])) ss)) (word End ∷ []) ss h
    (record { after = record { not_constraint = λ ts. refl; not_brace = λ ts. refl; more = omega arith }; not_colon = λ ts. refl }) (λ ts. refl) (omega arith) (omega arith)

assignments_first : (all : List WrittenAssignment) (ss : List Site) → (begins_with (Reserved Exports) (place (assignments_then all) ss) ≡ false) × (begins_with (Reserved Imports) (place (assignments_then all) ss) ≡ false)
unfolding assignments_then
assignments_first [] ss = (refl, refl)
assignments_first (a ∷ all) ss = let f = assigned_goes a.name a.ty a.value (each_then assignment_then all (word End ∷ [])) ss in (f.1, f.2)

not_exports : (x : Option (List WrittenImport)) (all : List WrittenAssignment) → NotBefore (Reserved Exports) (perhaps_then imports_then x (assignments_then all))
not_exports None all = λ ss. (assignments_first all ss).0
not_exports (Some imports) all = λ ss. refl

-- ---- modules

default_complete : (d : Option TagDefault) (ls : List Lexeme) (ss : List Site) → read_tag_default (place (perhaps_then tag_default_then d (mark Assignment ∷ ls)) ss) ≡ Ok (d, place (mark Assignment ∷ ls) (past_tag_default d ss))
unfolding read_tag_default read_token
default_complete None ls ss = refl
default_complete (Some tag_default.Explicit) ls ss = refl
default_complete d ls ss = refl

-- what comes before the exports
head_complete : (name : List ℕ) (id : List WrittenIdentifierPart) (d : Option TagDefault) (ls : List Lexeme) (ss : List Site) → let behind_id = sited_identifier id (past ss) in let h : WrittenHead = record { name = name; identifier = behind_id.0; tag_default = d } in
    read_head (place (upper_name name ∷ identifier_then id (word Definitions ∷ perhaps_then tag_default_then d (mark Assignment ∷ word Begin ∷ ls))) ss) ≡ Ok (h, place ls (past (past (past_tag_default d (past behind_id.1)))))
unfolding read_head read_spelling read_token
head_complete name id d ls ss =
    let more = perhaps_then tag_default_then d (mark Assignment ∷ word Begin ∷ ls) in
    rw (identifier_complete id (word Definitions ∷ more) (past ss) (λ ts. refl), default_complete d (word Begin ∷ ls) (past (sited_identifier id (past ss)).1)) refl

-- A module of the grammar is read from its tokens, whatever their sites.
pub module_complete : (m : WrittenModule) (ss : List Site) → IsModule m → read_module (place (tokens_of m) ss) ≡ Ok (sited m ss)
unfolding read_module read_token read_end assignments_then
module_complete m ss h =
    let all = assignments_then m.assignments in
    let behind_head = past (past (past_tag_default m.tag_default (past (sited_identifier m.identifier (past ss)).1))) in
    let behind_exports = (sited_perhaps sited_exports m.exports behind_head).1 in
    let behind_imports = (sited_perhaps sited_imports m.imports behind_exports).1 in
    rw (
      head_complete m.name m.identifier m.tag_default (perhaps_then exports_then m.exports (perhaps_then imports_then m.imports all)) ss,
      exports_complete m.exports (perhaps_then imports_then m.imports all) behind_head (not_exports m.imports m.assignments),
      imports_complete m.imports all behind_exports h.0 (λ ts. (assignments_first m.assignments ts).1),
      assignments_complete m.assignments behind_imports h.1,
    ) refl

-- A value of the grammar is read from its tokens, whatever their sites.
pub value_alone_complete : (v : WrittenValue) (ss : List Site) → IsValue most_levels v → read_value_alone (place (value_then v []) ss) ≡ Ok (sited_value v ss).0
unfolding read_value_alone read_end
value_alone_complete v ss h = rw (value_complete most_levels v [] ss h (λ ts. refl)) refl
