-- What is read of modules, and of values alone, is what they write.
use Rattle.std.proofs.Common.{◌≡◌, ◌≤◌, ◌<◌, cond, not, List, [], ◌∷◌, length, Option, Some, None, Result, Ok, refl, ap, sym, ◌∙◌, arith}
use Rattle.std.proofs.lemmas.Bool.{cond_both}
use Rattle.guard_model.specs.Answer.{◌>>=◌}
use Rattle.guard_model.specs.declared.site.Site.{Site}
use Rattle.guard_lexer.specs.declared.token.TokenKind.TheVariants.{Reserved, UpperName, LowerName, Mark}
use Rattle.guard_lexer.specs.declared.token.Reserved.TheVariants.{All, Automatic, Begin, Definitions, End, Explicit, Exports, From, Implicit, Imports, Tags}
use Rattle.guard_lexer.specs.declared.token.Mark.TheVariants.{Assignment, LeftBrace, RightBrace, Semicolon}
use Rattle.guard_syntax.specs.declared.read_error.Failure.{Failure}
use Rattle.guard_syntax.specs.declared.tree.TagDefault.{TagDefault}
use Rattle.guard_syntax.specs.declared.tree.TagDefault.TheVariants as tag_default
use Rattle.guard_syntax.specs.Lexemes.{Lexeme, word, mark, upper_name}
use Rattle.guard_syntax.specs.Trees.{WrittenArc, WrittenIdentifierPart, arc_part, WrittenExports, WrittenModule, WrittenValue}
use Rattle.guard_syntax.specs.TokensOf.{each_then, perhaps_then, identifier_part_then, identifier_then, tag_default_word, tag_default_then, symbol_then, exports_then, import_then, imports_then, assignment_then, tokens_of, value_then}
use Rattle.guard_syntax.specs.Sites.{past, sited_each, sited_identifier_part, sited_identifier, past_tag_default, sited_symbol, sited_exports, sited_import, sited_imports, sited_assignment, sited, sited_value}
use Rattle.guard_syntax.specs.Grammar.{Any, AreEach, IsImport, most_levels, IsAssignment, IsModule, IsValue}
use Rattle.guard_syntax.specs.inside.ReadTokens.{Placed, begins_with, behind, read_token}
use Rattle.guard_syntax.specs.inside.ReadValues.{is_there, does_not_close}
use Rattle.guard_syntax.specs.inside.ReadModule.{begins_bare_name, read_identifier_part, read_identifier_parts, read_identifier, tag_default_at, read_tag_default, read_symbol, read_exported, read_exports, read_import, goes_on_importing, read_imports, read_type_assignment, read_value_assignment, read_assignment, goes_on_assigning, WrittenHead, read_head, read_end, read_module, read_value_alone}
use Rattle.guard_syntax.proofs.SoundSteps.{lexemes, sites, Holds, then_holds, ok_holds, err_holds, if_holds, took, took_mark, took_word, took_spelled, Sound}
use Rattle.guard_syntax.proofs.SoundLists.{WordRead, word_sound, no_word_sound, PerhapsRead, missing_sound, arc_sound, HasOne, each_sound, each_some, parted_sound}
use Rattle.guard_syntax.proofs.SoundValues.{value_sound}
use Rattle.guard_syntax.proofs.SoundTypes.{type_sound}

-- ---- object identifiers

pub identifier_part_sound : Sound identifier_part_then sited_identifier_part Any read_identifier_part
unfolding read_identifier_part
identifier_part_sound ps =
    if_holds (begins_bare_name ps) _ _ (λ h. then_holds _ (took_spelled LowerName ps) (λ a t. ok_holds _ (record { lexemes_are = t.lexemes_are; sites_are = rw t.sites_are refl; shorter = omega (arith, t.shorter); lawful = tt }))) (λ h.
    then_holds _ (arc_sound ps) (λ a t. ok_holds _ (record { lexemes_are = t.lexemes_are; sites_are = ap (λ (x : WrittenArc × List Site). (arc_part x.0, x.1)) t.sites_are; shorter = t.shorter; lawful = tt })))

record IdentifierRead (ps : List Placed) (all : List WrittenIdentifierPart) (rest : List Placed) : Type 0 where
  pub lexemes_are : lexemes ps ≡ identifier_then all (lexemes rest)
  pub sites_are : sited_identifier all (sites ps) ≡ (all, sites rest)
  pub shorter : length rest ≤ length ps

identifier_shown : (all : List WrittenIdentifierPart) (rest : List Lexeme) → HasOne all → identifier_then all rest ≡ mark LeftBrace ∷ each_then identifier_part_then all (mark RightBrace ∷ rest)
identifier_shown [] rest h = absurd h
identifier_shown (p ∷ ps) rest h = refl

identifier_at : (all : List WrittenIdentifierPart) (ss : List Site) → HasOne all → sited_identifier all ss ≡ ((sited_each sited_identifier_part all (past ss)).0, past (sited_each sited_identifier_part all (past ss)).1)
identifier_at [] ss h = absurd h
identifier_at (p ∷ ps) ss h = refl

identifier_sound : (ps : List Placed) → Holds (read_identifier ps) (λ x. IdentifierRead ps x.0 x.1)
unfolding read_identifier read_identifier_parts
identifier_sound ps =
    if_holds (begins_with (Mark LeftBrace) ps) _ _ (λ h.
    let opening = took (Mark LeftBrace) ps h in
    if_holds (begins_with (Mark RightBrace) (behind ps)) _ _ (λ k. err_holds _) (λ k.
    then_holds _ (each_some identifier_part_sound does_not_close (length (behind ps)) (behind ps) (ap not k)) (λ a all.
    then_holds _ (took_mark RightBrace a.1) (λ d closing. ok_holds _ (record {
      lexemes_are = rw (opening.lexemes_are, all.0.lexemes_are, closing.lexemes_are) (sym (identifier_shown a.0 (lexemes d) all.1));
      sites_are = identifier_at a.0 (sites ps) all.1 ∙ rw (opening.sites_are, all.0.sites_are, closing.sites_are) refl;
      shorter = omega (arith, opening.shorter, all.0.shorter, closing.shorter);
    })))))
    (λ h. ok_holds _ (record { lexemes_are = refl; sites_are = refl; shorter = omega arith }))

-- ---- tag defaults

abbrev default_word_then : TagDefault → List Lexeme → List Lexeme
default_word_then d rest = word (tag_default_word d) ∷ rest

default_word_sound : (ps : List Placed) → WordRead default_word_then ps (tag_default_at ps)
default_word_sound ps =
    cond_both (begins_with (Reserved Explicit) ps) _ _ (WordRead default_word_then ps) (λ h. word_sound default_word_then tag_default.Explicit Explicit ps (λ rest. refl) h) (λ h.
    cond_both (begins_with (Reserved Implicit) ps) _ _ (WordRead default_word_then ps) (λ h. word_sound default_word_then tag_default.Implicit Implicit ps (λ rest. refl) h) (λ h.
    cond_both (begins_with (Reserved Automatic) ps) _ _ (WordRead default_word_then ps) (λ h. word_sound default_word_then tag_default.Automatic Automatic ps (λ rest. refl) h) (λ h.
    no_word_sound default_word_then ps)))

record DefaultRead (ps : List Placed) (x : Option TagDefault) (rest : List Placed) : Type 0 where
  pub lexemes_are : lexemes ps ≡ perhaps_then tag_default_then x (lexemes rest)
  pub sites_are : past_tag_default x (sites ps) ≡ sites rest
  pub shorter : length rest ≤ length ps

abbrev with_default : Option TagDefault → List Placed → Result (Option TagDefault × List Placed) Failure
with_default x rest = Ok (x, rest)

default_in_at : (x : Option TagDefault) (ps : List Placed) → WordRead default_word_then ps x
    → Holds (cond (is_there x) (read_token (Reserved Tags) (behind ps) >>= with_default x) (with_default None ps)) (λ y. DefaultRead ps y.0 y.1)
default_in_at None ps w = ok_holds _ (record { lexemes_are = refl; sites_are = refl; shorter = omega arith })
default_in_at (Some d) ps w = then_holds _ (took_word Tags (behind ps)) (λ rest t. ok_holds _ (record { lexemes_are = rw (w.lexemes_are, t.lexemes_are) refl; sites_are = rw (w.sites_are, t.sites_are) refl; shorter = omega (arith, w.shorter, t.shorter) }))

default_sound : (ps : List Placed) → Holds (read_tag_default ps) (λ y. DefaultRead ps y.0 y.1)
unfolding read_tag_default
default_sound ps = default_in_at (tag_default_at ps) ps (default_word_sound ps)

-- ---- exports and imports

pub symbol_sound : Sound symbol_then sited_symbol Any read_symbol
unfolding read_symbol
symbol_sound ps =
    if_holds (begins_with UpperName ps) _ _ (λ h. then_holds _ (took_spelled UpperName ps) (λ a t. ok_holds _ (record { lexemes_are = t.lexemes_are; sites_are = rw t.sites_are refl; shorter = omega (arith, t.shorter); lawful = tt }))) (λ h.
    then_holds _ (took_spelled LowerName ps) (λ a t. ok_holds _ (record { lexemes_are = t.lexemes_are; sites_are = rw t.sites_are refl; shorter = omega (arith, t.shorter); lawful = tt })))

-- after the word EXPORTS
record ExportedRead (ps : List Placed) (x : WrittenExports) (rest : List Placed) : Type 0 where
  pub lexemes_are : word Exports ∷ lexemes ps ≡ exports_then x (lexemes rest)
  pub sites_are : (ss : List Site) → past ss ≡ sites ps → sited_exports x ss ≡ (x, sites rest)
  pub shorter : length rest < length ps

exported_sound : (ps : List Placed) → Holds (read_exported ps) (λ x. ExportedRead ps x.0 x.1)
unfolding read_exported
exported_sound ps =
    if_holds (begins_with (Reserved All) ps) _ _ (λ h. let t = took (Reserved All) ps h in then_holds _ (took_mark Semicolon (behind ps)) (λ rest u. ok_holds _ (record { lexemes_are = rw (t.lexemes_are, u.lexemes_are) refl; sites_are = λ ss e. rw (e, t.sites_are, u.sites_are) refl; shorter = omega (arith, t.shorter, u.shorter) }))) (λ h.
    if_holds (begins_with (Mark Semicolon) ps) _ _ (λ h. let t = took (Mark Semicolon) ps h in ok_holds _ (record { lexemes_are = rw t.lexemes_are refl; sites_are = λ ss e. rw (e, t.sites_are) refl; shorter = omega (arith, t.shorter) })) (λ h.
    then_holds _ (parted_sound symbol_sound (length ps) ps) (λ a all.
    then_holds _ (took_mark Semicolon a.1) (λ rest t. ok_holds _ (record { lexemes_are = rw (all.lexemes_are, t.lexemes_are) refl; sites_are = λ ss e. rw (e, all.sites_are, t.sites_are) refl; shorter = omega (arith, all.shorter, t.shorter) })))))

exports_sound : (ps : List Placed) → Holds (read_exports ps) (λ x. PerhapsRead exports_then sited_exports Any ps x.0 x.1)
unfolding read_exports
exports_sound ps =
    if_holds (begins_with (Reserved Exports) ps) _ _ (λ h.
    let w = took (Reserved Exports) ps h in
    then_holds _ (exported_sound (behind ps)) (λ a x. ok_holds _ (record {
      lexemes_are = w.lexemes_are ∙ x.lexemes_are;
      sites_are = ap (λ (y : WrittenExports × List Site). (Some y.0, y.1)) (x.sites_are (sites ps) w.sites_are);
      shorter = omega (arith, w.shorter, x.shorter);
      lawful = tt;
    })))
    (λ h. ok_holds _ (missing_sound ps))

pub import_sound : Sound import_then sited_import IsImport read_import
unfolding read_import
import_sound ps =
    then_holds _ (parted_sound symbol_sound (length ps) ps) (λ a symbols.
    then_holds _ (took_word From a.1) (λ f from.
    then_holds _ (took_spelled UpperName f) (λ b name.
    then_holds _ (identifier_sound b.1) (λ c id. ok_holds _ (record {
      lexemes_are = rw (symbols.lexemes_are, from.lexemes_are, name.lexemes_are, id.lexemes_are) refl;
      sites_are = rw (symbols.sites_are, from.sites_are, name.sites_are, id.sites_are) refl;
      shorter = omega (arith, symbols.shorter, from.shorter, name.shorter, id.shorter);
      lawful = symbols.lawful;
    })))))

imports_sound : (ps : List Placed) → Holds (read_imports ps) (λ x. PerhapsRead imports_then sited_imports (AreEach IsImport) ps x.0 x.1)
unfolding read_imports
imports_sound ps =
    if_holds (begins_with (Reserved Imports) ps) _ _ (λ h.
    let w = took (Reserved Imports) ps h in
    then_holds _ (each_sound import_sound goes_on_importing (length (behind ps)) (behind ps)) (λ a all.
    then_holds _ (took_mark Semicolon a.1) (λ rest t. ok_holds _ (record {
      lexemes_are = rw (w.lexemes_are, all.lexemes_are, t.lexemes_are) refl;
      sites_are = rw (w.sites_are, all.sites_are, t.sites_are) refl;
      shorter = omega (arith, w.shorter, all.shorter, t.shorter);
      lawful = all.lawful;
    }))))
    (λ h. ok_holds _ (missing_sound ps))

-- ---- assignments

type_assignment_sound : Sound assignment_then sited_assignment IsAssignment read_type_assignment
unfolding read_type_assignment
type_assignment_sound ps =
    then_holds _ (took_spelled UpperName ps) (λ a name.
    then_holds _ (took_mark Assignment a.1) (λ s sign.
    then_holds _ (type_sound most_levels s) (λ b ty. ok_holds _ (record {
      lexemes_are = rw (name.lexemes_are, sign.lexemes_are, ty.lexemes_are) refl;
      sites_are = rw (name.sites_are, sign.sites_are, ty.sites_are) refl;
      shorter = omega (arith, name.shorter, sign.shorter, ty.shorter);
      lawful = (ty.lawful, tt);
    }))))

value_assignment_sound : Sound assignment_then sited_assignment IsAssignment read_value_assignment
unfolding read_value_assignment
value_assignment_sound ps =
    then_holds _ (took_spelled LowerName ps) (λ a name.
    then_holds _ (type_sound most_levels a.1) (λ b ty.
    then_holds _ (took_mark Assignment b.1) (λ s sign.
    then_holds _ (value_sound most_levels s) (λ c v. ok_holds _ (record {
      lexemes_are = rw (name.lexemes_are, ty.lexemes_are, sign.lexemes_are, v.lexemes_are) refl;
      sites_are = rw (name.sites_are, ty.sites_are, sign.sites_are, v.sites_are) refl;
      shorter = omega (arith, name.shorter, ty.shorter, sign.shorter, v.shorter);
      lawful = (ty.lawful, v.lawful);
    })))))

pub assignment_sound : Sound assignment_then sited_assignment IsAssignment read_assignment
unfolding read_assignment
assignment_sound ps = if_holds (begins_with LowerName ps) _ _ (λ h. value_assignment_sound ps) (λ h. type_assignment_sound ps)

-- ---- modules

record HeadRead (ps : List Placed) (h : WrittenHead) (rest : List Placed) : Type 0 where
  pub lexemes_are : lexemes ps ≡ upper_name h.name ∷ identifier_then h.identifier (word Definitions ∷ perhaps_then tag_default_then h.tag_default (mark Assignment ∷ word Begin ∷ lexemes rest))
  pub identifier_sites : (sited_identifier h.identifier (past (sites ps))).0 ≡ h.identifier
  pub sites_are : past (past (past_tag_default h.tag_default (past (sited_identifier h.identifier (past (sites ps))).1))) ≡ sites rest

head_sound : (ps : List Placed) → Holds (read_head ps) (λ x. HeadRead ps x.0 x.1)
unfolding read_head
head_sound ps =
    then_holds _ (took_spelled UpperName ps) (λ a name.
    then_holds _ (identifier_sound a.1) (λ b id.
    then_holds _ (took_word Definitions b.1) (λ d definitions.
    then_holds _ (default_sound d) (λ c tags.
    then_holds _ (took_mark Assignment c.1) (λ s sign.
    then_holds _ (took_word Begin s) (λ rest begin. ok_holds _ (record {
      lexemes_are = rw (name.lexemes_are, id.lexemes_are, definitions.lexemes_are, tags.lexemes_are, sign.lexemes_are, begin.lexemes_are) refl;
      identifier_sites = rw (name.sites_are, id.sites_are) refl;
      sites_are = rw (name.sites_are, id.sites_are, definitions.sites_are, tags.sites_are, sign.sites_are, begin.sites_are) refl;
    })))))))

nothing_left : (ps : List Placed) → Holds (read_end ps) (λ x. lexemes ps ≡ [])
unfolding read_end
nothing_left [] = ok_holds _ refl
nothing_left (p ∷ ps) = err_holds _

-- The module that is read is one of the grammar, is written so, and has its sites.
pub record ModuleRead (ps : List Placed) (m : WrittenModule) : Type 0 where
  pub lexemes_are : lexemes ps ≡ tokens_of m
  pub sites_are : sited m (sites ps) ≡ m
  pub lawful : IsModule m

pub module_sound : (ps : List Placed) → Holds (read_module ps) (λ m. ModuleRead ps m)
unfolding read_module
module_sound ps =
    then_holds _ (head_sound ps) (λ h head.
    then_holds _ (exports_sound h.1) (λ x exports.
    then_holds _ (imports_sound x.1) (λ i imports.
    then_holds _ (each_sound assignment_sound goes_on_assigning (length i.1) i.1) (λ a all.
    then_holds _ (took_word End a.1) (λ rest end.
    then_holds _ (nothing_left rest) (λ u nothing. ok_holds _ (record {
      lexemes_are = rw (head.lexemes_are, exports.lexemes_are, imports.lexemes_are, all.lexemes_are, end.lexemes_are, nothing) refl;
      sites_are = rw (head.sites_are, head.identifier_sites, exports.sites_are, imports.sites_are, all.sites_are) refl;
      lawful = (imports.lawful, all.lawful);
    })))))))

-- The value that is read is one of the grammar, is written so, and has its sites.
pub record ValueRead (ps : List Placed) (v : WrittenValue) : Type 0 where
  pub lexemes_are : lexemes ps ≡ value_then v []
  pub sites_are : (sited_value v (sites ps)).0 ≡ v
  pub lawful : IsValue most_levels v

pub value_alone_sound : (ps : List Placed) → Holds (read_value_alone ps) (λ v. ValueRead ps v)
unfolding read_value_alone
value_alone_sound ps =
    then_holds _ (value_sound most_levels ps) (λ v one.
    then_holds _ (nothing_left v.1) (λ u nothing. ok_holds _ (record {
      lexemes_are = rw (one.lexemes_are, nothing) refl;
      sites_are = rw one.sites_are refl;
      lawful = one.lawful;
    })))
