-- Reading modules, and values alone.
use Rattle.std.specs.Prelude.{ℕ, Bool, false, not, if◌then◌else◌, List, [], ◌∷◌, length, Option, Some, None, Result, Ok}
use Rattle.guard_model.specs.Answer.{◌>>=◌}
use Rattle.guard_lexer.specs.declared.token.TokenKind.TheVariants.{Reserved, UpperName, LowerName, Mark}
use Rattle.guard_lexer.specs.declared.token.Reserved.TheVariants.{All, Automatic, Begin, Definitions, End, Explicit, Exports, From, Implicit, Imports, Tags}
use Rattle.guard_lexer.specs.declared.token.Mark.TheVariants.{Assignment, LeftBrace, LeftParenthesis, RightBrace, Semicolon}
use Rattle.guard_syntax.specs.declared.read_error.Failure.{Failure}
use Rattle.guard_syntax.specs.declared.tree.TagDefault.{TagDefault}
use Rattle.guard_syntax.specs.declared.tree.TagDefault.TheVariants as tag_default
use Rattle.guard_syntax.specs.declared.tree.SymbolKind.TheVariants as symbol
use Rattle.guard_syntax.specs.Trees.{WrittenIdentifierPart, bare_name, arc_part, WrittenSymbol, WrittenExports, all_exported, exported, WrittenImport, WrittenAssignment, WrittenModule, WrittenValue}
use Rattle.guard_syntax.specs.Grammar.{most_levels}
use Rattle.guard_syntax.specs.inside.ReadTokens.{Placed, Reader, begins_with, behind, site_at, unexpected, read_token, read_spelling, read_each, read_parted, read_arc}
use Rattle.guard_syntax.specs.inside.ReadValues.{is_there, does_not_close, read_value}
use Rattle.guard_syntax.specs.inside.ReadTypes.{read_type}

-- ---- object identifiers after module names

-- a name that no parenthesis follows
abbrev pub begins_bare_name : List Placed → Bool
begins_bare_name ps = if begins_with LowerName ps then not (begins_with (Mark LeftParenthesis) (behind ps)) else false

unfoldable pub read_identifier_part : Reader WrittenIdentifierPart
read_identifier_part ps =
    if begins_bare_name ps then (read_spelling LowerName ps >>= λ name. Ok (bare_name name.0, name.1))
    else (read_arc ps >>= λ a. Ok (arc_part a.0, a.1))

-- between the braces
unfoldable pub read_identifier_parts : Reader (List WrittenIdentifierPart)
read_identifier_parts ps =
    if begins_with (Mark RightBrace) ps then unexpected ps
    else (read_each does_not_close read_identifier_part (length ps) ps >>= λ all.
    read_token (Mark RightBrace) all.1 >>= λ closing. Ok (all.0, closing))

unfoldable pub read_identifier : Reader (List WrittenIdentifierPart)
read_identifier ps = if begins_with (Mark LeftBrace) ps then read_identifier_parts (behind ps) else Ok ([], ps)

-- ---- tag defaults

abbrev pub tag_default_at : List Placed → Option TagDefault
tag_default_at ps =
    if begins_with (Reserved Explicit) ps then Some tag_default.Explicit
    else (if begins_with (Reserved Implicit) ps then Some tag_default.Implicit
    else (if begins_with (Reserved Automatic) ps then Some tag_default.Automatic
    else None))

unfoldable pub read_tag_default : Reader (Option TagDefault)
read_tag_default ps =
    if is_there (tag_default_at ps)
    then (read_token (Reserved Tags) (behind ps) >>= λ rest. Ok (tag_default_at ps, rest))
    else Ok (None, ps)

-- ---- exports and imports

unfoldable pub read_symbol : Reader WrittenSymbol
read_symbol ps =
    if begins_with UpperName ps
    then (read_spelling UpperName ps >>= λ name.
    Ok (record { site = site_at ps; kind = symbol.Type; name = name.0 }, name.1))
    else (read_spelling LowerName ps >>= λ name.
    Ok (record { site = site_at ps; kind = symbol.Value; name = name.0 }, name.1))

-- after EXPORTS
unfoldable pub read_exported : Reader WrittenExports
read_exported ps =
    if begins_with (Reserved All) ps then (read_token (Mark Semicolon) (behind ps) >>= λ rest. Ok (all_exported, rest))
    else (if begins_with (Mark Semicolon) ps then Ok (exported [], behind ps)
    else (read_parted read_symbol (length ps) ps >>= λ all. read_token (Mark Semicolon) all.1 >>= λ rest.
    Ok (exported all.0, rest)))

unfoldable pub read_exports : Reader (Option WrittenExports)
read_exports ps =
    if begins_with (Reserved Exports) ps then (read_exported (behind ps) >>= λ x. Ok (Some x.0, x.1)) else Ok (None, ps)

unfoldable pub read_import : Reader WrittenImport
read_import ps = do
  symbols ← read_parted read_symbol (length ps) ps
  from ← read_token (Reserved From) symbols.1
  name ← read_spelling UpperName from
  id ← read_identifier name.1
  Ok (
    record {
      site = site_at ps;
      symbols = symbols.0;
      module_site = site_at from;
      module_name = name.0;
      identifier = id.0;
    },
    id.1,
  )

abbrev pub goes_on_importing : List Placed → Bool
goes_on_importing ps = not (begins_with (Mark Semicolon) ps)

unfoldable pub read_imports : Reader (Option (List WrittenImport))
read_imports ps =
    if begins_with (Reserved Imports) ps
    then (read_each goes_on_importing read_import (length (behind ps)) (behind ps) >>= λ all.
    read_token (Mark Semicolon) all.1 >>= λ rest. Ok (Some all.0, rest))
    else Ok (None, ps)

-- ---- assignments

unfoldable pub read_type_assignment : Reader WrittenAssignment
read_type_assignment ps = do
  name ← read_spelling UpperName ps
  sign ← read_token (Mark Assignment) name.1
  ty ← read_type most_levels sign
  Ok (record { site = site_at ps; name = name.0; ty = ty.0; value = None }, ty.1)

unfoldable pub read_value_assignment : Reader WrittenAssignment
read_value_assignment ps = do
  name ← read_spelling LowerName ps
  ty ← read_type most_levels name.1
  sign ← read_token (Mark Assignment) ty.1
  v ← read_value most_levels sign
  Ok (record { site = site_at ps; name = name.0; ty = ty.0; value = Some v.0 }, v.1)

unfoldable pub read_assignment : Reader WrittenAssignment
read_assignment ps = if begins_with LowerName ps then read_value_assignment ps else read_type_assignment ps

abbrev pub goes_on_assigning : List Placed → Bool
goes_on_assigning ps = not (begins_with (Reserved End) ps)

-- ---- modules

-- up to the word BEGIN
pub record WrittenHead : Type 0 where
  pub name : List ℕ
  pub identifier : List WrittenIdentifierPart
  pub tag_default : Option TagDefault

unfoldable pub read_head : Reader WrittenHead
read_head ps = do
  name ← read_spelling UpperName ps
  id ← read_identifier name.1
  definitions ← read_token (Reserved Definitions) id.1
  tags ← read_tag_default definitions
  sign ← read_token (Mark Assignment) tags.1
  begin ← read_token (Reserved Begin) sign
  Ok (record { name = name.0; identifier = id.0; tag_default = tags.0 }, begin)

unfoldable pub read_end : List Placed → Result (Unit {0}) Failure
read_end [] = Ok tt
read_end (p ∷ ps) = unexpected (p ∷ ps)

-- a value, and nothing after it
unfoldable pub read_value_alone : List Placed → Result WrittenValue Failure
read_value_alone ps = do
  v ← read_value most_levels ps
  nothing ← read_end v.1
  Ok v.0

-- a module, and nothing after it
unfoldable pub read_module : List Placed → Result WrittenModule Failure
read_module ps = do
  head ← read_head ps
  exports ← read_exports head.1
  imports ← read_imports exports.1
  assignments ← read_each goes_on_assigning read_assignment (length imports.1) imports.1
  end ← read_token (Reserved End) assignments.1
  nothing ← read_end end
  Ok (record {
    site = site_at ps;
    name = head.0.name;
    identifier = head.0.identifier;
    tag_default = head.0.tag_default;
    exports = exports.0;
    imports = imports.0;
    assignments = assignments.0;
  })
