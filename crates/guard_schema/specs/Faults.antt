-- Why texts denote no schema, and which refusals say so.
use Rattle.std.specs.Prelude.{◌≡◌, Option, Some, None, Result, option_map}
use Rattle.guard_model.specs.declared.site.Site.{Site}
use Rattle.guard_lexer.specs.declared.fault.LexFault.{LexFault}
use Rattle.guard_syntax.specs.declared.fault.SyntaxFault.{SyntaxFault}
use Rattle.guard_names.specs.declared.fault.NameFault.{NameFault}
use Rattle.guard_tagging.specs.declared.fault.TagFault.{TagFault}
use Rattle.guard_tagcheck.specs.Distinct.{AbstractClash}
use Rattle.guard_tagcheck.specs.InCommon.{AbstractCommon}
use Rattle.guard_tagcheck.specs.Views.{clash_view, common_view}
use Rattle.guard_values.specs.declared.fault.ValueFault.{ValueFault}
use Rattle.guard_constraints.specs.declared.fault.ConsFault.{ConsFault}
use Rattle.guard_schema.specs.declared.fault.SchemaFault.{SchemaFault}
use Rattle.guard_schema.specs.declared.fault.SchemaFault.TheVariants as code

pub data AbstractFault : Type 0 where
  Lex : LexFault → AbstractFault
  Syntax : SyntaxFault → AbstractFault
  Name : NameFault → AbstractFault
  Tag : TagFault → AbstractFault
  -- S1: tags don't tell the parts of the definition apart whose name is there; and what two that clash have in common
  Clash : Site → AbstractClash → Option AbstractCommon → AbstractFault
  Cons : ConsFault → AbstractFault
  Value : ValueFault → AbstractFault
  -- S2: the default or assigned value that is there is no member of its type
  DefaultOutside : Site → AbstractFault
  -- S3: with the definition whose name is there, constraints, values and contained types are more than may be
  TooLarge : Site → AbstractFault

-- what is made of something, or a fault
abbrev pub Outcome : Type 0 → Type 0
Outcome A = Result A AbstractFault

-- A layer's refusal is a fault, and not that memory ran out, where `named` is what the refusal names.
abbrev pub IsNamed : {F : Type 0} → (F → Option F) → F → Type 0
IsNamed named f = named f ≡ Some f

-- a refusal names a fault, unless memory ran out: that is one variant, and is in no other one
abbrev pub named : SchemaFault → Option AbstractFault
named (code.Lex f) = Some (Lex f)
named (code.Syntax f) = Some (Syntax f)
named (code.Name f) = Some (Name f)
named (code.Tag f) = Some (Tag f)
named (code.Clash site c common) = Some (Clash site (clash_view c) (option_map common_view common))
named (code.Cons f) = Some (Cons f)
named (code.Value f) = Some (Value f)
named (code.DefaultOutside site) = Some (DefaultOutside site)
named (code.TooLarge site) = Some (TooLarge site)
named code.OutOfMemory = None
