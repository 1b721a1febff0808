-- Where each numbered fault of modules and of policies is.
use Rattle.std.specs.Prelude.{Option, Some, None}
use Rattle.guard_lexer.specs.declared.fault.LexFault.{LexFault}
use Rattle.guard_lexer.specs.declared.fault.LexFault.TheVariants as lex
use Rattle.guard_syntax.specs.declared.fault.SyntaxFault.{SyntaxFault}
use Rattle.guard_syntax.specs.declared.fault.SyntaxFault.TheVariants as syntax
use Rattle.guard_names.specs.declared.fault.NameFault.{NameFault}
use Rattle.guard_names.specs.declared.fault.NameFault.TheVariants as name
use Rattle.guard_tagging.specs.declared.fault.TagFault.{TagFault}
use Rattle.guard_tagging.specs.declared.fault.TagFault.TheVariants as tag
use Rattle.guard_values.specs.declared.fault.ValueFault.{ValueFault}
use Rattle.guard_values.specs.declared.fault.ValueFault.TheVariants as value
use Rattle.guard_constraints.specs.declared.fault.ConsFault.{ConsFault}
use Rattle.guard_constraints.specs.declared.fault.ConsFault.TheVariants as constraint
use Rattle.guard_schema.specs.declared.fault.SchemaFault.{SchemaFault}
use Rattle.guard_schema.specs.declared.fault.SchemaFault.TheVariants as schema
use Rattle.guard_tables.specs.declared.fault.TableFault.{TableFault}
use Rattle.guard_tables.specs.declared.fault.TableFault.TheVariants as table
use Rattle.guard_policy.specs.declared.fault.PolicyFault.{PolicyFault}
use Rattle.guard_policy.specs.declared.fault.PolicyFault.TheVariants as policy
use Rattle.guard_notes.specs.declared.notes.Place.{Place}
use Rattle.guard_notes.specs.declared.notes.Place.TheVariants.{ThePolicy, Module, At}

-- tokens: L1 to L7
abbrev pub lex_place : LexFault → Option Place
lex_place (lex.BadCharacter site) = Some (At site)
lex_place (lex.BadString site) = Some (At site)
lex_place (lex.OpenComment site) = Some (At site)
lex_place (lex.BadHyphen site) = Some (At site)
lex_place (lex.NumberTooLarge site) = Some (At site)
lex_place (lex.NotUtf8 text) = Some (Module text)
lex_place (lex.TextTooLong text) = Some (Module text)
lex_place lex.OutOfMemory = None

-- syntax: P1 to P3
abbrev pub syntax_place : SyntaxFault → Option Place
syntax_place (syntax.Unexpected site) = Some (At site)
syntax_place (syntax.Unsupported spelling site) = Some (At site)
syntax_place (syntax.TooDeep site) = Some (At site)
syntax_place syntax.OutOfMemory = None

-- names: N1 to N7
abbrev pub name_place : NameFault → Option Place
name_place (name.Duplicate site) = Some (At site)
name_place (name.Undefined site) = Some (At site)
name_place (name.NoModule site) = Some (At site)
name_place (name.NotExported site) = Some (At site)
name_place (name.ImportNotDefined site) = Some (At site)
name_place (name.Recursive site) = Some (At site)
name_place name.TooManyModules = Some ThePolicy
name_place name.OutOfMemory = None

-- tags, parts and their numbers: G1 to G12
abbrev pub tag_place : TagFault → Option Place
tag_place (tag.UniversalTag site) = Some (At site)
tag_place (tag.ImplicitChoice site) = Some (At site)
tag_place (tag.TagTooLarge site) = Some (At site)
tag_place (tag.ComponentsOfKind site) = Some (At site)
tag_place (tag.ComponentsOfAutomatic site) = Some (At site)
tag_place (tag.ComponentsOfTagged site) = Some (At site)
tag_place (tag.DuplicateName site) = Some (At site)
tag_place (tag.DuplicateNumber site) = Some (At site)
tag_place (tag.TooManyComponents site) = Some (At site)
tag_place (tag.TooDeep site) = Some (At site)
tag_place (tag.SchemaTooLarge site) = Some (At site)
tag_place (tag.NumberTooLarge site) = Some (At site)
tag_place tag.OutOfMemory = None

-- written values: V1 to V8
abbrev pub value_place : ValueFault → Option Place
value_place (value.WrongNotation site) = Some (At site)
value_place (value.UnknownName site) = Some (At site)
value_place (value.MissingComponent site) = Some (At site)
value_place (value.RepeatedComponent site) = Some (At site)
value_place (value.OutOfOrder site) = Some (At site)
value_place (value.BadCharacter site) = Some (At site)
value_place (value.BadObjectId site) = Some (At site)
value_place (value.TooLarge site) = Some (At site)
value_place value.OutOfMemory = None

-- constraints: C1 to C10
abbrev pub constraint_place : ConsFault → Option Place
constraint_place (constraint.NotApplicable site) = Some (At site)
constraint_place (constraint.ExclusiveLimit site) = Some (At site)
constraint_place (constraint.AlphabetForm site) = Some (At site)
constraint_place (constraint.PresenceWord site) = Some (At site)
constraint_place (constraint.UnknownComponent site) = Some (At site)
constraint_place (constraint.RepeatedComponent site) = Some (At site)
constraint_place (constraint.TwoPresent site) = Some (At site)
constraint_place (constraint.ContainedMismatch site) = Some (At site)
constraint_place (constraint.Value fault) = value_place fault
constraint_place (constraint.SizeOnNamedBits site) = Some (At site)
constraint_place constraint.OutOfMemory = None

-- modules; S1 to S3 are faults of the schema as a whole
abbrev pub schema_place : SchemaFault → Option Place
schema_place (schema.Lex fault) = lex_place fault
schema_place (schema.Syntax fault) = syntax_place fault
schema_place (schema.Name fault) = name_place fault
schema_place (schema.Tag fault) = tag_place fault
schema_place (schema.Clash site clash common) = Some (At site)
schema_place (schema.Cons fault) = constraint_place fault
schema_place (schema.Value fault) = value_place fault
schema_place (schema.DefaultOutside site) = Some (At site)
schema_place (schema.TooLarge site) = Some (At site)
schema_place schema.OutOfMemory = None

-- the types of a message and its rules: B1 to B3
abbrev pub table_place : TableFault → Option Place
table_place (table.RuleTypeMismatch rule) = Some ThePolicy
table_place table.TooManyConditions = Some ThePolicy
table_place table.TooManyRules = Some ThePolicy
table_place table.OutOfMemory = None

-- a policy: Q1 to Q9
abbrev pub policy_place : PolicyFault → Option Place
policy_place policy.Toml = Some ThePolicy
policy_place (policy.UnknownKey entry key) = Some ThePolicy
policy_place (policy.MissingKey entry key) = Some ThePolicy
policy_place (policy.BadName entry) = Some ThePolicy
policy_place (policy.DuplicateName entry) = Some ThePolicy
policy_place (policy.NoSuchType entry) = Some ThePolicy
policy_place (policy.NoSuchMessage entry) = Some ThePolicy
policy_place (policy.BadEffect entry) = Some ThePolicy
policy_place (policy.Table message fault) = table_place fault
policy_place policy.OutOfMemory = None
