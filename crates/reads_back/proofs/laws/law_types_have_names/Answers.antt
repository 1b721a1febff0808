use Rattle.reads_back.proofs.SchemaNames.{schema_has_names, schema_sound}
use Rattle.reads_back.proofs.laws.law_types_have_names.Goals as goal

pub returns-clause-names : goal.returns-clause-names
returns-clause-names c = schema_has_names c.law_unfinished.ensures.tagged

pub returns-clause-sound : goal.returns-clause-sound
returns-clause-sound c = schema_sound c.law_unfinished.ensures.schema
