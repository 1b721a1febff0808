use Rattle.std.proofs.Common.{map}
use Rattle.guard_schema.proofs.Throughout.EachType.{have_types}
use Rattle.guard_schema.proofs.ByNames.Answers.{accepted, refused, only, sound}
use Rattle.guard_schema.proofs.schema.Schema.build.Goals as goal

pub returns-clause-accepted : goal.returns-clause-accepted
returns-clause-accepted c = accepted (map (λ t. t.now) c.args.texts.now) c.schema_of.result c.schema_of.ensures

pub returns-clause-refused : goal.returns-clause-refused
returns-clause-refused c = refused (map (λ t. t.now) c.args.texts.now) c.schema_of.result c.schema_of.ensures

pub returns-clause-only : goal.returns-clause-only
returns-clause-only c = λ s accepts. only (map (λ t. t.now) c.args.texts.now) c.law_one_schema.ensures s accepts
    c.schema_of.result c.schema_of.ensures

pub returns-clause-types : goal.returns-clause-types
returns-clause-types c = have_types (map (λ t. t.now) c.args.texts.now) c.schema_of.result c.schema_of.ensures

pub returns-clause-sound : goal.returns-clause-sound
returns-clause-sound c = sound c.schema_of.result
