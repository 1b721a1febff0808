-- How elements of a type are read, and passed over by a plan.
use Rattle.guard_model.specs.AbstractType.{AbstractType, type_of}
use Rattle.guard_tagcheck.specs.FirstTags.{begins_with}
use Rattle.guard_der.specs.Reading as read
use Rattle.guard_der.specs.Reading.{element_at}
use Rattle.guard_tables.specs.Marking.{type_marked}
use Rattle.guard_tables.specs.Plan.{Plan}
use Rattle.guard_tables.specs.Standing.{inside_at}
use Rattle.guard_reader.specs.Fronts.{front}
use Rattle.guard_reader.specs.Judging.{inside_judged}
use Rattle.guard_reader.proofs.Sights.{Way, SightLaw}

abbrev pub inside_type : AbstractType → read.Body
inside_type (type_of tags kind cons) = inside_at tags kind

abbrev pub way_of : Plan → AbstractType → Way
way_of p t = record {
  pass = λ os m. inside_judged p os m;
  wanted = λ tag. begins_with t tag;
  reader = λ at h os. element_at t at h os;
  body = inside_type t;
  mark = λ v m. type_marked t p v m;
}

-- what a plan sees is what its type reads
abbrev pub PlanLaw : Plan → AbstractType → Type 0
PlanLaw p t = SightLaw (λ os. front p os) (way_of p t)
