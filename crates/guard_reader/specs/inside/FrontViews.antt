-- What is at the front of octets, and a node's outermost tag, as the code says it.
use Rattle.std.specs.Prelude.{Bool, true, List, [], ◌∷◌, Option, Some, None}
use Rattle.guard_model.specs.declared.tag.Tag.{Tag}
use Rattle.guard_tables.specs.NodeViews.{outer_form}
use Rattle.guard_tables.specs.Plan.{Plan, plan}
use Rattle.guard_reader.specs.declared.element_fronts.Front.{Front}
use Rattle.guard_reader.specs.declared.element_fronts.Front.TheVariants as front
use Rattle.guard_reader.specs.declared.layers.TagAndForm.{TagAndForm}
use Rattle.guard_reader.specs.Fronts as fronts
use Rattle.guard_reader.specs.Fronts.{here, elsewhere, broken}

abbrev pub front_view : Front → fronts.Front
front_view (front.Here inside rest) = here inside.now rest.now
front_view front.Elsewhere = elsewhere
front_view front.Broken = broken

abbrev pub tag_and_form : TagAndForm → Option Tag × Bool
tag_and_form t = (t.tag, t.constructed)

abbrev pub outermost_of : List Tag → Bool → Option Tag × Bool
outermost_of [] constructed = (None, constructed)
outermost_of (t ∷ ts) constructed = (Some t, outer_form ts constructed)

abbrev pub outermost : Plan → Option Tag × Bool
outermost (plan tags constructed body) = outermost_of tags constructed

abbrev pub wrapped_form : Option Tag × Bool → Bool
wrapped_form (None, constructed) = constructed
wrapped_form (Some t, constructed) = true

-- a tag round what another node has
abbrev pub wrapped : Option Tag → Option Tag × Bool → Option Tag × Bool
wrapped None inner = inner
wrapped (Some t) inner = (Some t, wrapped_form inner)
