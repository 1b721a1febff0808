-- Components one after another, as they are read.
use Rattle.std.specs.Prelude.{ℕ, ◌-◌, Bool, true, false, not, ◌||◌, List, [], ◌∷◌, ◌++◌, length, replicate, min, max, Option, Some, None, option_map, is_some, Result, Ok, Err, nat_lt, if◌then◌else◌}
use Rattle.std.specs.Option.{option_or}
use Rattle.guard_model.specs.Answer.{◌>>=◌}
use Rattle.guard_model.specs.AbstractType as type
use Rattle.guard_model.specs.AbstractType.{AbstractType, AbstractPresence, Components}
use Rattle.guard_model.specs.TypeView.{OneComponent}
use Rattle.guard_model.specs.declared.site.Site.{Site}
use Rattle.guard_model.specs.declared.tag.Tag.{Tag}
use Rattle.guard_model.specs.Limits.{most_components}
use Rattle.guard_tagging.specs.declared.fault.TagFault.{TagFault}
use Rattle.guard_tagging.specs.declared.fault.TagFault.TheVariants.{ComponentsOfKind, ComponentsOfAutomatic, ComponentsOfTagged, DuplicateName, TooManyComponents}
use Rattle.guard_tagging.specs.declared.made.Refused.{Refused}
use Rattle.guard_syntax.specs.declared.tree.Collection.{Collection}
use Rattle.guard_tagging.specs.Faults.{first_of, is_of_kind, is_tagged, repeated}
use Rattle.guard_tagging.specs.Named.{allowed}
use Rattle.guard_tagging.specs.inside.ReadNames.{text_octets, read_places}
use Rattle.guard_tagging.specs.inside.ReadNodes.{Made}
use Rattle.guard_tagging.specs.Tagging.{automatic_tag}
use Rattle.guard_tagging.specs.Types.{parts_of}

-- components so far: the site of each, their greatest nesting, the types up to their end, and where COMPONENTS OF took
-- in what it may not
pub record PartList : Type 0 where
  pub sites : List Site
  pub comps : List OneComponent
  pub deepest : ℕ
  pub nodes : ℕ
  pub refused : Refused

abbrev pub none_refused : Refused
none_refused = record { kind = None; automatic = None; tagged = None }

abbrev pub no_parts : ℕ → PartList
no_parts before = record { sites = []; comps = []; deepest = 0; nodes = before; refused = none_refused }

-- ---- automatic tags

-- The tag of the component at a place, in a list that is tagged automatically or isn't. After the last place that a
-- list may have one tag is as good as another, since the list is refused.
abbrev pub place_tag : Bool → ℕ → Option Tag
place_tag false place = None
place_tag true place = Some (automatic_tag (min place most_components))

abbrev pub next_tag : Bool → PartList → Option Tag
next_tag automatic parts = place_tag automatic (length parts.comps)

-- ---- one more

abbrev pub named_component : List ℕ → AbstractType → AbstractPresence → OneComponent
named_component name t presence = record { name = text_octets name; ty = t; presence = presence }

abbrev pub pushed : PartList → Site → OneComponent → ℕ → ℕ → PartList
pushed parts site comp nesting nodes = record {
  sites = parts.sites ++ site ∷ [];
  comps = parts.comps ++ comp ∷ [];
  deepest = max parts.deepest nesting;
  nodes = nodes;
  refused = parts.refused;
}

abbrev pub with_component : PartList → Site → List ℕ → Made → AbstractPresence → PartList
with_component parts site name made presence =
    pushed parts site (named_component name made.ty presence) made.nesting made.nodes

abbrev pub listed : Components → List OneComponent
listed type.no_components = []
listed (type.component name t presence cs) = record { name = name; ty = t; presence = presence } ∷ listed cs

-- all these at one site
abbrev pub appended : PartList → Site → List OneComponent → ℕ → ℕ → PartList
appended parts site comps nesting nodes = record {
  sites = parts.sites ++ replicate (length comps) site;
  comps = parts.comps ++ comps;
  deepest = max parts.deepest nesting;
  nodes = nodes;
  refused = parts.refused;
}

-- those of a SEQUENCE or SET that COMPONENTS OF takes in: they are nested one level less than it
abbrev pub with_list : PartList → Site → Made → PartList
with_list parts site made = appended parts site (listed (parts_of made.ty)) (made.nesting - 1) made.nodes

-- ---- what COMPONENTS OF may not take in

abbrev pub site_where : Bool → Site → Option Site
site_where wrong site = if wrong then Some site else None

abbrev pub refused_at : Collection → Bool → Site → AbstractType → Refused
refused_at k automatic site t = record {
  kind = site_where (not (is_of_kind k t)) site;
  automatic = site_where automatic site;
  tagged = site_where (is_tagged t) site;
}

abbrev pub is_refused : Refused → Bool
is_refused r = is_some r.kind || (is_some r.automatic || is_some r.tagged)

-- the first of each sort
abbrev pub or_refused : Refused → Refused → Refused
or_refused a b = record {
  kind = option_or a.kind b.kind;
  automatic = option_or a.automatic b.automatic;
  tagged = option_or a.tagged b.tagged;
}

abbrev pub with_refused : PartList → Refused → PartList
with_refused parts refused = record {
  sites = parts.sites;
  comps = parts.comps;
  deepest = parts.deepest;
  nodes = parts.nodes;
  refused = or_refused parts.refused refused;
}

abbrev pub taken_in : PartList → Collection → Bool → Site → Made → PartList
taken_in parts k automatic site made =
    if is_refused (refused_at k automatic site made.ty) then with_refused parts
    (refused_at k automatic site made.ty) else with_list parts site made

abbrev pub refused_fault : Refused → Option TagFault
refused_fault r =
    first_of (option_map (λ site. ComponentsOfKind site) r.kind
    ∷ option_map (λ site. ComponentsOfAutomatic site) r.automatic
    ∷ option_map (λ site. ComponentsOfTagged site) r.tagged ∷ [])

-- ---- what COMPONENTS OF took in, the names of a list, and how long it is

abbrev pub list_result : Site → Option Site → Bool → Result (Unit {0}) TagFault
list_result site (Some name) long = Err (DuplicateName name)
list_result site None true = Err (TooManyComponents site)
list_result site None false = Ok tt

unfoldable pub check_list : Site → PartList → Result (Unit {0}) TagFault
check_list site parts =
    allowed (refused_fault parts.refused) >>= λ _.
    list_result site (repeated [] (read_places parts.sites parts.comps)) (nat_lt most_components (length parts.comps))
