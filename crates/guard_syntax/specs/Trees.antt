-- Syntax trees as the definitions see them: without places in memory. Each node has the site of its first token.
use Rattle.std.specs.Prelude.{ℕ, Bool, List, [], ◌∷◌, Option, Some, None}
use Rattle.guard_model.specs.declared.site.Site.{Site}
use Rattle.guard_syntax.specs.declared.tree.TagDefault.{TagDefault}
use Rattle.guard_syntax.specs.declared.tree.TagClass.{TagClass}
use Rattle.guard_syntax.specs.declared.tree.TagMode.{TagMode}
use Rattle.guard_syntax.specs.declared.tree.PlainType.{PlainType}
use Rattle.guard_syntax.specs.declared.tree.Collection.{Collection}
use Rattle.guard_syntax.specs.declared.tree.JoinMark.{JoinMark}
use Rattle.guard_syntax.specs.declared.tree.PresenceWord.{PresenceWord}
use Rattle.guard_syntax.specs.declared.tree.StringKind.{StringKind}
use Rattle.guard_syntax.specs.declared.tree.SymbolKind.{SymbolKind}

-- an integer as it is written (X.680 19.9)
pub record WrittenNumber : Type 0 where
  pub site : Site
  pub minus : Bool
  pub digits : List ℕ

-- a number, or a name with a number, in an object identifier (X.680 32.3)
pub record WrittenArc : Type 0 where
  pub site : Site
  pub name : Option (List ℕ)
  pub number : List ℕ

-- ---- values (X.680 17.7)

mutual
  pub data WrittenValue : Type 0 where
    value_node : Site → WrittenValueForm → WrittenValue

  pub data WrittenValueForm : Type 0 where
    boolean : Bool → WrittenValueForm
    null : WrittenValueForm
    integer : WrittenNumber → WrittenValueForm
    text : StringKind → List ℕ → WrittenValueForm
    reference : List ℕ → WrittenValueForm
    chosen : List ℕ → WrittenValue → WrittenValueForm
    list : WrittenEntries → WrittenValueForm
    arcs : List WrittenArc → WrittenValueForm

  -- the entries in braces in written order, each perhaps with a name
  pub data WrittenEntries : Type 0 where
    no_entries : WrittenEntries
    entry : Site → Option (List ℕ) → WrittenValue → WrittenEntries → WrittenEntries

-- one entry
pub record WrittenEntry : Type 0 where
  pub site : Site
  pub name : Option (List ℕ)
  pub value : WrittenValue

abbrev pub entries_of : List WrittenEntry → WrittenEntries
entries_of [] = no_entries
entries_of (e ∷ es) = entry e.site e.name e.value (entries_of es)

-- ---- sets of values and constraints (X.680 49.6, 50.1)

-- an end of a range that is written as a value
pub data WrittenEndForm : Type 0 where
  end_integer : WrittenNumber → WrittenEndForm
  end_reference : List ℕ → WrittenEndForm
  end_characters : List ℕ → WrittenEndForm

pub record WrittenEnd : Type 0 where
  pub site : Site
  pub form : WrittenEndForm

-- a range (X.680 51.4); no low end is MIN, no high end MAX
pub record WrittenRange : Type 0 where
  pub low : Option WrittenEnd
  pub above_low : Bool
  pub below_high : Bool
  pub high : Option WrittenEnd

mutual
  pub data WrittenSet : Type 0 where
    set_node : Site → WrittenSetForm → WrittenSet

  pub data WrittenSetForm : Type 0 where
    all_except : WrittenElement → WrittenSetForm
    union : WrittenIntersection → WrittenUnited → WrittenSetForm

  -- the further intersections of a union, each with the mark before it
  pub data WrittenUnited : Type 0 where
    none_united : WrittenUnited
    united : JoinMark → WrittenIntersection → WrittenUnited → WrittenUnited

  pub data WrittenIntersection : Type 0 where
    intersection : Site → WrittenDifference → WrittenMet → WrittenIntersection

  -- the further differences of an intersection, each with the mark before it
  pub data WrittenMet : Type 0 where
    none_met : WrittenMet
    met : JoinMark → WrittenDifference → WrittenMet → WrittenMet

  pub data WrittenDifference : Type 0 where
    element_alone : Site → WrittenElement → WrittenDifference
    element_except : Site → WrittenElement → WrittenElement → WrittenDifference

  pub data WrittenElement : Type 0 where
    element_node : Site → WrittenElementForm → WrittenElement

  pub data WrittenElementForm : Type 0 where
    parentheses : WrittenSet → WrittenElementForm
    value : WrittenValue → WrittenElementForm
    contained : Bool → Site → List ℕ → WrittenElementForm
    range : WrittenRange → WrittenElementForm
    size : WrittenConstraint → WrittenElementForm
    from : WrittenConstraint → WrittenElementForm
    with_component : WrittenConstraint → WrittenElementForm
    with_components : Bool → WrittenParts → WrittenElementForm

  pub data WrittenConstraint : Type 0 where
    constraint : Site → WrittenSet → WrittenConstraint

  -- what WITH COMPONENTS says of each component, in written order
  pub data WrittenParts : Type 0 where
    no_parts : WrittenParts
    part : Site → List ℕ → Option PresenceWord → WrittenParts → WrittenParts
    part_in : Site → List ℕ → WrittenConstraint → Option PresenceWord → WrittenParts → WrittenParts

-- an intersection with the mark before it
pub record WrittenJoinedIntersection : Type 0 where
  pub mark : JoinMark
  pub joined : WrittenIntersection

abbrev pub united_of : List WrittenJoinedIntersection → WrittenUnited
united_of [] = none_united
united_of (j ∷ js) = united j.mark j.joined (united_of js)

-- a difference with the mark before it
pub record WrittenJoinedDifference : Type 0 where
  pub mark : JoinMark
  pub joined : WrittenDifference

abbrev pub met_of : List WrittenJoinedDifference → WrittenMet
met_of [] = none_met
met_of (j ∷ js) = met j.mark j.joined (met_of js)

abbrev pub difference_of : Site → WrittenElement → Option WrittenElement → WrittenDifference
difference_of site e None = element_alone site e
difference_of site e (Some f) = element_except site e f

-- one part of WITH COMPONENTS
pub record WrittenPart : Type 0 where
  pub site : Site
  pub name : List ℕ
  pub constraint : Option WrittenConstraint
  pub presence : Option PresenceWord

abbrev pub part_before : Site → List ℕ → Option WrittenConstraint → Option PresenceWord → WrittenParts → WrittenParts
part_before site name None presence others = part site name presence others
part_before site name (Some c) presence others = part_in site name c presence others

abbrev pub parts_of : List WrittenPart → WrittenParts
parts_of [] = no_parts
parts_of (p ∷ ps) = part_before p.site p.name p.constraint p.presence (parts_of ps)

-- ---- types (X.680 17.1)

-- a tag (X.680 31.2)
pub record WrittenTag : Type 0 where
  pub site : Site
  pub class : Option TagClass
  pub number : List ℕ
  pub mode : Option TagMode

-- a named number (X.680 19.1) or a named bit (X.680 22.1)
pub record WrittenNamed : Type 0 where
  pub site : Site
  pub name : List ℕ
  pub number : WrittenNumber

-- an item of an ENUMERATED (X.680 20.1)
pub record WrittenItem : Type 0 where
  pub site : Site
  pub name : List ℕ
  pub number : Option WrittenNumber

-- the constraint before OF, perhaps with the word SIZE
pub record WrittenOfConstraint : Type 0 where
  pub site : Site
  pub size : Bool
  pub constraint : WrittenConstraint

-- what is written after the type of a component (X.680 25.1)
pub data WrittenPresence : Type 0 where
  mandatory : WrittenPresence
  optional : WrittenPresence
  default : WrittenValue → WrittenPresence

mutual
  -- a type with its tags and the constraints after it
  pub data WrittenType : Type 0 where
    type_node : Site → List WrittenTag → WrittenBase → List WrittenConstraint → WrittenType

  pub data WrittenBase : Type 0 where
    plain : PlainType → WrittenBase
    numbers : List WrittenNamed → WrittenBase
    named_bits : List WrittenNamed → WrittenBase
    enumerated : List WrittenItem → WrittenBase
    structure : Collection → WrittenComponents → WrittenBase
    choice : WrittenAlternatives → WrittenBase
    of_type : Collection → Option WrittenOfConstraint → WrittenType → WrittenBase
    named_type : Site → List ℕ → WrittenBase

  -- the components of a SEQUENCE or SET in written order
  pub data WrittenComponents : Type 0 where
    no_components : WrittenComponents
    component : Site → List ℕ → WrittenType → WrittenPresence → WrittenComponents → WrittenComponents
    components_from : Site → WrittenType → WrittenComponents → WrittenComponents

  -- the alternatives of a CHOICE in written order
  pub data WrittenAlternatives : Type 0 where
    no_alternatives : WrittenAlternatives
    alternative : Site → List ℕ → WrittenType → WrittenAlternatives → WrittenAlternatives

-- an entry of a component list, without its site
pub data WrittenComponentForm : Type 0 where
  named : List ℕ → WrittenType → WrittenPresence → WrittenComponentForm
  components_of_type : WrittenType → WrittenComponentForm

pub record WrittenComponent : Type 0 where
  pub site : Site
  pub form : WrittenComponentForm

abbrev pub component_before : Site → WrittenComponentForm → WrittenComponents → WrittenComponents
component_before site (named name ty presence) others = component site name ty presence others
component_before site (components_of_type ty) others = components_from site ty others

abbrev pub components_of : List WrittenComponent → WrittenComponents
components_of [] = no_components
components_of (c ∷ cs) = component_before c.site c.form (components_of cs)

-- one alternative
pub record WrittenAlternative : Type 0 where
  pub site : Site
  pub name : List ℕ
  pub ty : WrittenType

abbrev pub alternatives_of : List WrittenAlternative → WrittenAlternatives
alternatives_of [] = no_alternatives
alternatives_of (a ∷ others) = alternative a.site a.name a.ty (alternatives_of others)

-- ---- modules (X.680 13.1)

-- a part of an object identifier after a module's name
pub data WrittenIdentifierPart : Type 0 where
  bare_name : List ℕ → WrittenIdentifierPart
  arc_part : WrittenArc → WrittenIdentifierPart

-- a name that is exported or imported
pub record WrittenSymbol : Type 0 where
  pub site : Site
  pub kind : SymbolKind
  pub name : List ℕ

pub data WrittenExports : Type 0 where
  all_exported : WrittenExports
  exported : List WrittenSymbol → WrittenExports

-- the names that are imported from one module
pub record WrittenImport : Type 0 where
  pub site : Site
  pub symbols : List WrittenSymbol
  pub module_site : Site
  pub module_name : List ℕ
  pub identifier : List WrittenIdentifierPart

-- a type assignment (X.680 16.1), or with a value a value assignment (X.680 16.2)
pub record WrittenAssignment : Type 0 where
  pub site : Site
  pub name : List ℕ
  pub ty : WrittenType
  pub value : Option WrittenValue

pub record WrittenModule : Type 0 where
  pub site : Site
  pub name : List ℕ
  pub identifier : List WrittenIdentifierPart
  pub tag_default : Option TagDefault
  pub exports : Option WrittenExports
  pub imports : Option (List WrittenImport)
  pub assignments : List WrittenAssignment
