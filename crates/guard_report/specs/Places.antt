-- Where the encodings of a value's parts begin in the octets of a message, from 0. None where a part isn't encoded: a
-- component that is its default (X.690 11.5), and what is inside of it.
use Rattle.std.specs.Prelude.{ℕ, zero, suc, Bool, true, false, ◌||◌, List, [], ◌∷◌, Option, Some, None, option_map}
use Rattle.std.specs.Prelude.{is_none, if◌then◌else◌}
use Rattle.std.specs.Result.{result_ok}
use Rattle.guard_model.specs.declared.tag.Tag.{Tag}
use Rattle.guard_model.specs.AbstractType as type
use Rattle.guard_model.specs.AbstractType.{AbstractType, AbstractKind, type_of}
use Rattle.guard_model.specs.AbstractValue.{AbstractValue}
use Rattle.guard_model.specs.Limits.{most_components}
use Rattle.guard_model.specs.Tags.{same_tag}
use Rattle.guard_model.specs.TypeView.{OneComponent}
use Rattle.guard_der.specs.declared.element.Header.{Header}
use Rattle.guard_der.specs.Der.{is_left_out, outermost}
use Rattle.guard_der.specs.Header.{header_at}

-- the identifier and length octets of the element that begins there (X.690 8.1.1)
abbrev pub header_there : List ℕ → Option ℕ → Option Header
header_there octets None = None
header_there octets (Some at) = result_ok (header_at at octets)

-- where the element's contents octets begin
abbrev pub inside_element : List ℕ → Option ℕ → Option ℕ
inside_element octets at = option_map (λ h. h.contents) (header_there octets at)

-- where the element has ended
abbrev pub after_element : List ℕ → Option ℕ → Option ℕ
after_element octets at = option_map (λ h. h.end) (header_there octets at)

-- Each tag is that of an element, which is the contents of the one before it (8.14).
abbrev pub inside_tags : List ℕ → List Tag → Option ℕ → Option ℕ
inside_tags octets [] at = at
inside_tags octets (tag ∷ tags) at = inside_tags octets tags (inside_element octets at)

abbrev pub tags_known : Option AbstractType → List Tag
tags_known None = []
tags_known (Some (type_of tags kind cons)) = tags

-- where the contents of a value of the type begin, the value's encoding beginning there
abbrev pub inside_value : List ℕ → Option AbstractType → Option ℕ → Option ℕ
inside_value octets t at = inside_tags octets (tags_known t) at

-- ---- components

abbrev pub is_set_kind : AbstractKind → Bool
is_set_kind (type.set cs) = true
is_set_kind _ = false

abbrev pub is_set : Option AbstractType → Bool
is_set None = false
is_set (Some (type_of tags kind cons)) = is_set_kind kind

abbrev pub has_tag : Tag → Option Header → Bool
has_tag tag None = false
has_tag tag (Some h) = same_tag h.tag tag

-- the first element with this tag, of so many that follow one another from there on
abbrev pub element_with : List ℕ → Tag → ℕ → Option ℕ → Option ℕ
element_with octets tag zero at = None
element_with octets tag (suc others) at =
    if has_tag tag (header_there octets at) then at else element_with octets tag others (after_element octets at)

-- Where a component with this value begins. In a SET its tag says which of the elements is its (X.690 10.3), the first
-- of which begins at `next`. In a SEQUENCE `next` is where what is sent before it has ended.
abbrev pub component_place : List ℕ → Bool → Option OneComponent → AbstractValue → Option ℕ → Option ℕ
component_place octets in_set None v next = None
component_place octets in_set (Some c) v next =
    if is_left_out c.presence v then None
    else if in_set then element_with octets (outermost c.ty v) most_components next
    else next

-- `next` for the component after one that begins there
abbrev pub next_place : List ℕ → Bool → Option ℕ → Option ℕ → Option ℕ
next_place octets in_set at next = if in_set || is_none at then next else after_element octets at
