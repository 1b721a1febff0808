-- What may begin at a place is of sound types, and elements are numbered one by one.
use Rattle.std.proofs.Common.{◌≡◌, ◌≤◌, ℕ, suc, Bool, cond, true, false, List, Option, Some, subst, sym, arith}
use Rattle.std.specs.Prelude.{IfSome, IsTrue}
use Rattle.guard_model.specs.declared.tag.Tag.{Tag}
use Rattle.guard_model.specs.AbstractType as type
use Rattle.guard_model.specs.AbstractType.{AbstractKind, Components, no_components, component}
use Rattle.guard_tagcheck.specs.FirstTags.{begins_with}
use Rattle.guard_der.specs.Sound.{is_sound}
use Rattle.guard_messages.specs.PartsBefore.{AbstractDue, AbstractPart, any_of, due_inside, element, in_order, message, named_part, nothing, part_among, part_due, part_in_order}
use Rattle.guard_messages.specs.inside.Spots.{AreSound, HoldsSound, IsNumbered}

-- of a part: its type is sound, and what may begin after it
abbrev pub IsSoundPart : AbstractPart → Type 0
IsSoundPart p = IsTrue (is_sound p.ty) × HoldsSound p.after

-- what holds of the one and of the others holds of what is chosen
chosen : (P : AbstractPart → Type 0) (b : Bool) (p : AbstractPart) (others : Option AbstractPart) → P p → IfSome others P → IfSome (cond b (Some p) others) P
chosen P true p others one rest = one
chosen P false p others one rest = rest

in_order_sound : (way : List ℕ) (cs : Components) (tag : Tag) → AreSound cs → IfSome (part_in_order way cs tag) IsSoundPart
in_order_sound way no_components tag h = tt
in_order_sound way (component name t presence rest) tag h =
    chosen IsSoundPart (begins_with t tag) (named_part way name t (in_order rest)) (part_in_order way rest tag) (h.0, h.1) (in_order_sound way rest tag h.1)

among_sound : (way : List ℕ) (after : AbstractDue) (cs : Components) (tag : Tag) → HoldsSound after → AreSound cs → IfSome (part_among way after cs tag) IsSoundPart
among_sound way after no_components tag later h = tt
among_sound way after (component name t presence rest) tag later h =
    chosen IsSoundPart (begins_with t tag) (named_part way name t after) (part_among way after rest tag) (h.0, later) (among_sound way after rest tag later h.1)

part_sound : (way : List ℕ) (due : AbstractDue) (tag : Tag) → HoldsSound due → IfSome (part_due way due tag) IsSoundPart
part_sound way (message t) tag h = (h, tt)
part_sound way (in_order cs) tag h = in_order_sound way cs tag h
part_sound way (any_of cs) tag h = among_sound way (any_of cs) cs tag h h
part_sound way (element i t) tag h = (h, h)
part_sound way nothing tag h = tt

-- ---- numbers

in_order_numbered : (n : ℕ) (way : List ℕ) (cs : Components) (tag : Tag) → IfSome (part_in_order way cs tag) (λ p. IsNumbered n p.after)
in_order_numbered n way no_components tag = tt
in_order_numbered n way (component name t presence rest) tag =
    chosen (λ p. IsNumbered n p.after) (begins_with t tag) (named_part way name t (in_order rest)) (part_in_order way rest tag) tt (in_order_numbered n way rest tag)

among_numbered : (n : ℕ) (way : List ℕ) (all cs : Components) (tag : Tag) → IfSome (part_among way (any_of all) cs tag) (λ p. IsNumbered n p.after)
among_numbered n way all no_components tag = tt
among_numbered n way all (component name t presence rest) tag =
    chosen (λ p. IsNumbered n p.after) (begins_with t tag) (named_part way name t (any_of all)) (part_among way (any_of all) rest tag) tt (among_numbered n way all rest tag)

part_numbered : (n : ℕ) (way : List ℕ) (due : AbstractDue) (tag : Tag) → IsNumbered n due → IfSome (part_due way due tag) (λ p. IsNumbered (suc n) p.after)
part_numbered n way (message t) tag h = tt
part_numbered n way (in_order cs) tag h = in_order_numbered (suc n) way cs tag
part_numbered n way (any_of cs) tag h = among_numbered (suc n) way cs cs tag
part_numbered n way (element i t) tag h = omega (arith, h)
part_numbered n way nothing tag h = tt

pub inside_numbered : (n : ℕ) (kind : AbstractKind) → IsNumbered n (due_inside kind)
inside_numbered n (type.sequence cs) = tt
inside_numbered n (type.set cs) = tt
inside_numbered n (type.choice cs) = tt
inside_numbered n (type.sequence_of t) = omega arith
inside_numbered n (type.set_of t) = omega arith
inside_numbered n type.boolean = tt
inside_numbered n (type.integer ns) = tt
inside_numbered n (type.bit_string ns) = tt
inside_numbered n type.octet_string = tt
inside_numbered n type.null = tt
inside_numbered n type.object_identifier = tt
inside_numbered n (type.enumerated ns) = tt
inside_numbered n (type.characters k) = tt

pub numbered_below : (m n : ℕ) (due : AbstractDue) → m ≤ n → IsNumbered m due → IsNumbered n due
numbered_below m n (message t) le h = tt
numbered_below m n (in_order cs) le h = tt
numbered_below m n (any_of cs) le h = tt
numbered_below m n (element i t) le h = omega (arith, le, h)
numbered_below m n nothing le h = tt

-- ---- of the part that is there

pub sound_part : (way : List ℕ) (due : AbstractDue) (tag : Tag) (p : AbstractPart) → Some p ≡ part_due way due tag → HoldsSound due → IsSoundPart p
sound_part way due tag p is h = subst (λ (o : Option AbstractPart). IfSome o IsSoundPart) (sym is) (part_sound way due tag h)

pub numbered_part : (n : ℕ) (way : List ℕ) (due : AbstractDue) (tag : Tag) (p : AbstractPart) → Some p ≡ part_due way due tag → IsNumbered n due → IsNumbered (suc n) p.after
numbered_part n way due tag p is h = subst (λ (o : Option AbstractPart). IfSome o (λ q. IsNumbered (suc n) q.after)) (sym is) (part_numbered n way due tag h)
