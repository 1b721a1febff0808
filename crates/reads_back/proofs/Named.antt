-- What names say in their lists: an item of an ENUMERATED, and parts by their places.
use Rattle.std.proofs.Common.{◌≡◌, ℕ, zero, suc, ℤ, true, false, List, [], ◌∷◌, Some, bytes_eq, int_eq, option_map, refl, sym, ap, subst, ◌∙◌, inl, inr}
use Rattle.std.proofs.lemmas.Bool.{cases_Bool, cond-true, cond-false, or_cases, false≢true, both_ways}
use Rattle.std.proofs.lemmas.Bool.Decides.{Decides-int_eq}
use Rattle.std.proofs.lemmas.Slice.Eq.{bytes_eq-Decides}
use Rattle.std.proofs.lemmas.Option.{same_Some, none-some}
use Rattle.guard_model.specs.AbstractType.{AbstractType, AbstractPresence, Components, NamedNumber, no_components, component}
use Rattle.guard_model.specs.AbstractValue.{AbstractValue}
use Rattle.guard_model.specs.Components.{component_at}
use Rattle.guard_der.specs.Fits.{fits, fits_alternative}
use Rattle.guard_model.specs.NamedLists.{is_item, number_named}
use Rattle.guard_values.specs.Places.{Located, located, further}
use Rattle.guard_report.specs.Strings.{name_of}
use Rattle.reads_back.specs.Names.{IsIdentifier, HaveNames, HasNames, PartsHaveNames}

int_is : (x y : ℤ) → int_eq x y ≡ true → x ≡ y
int_is x y h = (Decides-int_eq x y).0 h

int_same : (x y : ℤ) → x ≡ y → int_eq x y ≡ true
int_same x y h = (Decides-int_eq x y).1 h

bytes_is : (x y : List ℕ) → bytes_eq x y ≡ true → x ≡ y
bytes_is x y h = (bytes_eq-Decides x y).0 h

bytes_same : (x y : List ℕ) → x ≡ y → bytes_eq x y ≡ true
bytes_same x y h = (bytes_eq-Decides x y).1 h

-- ---- items and bits

-- the number has a name, which stands for it alone
pub record IsNamed (ns : List NamedNumber) (z : ℤ) (name : List ℕ) : Type 0 where
  pub written : name_of ns z ≡ Some name
  pub identifier : IsIdentifier name
  pub meant : number_named name ns ≡ Some z

abbrev pub Named : List NamedNumber → ℤ → Type 0
Named ns z = (name : List ℕ) × IsNamed ns z name

named_first : (n : NamedNumber) (ns : List NamedNumber) (z : ℤ) → HaveNames (n ∷ ns) → int_eq n.number z ≡ true → Named (n ∷ ns) z
named_first n ns z h e = (
  n.name,
  record {
    written = cond-true (int_eq n.number z) (Some n.name) (name_of ns z) e;
    identifier = h.0;
    meant = cond-true (bytes_eq n.name n.name) (Some n.number) (number_named n.name ns) (bytes_same n.name n.name refl) ∙ ap (λ (x : ℤ). Some x) (int_is n.number z e);
  },
)

named_later : (n : NamedNumber) (ns : List NamedNumber) (z : ℤ) → HaveNames (n ∷ ns) → int_eq n.number z ≡ false → Named ns z → Named (n ∷ ns) z
named_later n ns z h e later = (
  later.0,
  record {
    written = cond-false (int_eq n.number z) (Some n.name) (name_of ns z) e ∙ later.1.written;
    identifier = later.1.identifier;
    meant = elim (cases_Bool (bytes_eq later.0 n.name)) [
      | inl same ↦ absurd (none-some z (sym h.1 ∙ ap (λ (x : List ℕ). number_named x ns) (sym (bytes_is later.0 n.name same)) ∙ later.1.meant))
      | inr other ↦ cond-false (bytes_eq later.0 n.name) (Some n.number) (number_named later.0 ns) other ∙ later.1.meant
    ];
  },
)

pub item_named : (ns : List NamedNumber) (z : ℤ) → HaveNames ns → is_item z ns ≡ true → Named ns z
item_named [] z h e = absurd (false≢true e)
item_named (n ∷ ns) z h e =
    elim (cases_Bool (int_eq n.number z)) [
      | inl here ↦ named_first n ns z h here
      | inr not_here ↦
          named_later n ns z h not_here (item_named ns z h.2 (elim (or_cases (int_eq z n.number) (is_item z ns) e) [
            | inl same ↦ absurd (both_ways (int_eq n.number z) not_here (int_same n.number z (sym (int_is z n.number same))))
            | inr later ↦ later
          ]))
    ]

pub some_named : (ns : List NamedNumber) (z : ℤ) (name : List ℕ) → HaveNames ns → name_of ns z ≡ Some name → IsNamed ns z name
some_named [] z name h e = absurd (none-some name e)
some_named (n ∷ ns) z name h e =
    let made : Named (n ∷ ns) z =
    elim (cases_Bool (int_eq n.number z)) [
      | inl here ↦ named_first n ns z h here
      | inr not_here ↦
          let later : name_of ns z ≡ Some name = sym (cond-false (int_eq n.number z) (Some n.name) (name_of ns z) not_here) ∙ e in
          named_later n ns z h not_here (name, some_named ns z name h.2 later)
    ] in
    subst (λ (x : List ℕ). IsNamed (n ∷ ns) z x) (same_Some made.0 name (sym made.1.written ∙ e)) made.1

-- ---- components and alternatives

-- the part at this place, which its name stands for alone
pub record IsPart (cs : Components) (i : ℕ) (name : List ℕ) (t : AbstractType) (presence : AbstractPresence) : Type 0 where
  pub there : component_at i cs ≡ Some (record { name = name; ty = t; presence = presence })
  pub identifier : IsIdentifier name
  pub names : HasNames t
  pub meant : located name cs ≡ Some (record { place = i; ty = t })

pub part_first : (name : List ℕ) (t : AbstractType) (presence : AbstractPresence) (rest : Components) → PartsHaveNames (component name t presence rest) → IsPart (component name t presence rest) 0 name t presence
part_first name t presence rest h = record {
  there = refl;
  identifier = h.0;
  names = h.2;
  meant = cond-true (bytes_eq name name) (Some (record { place = 0; ty = t })) (option_map further (located name rest)) (bytes_same name name refl);
}

pub part_later : (other : List ℕ) (u : AbstractType) (p : AbstractPresence) (rest : Components) (i : ℕ) (name : List ℕ) (t : AbstractType) (presence : AbstractPresence)
    → PartsHaveNames (component other u p rest) → IsPart rest i name t presence → IsPart (component other u p rest) (suc i) name t presence
part_later other u p rest i name t presence h later = record {
  there = later.there;
  identifier = later.identifier;
  names = later.names;
  meant = elim (cases_Bool (bytes_eq name other)) [
    | inl same ↦ absurd (none-some {A = Located} (record { place = i; ty = t }) (sym h.1 ∙ ap (λ (x : List ℕ). located x rest) (sym (bytes_is name other same)) ∙ later.meant))
    | inr differs ↦ cond-false (bytes_eq name other) (Some (record { place = 0; ty = u })) (option_map further (located name rest)) differs ∙ ap (option_map further) later.meant
  ];
}

-- ---- the alternative of a value

pub record Chosen (cs : Components) (i : ℕ) (v : AbstractValue) : Type 0 where
  pub name : List ℕ
  pub ty : AbstractType
  pub presence : AbstractPresence
  pub part : IsPart cs i name ty presence
  pub fitting : fits ty v ≡ true

pub chosen_part : (cs : Components) (i : ℕ) (v : AbstractValue) → PartsHaveNames cs → fits_alternative cs i v ≡ true → Chosen cs i v
chosen_part no_components i v h e = absurd (false≢true e)
chosen_part (component name t presence rest) zero v h e = record { name = name; ty = t; presence = presence; part = part_first name t presence rest h; fitting = e }
chosen_part (component name t presence rest) (suc i) v h e =
    let c = chosen_part rest i v h.3 e in
    record { name = c.name; ty = c.ty; presence = c.presence; part = part_later name t presence rest i c.name c.ty c.presence h c.part; fitting = c.fitting }
