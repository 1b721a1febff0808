-- What a written value denotes, it denotes also where more names mean something.
use Rattle.std.proofs.Common.{◌≡◌, inl, inr, ℕ, ℤ, suc, Bool, true, false, List, [], Option, Some, None, refl, ap}
use Rattle.std.proofs.Common.{◌∙◌}
use Rattle.guard_model.specs.AbstractType as type
use Rattle.guard_model.specs.AbstractType.{AbstractType, AbstractKind, AbstractPresence, Components}
use Rattle.guard_model.specs.AbstractValue as value
use Rattle.guard_model.specs.AbstractValue.{AbstractValue, Fields}
use Rattle.guard_model.specs.Kinds.{kind_of}
use Rattle.guard_syntax.specs.Trees as written
use Rattle.guard_syntax.specs.Trees.{WrittenValue, WrittenValueForm, WrittenEntries, value_node, no_entries, entry}
use Rattle.guard_values.specs.Meanings.{Governed, Meaning, own_number}
use Rattle.guard_values.specs.Simple.{visible_value, named_value}
use Rattle.guard_values.specs.Places.{entry_places, is_among, FieldDenotes, FieldsDenote}
use Rattle.guard_values.specs.Denotes.{BracesDenote, Says, FormSays, EntrySays, EntriesSay, Denotes}

-- each name that means something means the same
abbrev pub Grows : {A : Type 0} → (List ℕ → Option A) → (List ℕ → Option A) → Type 0
Grows {A} fewer more = (name : List ℕ) (x : A) → fewer name ≡ Some x → more name ≡ Some x

-- ---- values in braces, by what their entries denote

module _ (given : List (Option ℕ)) (D E : ℕ → AbstractType → AbstractValue → Type 0)
    (to : (i : ℕ) (t : AbstractType) (v : AbstractValue) → D i t v → E i t v) where
  field_grown : (b : Bool) (i : ℕ) (t : AbstractType) (presence : AbstractPresence) (field : Option AbstractValue)
      → FieldDenotes b (D i t) presence field → FieldDenotes b (E i t) presence field
  field_grown true i t presence field (v, e, d) = (v, e, to i t v d)
  field_grown false i t presence field h = h

  fields_grown : (i : ℕ) (cs : Components) (fs : Fields) → FieldsDenote given D i cs fs → FieldsDenote given E i cs fs
  fields_grown i type.no_components value.no_fields h = tt
  fields_grown i type.no_components (value.present v fs) h = absurd h
  fields_grown i type.no_components (value.absent fs) h = absurd h
  fields_grown i (type.component name t presence rest) value.no_fields h = absurd h
  fields_grown i (type.component name t presence rest) (value.present v fs) (h, k) =
      (field_grown (is_among i given) i t presence (Some v) h, fields_grown (suc i) rest fs k)
  fields_grown i (type.component name t presence rest) (value.absent fs) (h, k) =
      (field_grown (is_among i given) i t presence None h, fields_grown (suc i) rest fs k)

module _ (es : WrittenEntries) (D E : Components → ℕ → AbstractType → AbstractValue → Type 0)
    (L M : AbstractType → List AbstractValue → Type 0)
    (to : (cs : Components) (i : ℕ) (t : AbstractType) (v : AbstractValue) → D cs i t v → E cs i t v)
    (listed : (t : AbstractType) (vs : List AbstractValue) → L t vs → M t vs) where
  braces_grown : (kind : AbstractKind) (v : AbstractValue) → BracesDenote kind es D L v → BracesDenote kind es E M v
  braces_grown (type.sequence cs) v (order, (fs, h, e)) =
      (order, (fs, fields_grown (entry_places cs es) (D cs) (E cs) (to cs) 0 cs fs h, e))
  braces_grown (type.set cs) v (order, (fs, h, e)) =
      (order, (fs, fields_grown (entry_places cs es) (D cs) (E cs) (to cs) 0 cs fs h, e))
  braces_grown (type.sequence_of t) v (ws, h, few, e) = (ws, listed t ws h, few, e)
  braces_grown (type.set_of t) v (ws, h, few, short, e) = (ws, listed t ws h, few, short, e)
  braces_grown (type.bit_string []) v h = h
  braces_grown kind v h = h

-- ---- values

module _ (m n : Meaning) (grows : Grows m n) where
  visible_grown : (t : AbstractType) (name : List ℕ) (g : Option Governed) → m name ≡ g → (v : AbstractValue)
      → visible_value t g ≡ Some v → visible_value t (n name) ≡ Some v
  visible_grown t name None e v h = absurd cc
  visible_grown t name (Some g) e v h = ap (visible_value t) (grows name g e) ∙ h

  named_grown : (own : Option ℤ) (t : AbstractType) (name : List ℕ) (v : AbstractValue)
      → named_value own t (m name) ≡ Some v → named_value own t (n name) ≡ Some v
  named_grown (Some z) t name v h = h
  named_grown None t name v h = visible_grown t name (m name) refl v h

  mutual
    says_grown : (t : AbstractType) (tree : WrittenValue) (v : AbstractValue) → Says m t tree v → Says n t tree v
    says_grown t (value_node site form) v h = form_grown t form v h

    form_grown : (t : AbstractType) (form : WrittenValueForm) (v : AbstractValue) → FormSays m t form v
        → FormSays n t form v
    form_grown t (written.reference name) v h = named_grown (own_number (kind_of t) name) t name v h
    form_grown t (written.chosen name tree) v (l, w, at, h, e) = (l, w, at, says_grown l.ty tree w h, e)
    form_grown t (written.list es) v h =
        braces_grown es (λ cs i u w. EntrySays m cs es i u w) (λ cs i u w. EntrySays n cs es i u w)
        (λ u ws. EntriesSay m u es ws) (λ u ws. EntriesSay n u es ws)
        (λ cs i u w. entry_grown cs es i u w) (λ u ws. entries_grown u es ws) (kind_of t) v h
    form_grown t form v h = h

    entry_grown : (cs : Components) (es : WrittenEntries) (i : ℕ) (t : AbstractType) (v : AbstractValue)
        → EntrySays m cs es i t v → EntrySays n cs es i t v
    entry_grown cs no_entries i t v h = absurd h
    entry_grown cs (entry site name tree rest) i t v (inl (e, h)) = inl (e, says_grown t tree v h)
    entry_grown cs (entry site name tree rest) i t v (inr h) = inr (entry_grown cs rest i t v h)

    entries_grown : (t : AbstractType) (es : WrittenEntries) (vs : List AbstractValue) → EntriesSay m t es vs
        → EntriesSay n t es vs
    entries_grown t no_entries vs h = h
    entries_grown t (entry site None tree rest) vs (v, others, h, k, e) =
        (v, others, says_grown t tree v h, entries_grown t rest others k, e)
    entries_grown t (entry site (Some name) tree rest) vs h = absurd h

  pub value_grown : (t : AbstractType) (tree : WrittenValue) (v : AbstractValue) → Denotes m t tree v
      → Denotes n t tree v
  value_grown t tree v (h, short) = (says_grown t tree v h, short)
