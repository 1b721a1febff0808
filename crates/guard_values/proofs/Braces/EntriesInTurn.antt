-- Entries, one after another, as loops read them.
use Rattle.std.proofs.Common.{◌≡◌, ℕ, suc, ◌+◌, ◌<◌, ◌≤◌, Bool, false, List, [], ◌∷◌, ◌++◌, length, drop, get_or, map, add-one, Option, Some, None, Ok, Err, refl, sym, ap, ◌∙◌, append_assoc}
use Rattle.std.proofs.lemmas.List.{at_drop_more, at_drop_all, append-nil}
use Rattle.std.specs.Arc.{arc_value}
use Rattle.std.specs.Global.{Vec}
use Rattle.guard_model.specs.Answer.{◌>>=◌, Refuses}
use Rattle.guard_model.specs.declared.site.Site.{Site}
use Rattle.guard_model.specs.AbstractType.{AbstractType, Components}
use Rattle.guard_model.specs.AbstractValue.{AbstractValue, Fields}
use Rattle.std.specs.Prelude.{set}
use Rattle.guard_model.specs.TypeView.{type_view, kind_view}
use Rattle.guard_model.specs.ValueView.{fields_view}
use Rattle.guard_model.specs.ValueView as guard
use Rattle.guard_model.specs.declared.value.Value.{Value}
use Rattle.guard_model.specs.declared.ty.Ty.{Ty}
use Rattle.guard_model.specs.declared.ty.Kind.TheViews.{out-Ty}
use Rattle.guard_model.proofs.TypeViews.{type_view_is}
use Rattle.guard_der.specs.Reading.{fill}
use Rattle.guard_syntax.specs.Trees as written
use Rattle.guard_syntax.specs.declared.tree.ValueForm as variant
use Rattle.guard_syntax.specs.declared.tree.ValueForm.{ValueForm}
use Rattle.guard_syntax.specs.declared.tree.ValueForm.TheVariants.{rolls-List}
use Rattle.guard_syntax.specs.declared.tree.EntryTree as entry_variant
use Rattle.guard_syntax.specs.declared.tree.EntryTree.TheOpen.{EntryTree-F, ValueForm-F}
use Rattle.guard_syntax.specs.declared.tree.EntryTree.TheVariants.{rolls-Alone}
use Rattle.guard_model.specs.Kinds.{kind_of}
use Rattle.guard_values.specs.Places.{Located}
use Rattle.guard_der.proofs.Functions.Encoding.{Slot}
use Rattle.guard_der.proofs.Functions.SetFields.{field_filled}
use Rattle.guard_syntax.specs.Trees.{WrittenValue, WrittenEntry, WrittenEntries, no_entries, entry, entries_of}
use Rattle.guard_syntax.specs.Views.{site_of_value, value_form_step, entry_step, value_step, value_view, entry_view, value_form_view}
use Rattle.guard_syntax.specs.Trees.{WrittenValueForm, value_node}
use Rattle.guard_syntax.specs.declared.tree.EntryTree.{EntryTree}
use Rattle.guard_syntax.specs.declared.tree.ValueTree.{ValueTree}
use Rattle.guard_syntax.specs.declared.tree.EntryTree.TheFolds.{fold_out-ValueTree, fold-roll-EntryTree, fold-roll-ValueForm}
use Rattle.guard_syntax.specs.declared.tree.EntryTree.TheViews.{out-ValueTree}
use Rattle.guard_values.specs.declared.fault.ValueFault.{ValueFault}
use Rattle.guard_values.specs.Meanings.{Meaning}
use Rattle.guard_values.specs.inside.Reading.{Read, element_at, place_at, entry_at, site_of, kept, room_after, build, build_form, build_list, build_elements, build_entries}

-- ---- one level of a tree

pub alone_is : (e : EntryTree) (v : ValueTree) → e ≡ entry_variant.Alone v → entry_view e ≡ record { site = site_of_value (value_view v); name = None; value = value_view v }
alone_is e v is = ap entry_view (is ∙ sym (rolls-Alone v)) ∙ fold-roll-EntryTree WrittenEntry WrittenValueForm WrittenValue entry_step value_form_step value_step (EntryTree-F.Alone v)

pub value_view_is : (v : ValueTree) → value_view v ≡ value_node (out-ValueTree v).site (value_form_view (out-ValueTree v).form)
value_view_is v = fold_out-ValueTree WrittenEntry WrittenValueForm WrittenValue entry_step value_form_step value_step v

pub form_list : (es : Vec EntryTree) → value_form_view (variant.List es) ≡ written.list (entries_of (map entry_view es.items))
form_list es = ap value_form_view (sym (rolls-List es)) ∙ fold-roll-ValueForm WrittenEntry WrittenValueForm WrittenValue entry_step value_form_step value_step (ValueForm-F.List es)

pub list_is : (m : Meaning) (sorted : Bool) (ty : Ty) (site : Site) (form : ValueForm) (es : Vec EntryTree) → form ≡ variant.List es
    → build_form m sorted (type_view ty) site (value_form_view form) ≡ build_list m sorted site (kind_view (out-Ty ty).kind) (entries_of (map entry_view es.items))
unfolding build
list_is m sorted ty site form es is =
    ap (λ (f : ValueForm). build_form m sorted (type_view ty) site (value_form_view f)) is
    ∙ ap (build_form m sorted (type_view ty) site) (form_list es)
    ∙ ap (λ (t : AbstractType). build_list m sorted site (kind_of t) (entries_of (map entry_view es.items))) (type_view_is ty)

-- ---- an entry by itself

unlimited : (r : Read AbstractValue) → (r >>= λ v. Ok v) ≡ r
unlimited (Ok v) = refl
unlimited (Err f) = refl

pub alone_element : (m : Meaning) (sorted : Bool) (t : AbstractType) (e : EntryTree) (v : ValueTree) → e ≡ entry_variant.Alone v
    → element_at false t (entry_view e).site (entry_view e).name (site_of (entry_view e).value) (build m sorted t (entry_view e).value) ≡ build m sorted t (value_view v)
alone_element m sorted t e v is =
    ap (λ (w : WrittenEntry). element_at false t w.site w.name (site_of w.value) (build m sorted t w.value)) (alone_is e v is) ∙ unlimited (build m sorted t (value_view v))

pub entry_found : (m : Meaning) (sorted : Bool) (ordered : Bool) (cs : Components) (next : ℕ) (fs : Fields) (w : WrittenEntry) (l : Located) (v : AbstractValue)
    → place_at ordered cs next fs w.site w.name ≡ Ok l → build m sorted l.ty w.value ≡ Ok v → entry_at ordered cs next fs w.site w.name (λ u. build m sorted u w.value) ≡ Ok (l.place, v)
entry_found m sorted ordered cs next fs w l v h k = rw (h, k) refl

-- ---- those from a place on

abbrev pub left : List EntryTree → ℕ → WrittenEntries
left entries i = entries_of (map entry_view (drop i entries))

abbrev pub before : WrittenEntry → WrittenEntries → WrittenEntries
before e es = entry e.site e.name e.value es

pub left_is : (entries : List EntryTree) (i : ℕ) (e : EntryTree) → i < length entries → e ≡ get_or entries i e → left entries i ≡ before (entry_view e) (left entries (i + 1))
left_is entries i e lt is = at_drop_more (λ xs. entries_of (map entry_view xs)) entries i e lt ∙ ap (λ (x : EntryTree). before (entry_view x) (left entries (i + 1))) (sym is)

pub none_left : (entries : List EntryTree) (i : ℕ) → length entries ≤ i → left entries i ≡ no_entries
none_left entries i le = at_drop_all (λ xs. entries_of (map entry_view xs)) entries i le

-- ---- elements

abbrev pub with_front : List AbstractValue → Read (List AbstractValue) → Read (List AbstractValue)
with_front front others = others >>= λ more. Ok (front ++ more)

regroup : (front : List AbstractValue) (v : AbstractValue) (others : Read (List AbstractValue)) → with_front front (others >>= λ more. Ok (v ∷ more)) ≡ with_front (front ++ v ∷ []) others
regroup front v (Ok more) = ap (λ (vs : List AbstractValue). Ok vs) (sym (append_assoc front (v ∷ []) more))
regroup front v (Err f) = refl

module _ (m : Meaning) (sorted : Bool) (short : Bool) (t : AbstractType) (entries : List EntryTree) where
  -- what is read of those from a place on, with room for so many octets
  abbrev pub elements_from : ℕ → ℕ → Read (List AbstractValue)
  elements_from room i = build_elements m sorted short t room (left entries i)

  abbrev pub one : EntryTree → Read AbstractValue
  one e = element_at short t (entry_view e).site (entry_view e).name (site_of (entry_view e).value) (build m sorted t (entry_view e).value)

  abbrev pub room_left : ℕ → EntryTree → AbstractValue → Read ℕ
  room_left room e v = room_after sorted (site_of (entry_view e).value) t v room

  -- after one that is read
  abbrev pub after : ℕ → ℕ → EntryTree → AbstractValue → Read (List AbstractValue)
  after room i e v = room_left room e v >>= λ rest. elements_from rest (i + 1) >>= λ more. Ok (kept sorted v ∷ more)

  pub after_is : (room i : ℕ) (e : EntryTree) → i < length entries → e ≡ get_or entries i e → elements_from room i ≡ (one e >>= λ v. after room i e v)
  unfolding build
  after_is room i e lt is = ap (build_elements m sorted short t room) (left_is entries i e lt is)

  pub elements_on : (room i : ℕ) (e : EntryTree) (front : List AbstractValue) (v : AbstractValue) (rest : ℕ) (total : Read (List AbstractValue)) → i < length entries → e ≡ get_or entries i e → one e ≡ Ok v → room_left room e v ≡ Ok rest
      → with_front front (elements_from room i) ≡ total → with_front (front ++ kept sorted v ∷ []) (elements_from rest (i + 1)) ≡ total
  elements_on room i e front v rest total lt is got fits so_far =
      let step : elements_from room i ≡ (elements_from rest (i + 1) >>= λ more. Ok (kept sorted v ∷ more)) =
      after_is room i e lt is ∙ ap (λ (r : Read AbstractValue). r >>= λ w. after room i e w) got ∙ ap (λ (r : Read ℕ). r >>= λ n. elements_from n (i + 1) >>= λ more. Ok (kept sorted v ∷ more)) fits in
      sym (regroup front (kept sorted v) (elements_from rest (i + 1))) ∙ sym (ap (with_front front) step) ∙ so_far

  pub elements_refused : (f : Option ValueFault) (room i : ℕ) (e : EntryTree) (front : List AbstractValue) (total : Read (List AbstractValue)) → i < length entries → e ≡ get_or entries i e → Refuses f (one e)
      → with_front front (elements_from room i) ≡ total → Refuses f total
  elements_refused None room i e front total lt is refused so_far = tt
  elements_refused (Some f) room i e front total lt is refused so_far =
      sym so_far ∙ ap (with_front front) (after_is room i e lt is ∙ ap (λ (r : Read AbstractValue). r >>= λ w. after room i e w) refused)

  -- those so far are too long
  pub elements_long : (f : Option ValueFault) (room i : ℕ) (e : EntryTree) (front : List AbstractValue) (v : AbstractValue) (total : Read (List AbstractValue)) → i < length entries → e ≡ get_or entries i e → one e ≡ Ok v → Refuses f (room_left room e v)
      → with_front front (elements_from room i) ≡ total → Refuses f total
  elements_long None room i e front v total lt is got refused so_far = tt
  elements_long (Some f) room i e front v total lt is got refused so_far =
      sym so_far ∙ ap (with_front front) (after_is room i e lt is ∙ ap (λ (r : Read AbstractValue). r >>= λ w. after room i e w) got
      ∙ ap (λ (r : Read ℕ). r >>= λ n. elements_from n (i + 1) >>= λ more. Ok (kept sorted v ∷ more)) refused)

  pub elements_done : (room i : ℕ) (front : List AbstractValue) (total : Read (List AbstractValue)) → length entries ≤ i → with_front front (elements_from room i) ≡ total → total ≡ Ok front
  unfolding build
  elements_done room i front total le so_far =
      sym so_far ∙ ap (λ (es : WrittenEntries). with_front front (build_elements m sorted short t room es)) (none_left entries i le) ∙ ap (λ (vs : List AbstractValue). Ok vs) (append-nil front)

-- ---- entries for components

module _ (m : Meaning) (sorted : Bool) (ordered : Bool) (cs : Components) (entries : List EntryTree) where
  abbrev pub from : ℕ → Fields → ℕ → Read Fields
  from next fs i = build_entries m sorted ordered cs next fs (left entries i)

  abbrev pub at : ℕ → Fields → EntryTree → Read (ℕ × AbstractValue)
  at next fs e = entry_at ordered cs next fs (entry_view e).site (entry_view e).name (λ u. build m sorted u (entry_view e).value)

  pub from_is : (next : ℕ) (fs : Fields) (i : ℕ) (e : EntryTree) → i < length entries → e ≡ get_or entries i e → from next fs i ≡ (at next fs e >>= λ x. from (suc x.0) (fill x.0 x.1 fs) (i + 1))
  unfolding build
  from_is next fs i e lt is = ap (build_entries m sorted ordered cs next fs) (left_is entries i e lt is)

  pub entries_on : (next : ℕ) (fs : Fields) (i : ℕ) (e : EntryTree) (x : ℕ × AbstractValue) (total : Read Fields) → i < length entries → e ≡ get_or entries i e → at next fs e ≡ Ok x
      → from next fs i ≡ total → from (suc x.0) (fill x.0 x.1 fs) (i + 1) ≡ total
  entries_on next fs i e x total lt is got so_far =
      sym (ap (λ (r : Read (ℕ × AbstractValue)). r >>= λ y. from (suc y.0) (fill y.0 y.1 fs) (i + 1)) got) ∙ sym (from_is next fs i e lt is) ∙ so_far

  pub entries_refused : (f : Option ValueFault) (next : ℕ) (fs : Fields) (i : ℕ) (e : EntryTree) (total : Read Fields) → i < length entries → e ≡ get_or entries i e → Refuses f (at next fs e)
      → from next fs i ≡ total → Refuses f total
  entries_refused None next fs i e total lt is refused so_far = tt
  entries_refused (Some f) next fs i e total lt is refused so_far =
      sym so_far ∙ from_is next fs i e lt is ∙ ap (λ (r : Read (ℕ × AbstractValue)). r >>= λ y. from (suc y.0) (fill y.0 y.1 fs) (i + 1)) refused

  pub entries_done : (next : ℕ) (fs : Fields) (i : ℕ) (total : Read Fields) → length entries ≤ i → from next fs i ≡ total → total ≡ Ok fs
  unfolding build
  entries_done next fs i total le so_far = sym so_far ∙ ap (build_entries m sorted ordered cs next fs) (none_left entries i le)

  pub entries_put : (next : ℕ) (fields after : List Slot) (i : ℕ) (e : EntryTree) (place : ℕ) (slot : Slot) (v : Value) (total : Read Fields) → i < length entries → e ≡ get_or entries i e
      → at next (fields_view fields) e ≡ Ok (place, guard.value_view v) → place < length fields → arc_value slot ≡ Some v → after ≡ set fields place slot → from next (fields_view fields) i ≡ total → from (place + 1) (fields_view after) (i + 1) ≡ total
  entries_put next fields after i e place slot v total lt is got within holds put so_far =
      ap (λ (n : ℕ). from n (fields_view after) (i + 1)) (add-one place)
      ∙ ap (λ (fs : Fields). from (suc place) fs (i + 1)) (ap fields_view put ∙ field_filled fields place slot v holds within)
      ∙ entries_on next (fields_view fields) i e (place, guard.value_view v) total lt is got so_far
