-- One level of the abstract value of a value.
use Rattle.std.proofs.Common.{◌≡◌, List, [], ◌∷◌, Option, Some, None, ℕ, Global, refl, ap, sym, ◌∙◌, map}
use Rattle.std.specs.Arc.{arc_str_bytes, arc_slice_items, arc_value}
use Rattle.std.specs.declared.sync.Arc.{Arc}
use Rattle.std.specs.declared.sync.ArcSlice.{ArcSlice}
use Rattle.std.specs.declared.sync.ArcStr.{ArcStr}
use Rattle.std.specs.Str.{chars}
use Rattle.guard_model.specs.AbstractValue.{AbstractValue, object_identifier, fields, items, chosen, characters, present, absent, fields_of}
use Rattle.guard_model.specs.ValueView.{value_view, field_view, slot_view, value_step, fields_view, items_view}
use Rattle.guard_model.specs.declared.value.Value.{Value}
use Rattle.guard_model.specs.declared.value.Value.TheFolds.{fold-roll-Value}
use Rattle.guard_model.specs.declared.value.Value.TheVariants as variant
use Rattle.guard_model.specs.declared.value.Value.TheVariants.{rolls-Oid, rolls-Fields, rolls-Items, rolls-Chosen, rolls-Chars}
use Rattle.guard_model.specs.declared.value.Value.TheOpen.{Value-F}

slots_folded : (inside : Arc (Option Value) Global → Arc (Option AbstractValue) Global) → ((s : Arc (Option Value) Global) → arc_value s ≡ None → arc_value (inside s) ≡ None) → ((s : Arc (Option Value) Global) (v : Value) → arc_value s ≡ Some v → arc_value (inside s) ≡ Some (value_view v))
    → (slots : List (Arc (Option Value) Global)) → map arc_value (map inside slots) ≡ map slot_view slots
slots_folded inside none some [] = refl
slots_folded inside none some (s ∷ slots) = rw (slots_folded inside none some slots) (ap (λ x. x ∷ map slot_view slots) (by (arc_value s) refl))
  where
    by : (o : Option Value) → arc_value s ≡ o → arc_value (inside s) ≡ field_view (arc_value s)
    by None is = none s is ∙ sym (ap field_view is)
    by (Some v) is = some s v is ∙ sym (ap field_view is)

pub value_view_fields : (vs : ArcSlice (Arc (Option Value) Global) Global) → value_view (variant.Fields vs) ≡ fields (fields_view (arc_slice_items vs))
value_view_fields vs = ap value_view (sym (rolls-Fields vs)) ∙ fold-roll-Value AbstractValue value_step (Value-F.Fields vs) ∙ ap (λ fs. fields (fields_of fs)) (slots_folded _ (λ s is. rw is refl) (λ s v is. rw is refl) (arc_slice_items vs))

pub value_view_characters : (text : ArcStr Global) → value_view (variant.Chars text) ≡ characters (chars (arc_str_bytes text))
value_view_characters text = ap value_view (sym (rolls-Chars text)) ∙ fold-roll-Value AbstractValue value_step (Value-F.Chars text)

pub value_view_object_identifier : (arcs : ArcSlice ℕ Global) → value_view (variant.Oid arcs) ≡ object_identifier (arc_slice_items arcs)
value_view_object_identifier arcs = ap value_view (sym (rolls-Oid arcs)) ∙ fold-roll-Value AbstractValue value_step (Value-F.Oid arcs)

pub value_view_items : (vs : ArcSlice Value Global) → value_view (variant.Items vs) ≡ items (items_view (arc_slice_items vs))
value_view_items vs = ap value_view (sym (rolls-Items vs)) ∙ fold-roll-Value AbstractValue value_step (Value-F.Items vs)

pub value_view_chosen : (at : ℕ) (v : Arc Value Global) → value_view (variant.Chosen at v) ≡ chosen at (value_view (arc_value v))
value_view_chosen at v = ap value_view (sym (rolls-Chosen at v)) ∙ fold-roll-Value AbstractValue value_step (Value-F.Chosen at v)
