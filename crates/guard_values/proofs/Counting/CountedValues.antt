-- Values whose octets are counted, by their forms.
use Rattle.std.proofs.Common.{◌≡◌, ℕ, zero, suc, ◌<◌, ◌≤◌, Bool, true, false, cond, List, [], ◌∷◌, length, get_or, map, Option, Some, None, Result, Ok, Err, refl, sym, ap, subst, ◌∙◌, IfOk, IfSome, arith}
use Rattle.std.specs.Prelude.{is_some, set, nat_le}
use Rattle.std.specs.Arc.{arc_value}
use Rattle.std.specs.Global.{Vec}
use Rattle.std.proofs.lemmas.Bool.{leb-true}
use Rattle.guard_model.proofs.Components.{in_view}
use Rattle.guard_model.proofs.Results.{made_ok}
use Rattle.guard_model.proofs.TypeViews.{opened, component_view_is, type_view_is}
use Rattle.guard_model.specs.declared.site.Site.{Site}
use Rattle.guard_model.specs.declared.ty.Comp.{Comp}
use Rattle.guard_model.specs.declared.ty.Kind.TheViews.{out-Comp, out-Ty}
use Rattle.guard_model.specs.declared.ty.Ty.{Ty}
use Rattle.guard_model.specs.declared.value.Value.{Value}
use Rattle.guard_model.specs.AbstractType as type
use Rattle.guard_model.specs.AbstractType.{AbstractType, AbstractKind, Components, no_components, component}
use Rattle.guard_model.specs.AbstractValue as value
use Rattle.guard_model.specs.AbstractValue.{AbstractValue, Fields, items_of}
use Rattle.guard_model.specs.Components.{component_at}
use Rattle.guard_model.specs.Kinds.{kind_of}
use Rattle.guard_model.specs.TypeView.{OneComponent, type_view, kind_view, presence_view}
use Rattle.guard_model.specs.ValueView.{value_view, fields_view}
use Rattle.guard_tagcheck.specs.Distinct.{component_type}
use Rattle.guard_der.specs.Der.{der, contents_octets, parts_of, is_left_out}
use Rattle.guard_der.specs.Encoding.{longest_encoding, short, short_length, length_in}
use Rattle.guard_der.specs.ProperConstraints.{is_short}
use Rattle.guard_der.specs.Reading.{is_filled, fill}
use Rattle.guard_der.proofs.Functions.Lengths.{set_short, whole_length}
use Rattle.guard_der.proofs.Functions.Encoding.{Slot}
use Rattle.guard_der.proofs.Functions.SetFields.{field_filled}
use Rattle.guard_der.proofs.Functions.Soundness.{told_where_short}
use Rattle.guard_values.specs.declared.fault.ValueFault.{ValueFault}
use Rattle.guard_values.specs.declared.fault.ValueFault.TheVariants.{UnknownName, TooLarge}
use Rattle.guard_values.specs.declared.lengths.Counted.{Counted}
use Rattle.guard_values.specs.Arrangement.{arranged}
use Rattle.guard_values.specs.Places.{Located, located}
use Rattle.guard_values.specs.inside.Lengths.{HasContents, with_part}
use Rattle.guard_values.specs.inside.Reading.{alternative, few, limited, listed, listed_set, place_at, room_without}
use Rattle.guard_values.proofs.Denoted.ReadIsDenoted.{answered_ok, few_ok, placed_ok}
use Rattle.guard_values.proofs.Denoted.SettledFields.{located_type}
use Rattle.guard_values.proofs.OneAnswer.LengthsInside.{alternative_is, same_Some}
use Rattle.guard_values.proofs.Counting.CountedLists.{items_joined, arranged_short}
use Rattle.guard_values.proofs.Counting.SentParts.{one_counted, has_view}

-- ---- by the kind

pub counted_as : (k l : AbstractKind) (r : Result Counted ValueFault) → ((v : AbstractValue) → short_length (contents_octets k v) ≡ short_length (contents_octets l v)) → IfOk r (HasContents k) → IfOk r (HasContents l)
counted_as k l (Ok c) same h = h ∙ same (value_view c.value)
counted_as k l (Err e) same h = tt

-- a SET has as many octets as a SEQUENCE, and a SET OF as a SEQUENCE OF
pub set_as : (cs : Components) (v : AbstractValue) → short_length (contents_octets (type.sequence cs) v) ≡ short_length (contents_octets (type.set cs) v)
set_as cs (value.fields fs) = sym (set_short (parts_of cs fs))
set_as cs _ = refl

pub set_of_as : (t : AbstractType) (v : AbstractValue) → short_length (contents_octets (type.sequence_of t) v) ≡ short_length (contents_octets (type.set_of t) v)
set_of_as t (value.items vs) = refl
set_of_as t _ = refl

-- the contents of a chosen value are the alternative's encoding
pub chosen_contents : (site : Site) (kind : AbstractKind) (name : List ℕ) (l : Located) (v : AbstractValue) → alternative site kind name ≡ Ok l → contents_octets kind (value.chosen l.place v) ≡ der l.ty v
chosen_contents site (type.choice cs) name l v e = alternative_is cs l.place l.ty v (located_type cs name l (answered_ok (UnknownName site) (located name cs) l e))
chosen_contents site _ name l v e = absurd cc

-- ---- lists

pub listed_is : (site : Site) (vs : List AbstractValue) (v : AbstractValue) → listed site vs ≡ Ok v → v ≡ value.items (items_of vs)
listed_is site vs v e =
    let m = made_ok (few site vs) (λ ws. value.items (items_of ws)) v e in
    sym (ap (λ (ws : List AbstractValue). value.items (items_of ws)) (few_ok site vs m.0 m.1).1 ∙ m.2)

pub listed_counted : (t : AbstractType) (site : Site) (vs : List AbstractValue) (v : AbstractValue) (n : Option ℕ) → listed site vs ≡ Ok v → short_length (items_joined t vs) ≡ n → n ≡ short_length (contents_octets (type.sequence_of t) v)
listed_counted t site vs v n made counted = sym counted ∙ ap (λ (w : AbstractValue). short_length (contents_octets (type.sequence_of t) w)) (sym (listed_is site vs v made))

pub arranged_counted : (t : AbstractType) (site : Site) (vs : List AbstractValue) (v : AbstractValue) (n : Option ℕ) → listed_set site t vs ≡ Ok v → short_length (items_joined t vs) ≡ n → n ≡ short_length (contents_octets (type.set_of t) v)
arranged_counted t site vs v n made counted =
    let m = made_ok (few site vs) (λ ws. value.items (items_of (arranged t ws))) v made in
    let is : value.items (items_of (arranged t vs)) ≡ v = ap (λ (ws : List AbstractValue). value.items (items_of (arranged t ws))) (few_ok site vs m.0 m.1).1 ∙ m.2 in
    sym counted ∙ sym (arranged_short t vs) ∙ ap (λ (w : AbstractValue). short_length (contents_octets (type.set_of t) w)) is

-- ---- components, as the code puts them in

component_there : (comps : List Comp) (i : ℕ) (comp : Comp) → i < length comps → comp ≡ get_or comps i comp → component_at i (in_view comps) ≡ Some (opened comp)
component_there [] i comp lt is = absurd (omega (arith, lt))
component_there (c ∷ comps) zero comp lt is = ap (λ (x : OneComponent). Some x) (component_view_is c ∙ ap opened (sym is))
component_there (c ∷ comps) (suc i) comp lt is = component_there comps i comp (omega (arith, lt)) is

one_type : (cs : Components) (i : ℕ) (c : OneComponent) (t : AbstractType) → component_at i cs ≡ Some c → component_type i cs ≡ Some t → c.ty ≡ t
one_type no_components i c t e f = absurd cc
one_type (component name u presence rest) zero c t e f =
    let first : OneComponent = record { name = name; ty = u; presence = presence } in
    sym (ap (λ (x : OneComponent). x.ty) (same_Some first c e)) ∙ same_Some u t f
one_type (component name u presence rest) (suc i) c t e f = one_type rest i c t e f

pub part_put : (comps : List Comp) (fields after : List Slot) (i : ℕ) (comp : Comp) (t : AbstractType) (slot : Slot) (v : Value) (so_far more next : Option ℕ) → length fields ≡ length comps → i < length comps → comp ≡ get_or comps i comp
    → is_filled i (fields_view fields) ≡ false → component_type i (in_view comps) ≡ Some t → more ≡ short_length (der t (value_view v)) → arc_value slot ≡ Some v → after ≡ set fields i slot → next ≡ with_part (is_left_out (presence_view (out-Comp (get_or comps i comp)).presence) (value_view v)) so_far more
    → so_far ≡ short_length (contents_octets (type.sequence (in_view comps)) (value.fields (fields_view fields))) → next ≡ short_length (contents_octets (type.sequence (in_view comps)) (value.fields (fields_view after)))
part_put comps fields after i comp t slot v so_far more next count lt is free typed length holds put step before =
    let c = opened comp in
    let there = component_there comps i comp lt is in
    let left_out = is_left_out c.presence (value_view v) in
    let filled : fields_view after ≡ fill i (value_view v) (fields_view fields) = ap fields_view put ∙ field_filled fields i slot v holds (omega (arith, lt, count)) in
    step ∙ ap (λ (x : Comp). with_part (is_left_out (presence_view (out-Comp x).presence) (value_view v)) so_far more) (sym is) ∙ ap (λ (n : Option ℕ). with_part left_out n more) before
    ∙ ap (with_part left_out (short_length (contents_octets (type.sequence (in_view comps)) (value.fields (fields_view fields))))) (length ∙ ap (λ (u : AbstractType). short_length (der u (value_view v))) (sym (one_type (in_view comps) i c t there typed)))
    ∙ sym (one_counted (in_view comps) i c (value_view v) (fields_view fields) (has_view comps fields count) there free)
    ∙ ap (λ (fs : Fields). short_length (contents_octets (type.sequence (in_view comps)) (value.fields fs))) (sym filled)

pub place_type : (ordered : Bool) (cs : Components) (next : ℕ) (fs : Fields) (site : Site) (name : Option (List ℕ)) (l : Located) → place_at ordered cs next fs site name ≡ Ok l → component_type l.place cs ≡ Some l.ty
place_type ordered cs next fs site None l e = absurd cc
place_type ordered cs next fs site (Some name) l e = located_type cs name l (placed_ok ordered next fs site (located name cs) l e).0

-- ---- the whole

pub short_bound : (o : Option (List ℕ)) → IfSome (short_length o) (λ n. n ≤ longest_encoding)
short_bound None = tt
short_bound (Some os) = here (nat_le (length os) longest_encoding) refl where
  here : (b : Bool) → nat_le (length os) longest_encoding ≡ b → IfSome (cond b (Some (length os)) None) (λ n. n ≤ longest_encoding)
  here true e = leb-true (length os) longest_encoding e
  here false e = tt

pub in_tags_counted : (ty : Ty) (v : AbstractValue) (n k : Option ℕ) → n ≡ short_length (contents_octets (kind_of (type_view ty)) v) → (IfSome n (λ m. m ≤ longest_encoding) → k ≡ length_in (out-Ty ty).tags.items n) → k ≡ short_length (der (type_view ty) v)
in_tags_counted ty v n k contents whole =
    let kind : n ≡ short_length (contents_octets (kind_view (out-Ty ty).kind) v) = contents ∙ ap (λ (t : AbstractType). short_length (contents_octets (kind_of t) v)) (type_view_is ty) in
    whole (subst (λ m. IfSome m (λ i. i ≤ longest_encoding)) (sym contents) (short_bound (contents_octets (kind_of (type_view ty)) v))) ∙ ap (length_in (out-Ty ty).tags.items) kind ∙ sym (whole_length ty v)

module _ (site : Site) (t : AbstractType) (v : AbstractValue) (n : Option ℕ) (counted : n ≡ short_length (der t v)) where
  told : is_short (der t v) ≡ is_some n
  told = sym (told_where_short (der t v)) ∙ ap is_some (sym counted)

  pub limited_short : is_some n ≡ true → limited site t v ≡ Ok v
  limited_short e = ap (λ (b : Bool). cond b (Ok v) (Err (TooLarge site))) (told ∙ e)

  pub limited_long : is_some n ≡ false → limited site t v ≡ Err (TooLarge site)
  limited_long e = ap (λ (b : Bool). cond b (Ok v) (Err (TooLarge site))) (told ∙ e)
