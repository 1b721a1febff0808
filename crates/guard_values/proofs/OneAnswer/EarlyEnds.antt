-- What the code reads is what is read; or it ends early where SET OFs are sorted, and then the encoding of the whole is
-- too long, or of something inside.
use Rattle.std.proofs.Common.{◌≡◌, ℕ, suc, ◌-◌, ◌<◌, ◌≤◌, Bool, true, false, cond, List, [], ◌∷◌, length, Option, Some, None, Ok, Err, inl, inr, ◌⊎◌, option_map, refl, sym, ap, ◌∙◌, subst, arith}
use Rattle.std.specs.Prelude.{nat_le, option_and_then, Result, IfOk, IsTrue}
use Rattle.std.proofs.lemmas.Grind.{common_steps}
use Rattle.guard_model.specs.Answer.{◌>>=◌, Gives}
use Rattle.guard_model.proofs.Results.{same_Ok, made_ok}
use Rattle.guard_model.specs.declared.site.Site.{Site}
use Rattle.guard_model.specs.AbstractType as type
use Rattle.guard_model.specs.AbstractType.{AbstractType, AbstractKind, Components}
use Rattle.guard_model.specs.AbstractValue as value
use Rattle.guard_model.specs.AbstractValue.{AbstractValue, Fields, items_of}
use Rattle.guard_model.specs.declared.value.Value.{Value}
use Rattle.guard_model.specs.ValueView.{value_view}
use Rattle.guard_model.specs.Kinds.{kind_of}
use Rattle.guard_model.specs.Slots.{all_absent}
use Rattle.guard_der.specs.Der.{der, contents_octets}
use Rattle.guard_der.specs.Encoding.{short_length}
use Rattle.guard_der.specs.Fits.{fits}
use Rattle.guard_der.specs.ProperConstraints.{is_short}
use Rattle.guard_der.specs.Reading.{fill}
use Rattle.guard_der.specs.Sound.{is_proper}
use Rattle.guard_syntax.specs.Trees as written
use Rattle.guard_syntax.specs.Trees.{WrittenValue, WrittenValueForm, WrittenEntry, WrittenEntries, value_node, no_entries, entry}
use Rattle.guard_names.specs.declared.names.Names.{Names}
use Rattle.guard_names.specs.Meanings.{number_meant_in}
use Rattle.guard_names.specs.NamesView.{modules_of, order_of}
use Rattle.guard_names.specs.Places.{place_in}
use Rattle.guard_values.specs.declared.fault.ValueFault.{ValueFault}
use Rattle.guard_values.specs.declared.fault.ValueFault.TheVariants.{UnknownName, TooLarge}
use Rattle.guard_values.specs.declared.scope.Known.{Known}
use Rattle.guard_values.specs.declared.scope.KnownValue.{KnownValue}
use Rattle.guard_values.specs.Meanings.{Meaning, AreFitting}
use Rattle.guard_values.specs.Places.{Located, located}
use Rattle.guard_values.specs.Arrangement.{arranged}
use Rattle.guard_values.specs.Faults.{faults_of}
use Rattle.guard_values.specs.Conditions.{entry_type, chosen_type, InEntry, HasLongEncoding}
use Rattle.guard_values.specs.inside.Reading.{Read, read_reference, alternative, placed, entry_at, completed, limited, few, read_fields, read_set_of, read_braces, perhaps_limited, site_of, element_at, kept, read, read_form, read_entries, read_elements, room_without, room_after, build, build_form, build_entries, build_elements, read_first_fault, sorted_or, read_whole, build_first_fault, build_sorted, build_whole}
use Rattle.guard_values.specs.Views.{named, known_value_view, known_definition}
use Rattle.guard_values.proofs.Denoted.ReadIsDenoted.{read_said, answered_ok, placed_ok, few_ok, limited_ok}
use Rattle.guard_values.proofs.FirstFaults.WholeValues.{not_there}
use Rattle.guard_values.proofs.FirstFaults.ReadingRefuses.{read_tells, Tells, IsLong, here_somewhere}
use Rattle.guard_values.proofs.OneAnswer.CodeAnswers.{read_fits, element_read, read_there}
use Rattle.guard_values.proofs.OneAnswer.LengthsInside.{Within, same_Some, contents_within}
use Rattle.guard_values.proofs.Counting.CountedLists.{items_joined}
use Rattle.guard_values.proofs.OneAnswer.LongLists.{IsOver, over_first, over_later, over_none, over_arranged, over_not_within, not_short}
use Rattle.guard_values.proofs.OneAnswer.FaultOrValue.{Long, none_long, says_faultless}

-- ---- two answers, of which the second may end early

-- They are one; or the second refuses where something is too long, and then by any fault.
abbrev pub Agrees : {A : Type 0} → Bool → (A → Type 0) → Read A → Read A → Type 0
Agrees sorted TooLong (Ok v) (Ok w) = v ≡ w
Agrees sorted TooLong (Ok v) (Err f) = (sorted ≡ true) × TooLong v
Agrees sorted TooLong (Err f) (Ok w) = ⊥
Agrees sorted TooLong (Err f) (Err g) = sorted ≡ false → f ≡ g

module _ {A : Type 0} (sorted : Bool) (TooLong : A → Type 0) where
  agrees_self : (r : Read A) → Agrees sorted TooLong r r
  agrees_self (Ok v) = refl
  agrees_self (Err f) = λ _. refl

  agrees_cut : (r : Read A) (f : ValueFault) → sorted ≡ true → ((v : A) → r ≡ Ok v → TooLong v) → Agrees sorted TooLong r (Err f)
  agrees_cut (Ok v) f is long = (is, long v refl)
  agrees_cut (Err g) f is long = λ no. absurd cc

  agrees_in : (Longer : A → Type 0) (r e : Read A) → ((v : A) → TooLong v → Longer v) → Agrees sorted TooLong r e → Agrees sorted Longer r e
  agrees_in Longer (Ok v) (Ok w) wider h = h
  agrees_in Longer (Ok v) (Err f) wider h = (h.0, wider v h.1)
  agrees_in Longer (Err f) (Ok w) wider h = h
  agrees_in Longer (Err f) (Err g) wider h = h

-- one step after another
module _ {A B : Type 0} (sorted : Bool) (TooLong : A → Type 0) (Longer : B → Type 0) where
  agrees_then : (r e : Read A) (next step : A → Read B) → ((v : A) (w : B) → r ≡ Ok v → next v ≡ Ok w → sorted ≡ true → TooLong v → Longer w) → Agrees sorted TooLong r e
      → ((v : A) → r ≡ Ok v → Agrees sorted Longer (next v) (step v)) → Agrees sorted Longer (r >>= next) (e >>= step)
  agrees_then (Ok v) (Ok w) next step wider h more = subst (λ x. Agrees sorted Longer (next v) (step x)) h (more v refl)
  agrees_then (Ok v) (Err f) next step wider h more = agrees_cut sorted Longer (next v) f h.0 (λ w is. wider v w refl is h.0 h.1)
  agrees_then (Err f) (Ok w) next step wider h more = absurd h
  agrees_then (Err f) (Err g) next step wider h more = h

-- ---- elements, one after another

more_than : (n room : ℕ) → nat_le n room ≡ false → room < n
more_than n room e = grind (arith, common_steps)

at_most : (n room : ℕ) → nat_le n room ≡ true → n ≤ room
at_most n room e = grind (arith, common_steps)

module _ (place : Site) (u : AbstractType) (v : AbstractValue) (In : Type 0) where
  abbrev pub Over : ℕ → List AbstractValue → Type 0
  Over room vs = In ⊎ IsOver room u vs

  -- too long, with one more before those that are
  one_over : (room : ℕ) (r : Read (List AbstractValue)) (ws : List AbstractValue) → ((vs : List AbstractValue) → r ≡ Ok vs → IsOver room u (v ∷ vs)) → (r >>= λ more. Ok (v ∷ more)) ≡ Ok ws → In ⊎ IsOver room u ws
  one_over room r ws over e = let m = made_ok r (λ more. v ∷ more) ws e in inr (subst (IsOver room u) m.2 (over m.0 m.1))

  module _ (room : ℕ) (r : Read (List AbstractValue)) (e : ℕ → Read (List AbstractValue)) (most : room ≤ 1048576)
      (inside : (left : ℕ) → left ≤ 1048576 → Agrees true (Over left) r (e left)) where
    cut : (f : ValueFault) → ((vs : List AbstractValue) → r ≡ Ok vs → IsOver room u (v ∷ vs)) → Agrees true (Over room) (r >>= λ more. Ok (v ∷ more)) (Err f)
    cut f over = agrees_cut true (Over room) (r >>= λ more. Ok (v ∷ more)) f refl (λ ws is. one_over room r ws over is)

    left_over : (os : List ℕ) → der u v ≡ Some os → (b : Bool) → nat_le (length os) room ≡ b
        → Agrees true (Over room) (r >>= λ more. Ok (v ∷ more)) (cond b (Ok (room - length os)) (Err (TooLarge place)) >>= λ left. e left >>= λ more. Ok (v ∷ more))
    left_over os is true within =
        let fit : length os ≤ room = at_most (length os) room within in
        agrees_then true (Over (room - length os)) (Over room) r (e (room - length os)) (λ more. Ok (v ∷ more)) (λ more. Ok (v ∷ more))
        (λ vs ws got made so long. elim long [
          | inl h ↦ inl h
          | inr h ↦ inr (subst (IsOver room u) (same_Ok {F = ValueFault} (v ∷ vs) ws made) (over_later room u v vs os is fit h))
        ]) (inside (room - length os) (omega (arith, most))) (λ vs got. refl)
    left_over os is false past = cut (TooLarge place) (λ vs got. over_first room u v vs os is (more_than (length os) room past))

    with_octets : (os : List ℕ) → der u v ≡ Some os → (b : Bool) → nat_le (length os) 1048576 ≡ b
        → Agrees true (Over room) (r >>= λ more. Ok (v ∷ more)) (room_without place room (cond b (Some (length os)) None) >>= λ left. e left >>= λ more. Ok (v ∷ more))
    with_octets os is true within = left_over os is (nat_le (length os) room) refl
    with_octets os is false past = cut (TooLarge place) (λ vs got. over_first room u v vs os is (let more = more_than (length os) 1048576 past in omega (arith, more, most)))

    with_encoding : (o : Option (List ℕ)) → der u v ≡ o → Agrees true (Over room) (r >>= λ more. Ok (v ∷ more)) (room_without place room (short_length o) >>= λ left. e left >>= λ more. Ok (v ∷ more))
    with_encoding None is = cut (TooLarge place) (λ vs got. over_none room u v vs is)
    with_encoding (Some os) is = with_octets os is (nat_le (length os) 1048576) refl

  room_agrees : (sorted : Bool) (room : ℕ) (r : Read (List AbstractValue)) (e : ℕ → Read (List AbstractValue)) → room ≤ 1048576
      → ((left : ℕ) → left ≤ 1048576 → Agrees sorted (Over left) r (e left))
      → Agrees sorted (Over room) (r >>= λ more. Ok (kept sorted v ∷ more)) (room_after sorted place u v room >>= λ left. e left >>= λ more. Ok (kept sorted v ∷ more))
  room_agrees true room r e most inside = with_encoding room r e most inside (der u v) refl
  room_agrees false room r e most inside = agrees_then false (Over room) (Over room) r (e room) (λ more. Ok (kept false v ∷ more)) (λ more. Ok (kept false v ∷ more)) (λ vs ws got made so long. absurd cc) (inside room most) (λ vs got. refl)

-- ---- forms with values inside

alternative_type : (site : Site) (kind : AbstractKind) (name : List ℕ) (l : Located) → alternative site kind name ≡ Ok l → chosen_type kind name ≡ Some l.ty
alternative_type site (type.choice cs) name l e = ap (option_map (λ k. k.ty)) (answered_ok (UnknownName site) (located name cs) l e)
alternative_type site _ name l e = absurd cc

module _ (sorted : Bool) (site : Site) (es : WrittenEntries) (In : AbstractKind → Type 0) (Longer : Type 0)
    (entries built_entries : Bool → Components → Read Fields) (elements built_elements : Bool → AbstractType → Read (List AbstractValue))
    (entries_agree : (kind : AbstractKind) (ordered : Bool) (cs : Components) → ((name : List ℕ) → entry_type kind (Some name) ≡ option_map (λ l. l.ty) (located name cs)) → Agrees sorted (λ (fs : Fields). In kind) (entries ordered cs) (built_entries ordered cs))
    (elements_agree : (kind : AbstractKind) (short : Bool) (u : AbstractType) → entry_type kind None ≡ Some u → Agrees sorted (λ (vs : List AbstractValue). In kind ⊎ IsOver 1048576 u vs) (elements short u) (built_elements short u)) where
  fields_agree : (kind : AbstractKind) (ordered : Bool) (cs : Components) → (In kind → Longer) → Agrees sorted (λ (fs : Fields). In kind) (entries ordered cs) (built_entries ordered cs)
      → Agrees sorted (λ (v : AbstractValue). Longer) (read_fields site cs (entries ordered cs)) (read_fields site cs (built_entries ordered cs))
  fields_agree kind ordered cs wider h =
      agrees_then sorted (λ (fs : Fields). In kind) (λ (v : AbstractValue). Longer) (entries ordered cs) (built_entries ordered cs) (λ given. completed site cs given >>= λ fs. Ok (value.fields fs)) (λ given. completed site cs given >>= λ fs. Ok (value.fields fs))
      (λ given v got made is inside. wider inside) h (λ given got. agrees_self sorted (λ (v : AbstractValue). Longer) (completed site cs given >>= λ fs. Ok (value.fields fs)))

  module _ (kind : AbstractKind) (u : AbstractType) (order : List AbstractValue → List AbstractValue) (over : (vs : List AbstractValue) → IsOver 1048576 u vs → IsOver 1048576 u (order vs))
      (octets : (vs : List AbstractValue) → contents_octets kind (value.items (items_of vs)) ≡ items_joined u vs) where
    abbrev pub in_order : List AbstractValue → Read AbstractValue
    in_order vs = few site vs >>= λ ws. Ok (value.items (items_of (order ws)))

    long_contents : (vs : List AbstractValue) (v : AbstractValue) → in_order vs ≡ Ok v → IsOver 1048576 u vs → Within 1048576 (contents_octets kind v) → ⊥
    long_contents vs v made long within =
        let m = made_ok (few site vs) (λ ws. value.items (items_of (order ws))) v made in
        let same = (few_ok site vs m.0 m.1).1 in
        let is : v ≡ value.items (items_of (order vs)) = sym (ap (λ (ws : List AbstractValue). value.items (items_of (order ws))) same ∙ m.2) in
        over_not_within u (order vs) (over vs long) (subst (Within 1048576) (ap (contents_octets kind) is ∙ octets (order vs)) within)

    list_agrees : (short : Bool) → entry_type kind None ≡ Some u → (In kind → Longer) → ((v : AbstractValue) → (elements short u >>= in_order) ≡ Ok v → sorted ≡ true → (Within 1048576 (contents_octets kind v) → ⊥) → Longer)
        → Agrees sorted (λ (v : AbstractValue). Longer) (elements short u >>= in_order) (built_elements short u >>= in_order)
    list_agrees short is wider whole =
        agrees_then sorted (λ (vs : List AbstractValue). In kind ⊎ IsOver 1048576 u vs) (λ (v : AbstractValue). Longer) (elements short u) (built_elements short u) in_order in_order
        (λ vs v got made so long. elim long [
          | inl h ↦ wider h
          | inr h ↦ whole v (ap (λ (r : Read (List AbstractValue)). r >>= in_order) got ∙ made) so (long_contents vs v made h)
        ]) (elements_agree kind short u is) (λ vs got. agrees_self sorted (λ (v : AbstractValue). Longer) (in_order vs))

  set_agrees : (u : AbstractType) → (In (type.set_of u) → Longer) → (b : Bool)
      → ((v : AbstractValue) → read_set_of b site u elements ≡ Ok v → sorted ≡ true → (Within 1048576 (contents_octets (type.set_of u) v) → ⊥) → Longer)
      → Agrees sorted (λ (v : AbstractValue). Longer) (read_set_of b site u elements) (read_set_of b site u built_elements)
  set_agrees u wider true whole = list_agrees (type.set_of u) u (arranged u) (over_arranged 1048576 u) (λ vs. refl) true refl wider whole
  set_agrees u wider false whole = list_agrees (type.set_of u) u (λ ws. ws) (λ vs over. over) (λ vs. refl) false refl wider whole

  braces_agree : (kind : AbstractKind) → (In kind → Longer) → ((v : AbstractValue) → read_braces sorted site kind es entries elements ≡ Ok v → sorted ≡ true → (Within 1048576 (contents_octets kind v) → ⊥) → Longer)
      → Agrees sorted (λ (v : AbstractValue). Longer) (read_braces sorted site kind es entries elements) (read_braces sorted site kind es built_entries built_elements)
  braces_agree (type.sequence cs) wider whole = fields_agree (type.sequence cs) true cs wider (entries_agree (type.sequence cs) true cs (λ name. refl))
  braces_agree (type.set cs) wider whole = fields_agree (type.set cs) false cs wider (entries_agree (type.set cs) false cs (λ name. refl))
  braces_agree (type.sequence_of u) wider whole = list_agrees (type.sequence_of u) u (λ ws. ws) (λ vs over. over) (λ vs. refl) false refl wider whole
  braces_agree (type.set_of u) wider whole = set_agrees u wider sorted whole
  braces_agree kind wider whole = agrees_self sorted (λ (v : AbstractValue). Longer) (read_braces sorted site kind es entries elements)

-- ---- all trees

long_there : (m : Meaning) (sorted : Bool) (t : AbstractType) (tree : WrittenValue) (v : AbstractValue) → read m sorted t tree ≡ Ok v → sorted ≡ true → (Within 1048576 (der t v) → ⊥) → Long m t tree
long_there m sorted t tree v is so none =
    let P : Bool → Type 0 = λ b. read m b t tree ≡ Ok v in
    here_somewhere (HasLongEncoding m) t tree (v, read_said m tree t v (subst P so is), not_short (der t v) none)

mutual
  unfolding read build

  pub build_agrees : (m : Meaning) (sorted : Bool) (tree : WrittenValue) (t : AbstractType) → Agrees sorted (λ (v : AbstractValue). Long m t tree) (read m sorted t tree) (build m sorted t tree)
  build_agrees m sorted (value_node site form) t = form_agrees m sorted form site t

  form_agrees : (m : Meaning) (sorted : Bool) (form : WrittenValueForm) (site : Site) (t : AbstractType) → Agrees sorted (λ (v : AbstractValue). Long m t (value_node site form)) (read_form m sorted t site form) (build_form m sorted t site form)
  form_agrees m sorted (written.boolean b) site t = agrees_self sorted (λ (v : AbstractValue). Long m t (value_node site (written.boolean b))) (read_form m sorted t site (written.boolean b))
  form_agrees m sorted written.null site t = agrees_self sorted (λ (v : AbstractValue). Long m t (value_node site written.null)) (read_form m sorted t site written.null)
  form_agrees m sorted (written.integer n) site t = agrees_self sorted (λ (v : AbstractValue). Long m t (value_node site (written.integer n))) (read_form m sorted t site (written.integer n))
  form_agrees m sorted (written.text k spelling) site t = agrees_self sorted (λ (v : AbstractValue). Long m t (value_node site (written.text k spelling))) (read_form m sorted t site (written.text k spelling))
  form_agrees m sorted (written.reference name) site t = agrees_self sorted (λ (v : AbstractValue). Long m t (value_node site (written.reference name))) (read_form m sorted t site (written.reference name))
  form_agrees m sorted (written.chosen name tree) site t =
      agrees_then sorted (λ (l : Located). ⊥) (λ (v : AbstractValue). Long m t (value_node site (written.chosen name tree))) (alternative site (kind_of t) name) (alternative site (kind_of t) name)
      (λ l. read m sorted l.ty tree >>= λ w. Ok (value.chosen l.place w)) (λ l. build m sorted l.ty tree >>= λ w. Ok (value.chosen l.place w))
      (λ l v is made so none. absurd none) (agrees_self sorted (λ (l : Located). ⊥) (alternative site (kind_of t) name))
      (λ l is. agrees_then sorted (λ (w : AbstractValue). Long m l.ty tree) (λ (v : AbstractValue). Long m t (value_node site (written.chosen name tree))) (read m sorted l.ty tree) (build m sorted l.ty tree) (λ w. Ok (value.chosen l.place w)) (λ w. Ok (value.chosen l.place w))
      (λ w v got made so long. inr (l.ty, alternative_type site (kind_of t) name l is, long)) (build_agrees m sorted tree l.ty) (λ w got. refl))
  form_agrees m sorted (written.list es) site t =
      braces_agree sorted site es (λ kind. InEntry (HasLongEncoding m) kind es) (Long m t (value_node site (written.list es)))
      (λ ordered cs. read_entries m sorted ordered cs 0 (all_absent cs) es) (λ ordered cs. build_entries m sorted ordered cs 0 (all_absent cs) es)
      (λ short u. read_elements m sorted short u es) (λ short u. build_elements m sorted short u 1048576 es)
      (λ kind ordered cs typed. entries_agree m sorted es kind ordered cs typed 0 (all_absent cs)) (λ kind short u is. elements_agree m sorted es kind short u 1048576 (omega arith) is)
      (kind_of t) (λ long. inr long) (λ v is so none. long_there m sorted t (value_node site (written.list es)) v is so (λ within. none (contents_within 1048576 t v within)))
  form_agrees m sorted (written.arcs arcs) site t = agrees_self sorted (λ (v : AbstractValue). Long m t (value_node site (written.arcs arcs))) (read_form m sorted t site (written.arcs arcs))

  entries_agree : (m : Meaning) (sorted : Bool) (es : WrittenEntries) (kind : AbstractKind) (ordered : Bool) (cs : Components) → ((name : List ℕ) → entry_type kind (Some name) ≡ option_map (λ l. l.ty) (located name cs)) → (next : ℕ) (fs : Fields)
      → Agrees sorted (λ (gs : Fields). InEntry (HasLongEncoding m) kind es) (read_entries m sorted ordered cs next fs es) (build_entries m sorted ordered cs next fs es)
  entries_agree m sorted no_entries kind ordered cs typed next fs = refl
  entries_agree m sorted (entry site None tree rest) kind ordered cs typed next fs = λ _. refl
  entries_agree m sorted (entry site (Some name) tree rest) kind ordered cs typed next fs =
      agrees_then sorted (λ (x : ℕ × AbstractValue). InEntry (HasLongEncoding m) kind (entry site (Some name) tree rest)) (λ (gs : Fields). InEntry (HasLongEncoding m) kind (entry site (Some name) tree rest))
      (entry_at ordered cs next fs site (Some name) (λ u. read m sorted u tree)) (entry_at ordered cs next fs site (Some name) (λ u. build m sorted u tree))
      (λ x. read_entries m sorted ordered cs (suc x.0) (fill x.0 x.1 fs) rest) (λ x. build_entries m sorted ordered cs (suc x.0) (fill x.0 x.1 fs) rest)
      (λ x gs got made so long. long)
      (agrees_then sorted (λ (l : Located). ⊥) (λ (x : ℕ × AbstractValue). InEntry (HasLongEncoding m) kind (entry site (Some name) tree rest)) (placed ordered next fs site (located name cs)) (placed ordered next fs site (located name cs))
      (λ l. read m sorted l.ty tree >>= λ v. Ok (l.place, v)) (λ l. build m sorted l.ty tree >>= λ v. Ok (l.place, v))
      (λ l x is made so none. absurd none) (agrees_self sorted (λ (l : Located). ⊥) (placed ordered next fs site (located name cs)))
      (λ l is. agrees_then sorted (λ (v : AbstractValue). Long m l.ty tree) (λ (x : ℕ × AbstractValue). InEntry (HasLongEncoding m) kind (entry site (Some name) tree rest)) (read m sorted l.ty tree) (build m sorted l.ty tree) (λ v. Ok (l.place, v)) (λ v. Ok (l.place, v))
      (λ v x got made so long. inl (l.ty, typed name ∙ ap (option_map (λ k. k.ty)) (placed_ok ordered next fs site (located name cs) l is).0, long)) (build_agrees m sorted tree l.ty) (λ v got. refl)))
      (λ x got. agrees_in sorted (λ (gs : Fields). InEntry (HasLongEncoding m) kind rest) (λ (gs : Fields). InEntry (HasLongEncoding m) kind (entry site (Some name) tree rest))
      (read_entries m sorted ordered cs (suc x.0) (fill x.0 x.1 fs) rest) (build_entries m sorted ordered cs (suc x.0) (fill x.0 x.1 fs) rest)
      (λ gs long. inr long) (entries_agree m sorted rest kind ordered cs typed (suc x.0) (fill x.0 x.1 fs)))

  elements_agree : (m : Meaning) (sorted : Bool) (es : WrittenEntries) (kind : AbstractKind) (short : Bool) (u : AbstractType) (room : ℕ) → room ≤ 1048576 → entry_type kind None ≡ Some u
      → Agrees sorted (λ (vs : List AbstractValue). InEntry (HasLongEncoding m) kind es ⊎ IsOver room u vs) (read_elements m sorted short u es) (build_elements m sorted short u room es)
  elements_agree m sorted no_entries kind short u room most is = refl
  elements_agree m sorted (entry site (Some name) tree rest) kind short u room most is = λ _. refl
  elements_agree m sorted (entry site None tree rest) kind short u room most is =
      agrees_then sorted (λ (v : AbstractValue). Long m u tree) (λ (vs : List AbstractValue). InEntry (HasLongEncoding m) kind (entry site None tree rest) ⊎ IsOver room u vs)
      (element_at short u site None (site_of tree) (read m sorted u tree)) (element_at short u site None (site_of tree) (build m sorted u tree))
      (λ v. read_elements m sorted short u rest >>= λ more. Ok (kept sorted v ∷ more))
      (λ v. room_after sorted (site_of tree) u v room >>= λ left. build_elements m sorted short u left rest >>= λ more. Ok (kept sorted v ∷ more))
      (λ v vs got made so long. inl (inl (u, is, long)))
      (agrees_then sorted (λ (v : AbstractValue). Long m u tree) (λ (v : AbstractValue). Long m u tree) (read m sorted u tree) (build m sorted u tree) (λ v. perhaps_limited short (site_of tree) u v) (λ v. perhaps_limited short (site_of tree) u v)
      (λ v w got made so long. long) (build_agrees m sorted tree u) (λ v got. agrees_self sorted (λ (w : AbstractValue). Long m u tree) (perhaps_limited short (site_of tree) u v)))
      (λ v got. agrees_in sorted (λ (vs : List AbstractValue). InEntry (HasLongEncoding m) kind rest ⊎ IsOver room u vs) (λ (vs : List AbstractValue). InEntry (HasLongEncoding m) kind (entry site None tree rest) ⊎ IsOver room u vs)
      (read_elements m sorted short u rest >>= λ more. Ok (kept sorted v ∷ more)) (room_after sorted (site_of tree) u v room >>= λ left. build_elements m sorted short u left rest >>= λ more. Ok (kept sorted v ∷ more))
      (λ vs long. elim long [
        | inl h ↦ inl (inr h)
        | inr h ↦ inr h
      ])
      (room_agrees (site_of tree) u v (InEntry (HasLongEncoding m) kind rest) sorted room (read_elements m sorted short u rest) (λ left. build_elements m sorted short u left rest) most
      (λ left within. elements_agree m sorted rest kind short u left within is)))

-- ---- whole values

module _ (m : Meaning) (t : AbstractType) (tree : WrittenValue) where
  built_read : (v : AbstractValue) → build m true t tree ≡ Ok v → read m true t tree ≡ Ok v
  built_read v e = here (read m true t tree) (build m true t tree) (build_agrees m true tree t) e where
    here : (r b : Read AbstractValue) → Agrees true (λ (w : AbstractValue). Long m t tree) r b → b ≡ Ok v → r ≡ Ok v
    here (Ok w) (Ok x) h is = ap (λ (y : AbstractValue). Ok y) h ∙ is
    here (Ok w) (Err f) h is = absurd cc
    here (Err f) (Ok x) h is = absurd h
    here (Err f) (Err g) h is = absurd cc

  pub built_fits : AreFitting m → (v : AbstractValue) → is_proper t ≡ true → build m true t tree ≡ Ok v → fits t v ≡ true
  built_fits fit v proper e = read_fits m fit tree t v proper (built_read v e)

  pub sorted_fits : AreFitting m → (v : AbstractValue) → is_proper t ≡ true → build_sorted m t tree ≡ Ok v → fits t v ≡ true
  sorted_fits fit v proper e = built_fits fit v proper (here (build m true t tree) (build m false t tree) e) where
    here : (r s : Read AbstractValue) → sorted_or r (s >>= λ v. Err (TooLarge (site_of tree))) ≡ Ok v → r ≡ Ok v
    here (Ok w) s is = is
    here (Err g) (Ok w) is = absurd cc
    here (Err g) (Err h) is = absurd cc

  faults_alike : build m false t tree ≡ read m false t tree
  faults_alike = here (read m false t tree) (build m false t tree) (build_agrees m false tree t) where
    here : (r b : Read AbstractValue) → Agrees false (λ (w : AbstractValue). Long m t tree) r b → b ≡ r
    here (Ok w) (Ok x) h = ap (λ (y : AbstractValue). Ok y) (sym h)
    here (Ok w) (Err f) h = absurd (let wrong = h.0 in cc)
    here (Err f) (Ok x) h = absurd h
    here (Err f) (Err g) h = ap (λ (e : ValueFault). Err e) (sym (h refl))

  read_faultless : faults_of m t tree ≡ [] → (w : AbstractValue) × (read m false t tree ≡ Ok w)
  read_faultless none = here (read m false t tree) refl (read_tells m false tree t) where
    here : (r : Read AbstractValue) → read m false t tree ≡ r → Tells (IsLong m false t tree) (faults_of m t tree) r → (w : AbstractValue) × (read m false t tree ≡ Ok w)
    here (Ok w) is tells = (w, is)
    here (Err f) is (inl first) = absurd (not_there (faults_of m t tree) f first none)
    here (Err f) is (inr long) = absurd (let wrong = long.0 in cc)

  -- Where it ends early, the fault that is written first is found, or the whole is too long.
  pub built_whole : is_proper t ≡ true → build_whole m t tree ≡ read_whole m t tree
  built_whole proper = here (read m true t tree) (build m true t tree) refl (build_agrees m true tree t) where
    same_end : (build_first_fault m t tree >>= λ v. limited (site_of tree) t v) ≡ (read_first_fault m t tree >>= λ v. limited (site_of tree) t v)
    same_end = ap (λ (r : Read AbstractValue). (r >>= λ v. Err (TooLarge (site_of tree))) >>= λ v. limited (site_of tree) t v) faults_alike

    here : (r b : Read AbstractValue) → read m true t tree ≡ r → Agrees true (λ (w : AbstractValue). Long m t tree) r b
        → (sorted_or b (build_first_fault m t tree) >>= λ v. limited (site_of tree) t v) ≡ (sorted_or r (read_first_fault m t tree) >>= λ v. limited (site_of tree) t v)
    here (Ok v) (Ok w) is h = ap (limited (site_of tree) t) (sym h)
    here (Ok v) (Err f) is h =
        let says = read_said m tree t v is in
        let faultless = read_faultless (says_faultless m tree t v says) in
        let ends : (read_first_fault m t tree >>= λ v. limited (site_of tree) t v) ≡ Err (TooLarge (site_of tree)) = ap (λ (r : Read AbstractValue). (r >>= λ v. Err (TooLarge (site_of tree))) >>= λ v. limited (site_of tree) t v) faultless.1 in
        let short : is_short (der t v) ≡ false = not_short (der t v) (λ within. none_long m tree t v proper says within h.1) in
        let long : limited (site_of tree) t v ≡ Err (TooLarge (site_of tree)) = ap (λ (b : Bool). cond b (Ok v) (Err (TooLarge (site_of tree)))) short in
        same_end ∙ ends ∙ sym long
    here (Err f) (Ok w) is h = absurd h
    here (Err f) (Err g) is h = same_end

-- what is read of a form
pub form_fits : (m : Meaning) → AreFitting m → (sorted : Bool) (t : AbstractType) (site : Site) (form : WrittenValueForm) (answer : Result Value ValueFault) → is_proper t ≡ true → Gives value_view named answer (build_form m sorted t site form)
    → sorted ≡ true → IfOk answer (λ v. IsTrue (fits t (value_view v)))
unfolding build
form_fits m fit sorted t site form (Ok v) proper given so =
    let P : Bool → Type 0 = λ b. build_form m b t site form ≡ Ok (value_view v) in
    built_fits m t (value_node site form) fit (value_view v) proper (subst P so given)
form_fits m fit sorted t site form (Err e) proper given so = tt

-- what a name is read as
pub reference_fits : (m : Meaning) → AreFitting m → (t : AbstractType) (site : Site) (name : List ℕ) (answer : Result Value ValueFault) → is_proper t ≡ true → Gives value_view named answer (read_reference m t site name) → IfOk answer (λ v. IsTrue (fits t (value_view v)))
unfolding build
reference_fits m fit t site name (Ok v) proper given = built_fits m t (value_node site (written.reference name)) fit (value_view v) proper given
reference_fits m fit t site name (Err e) proper given = tt

-- ---- one element

element_built : (t : AbstractType) (site place : Site) (name : Option (List ℕ)) (r : Read AbstractValue) (v : AbstractValue) → element_at true t site name place r ≡ Ok v → (r ≡ Ok v) × (is_short (der t v) ≡ true)
element_built t site place (Some name) r v e = absurd cc
element_built t site place None (Err f) v e = absurd cc
element_built t site place None (Ok w) v e = let l = limited_ok place t w v e in (ap (λ (x : AbstractValue). Ok x) l.1, l.0)

module _ (m : Meaning) (t : AbstractType) (e : WrittenEntry) where
  pub element_fits : AreFitting m → (sorted : Bool) (v : AbstractValue) → is_proper t ≡ true → element_at false t e.site e.name (site_of e.value) (build m sorted t e.value) ≡ Ok v → sorted ≡ true → fits t v ≡ true
  element_fits fit sorted v proper got so =
      let P : Bool → Type 0 = λ b. element_at false t e.site e.name (site_of e.value) (build m b t e.value) ≡ Ok v in
      built_fits m t e.value fit v proper (element_read t e.site (site_of e.value) e.name (build m true t e.value) v (subst P so got))

  -- the octets of an element of a SET OF, which are short
  pub octets_counted : (v : AbstractValue) (os : List ℕ) → element_at true t e.site e.name (site_of e.value) (build m true t e.value) ≡ Ok v → der t v ≡ Some os → Some (length os) ≡ short_length (der t v)
  octets_counted v os got is =
      let short : is_short (der t v) ≡ true = (element_built t e.site (site_of e.value) e.name (build m true t e.value) v got).1 in
      counted (der t v) is short where
        counted : (o : Option (List ℕ)) → o ≡ Some os → is_short o ≡ true → Some (length os) ≡ short_length o
        counted None is short = absurd cc
        counted (Some xs) is short =
            let same : xs ≡ os = same_Some xs os is in
            let within : nat_le (length xs) 1048576 ≡ true = short in
            ap (λ (ys : List ℕ). Some (length ys)) (sym same) ∙ sym (ap (λ (b : Bool). cond b (Some (length xs)) None) within)

-- ---- what a call answers

-- what the code reads in the module at a place is what is read by what the names mean there
pub built_there : (names : Names) (known : Known) (place : Option ℕ) (meant : List ℕ → Option ℕ)
    → ((name : List ℕ) → number_meant_in (modules_of names) place name ≡ meant name)
    → (t : AbstractType) → is_proper t ≡ true → (tree : WrittenValue) (answer : Result KnownValue ValueFault)
    → Gives known_value_view named answer (build_whole (λ name. known_definition known (option_and_then (place_in (order_of names)) (number_meant_in (modules_of names) place name))) t tree)
    → Gives known_value_view named answer (read_whole (λ name. known_definition known (option_and_then (place_in (order_of names)) (meant name))) t tree)
built_there names known place meant same t proper tree answer h =
    read_there names known place meant same t tree answer
    (subst (λ r. Gives known_value_view named answer r) (built_whole (λ name. known_definition known (option_and_then (place_in (order_of names)) (number_meant_in (modules_of names) place name))) t tree proper) h)
