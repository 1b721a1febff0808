-- The tree of a value's text says the value.
use Rattle.std.proofs.Common.{◌≡◌, ℕ, zero, suc, ◌%◌, ◌≤◌, Bool, true, false, ◌&&◌, cond, List, [], ◌∷◌, Option, Some, None, nat_eq, nat_le, option_map, refl, sym, ap, subst, ◌∙◌, inl, inr, arith}
use Rattle.std.proofs.lemmas.Bool.{and_parts, and_from, cases_Bool, cond-true, cond-false, false≢true}
use Rattle.std.proofs.lemmas.Option.{same_Some, none-some}
use Rattle.guard_model.specs.declared.tag.Tag.{Tag}
use Rattle.guard_model.specs.AbstractType as type
use Rattle.guard_model.specs.AbstractType.{AbstractType, AbstractKind, AbstractPresence, Components, Constraints, NamedNumber, type_of, no_components, component}
use Rattle.guard_model.specs.AbstractValue as value
use Rattle.guard_model.specs.AbstractValue.{AbstractValue, Fields, Items, items_of}
use Rattle.guard_model.specs.TypeView.{OneComponent}
use Rattle.guard_model.specs.Components.{component_at}
use Rattle.guard_model.specs.Counts.{component_count}
use Rattle.guard_model.specs.Limits.{fits_128_bits, most_components}
use Rattle.guard_tagcheck.specs.Distinct.{component_type}
use Rattle.guard_tagcheck.specs.Limits.{is_tagged, are_low}
use Rattle.guard_der.specs.Der.{der, item_encodings, joined, ◌>>=◌}
use Rattle.guard_der.specs.Fits.{fits, fits_bits, has_proper_end, has_zero_end, ends_as_named, last_octet, all_below, fits_fields, may_be_absent, fits_items, are_few as are_few_items, every_fits, are_ascending}
use Rattle.guard_model.specs.NamedLists.{is_item}
use Rattle.guard_der.specs.Sound.{is_proper, is_proper_kind, are_proper, are_proper_constraints}
use Rattle.guard_syntax.specs.Trees.{WrittenValue, WrittenEntries, list}
use Rattle.guard_values.specs.Meanings.{Meaning}
use Rattle.guard_values.specs.NamedBits.{bits_kept}
use Rattle.guard_values.specs.Strings.{octets_of_bits, hexadecimal_bits}
use Rattle.guard_values.specs.Simple.{bits_value, reference_value, named_value}
use Rattle.guard_values.specs.Places.{located, entry_place, entry_places, is_among, are_in_order, are_different, FieldDenotes, FieldsDenote}
use Rattle.guard_values.specs.Arrangement.{arranged}
use Rattle.guard_values.specs.Denotes.{ChosenDenotes, are_few, Says, EntrySays, EntriesSay}
use Rattle.guard_values.proofs.Denoted.DenotedIsRead.{ordered_differ}
use Rattle.guard_values.proofs.OneAnswer.LengthsInside.{Within, AreWithin, FieldsWithin, contents_within, alternative_is, items_within, sequence_within, set_within}
use Rattle.guard_values.proofs.Braces.ProperComponents.{proper_parts, proper_at}
use Rattle.guard_report.specs.Text.{name_or_number, component_of}
use Rattle.guard_report.specs.Strings.{hexadecimal, bits_of, are_named, names_of_ones}
use Rattle.guard_report.specs.ValueText.{item_text, part_name}
use Rattle.reads_back.specs.Names.{HaveNames, AreBits, HasNames, PartsHaveNames, is_seen, fields_seen, items_seen}
use Rattle.reads_back.specs.inside.TreeOf.{node, names_written, digits_tree, bits_tree, tree_of, fields_written, items_written}
use Rattle.reads_back.proofs.Named.{item_named, IsPart, part_first, part_later, chosen_part}
use Rattle.reads_back.proofs.ValueTexts.{FromPlace, further_place, this_place, from_start}
use Rattle.reads_back.proofs.OneBits.{ones_from}
use Rattle.reads_back.proofs.BitSays.{hexadecimal_said, binary_said, bits_again, kept_as_named, names_said, ones_said}
use Rattle.reads_back.proofs.SimpleSays.{number_said, arcs_said, characters_said}
use Rattle.reads_back.proofs.FieldSays.{given, in_order, not_given, is_given, given_later, left_out}
use Rattle.reads_back.proofs.ItemSays.{values_in, items_again, count_same, short_each, arranged_same}

-- ---- bits and octets

digits_say : (m : Meaning) (tags : List Tag) (ns : List NamedNumber) (cons : Constraints) (octets : List ℕ) (unused : ℕ) → fits_bits octets unused ≡ true → ends_as_named ns octets unused ≡ true → all_below 256 octets ≡ true
    → Says m (type_of tags (type.bit_string ns) cons) (digits_tree octets unused) (value.bit_string octets unused)
digits_say m tags ns cons octets zero h e below =
    ap (λ (bs : List ℕ). Some (bits_value (bits_kept ns bs))) (hexadecimal_said octets below) ∙ ap (λ (bs : List ℕ). Some (bits_value bs)) (kept_as_named ns octets 0 h e) ∙ ap (λ (v : AbstractValue). Some v) (bits_again octets 0 h)
digits_say m tags ns cons octets (suc unused) h e below =
    ap (λ (bs : List ℕ). Some (bits_value (bits_kept ns bs))) (binary_said octets (suc unused) below) ∙ ap (λ (bs : List ℕ). Some (bits_value bs)) (kept_as_named ns octets (suc unused) h e) ∙ ap (λ (v : AbstractValue). Some v) (bits_again octets (suc unused) h)

bits_say : (m : Meaning) (tags : List Tag) (ns : List NamedNumber) (cons : Constraints) (octets : List ℕ) (unused : ℕ) → HaveNames ns → AreBits ns → fits_bits octets unused ≡ true → ends_as_named ns octets unused ≡ true → all_below 256 octets ≡ true
    → Says m (type_of tags (type.bit_string ns) cons) (bits_tree ns octets unused) (value.bit_string octets unused)
bits_say m tags [] cons octets unused names bits h e below = digits_say m tags [] cons octets unused h e below
bits_say m tags (n ∷ ns) cons octets unused names bits h e below =
    let t = type_of tags (type.bit_string (n ∷ ns)) cons in
    let v = value.bit_string octets unused in
    let ones = bits_of octets unused in
    let named_tree = node (list (names_written (names_of_ones (n ∷ ns) 0 ones))) in
    elim (cases_Bool (are_named (n ∷ ns) 0 ones)) [
      | inl named ↦
          subst (λ (w : WrittenValue). Says m t w v) (sym (cond-true (are_named (n ∷ ns) 0 ones) named_tree (digits_tree octets unused) named))
          (ones_from 0 ones, names_said (n ∷ ns) 0 ones names bits named, sym (ap bits_value (ones_said n ns octets unused h e) ∙ bits_again octets unused h))
      | inr not_all ↦
          subst (λ (w : WrittenValue). Says m t w v) (sym (cond-false (are_named (n ∷ ns) 0 ones) named_tree (digits_tree octets unused) not_all)) (digits_say m tags (n ∷ ns) cons octets unused h e below)
    ]

octets_in_bits : AbstractValue → List ℕ
octets_in_bits (value.bit_string octets unused) = octets
octets_in_bits _ = []

whole_octets : (octets : List ℕ) → all_below 256 octets ≡ true → fits_bits octets 0 ≡ true
whole_octets octets below = let e : last_octet octets % 1 ≡ 0 = omega arith in and_from _ _ (and_from _ _ below refl) (ap (λ (n : ℕ). nat_eq n 0) e)

octets_again : (octets : List ℕ) → all_below 256 octets ≡ true → octets_of_bits (hexadecimal_bits (hexadecimal octets)) ≡ octets
unfolding octets_in_bits
octets_again octets below = ap octets_of_bits (hexadecimal_said octets below) ∙ ap octets_in_bits (bits_again octets 0 (whole_octets octets below))

-- ---- parts

part_at : (cs : Components) (i : ℕ) (name : List ℕ) (t : AbstractType) (presence : AbstractPresence) → PartsHaveNames cs → component_at i cs ≡ Some (record { name = name; ty = t; presence = presence }) → IsPart cs i name t presence
part_at no_components i name t presence h e = absurd (none-some {A = OneComponent} (record { name = name; ty = t; presence = presence }) e)
part_at (component other u p rest) zero name t presence h e =
    let first : OneComponent = record { name = other; ty = u; presence = p } in
    let same : first ≡ record { name = name; ty = t; presence = presence } = same_Some first (record { name = name; ty = t; presence = presence }) e in
    subst (λ (c : OneComponent). IsPart (component other u p rest) 0 c.name c.ty c.presence) same (part_first other u p rest h)
part_at (component other u p rest) (suc i) name t presence h e = part_later other u p rest i name t presence h (part_at rest i name t presence h.3 e)

type_at : (cs : Components) (i : ℕ) → component_type i cs ≡ option_map (λ c. c.ty) (component_at i cs)
type_at no_components i = refl
type_at (component name t presence rest) zero = refl
type_at (component name t presence rest) (suc i) = type_at rest i

-- the name of each part stands for it alone
abbrev AllMeant : AbstractType → Components → Type 0
AllMeant t cs = (i : ℕ) (name : List ℕ) (u : AbstractType) (presence : AbstractPresence) → component_of (Some t) i ≡ Some (record { name = name; ty = u; presence = presence }) → located name cs ≡ Some (record { place = i; ty = u })

place_named : (t : AbstractType) (all : Components) (i : ℕ) (name : List ℕ) (u : AbstractType) (presence : AbstractPresence) → AllMeant t all → component_of (Some t) i ≡ Some (record { name = name; ty = u; presence = presence })
    → entry_place all (Some (part_name (Some t) i)) ≡ Some i
place_named t all i name u presence meant e =
    ap (λ (o : Option OneComponent). entry_place all (Some (name_or_number (option_map (λ c. c.name) o) i))) e ∙ ap (option_map (λ l. l.place)) (meant i name u presence e)

entry_places_are : (t : AbstractType) (all : Components) (i : ℕ) (cs : Components) (fs : Fields) → AllMeant t all → FromPlace t i cs → fits_fields cs fs ≡ true → entry_places all (fields_written (Some t) i fs) ≡ given i fs
entry_places_are t all i no_components value.no_fields meant from fit = refl
entry_places_are t all i (component name u presence cs) (value.present v fs) meant from fit =
    let first : entry_place all (Some (part_name (Some t) i)) ≡ Some i = place_named t all i name u presence meant (this_place t i name u presence cs from) in
    let others : entry_places all (fields_written (Some t) (suc i) fs) ≡ given (suc i) fs = entry_places_are t all (suc i) cs fs meant (further_place t i name u presence cs from) (and_parts (fits u v) (fits_fields cs fs) fit).1 in
    λ k. first k ∷ others k
entry_places_are t all i (component name u presence cs) (value.absent fs) meant from fit =
    entry_places_are t all (suc i) cs fs meant (further_place t i name u presence cs from) (and_parts (may_be_absent presence) (fits_fields cs fs) fit).1
entry_places_are t all i cs fs meant from fit = absurd (false≢true fit)

proper_kind : (tags : List Tag) (kind : AbstractKind) (cons : Constraints) → is_proper (type_of tags kind cons) ≡ true → is_proper_kind kind ≡ true
proper_kind tags kind cons h = (and_parts (is_tagged tags kind && are_low tags && are_proper_constraints cons (type_of tags kind cons)) (is_proper_kind kind) h).1

-- ---- all values

few : (vs : Items) → are_few_items vs ≡ true → are_few (values_in vs) ≡ true
few vs h = ap (λ (n : ℕ). nat_le n 4294967295) (count_same vs) ∙ h

within_items : (u : AbstractType) (vs : Items) → Within 1048576 (item_encodings (der u) vs >>= λ es. Some (joined es)) → AreWithin 1048576 u (values_in vs)
within_items u vs h = items_within 1048576 u (values_in vs) (subst (λ (xs : Items). Within 1048576 (item_encodings (der u) xs >>= λ es. Some (joined es))) (sym (items_again vs)) h)

mutual
  pub value_says : (m : Meaning) (t : AbstractType) (v : AbstractValue) → HasNames t → is_proper t ≡ true → fits t v ≡ true → is_seen v ≡ true → Within 1048576 (der t v) → Says m t (tree_of (Some t) v) v
  value_says m (type_of tags type.boolean cons) (value.boolean b) names proper fit seen short = refl
  value_says m (type_of tags (type.integer ns) cons) (value.integer z) names proper fit seen short =
      ap (λ x. cond (fits_128_bits x) (Some (value.integer x)) None) (number_said z fit) ∙ cond-true (fits_128_bits z) (Some (value.integer z)) None fit
  value_says m (type_of tags (type.enumerated ns) cons) (value.enumerated z) names proper fit seen short =
      let t = type_of tags (type.enumerated ns) cons in
      let p = and_parts (fits_128_bits z) (is_item z ns) fit in
      let n = item_named ns z names p.1 in
      ap (λ (o : Option (List ℕ)). reference_value m t (item_text o z)) n.1.written ∙ ap (λ o. named_value o t (m n.0)) n.1.meant ∙ cond-true (fits_128_bits z) (Some (value.enumerated z)) None p.0
  value_says m (type_of tags type.null cons) value.null names proper fit seen short = refl
  value_says m (type_of tags (type.bit_string ns) cons) (value.bit_string octets unused) names proper fit seen short =
      let p = and_parts (fits_bits octets unused) (ends_as_named ns octets unused) fit in
      let q = and_parts (all_below 256 octets && has_proper_end octets unused) (has_zero_end octets unused) p.0 in
      bits_say m tags ns cons octets unused names.0 names.1 p.0 p.1 (and_parts (all_below 256 octets) (has_proper_end octets unused) q.0).0
  value_says m (type_of tags type.octet_string cons) (value.octet_string octets) names proper fit seen short = ap (λ (os : List ℕ). Some (value.octet_string os)) (octets_again octets fit)
  value_says m (type_of tags type.object_identifier cons) (value.object_identifier arcs) names proper fit seen short = arcs_said arcs fit
  value_says m (type_of tags (type.characters k) cons) (value.characters cs) names proper fit seen short = characters_said k cs fit seen
  value_says m (type_of tags (type.sequence cs) cons) (value.fields fs) names proper fit seen short =
      let t = type_of tags (type.sequence cs) cons in
      let from = from_start t cs (λ i. refl) in
      let meant : AllMeant t cs = λ i name u presence e. (part_at cs i name u presence names e).meant in
      let places = entry_places_are t cs 0 cs fs meant from fit in
      let parts = (and_parts (nat_le (component_count cs) most_components) (are_proper cs) (proper_kind tags (type.sequence cs) cons proper)).1 in
      let es = fields_written (Some t) 0 fs in (
        subst (λ ps. are_in_order 0 ps ≡ true) (sym places) (in_order 0 0 fs (omega arith)),
        (
          fs,
          subst (λ ps. FieldsDenote ps (λ i u w. EntrySays m cs es i u w) 0 cs fs) (sym places)
              (fields_say m t cs (given 0 fs) es 0 cs fs meant from names parts fit seen (sequence_within cs fs parts (contents_within 1048576 t (value.fields fs) short)) (λ j le. refl) (λ j u w e. e)),
          refl,
        ),
      )
  value_says m (type_of tags (type.set cs) cons) (value.fields fs) names proper fit seen short =
      let t = type_of tags (type.set cs) cons in
      let from = from_start t cs (λ i. refl) in
      let meant : AllMeant t cs = λ i name u presence e. (part_at cs i name u presence names e).meant in
      let places = entry_places_are t cs 0 cs fs meant from fit in
      let parts = (and_parts (nat_le (component_count cs) most_components) (are_proper cs) (proper_kind tags (type.set cs) cons proper)).1 in
      let es = fields_written (Some t) 0 fs in (
        subst (λ ps. are_different ps ≡ true) (sym places) (ordered_differ 0 (given 0 fs) (in_order 0 0 fs (omega arith))),
        (
          fs,
          subst (λ ps. FieldsDenote ps (λ i u w. EntrySays m cs es i u w) 0 cs fs) (sym places)
              (fields_say m t cs (given 0 fs) es 0 cs fs meant from names parts fit seen (set_within cs fs parts (contents_within 1048576 t (value.fields fs) short)) (λ j le. refl) (λ j u w e. e)),
          refl,
        ),
      )
  value_says m (type_of tags (type.choice cs) cons) (value.chosen i v) names proper fit seen short =
      let t = type_of tags (type.choice cs) cons in
      let c = chosen_part cs i v names fit in
      let parts = (and_parts (nat_le (component_count cs) most_components) (are_proper cs) (proper_kind tags (type.choice cs) cons proper)).1 in
      let is : component_type i cs ≡ Some c.ty = type_at cs i ∙ ap (option_map (λ c. c.ty)) c.part.there in
      let inner : Within 1048576 (der c.ty v) = subst (λ o. Within 1048576 o) (alternative_is cs i c.ty v is) (contents_within 1048576 t (value.chosen i v) short) in
      subst (λ (o : Option OneComponent). ChosenDenotes (name_or_number (option_map (λ c. c.name) o) i) cs (λ u w. Says m u (tree_of (option_map (λ c. c.ty) o) v) w) (value.chosen i v)) (sym c.part.there)
      (record { place = i; ty = c.ty }, v, c.part.meant, value_says m c.ty v c.part.names (proper_at cs i c.ty parts is) c.fitting seen inner, refl)
  value_says m (type_of tags (type.sequence_of u) cons) (value.items vs) names proper fit seen short =
      let t = type_of tags (type.sequence_of u) cons in
      let p = and_parts (are_few_items vs) (every_fits (fits u) vs) fit in
      let each = within_items u vs (contents_within 1048576 t (value.items vs) short) in
      (values_in vs, items_say m u vs names (proper_kind tags (type.sequence_of u) cons proper) p.1 seen each, few vs p.0, sym (ap value.items (items_again vs)))
  value_says m (type_of tags (type.set_of u) cons) (value.items vs) names proper fit seen short =
      let t = type_of tags (type.set_of u) cons in
      let q = and_parts (fits_items (fits u) vs) (are_ascending (item_encodings (der u) vs)) fit in
      let p = and_parts (are_few_items vs) (every_fits (fits u) vs) q.0 in
      let each = within_items u vs (contents_within 1048576 t (value.items vs) short) in
      let same : items_of (arranged u (values_in vs)) ≡ vs = ap items_of (arranged_same u vs q.1) ∙ items_again vs in
      (values_in vs, items_say m u vs names (proper_kind tags (type.set_of u) cons proper) p.1 seen each, few vs p.0, short_each u (values_in vs) each, sym (ap value.items same))
  value_says m (type_of tags kind cons) v names proper fit seen short = absurd (false≢true fit)

  fields_say : (m : Meaning) (t : AbstractType) (all : Components) (places : List (Option ℕ)) (whole : WrittenEntries) (i : ℕ) (cs : Components) (fs : Fields)
      → AllMeant t all → FromPlace t i cs → PartsHaveNames cs → are_proper cs ≡ true → fits_fields cs fs ≡ true → fields_seen fs ≡ true → FieldsWithin 1048576 cs fs
      → ((j : ℕ) → i ≤ j → is_among j places ≡ is_among j (given i fs)) → ((j : ℕ) (u : AbstractType) (w : AbstractValue) → EntrySays m all (fields_written (Some t) i fs) j u w → EntrySays m all whole j u w)
      → FieldsDenote places (λ j u w. EntrySays m all whole j u w) i cs fs
  fields_say m t all places whole i no_components value.no_fields meant from names proper fit seen short among say = tt
  fields_say m t all places whole i (component name u presence cs) (value.present v fs) meant from names proper fit seen short among say =
      let f = and_parts (fits u v) (fits_fields cs fs) fit in
      let s = and_parts (is_seen v) (fields_seen fs) seen in
      let q = proper_parts name u presence cs proper in
      let here = this_place t i name u presence cs from in
      let there : is_among i places ≡ true = among i (omega arith) ∙ is_given i v fs in
      let inner : Says m u (tree_of (Some u) v) v = value_says m u v names.2 q.0 f.0 s.0 (short 0 u v refl refl) in
      let said : Says m u (tree_of (option_map (λ c. c.ty) (component_of (Some t) i)) v) v = subst (λ (o : Option OneComponent). Says m u (tree_of (option_map (λ c. c.ty) o) v) v) (sym here) inner in
      let denoted : EntrySays m all whole i u v = say i u v (inl (place_named t all i name u presence meant here, said)) in (
        subst (λ (b : Bool). FieldDenotes b (λ w. EntrySays m all whole i u w) presence (Some v)) (sym there) (v, refl, denoted),
        fields_say m t all places whole (suc i) cs fs meant (further_place t i name u presence cs from) names.3 q.2 f.1 s.1 (λ j. short (suc j))
            (λ j le. among j (omega (arith, le)) ∙ given_later j i v fs le) (λ j w x e. say j w x (inr e)),
      )
  fields_say m t all places whole i (component name u presence cs) (value.absent fs) meant from names proper fit seen short among say =
      let f = and_parts (may_be_absent presence) (fits_fields cs fs) fit in
      let q = proper_parts name u presence cs proper in
      let missing : is_among i places ≡ false = among i (omega arith) ∙ not_given i (suc i) fs (omega arith) in (
        subst (λ (b : Bool). FieldDenotes b (λ w. EntrySays m all whole i u w) presence None) (sym missing) (left_out presence f.0),
        fields_say m t all places whole (suc i) cs fs meant (further_place t i name u presence cs from) names.3 q.2 f.1 seen (λ j. short (suc j)) (λ j le. among j (omega (arith, le))) say,
      )
  fields_say m t all places whole i cs fs meant from names proper fit seen short among say = absurd (false≢true fit)

  items_say : (m : Meaning) (u : AbstractType) (vs : Items) → HasNames u → is_proper u ≡ true → every_fits (fits u) vs ≡ true → items_seen vs ≡ true → AreWithin 1048576 u (values_in vs)
      → EntriesSay m u (items_written (Some u) vs) (values_in vs)
  items_say m u value.no_items names proper fit seen short = refl
  items_say m u (value.item v vs) names proper fit seen short =
      let f = and_parts (fits u v) (every_fits (fits u) vs) fit in
      let s = and_parts (is_seen v) (items_seen vs) seen in
      (v, values_in vs, value_says m u v names proper f.0 s.0 short.0, items_say m u vs names proper f.1 s.1 short.1, refl)
