-- Where a list of names has no fault, they differ; and where no number of a bit is at fault, each is a bit.
use Rattle.std.proofs.Common.{◌≡◌, ℕ, ℤ, pos, negsuc, Bool, true, false, not, cond, List, [], ◌∷◌, ◌++◌, map}
use Rattle.std.proofs.Common.{Option, Some, None, option_map, IsTrue, refl, sym, ap, ◌∙◌}
use Rattle.std.specs.Prelude.{bytes_eq, is_some, nat_le}
use Rattle.std.specs.List.{AllByRecursion, list_any}
use Rattle.std.proofs.lemmas.Bool.{or_parts}
use Rattle.std.proofs.lemmas.List.{map-append}
use Rattle.std.proofs.lemmas.List.Folds.{list_any-append}
use Rattle.std.proofs.lemmas.Slice.Eq.{bytes_eq-Decides}
use Rattle.guard_model.specs.declared.site.Site.{Site}
use Rattle.guard_model.specs.AbstractType as type
use Rattle.guard_model.specs.AbstractType.{Components}
use Rattle.guard_model.specs.Limits.{greatest_bit}
use Rattle.guard_model.proofs.Options.{option_or_none}
use Rattle.guard_syntax.specs.Trees.{WrittenNamed, WrittenItem, WrittenComponents, no_components, component}
use Rattle.guard_syntax.specs.Trees.{components_from, WrittenAlternatives, no_alternatives, alternative}
use Rattle.guard_tagging.specs.declared.fault.TagFault.{TagFault}
use Rattle.guard_tagging.specs.declared.fault.TagFault.TheVariants.{NumberTooLarge}
use Rattle.guard_tagging.specs.Enumerations.{next_number, numbered_from, named_number}
use Rattle.guard_tagging.specs.Faults.{Placed, same_number, clash_with, repeated, placed_at, component_names}
use Rattle.guard_tagging.specs.Faults.{alternative_names, named_place, item_place, duplicate_name, duplicate_number}
use Rattle.guard_tagging.specs.Faults.{fault_where, is_bit, is_outside, first_outside}
use Rattle.guard_tagging.specs.Types.{Surroundings, denoted, denoted_components, denoted_alternatives, parts_of}
use Rattle.guard_values.specs.NamedBits.{place_of_bit}
use Rattle.reads_back.specs.Names.{AreBits}
use Rattle.reads_back.proofs.NamesAlone.{names_of, Differ, names_join}

abbrev pub placed_names : List Placed → List (List ℕ)
placed_names ps = map (λ p. p.name) ps

-- ---- no name of a list is repeated

not_found : (here : Bool) (site : Site) (others : Option Site) → cond here (Some site) others ≡ None
    → (here ≡ false) × (others ≡ None)
not_found true site others h = absurd cc
not_found false site others h = (refl, h)

none_repeated : (before : List Placed) (p : Placed) (ps : List Placed) → repeated before (p ∷ ps) ≡ None
    → (list_any (clash_with p) before ≡ false) × (repeated (before ++ p ∷ []) ps ≡ None)
none_repeated before p ps h = not_found (list_any (clash_with p) before) p.site (repeated (before ++ p ∷ []) ps) h

clash_before : (before : List Placed) (p q : Placed) → list_any (clash_with q) (before ++ p ∷ []) ≡ false
    → (list_any (clash_with q) before ≡ false) × (list_any (clash_with q) (p ∷ []) ≡ false)
clash_before before p q h =
    or_parts (list_any (clash_with q) before) (list_any (clash_with q) (p ∷ []))
    (sym (list_any-append (clash_with q) before (p ∷ [])) ∙ h)

abbrev NoneClash : List Placed → List Placed → Type 0
NoneClash before ps = AllByRecursion (λ p. list_any (clash_with p) before ≡ false) ps

fewer_before : (before : List Placed) (p : Placed) (ps : List Placed) → NoneClash (before ++ p ∷ []) ps
    → NoneClash before ps
fewer_before before p [] h = tt
fewer_before before p (q ∷ ps) h = ((clash_before before p q h.0).0, fewer_before before p ps h.1)

none_clash : (before ps : List Placed) → repeated before ps ≡ None → NoneClash before ps
none_clash before [] h = tt
none_clash before (p ∷ ps) h =
    let n = none_repeated before p ps h in
    (n.0, fewer_before before p ps (none_clash (before ++ p ∷ []) ps n.1))

other_way : (a b : List ℕ) → bytes_eq a b ≡ false → bytes_eq b a ≡ false
other_way a b h = by (bytes_eq b a) refl
  where
    by : (same : Bool) → bytes_eq b a ≡ same → bytes_eq b a ≡ false
    by false e = e
    by true e =
        let again : bytes_eq a b ≡ true = (bytes_eq-Decides a b).1 (sym ((bytes_eq-Decides b a).0 e)) in
        absurd (differ (sym h ∙ again))
      where
        differ : false ≡ true → ⊥
        differ e = absurd cc

not_among : (before : List Placed) (p : Placed) (ps : List Placed) → NoneClash (before ++ p ∷ []) ps
    → list_any (bytes_eq p.name) (placed_names ps) ≡ false
not_among before p [] h = refl
not_among before p (q ∷ ps) h =
    let apart = or_parts (clash_with q p) false (clash_before before p q h.0).1 in
    let named = or_parts (bytes_eq q.name p.name) (same_number q.number p.number) apart.0 in
    rw (other_way q.name p.name named.0) (not_among before p ps h.1)

names_differ : (before ps : List Placed) → repeated before ps ≡ None → Differ (placed_names ps)
names_differ before [] h = tt
names_differ before (p ∷ ps) h =
    let n = none_repeated before p ps h in
    (not_among before p ps (none_clash (before ++ p ∷ []) ps n.1), names_differ (before ++ p ∷ []) ps n.1)

none_mapped : {A B : Type 0} (f : A → B) (o : Option A) → option_map f o ≡ None → o ≡ None
none_mapped f None h = refl
none_mapped f (Some x) h = absurd cc

pub different_names : (ps : List Placed) → duplicate_name ps ≡ None → Differ (placed_names ps)
different_names ps h = names_differ [] ps (none_mapped _ (repeated [] ps) h)

pub different_numbers : (ps : List Placed) → duplicate_number ps ≡ None → Differ (placed_names ps)
different_numbers ps h = names_differ [] ps (none_mapped _ (repeated [] ps) h)

-- ---- whose names these are

pub bit_places : (bs : List WrittenNamed) → placed_names (map named_place bs) ≡ map (λ b. b.name) bs
bit_places [] = refl
bit_places (b ∷ bs) = ap (λ (ns : List (List ℕ)). b.name ∷ ns) (bit_places bs)

pub bit_names : (bs : List WrittenNamed) → map (λ n. n.name) (map named_number bs) ≡ map (λ b. b.name) bs
bit_names [] = refl
bit_names (b ∷ bs) = ap (λ (ns : List (List ℕ)). b.name ∷ ns) (bit_names bs)

pub item_places : (items : List WrittenItem) → placed_names (map item_place items) ≡ map (λ i. i.name) items
item_places [] = refl
item_places (i ∷ items) = ap (λ (ns : List (List ℕ)). i.name ∷ ns) (item_places items)

pub item_names : (written : List ℤ) (tries next : ℕ) (items : List WrittenItem)
    → map (λ n. n.name) (numbered_from written tries next items) ≡ map (λ i. i.name) items
item_names written tries next [] = refl
item_names written tries next (i ∷ items) =
    ap (λ (ns : List (List ℕ)). i.name ∷ ns)
    (item_names written tries (next_number written tries next i.number) items)

places_put_in : (site : Site) (cs : Components) → placed_names (placed_at site cs) ≡ names_of cs
places_put_in site type.no_components = refl
places_put_in site (type.component name t presence cs) =
    ap (λ (ns : List (List ℕ)). name ∷ ns) (places_put_in site cs)

pub component_places : (around : Surroundings) (cs : WrittenComponents)
    → placed_names (component_names around cs) ≡ names_of (denoted_components around cs)
component_places around no_components = refl
component_places around (component site name t presence cs) =
    ap (λ (ns : List (List ℕ)). name ∷ ns) (component_places around cs)
component_places around (components_from site t cs) =
    let taken = parts_of (denoted around t) in
    map-append (λ (p : Placed). p.name) (placed_at site taken) (component_names around cs)
    ∙ ap (λ (ns : List (List ℕ)). ns ++ placed_names (component_names around cs)) (places_put_in site taken)
    ∙ ap (λ (ns : List (List ℕ)). names_of taken ++ ns) (component_places around cs)
    ∙ sym (names_join taken (denoted_components around cs))

pub alternative_places : (around : Surroundings) (others : WrittenAlternatives)
    → placed_names (alternative_names others) ≡ names_of (denoted_alternatives around others)
alternative_places around no_alternatives = refl
alternative_places around (alternative site name t others) =
    ap (λ (ns : List (List ℕ)). name ∷ ns) (alternative_places around others)

-- ---- named bits

a_bit : (z : ℤ) (fault : TagFault) → fault_where (not (is_bit z)) fault ≡ None → IsTrue (is_some (place_of_bit z))
a_bit (negsuc n) fault h = absurd cc
a_bit (pos n) fault h = by (nat_le n greatest_bit) h
  where
    by : (low : Bool) → cond (not low) (Some fault) None ≡ None → IsTrue (is_some (cond low (Some n) None))
    by true e = refl
    by false e = absurd cc

pub are_bits : (bs : List WrittenNamed) → first_outside is_bit (map named_place bs) ≡ None
    → AreBits (map named_number bs)
are_bits [] h = tt
are_bits (b ∷ bs) h =
    let p =
    option_or_none (fault_where (is_outside is_bit (named_place b).number) (NumberTooLarge b.site))
    (first_outside is_bit (map named_place bs)) h in
    (a_bit (named_number b).number (NumberTooLarge b.site) p.0, are_bits bs p.1)
