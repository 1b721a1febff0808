-- What is read of types is what they write.
use Rattle.std.proofs.Common.{◌≡◌, ℕ, zero, suc, ◌≤◌, ◌<◌, true, false, ◌||◌, List, [], ◌∷◌, length, Option, Some, None, refl, ap, sym, ◌∙◌, arith}
use Rattle.std.proofs.lemmas.Bool.{cond_both}
use Rattle.guard_model.specs.declared.site.Site.{Site}
use Rattle.guard_lexer.specs.declared.token.TokenKind.TheVariants.{Reserved, UpperName, LowerName, Number, Mark}
use Rattle.guard_lexer.specs.declared.token.Reserved.{Reserved as ReservedWord}
use Rattle.guard_lexer.specs.declared.token.Reserved.TheVariants.{Application, Bit, Boolean, Choice, Components, Default, Enumerated, Explicit, Ia5String, Identifier, Implicit, Integer, Null, NumericString, Object, Octet, Of, Optional, PrintableString, Private, Sequence, Set, Size, String, Universal, Utf8String, VisibleString}
use Rattle.guard_lexer.specs.declared.token.Mark.TheVariants.{Comma, LeftBrace, LeftBracket, LeftParenthesis, RightBrace, RightBracket, RightParenthesis}
use Rattle.guard_syntax.specs.declared.tree.TagClass.TheVariants as class
use Rattle.guard_syntax.specs.declared.tree.TagMode.TheVariants as mode
use Rattle.guard_syntax.specs.declared.tree.PlainType.{PlainType}
use Rattle.guard_syntax.specs.declared.tree.PlainType.TheVariants as plain_type
use Rattle.guard_syntax.specs.declared.tree.Collection.{Collection}
use Rattle.guard_syntax.specs.declared.tree.Collection.TheVariants as collection
use Rattle.guard_syntax.specs.Lexemes.{Lexeme, word, mark, lower_name}
use Rattle.guard_syntax.specs.Trees.{WrittenNumber, WrittenValue, WrittenSet, WrittenConstraint, WrittenNamed, WrittenItem, WrittenPresence, WrittenType, WrittenBase, plain, enumerated, of_type, WrittenComponents, WrittenComponentForm, named, components_of_type, WrittenComponent, component_before, components_of, WrittenAlternatives, alternative, WrittenAlternative, alternatives_of}
use Rattle.guard_syntax.specs.TokensOf.{each_then, parted_then, number_then, value_then, set_then, constraint_then, class_then, mode_then, tag_then, parenthesised_then, named_then, item_then, numbers_then, plain_then, collection_word, of_constraint_then, presence_then, components_comma, type_then, base_then, components_then, alternatives_then}
use Rattle.guard_syntax.specs.Sites.{first, past, sited_each, sited_parted, sited_number, sited_value, sited_set, sited_constraint, sited_tag, sited_parenthesised, sited_named, sited_item, sited_numbers, past_plain, sited_of_constraint, sited_presence, past_components_comma, sited_type, sited_base, sited_components, sited_alternatives}
use Rattle.guard_syntax.specs.Grammar.{Any, IsNumber, IsUnsigned, AreEach, AreSome, IsValue, IsSet, IsConstraint, IsItem, IsOfConstraint, IsPresence, MayConstrain, HasAlternatives, IsType, IsBase, AreComponents, AreAlternatives}
use Rattle.guard_syntax.specs.inside.ReadTokens.{Placed, Reader, begins_with, behind, behind_if, read_unsigned}
use Rattle.guard_syntax.specs.inside.ReadValues.{is_there}
use Rattle.guard_syntax.specs.inside.ReadTypes.{read_bit_string, class_at, mode_at, read_tag, begins_tag, begins_constraint, read_in_parentheses, read_named, read_item_number, read_item, read_numbers, read_items, single_word_at, begins_two_words, read_two_words, read_presence, read_component_form, read_component, read_components, read_alternative, read_choice, read_structure, read_of_constraint, read_of, read_collection, plain_or_name, read_word_or_name, read_simple, read_base, is_of, read_constraints, begins_type, read_inner_type, read_type}
use Rattle.guard_syntax.proofs.SoundSteps.{lexemes, sites, Holds, then_holds, ok_holds, err_holds, if_holds, so_holds, Took, took, took_mark, took_word, took_spelled, IsRead, Sound}
use Rattle.guard_syntax.proofs.SoundLists.{some_each, passed, WordRead, word_sound, no_word_sound, PerhapsRead, there_sound, missing_sound, number_sound, each_sound, parted_sound}
use Rattle.guard_syntax.proofs.SoundValues.{value_sound}
use Rattle.guard_syntax.proofs.SoundSets.{constraint_sound, set_sound}

-- ---- tags

class_sound : (ps : List Placed) → WordRead class_then ps (class_at ps)
class_sound ps =
    cond_both (begins_with (Reserved Universal) ps) _ _ (WordRead class_then ps) (λ h. word_sound class_then class.Universal Universal ps (λ rest. refl) h) (λ h.
    cond_both (begins_with (Reserved Application) ps) _ _ (WordRead class_then ps) (λ h. word_sound class_then class.Application Application ps (λ rest. refl) h) (λ h.
    cond_both (begins_with (Reserved Private) ps) _ _ (WordRead class_then ps) (λ h. word_sound class_then class.Private Private ps (λ rest. refl) h) (λ h.
    no_word_sound class_then ps)))

mode_sound : (ps : List Placed) → WordRead mode_then ps (mode_at ps)
mode_sound ps =
    cond_both (begins_with (Reserved Implicit) ps) _ _ (WordRead mode_then ps) (λ h. word_sound mode_then mode.Implicit Implicit ps (λ rest. refl) h) (λ h.
    cond_both (begins_with (Reserved Explicit) ps) _ _ (WordRead mode_then ps) (λ h. word_sound mode_then mode.Explicit Explicit ps (λ rest. refl) h) (λ h.
    no_word_sound mode_then ps))

pub tag_sound : Sound tag_then sited_tag Any read_tag
unfolding read_tag
tag_sound ps =
    then_holds _ (took_mark LeftBracket ps) (λ o opening.
    let c = class_sound o in
    then_holds _ (took_spelled Number (behind_if (is_there (class_at o)) o)) (λ a digits.
    then_holds _ (took_mark RightBracket a.1) (λ d closing.
    let m = mode_sound d in
    ok_holds _ (record {
      lexemes_are = rw (opening.lexemes_are, c.lexemes_are, digits.lexemes_are, closing.lexemes_are, m.lexemes_are) refl;
      sites_are = rw (opening.sites_are, c.sites_are, digits.sites_are, closing.sites_are, m.sites_are) refl;
      shorter = omega (arith, opening.shorter, c.shorter, digits.shorter, closing.shorter, m.shorter);
      lawful = tt;
    }))))

-- ---- named numbers, named bits and items

pub unsigned_sound : Sound number_then sited_number IsUnsigned read_unsigned
unfolding read_unsigned
unsigned_sound ps =
    then_holds _ (took_spelled Number ps) (λ a digits. ok_holds _ (record {
      lexemes_are = digits.lexemes_are;
      sites_are = rw digits.sites_are refl;
      shorter = omega (arith, digits.shorter);
      lawful = refl;
    }))

module _ {Is : WrittenNumber → Type 0} {read : Reader WrittenNumber} (one_sound : Sound number_then sited_number Is read) where
  in_parentheses_sound : Sound parenthesised_then sited_parenthesised Is (read_in_parentheses read)
  unfolding read_in_parentheses
  in_parentheses_sound ps =
      then_holds _ (took_mark LeftParenthesis ps) (λ o opening.
      then_holds _ (one_sound o) (λ a n.
      then_holds _ (took_mark RightParenthesis a.1) (λ d closing.
      let from : List Site → WrittenNumber × List Site = λ ss. ((sited_number a.0 ss).0, past (sited_number a.0 ss).1) in
      let behind_number : WrittenNumber × List Site → WrittenNumber × List Site = λ m. (m.0, past m.1) in
      let behind_closing : List Site → WrittenNumber × List Site = λ ss. (a.0, ss) in
      ok_holds _ (record {
        lexemes_are = rw (opening.lexemes_are, n.lexemes_are, closing.lexemes_are) refl;
        sites_are = ap from opening.sites_are ∙ ap behind_number n.sites_are ∙ ap behind_closing closing.sites_are;
        shorter = omega (arith, opening.shorter, n.shorter, closing.shorter);
        lawful = n.lawful;
      }))))

  pub named_sound : Sound named_then sited_named (λ n. Is n.number) (read_named read)
  unfolding read_named
  named_sound ps =
      then_holds _ (took_spelled LowerName ps) (λ a name.
      then_holds _ (in_parentheses_sound a.1) (λ b n.
      let from : List Site → WrittenNamed × List Site = λ ss. (record { site = first (sites ps); name = a.0; number = (sited_parenthesised b.0 ss).0 }, (sited_parenthesised b.0 ss).1) in
      let with_number : WrittenNumber × List Site → WrittenNamed × List Site = λ m. (record { site = first (sites ps); name = a.0; number = m.0 }, m.1) in
      ok_holds _ (record {
        lexemes_are = rw (name.lexemes_are, n.lexemes_are) refl;
        sites_are = ap from name.sites_are ∙ ap with_number n.sites_are;
        shorter = omega (arith, name.shorter, n.shorter);
        lawful = n.lawful;
      })))

item_number_sound : (ps : List Placed) → Holds (read_item_number ps) (λ x. PerhapsRead parenthesised_then sited_parenthesised IsNumber ps x.0 x.1)
unfolding read_item_number
item_number_sound ps = if_holds (begins_with (Mark LeftParenthesis) ps) _ _ (λ h. then_holds _ (in_parentheses_sound number_sound ps) (λ a n. ok_holds _ (there_sound n))) (λ h. ok_holds _ (missing_sound ps))

pub item_sound : Sound item_then sited_item IsItem read_item
unfolding read_item
item_sound ps =
    then_holds _ (took_spelled LowerName ps) (λ a name.
    then_holds _ (item_number_sound a.1) (λ b n. ok_holds _ (record {
      lexemes_are = rw (name.lexemes_are, n.lexemes_are) refl;
      sites_are = rw (name.sites_are, n.sites_are) refl;
      shorter = omega (arith, name.shorter, n.shorter);
      lawful = n.lawful;
    })))

-- after INTEGER or BIT STRING
record NumbersRead (Is : WrittenNamed → Type 0) (ps : List Placed) (all : List WrittenNamed) (rest : List Placed) : Type 0 where
  pub lexemes_are : lexemes ps ≡ numbers_then all (lexemes rest)
  pub sites_are : sited_numbers all (sites ps) ≡ (all, sites rest)
  pub shorter : length rest ≤ length ps
  pub lawful : AreEach Is all

numbers_shown : (Is : WrittenNamed → Type 0) (all : List WrittenNamed) (rest : List Lexeme) → AreSome Is all → numbers_then all rest ≡ mark LeftBrace ∷ parted_then named_then all (mark RightBrace ∷ rest)
numbers_shown Is [] rest h = absurd h
numbers_shown Is (n ∷ ns) rest h = refl

numbers_at : (Is : WrittenNamed → Type 0) (all : List WrittenNamed) (ss : List Site) → AreSome Is all → sited_numbers all ss ≡ ((sited_parted sited_named all (past ss)).0, past (sited_parted sited_named all (past ss)).1)
numbers_at Is [] ss h = absurd h
numbers_at Is (n ∷ ns) ss h = refl

numbers_sound : {Is : WrittenNumber → Type 0} {read : Reader WrittenNumber} (one_sound : Sound number_then sited_number Is read) (ps : List Placed) → Holds (read_numbers read ps) (λ x. NumbersRead (λ n. Is n.number) ps x.0 x.1)
unfolding read_numbers
numbers_sound {Is} one_sound ps =
    let IsNamedSo : WrittenNamed → Type 0 = λ n. Is n.number in
    if_holds (begins_with (Mark LeftBrace) ps) _ _ (λ h.
    let opening = took (Mark LeftBrace) ps h in
    then_holds _ (parted_sound (named_sound one_sound) (length (behind ps)) (behind ps)) (λ a all.
    then_holds _ (took_mark RightBrace a.1) (λ d closing. ok_holds _ (record {
      lexemes_are = rw (opening.lexemes_are, all.lexemes_are, closing.lexemes_are) (sym (numbers_shown IsNamedSo a.0 (lexemes d) all.lawful));
      sites_are = numbers_at IsNamedSo a.0 (sites ps) all.lawful ∙ rw (opening.sites_are, all.sites_are, closing.sites_are) refl;
      shorter = omega (arith, opening.shorter, all.shorter, closing.shorter);
      lawful = some_each IsNamedSo a.0 all.lawful;
    }))))
    (λ h. ok_holds _ (record { lexemes_are = refl; sites_are = refl; shorter = omega arith; lawful = tt }))

-- ---- types that are written with words alone

record PlainRead (ps : List Placed) (p : PlainType) (rest : List Placed) : Type 0 where
  pub lexemes_are : lexemes ps ≡ plain_then p (lexemes rest)
  pub sites_are : past_plain p (sites ps) ≡ sites rest
  pub shorter : length rest < length ps

PlainAt : List Placed → Option PlainType → Type 0
PlainAt ps None = Unit {0}
PlainAt ps (Some p) = PlainRead ps p (behind ps)

one_word : (p : PlainType) (w : ReservedWord) (ps : List Placed) → ((rest : List Lexeme) → plain_then p rest ≡ word w ∷ rest) → ((ss : List Site) → past_plain p ss ≡ past ss) → begins_with (Reserved w) ps ≡ true → PlainAt ps (Some p)
unfolding PlainAt
one_word p w ps shows passes h =
    let t = took (Reserved w) ps h in
    record { lexemes_are = t.lexemes_are ∙ sym (shows (lexemes (behind ps))); sites_are = passes (sites ps) ∙ t.sites_are; shorter = omega (arith, t.shorter) }

single_word_sound : (ps : List Placed) → PlainAt ps (single_word_at ps)
unfolding PlainAt
single_word_sound ps =
    cond_both (begins_with (Reserved Boolean) ps) _ _ (PlainAt ps) (λ h. one_word plain_type.Boolean Boolean ps (λ rest. refl) (λ ss. refl) h) (λ h.
    cond_both (begins_with (Reserved Null) ps) _ _ (PlainAt ps) (λ h. one_word plain_type.Null Null ps (λ rest. refl) (λ ss. refl) h) (λ h.
    cond_both (begins_with (Reserved Utf8String) ps) _ _ (PlainAt ps) (λ h. one_word plain_type.Utf8String Utf8String ps (λ rest. refl) (λ ss. refl) h) (λ h.
    cond_both (begins_with (Reserved NumericString) ps) _ _ (PlainAt ps) (λ h. one_word plain_type.NumericString NumericString ps (λ rest. refl) (λ ss. refl) h) (λ h.
    cond_both (begins_with (Reserved PrintableString) ps) _ _ (PlainAt ps) (λ h. one_word plain_type.PrintableString PrintableString ps (λ rest. refl) (λ ss. refl) h) (λ h.
    cond_both (begins_with (Reserved Ia5String) ps) _ _ (PlainAt ps) (λ h. one_word plain_type.Ia5String Ia5String ps (λ rest. refl) (λ ss. refl) h) (λ h.
    cond_both (begins_with (Reserved VisibleString) ps) _ _ (PlainAt ps) (λ h. one_word plain_type.VisibleString VisibleString ps (λ rest. refl) (λ ss. refl) h) (λ h.
    tt)))))))

two_words_sound : (ps : List Placed) → Holds (read_two_words ps) (λ x. PlainRead ps x.0 x.1)
unfolding read_two_words
two_words_sound ps =
    if_holds (begins_with (Reserved Octet) ps) _ _ (λ h. let t = took (Reserved Octet) ps h in then_holds _ (took_word String (behind ps)) (λ rest u. ok_holds _ (record { lexemes_are = rw (t.lexemes_are, u.lexemes_are) refl; sites_are = rw (t.sites_are, u.sites_are) refl; shorter = omega (arith, t.shorter, u.shorter) }))) (λ h.
    then_holds _ (took_word Object ps) (λ a t. then_holds _ (took_word Identifier a) (λ rest u. ok_holds _ (record { lexemes_are = rw (t.lexemes_are, u.lexemes_are) refl; sites_are = rw (t.sites_are, u.sites_are) refl; shorter = omega (arith, t.shorter, u.shorter) }))))

plain_or_name_sound : (levels : ℕ) (x : Option PlainType) (ps : List Placed) → PlainAt ps x → Holds (plain_or_name x ps) (λ y. IsRead base_then sited_base (IsBase levels) ps y.0 y.1)
unfolding PlainAt
plain_or_name_sound levels None ps h = then_holds _ (took_spelled UpperName ps) (λ a name. ok_holds _ (record { lexemes_are = name.lexemes_are; sites_are = rw name.sites_are refl; shorter = omega (arith, name.shorter); lawful = tt }))
plain_or_name_sound levels (Some p) ps h = ok_holds _ (record { lexemes_are = h.lexemes_are; sites_are = rw h.sites_are refl; shorter = h.shorter; lawful = tt })

-- after ENUMERATED
abbrev items_then : List WrittenItem → List Lexeme → List Lexeme
items_then all rest = mark LeftBrace ∷ parted_then item_then all (mark RightBrace ∷ rest)

abbrev sited_items : List WrittenItem → List Site → List WrittenItem × List Site
sited_items all ss = let inside = sited_parted sited_item all (past ss) in (inside.0, past inside.1)

items_sound : Sound items_then sited_items (AreSome IsItem) read_items
unfolding read_items
items_sound ps =
    then_holds _ (took_mark LeftBrace ps) (λ o opening.
    then_holds _ (parted_sound item_sound (length o) o) (λ a all.
    then_holds _ (took_mark RightBrace a.1) (λ d closing. ok_holds _ (record {
      lexemes_are = rw (opening.lexemes_are, all.lexemes_are, closing.lexemes_are) refl;
      sites_are = rw (opening.sites_are, all.sites_are, closing.sites_are) refl;
      shorter = omega (arith, opening.shorter, all.shorter, closing.shorter);
      lawful = all.lawful;
    }))))

simple_sound : (levels : ℕ) → Sound base_then sited_base (IsBase levels) read_simple
unfolding read_simple read_bit_string read_word_or_name
simple_sound levels ps =
    if_holds (begins_two_words ps) _ _ (λ h. then_holds _ (two_words_sound ps) (λ a p. ok_holds _ (record { lexemes_are = p.lexemes_are; sites_are = rw p.sites_are refl; shorter = p.shorter; lawful = tt }))) (λ h.
    if_holds (begins_with (Reserved Integer) ps) _ _ (λ h. let w = took (Reserved Integer) ps h in then_holds _ (numbers_sound number_sound (behind ps)) (λ a all. ok_holds _ (record { lexemes_are = rw (w.lexemes_are, all.lexemes_are) refl; sites_are = rw (w.sites_are, all.sites_are) refl; shorter = omega (arith, w.shorter, all.shorter); lawful = all.lawful }))) (λ h.
    if_holds (begins_with (Reserved Bit) ps) _ _ (λ h.
    let w = took (Reserved Bit) ps h in
    then_holds _ (took_word String (behind ps)) (λ o string.
    then_holds _ (numbers_sound unsigned_sound o) (λ a all. ok_holds _ (record {
      lexemes_are = rw (w.lexemes_are, string.lexemes_are, all.lexemes_are) refl;
      sites_are = rw (w.sites_are, string.sites_are, all.sites_are) refl;
      shorter = omega (arith, w.shorter, string.shorter, all.shorter);
      lawful = all.lawful;
    })))) (λ h.
    if_holds (begins_with (Reserved Enumerated) ps) _ _ (λ h.
    let w = took (Reserved Enumerated) ps h in
    then_holds _ (items_sound (behind ps)) (λ a all.
    let from : List Site → WrittenBase × List Site = λ ss. (enumerated (sited_items a.0 ss).0, (sited_items a.0 ss).1) in
    let with_items : List WrittenItem × List Site → WrittenBase × List Site = λ x. (enumerated x.0, x.1) in
    ok_holds _ (record {
      lexemes_are = rw (w.lexemes_are, all.lexemes_are) refl;
      sites_are = ap from w.sites_are ∙ ap with_items all.sites_are;
      shorter = omega (arith, w.shorter, all.shorter);
      lawful = all.lawful;
    }))) (λ h.
    plain_or_name_sound levels (single_word_at ps) ps (single_word_sound ps)))))

-- ---- components

abbrev pub component_form_then : WrittenComponentForm → List Lexeme → List Lexeme
component_form_then (named name ty p) rest = lower_name name ∷ type_then ty (presence_then p rest)
component_form_then (components_of_type ty) rest = word Components ∷ word Of ∷ type_then ty rest

abbrev pub component_then : WrittenComponent → List Lexeme → List Lexeme
component_then c rest = component_form_then c.form rest

abbrev pub sited_component_form : WrittenComponentForm → List Site → WrittenComponentForm × List Site
sited_component_form (named name ty presence) ss =
    let t = sited_type ty (past ss) in
    let p = sited_presence presence t.1 in
    (named name t.0 p.0, p.1)
sited_component_form (components_of_type ty) ss = let t = sited_type ty (past (past ss)) in (components_of_type t.0, t.1)

abbrev pub sited_component : WrittenComponent → List Site → WrittenComponent × List Site
sited_component c ss = let f = sited_component_form c.form ss in (record { site = first ss; form = f.0 }, f.1)

abbrev pub IsComponentForm : ℕ → WrittenComponentForm → Type 0
IsComponentForm levels (named name ty p) = IsType levels ty × IsPresence levels p
IsComponentForm levels (components_of_type ty) = IsType levels ty

abbrev pub IsComponent : ℕ → WrittenComponent → Type 0
IsComponent levels c = IsComponentForm levels c.form

component_print : (site : Site) (f : WrittenComponentForm) (others : WrittenComponents) (rest : List Lexeme) → components_then (component_before site f others) rest ≡ component_form_then f (components_comma others (components_then others rest))
component_print site (named name ty p) others rest = refl
component_print site (components_of_type ty) others rest = refl

component_comma : (site : Site) (f : WrittenComponentForm) (others : WrittenComponents) (rest : List Lexeme) → components_comma (component_before site f others) rest ≡ mark Comma ∷ rest
component_comma site (named name ty p) others rest = refl
component_comma site (components_of_type ty) others rest = refl

past_component_comma : (site : Site) (f : WrittenComponentForm) (others : WrittenComponents) (ss : List Site) → past_components_comma (component_before site f others) ss ≡ past ss
past_component_comma site (named name ty p) others ss = refl
past_component_comma site (components_of_type ty) others ss = refl

component_sited : (site : Site) (f : WrittenComponentForm) (others : WrittenComponents) (ss : List Site) → let k = sited_component_form f ss in let more = sited_components others (past_components_comma others k.1) in
    sited_components (component_before site f others) ss ≡ (component_before (first ss) k.0 more.0, more.1)
component_sited site (named name ty p) others ss = refl
component_sited site (components_of_type ty) others ss = refl

pub components_print : (cs : List WrittenComponent) (rest : List Lexeme) → components_then (components_of cs) rest ≡ parted_then component_then cs rest
components_print [] rest = refl
components_print (c ∷ []) rest = component_print c.site c.form (components_of []) rest
components_print (c ∷ d ∷ cs) rest =
    component_print c.site c.form (components_of (d ∷ cs)) rest
    ∙ ap (λ (ls : List Lexeme). component_then c ls) (component_comma d.site d.form (components_of cs) (components_then (components_of (d ∷ cs)) rest) ∙ ap (λ (ls : List Lexeme). mark Comma ∷ ls) (components_print (d ∷ cs) rest))

pub components_sited : (cs : List WrittenComponent) (ss : List Site) → sited_components (components_of cs) ss ≡ (components_of (sited_parted sited_component cs ss).0, (sited_parted sited_component cs ss).1)
components_sited [] ss = refl
components_sited (c ∷ []) ss = component_sited c.site c.form (components_of []) ss
components_sited (c ∷ d ∷ cs) ss =
    let one = sited_component_form c.form ss in
    let add : WrittenComponents × List Site → WrittenComponents × List Site = λ more. (component_before (first ss) one.0 more.0, more.1) in
    component_sited c.site c.form (components_of (d ∷ cs)) ss
    ∙ ap (λ (ts : List Site). add (sited_components (components_of (d ∷ cs)) ts)) (past_component_comma d.site d.form (components_of cs) one.1)
    ∙ ap add (components_sited (d ∷ cs) (past one.1))

component_lawful : (levels : ℕ) (site : Site) (f : WrittenComponentForm) (others : WrittenComponents) → IsComponentForm levels f → AreComponents levels others → AreComponents levels (component_before site f others)
component_lawful levels site (named name ty p) others h k = (h.0, h.1, k)
component_lawful levels site (components_of_type ty) others h k = (h, k)

components_lawful : (levels : ℕ) (cs : List WrittenComponent) → AreEach (IsComponent levels) cs → AreComponents levels (components_of cs)
components_lawful levels [] h = tt
components_lawful levels (c ∷ cs) h = component_lawful levels c.site c.form (components_of cs) h.0 (components_lawful levels cs h.1)

-- ---- alternatives

abbrev pub alternative_then : WrittenAlternative → List Lexeme → List Lexeme
alternative_then a rest = lower_name a.name ∷ type_then a.ty rest

abbrev pub sited_alternative : WrittenAlternative → List Site → WrittenAlternative × List Site
sited_alternative a ss = let t = sited_type a.ty (past ss) in (record { site = first ss; name = a.name; ty = t.0 }, t.1)

abbrev pub IsAlternative : ℕ → WrittenAlternative → Type 0
IsAlternative levels a = IsType levels a.ty

pub alternatives_print : (all : List WrittenAlternative) (rest : List Lexeme) → alternatives_then (alternatives_of all) rest ≡ parted_then alternative_then all rest
alternatives_print [] rest = refl
alternatives_print (a ∷ []) rest = refl
alternatives_print (a ∷ b ∷ all) rest = ap (λ (ls : List Lexeme). lower_name a.name ∷ type_then a.ty (mark Comma ∷ ls)) (alternatives_print (b ∷ all) rest)

pub alternatives_sited : (all : List WrittenAlternative) (ss : List Site) → sited_alternatives (alternatives_of all) ss ≡ (alternatives_of (sited_parted sited_alternative all ss).0, (sited_parted sited_alternative all ss).1)
alternatives_sited [] ss = refl
alternatives_sited (a ∷ []) ss = refl
alternatives_sited (a ∷ b ∷ all) ss =
    let one = sited_type a.ty (past ss) in
    let add : WrittenAlternatives × List Site → WrittenAlternatives × List Site = λ more. (alternative (first ss) a.name one.0 more.0, more.1) in
    ap add (alternatives_sited (b ∷ all) (past one.1))

alternatives_lawful : (levels : ℕ) (all : List WrittenAlternative) → AreEach (IsAlternative levels) all → AreAlternatives levels (alternatives_of all)
alternatives_lawful levels [] h = tt
alternatives_lawful levels (a ∷ all) h = (h.0, alternatives_lawful levels all h.1)

some_alternatives : (levels : ℕ) (all : List WrittenAlternative) → AreSome (IsAlternative levels) all → HasAlternatives (alternatives_of all) × AreAlternatives levels (alternatives_of all)
some_alternatives levels [] h = absurd h
some_alternatives levels (a ∷ all) h = (tt, (h.0, alternatives_lawful levels all h.1))

-- ---- constraints after a type

may_have_none : (levels : ℕ) (b : WrittenBase) → MayConstrain levels b []
may_have_none levels (plain p) = tt
may_have_none levels b = tt

may_have_each : (levels : ℕ) (b : WrittenBase) (cs : List WrittenConstraint) → is_of b ≡ false → AreEach (IsConstraint levels) cs → MayConstrain levels b cs
may_have_each levels (of_type k c ty) cs e h = absurd cc
may_have_each levels b cs e h = h

-- what follows the type of a component
record PresenceRead (levels : ℕ) (ps : List Placed) (p : WrittenPresence) (rest : List Placed) : Type 0 where
  pub lexemes_are : lexemes ps ≡ presence_then p (lexemes rest)
  pub sites_are : sited_presence p (sites ps) ≡ (p, sites rest)
  pub shorter : length rest ≤ length ps
  pub lawful : IsPresence levels p

-- after the word SEQUENCE, SET or CHOICE
record BehindRead (levels : ℕ) (w : ReservedWord) (ps : List Placed) (b : WrittenBase) (rest : List Placed) : Type 0 where
  pub lexemes_are : word w ∷ lexemes ps ≡ base_then b (lexemes rest)
  pub sites_are : (ss : List Site) → past ss ≡ sites ps → sited_base b ss ≡ (b, sites rest)
  pub shorter : length rest < length ps
  pub lawful : IsBase levels b

behind_word : (levels : ℕ) (w : ReservedWord) (ps : List Placed) (b : WrittenBase) (rest : List Placed) → Took ps (word w) (behind ps) → BehindRead levels w (behind ps) b rest → IsRead base_then sited_base (IsBase levels) ps b rest
behind_word levels w ps b rest t i = record { lexemes_are = t.lexemes_are ∙ i.lexemes_are; sites_are = i.sites_are (sites ps) t.sites_are; shorter = omega (arith, t.shorter, i.shorter); lawful = i.lawful }

module _ (levels : ℕ) {values : Reader WrittenValue} {sets : Reader WrittenSet} {types : Reader WrittenType} (values_sound : Sound value_then sited_value (IsValue levels) values) (sets_sound : Sound set_then sited_set (IsSet levels) sets) (types_sound : Sound type_then sited_type (IsType levels) types) where
  presence_sound : (ps : List Placed) → Holds (read_presence values ps) (λ x. PresenceRead levels ps x.0 x.1)
  unfolding read_presence
  presence_sound ps =
      if_holds (begins_with (Reserved Optional) ps) _ _ (λ h. let t = took (Reserved Optional) ps h in ok_holds _ (record { lexemes_are = t.lexemes_are; sites_are = rw t.sites_are refl; shorter = omega (arith, t.shorter); lawful = tt })) (λ h.
      if_holds (begins_with (Reserved Default) ps) _ _ (λ h. let t = took (Reserved Default) ps h in then_holds _ (values_sound (behind ps)) (λ a v. ok_holds _ (record { lexemes_are = rw (t.lexemes_are, v.lexemes_are) refl; sites_are = rw (t.sites_are, v.sites_are) refl; shorter = omega (arith, t.shorter, v.shorter); lawful = v.lawful }))) (λ h.
      ok_holds _ (record { lexemes_are = refl; sites_are = refl; shorter = omega arith; lawful = tt })))

  component_form_sound : Sound component_form_then sited_component_form (IsComponentForm levels) (read_component_form values types)
  unfolding read_component_form
  component_form_sound ps =
      if_holds (begins_with (Reserved Components) ps) _ _ (λ h.
      let w = took (Reserved Components) ps h in
      then_holds _ (took_word Of (behind ps)) (λ o of.
      then_holds _ (types_sound o) (λ a ty. ok_holds _ (record {
        lexemes_are = rw (w.lexemes_are, of.lexemes_are, ty.lexemes_are) refl;
        sites_are = rw (w.sites_are, of.sites_are, ty.sites_are) refl;
        shorter = omega (arith, w.shorter, of.shorter, ty.shorter);
        lawful = ty.lawful;
      })))) (λ h.
      then_holds _ (took_spelled LowerName ps) (λ a name.
      then_holds _ (types_sound a.1) (λ b ty.
      then_holds _ (presence_sound b.1) (λ c p. ok_holds _ (record {
        lexemes_are = rw (name.lexemes_are, ty.lexemes_are, p.lexemes_are) refl;
        sites_are = rw (name.sites_are, ty.sites_are, p.sites_are) refl;
        shorter = omega (arith, name.shorter, ty.shorter, p.shorter);
        lawful = (ty.lawful, p.lawful);
      })))))

  pub component_sound : Sound component_then sited_component (IsComponent levels) (read_component values types)
  unfolding read_component
  component_sound ps = then_holds _ (component_form_sound ps) (λ a f. ok_holds _ (record { lexemes_are = f.lexemes_are; sites_are = rw f.sites_are refl; shorter = f.shorter; lawful = f.lawful }))

  record ComponentsRead (ps : List Placed) (cs : List WrittenComponent) (rest : List Placed) : Type 0 where
    pub lexemes_are : lexemes ps ≡ components_then (components_of cs) (lexemes rest)
    pub sites_are : sited_components (components_of cs) (sites ps) ≡ (components_of cs, sites rest)
    pub shorter : length rest ≤ length ps
    pub lawful : AreComponents levels (components_of cs)

  components_sound : (ps : List Placed) → Holds (read_components values types ps) (λ x. ComponentsRead ps x.0 x.1)
  unfolding read_components
  components_sound ps =
      if_holds (begins_with (Mark RightBrace) ps) _ _ (λ h. ok_holds _ (record { lexemes_are = refl; sites_are = refl; shorter = omega arith; lawful = tt })) (λ h.
      so_holds (parted_sound component_sound (length ps) ps) (λ a cs. record {
        lexemes_are = cs.lexemes_are ∙ sym (components_print a.0 (lexemes a.1));
        sites_are = components_sited a.0 (sites ps) ∙ ap (λ (x : List WrittenComponent × List Site). (components_of x.0, x.1)) cs.sites_are;
        shorter = omega (arith, cs.shorter);
        lawful = components_lawful levels a.0 (some_each (IsComponent levels) a.0 cs.lawful);
      }))

  pub alternative_sound : Sound alternative_then sited_alternative (IsAlternative levels) (read_alternative types)
  unfolding read_alternative
  alternative_sound ps =
      then_holds _ (took_spelled LowerName ps) (λ a name.
      then_holds _ (types_sound a.1) (λ b ty. ok_holds _ (record {
        lexemes_are = rw (name.lexemes_are, ty.lexemes_are) refl;
        sites_are = rw (name.sites_are, ty.sites_are) refl;
        shorter = omega (arith, name.shorter, ty.shorter);
        lawful = ty.lawful;
      })))

  choice_sound : (ps : List Placed) → Holds (read_choice types ps) (λ x. BehindRead levels Choice ps x.0 x.1)
  unfolding read_choice
  choice_sound ps =
      then_holds _ (took_mark LeftBrace ps) (λ o opening.
      then_holds _ (parted_sound alternative_sound (length o) o) (λ a all.
      then_holds _ (took_mark RightBrace a.1) (λ d closing.
      let inside : sited_alternatives (alternatives_of a.0) (sites o) ≡ (alternatives_of a.0, sites a.1) = alternatives_sited a.0 (sites o) ∙ ap (λ (x : List WrittenAlternative × List Site). (alternatives_of x.0, x.1)) all.sites_are in
      ok_holds _ (record {
        lexemes_are = rw (opening.lexemes_are, all.lexemes_are, sym (alternatives_print a.0 (lexemes a.1)), closing.lexemes_are) refl;
        sites_are = λ ss e. rw (e, opening.sites_are, inside, closing.sites_are) refl;
        shorter = omega (arith, opening.shorter, all.shorter, closing.shorter);
        lawful = some_alternatives levels a.0 all.lawful;
      }))))

  structure_sound : (k : Collection) (ps : List Placed) → Holds (read_structure k values types ps) (λ x. BehindRead levels (collection_word k) ps x.0 x.1)
  unfolding read_structure
  structure_sound k ps =
      then_holds _ (took_mark LeftBrace ps) (λ o opening.
      then_holds _ (components_sound o) (λ a all.
      then_holds _ (took_mark RightBrace a.1) (λ d closing. ok_holds _ (record {
        lexemes_are = rw (opening.lexemes_are, all.lexemes_are, closing.lexemes_are) refl;
        sites_are = λ ss e. rw (e, opening.sites_are, all.sites_are, closing.sites_are) refl;
        shorter = omega (arith, opening.shorter, all.shorter, closing.shorter);
        lawful = all.lawful;
      }))))

  of_constraint_sound : (ps : List Placed) → Holds (read_of_constraint sets ps) (λ x. PerhapsRead of_constraint_then sited_of_constraint (IsOfConstraint levels) ps x.0 x.1)
  unfolding read_of_constraint
  of_constraint_sound ps =
      let size = begins_with (Reserved Size) ps in
      let before = passed size (word Size) ps (λ h. took (Reserved Size) ps h) in
      if_holds (size || begins_constraint ps) _ _ (λ h.
      then_holds _ (constraint_sound levels values_sound sets_sound (behind_if size ps)) (λ a c. ok_holds _ (record {
        lexemes_are = rw (before.lexemes_are, c.lexemes_are) refl;
        sites_are = rw (before.sites_are, c.sites_are) refl;
        shorter = omega (arith, before.shorter, c.shorter);
        lawful = c.lawful;
      })))
      (λ h. ok_holds _ (missing_sound ps))

  of_sound : (k : Collection) (ps : List Placed) → Holds (read_of k sets types ps) (λ x. BehindRead levels (collection_word k) ps x.0 x.1)
  unfolding read_of
  of_sound k ps =
      then_holds _ (of_constraint_sound ps) (λ a c.
      then_holds _ (took_word Of a.1) (λ o of.
      then_holds _ (types_sound o) (λ b ty. ok_holds _ (record {
        lexemes_are = rw (c.lexemes_are, of.lexemes_are, ty.lexemes_are) refl;
        sites_are = λ ss e. rw (e, c.sites_are, of.sites_are, ty.sites_are) refl;
        shorter = omega (arith, c.shorter, of.shorter, ty.shorter);
        lawful = (c.lawful, ty.lawful);
      }))))

  collection_sound : (k : Collection) (ps : List Placed) → Holds (read_collection k values sets types ps) (λ x. BehindRead levels (collection_word k) ps x.0 x.1)
  unfolding read_collection
  collection_sound k ps = if_holds (begins_with (Mark LeftBrace) ps) _ _ (λ h. structure_sound k ps) (λ h. of_sound k ps)

  pub base_sound : Sound base_then sited_base (IsBase levels) (read_base values sets types)
  unfolding read_base
  base_sound ps =
      if_holds (begins_with (Reserved Sequence) ps) _ _ (λ h. so_holds (collection_sound collection.Sequence (behind ps)) (λ a i. behind_word levels Sequence ps a.0 a.1 (took (Reserved Sequence) ps h) i)) (λ h.
      if_holds (begins_with (Reserved Set) ps) _ _ (λ h. so_holds (collection_sound collection.Set (behind ps)) (λ a i. behind_word levels Set ps a.0 a.1 (took (Reserved Set) ps h) i)) (λ h.
      if_holds (begins_with (Reserved Choice) ps) _ _ (λ h. so_holds (choice_sound (behind ps)) (λ a i. behind_word levels Choice ps a.0 a.1 (took (Reserved Choice) ps h) i)) (λ h.
      simple_sound levels ps)))

  -- the constraints after a base
  record ConstraintsRead (b : WrittenBase) (ps : List Placed) (cs : List WrittenConstraint) (rest : List Placed) : Type 0 where
    pub lexemes_are : lexemes ps ≡ each_then constraint_then cs (lexemes rest)
    pub sites_are : sited_each sited_constraint cs (sites ps) ≡ (cs, sites rest)
    pub shorter : length rest ≤ length ps
    pub lawful : MayConstrain levels b cs

  constraints_sound : (b : WrittenBase) (ps : List Placed) → Holds (read_constraints sets (is_of b) ps) (λ x. ConstraintsRead b ps x.0 x.1)
  unfolding read_constraints
  constraints_sound b ps =
      if_holds (is_of b) _ _ (λ h. ok_holds _ (record { lexemes_are = refl; sites_are = refl; shorter = omega arith; lawful = may_have_none levels b })) (λ h.
      so_holds (each_sound (constraint_sound levels values_sound sets_sound) begins_constraint (length ps) ps) (λ a cs. record { lexemes_are = cs.lexemes_are; sites_are = cs.sites_are; shorter = cs.shorter; lawful = may_have_each levels b a.0 h cs.lawful }))

  pub inner_type_sound : Sound type_then sited_type (IsType (suc levels)) (read_inner_type values sets types)
  unfolding read_inner_type
  inner_type_sound ps =
      then_holds _ (each_sound tag_sound begins_tag (length ps) ps) (λ a tags.
      then_holds _ (base_sound a.1) (λ b base.
      then_holds _ (constraints_sound b.0 b.1) (λ c cs. ok_holds _ (record {
        lexemes_are = rw (tags.lexemes_are, base.lexemes_are, cs.lexemes_are) refl;
        sites_are = rw (tags.sites_are, base.sites_are, cs.sites_are) refl;
        shorter = omega (arith, tags.shorter, base.shorter, cs.shorter);
        lawful = (base.lawful, cs.lawful);
      }))))

pub type_sound : (levels : ℕ) → Sound type_then sited_type (IsType levels) (read_type levels)
unfolding read_type
type_sound zero ps = if_holds (begins_type ps) _ _ (λ h. err_holds _) (λ h. err_holds _)
type_sound (suc levels) ps = inner_type_sound levels (value_sound levels) (set_sound levels) (type_sound levels) ps
