-- What is read of values is what they write.
use Rattle.std.proofs.Common.{◌≡◌, ℕ, zero, suc, ◌≤◌, ◌==◌, true, List, [], ◌∷◌, length, Option, None, refl, ap, sym, ◌∙◌, subst, arith}
use Rattle.guard_model.specs.declared.site.Site.{Site}
use Rattle.guard_lexer.specs.declared.token.TokenKind.TheVariants.{Reserved, CharacterString, BitString, HexadecimalString, LowerName, Mark}
use Rattle.guard_lexer.specs.declared.token.Reserved.TheVariants.{False, Null, True}
use Rattle.guard_lexer.specs.declared.token.Mark.TheVariants.{Colon, Comma, LeftBrace, RightBrace}
use Rattle.guard_syntax.specs.Lexemes.{Lexeme, mark}
use Rattle.guard_syntax.specs.Trees.{WrittenNumber, WrittenArc, WrittenValue, integer, WrittenEntries, entry, WrittenEntry, entries_of}
use Rattle.guard_syntax.specs.TokensOf.{arc_then, each_then, parted_then, entry_name_then, value_then, value_form_then, entries_then}
use Rattle.guard_syntax.specs.Sites.{first, past, past_perhaps, sited_arc, sited_each, sited_parted, sited_value, sited_value_form, sited_entries}
use Rattle.guard_syntax.specs.Grammar.{AreEach, AreArcs, IsValue, IsValueForm, AreEntries}
use Rattle.guard_syntax.specs.inside.ReadTokens.{Placed, Reader, begins_with, behind}
use Rattle.guard_syntax.specs.inside.ReadValues.{is_there, begins_number, begins_value, begins_arcs, are_arcs, does_not_close, read_entry_name, read_entry, read_entries, read_arcs, read_braces, read_name, read_integer_form, read_string, read_value_form, read_value}
use Rattle.guard_syntax.proofs.SoundSteps.{lexemes, sites, Holds, then_holds, ok_holds, err_holds, if_holds, so_holds, took, took_mark, took_spelled, Sound}
use Rattle.guard_syntax.proofs.SoundLists.{some_each, number_sound, arc_sound, each_sound, parted_sound}

-- one entry
abbrev pub entry_then : WrittenEntry → List Lexeme → List Lexeme
entry_then e rest = entry_name_then e.name (value_then e.value rest)

abbrev pub sited_entry : WrittenEntry → List Site → WrittenEntry × List Site
sited_entry e ss = let one = sited_value e.value (past_perhaps e.name ss) in (record { site = first ss; name = e.name; value = one.0 }, one.1)

abbrev pub IsEntry : ℕ → WrittenEntry → Type 0
IsEntry levels e = IsValue levels e.value

pub entries_print : (es : List WrittenEntry) (rest : List Lexeme) → entries_then (entries_of es) rest ≡ parted_then entry_then es rest
entries_print [] rest = refl
entries_print (e ∷ []) rest = refl
entries_print (e ∷ f ∷ es) rest = ap (λ (ls : List Lexeme). entry_name_then e.name (value_then e.value (mark Comma ∷ ls))) (entries_print (f ∷ es) rest)

pub entries_sited : (es : List WrittenEntry) (ss : List Site) → sited_entries (entries_of es) ss ≡ (entries_of (sited_parted sited_entry es ss).0, (sited_parted sited_entry es ss).1)
entries_sited [] ss = refl
entries_sited (e ∷ []) ss = refl
entries_sited (e ∷ f ∷ es) ss =
    let one = sited_value e.value (past_perhaps e.name ss) in
    let with_first : WrittenEntries × List Site → WrittenEntries × List Site = λ more. (entry (first ss) e.name one.0 more.0, more.1) in
    ap with_first (entries_sited (f ∷ es) (past one.1))

pub entries_lawful : (levels : ℕ) (es : List WrittenEntry) → AreEach (IsEntry levels) es → AreEntries levels (entries_of es)
entries_lawful levels [] h = tt
entries_lawful levels (e ∷ es) h = (h.0, entries_lawful levels es h.1)

-- the name before a value, where there is one
record NameRead (ps : List Placed) (name : Option (List ℕ)) (rest : List Placed) : Type 0 where
  pub lexemes_are : lexemes ps ≡ entry_name_then name (lexemes rest)
  pub sites_are : past_perhaps name (sites ps) ≡ sites rest
  pub shorter : length rest ≤ length ps

no_name : (ps : List Placed) → NameRead ps None ps
no_name ps = record { lexemes_are = refl; sites_are = refl; shorter = omega arith }

entry_name_sound : (ps : List Placed) → Holds (read_entry_name ps) (λ x. NameRead ps x.0 x.1)
unfolding read_entry_name
entry_name_sound ps =
    if_holds (begins_with LowerName ps) _ _ (λ h.
    if_holds (begins_value (behind ps)) _ _ (λ k.
    then_holds _ (took_spelled LowerName ps) (λ a name. ok_holds _ (record { lexemes_are = name.lexemes_are; sites_are = name.sites_are; shorter = omega (arith, name.shorter) })))
    (λ k. ok_holds _ (no_name ps)))
    (λ h. ok_holds _ (no_name ps))

-- entries in braces
record EntriesRead (levels : ℕ) (ps : List Placed) (es : List WrittenEntry) (rest : List Placed) : Type 0 where
  pub lexemes_are : lexemes ps ≡ entries_then (entries_of es) (lexemes rest)
  pub sites_are : sited_entries (entries_of es) (sites ps) ≡ (entries_of es, sites rest)
  pub shorter : length rest ≤ length ps
  pub lawful : AreEntries levels (entries_of es)

record ArcsRead (ps : List Placed) (all : List WrittenArc) (rest : List Placed) : Type 0 where
  pub lexemes_are : lexemes ps ≡ each_then arc_then all (lexemes rest)
  pub sites_are : sited_each sited_arc all (sites ps) ≡ (all, sites rest)
  pub shorter : length rest ≤ length ps
  pub lawful : AreArcs all

has_name : (name : Option (List ℕ)) → is_there name ≡ true → name ≡ None → ⊥
has_name name h e = let k : is_there {A = List ℕ} None ≡ true = subst (λ (n : Option (List ℕ)). is_there n ≡ true) e h in absurd cc

arcs_lawful : (all : List WrittenArc) → are_arcs all ≡ true → AreArcs all
arcs_lawful [] h = absurd cc
arcs_lawful (a ∷ []) h = has_name a.name h
arcs_lawful (a ∷ b ∷ others) h = tt

arcs_sound : (ps : List Placed) → Holds (read_arcs ps) (λ x. ArcsRead ps x.0 x.1)
unfolding read_arcs
arcs_sound ps =
    then_holds _ (each_sound arc_sound does_not_close (length ps) ps) (λ a all.
    if_holds (are_arcs a.0) _ _ (λ h. ok_holds _ (record { lexemes_are = all.lexemes_are; sites_are = all.sites_are; shorter = all.shorter; lawful = arcs_lawful a.0 h })) (λ h. err_holds _))

integer_sound : (levels : ℕ) → Sound value_form_then sited_value_form (IsValueForm levels) read_integer_form
unfolding read_integer_form
integer_sound levels ps = then_holds _ (number_sound ps) (λ a n. ok_holds _ (record { lexemes_are = n.lexemes_are; sites_are = ap (λ (x : WrittenNumber × List Site). (integer x.0, x.1)) n.sites_are; shorter = n.shorter; lawful = n.lawful }))

string_sound : (levels : ℕ) → Sound value_form_then sited_value_form (IsValueForm levels) read_string
unfolding read_string
string_sound levels ps =
    if_holds (begins_with CharacterString ps) _ _ (λ h. then_holds _ (took_spelled CharacterString ps) (λ a t. ok_holds _ (record { lexemes_are = t.lexemes_are; sites_are = rw t.sites_are refl; shorter = omega (arith, t.shorter); lawful = tt }))) (λ h.
    if_holds (begins_with BitString ps) _ _ (λ h. then_holds _ (took_spelled BitString ps) (λ a t. ok_holds _ (record { lexemes_are = t.lexemes_are; sites_are = rw t.sites_are refl; shorter = omega (arith, t.shorter); lawful = tt }))) (λ h.
    then_holds _ (took_spelled HexadecimalString ps) (λ a t. ok_holds _ (record { lexemes_are = t.lexemes_are; sites_are = rw t.sites_are refl; shorter = omega (arith, t.shorter); lawful = tt }))))

module _ (levels : ℕ) {values : Reader WrittenValue} (inside_sound : Sound value_then sited_value (IsValue levels) values) where
  pub entry_sound : Sound entry_then sited_entry (IsEntry levels) (read_entry values)
  unfolding read_entry
  entry_sound ps =
      then_holds _ (entry_name_sound ps) (λ a name.
      then_holds _ (inside_sound a.1) (λ b v. ok_holds _ (record {
        lexemes_are = rw (name.lexemes_are, v.lexemes_are) refl;
        sites_are = rw (name.sites_are, v.sites_are) refl;
        shorter = omega (arith, name.shorter, v.shorter);
        lawful = v.lawful;
      })))

  entries_sound : (ps : List Placed) → Holds (read_entries levels values ps) (λ x. EntriesRead levels ps x.0 x.1)
  unfolding read_entries
  entries_sound ps =
      if_holds (begins_with (Mark RightBrace) ps) _ _ (λ h. ok_holds _ (record { lexemes_are = refl; sites_are = refl; shorter = omega arith; lawful = tt })) (λ h.
      if_holds (levels == 0) _ _ (λ h. if_holds (begins_value ps) _ _ (λ h. err_holds _) (λ h. err_holds _)) (λ h.
      so_holds (parted_sound entry_sound (length ps) ps) (λ a es. record {
        lexemes_are = es.lexemes_are ∙ sym (entries_print a.0 (lexemes a.1));
        sites_are = entries_sited a.0 (sites ps) ∙ ap (λ (x : List WrittenEntry × List Site). (entries_of x.0, x.1)) es.sites_are;
        shorter = omega (arith, es.shorter);
        lawful = entries_lawful levels a.0 (some_each (IsEntry levels) a.0 es.lawful);
      })))

  braces_sound : Sound value_form_then sited_value_form (IsValueForm levels) (read_braces levels values)
  unfolding read_braces
  braces_sound ps =
      then_holds _ (took_mark LeftBrace ps) (λ opening o.
      if_holds (begins_arcs opening) _ _ (λ h.
      then_holds _ (arcs_sound opening) (λ a all.
      then_holds _ (took_mark RightBrace a.1) (λ closing c. ok_holds _ (record {
        lexemes_are = rw (o.lexemes_are, all.lexemes_are, c.lexemes_are) refl;
        sites_are = rw (o.sites_are, all.sites_are, c.sites_are) refl;
        shorter = omega (arith, o.shorter, all.shorter, c.shorter);
        lawful = all.lawful;
      })))) (λ h.
      then_holds _ (entries_sound opening) (λ a all.
      then_holds _ (took_mark RightBrace a.1) (λ closing c. ok_holds _ (record {
        lexemes_are = rw (o.lexemes_are, all.lexemes_are, c.lexemes_are) refl;
        sites_are = rw (o.sites_are, all.sites_are, c.sites_are) refl;
        shorter = omega (arith, o.shorter, all.shorter, c.shorter);
        lawful = all.lawful;
      })))))

  name_sound : Sound value_form_then sited_value_form (IsValueForm levels) (read_name values)
  unfolding read_name
  name_sound ps =
      then_holds _ (took_spelled LowerName ps) (λ a name.
      if_holds (begins_with (Mark Colon) a.1) _ _ (λ h.
      let colon = took (Mark Colon) a.1 h in
      then_holds _ (inside_sound (behind a.1)) (λ b v. ok_holds _ (record {
        lexemes_are = rw (name.lexemes_are, colon.lexemes_are, v.lexemes_are) refl;
        sites_are = rw (name.sites_are, colon.sites_are, v.sites_are) refl;
        shorter = omega (arith, name.shorter, colon.shorter, v.shorter);
        lawful = v.lawful;
      }))) (λ h. ok_holds _ (record { lexemes_are = name.lexemes_are; sites_are = rw name.sites_are refl; shorter = omega (arith, name.shorter); lawful = tt })))

  pub form_sound : Sound value_form_then sited_value_form (IsValueForm levels) (read_value_form levels values)
  unfolding read_value_form
  form_sound ps =
      if_holds (begins_with (Reserved True) ps) _ _ (λ h. let t = took (Reserved True) ps h in ok_holds _ (record { lexemes_are = t.lexemes_are; sites_are = rw t.sites_are refl; shorter = omega (arith, t.shorter); lawful = tt })) (λ h.
      if_holds (begins_with (Reserved False) ps) _ _ (λ h. let t = took (Reserved False) ps h in ok_holds _ (record { lexemes_are = t.lexemes_are; sites_are = rw t.sites_are refl; shorter = omega (arith, t.shorter); lawful = tt })) (λ h.
      if_holds (begins_with (Reserved Null) ps) _ _ (λ h. let t = took (Reserved Null) ps h in ok_holds _ (record { lexemes_are = t.lexemes_are; sites_are = rw t.sites_are refl; shorter = omega (arith, t.shorter); lawful = tt })) (λ h.
      if_holds (begins_number ps) _ _ (λ h. integer_sound levels ps) (λ h.
      if_holds (begins_with LowerName ps) _ _ (λ h. name_sound ps) (λ h.
      if_holds (begins_with (Mark LeftBrace) ps) _ _ (λ h. braces_sound ps) (λ h.
      string_sound levels ps))))))

pub value_sound : (levels : ℕ) → Sound value_then sited_value (IsValue levels) (read_value levels)
unfolding read_value
value_sound zero ps = if_holds (begins_value ps) _ _ (λ h. err_holds _) (λ h. err_holds _)
value_sound (suc levels) ps =
    then_holds _ (form_sound levels (value_sound levels) ps) (λ a f. ok_holds _ (record { lexemes_are = f.lexemes_are; sites_are = rw f.sites_are refl; shorter = f.shorter; lawful = f.lawful }))
