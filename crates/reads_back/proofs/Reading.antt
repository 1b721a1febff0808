-- The text of a value is read as the value.
use Rattle.std.proofs.Common.{◌≡◌, ℕ, ◌≤◌, true, ◌&&◌, List, [], length, Some, nat_le, refl, sym, subst, ◌∙◌, append-nil, arith}
use Rattle.std.proofs.lemmas.Bool.{and_parts, leb-true}
use Rattle.guard_model.specs.AbstractType.{AbstractType}
use Rattle.guard_model.specs.AbstractValue.{AbstractValue}
use Rattle.guard_model.specs.Limits.{deepest_nesting}
use Rattle.guard_tagcheck.specs.Limits.{nesting}
use Rattle.guard_der.specs.Der.{der}
use Rattle.guard_der.specs.Fits.{fits}
use Rattle.guard_der.specs.ProperConstraints.{is_short}
use Rattle.guard_der.specs.Sound.{is_sound, is_proper, has_distinct_tags}
use Rattle.guard_lexer.specs.Lexing.{longest_text, tokens_from}
use Rattle.guard_syntax.specs.TokensOf.{value_then}
use Rattle.guard_values.specs.Meanings.{Meaning}
use Rattle.guard_values.proofs.OneAnswer.LengthsInside.{short_within}
use Rattle.guard_values.proofs.OneAnswer.CodeAnswers.{sound_proper}
use Rattle.guard_report.specs.declared.layout.Layout.{Layout}
use Rattle.guard_report.specs.ValueText.{value_octets}
use Rattle.reads_back.specs.Names.{HasNames, is_seen}
use Rattle.reads_back.specs.ReadingBack.{IsReadAs}
use Rattle.reads_back.specs.inside.TreeOf.{tree_of}
use Rattle.reads_back.proofs.Cuts.{Reads, at_end}
use Rattle.reads_back.proofs.ValueTexts.{value_reads}
use Rattle.reads_back.proofs.ValueLevels.{value_levels}
use Rattle.reads_back.proofs.ValueSays.{value_says}
use Rattle.reads_back.proofs.TextTokens.{lexemes_from}

pub sound_nested : (t : AbstractType) → is_sound t ≡ true → nesting t ≤ 128
sound_nested t sound =
    let p = (and_parts (is_proper t && has_distinct_tags t) (nat_le (nesting t) deepest_nesting) sound).1 in
    let le : nesting t ≤ 32 = leb-true (nesting t) 32 p in
    omega (arith, le)

pub reads_back : (m : Meaning) (layout : Layout) (t : AbstractType) (v : AbstractValue) → is_sound t ≡ true → HasNames t → fits t v ≡ true → is_seen v ≡ true → is_short (der t v) ≡ true
    → length (value_octets layout (Some t) v) ≤ longest_text → IsReadAs m t (value_octets layout (Some t) v) v
reads_back m layout t v sound names fit seen short fits_text =
    let text = value_octets layout (Some t) v in
    let tree = tree_of (Some t) v in
    let proper = sound_proper t sound in
    let r : Reads text (value_then tree []) = subst (λ (x : List ℕ). Reads x (value_then tree [])) (append-nil text) (value_reads layout t v [] [] names fit seen refl at_end) in
    record {
      place = 0;
      tokens = tokens_from 0 text 0 r.items;
      lexed = record { lawful = record { short = fits_text; utf8 = r.utf8 }; items = r.items; cut = r.cut; tokens_are = refl };
      tree = tree;
      written = record {
        grammar = value_levels 128 t v proper fit (sound_nested t sound);
        tokens = sym (lexemes_from 0 text text 0 r.items refl r.cut ∙ r.lexemes_are);
      };
      denoted = (value_says m t v names proper fit seen (short_within (der t v) short), short);
    }
