-- Values are arranged by encodings that were made before.
use Rattle.std.proofs.Common.{◌≡◌, ℕ, ◌≤◌, Bool, true, false, cond, List, [], ◌∷◌, ◌++◌, length, map, Some, Ok, refl, sym, ap, ◌∙◌, arith}
use Rattle.std.specs.Prelude.{nat_le}
use Rattle.std.proofs.lemmas.Grind.{common_steps}
use Rattle.guard_model.specs.declared.site.Site.{Site}
use Rattle.guard_model.specs.AbstractType.{AbstractType}
use Rattle.guard_model.specs.AbstractValue as value
use Rattle.guard_model.specs.AbstractValue.{AbstractValue, items_of}
use Rattle.guard_der.specs.Der.{der}
use Rattle.guard_der.specs.Fits.{descends}
use Rattle.guard_values.specs.Arrangement.{EncodedValue, encoded_value, octets_in, encoding_in, comes_after, inserted, arranged, inserted_encoding, arranged_encodings, AreEncodings}
use Rattle.guard_values.specs.inside.Reading.{listed_set}

test_is : (t : AbstractType) (e f : EncodedValue) → der t e.value ≡ Some e.octets → der t f.value ≡ Some f.octets → comes_after t e.value f.value ≡ descends e.octets f.octets
test_is t e f h k = ap (λ (os : List ℕ). descends os (encoding_in t f.value)) (ap octets_in h) ∙ ap (descends e.octets) (ap octets_in k)

one_inserted : (b : Bool) (e f : EncodedValue) (fs : List EncodedValue) (vs : List AbstractValue) → vs ≡ map encoded_value (inserted_encoding e fs)
    → cond b (f.value ∷ vs) (e.value ∷ f.value ∷ map encoded_value fs) ≡ map encoded_value (cond b (f ∷ inserted_encoding e fs) (e ∷ f ∷ fs))
one_inserted true e f fs vs h = ap (λ (ws : List AbstractValue). f.value ∷ ws) h
one_inserted false e f fs vs h = refl

inserted_as : (t : AbstractType) (e : EncodedValue) (fs : List EncodedValue) → der t e.value ≡ Some e.octets → AreEncodings t fs → inserted t e.value (map encoded_value fs) ≡ map encoded_value (inserted_encoding e fs)
inserted_as t e [] h are = refl
inserted_as t e (f ∷ fs) h are =
    ap (λ (b : Bool). cond b (f.value ∷ inserted t e.value (map encoded_value fs)) (e.value ∷ f.value ∷ map encoded_value fs)) (test_is t e f h are.0)
    ∙ one_inserted (descends e.octets f.octets) e f fs (inserted t e.value (map encoded_value fs)) (inserted_as t e fs h are.1)

one_are : (b : Bool) (t : AbstractType) (e f : EncodedValue) (fs : List EncodedValue) → der t e.value ≡ Some e.octets → AreEncodings t (f ∷ fs) → AreEncodings t (inserted_encoding e fs)
    → AreEncodings t (cond b (f ∷ inserted_encoding e fs) (e ∷ f ∷ fs))
one_are true t e f fs h are more = (are.0, more)
one_are false t e f fs h are more = (h, are)

inserted_are : (t : AbstractType) (e : EncodedValue) (fs : List EncodedValue) → der t e.value ≡ Some e.octets → AreEncodings t fs → AreEncodings t (inserted_encoding e fs)
inserted_are t e [] h are = (h, tt)
inserted_are t e (f ∷ fs) h are = one_are (descends e.octets f.octets) t e f fs h are (inserted_are t e fs h are.1)

arranged_are : (t : AbstractType) (es : List EncodedValue) → AreEncodings t es → AreEncodings t (arranged_encodings es)
arranged_are t [] are = tt
arranged_are t (e ∷ es) are = inserted_are t e (arranged_encodings es) are.0 (arranged_are t es are.1)

pub arranged_as : (t : AbstractType) (es : List EncodedValue) → AreEncodings t es → arranged t (map encoded_value es) ≡ map encoded_value (arranged_encodings es)
arranged_as t [] are = refl
arranged_as t (e ∷ es) are = ap (inserted t e.value) (arranged_as t es are.1) ∙ inserted_as t e (arranged_encodings es) are.0 (arranged_are t es are.1)

pub few_are : (n : ℕ) → n ≤ 4294967295 → nat_le n 4294967295 ≡ true
few_are n le = grind (arith, common_steps)

pub listed_as : (site : Site) (t : AbstractType) (es : List EncodedValue) (ws : List AbstractValue) → AreEncodings t es → length (map encoded_value es) ≤ 4294967295 → ws ≡ map encoded_value (arranged_encodings es)
    → listed_set site t (map encoded_value es) ≡ Ok (value.items (items_of ws))
listed_as site t es ws are le is = rw (few_are (length (map encoded_value es)) le, arranged_as t es are, sym is) refl

-- ---- one more

pub one_more_encoding : (t : AbstractType) (es : List EncodedValue) (e : EncodedValue) → AreEncodings t es → der t e.value ≡ Some e.octets → AreEncodings t (es ++ e ∷ [])
one_more_encoding t [] e are h = (h, tt)
one_more_encoding t (f ∷ fs) e are h = (are.0, one_more_encoding t fs e are.1 h)
