use Rattle.std.proofs.Common.{◌≡◌, ◌∙◌, Global, List, ◌∷◌, ℕ, Some, String, ap, false, map, refl, string_bytes, sym, true}
use Rattle.std.specs.List.{list_any}
use Rattle.std.specs.Prelude.{bytes_eq}
use Rattle.toml.specs.View.{members_view}
use Rattle.toml.specs.declared.value.Value.{Value}
use Rattle.guard_authors.specs.Cases.{first_unknown}
use Rattle.guard_authors.proofs.cases.first_unknown.Goals as goal

known : (keys : List (List ℕ)) (word : String Global) (value : Value) (others : List (String Global × Value)) → list_any (λ key. bytes_eq key (string_bytes word)) keys ≡ true
    → first_unknown keys (members_view ((word, value) ∷ others)) ≡ first_unknown keys (members_view others)
known keys word value others is = rw is refl

unknown : (keys : List (List ℕ)) (word : String Global) (value : Value) (others : List (String Global × Value)) → list_any (λ key. bytes_eq key (string_bytes word)) keys ≡ false
    → first_unknown keys (members_view ((word, value) ∷ others)) ≡ Some (string_bytes word)
unknown keys word value others is = rw is refl

pub returns-then-not-is_among : goal.returns-then-not-is_among
returns-then-not-is_among c =
    let keys : List (List ℕ) = map (λ key. key.now) c.args.keys.now in
    let is = ap (λ (w : List ℕ). list_any (λ key. bytes_eq key w) keys) (sym c.as_str.ensures.value) ∙ sym c.is_among.ensures ∙ c.if-not-is_among.true in
    ap Some c.as_str-then-not-is_among.ensures.value
    ∙ sym (unknown keys c.in-Some.word.now c.in-Some.field-0-1.now c.next.new.self is)
    ∙ ap (λ (ms : List (String Global × Value)). first_unknown keys (members_view ms)) (sym c.in-Some.ensures.steps)
    ∙ c.loop-word.invariant

pub loop-word-preserved : goal.loop-word-preserved
loop-word-preserved c =
    let keys : List (List ℕ) = map (λ key. key.now) c.args.keys.now in
    let is = ap (λ (w : List ℕ). list_any (λ key. bytes_eq key w) keys) (sym c.as_str.ensures.value) ∙ sym c.is_among.ensures ∙ c.if-not-is_among.false in
    sym (known keys c.in-Some.word.now c.in-Some.field-0-1.now c.next.new.self is)
    ∙ ap (λ (ms : List (String Global × Value)). first_unknown keys (members_view ms)) (sym c.in-Some.ensures.steps)
    ∙ c.loop-word.invariant
