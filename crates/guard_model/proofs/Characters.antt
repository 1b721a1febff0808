-- Texts of a kind, one character after another.
use Rattle.std.proofs.Common.{◌≡◌, ℕ, ◌+◌, ◌<◌, Bool, true, List, length, drop, get_or, sym, ap, ◌∙◌, arith}
use Rattle.std.specs.Prelude.{◌&&◌}
use Rattle.std.proofs.lemmas.List.{at_drop_more, drop_all}
use Rattle.guard_model.specs.Alphabets.{all_characters, is_character}
use Rattle.guard_model.specs.declared.ty.CharKind.{CharKind}

pub character_next : (k : CharKind) (cs : List ℕ) (n c : ℕ) → (n < length cs) × (c ≡ get_or cs n c) → all_characters k (drop n cs) ≡ (is_character k c && all_characters k (drop (n + 1) cs))
character_next k cs n c h = at_drop_more (all_characters k) cs n c h.0 ∙ ap (λ (x : ℕ). is_character k x && all_characters k (drop (n + 1) cs)) (sym h.1)

pub characters_end : (k : CharKind) (cs : List ℕ) (n : ℕ) (w : Bool) → n ≡ length cs → all_characters k (drop n cs) ≡ w → true ≡ w
characters_end k cs n w all e = rw (drop_all n cs (omega (arith, all))) at e
