-- Going into one element after another, and looking at one after another for a tag.
use Rattle.std.proofs.Common.{◌≡◌, ℕ, suc, ◌+◌, ◌-◌, ◌<◌, cond, List, length, drop, Option, sym, ap, ◌∙◌, arith}
use Rattle.std.proofs.lemmas.List.{at_drop_more}
use Rattle.guard_model.specs.declared.tag.Class.TheVariants.{Universal}
use Rattle.guard_model.specs.declared.tag.Tag.{Tag}
use Rattle.guard_report.specs.Places.{header_there, inside_element, after_element, inside_tags, has_tag, element_with}

pub one_more_try : (octets : List ℕ) (tag : Tag) (tries i : ℕ) (at : Option ℕ) → i < tries
    → element_with octets tag (tries - i) at
    ≡ cond (has_tag tag (header_there octets at)) at (element_with octets tag (tries - (i + 1)) (after_element octets at))
one_more_try octets tag tries i at lt =
    let e : tries - i ≡ suc (tries - (i + 1)) = omega (arith, lt) in
    ap (λ (n : ℕ). element_with octets tag n at) e

pub inside_next : (octets : List ℕ) (tags : List Tag) (i : ℕ) (inner next all : Option ℕ) → i < length tags
    → next ≡ inside_element octets inner → inside_tags octets (drop i tags) inner ≡ all
    → inside_tags octets (drop (i + 1) tags) next ≡ all
inside_next octets tags i inner next all lt is so_far =
    let no_tag : Tag = record { class = Universal; number = 0 } in
    ap (λ (at : Option ℕ). inside_tags octets (drop (i + 1) tags) at) is
    ∙ sym (at_drop_more (λ (ts : List Tag). inside_tags octets ts inner) tags i no_tag lt)
    ∙ so_far
