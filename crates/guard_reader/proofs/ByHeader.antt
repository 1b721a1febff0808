-- An element by its header.
use Rattle.std.proofs.Common.{◌≡◌, ℕ, ◌+◌, ◌-◌, Bool, true, false, eqb, List, [], ◌∷◌, length, take, drop, Result, Ok, Err, refl, sym, ap, ◌∙◌, arith}
use Rattle.std.proofs.lemmas.Bool.{cond-true}
use Rattle.std.proofs.lemmas.List.{take_rest}
use Rattle.guard_model.specs.declared.tag.Tag.{Tag}
use Rattle.guard_model.specs.Tags.{same_tag}
use Rattle.guard_model.proofs.Results.{same_Ok}
use Rattle.guard_der.specs.declared.breach.Code.{Code}
use Rattle.guard_der.specs.declared.element.Header.{Header}
use Rattle.guard_der.specs.Breach.{AbstractBreach}
use Rattle.guard_der.specs.Head.{Head, head_of}
use Rattle.guard_der.specs.Header.{header_at, placed}
use Rattle.guard_der.specs.Reading.{same_form}
use Rattle.guard_reader.specs.Fronts.{here, head_front, front_headed}

headed : (tag : Tag) (constructed : Bool) (os : List ℕ) (r : Result Head Code) (h : Header) → placed 0 r ≡ Ok h → same_tag tag h.tag ≡ true → same_form h.constructed constructed ≡ true
    → here (take (h.end - h.contents) (drop h.contents os)) (take (length os - h.end) (drop h.end os)) ≡ front_headed tag constructed os r
headed tag constructed os (Err c) h e same form = absurd cc
headed tag constructed os (Ok x) h e same form =
    let is : record { tag = x.tag; constructed = x.constructed; contents = 0 + x.size; end = 0 + x.size + x.contents } ≡ h = same_Ok {F = AbstractBreach} _ h e in
    let tags : x.tag ≡ h.tag = ap (λ (h : Header). h.tag) is in
    let forms : x.constructed ≡ h.constructed = ap (λ (h : Header). h.constructed) is in
    let start : h.contents ≡ x.size = omega (arith, ap (λ (h : Header). h.contents) is) in
    let stop : h.end ≡ x.size + x.contents = omega (arith, ap (λ (h : Header). h.end) is) in
    let between : x.size + x.contents - x.size ≡ x.contents = omega arith in
    ap (λ (rest : List ℕ). here (take (h.end - h.contents) (drop h.contents os)) rest) (take_rest os h.end)
    ∙ rw (start, stop, between) refl
    ∙ sym (cond-true (same_tag tag x.tag) _ _ (ap (same_tag tag) tags ∙ same) ∙ cond-true (same_form x.constructed constructed) _ _ (ap (λ (b : Bool). same_form b constructed) forms ∙ form))

pub front_read : (tag : Tag) (constructed : Bool) (os : List ℕ) (h : Header) → eqb (length os) 0 ≡ false → header_at 0 os ≡ Ok h → same_tag tag h.tag ≡ true → same_form h.constructed constructed ≡ true
    → here (take (h.end - h.contents) (drop h.contents os)) (take (length os - h.end) (drop h.end os)) ≡ head_front tag constructed os
unfolding head_front
front_read tag constructed [] h some e same form = absurd cc
front_read tag constructed (o ∷ os) h some e same form = headed tag constructed (o ∷ os) (head_of (o ∷ os)) h e same form
