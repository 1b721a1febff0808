-- Tags that are the same are equal.
use Rattle.std.proofs.Common.{◌≡◌, ℕ, eqb, refl, ap, ◌∙◌, arith}
use Rattle.std.specs.Bool.{Decides}
use Rattle.std.proofs.lemmas.Bool.{and_parts, and_from, eqb-true, eq-eqb}
use Rattle.guard_model.specs.Tags.{class_rank, same_tag}
use Rattle.guard_model.specs.declared.tag.Class.{Class}
use Rattle.guard_model.specs.declared.tag.Class.TheVariants.{Universal, Application, Context, Private}
use Rattle.guard_model.specs.declared.tag.Tag.{Tag}
use Rattle.std.specs.Prelude.{true}

pub same_class : (a b : Class) → class_rank a ≡ class_rank b → a ≡ b
same_class Universal Universal e = refl
same_class Application Application e = refl
same_class Context Context e = refl
same_class Private Private e = refl
same_class a b e = absurd (omega arith)

pub equal_tags : (a b : Tag) → same_tag a b ≡ true → a ≡ b
equal_tags a b e =
    let parts = and_parts (eqb (class_rank a.class) (class_rank b.class)) (eqb a.number b.number) e in
    let of_class : Class → Tag = λ c. record { class = c; number = a.number } in
    let of_number : ℕ → Tag = λ n. record { class = b.class; number = n } in
    ap of_class (same_class a.class b.class (eqb-true (class_rank a.class) (class_rank b.class) parts.0)) ∙ ap of_number (eqb-true a.number b.number parts.1)

pub same_tag_itself : (a : Tag) → same_tag a a ≡ true
same_tag_itself a = and_from (eqb (class_rank a.class) (class_rank a.class)) (eqb a.number a.number) (eq-eqb (class_rank a.class) (class_rank a.class) refl) (eq-eqb a.number a.number refl)

pub tag_Decides : (a b : Tag) → Decides (same_tag a b) (a ≡ b)
tag_Decides a b = (equal_tags a b, λ e. rw e (same_tag_itself b))
