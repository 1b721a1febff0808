-- Two octets that spell a tag with a number from 31 to 127 (X.690 8.1.2.4).
use Rattle.std.specs.Prelude.{◌≡◌, ℕ, ◌+◌, ◌*◌, ◌<◌, ◌≤◌, Bool}
use Rattle.guard_model.specs.declared.tag.Tag.{Tag}
use Rattle.guard_model.specs.Tags.{class_rank}
use Rattle.guard_der.specs.Element.{form_bit}

pub record IsSpelled (t : Tag) (constructed : Bool) (first number : ℕ) : Type 0 where
  pub leading : first ≡ 64 * class_rank t.class + form_bit constructed + 31
  pub same : number ≡ t.number
  pub high : 31 ≤ number
  pub short : number < 128
