use Rattle.std.proofs.Common.{◌-◌, ◌%◌, ℕ, Ok, subst, sym, ◌∙◌}
use Rattle.guard_model.specs.AbstractValue.{bit_string}
use Rattle.guard_model.specs.Answer.{Gives}
use Rattle.guard_model.specs.ValueView.{value_view}
use Rattle.guard_values.specs.NamedBits.{ones_at}
use Rattle.guard_values.specs.Strings.{octets_of_bits}
use Rattle.guard_values.specs.Views.{named}
use Rattle.guard_values.proofs.SingleValues.NamedBits.{ones_count}
use Rattle.guard_values.proofs.named_bits.ones_at.Goals as goal

pub returns : goal.returns
returns c =
    let count = c.bits_to_last.ensures ∙ sym (ones_count c.args.places.now) in
    subst (λ (n : ℕ). Gives value_view named c.bits_in.result (Ok (bit_string (octets_of_bits (ones_at c.args.places.now)) ((8 - n % 8) % 8)))) count (rw c.in_ok-octets_at.ensures at c.bits_in.ensures)
