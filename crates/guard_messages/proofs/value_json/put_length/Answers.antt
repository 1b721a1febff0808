use Rattle.std.proofs.Common.{rules}
use Rattle.guard_messages.proofs.JsonNumbers.{decimal_is_number}
use Rattle.guard_messages.proofs.value_json.put_length.Goals as goal

pub put-requires : goal.put-requires
put-requires c = rw c.format.ensures.text (decimal_is_number c.saturating_sub-bits.result (search rules))
