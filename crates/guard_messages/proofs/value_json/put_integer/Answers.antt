use Rattle.std.proofs.Common.{rules}
use Rattle.guard_messages.proofs.JsonNumbers.{signed_is_number}
use Rattle.guard_messages.proofs.value_json.put_integer.Goals as goal

pub put-requires : goal.put-requires
put-requires c = search (rules, signed_is_number)
