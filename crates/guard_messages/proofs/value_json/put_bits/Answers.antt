use Rattle.std.proofs.Common.{append_assoc}
use Rattle.guard_messages.proofs.value_json.put_bits.Goals as goal

pub returns-clause-tokens : goal.returns-clause-tokens
returns-clause-tokens c =
    rw (c.in_ok-put-4.ensures.tokens, c.in_ok-put_length.ensures.tokens, c.in_ok-put-3.ensures.tokens, c.in_ok-put_octets.ensures.tokens)
    (rw (c.in_ok-put-2.ensures.tokens, c.in_ok-put.ensures.tokens, c.as_slice.ensures.value, c.as_slice-2.ensures.value) (simp append_assoc))
