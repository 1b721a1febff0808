use Rattle.std.proofs.lemmas.Str.{encodes-chars}
use Rattle.guard_messages.proofs.value_json.put_characters.Goals as goal

pub returns-clause-tokens : goal.returns-clause-tokens
returns-clause-tokens c = rw (encodes-chars c.args.text.now c.utf8.text) c.put.ensures.tokens
