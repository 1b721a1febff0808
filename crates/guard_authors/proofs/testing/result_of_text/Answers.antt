use Rattle.guard_authors.proofs.testing.result_of_text.Goals as goal

pub result_of_value-requires : goal.result_of_value-requires
result_of_value-requires c = c.in-Some.ensures.sound
