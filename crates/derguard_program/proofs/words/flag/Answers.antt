use Rattle.std.proofs.Common.{◌∙◌, ap, codes, false}
use Rattle.std.specs.Prelude.{Option, bytes_eq}
use Rattle.std.specs.Option.{option_map_or}
use Rattle.clap.specs.Words.{Text, found_of}
use Rattle.clap.proofs.WalkLemmas.{first_value-rows}
use Rattle.derguard_program.proofs.words.flag.Goals as goal

abbrev is_true : Option Text → Rattle.std.proofs.Common.Bool
is_true given = option_map_or (λ value. bytes_eq value (codes "true")) given false

pub returns-in-Some : goal.returns-in-Some
returns-in-Some c = c.eq.ensures ∙ ap is_true (c.in-Some.ensures ∙ first_value-rows (found_of c.args.matches.now) c.args.id.now)

pub returns-in-None : goal.returns-in-None
returns-in-None c = ap is_true (c.in-None.ensures ∙ first_value-rows (found_of c.args.matches.now) c.args.id.now)
