-- What is made of an argument of a command.
use Rattle.std.specs.Prelude.{◌≡◌, false}
use Rattle.clap.specs.Words.{Rule, rule_of}
use Rattle.clap.specs.declared.builder.arg.Arg.{Arg}

-- it is by this rule, and an argument of its own command alone
abbrev pub IsArg : Rule → Arg → Type 0
IsArg rule a = (rule_of a ≡ rule) × (a.global ≡ false)
