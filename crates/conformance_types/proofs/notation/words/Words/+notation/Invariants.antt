use Rattle.std.proofs.Common.{◌+◌, ◌*◌}
use Rattle.conformance_types.proofs.notation.words.Words.+notation.Given as goal

-- A type and a constraint hand down less depth than they were given; between them each call goes to a lower rank.
abbrev pub decreases-base : goal.decreases-base
decreases-base l = 8 * l.depth + 7

abbrev pub decreases-component : goal.decreases-component
decreases-component l = 8 * l.depth + 4

abbrev pub decreases-components : goal.decreases-components
decreases-components l = 8 * l.depth + 5

abbrev pub decreases-constraint : goal.decreases-constraint
decreases-constraint l = 8 * l.depth

abbrev pub decreases-constraints : goal.decreases-constraints
decreases-constraints l = 8 * l.depth + 1

abbrev pub decreases-element : goal.decreases-element
decreases-element l = 8 * l.depth + 5

abbrev pub decreases-operands : goal.decreases-operands
decreases-operands l = 8 * l.depth + 6

abbrev pub decreases-part : goal.decreases-part
decreases-part l = 8 * l.depth + 2

abbrev pub decreases-parts : goal.decreases-parts
decreases-parts l = 8 * l.depth + 3

abbrev pub decreases-rule : goal.decreases-rule
decreases-rule l = 8 * l.depth + 4

abbrev pub decreases-sequence : goal.decreases-sequence
decreases-sequence l = 8 * l.depth + 6

abbrev pub decreases-set : goal.decreases-set
decreases-set l = 8 * l.depth + 7

abbrev pub decreases-set_type : goal.decreases-set_type
decreases-set_type l = 8 * l.depth + 6

abbrev pub decreases-ty : goal.decreases-ty
decreases-ty l = 8 * l.depth
