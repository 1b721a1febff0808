use Rattle.std.proofs.Common.{◌≡◌, ℕ, List, map, take, option_map}
use Rattle.std.specs.Prelude.{bytes_eq}
use Rattle.std.specs.Map.{lookup}
use Rattle.guard_policy.specs.inside.Listings.{listing, listed_view}
use Rattle.guard_policy.specs.SaidView.{said_message_view, said_view}
use Rattle.guard_policy.proofs.index.Index.of.Given as goal

abbrev pub invariant-loop-place : goal.invariant-loop-place
invariant-loop-place l =
    (name : List ℕ) → option_map listed_view (lookup (λ key. bytes_eq name key.octets.items) l.listed.entries) ≡ listing (map said_message_view (take l.place l.messages)) (map said_view l.rules) name
