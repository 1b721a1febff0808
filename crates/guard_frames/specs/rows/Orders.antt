-- The headline on two frames, computed: an order that goes, and one that stays.
--
--     Order ::= SEQUENCE { qty INTEGER }
--     Small ::= Order (WITH COMPONENTS { qty (1..9) })
--
-- One rule lets the small orders of north to south through.
use Rattle.std.specs.Prelude.{◌≡◌, ℕ, suc, pos, false, List, [], ◌∷◌, ◌++◌, codes, drop, None, refl}
use Rattle.std.proofs.Common.{inl, inr, arith}
use Rattle.std.proofs.lemmas.List.Elements.{All-cons}
use Rattle.std.specs.Fmt.{digits}
use Rattle.guard_model.specs.declared.site.Step.TheVariants.{Component}
use Rattle.guard_model.specs.AbstractType as type
use Rattle.guard_model.specs.AbstractType.{AbstractType, Components, Constraints, no_components, component, at, no_constraints, constraint}
use Rattle.guard_model.specs.AbstractValue as value
use Rattle.guard_model.specs.AbstractValue.{AbstractValue}
use Rattle.guard_der.specs.Octets.{fewest, unsigned_octets, signed_octets}
use Rattle.guard_der.specs.Element.{identifier_octets, length_octets, element}
use Rattle.guard_eval.specs.rows.Rows.{plain, tagged, column, range_at}
use Rattle.guard_policy.specs.declared.policy.Effect.TheVariants.{Allow}
use Rattle.guard_policy.specs.Policies.{AbstractPolicy}
use Rattle.guard_policy.specs.Verdicts.{AbstractVerdict, not_allowed}
use Rattle.guard_frames.specs.Added.{nothing}
use Rattle.guard_frames.specs.Bodies.{AbstractBody}
use Rattle.guard_frames.specs.Frames.{IsFrame}
use Rattle.guard_frames.specs.Headline.{MayGo, IsLineOf}
use Rattle.guard_frames.specs.OfPolicy.{gives_of, lets_of}
use Rattle.guard_frames.specs.Outcomes.{GoesBy}
use Rattle.guard_frames.specs.Reasons.{Noted}
use Rattle.guard_frames.specs.Reasons.Told.{goes, stays}
use Rattle.guard_frames.specs.declared.why.Reason.TheVariants.{NotAllowed}
use Rattle.guard_frames.specs.declared.why.Why.TheVariants.{BadHeader, Decided}

abbrev components : Components
components = component (codes "qty") (plain 2 (type.integer [])) type.mandatory no_components

abbrev order_type : Constraints → AbstractType
order_type cons = tagged 16 (type.sequence components) cons

abbrev small : Constraints
small = constraint
    (at (column 17) (type.with_components false
    (type.part_within (column 36) 0 (range_at 40 (pos 1) (pos 9)) None type.no_parts)))
    no_constraints

abbrev policy : AbstractPolicy
policy = record {
  messages = record { name = codes "order"; home = codes "Orders"; ty = order_type no_constraints } ∷ [];
  rules = record {
    name = codes "small";
    effect = Allow;
    from = codes "north";
    to = codes "south";
    message = codes "order";
    home = codes "Orders";
    type_name = codes "Small";
    ty = order_type small;
  } ∷ [];
  modules = codes "Orders" ∷ [];
}

-- an order of so many, from north to south
abbrev body : ℕ → AbstractBody
body n = record {
  sender = codes "north";
  receiver = codes "south";
  name = codes "order";
  message_octets = 0x30 ∷ 3 ∷ 2 ∷ 1 ∷ n ∷ [];
}

abbrev frame : ℕ → List ℕ
frame n =
    0 ∷ 0 ∷ 0 ∷ 23 ∷ 5 ∷ codes "north" ++ (5 ∷ codes "south" ++ (5 ∷ codes "order" ++ (0x30 ∷ 3 ∷ 2 ∷ 1 ∷ n ∷ [])))

abbrev order : ℕ → AbstractValue
order n = value.fields (value.present (value.integer (pos n)) value.no_fields)

-- five may go: three names, the declared type, its value and encoding, a rule that allows and none that denies
five_goes : MayGo policy (frame 5)
unfolding fewest unsigned_octets signed_octets identifier_octets length_octets element
five_goes = (
  body 5,
  record { joined = refl; names = record { sender = refl; receiver = refl; name = refl } },
  order_type no_constraints,
  order 5,
  refl,
  refl,
  refl,
  refl,
  refl,
  refl,
)

-- and that rule, which is the first of the policy, is the one by which five goes
five_by_small : GoesBy (lets_of policy) (drop 4 (frame 5)) 0
unfolding fewest unsigned_octets signed_octets identifier_octets length_octets element
five_by_small = (
  body 5,
  record { joined = refl; names = record { sender = refl; receiver = refl; name = refl } },
  ((order_type no_constraints, order 5, refl, refl, refl, refl, refl, refl), refl),
)

-- fifty isn't allowed, by the range in column 40 of the module
abbrev reason : AbstractVerdict
reason = not_allowed ((0, record { site = column 40; path = Component 0 ∷ [] }) ∷ [])

fifty_stays : IsLineOf policy 2 (frame 50) (codes "2 north>south order not-allowed small Orders:1:40 $.qty\n")
unfolding fewest unsigned_octets signed_octets identifier_octets length_octets element digits
fifty_stays = inl (
  body 50,
  record { joined = refl; names = record { sender = refl; receiver = refl; name = refl } },
  inl (reason, inr (order_type no_constraints, refl, inr (order 50, refl, refl, refl)), refl),
)

abbrev line : List ℕ
line = codes "2 north>south order not-allowed small Orders:1:40 $.qty\n"

-- its line gives the reason `not-allowed`
fifty_gives : gives_of policy NotAllowed line
unfolding fewest unsigned_octets signed_octets identifier_octets length_octets element digits
fifty_gives = (
  2,
  body 50,
  reason,
  record { sender = refl; receiver = refl; name = refl },
  inr (order_type no_constraints, refl, inr (order 50, refl, refl, refl)),
  refl,
  refl,
)

-- two lines, and a watch that counts was told of both
two_noted : Noted (gives_of policy) (lets_of policy) (λ n told m. m ≡ suc n) 0 (record { out = []; reports = codes "1 bad-header\n" ++ line }) 2
unfolding digits
two_noted = (
  stays (Decided NotAllowed) ∷ stays BadHeader ∷ [],
  (
    record { out = []; reports = codes "1 bad-header\n" },
    line,
    refl,
    fifty_gives,
    (nothing, codes "1 bad-header\n", refl, (1, refl), (refl, refl)),
  ),
  (1, (0, refl, refl), refl),
)

-- two frames of five, of which a watch that counts was told at once
two_at_once : Noted (gives_of policy) (lets_of policy) (λ n told m. m ≡ suc n) 0 (record { out = frame 5 ++ frame 5; reports = [] }) 1
two_at_once =
    let Let : List ℕ → Type 0 = λ f. IsFrame f × GoesBy (lets_of policy) (drop 4 f) 0 in
    let five : Let (frame 5) = (record { header = omega arith; allowed = omega arith; exact = refl }, five_by_small) in (
      goes 2 54 0 ∷ [],
      (
        nothing,
        frame 5 ++ frame 5,
        refl,
        record {
          frames = frame 5 ∷ frame 5 ∷ [];
          joined = refl;
          counted = refl;
          each = All-cons Let (frame 5) (frame 5 ∷ []) five (All-cons Let (frame 5) [] five (λ k d h. absurd (omega (arith, h))));
        },
        omega arith,
        refl,
        (refl, refl),
      ),
      (0, refl, refl),
    )
