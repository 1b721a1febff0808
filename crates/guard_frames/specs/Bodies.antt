-- The body of a frame: the names of the sender, the receiver and the message, each after one octet of length, and then
-- the message.
use Rattle.std.specs.Prelude.{◌≡◌, ℕ, Bool, ◌&&◌, true, List, [], ◌∷◌, ◌++◌, length, take, drop, nat_lt, if◌then◌else◌, Option, Some, None}
use Rattle.guard_policy.specs.Names.{is_name}
use Rattle.guard_policy.specs.NamedRoutes.{with_length}
use Rattle.guard_frames.specs.declared.body.Body.{Body}

pub record AbstractBody : Type 0 where
  pub sender : List ℕ
  pub receiver : List ℕ
  pub name : List ℕ
  pub message_octets : List ℕ

abbrev pub body_view : Body → AbstractBody
body_view b = record { sender = b.sender.now; receiver = b.receiver.now; name = b.name.now; message_octets = b.message_octets.now }

-- so many octets, and what follows them
abbrev pub part_of_length : ℕ → List ℕ → Option (List ℕ × List ℕ)
part_of_length n octets = if nat_lt (length octets) n then None else Some (take n octets, drop n octets)

-- as many octets as the first one says, and what follows them
unfoldable pub part_first : List ℕ → Option (List ℕ × List ℕ)
part_first [] = None
part_first (n ∷ octets) = part_of_length n octets

-- what comes of the first answer, where there is one
infixl 10 ◌>>=◌
abbrev pub ◌>>=◌ : {A B : Type 0} → Option A → (A → Option B) → Option B
None >>= f = None
(Some x) >>= f = f x

-- what is in the places of three names, each after its length, and what follows it
unfoldable pub parts_in : List ℕ → Option AbstractBody
parts_in octets = do
  sender ← part_first octets
  receiver ← part_first sender.1
  name ← part_first receiver.1
  Some (record { sender = sender.0; receiver = receiver.0; name = name.0; message_octets = name.1 })

-- what is in the place of a name is one
abbrev pub has_names : AbstractBody → Bool
has_names b = is_name b.sender && is_name b.receiver && is_name b.name

-- the body that the octets are; none where the three names aren't there
unfoldable pub body_in : List ℕ → Option AbstractBody
body_in octets = do
  b ← parts_in octets
  if has_names b then Some b else None

-- a name as a header has it: one octet of length, and its octets
abbrev pub named : List ℕ → List ℕ
named name = with_length name

-- the three names, as the header has them
abbrev pub header_of : AbstractBody → List ℕ
header_of b = named b.sender ++ (named b.receiver ++ named b.name)

-- the sender, the receiver and the name of the message are names
pub record HasNames (b : AbstractBody) : Type 0 where
  pub sender : is_name b.sender ≡ true
  pub receiver : is_name b.receiver ≡ true
  pub name : is_name b.name ≡ true

-- the octets are three names, each after its length, and then the message
pub record IsBody (octets : List ℕ) (b : AbstractBody) : Type 0 where
  pub joined : octets ≡ named b.sender ++ (named b.receiver ++ (named b.name ++ b.message_octets))
  pub names : HasNames b
