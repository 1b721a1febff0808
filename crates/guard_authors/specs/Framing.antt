-- The frame that holds a message.
use Rattle.std.specs.Prelude.{◌≡◌, ◌<◌, ◌≤◌, ◌⊎◌, ℕ, List, [], ◌++◌, Option, Some, None, length, unwrap_or, false, true}
use Rattle.std.specs.Int.{w32, to_be_bytes}
use Rattle.guard_frames.specs.Bodies.{AbstractBody, has_names, named}

-- the names as they are asked for, and the message; a name that isn't given is no octets, which are no name
abbrev pub body_of : Option (List ℕ) → Option (List ℕ) → List ℕ → List ℕ → AbstractBody
body_of from to name message =
    record { sender = unwrap_or from []; receiver = unwrap_or to []; name = name; message_octets = message }

abbrev pub body_octets : AbstractBody → List ℕ
body_octets b = named b.sender ++ (named b.receiver ++ (named b.name ++ b.message_octets))

-- the octets are the frame with this body: four octets of length, the high one first, and the body
pub record IsFrameOf (b : AbstractBody) (octets : List ℕ) : Type 0 where
  pub names : has_names b ≡ true
  pub short : length (body_octets b) ≤ 1048576
  pub joined : octets ≡ to_be_bytes w32 (length (body_octets b)) ++ body_octets b

-- a sender, a receiver or the message's name is none, or the body is longer than that of a frame
abbrev pub HasNoFrame : AbstractBody → Type 0
HasNoFrame b = (has_names b ≡ false) ⊎ (1048576 < length (body_octets b))

-- What is written of a message: its octets; or a frame that holds it, where a sender or a receiver is given.
abbrev pub IsPayload : Option (List ℕ) → Option (List ℕ) → List ℕ → List ℕ → List ℕ → Type 0
IsPayload None None name message payload = payload ≡ message
IsPayload (Some from) to name message payload = IsFrameOf (body_of (Some from) to name message) payload
IsPayload None (Some to) name message payload = IsFrameOf (body_of None (Some to) name message) payload

abbrev pub HasNoPayload : Option (List ℕ) → Option (List ℕ) → List ℕ → List ℕ → Type 0
HasNoPayload None None name message = ⊥
HasNoPayload (Some from) to name message = HasNoFrame (body_of (Some from) to name message)
HasNoPayload None (Some to) name message = HasNoFrame (body_of None (Some to) name message)
