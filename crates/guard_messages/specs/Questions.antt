-- What is asked of one message: by which policy, and where its octets are.
use Rattle.std.specs.Prelude.{ℕ, Bool, ◌&&◌, ◌||◌, List, [], Option, Some, None, is_none, is_some, unwrap_or, if◌then◌else◌}
use Rattle.std.specs.Option.{option_map}
use Rattle.guard_policy.specs.Policies.{AbstractRoute}
use Rattle.guard_messages.specs.declared.question.Question.{Question}
use Rattle.guard_messages.specs.declared.question.Spot.{Spot}
use Rattle.guard_messages.specs.declared.question.Spot.TheVariants as code

-- What the words give. HEX is digits, `--der` a path, `--frame` the number of a frame that comes in, and `--link` that
-- of its link. `--capture` asks for the frame itself, `--json` for the value as JSON.
pub record AbstractQuestion : Type 0 where
  pub policy : List ℕ
  pub from : Option (List ℕ)
  pub to : Option (List ℕ)
  pub message : Option (List ℕ)
  pub hex : Option (List ℕ)
  pub der : Option (List ℕ)
  pub frame : Option (List ℕ)
  pub link : Option (List ℕ)
  pub explain : Bool
  pub capture : Bool
  pub json : Bool

abbrev pub question_view : Question → AbstractQuestion
question_view q =
    record {
      policy = q.policy.now;
      from = option_map (λ name. name.now) q.from;
      to = option_map (λ name. name.now) q.to;
      message = option_map (λ name. name.now) q.message;
      hex = option_map (λ digits. digits.now) q.hex;
      der = option_map (λ path. path.now) q.der;
      frame = option_map (λ number. number.now) q.frame;
      link = option_map (λ number. number.now) q.link;
      explain = q.explain;
      capture = q.capture;
      json = q.json;
    }

-- the names that the words give of the route
abbrev pub asked_route : AbstractQuestion → AbstractRoute
asked_route q =
    record { from = unwrap_or q.from []; to = unwrap_or q.to []; message = unwrap_or q.message [] }

-- ---- where the octets are

pub data AbstractSpot : Type 0 where
  -- in these hexadecimal digits
  written : List ℕ → AbstractSpot
  -- all that is at this path
  kept : List ℕ → AbstractSpot
  -- in the frame of the first number, counted among those of the link of the second number if that is given
  framed : List ℕ → Option (List ℕ) → AbstractSpot

-- the one of the two that is given
abbrev pub octets_spot : Option (List ℕ) → Option (List ℕ) → Option AbstractSpot
octets_spot None None = None
octets_spot None (Some path) = Some (kept path)
octets_spot (Some digits) None = Some (written digits)
octets_spot (Some digits) (Some path) = None

-- By whether all names are given that the command takes, and whether some are: HEX or `--der` comes with all of them,
-- `--frame` with none, and `--link` with `--frame`. Other words don't say where, or say more than one place.
abbrev pub spot_by : Bool → Bool → Option (List ℕ) → Option (List ℕ) → Option (List ℕ) → Option (List ℕ)
    → Option AbstractSpot
spot_by all some None link hex der = if all && is_none link then octets_spot hex der else None
spot_by all some (Some number) link hex der =
    if some || is_some hex || is_some der then None else Some (framed number link)

-- `decide` takes all three names
abbrev pub decide_spot : AbstractQuestion → Option AbstractSpot
decide_spot q =
    spot_by (is_some q.from && is_some q.to && is_some q.message) (is_some q.from || is_some q.to || is_some q.message)
    q.frame q.link q.hex q.der

-- `show` takes the name of the message
abbrev pub show_spot : AbstractQuestion → Option AbstractSpot
show_spot q = spot_by (is_some q.message) (is_some q.message) q.frame q.link q.hex q.der

-- ---- as the code has it

abbrev pub spot_view : Spot → AbstractSpot
spot_view (code.Written digits) = written digits.now
spot_view (code.Kept path) = kept path.now
spot_view (code.Framed number link) = framed number.now (option_map (λ link. link.now) link)
