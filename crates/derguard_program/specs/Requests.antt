-- What a request asks for.
use Rattle.std.specs.Prelude.{ℕ, Bool, List, Option, option_map}
use Rattle.guard_messages.specs.Questions.{AbstractQuestion, question_view}
use Rattle.guard_authors.specs.Checked.{AbstractChecking, checking_view}
use Rattle.guard_authors.specs.Comparing.{AbstractComparing, comparing_view}
use Rattle.guard_authors.specs.Encodes.{AbstractEncoding, encoding_view}
use Rattle.guard_authors.specs.Testing.{AbstractTrial, trial_view}
use Rattle.derguard_program.specs.declared.request.Request.{Request}
use Rattle.derguard_program.specs.declared.request.Request.TheVariants as code

pub data AbstractRequest : Type 0 where
  -- the messages that are built in
  first : AbstractRequest
  -- whether a policy and its modules are accepted
  check : AbstractChecking → AbstractRequest
  -- what becomes of one message
  decide : AbstractQuestion → AbstractRequest
  -- the value of one message
  show : AbstractQuestion → AbstractRequest
  -- the octets of a value that is written
  encode : AbstractEncoding → AbstractRequest
  -- which cases come out as they should
  test : AbstractTrial → AbstractRequest
  -- the frames that come in, under an old policy and a new one
  compare : AbstractComparing → AbstractRequest
  -- what comes in, by the policy at this path; whether notes are to be written, and where counters are to be shown, if
  -- anywhere
  run : List ℕ → Bool → Option (List ℕ) → AbstractRequest
  -- frames that come in, of each of which it is said what the policy at this path makes of it
  ask : List ℕ → AbstractRequest
  -- the records of many links, by the policy at this path, with notes and counters as for one
  mux : List ℕ → Bool → Option (List ℕ) → AbstractRequest

abbrev pub request_view : Request → AbstractRequest
request_view code.First = first
request_view (code.Check asked) = check (checking_view asked)
request_view (code.Decide q) = decide (question_view q)
request_view (code.Show q) = show (question_view q)
request_view (code.Encode e) = encode (encoding_view e)
request_view (code.Test t) = test (trial_view t)
request_view (code.Compare asked) = compare (comparing_view asked)
request_view (code.Run policy verbose counts) = run policy.now verbose (option_map (λ path. path.now) counts)
request_view (code.Ask policy) = ask policy.now
request_view (code.Mux policy verbose counts) =
    mux policy.now verbose (option_map (λ path. path.now) counts)
