-- Words ask for one request, which is what is answered.
use Rattle.std.proofs.Common.{◌≡◌, ◌∙◌, Bool, sym, ap, subst, List, [], codes, Option, Some}
use Rattle.std.specs.Prelude.{bytes_eq, unwrap_or, if◌then◌else◌}
use Rattle.clap.specs.Walk.{Row, Text, first_of}
use Rattle.clap.specs.Faults.{fault_of}
use Rattle.clap.specs.Simple.{subcommand_of}
use Rattle.derguard_program.specs.Requests.{AbstractRequest, first, check, decide, show, encode, test, compare, run, ask, mux}
use Rattle.derguard_program.specs.Words.{AreFound, IsCommand, checking_at, comparing_at, decision_at, encoding_at, flag_of, showing_at, the_app, trial_at, value_of}
use Rattle.derguard_program.proofs.Asked.{asked}

-- ---- words ask for one request

same_value : {A : Type 0} (a b : A) → Some a ≡ Some b → a ≡ b
same_value a b e = cc

module _ (rows : List Row) where
  request_at : Text → AbstractRequest
  request_at name =
      if bytes_eq name (codes "check") then check (checking_at rows)
      else if bytes_eq name (codes "decide") then decide (decision_at rows)
      else if bytes_eq name (codes "show") then show (showing_at rows)
      else if bytes_eq name (codes "encode") then encode (encoding_at rows)
      else if bytes_eq name (codes "test") then test (trial_at rows)
      else if bytes_eq name (codes "compare") then compare (comparing_at rows)
      else if bytes_eq name (codes "run") then run (value_of (codes "policy") rows) (flag_of (codes "verbose") rows) (first_of (codes "counts") rows)
      else if bytes_eq name (codes "ask") then ask (value_of (codes "policy") rows)
      else if bytes_eq name (codes "mux") then mux (value_of (codes "policy") rows) (flag_of (codes "verbose") rows) (first_of (codes "counts") rows)
      else first

  is_value : (v : Text) → first_of (codes "policy") rows ≡ Some v → v ≡ value_of (codes "policy") rows
  is_value v e = sym (ap (λ o. unwrap_or o []) e)

  is_request_at : (name : Text) (r : AbstractRequest) → IsCommand name rows r → r ≡ request_at name
  unfolding request_at
  is_request_at name first h = absurd h
  is_request_at name (check asked) h = ap check h.2 ∙ ap request_at (sym h.0)
  is_request_at name (decide q) h = ap decide h.2 ∙ ap request_at (sym h.0)
  is_request_at name (show q) h = ap show h.2 ∙ ap request_at (sym h.0)
  is_request_at name (encode asked) h = ap encode h.3 ∙ ap request_at (sym h.0)
  is_request_at name (test asked) h = ap test h.2 ∙ ap request_at (sym h.0)
  is_request_at name (compare asked) h = ap compare h.3 ∙ ap request_at (sym h.0)
  is_request_at name (run path verbose counts) h = (λ i. run (is_value path h.1 i) (h.2 i) (h.3 i)) ∙ ap request_at (sym h.0)
  is_request_at name (ask path) h = ap ask (is_value path h.1) ∙ ap request_at (sym h.0)
  is_request_at name (mux path verbose counts) h = (λ i. mux (is_value path h.1 i) (h.2 i) (h.3 i)) ∙ ap request_at (sym h.0)

-- ---- the answer

-- a command is found in words in which nothing is wrong
pub command_found : (words : List Text) (found : Option (Text × List Row)) → fault_of the_app words ≡ [] → found ≡ subcommand_of the_app words
    → (name : Text) × (rows : List Row) × (found ≡ Some (name, rows))
command_found words found none is = let one = asked words none in (one.2.1.0, one.2.1.1, is ∙ one.2.1.2)

-- what is answered by the values of the command that is found in the words is what they ask for
pub answered : (words : List Text) (found : Option (Text × List Row)) (answer : AbstractRequest) (json : Bool) → fault_of the_app words ≡ [] → found ≡ subcommand_of the_app words
    → ((name : Text) (rows : List Row) (request : AbstractRequest) → found ≡ Some (name, rows) → IsCommand name rows request → answer ≡ request)
    → ((name : Text) (rows : List Row) → found ≡ Some (name, rows) → json ≡ flag_of (codes "json") rows) → AreFound words answer json
answered words found answer json none is given lines =
    let one = asked words none in
    let name = one.2.1.0 in
    let rows = one.2.1.1 in
    let named = is ∙ one.2.1.2 in
    let same = given name rows one.0 named one.2.1.3 in
    (none, (name, rows, one.2.1.2, subst (IsCommand name rows) (sym same) one.2.1.3, lines name rows named))

-- words ask for one request
pub asks_one : (words : List Text) (r s : AbstractRequest) (json also : Bool) → AreFound words r json → AreFound words s also → (r ≡ s) × (json ≡ also)
asks_one words r s json also h g =
    let found = same_value _ _ (sym h.1.2 ∙ g.1.2) in
    let rows = ap (λ (p : Text × List Row). p.1) found in
    let as_named : IsCommand h.1.0 g.1.1 r = subst (λ (rows : List Row). IsCommand h.1.0 rows r) rows h.1.3 in
    let as_found : IsCommand g.1.0 g.1.1 r = subst (λ (name : Text). IsCommand name g.1.1 r) (ap (λ (p : Text × List Row). p.0) found) as_named in
    (is_request_at g.1.1 g.1.0 r as_found ∙ sym (is_request_at g.1.1 g.1.0 s g.1.3), h.1.4 ∙ ap (flag_of (codes "json")) rows ∙ sym g.1.4)
