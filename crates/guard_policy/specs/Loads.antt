-- Which texts are a policy, and why others are none.
use Rattle.std.specs.Prelude.{◌≡◌, ℕ, List, Some, None, Option, ◌⊎◌}
use Rattle.toml.specs.Data.{Members}
use Rattle.guard_policy.specs.Documents.{IsDocument, IsNoDocument, files_in}
use Rattle.guard_der.specs.NamedTypes.{AbstractTypes}
use Rattle.guard_policy.specs.Entries.{policy_in}
use Rattle.guard_policy.specs.EntryFaults.{document_fault}
use Rattle.guard_policy.specs.Policies.{AbstractPolicy}
use Rattle.guard_policy.specs.PolicyFaults.{AbstractFault, toml, top_fault}

-- The text is no document, and the fault is Q1; or it is one, and this is its first fault.
abbrev pub IsFault : (Members → Option AbstractFault) → List ℕ → AbstractFault → Type 0
IsFault fault_of text fault =
    (IsNoDocument text × (fault ≡ toml)) ⊎ ((top : Members) × IsDocument text top × (fault_of top ≡ Some fault))

-- The files of modules that the text lists: only the top is looked at.
abbrev pub ListsFiles : List ℕ → List (List ℕ) → Type 0
ListsFiles text files = (top : Members) × IsDocument text top × (top_fault top ≡ None) × (files ≡ files_in top)

abbrev pub ListsNoFiles : List ℕ → AbstractFault → Type 0
ListsNoFiles text fault = IsFault top_fault text fault

-- The text is a document without fault over these types, and the policy is what it says.
abbrev pub Loads : List ℕ → AbstractTypes → AbstractPolicy → Type 0
Loads text s policy = (top : Members) × IsDocument text top × (document_fault s top ≡ None) × (policy ≡ policy_in s top)

abbrev pub IsRefused : List ℕ → AbstractTypes → AbstractFault → Type 0
IsRefused text s fault = IsFault (document_fault s) text fault
