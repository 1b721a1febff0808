-- Each text has tokens or a fault.
use Rattle.std.proofs.Common.{◌≡◌, ℕ, zero, suc, ◌+◌, ◌-◌, ◌≤◌, ◌<◌, List, [], ◌∷◌, length, take, drop, Option, Some, None, refl, sym, subst, ◌∙◌, inl, inr, ◌⊎◌, arith}
use Rattle.std.specs.Str.{is_utf8}
use Rattle.std.proofs.lemmas.Str.{IsUtf8-from_is_utf8, is_utf8-from_IsUtf8}
use Rattle.std.proofs.lemmas.Bool.{cases_lt, cases_Bool, false≢true}
use Rattle.std.proofs.lemmas.List.{length-drop}
use Rattle.guard_lexer.specs.Sites.{site_at}
use Rattle.guard_lexer.specs.Lexing.{Item, OffsetFault, item_fault, no_item_fault, IsCut, tokens_from, HasFault, longest_text, IsText, Lexes, FirstFault}
use Rattle.guard_lexer.specs.inside.Reading.{item_at, item_of}
use Rattle.guard_lexer.specs.declared.fault.LexFault.{LexFault}
use Rattle.guard_lexer.specs.declared.fault.LexFault.TheVariants as faults
use Rattle.guard_lexer.specs.declared.item.FoundItem.{FoundItem}
use Rattle.guard_lexer.specs.declared.token.Token.{Token}
use Rattle.guard_lexer.proofs.LongestItems.{IsFound, is_found, longest, none_begins}

-- the items up to the end or a fault
abbrev IsCutUp : List ℕ → Type 0
IsCutUp text = (items : List Item) × (left : List ℕ) × IsCut text items left × ((left ≡ []) ⊎ ((wrong : OffsetFault) × HasFault left wrong))

one_more : (text : List ℕ) (p : FoundItem) (o : Option OffsetFault) → item_at text ≡ Some p → item_fault p.kind (take p.len text) (drop p.len text) ≡ o → IsCutUp (drop p.len text) → IsCutUp text
one_more text p (Some wrong) e d rest = ([], text, refl, inr (wrong, inr (item_of text p, drop p.len text, longest text p e, d)))
one_more text p None e d rest = (item_of text p ∷ rest.0, rest.1, (drop p.len text, longest text p e, d, rest.2), rest.3)

cut_by : (text : List ℕ) (o : Option FoundItem) → 0 < length text → item_at text ≡ o → ((p : FoundItem) → item_at text ≡ Some p → IsCutUp (drop p.len text)) → IsCutUp text
cut_by text None some e rest = ([], text, refl, inr (no_item_fault text, inl (some, none_begins text e, refl)))
cut_by text (Some p) some e rest = one_more text p (item_fault p.kind (take p.len text) (drop p.len text)) e refl (rest p e)

cut_up : (fuel : ℕ) (text : List ℕ) → length text ≤ fuel → IsCutUp text
cut_up fuel [] short = ([], [], refl, inl refl)
cut_up zero (c ∷ cs) short = absurd (omega arith)
cut_up (suc n) (c ∷ cs) short =
    cut_by (c ∷ cs) (item_at (c ∷ cs)) (omega arith) refl
    (λ p e.
    let f : IsFound (c ∷ cs) (Some p) = subst (IsFound (c ∷ cs)) e (is_found (c ∷ cs)) in
    cut_up n (drop p.len (c ∷ cs)) (omega (arith, f.0, length-drop p.len (c ∷ cs))))

answered : (place : ℕ) (text : List ℕ) → IsText text → IsCutUp text → ((tokens : List Token) × Lexes place text tokens) ⊎ ((fault : LexFault) × FirstFault place text fault)
answered place text lawful c =
    elim c.3 [
      | inl ended ↦ inl (tokens_from place text 0 c.0, record { lawful = lawful; items = c.0; cut = subst (IsCut text c.0) ended c.2; tokens_are = refl })
      | inr wrong ↦
          inr (wrong.0.fault (site_at place text (length text - length c.1 + wrong.0.offset)), inr (inr (lawful, (c.0, c.1, wrong.0, c.2, wrong.1, refl))))
    ]

pub tokens_or_fault : (place : ℕ) (text : List ℕ) → ((tokens : List Token) × Lexes place text tokens) ⊎ ((fault : LexFault) × FirstFault place text fault)
tokens_or_fault place text =
    elim (cases_lt longest_text (length text)) [
      | inl long ↦ inr (faults.TextTooLong place, inl (long, refl))
      | inr short ↦
          elim (cases_Bool (is_utf8 text)) [
            | inl well ↦ answered place text (record { short = short; utf8 = IsUtf8-from_is_utf8 text well }) (cut_up (length text) text (omega arith))
            | inr ill ↦ inr (faults.NotUtf8 place, inr (inl (short, (λ u. false≢true (sym ill ∙ is_utf8-from_IsUtf8 text u)), refl)))
          ]
    ]
