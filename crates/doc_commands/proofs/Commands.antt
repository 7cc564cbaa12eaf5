-- The clients' last commands, as far as the slots have been read.
use Rattle.std.proofs.Common.{◌≡◌, ◌≢◌, ℕ, ◌+◌, ◌<◌, true, All, List, [], ◌∷◌, ◌++◌, map, refl, ap, subst, sym, ◌∙◌, inl, inr, arith}
use Rattle.std.specs.List.{filter, range_with_len}
use Rattle.std.proofs.lemmas.Bool.{cases_eq, lt-ltb}
use Rattle.std.proofs.lemmas.List.{append-nil, map-append, map-id}
use Rattle.std.proofs.lemmas.List.Elements.{All-push, filter-append}
use Rattle.std.proofs.lemmas.List.FromFn.{map-range_with_len_more}
use Rattle.cx_core.specs.Region.{slot_number, slot_reply}
use Rattle.doc_model.specs.declared.operations.Reply.{Reply}
use Rattle.doc_text.specs.declared.recovered.Applied.{Applied}
use Rattle.doc_commands.specs.Outcomes.{IsLastCommand, IsReplyOf, has_number}

-- the last commands of the clients below `n`: of each with a number, whose slot holds a reply
pub record IsToldBelow (region : List ℕ) (n : ℕ) (outcomes : List Applied) : Type 0 where
  pub clients : map (λ applied. applied.client) outcomes ≡ filter (has_number region) (range_with_len 0 n)
  pub commands : All (IsLastCommand region) outcomes
  pub replies : (client : ℕ) → client < n → slot_number client region ≢ 0 → (reply : Reply) × IsReplyOf (slot_reply client region) reply

range_more : (n : ℕ) → range_with_len 0 (n + 1) ≡ range_with_len 0 n ++ n ∷ []
range_more n =
    sym (map-id (range_with_len 0 (n + 1))) ∙ map-range_with_len_more (λ x. x) 0 n n (omega arith)
    ∙ ap (λ (xs : List ℕ). xs ++ n ∷ []) (map-id (range_with_len 0 n))

-- a client without a number
pub outcomes_skip : (region : List ℕ) (n : ℕ) (outcomes : List Applied) → IsToldBelow region n outcomes → slot_number n region ≡ 0
    → IsToldBelow region (n + 1) outcomes
outcomes_skip region n outcomes are none =
    let left_out : filter (has_number region) (range_with_len 0 (n + 1)) ≡ filter (has_number region) (range_with_len 0 n) =
    ap (filter (has_number region)) (range_more n) ∙ filter-append (has_number region) (range_with_len 0 n) (n ∷ [])
    ∙ rw none (append-nil (filter (has_number region) (range_with_len 0 n))) in
    record {
      clients = are.clients ∙ sym left_out;
      commands = are.commands;
      replies = λ client below some. elim (cases_eq client n) [
        | inl same ↦ absurd (some (ap (λ c. slot_number c region) same ∙ none))
        | inr other ↦ are.replies client (omega (arith, below, other)) some
      ];
    }

-- a client with a number
pub outcomes_more : (region : List ℕ) (n : ℕ) (outcomes : List Applied) (applied : Applied) → IsToldBelow region n outcomes
    → applied.client ≡ n → slot_number n region ≢ 0 → IsLastCommand region applied → IsToldBelow region (n + 1) (outcomes ++ applied ∷ [])
outcomes_more region n outcomes applied are mine some is =
    let passes : has_number region n ≡ true = lt-ltb 0 (slot_number n region) (omega (arith, some)) in
    let added : filter (has_number region) (range_with_len 0 (n + 1)) ≡ filter (has_number region) (range_with_len 0 n) ++ n ∷ [] =
    ap (filter (has_number region)) (range_more n) ∙ filter-append (has_number region) (range_with_len 0 n) (n ∷ []) ∙ rw passes refl in
    record {
      clients = map-append (λ (a : Applied). a.client) outcomes (applied ∷ []) ∙ rw (are.clients, mine) (sym added);
      commands = All-push (IsLastCommand region) outcomes applied are.commands is;
      replies = λ client below has. elim (cases_eq client n) [
        | inl same ↦ (applied.reply, subst (λ c. IsReplyOf (slot_reply c region) applied.reply) (mine ∙ sym same) is.reply)
        | inr other ↦ are.replies client (omega (arith, below, other)) has
      ];
    }
