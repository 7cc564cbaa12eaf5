-- What is kept in a slot, by what a base tells of it.
use Rattle.std.proofs.Common.{◌≡◌, ◌≢◌, ℕ, zero, suc, List, Bool, Result, Ok, Err, ap, sym, subst, ◌∙◌, arith, if◌then◌else◌}
use Rattle.std.proofs.lemmas.Bool.{ne_eqb}
use Rattle.std.specs.Prelude.{◌↔◌, IfOk, IsTrue}
use Rattle.cx_core.specs.Region.{slot_number, slot_reply}
use Rattle.recovery.specs.Outcomes.{outcome_in}
use Rattle.recovery.specs.declared.applied.Outcome.TheVariants.{Applied, Never}
use Rattle.c_images.specs.Replies.{IsKeptReply, IsSlot}

-- a slot with a number other than 0 says that an entry with it was applied
applied_in : (n : ℕ) (kept : List ℕ) → n ≢ 0 → outcome_in n kept ≡ Applied n kept
applied_in n kept some = ap (λ (b : Bool). if b then Never else Applied n kept) (ne_eqb n 0 some)

-- two slots that say the same of an entry have the same reply
same_reply : (n number : ℕ) (kept reply : List ℕ) → Applied n kept ≡ Applied number reply → kept ≡ reply
same_reply n number kept reply same = cc

-- a slot that says that no entry was applied does not say that one was
not_never : (number : ℕ) (reply : List ℕ) → Never ≢ Applied number reply
not_never number reply same = absurd cc

-- where what a number and words say is that an entry was applied with a reply, the answer whether that reply may be kept is the answer for the words
kept_reply : (is : List ℕ → Type 0) (n number : ℕ) (kept reply : List ℕ) (b : Bool) → outcome_in n kept ≡ Applied number reply
    → IsTrue b ↔ IsKeptReply is reply → IsTrue b ↔ (n ≢ 0 → IsKeptReply is kept)
kept_reply is zero number kept reply b same decides = absurd (not_never number reply same)
kept_reply is (suc n) number kept reply b same decides =
    let some : suc n ≢ 0 = λ z. omega (arith, z) in
    let e : kept ≡ reply = same_reply (suc n) number kept reply (sym (applied_in (suc n) kept some) ∙ same) in
    (λ t other. subst (IsKeptReply is) (sym e) (decides.0 t), λ f. decides.1 (subst (IsKeptReply is) e (f some)))

-- where a slot says that an entry was applied with a reply, the answer whether that reply may be kept is the answer for the slot
pub applied_slot : {E : Type 0} (is : List ℕ → Type 0) (caller number : ℕ) (region reply : List ℕ) (answer : Result Bool E)
    → outcome_in (slot_number caller region) (slot_reply caller region) ≡ Applied number reply
    → IfOk answer (λ b. IsTrue b ↔ IsKeptReply is reply) → IfOk answer (λ b. IsTrue b ↔ IsSlot is caller region)
applied_slot is caller number region reply (Ok b) same decides = kept_reply is (slot_number caller region) number (slot_reply caller region) reply b same decides
applied_slot is caller number region reply (Err e) same decides = tt
