-- What the loads of a reply tell of a region.
use Rattle.std.proofs.Common.{◌≡◌, ◌+◌, ◌≤◌, ℕ, List, drop, length, slice_index, take, ap, sym, ◌∙◌, arith, length-drop}
use Rattle.std.proofs.lemmas.List.{ext_get_or, get_or-drop, get_or-take, length-take-le}
use Rattle.cx_base.specs.Memory.{AreAt, Loaded, Reads}
use Rattle.cx_core.specs.Region.{slot_reply, slot_start}
use Rattle.replica.specs.Outcomes.{IsOutcome, ReplyFrom}

-- words of a region that stand from a place on, as many as a reply has
pub reply_read : (from : ℕ) (reply region : List ℕ) → length reply ≡ 144 → from + 144 ≤ length region → AreAt from reply region → ReplyFrom from reply region
reply_read from reply region long within are =
    let behind : 144 ≤ length (drop from region) = (let l = length-drop from region in omega arith) in
    let same : length (take 144 (drop from region)) ≡ 144 = length-take-le 144 (drop from region) behind in
    ext_get_or 0 (take 144 (drop from region)) reply (same ∙ sym long)
    (λ i below. get_or-take 144 (drop from region) i 0 (omega (arith, same, below)) ∙ get_or-drop from region i 0 ∙ are i (omega (arith, same, long, below)))

module _ {Key : Type 0} where
  pub outcome_read : {old mid new : Key → List ℕ → Type 0} (caller slot number : ℕ) (reply : List ℕ) → slot ≡ slot_start caller → Loaded slot number old mid → Reads mid new (ReplyFrom (slot + 1) reply) → Reads old new (IsOutcome caller number reply)
  unfolding slot_reply
  outcome_read caller slot number reply at loaded read = record {
    from = λ first now s. (
        let r = read.from first now s in
        let l = loaded.back first now r.0 in (
          l.0,
          record {
            number_is = ap (slice_index now) (sym at) ∙ l.1;
            reply_is = ap (λ n. take 144 (drop (n + 1) now)) (sym at) ∙ r.1;
          },
        ));
  }
