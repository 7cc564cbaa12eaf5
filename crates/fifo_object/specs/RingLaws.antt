-- A push puts its text behind the last of a ring, and a pop takes the one at the head.
use Rattle.std.proofs.Common.{◌≡◌, ◌≢◌, ◌+◌, ◌%◌, ◌<◌, ◌⊎◌, inl, inr, ℕ, zero, suc, cond, List, [], ◌∷◌, ◌++◌, length, slice_get, Some, refl, sym, ap, ◌∙◌, arith, length-append}
use Rattle.std.proofs.Math.Nat.{mod-add-mod, mod-eq_of_lt, mod-lt}
use Rattle.std.proofs.lemmas.Bool.{eq-eqb, ne_eqb}
use Rattle.std.proofs.lemmas.Option.{same_Some, none-some, slice_get_within}
use Rattle.atomic_table.proofs.Lists.{one_turn}
use Rattle.fifo_object.specs.Queue.{Queue}
use Rattle.fifo_object.specs.Ring.{IsQueueInRing, put_at}

-- an item of a queue with a text behind it is one of the queue, or that text at the end
last_or : (queue : Queue) (text : List ℕ) (i : ℕ) (t : List ℕ) → slice_get (queue ++ text ∷ []) i ≡ Some t → (slice_get queue i ≡ Some t) ⊎ ((i ≡ length queue) × (text ≡ t))
last_or [] text zero t at = inr (refl, same_Some text t at)
last_or [] text (suc i) t at = absurd (none-some t at)
last_or (x ∷ queue) text zero t at = inl at
last_or (x ∷ queue) text (suc i) t at = elim (last_or queue text i t at) [
  | inl old ↦ inl old
  | inr new ↦ inr (ap suc new.0, new.1)
]

-- the place behind the last item is no item's
pub apart : (places head count i : ℕ) → i < count → count < places → (head + i) % places ≢ (head + count) % places
apart places head count i less room same = (let one = one_turn (head + i) (head + count) places (omega (arith, less)) (omega (arith, room)) same in omega (arith, one, less))

module _ (places head count : ℕ) (at : ℕ → List ℕ) (queue : Queue) (r : IsQueueInRing places head count at queue) where
  pub ring_pushed : (text : List ℕ) → count < places → IsQueueInRing places head (count + 1) (put_at ((head + count) % places) text at) (queue ++ text ∷ [])
  ring_pushed text room = record {
    long = omega (arith, length-append queue (text ∷ []), r.long);
    start = r.start;
    within = omega (arith, room);
    items = λ i t there. elim (last_or queue text i t there) [
      | inl old ↦ (
          let less : i < count = (let within = slice_get_within queue i t old in omega (arith, within, r.long)) in
          ap (λ b. cond b text (at ((head + i) % places))) (ne_eqb ((head + i) % places) ((head + count) % places) (apart places head count i less room)) ∙ r.items i t old)
      | inr new ↦ (
          let same : (head + i) % places ≡ (head + count) % places = ap (λ k. (head + k) % places) (new.0 ∙ r.long) in
          ap (λ b. cond b text (at ((head + i) % places))) (eq-eqb ((head + i) % places) ((head + count) % places) same) ∙ new.1)
    ];
  }

  -- a queue in a ring stays one where head, count and what stands at each place are given by equal terms
  pub ring_same : (head' count' : ℕ) (at' : ℕ → List ℕ) → head' ≡ head → count' ≡ count → ((p : ℕ) → at' p ≡ at p) → IsQueueInRing places head' count' at' queue
  ring_same head' count' at' h c same = record {
    long = r.long ∙ sym c;
    start = (let s = r.start in omega (arith, h, s));
    within = (let w = r.within in omega (arith, c, w));
    items = λ i t there. same ((head' + i) % places) ∙ ap (λ k. at ((k + i) % places)) h ∙ r.items i t there;
  }

-- the first item stands at the head
pub ring_front : (places head count : ℕ) (at : ℕ → List ℕ) (text : List ℕ) (queue : Queue) → IsQueueInRing places head count at (text ∷ queue) → at head ≡ text
ring_front places head count at text queue r =
    let first : (head + 0) % places ≡ head = ap (λ k. k % places) (let e : head + 0 ≡ head = omega arith in e) ∙ mod-eq_of_lt r.start in
    ap at (sym first) ∙ r.items 0 text refl

pub ring_popped : (places head count : ℕ) (at : ℕ → List ℕ) (text : List ℕ) (queue : Queue) → IsQueueInRing places head (suc count) at (text ∷ queue) → IsQueueInRing places ((head + 1) % places) count at queue
ring_popped places head count at text queue r = record {
  long = (let l = r.long in omega (arith, l));
  start = mod-lt (head + 1) (let s = r.start in omega (arith, s));
  within = (let w = r.within in omega (arith, w));
  items = λ i t there.
      ap at (mod-add-mod (head + 1) places i ∙ ap (λ k. k % places) (let e : head + 1 + i ≡ head + suc i = omega arith in e)) ∙ r.items (suc i) t there;
}
