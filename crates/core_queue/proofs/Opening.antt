-- The opening state meets the parts on tickets, links, cells, fronts and the ring.
use Rattle.std.proofs.Common.{◌≡◌, ◌+◌, ◌-◌, ◌*◌, ◌^◌, ◌<◌, ◌≤◌, ℕ, List, [], ◌∷◌, ◌++◌, length, replicate, slice_index, refl, ap, sym, subst, ◌∙◌, arith, Some, length-append}
use Rattle.std.proofs.lemmas.List.{get_or_append_left, get_or-append_right, get_or-replicate, length-replicate}
use Rattle.std.proofs.lemmas.List.Elements.{All-replicate}
use Rattle.std.proofs.lemmas.List.FromFn.{length-map-range_with_len}
use Rattle.std.proofs.lemmas.Option.{none-some, get_or_from_slice_get, slice_get_within}
use Rattle.std.specs.List.{slice_get}
use Rattle.cx_core.specs.declared.entry.Base.{Base}
use Rattle.cx_core.specs.declared.entry.Entry.{Entry}
use Rattle.cx_core.specs.declared.local.Cell.{Cell}
use Rattle.cx_core.specs.declared.local.Local.{Local}
use Rattle.cx_core.specs.Layout.{cell_at, cur_at, dur_at, free_at, link_at, low_at, max_word, need_at, offer_at, set_at}
use Rattle.cx_core.specs.Lawful.{CellShape, IsShown, LocalShape}
use Rattle.cx_core.specs.Lawful.LinkWord.{Never}
use Rattle.cx_core.specs.LawfulRing.{InRing}
use Rattle.cx_core.specs.Merge.{IsLinked}
use Rattle.cx_core.specs.State.{Instance, blank_cell, copies, opening_code, opening_local, opening_locals, opening_words}
use Rattle.cx_core.proofs.RootCodes.{code_place}
use Rattle.cx_core.proofs.StateLemmas.{length-opening, opening_at}
use Rattle.core_queue.specs.Queue.{QueueLawful}

-- the words of links, cells, offers and sets are 0
pub zeros : (callers : ℕ) (base : Base) (at : ℕ) → 1 ≤ callers → 4 + 3 * callers ≤ at → at < 4 + 18755 * callers → slice_index (opening_words callers base) at ≡ 0
unfolding opening_words
zeros callers base at some from to =
    let head = (opening_code callers base.place ∷ opening_code callers base.place ∷ base.place ∷ base.place ∷ []) ++ replicate callers max_word ++ (1 ∷ []) ++ replicate (2 * callers - 1) 0 in
    let middle : List ℕ = replicate (18752 * callers) 0 in
    let head_long : length head ≡ 4 + 3 * callers = simp (length-append {A = ℕ}, length-replicate {A = ℕ}) (omega arith) in
    let front_long : length (head ++ middle) ≡ 4 + 18755 * callers = length-append head middle ∙ omega (arith, head_long, length-replicate {A = ℕ} (18752 * callers) 0) in
    let in_front : at < length (head ++ middle) = omega arith in
    let in_middle : at - (4 + 3 * callers) < 18752 * callers = omega arith in
    get_or_append_left (head ++ middle) (copies (4 * callers) base.words) 0 at in_front
    ∙ get_or-append_right head middle (4 + 3 * callers) at 0 head_long from
    ∙ get_or-replicate {A = ℕ} (18752 * callers) (at - (4 + 3 * callers)) 0 0 in_middle

-- no caller needs a ticket
needs : (callers : ℕ) (base : Base) (caller : ℕ) → caller < callers → slice_index (opening_words callers base) (need_at caller) ≡ max_word
unfolding opening_words
needs callers base caller below =
    let head : List ℕ = opening_code callers base.place ∷ opening_code callers base.place ∷ base.place ∷ base.place ∷ [] in
    let middle : List ℕ = replicate callers max_word in
    let pinned = head ++ middle ++ (1 ∷ []) in
    let locks = pinned ++ replicate (2 * callers - 1) 0 in
    let front = locks ++ replicate (18752 * callers) 0 in
    let at = need_at caller in
    let long : length (head ++ middle) ≡ 4 + callers = omega (arith, length-replicate {A = ℕ} callers max_word) in
    let in_needs : at < length (head ++ middle) = omega arith in
    let in_pinned : at < length pinned = omega (arith, length-append (head ++ middle) (1 ∷ [])) in
    let in_locks : at < length locks = omega (arith, length-append pinned (replicate (2 * callers - 1) 0)) in
    let in_front : at < length front = omega (arith, length-append locks (replicate (18752 * callers) 0)) in
    let inside : at - 4 < callers = omega arith in
    get_or_append_left front (copies (4 * callers) base.words) 0 at in_front
    ∙ get_or_append_left locks (replicate (18752 * callers) 0) 0 at in_locks
    ∙ get_or_append_left pinned (replicate (2 * callers - 1) 0) 0 at in_pinned
    ∙ get_or_append_left (head ++ middle) (1 ∷ []) 0 at in_needs
    ∙ get_or-append_right head middle 4 at 0 refl (omega arith)
    ∙ get_or-replicate {A = ℕ} callers (at - 4) max_word 0 inside

-- CUR, DUR, LOW and FREE
record Roots (callers : ℕ) (base : Base) : Type 0 where
  cur : slice_index (opening_words callers base) cur_at ≡ opening_code callers base.place
  dur : slice_index (opening_words callers base) dur_at ≡ opening_code callers base.place
  low : slice_index (opening_words callers base) low_at ≡ base.place
  free : slice_index (opening_words callers base) free_at ≡ base.place

roots : (callers : ℕ) (base : Base) → Roots callers base
unfolding opening_words
roots callers base = record { cur = refl; dur = refl; low = refl; free = refl }

nothing_linked : (place ticket : ℕ) (entry : Entry) → IsLinked place [] ticket entry → ⊥
nothing_linked place ticket entry linked = none-some entry linked.at

-- each cell is blank
pub cell_blank : (j : ℕ) (cell : Cell) → slice_get (replicate 16 blank_cell) j ≡ Some cell → (j < 16) × (cell ≡ blank_cell)
cell_blank j cell at =
    let within : j < 16 = (let w = slice_get_within (replicate 16 blank_cell) j cell at in w) in
    (within, sym (get_or_from_slice_get (replicate 16 blank_cell) j cell blank_cell at) ∙ get_or-replicate 16 j blank_cell blank_cell within)

pub blank_shape : CellShape blank_cell
blank_shape = record {
  words = length-replicate {A = ℕ} 145 0;
  fit = All-replicate (λ w. w < 2 ^ 64) 145 0 (omega arith);
  set = length-replicate {A = ℕ} 513 0;
}

-- a cell of the opening is shown
blank_shown : (callers : ℕ) (base : Base) (k : ℕ) → 1 ≤ callers → k < 16 * callers → IsShown callers (opening_words callers base) k blank_cell
blank_shown callers base k some within = record {
  entry = λ i below. zeros callers base (cell_at callers k i) some (omega arith) (omega arith) ∙ sym (get_or-replicate {A = ℕ} 145 i 0 0 below);
  pairs = λ i below. zeros callers base (set_at callers k i) some (omega arith) (omega arith) ∙ sym (get_or-replicate {A = ℕ} 513 i 0 0 below);
  offer = zeros callers base (offer_at callers k) some (omega arith) (omega arith);
}

pub opening_lawful : (instance : Instance) → 1 ≤ instance.callers → instance.callers ≤ 8 → instance.base.place ≤ 2 ^ 40 →
    QueueLawful instance [] (opening_words instance.callers instance.base) (opening_locals instance.callers instance.base.place)
opening_lawful instance some few place_small =
    let callers = instance.callers in
    let base = instance.base in
    let place = instance.base.place in
    let words = opening_words callers base in
    let at = opening_at callers place in
    let r = roots callers base in
    let own = λ (P : ℕ → Local → Type 0) (f : (c : ℕ) → c < callers → P c (opening_local callers place c)) (c : ℕ) (l : Local) (there : slice_get (opening_locals callers place) c ≡ Some l).
    (let o = at c l there in subst (P c) (sym o.1) (f c o.0)) in
    record {
      shape = record {
        some = some;
        few = few;
        long = length-opening callers base some;
        count = length-map-range_with_len (opening_local callers place) 0 callers;
        each = own LocalShape (λ c _. record { number = refl; cells = length-replicate 16 blank_cell; each = λ j cell there. subst CellShape (sym (cell_blank j cell there).1) blank_shape });
      };
      tickets = record {
        merged = record { own = own (λ c l. l.own ≡ []) (λ _ _. refl); of_callers = λ i entry there. absurd (none-some entry there) };
        below = omega arith;
        each = own _ (λ c _. record { numbers = λ i x there. absurd (none-some x there); ops = λ i x there. absurd (none-some x there); answered = refl; one = omega arith });
      };
      links = record { each = λ slot below. Never (λ other e linked _. nothing_linked place other e linked) (zeros callers base (link_at callers slot) some (omega arith) (omega arith)) };
      cells = record {
        live = λ ticket entry linked _. absurd (nothing_linked place ticket entry linked);
        shown = own _ (λ c below j cell there. (
            let b = cell_blank j cell there in
            let small = b.0 in
            subst (IsShown callers words (16 * c + j)) (sym b.1) (blank_shown callers base (16 * c + j) some (omega arith))));
        seen = own _ (λ _ _ seen is. absurd (none-some seen is));
        seen_offers = own _ (λ _ _ seen is. absurd (none-some seen is));
        offers = own _ (λ _ _ j cell there some_offer. (let zero : cell.offer ≡ 0 = ap (λ (x : Cell). x.offer) (cell_blank j cell there).1 in absurd (omega arith)));
      };
      fronts = record {
        each = own _ (λ c _. (
            let code = code_place callers place 0 (omega (arith, some)) in
            record {
              from = omega arith;
              to = omega arith;
              floor = omega arith;
              cur = omega (arith, code);
              free = omega (arith, r.free);
              low = omega (arith, r.low);
              raised = omega (arith, r.dur);
              floor_dur = rw r.dur (omega (arith, code));
              floor_cur = omega (arith, code);
              won = λ won is. absurd (none-some won is);
            }));
      };
      ring = record {
        closed = omega (arith, r.low, r.free);
        current = rw (r.low, r.cur) (let code = code_place callers place 0 (omega (arith, some)) in omega arith);
        each = own (InRing instance words (opening_locals callers place)) (λ c below. record {
          need = needs callers base c below;
          kept = λ p is. absurd (cc);
          scan = λ s is. absurd (none-some s is);
        });
      };
    }
