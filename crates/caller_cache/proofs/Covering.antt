-- Marks of which each is listed, or lies in a marked line.
use Rattle.std.proofs.Common.{◌≡◌, ◌≢◌, ◌+◌, ◌*◌, ◌/◌, ◌<◌, ◌≤◌, inl, inr, ℕ, zero, suc, Bool, true, false, List, [], ◌∷◌, ◌++◌, length, get_or, replicate, set, take, ap, sym, subst, ◌∙◌, arith, Option, Some, None, IfNone, IfSome}
use Rattle.std.proofs.lemmas.Bool.{cases_eq, false≢true}
use Rattle.std.proofs.lemmas.List.{get_or-set_same, length-replicate, length-set, take-append-le, take_all}
use Rattle.std.proofs.lemmas.List.Elements.{All-append, Contains-append_left, Contains-push}
use Rattle.std.proofs.lemmas.Option.{get_or_from_slice_get, slice_get_within}
use Rattle.std.specs.List.{All, Contains, slice_get}
use Rattle.cx_core.proofs.ListLemmas.{slice_get-set_other}
use Rattle.cx_core.specs.Rights.{held_dirty}
use Rattle.table_invariant.specs.declared.rule.Known.{Known}
use Rattle.caller_cache.specs.Copies.{Copied, IsCopied}
use Rattle.caller_cache.specs.Marks.{AreCovered, IsCovered}

-- a marked word is none where no word is marked
unmarked : (count at : ℕ) → slice_get (replicate count false) at ≢ Some true
unmarked zero at is = absurd (false≢true (get_or_from_slice_get [] at true false is))
unmarked (suc c) zero is = absurd (false≢true (get_or_from_slice_get (replicate (suc c) false) zero true false is))
unmarked (suc c) (suc at) is = unmarked c at is

-- what holds of `x` holds of each item of the list of `x` alone
alone : (P : ℕ → Type 0) (x : ℕ) → P x → All P (x ∷ [])
alone P x p zero d below = p
alone P x p (suc k) d below = absurd (omega (arith, below))

nothing_in : (P : ℕ → Type 0) → All P []
nothing_in P k d below = absurd (omega (arith, below))

-- where no word is marked, no word listed and no line marked, the marks are covered
pub covered_none : (marks lines : List Bool) (listed : List ℕ) (count : ℕ) → marks ≡ replicate count false → listed ≡ [] → lines ≡ replicate (count / 8 + 1) false → AreCovered marks listed lines 0
covered_none marks lines listed count m n l =
    let long : length marks ≡ count = ap length m ∙ length-replicate count false in
    let size : length lines ≡ count / 8 + 1 = ap length l ∙ length-replicate (count / 8 + 1) false in
    record {
      long = omega (arith, long, size);
      short = omega (arith, long, size);
      within = subst (All (λ at. at < length marks)) (sym n) (nothing_in (λ at. at < length marks));
      each = λ at is. absurd (unmarked count at (ap (λ (ms : List Bool). slice_get ms at) (sym m) ∙ is));
    }

-- a mark is taken away
pub covered_cleared : (marks lines : List Bool) (listed : List ℕ) (first i : ℕ) → AreCovered marks listed lines first → AreCovered (set marks i false) listed lines first
covered_cleared marks lines listed first i was =
    let same = length-set marks i false in
    record {
      long = omega (arith, same, was.long);
      short = omega (arith, same, was.short);
      within = subst (λ n. All (λ at. at < n) listed) (sym same) was.within;
      each = λ at is. elim (cases_eq at i) [
        | inl e ↦ absurd (false≢true (sym (get_or-set_same marks i false true (let b = slice_get_within (set marks i false) at true is in omega (arith, b, same, e))) ∙ ap (λ k. get_or (set marks i false) k true) (sym e) ∙ get_or_from_slice_get (set marks i false) at true true is))
        | inr ne ↦ was.each at (sym (slice_get-set_other marks i at false ne) ∙ is)
      ];
    }

-- a word is marked that is put on a list with room for it
pub covered_marked : (marks lines lines' : List Bool) (listed listed' : List ℕ) (first first' i : ℕ) → i < length marks → length lines' ≡ length lines → AreCovered marks listed lines first →
    All (λ at. at < length marks) listed' → ((at : ℕ) → at < 8 * length lines → IsCovered listed lines first at → IsCovered listed' lines' first' at) → AreCovered (set marks i true) (listed' ++ i ∷ []) lines' first'
covered_marked marks lines lines' listed listed' first first' i inside long was within kept =
    let same = length-set marks i true in
    record {
      long = omega (arith, same, long, was.long);
      short = omega (arith, same, long, was.short);
      within = subst (λ n. All (λ at. at < n) (listed' ++ i ∷ [])) (sym same) (All-append (λ at. at < length marks) listed' (i ∷ []) within (alone (λ at. at < length marks) i inside));
      each = λ at is. elim (cases_eq at i) [
        | inl e ↦ inl (subst (Contains (listed' ++ i ∷ [])) (sym e) (Contains-push listed' i))
        | inr ne ↦ (
            let old : slice_get marks at ≡ Some true = sym (slice_get-set_other marks i at true ne) ∙ is in
            let below = slice_get_within marks at true old in
            elim (kept at (omega (arith, below, was.long)) (was.each at old)) [ inl there ↦ inl (Contains-append_left listed' (i ∷ []) at there) | inr lies ↦ inr lies ])
      ];
    }

-- a list of which all was lent out and given back
pub given_back : (n : ℕ) (xs rest : List Bool) → length xs ≡ n → take n (xs ++ rest) ≡ xs
given_back n xs rest long = (let h : n ≤ length xs = omega (arith, long) in rw take-append-le (take_all n xs (omega (arith, long))))

-- a word that a seat marks as dirty is dirty
pub dirty_some : (known : Known) (c : Copied) (found : Option ℕ) → IsCopied known c → IfSome found (λ at. slice_get c.dirty at ≡ Some true) → IfSome found (λ at. (at < length c.words) × Contains (held_dirty known.local.exclusive) at)
dirty_some known c None is marked = tt
dirty_some known c (Some at) is marked =
    let within : at < length c.words = (let b = slice_get_within c.dirty at true marked in omega (arith, b, is.long)) in
    (within, (is.marks at within).0 marked)

-- where it marks none, none is
pub dirty_none : (known : Known) (c : Copied) (found : Option ℕ) → IsCopied known c → IfNone found ((at : ℕ) → slice_get c.dirty at ≢ Some true) → IfNone found ((at : ℕ) → at < length c.words → ¬ Contains (held_dirty known.local.exclusive) at)
dirty_none known c None is unmarked = λ at within dirty. unmarked at ((is.marks at within).1 dirty)
dirty_none known c (Some at) is unmarked = tt
