-- A run goes on by one step.
use Rattle.std.proofs.Common.{slice_index, ◌≡◌, ◌-◌, ◌+◌, ◌<◌, ℕ, suc, List, Option, None, Some, sym, ap, ◌∙◌, arith}
use Rattle.program_machine.specs.Machine.{Machine}
use Rattle.program_machine.specs.declared.machine.RunEnd.{RunEnd}
use Rattle.program_object.specs.Run.{Undo, Setting, Stepped, RunsToEnd, RunsOn, go_on, run, state, undone, put}

-- what is left of `n` after `i` is one more than what is left after `i + 1`
pub one_left : (n i : ℕ) → i < n → n - i ≡ suc (n - (i + 1))
one_left n i l = omega (arith, l)

-- a run that went on for `turn` instructions, and then for one that did not end it, went on for `turn + 1`
pub on_by_one : (p : Setting) (fuel turn : ℕ) (next : Option RunEnd) (m m' m'' : Machine) (u u' u'' : Undo) (x y z : List ℕ) → turn < fuel →
    RunsOn p fuel (fuel - turn) m u x m' u' y → Stepped p m' u' y next m'' u'' z → next ≡ None → RunsOn p fuel (fuel - (turn + 1)) m u x m'' u'' z
on_by_one p fuel turn next m m' m'' u u' u'' x y z l r s is = record {
  does = r.does ∙ ap (λ k. run k p (state m' u' y)) (one_left fuel turn l) ∙ ap (go_on (run (fuel - (turn + 1)) p)) (s.does ∙ ap (λ (n : Option RunEnd). (n, state m'' u'' z)) is);
  back = s.back ∙ r.back;
  still = λ no. s.still no ∙ r.still no;
}

-- a run that went on for `turn` instructions, and then for one that ended it, is a run to that end
pub at_end : (p : Setting) (fuel turn : ℕ) (next : Option RunEnd) (end : RunEnd) (m m' m'' : Machine) (u u' u'' : Undo) (x y z : List ℕ) → turn < fuel →
    RunsOn p fuel (fuel - turn) m u x m' u' y → Stepped p m' u' y next m'' u'' z → next ≡ Some end → RunsToEnd p fuel m u x end m'' u'' z
at_end p fuel turn next end m m' m'' u u' u'' x y z l r s is = record {
  does = r.does ∙ ap (λ k. run k p (state m' u' y)) (one_left fuel turn l) ∙ ap (go_on (run (fuel - (turn + 1)) p)) (s.does ∙ ap (λ (n : Option RunEnd). (n, state m'' u'' z)) is);
  back = s.back ∙ r.back;
  still = λ no. s.still no ∙ r.still no;
}

-- where undoing the first `count - turn` stores leads to what undoing all leads to, it does so after one word more was put back, for one store fewer
pub back_by_one : (size count turn k : ℕ) (places words x y z : List ℕ) → turn < count → k ≡ count - 1 - turn →
    undone size (count - turn) places words y ≡ undone size count places words x → z ≡ put size y (slice_index places k) (slice_index words k) →
    undone size (count - (turn + 1)) places words z ≡ undone size count places words x
back_by_one size count turn k places words x y z l is r e =
    let same : k ≡ count - (turn + 1) = omega (arith, is, l) in
    ap (undone size (count - (turn + 1)) places words) (e ∙ ap (λ j. put size y (slice_index places j) (slice_index words j)) same)
    ∙ sym (ap (λ n. undone size n places words y) (one_left count turn l))
    ∙ r
