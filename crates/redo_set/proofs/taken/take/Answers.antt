use Rattle.std.proofs.Common.{◌≡◌, ◌≢◌, ◌+◌, ◌*◌, ◌-◌, ◌<◌, ◌≤◌, [], ◌∷◌, drop, slice_index, length, inr, refl, take, sym, ap, ◌∙◌, subst, arith}
use Rattle.std.proofs.lemmas.Bool.{false≢true}
use Rattle.std.proofs.lemmas.List.{get_or-set_same, length-drop, length-set, length-take-le}
use Rattle.cx_core.specs.SetEvents.{ShowsOffer}
use Rattle.cx_core.specs.State.{one_more}
use Rattle.table_invariant.specs.Running.{instance_at}
use Rattle.table_invariant.specs.Seats.{IsAtLimit, Seated}
use Rattle.redo_set.specs.Taking.{KeepsTaking, sets_read}
use Rattle.redo_set.proofs.Results.{on_err}
use Rattle.redo_set.proofs.Takings.{halts_first, leaves_looked, leaves_none, leaves_set, looked_is, put_behind, read_whole, reading_so, set_is, unoffered_is, whole_noted}
use Rattle.redo_set.proofs.taken.take.Goals as goal

pub returns-clause-taken : goal.returns-clause-taken
returns-clause-taken g c =
    let s = c.args.seat.now in
    let cell = c.args.cell in
    let ticket = c.args.ticket in
    let found = c.in_ok-found.found in
    let count = c.in_ok-count.count in
    let pairs = c.read_words.new.into in
    let u = c.read_words.new.seat in
    let look = c.in_ok-found.ensures.made in
    let all = set_is (instance_at c.args.shared.now g.O.Object.step g.O.Object.only_reads) cell ticket found count u.known.local.steps pairs s c.load_offer.new.seat c.read_set.new.seat u look.made c.in_ok-count.ensures.made.made c.in_ok-read_words.ensures.read.seat in
    let few : count ≤ 256 = c.in_ok-count.ensures.made.found_word refl in
    let now = c.deref_mut.result.now in
    let items = c.into.inside.words.items in
    let size : length now ≡ 513 = ap length c.deref_mut.ensures.value ∙ length-set items 0 count ∙ c.into.invariant.long in
    let behind : length (drop 1 now) ≡ 512 = length-drop 1 now ∙ ap (λ n. n - 1) size in
    let long : length pairs ≡ 2 * count = c.in_ok-read_words.ensures.long ∙ length-take-le (2 * count + 1 - 1) (drop 1 now) (omega (arith, behind, few)) ∙ omega arith in
    let is : slice_index now 0 ≡ count = ap (λ ws. slice_index ws 0) c.deref_mut.ensures.value ∙ get_or-set_same items 0 count 0 (omega (arith, c.into.invariant.long)) in
    record {
      taken = record {
        offered = (λ _. subst (λ (x : Seated). ShowsOffer x.known.local.seen_offer cell ticket) (sym all) (refl, refl, c.names.ensures.0 c.if-not-names.false), λ _. refl);
        noted = λ _. whole_noted ticket count pairs _ s.known.sets u.known.sets (ap (λ (x : Seated). x.known.sets) all) long few (λ i below. put_behind c.into.inside.words.len count i now pairs _ _ (omega (arith, below, few, size, c.deref_mut.ensures.len)) (omega (arith, size)) is (omega (arith, below, long)));
        fits = λ _. c.in_ok-read_words.ensures.read.fits c.in_ok-count.ensures.fits;
      };
      looked = look.allowed;
      counted = ap (λ (x : Seated). sets_read x.known.sets) all ∙ read_whole s.known.sets ticket count pairs;
    }

pub returns-then-not-names-clause-taken : goal.returns-then-not-names-clause-taken
returns-then-not-names-clause-taken g c =
    let made = c.in_ok-found.ensures.made in
    let fails = c.if-not-names.true in
    let other : c.in_ok-found.found ≢ c.args.ticket + 1 = λ same. (let passes = c.names.ensures.1 same in absurd (cc (fails, passes))) in
    record {
      taken = record {
        offered = (
          λ yes. absurd (false≢true yes),
          λ shows. (
              let named = subst (λ (x : Seated). ShowsOffer x.known.local.seen_offer c.args.cell c.args.ticket) made.made shows in
              absurd (other named.2)),
        );
        noted = λ yes. absurd (false≢true yes);
        fits = λ yes. absurd (false≢true yes);
      };
      looked = unoffered_is (instance_at c.args.shared.now g.O.Object.step g.O.Object.only_reads) c.args.cell c.args.ticket c.in_ok-found.found c.args.seat.now c.load_offer.new.seat made.allowed other made.made;
      counted = ap (λ (x : Seated). x.known.sets) made.made;
    }

pub returns-in_err-found-clause-halted : goal.returns-in_err-found-clause-halted
returns-in_err-found-clause-halted g c = on_err c.from_residual.result _ (halts_first c.args.shared.now c.args.cell c.args.ticket c.args.seat.now c.load_offer.new.seat c.in_err-found.ensures.halted)

pub returns-in_err-count-clause-halted : goal.returns-in_err-count-clause-halted
returns-in_err-count-clause-halted g c =
    let s = c.args.seat.now in
    let cell = c.args.cell in
    let ticket = c.args.ticket in
    let found = c.in_ok-found.found in
    let halted = c.in_err-count.ensures.halted in
    let looked = looked_is (instance_at c.args.shared.now g.O.Object.step g.O.Object.only_reads) cell ticket found s c.load_offer.new.seat c.in_ok-found.ensures.made.made in
    on_err c.from_residual-in_err-count.result _ (record {
      limit = subst (λ (x : Seated). IsAtLimit x.known.local) (sym halted.same) halted.limit;
      due = inr (reading_so cell ticket found (one_more s.known.local.steps) [] s c.read_set.new.seat (c.names.ensures.0 c.if-not-names.false) (omega arith) (halted.same ∙ looked));
    })

pub returns-in_err-read_words-clause-halted : goal.returns-in_err-read_words-clause-halted
returns-in_err-read_words-clause-halted g c =
    let s = c.args.seat.now in
    let cell = c.args.cell in
    let ticket = c.args.ticket in
    let found = c.in_ok-found.found in
    let count = c.in_ok-count.count in
    let halted = c.in_err-read_words.ensures.halted in
    let due = halted.due in
    let u = c.read_words.new.seat in
    let all = set_is (instance_at c.args.shared.now g.O.Object.step g.O.Object.only_reads) cell ticket found count u.known.local.steps due.words s c.load_offer.new.seat c.read_set.new.seat u c.in_ok-found.ensures.made.made c.in_ok-count.ensures.made.made due.seat in
    let few : count ≤ 256 = c.in_ok-count.ensures.made.found_word refl in
    let now = c.deref_mut.result.now in
    let items = c.into.inside.words.items in
    let size : length now ≡ 513 = ap length c.deref_mut.ensures.value ∙ length-set items 0 count ∙ c.into.invariant.long in
    let behind : length (drop 1 now) ≡ 512 = length-drop 1 now ∙ ap (λ n. n - 1) size in
    let long : length (take (2 * count + 1 - 1) (drop 1 now)) ≡ 2 * count + 1 - 1 = length-take-le (2 * count + 1 - 1) (drop 1 now) (omega (arith, behind, few)) in
    let fewer : length (count ∷ due.words) < 2 * count + 1 = (let less = due.fewer in omega (arith, less, long)) in
    on_err c.from_residual-in_err-read_words.result _
    (record { limit = halted.limit; due = inr (reading_so cell ticket found u.known.local.steps (count ∷ due.words) s u (c.names.ensures.0 c.if-not-names.false) fewer all) })

-- ---- what is left of the seat

pub returns-in_err-found-clause-leaves : goal.returns-in_err-found-clause-leaves
returns-in_err-found-clause-leaves g c = leaves_none c.args.shared.now c.args.seat.now c.load_offer.new.seat c.in_err-found.ensures.halted

pub returns-then-not-names-clause-leaves : goal.returns-then-not-names-clause-leaves
returns-then-not-names-clause-leaves g c = leaves_looked c.args.shared.now g.O.Object.step g.O.Object.only_reads c.args.cell c.args.ticket c.in_ok-found.found c.args.seat.now c.load_offer.new.seat c.in_ok-found.ensures.made

pub returns-in_err-count-clause-leaves : goal.returns-in_err-count-clause-leaves
returns-in_err-count-clause-leaves g c =
    subst (KeepsTaking c.args.shared.now c.args.seat.now) (sym c.in_err-count.ensures.halted.same)
    (leaves_looked c.args.shared.now g.O.Object.step g.O.Object.only_reads c.args.cell c.args.ticket c.in_ok-found.found c.args.seat.now c.load_offer.new.seat c.in_ok-found.ensures.made)

pub returns-in_err-read_words-clause-leaves : goal.returns-in_err-read_words-clause-leaves
returns-in_err-read_words-clause-leaves g c =
    leaves_set c.args.shared.now g.O.Object.step g.O.Object.only_reads c.args.cell c.args.ticket c.in_ok-found.found c.in_ok-count.count c.args.seat.now c.load_offer.new.seat c.read_set.new.seat c.read_words.new.seat
    c.in_ok-found.ensures.made c.in_ok-count.ensures.made c.read_words.ensures.leaves

pub returns-clause-leaves : goal.returns-clause-leaves
returns-clause-leaves g c =
    leaves_set c.args.shared.now g.O.Object.step g.O.Object.only_reads c.args.cell c.args.ticket c.in_ok-found.found c.in_ok-count.count c.args.seat.now c.load_offer.new.seat c.read_set.new.seat c.read_words.new.seat
    c.in_ok-found.ensures.made c.in_ok-count.ensures.made c.read_words.ensures.leaves
