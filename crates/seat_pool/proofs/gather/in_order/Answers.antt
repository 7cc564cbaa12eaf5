use Rattle.std.proofs.Common.{◌≡◌, ◌<◌, arith, length, subst, sym, vec_len}
use Rattle.seat_pool.specs.Gathering.{IsNumberAt, handed_number, one_at}
use Rattle.seat_pool.specs.Pooling.{total_weight}
use Rattle.seat_pool.proofs.Orderings.{are_all, is_left, is_none, not_none, ordering_goes_on}
use Rattle.seat_pool.proofs.gather.in_order.Goals as goal

pub find-place-requires : goal.find-place-requires
find-place-requires g c =
    let left = c.loop-gathered.gathered.items in
    let out = c.loop-gathered.out.items in
    let wanted : c.len.result ≡ length out = (let is = c.len.ensures in omega (arith, is, c.loop-gathered.out.ok)) in
    let many : 0 < vec_len c.loop-gathered.gathered = not_none (vec_len c.loop-gathered.gathered) c.is_empty.result c.loop-gathered-test.true c.is_empty.ensures in
    let some_left : 0 < length left = omega (arith, many, c.loop-gathered.gathered.ok) in
    subst (λ q. 0 < total_weight (λ x. one_at q (handed_number x)) left) (sym wanted) (is_left c.args.service.now c.args.gathered.items left out c.loop-gathered.invariant.ordering c.requires.numbers some_left)

pub loop-gathered-preserved : goal.loop-gathered-preserved
loop-gathered-preserved g c =
    let left = c.loop-gathered.gathered.items in
    let out = c.loop-gathered.out.items in
    let wanted : c.len.result ≡ length out = (let is = c.len.ensures in omega (arith, is, c.loop-gathered.out.ok)) in
    let at : IsNumberAt left c.find-place.result (length out) = subst (λ q. IsNumberAt left c.find-place.result q) wanted c.find-place.ensures in
    let room = c.loop-gathered.invariant.room in
    let same = c.push_reserved.ensures.capacity in record {
      ordering = ordering_goes_on c.args.service.now c.args.gathered.items left out c.remove.new.self.items c.push_reserved.new.self.items c.find-place.result c.remove.result c.loop-gathered.invariant.ordering at c.remove.ensures.value c.remove.ensures.items c.push_reserved.ensures.items;
      room = omega (arith, room, same);
    }

pub returns-clause-all : goal.returns-clause-all
returns-clause-all g c =
    let left = c.loop-gathered.gathered.items in
    let few : vec_len c.loop-gathered.gathered ≡ 0 = is_none (vec_len c.loop-gathered.gathered) c.is_empty.result c.loop-gathered-test.false c.is_empty.ensures in
    let none : length left ≡ 0 = omega (arith, few, c.loop-gathered.gathered.ok) in
    are_all c.args.service.now c.args.gathered.items left c.loop-gathered.out.items c.loop-gathered.invariant.ordering c.requires.numbers none
