use Rattle.std.proofs.Common.{arith}
use Rattle.caller_cache.proofs.Covering.{covered_none}
use Rattle.caller_cache.proofs.marks.Marks.none.Goals as goal

pub invariant_of-result : goal.invariant_of-result
invariant_of-result c = (
  omega (arith, c.in_ok-with_capacity.ensures.exact),
  covered_none c.in_ok-from_elem.field-0.items c.in_ok-from_elem-2.field-0.items c.in_ok-with_capacity.field-0.items c.args.count (c.in_ok-from_elem.ensures.items_if_clones_equal (λ y e. e)) c.in_ok-with_capacity.ensures.items (c.in_ok-from_elem-2.ensures.items_if_clones_equal (λ y e. e)),
)
