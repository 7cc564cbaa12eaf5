use Rattle.std.proofs.Common.{◌≡◌, false, replicate, None}
use Rattle.caller_cache.proofs.copies.Copies.of.Goals as goal

pub returns : goal.returns
returns c =
    let words : c.in_ok-from_elem.field-0.items ≡ replicate c.args.region 0 = c.in_ok-from_elem.ensures.items_if_clones_equal (λ y e. e) in
    let dirty : c.in_ok-none.field-0 ≡ replicate c.args.region false = c.in_ok-none.ensures in
    let cells : c.in_ok-from_elem-2.field-0.items ≡ replicate 2320 0 = c.in_ok-from_elem-2.ensures.items_if_clones_equal (λ y e. e) in
    let sets : c.in_ok-from_elem-3.field-0.items ≡ replicate 8208 0 = c.in_ok-from_elem-3.ensures.items_if_clones_equal (λ y e. e) in
    let kept : c.in_ok-empty.field-0 ≡ None = c.in_ok-empty.ensures in
    λ i. record { words = words i; dirty = dirty i; place = 0; cells = cells i; sets = sets i; kept = kept i }
