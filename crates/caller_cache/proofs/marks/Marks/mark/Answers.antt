use Rattle.std.proofs.Common.{◌≡◌, ◌<◌, ◌*◌, ◌++◌, ◌∷◌, [], ℕ, drop, take, length, set, true, subst, sym, ap, arith, List, Bool}
use Rattle.caller_cache.specs.Marks.{AreCovered, IsCovered}
use Rattle.caller_cache.proofs.Covering.{covered_marked, given_back}
use Rattle.caller_cache.proofs.marks.Marks.mark.Goals as goal

pub invariant_of-self : goal.invariant_of-self
invariant_of-self c =
    let inside = c.self.inside in
    let marks = inside.marks.items in
    let was = c.self.invariant.1 in
    let lent : c.deref_mut.result.now ≡ inside.lines.items = c.deref_mut.ensures.value in
    let long : length c.make_room.new.lines ≡ length inside.lines.items = omega (arith, c.make_room.auto.lines, ap length lent) in
    let inside_marks : c.args.i < length marks = omega (arith, c.requires, ap length c.self.view_is) in
    let room = c.make_room.new in
    let kept = subst (λ (ls : List Bool). (at : ℕ) → at < 8 * length ls → IsCovered inside.listed.items ls inside.first at → IsCovered room.listed.items room.lines room.first at) lent c.make_room.ensures.covered in
    let covered = covered_marked marks inside.lines.items room.lines inside.listed.items room.listed.items inside.first room.first c.args.i inside_marks long was (c.make_room.ensures.within (length marks) was.within) kept in (
      omega (arith, c.push_reserved.ensures.capacity, c.make_room.ensures.capacity),
      subst (λ (xs : List ℕ). AreCovered (set marks c.args.i true) xs (take inside.lines.len (room.lines ++ drop (length room.lines) inside.lines.items)) room.first) (sym c.push_reserved.ensures.items)
          (subst (λ (ls : List Bool). AreCovered (set marks c.args.i true) (room.listed.items ++ c.args.i ∷ []) ls room.first) (sym (given_back inside.lines.len room.lines (drop (length room.lines) inside.lines.items) (omega (arith, long, c.deref_mut.ensures.len, ap length lent)))) covered),
    )
