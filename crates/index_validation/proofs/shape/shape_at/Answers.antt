use Rattle.std.proofs.Common.{◌≡◌, ◌+◌, ◌-◌, ◌≤◌, ℕ, List, get_or, set, replicate, subst, arith, lit<}
use Rattle.avl_words.specs.Lines.{word_of}
use Rattle.index_validation.proofs.Shapes.{pending, IsPending, IsPushed, IsLook, pushed_most, look_left, look_room, room_shallow, bad_look, look_ends, look_begins, begins_room}
use Rattle.index_validation.proofs.shape.shape_at.Goals as goal

pushed : (old now : List ℕ) (depth result line is : ℕ) → line ≡ is → (line ≡ 0 → (result ≡ depth) × (now ≡ old)) → ((line ≡ 0 → ⊥) → (result ≡ depth + 1) × (now ≡ set old depth line)) → IsPushed old now depth result is
pushed old now depth result line is e none some = subst (IsPushed old now depth result) e (record { none = none; some = some })

pub loop-init : goal.loop-init
loop-init c =
    let p = c.push-depth in
    let stack = replicate 66 0 in
    let s : IsPushed stack p.new.stack 0 p.result c.args.root = record { none = p.ensures.none; some = p.ensures.some } in
    let room = begins_room c.args.words.now stack p.new.stack c.args.root p.result (lit< tt) s c.requires in
    record {
      left = subst (IsPending c.args.words.now c.args.root c.args.count (pending p.result p.new.stack)) (let e : c.args.count ≡ c.args.count - 0 = omega arith in e)
          (look_begins c.args.words.now stack p.new.stack c.args.root c.args.count p.result (lit< tt) s);
      roomy = room;
      shallow = room_shallow c.args.words.now p.new.stack p.result room;
      long = p.array_long;
    }

pub loop-preserved : goal.loop-preserved
loop-preserved c =
    let ws = c.args.words.now in
    let l = c.loop in
    let i = l.invariant in
    let one = c.push-depth-in-loop in
    let two = c.push-depth-in-loop-2 in
    let some : 1 ≤ l.depth = omega (arith, c.if-depth-eq0.false) in
    let long = i.long in
    let shallow = i.shallow in
    let first = pushed l.stack one.new.stack (l.depth - 1) one.result c.word_at.result (word_of ws (get_or l.stack (l.depth - 1) 0) 1) c.word_at.ensures one.ensures.none one.ensures.some in
    let second = pushed one.new.stack two.new.stack one.result two.result c.word_at-in-loop.result (word_of ws (get_or l.stack (l.depth - 1) 0) 0) c.word_at-in-loop.ensures two.ensures.none two.ensures.some in
    let most = pushed_most l.stack one.new.stack (l.depth - 1) one.result (word_of ws (get_or l.stack (l.depth - 1) 0) 1) first in
    let look : IsLook ws l.stack one.new.stack two.new.stack l.depth one.result two.result = record {
      some = some;
      good = c.if-not-is_good.ensures;
      right = first;
      left = second;
      long = omega arith;
      one_long = omega (arith, most, one.array_long);
    } in
    let room = look_room ws l.stack one.new.stack two.new.stack l.depth one.result two.result look i.roomy in
    let less : c.args.count - l.counter - 1 ≡ c.args.count - (l.counter + 1) = omega arith in
    record {
      left = subst (IsPending ws c.args.root c.args.count (pending two.result two.new.stack)) less
          (look_left ws l.stack one.new.stack two.new.stack c.args.root c.args.count l.depth one.result two.result (c.args.count - l.counter) look (omega (arith, c.loop-test.true)) i.left);
      roomy = room;
      shallow = room_shallow ws two.new.stack two.result room;
      long = two.array_long;
    }

pub returns-then-not-is_good : goal.returns-then-not-is_good
returns-then-not-is_good c =
    let l = c.loop in
    bad_look c.args.words.now l.stack c.args.root c.args.count l.depth (c.args.count - l.counter) (omega (arith, c.if-depth-eq0.false)) l.invariant.roomy l.invariant.left c.if-not-is_good.ensures

pub returns : goal.returns
returns c =
    let l = c.loop in
    look_ends c.args.words.now l.stack c.args.root c.args.count l.depth l.invariant.roomy
    (subst (IsPending c.args.words.now c.args.root c.args.count (pending l.depth l.stack)) (let z : c.args.count - l.counter ≡ 0 = omega (arith, c.loop-test.false) in z) l.invariant.left)
