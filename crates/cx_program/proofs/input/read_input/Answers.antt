use Rattle.std.proofs.Common.{◌≡◌, ◌≤◌, ◌+◌, ◌-◌, arith, subst, IfOk, ℕ, vec_len}
use Rattle.std.specs.declared.result.Result.{Result}
use Rattle.std.proofs.lemmas.List.{length-take}
use Rattle.cx_base.specs.declared.outside.Failed.{Failed}
use Rattle.cx_program.specs.Input.{Moved}
use Rattle.cx_program.proofs.Transfer.{read-more}
use Rattle.cx_program.proofs.input.read_input.Goals as goal

-- the bytes stay few, since a piece has at most what is left of the limit and one byte
few-more : (len longer n most : ℕ) → n ≤ most → most ≤ 16777217 - len → (result : ℕ) → result ≤ 16777216 → result ≡ len → longer ≡ len + n → longer ≤ 16777217
few-more len longer n most within left result test e added = omega arith

-- each read but the last brings a byte
reads-more : (first before after len longer n : ℕ) → after ≤ before + 1 → before ≤ first + len → longer ≡ len + n → (n ≡ 0 → ⊥) → after ≤ first + longer
reads-more first before after len longer n tick reads added some = omega arith

pub loop-bytes-preserved : goal.loop-bytes-preserved
loop-bytes-preserved g c =
    let moved : Moved c.in-Ok.field-0 (g.S.Source.left c.loop-bytes.source) c.loop-bytes.bytes.items c.read_piece.new.bytes.items (g.S.Source.left c.read_piece.new.source) =
    subst (λ (r : Result ℕ Failed). IfOk r (λ n. Moved n (g.S.Source.left c.loop-bytes.source) c.loop-bytes.bytes.items c.read_piece.new.bytes.items (g.S.Source.left c.read_piece.new.source))) c.in-Ok.is
    c.in_ok-read_piece.ensures.piece.moved in
    let added = rw c.in-Ok.is at c.in_ok-read_piece.ensures.piece.added in
    let within : c.in-Ok.field-0 ≤ c.min-most.result = omega (arith, added.0, length-take c.min-most.result c.deref_mut.result.now) in
    let most : c.min-most.result ≤ 16777217 - vec_len c.loop-bytes.bytes = omega (arith, c.min-most.ensures, c.len-in-loop-bytes.ensures) in
    record {
      read = read-more (g.S.Source.left c.args.source.now) (g.S.Source.left c.loop-bytes.source) (g.S.Source.left c.read_piece.new.source) c.in-Ok.field-0 c.loop-bytes.bytes.items c.read_piece.new.bytes.items c.loop-bytes.invariant.read moved;
      buffer = c.loop-bytes.invariant.buffer;
      few = few-more (vec_len c.loop-bytes.bytes) (vec_len c.read_piece.new.bytes) c.in-Ok.field-0 c.min-most.result within most c.len.result c.loop-bytes-test.true c.len.ensures added.1;
      reads = reads-more (g.S.Source.reads c.args.source.now) (g.S.Source.reads c.loop-bytes.source) (g.S.Source.reads c.read_piece.new.source) (vec_len c.loop-bytes.bytes) (vec_len c.read_piece.new.bytes) c.in-Ok.field-0 c.in_ok-read_piece.ensures.once c.loop-bytes.invariant.reads added.1 c.in-Ok.field-0-test.1;
      count = omega (arith, c.in_ok-read_piece.ensures.piece.count, c.loop-bytes.invariant.count);
    }
