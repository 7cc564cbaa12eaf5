use Rattle.std.proofs.Common.{◌≡◌, ◌+◌, length, false, subst, arith, slice_index}
use Rattle.cx_core.specs.declared.kinds.Kind.TheVariants.{LoadWord}
use Rattle.table_invariant.specs.Steps.{Steps}
use Rattle.cx_table.specs.Runs.{loads_from}
use Rattle.replica.proofs.Runs.{one_made}
use Rattle.replica.proofs.words.load_at_once.Goals as goal

pub returns-then-load_words : goal.returns-then-load_words
returns-then-load_words g c =
    let t = c.args.shared.now in
    let words = c.load_words.new.into in
    let long : length words ≡ 1 = c.load_words.ensures.length in
    let one = one_made t g.O.Object.step g.O.Object.only_reads (g.O.Object.lawful t.object) (loads_from c.args.r c.args.i) words c.args.seat.now c.load_words.new.seat long c.if-load_words.ensures.run in
    let same : c.args.i + 0 ≡ c.args.i = omega arith in
    record { made = subst (λ n. Steps t g.O.Object.step g.O.Object.only_reads (LoadWord c.args.r n false) (slice_index words 0) c.args.seat.now c.load_words.new.seat) same one.0; fits = one.1; none = tt }
