use Rattle.std.proofs.lemmas.List.{take_all}
use Rattle.std.proofs.Common.{◌∷◌, ◌++◌, ◌≡◌, ◌∙◌, ◌<◌, ◌≤◌, ◌+◌, List, [], length, ap, subst, sym, take, get_or, arith}
use Rattle.life_records.specs.Scripts.{command_count}
use Rattle.life_records.specs.declared.script.Life.{Life}
use Rattle.cx_lives.specs.Lives.{HaveLived}
use Rattle.cx_lives.proofs.Appending.{count_taken, none_lived}
use Rattle.cx_lives.proofs.Taking.{take_next}
use Rattle.cx_lives.proofs.lives.run_lives.Goals as goal

pub run_next_life-requires-clause-lived : goal.run_next_life-requires-clause-lived
run_next_life-requires-clause-lived g c = λ κs known. (
    let lives : List (Life g.row.O-Op.Denot) = c.args.script.now.lives in
    let same : length c.as_slice-life-items.result.now ≡ length lives = ap length c.as_slice-life-items.ensures in
    let within : c.loop-life.life-index < length lives = omega (arith, same, c.loop-life-test.true) in
    let is : c.life-item.result ≡ get_or lives c.loop-life.life-index c.life-item.result = c.life-item.is ∙ ap (λ (ls : List (Life g.row.O-Op.Denot)). get_or ls c.loop-life.life-index c.life-item.result) c.as_slice-life-items.ensures in
    let asks : (x : List (Life g.row.O-Op.Denot)) × HaveLived (g.O.TypedObject.meaning c.args.object.now) (g.O.Object.line_count c.args.object.now) (g.O.Object.version_number c.args.object.now) (g.O.Object.lawful c.args.object.now) (g.O.Object.step c.args.object.now) (g.O.Object.only_reads c.args.object.now) x c.loop-life.lived × (command_count x + length c.lent.result.commands ≤ 100000) =
    (take c.loop-life.life-index lives, c.loop-life.invariant, omega (arith, c.requires.limits.commands, ap (λ (life : Life g.row.O-Op.Denot). length life.commands) c.lent.ensures, count_taken lives c.loop-life.life-index c.life-item.result within is)) in
    asks)

pub loop-life-init : goal.loop-life-init
loop-life-init g c =
    let o = c.args.object.now in
    let m = g.O.TypedObject.meaning o in
    subst (λ lived. HaveLived m (g.O.Object.line_count o) (g.O.Object.version_number o) (g.O.Object.lawful o) (g.O.Object.step o) (g.O.Object.only_reads o) [] lived) (sym c.new-lived.ensures)
    (none_lived m (g.O.Object.line_count o) (g.O.Object.version_number o) (g.O.Object.lawful o) (g.O.Object.step o) (g.O.Object.only_reads o))

pub loop-life-preserved : goal.loop-life-preserved
loop-life-preserved g c =
    let o = c.args.object.now in
    let lives : List (Life g.row.O-Op.Denot) = c.args.script.now.lives in
    let i = c.loop-life.life-index in
    let same : length c.as_slice-life-items.result.now ≡ length lives = ap length c.as_slice-life-items.ensures in
    let within : i < length lives = omega (arith, same, c.loop-life-test.true) in
    let is : c.life-item.result ≡ get_or lives i c.life-item.result = c.life-item.is ∙ ap (λ (ls : List (Life g.row.O-Op.Denot)). get_or ls i c.life-item.result) c.as_slice-life-items.ensures in
    let more : take i lives ++ c.lent.result ∷ [] ≡ take (i + 1) lives = ap (λ (l : Life g.row.O-Op.Denot). take i lives ++ l ∷ []) c.lent.ensures ∙ sym (take_next lives i c.life-item.result within is) in
    subst (λ ls. HaveLived (g.O.TypedObject.meaning o) (g.O.Object.line_count o) (g.O.Object.version_number o) (g.O.Object.lawful o) (g.O.Object.step o) (g.O.Object.only_reads o) ls c.in_ok-lived.lived) more
    (c.in_ok-lived.ensures (take i lives) c.loop-life.invariant)

pub returns : goal.returns
returns g c =
    let o = c.args.object.now in
    let lives : List (Life g.row.O-Op.Denot) = c.args.script.now.lives in
    let same : length c.as_slice-life-items.result.now ≡ length lives = ap length c.as_slice-life-items.ensures in
    let over : length lives ≤ c.loop-life.life-index = omega (arith, same, c.loop-life-test.false) in
    subst (λ ls. HaveLived (g.O.TypedObject.meaning o) (g.O.Object.line_count o) (g.O.Object.version_number o) (g.O.Object.lawful o) (g.O.Object.step o) (g.O.Object.only_reads o) ls c.loop-life.lived) (take_all c.loop-life.life-index lives over)
    c.loop-life.invariant
