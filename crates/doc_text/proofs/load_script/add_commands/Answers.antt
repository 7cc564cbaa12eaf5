use Rattle.std.proofs.Common.{◌≡◌, ◌++◌, ◌+◌, ◌*◌, ◌∷◌, [], map, ℕ, arith, append_assoc}
use Rattle.std.specs.List.{range_with_len}
use Rattle.std.proofs.lemmas.List.FromFn.{map-range_with_len_more}
use Rattle.doc_model.specs.declared.operations.Op.{Op}
use Rattle.life_records.specs.declared.script.Command.{Command}
use Rattle.doc_text.specs.Generated.{generated_command}
use Rattle.doc_text.proofs.load_script.add_commands.Goals as goal

pub loop-i-preserved : goal.loop-i-preserved
loop-i-preserved c =
    let nth : ℕ → Command Op = λ i. generated_command c.args.from c.args.client (c.args.client * c.args.ops + i) in
    let more : map nth (range_with_len 0 (c.loop-i.i + 1)) ≡ map nth (range_with_len 0 c.loop-i.i) ++ nth c.loop-i.i ∷ [] = map-range_with_len_more nth 0 c.loop-i.i c.loop-i.i (omega arith) in
    rw (more, ← append_assoc) (cc (c.in_ok-push.ensures.ok, c.in_ok-nth_command.ensures))
