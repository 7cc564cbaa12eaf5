use Rattle.std.proofs.Common.{◌≡◌, ◌∙◌, sym, subst, Bool, IfOk, true}
use Rattle.cx_program.specs.Commands.{command}
use Rattle.cx_program.specs.Input.{ShowsInput}
use Rattle.cx_program.proofs.top_call.input_of.Goals as goal

pub returns-then-reads-clause-input : goal.returns-then-reads-clause-input
returns-then-reads-clause-input g c =
    let reads : true ≡ (command c.args.asked.now).reads = sym c.if-reads.true ∙ c.reads.ensures in
    subst (λ (b : Bool). IfOk c.read_input.result (ShowsInput b (g.S.Source.left c.args.source.now) (g.S.Source.faults c.args.source.now) (g.S.Source.faults c.read_input.new.source))) reads
    c.read_input.ensures.input
