use Rattle.std.proofs.Common.{◌≡◌, ◌∙◌, refl, sym, ap, Some}
use Rattle.std.specs.Option.{option_copied}
use Rattle.std.proofs.lemmas.Result.{IfOk-weaker}
use Rattle.life_records.specs.Scripts.{command_count}
use Rattle.script_text.specs.Grammar.{AsksWithinLimits, last_life}
use Rattle.script_text.specs.Reading.{IsTextRead, said_below}
use Rattle.script_text.specs.LineReading.{said_in_life}
use Rattle.script_text.proofs.reader.Draft.read_below.Goals as goal

pub returns : goal.returns
returns g c =
    let last : last_life c.args.self.now.lives ≡ Some c.in-Some.life.now = sym c.last_life.ensures ∙ ap option_copied c.in-Some.is in
    let counted : c.self.inside.commands ≡ command_count c.args.self.now.lives = c.self.invariant ∙ ap (λ s. command_count s.lives) c.self.view_is in
    IfOk-weaker c.read_in.result _ (IsTextRead (AsksWithinLimits g.C.CommandReader.is_op) (said_below g.C.CommandReader.commands g.C.CommandReader.asked c.args.self.now.lives c.args.line.now))
    (λ read r. record {
      is = r.is ∙ said_in_life g.C.CommandReader.commands g.C.CommandReader.asked g.met.C.CommandReader.reads c.args.self.now.lives c.args.line.now c.in-Some.life.now c.self.inside.commands
          c.in-Some.life.now.clients c.as_slice.result.now c.split_word.result.0.now (option_copied c.split_word.result.1)
          (sym c.is_word.ensures ∙ c.if-is_word.false) last counted refl c.as_slice.ensures c.split_word.ensures.word c.split_word.ensures.rest;
      within = r.within;
    }) c.read_in.ensures
