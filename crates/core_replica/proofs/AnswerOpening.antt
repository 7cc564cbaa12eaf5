-- In the opening state nothing is answered.
use Rattle.std.proofs.Common.{[], sym, subst}
use Rattle.std.proofs.lemmas.Option.{none-some}
use Rattle.cx_core.specs.LawfulAnswers.{Answers, AreAnswers, durable_place}
use Rattle.cx_core.specs.State.{Instance, opening_local, opening_locals, opening_words}
use Rattle.cx_core.proofs.StateLemmas.{opening_at}

pub opening_answers : (instance : Instance) → Answers instance [] (opening_words instance.callers instance.base) (opening_locals instance.callers instance.base.place)
opening_answers instance = record {
  each = λ c l there. (
      let callers = instance.callers in
      let place = instance.base.place in
      let end_ = durable_place instance (opening_words callers instance.base) in
      subst (AreAnswers instance [] end_) (sym (opening_at callers place c l there).1) (let a : AreAnswers instance [] end_ (opening_local callers place c) = record {
        entries = λ i x at. absurd (none-some x at);
        reads = λ i x at. absurd (none-some x at);
        rise = λ i j x y at at' order. absurd (none-some x at);
      } in a));
}
