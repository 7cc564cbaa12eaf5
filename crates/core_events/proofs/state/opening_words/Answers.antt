use Rattle.cx_core.specs.State.{opening_words}
use Rattle.core_events.proofs.state.opening_words.Goals as goal

pub returns : goal.returns
unfolding opening_words
returns c =
    simp (
      c.in_ok-push_copies.ensures,
      c.as_slice-2.ensures,
      c.in_ok-push_many-3.ensures,
      c.in_ok-push_many-2.ensures,
      c.in_ok-push-5.ensures.items,
      c.in_ok-push_many.ensures,
      c.in_ok-push-4.ensures.items,
      c.in_ok-push-3.ensures.items,
      c.in_ok-push-2.ensures.items,
      c.in_ok-push.ensures.items,
      c.in_ok-words.ensures.items,
      c.from-n.ensures,
      c.root_code-code.ensures,
    )
