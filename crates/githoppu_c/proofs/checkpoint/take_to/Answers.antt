use Rattle.std.proofs.Common.{◌≡◌, ◌+◌, ◌∙◌, ap, inl, length, refl, rules}
use Rattle.std.specs.Arc.{arc_value}
use Rattle.cx_core.specs.Region.{region_words}
use Rattle.c_sessions.specs.Sessions.{TakesIn}
use Rattle.c_sessions.specs.declared.checkpoint.SessionCheckpoint.TheVariants.{At}
use Rattle.githoppu_c.proofs.Checkpointed.{taken_base, written_of}
use Rattle.githoppu_c.proofs.checkpoint.take_to.Goals as goal

-- where the session took an image, the buffer has the head and the region that was taken, as `TakesAs` says
pub returns-in-At-clause-takes : goal.returns-in-At-clause-takes
returns-in-At-clause-takes g c =
    let s = c.args.session.now in
    let r = arc_value s.service in
    -- the replica that was taken, which stands behind the 8 words of the head
    let part = c.checkpoint.new.into in
    let place = c.in-At.place in
    let takes : TakesIn g.O.Object part 16 s (At place) c.checkpoint.new.self = search rules in
    -- it is a lawful base of the service, at the place that is told
    let base = taken_base g.O.Object part 16 place s c.checkpoint.new.self c.requires.opened c.checkpoint.ensures.takes.opened takes in
    let all : length c.args.words.now ≡ region_words r.lines + 8 = search rules in
    record {
      needed_is = c.base_image_words-count.ensures ∙ ap (λ n. region_words n + 8) c.lines-lines.ensures.value;
      took = inl (
        all,
        record {
          region = part;
          taken = At place;
          takes = takes;
          written = written_of c.args.kind c.callers-callers.result c.lines-lines.result place r.callers r.lines (region_words r.lines) c.args.words.now part _ c.write_base.new.words c.callers-callers.ensures c.lines-lines.ensures.value all base.size.long c.write_base.ensures;
          is = refl;
        },
      );
    }
