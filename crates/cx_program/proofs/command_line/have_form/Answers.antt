use Rattle.std.proofs.Common.{rules, ◌≡◌, ◌∙◌, sym, ap, refl, map, string_bytes, true, false, All, String, Global}
use Rattle.std.proofs.lemmas.List.{length-map}
use Rattle.std.proofs.Math.ListN.{get_or-map}
use Rattle.std.proofs.lemmas.List.Elements.{All-map}
use Rattle.clap.specs.declared.error.kind.ErrorKind.TheVariants.{OutOfMemory}
use Rattle.cx_program.specs.CommandLine.{begins_with_hyphen}
use Rattle.cx_program.proofs.WordsJudged.{passes_only_forms, refused_has_no_form}
use Rattle.cx_program.proofs.command_line.have_form.Goals as goal

pub returns-in-Ok : goal.returns-in-Ok
returns-in-Ok c =
    let plain : All (λ w. begins_with_hyphen w ≡ false) (map string_bytes c.args.words.now) = All-map (λ w. begins_with_hyphen w ≡ false) string_bytes c.args.words.now (c.has_option.ensures.none c.if-has_option.false) in
    ((λ is. record { plain = plain; form = passes_only_forms (map string_bytes c.args.words.now) plain c.in-Ok.ensures }), (λ has. refl))

pub returns-in-Err : goal.returns-in-Err
returns-in-Err c =
    let other : c.in-Err.field-0 ≡ OutOfMemory → ⊥ = search rules in
    ((λ is. cc), (λ has. absurd (refused_has_no_form (map string_bytes c.args.words.now) c.in-Err.field-0 c.in-Err.ensures other has)))

pub returns-then-has_option : goal.returns-then-has_option
returns-then-has_option c =
    let some = c.has_option.ensures.some c.if-has_option.true in (
      (λ is. cc),
      (λ has.
          let plain = has.plain some.0 (string_bytes some.1) (simp length-map some.2) in
          let same : begins_with_hyphen (string_bytes some.1) ≡ false = ap (λ (d : String Global). begins_with_hyphen (string_bytes d)) (sym some.3) ∙ (ap begins_with_hyphen (sym (get_or-map string_bytes c.args.words.now some.0 some.1)) ∙ plain) in
          let bad : true ≡ false = sym some.4 ∙ same in cc),
    )
