use Rattle.std.proofs.Common.{◌+◌, ◌-◌, ◌*◌, ◌≤◌, ◌∙◌, ap₂, arith, length, refl, subst, sym}
use Rattle.cx_core.specs.declared.entry.Image.{Image}
use Rattle.c_images.proofs.Placed.{at_replica, below_count, says_region}
use Rattle.c_images.proofs.reader.region_image.Goals as goal

-- the image has the numbers of the head, and the pairs put the words after it where the named replica begins, so it says these words
pub returns : goal.returns
returns c =
    let words = c.args.words.now in
    let said = c.requires.said in
    let count = length words - 8 + c.base_words-region.result * (2 * c.from-2.result - 1) in
    let image : Image = record { callers = c.args.head.callers; lines = c.args.head.lines; count = count; root = c.args.head.root; pairs = c.of.result } in
    let gives = at_replica words image c.base_words-region.result c.from.result c.in_ok-pairs.pairs.items c.base_words-region.ensures (c.from.ensures ∙ c.root_replica.ensures.value) c.of.ensures c.in_ok-pairs.ensures in
    let some = subst (λ n. 1 ≤ n) (sym said.callers) said.headed.some in
    record {
      said = record {
        callers = said.callers;
        lines = said.lines;
        root = said.root;
        replicas = λ all. absurd (let one = c.requires.format in omega (arith, all, one));
        one = λ _. says_region words image some
            (ap₂ (λ a b. length words - 8 + a * (2 * b - 1)) c.base_words-region.ensures c.from-2.ensures)
            gives;
      };
      readable = record {
        some = some;
        few = subst (λ n. n ≤ 8) (sym said.callers) said.headed.few;
        of = refl;
        enough = subst (λ n. 64 ≤ n) (sym said.lines) said.headed.least;
        small = subst (λ n. n ≤ 16384) (sym said.lines) said.headed.most;
        rising = gives.rising;
        below = below_count words image some (ap₂ (λ a b. length words - 8 + a * (2 * b - 1)) c.base_words-region.ensures c.from-2.ensures) gives;
      };
    }
