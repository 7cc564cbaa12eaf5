use Rattle.std.proofs.Common.{length, ap, set, ◌∙◌, rules}
use Rattle.std.proofs.lemmas.List.{length-map}
use Rattle.std.proofs.lemmas.List.Edits.{map_over_more}
use Rattle.std.proofs.lemmas.List.Elements.{All-same}
use Rattle.pmem_model.specs.Medium.{IsSettled, fenced}
use Rattle.pmem_model.proofs.Words.{all_fenced_settled, fenced_to_end}
use Rattle.pmem_model.proofs.medium.Medium.fence.Goals as goal

pub invariant_of-self : goal.invariant_of-self
invariant_of-self c =
    let done = fenced_to_end c.args.self.now.words c.loop-at.self-inside.words.items c.loop-at.at (search rules) c.loop-at.invariant.words in (
      ap length done ∙ length-map c.args.self.now.words fenced ∙ search rules,
      All-same IsSettled c.loop-at.self-inside.words.items _ done (all_fenced_settled c.args.self.now.words (search rules)),
    )

pub loop-at-preserved : goal.loop-at-preserved
loop-at-preserved c = record {
  words = ap (set c.loop-at.self-inside.words.items c.loop-at.at) c.fence.ensures ∙ map_over_more fenced c.args.self.now.words c.loop-at.self-inside.words.items c.loop-at.at c.index_mut.result.now (search rules) c.loop-at.invariant.words c.index_mut.ensures.value;
  stores = c.loop-at.invariant.stores;
}
