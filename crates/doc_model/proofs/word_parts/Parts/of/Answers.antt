use Rattle.std.proofs.Common.{get_or, take, drop, subst, sym}
use Rattle.doc_model.specs.WordParts.{IsShortText}
use Rattle.doc_model.proofs.PartPlaces.{unpacked_text}
use Rattle.doc_model.proofs.word_parts.Parts.of.Goals as goal

pub returns-clause-texts : goal.returns-clause-texts
returns-clause-texts c =
    let words = c.args.words.now in (
      subst (IsShortText 64) (sym c.at.ensures) (unpacked_text (get_or words 1 0) 64 (take 8 (drop 8 words))),
      subst (IsShortText 1024) (sym c.at-2.ensures) (unpacked_text (get_or words 2 0) 1024 (take 128 (drop 16 words))),
    )
