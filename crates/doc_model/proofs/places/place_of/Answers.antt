use Rattle.std.proofs.Common.{rules}
use Rattle.std.proofs.lemmas.Fn.{always_returns_same}
use Rattle.cx_base.specs.Store.{key_cmp}
use Rattle.doc_model.proofs.KeyPlaces.{searched}
use Rattle.doc_model.proofs.places.place_of.Goals as goal

pub returns : goal.returns
returns c =
    let facts = c.binary_search_by.ensures in
    let by_key = facts.position (λ pair. key_cmp pair.0.0 c.args.key.now) (always_returns_same _ _ _ (λ a r f called. search rules)) in
    let search_found = searched c.args.pairs.now c.requires c.args.key.now c.binary_search_by.result facts.bound by_key in
    record { found = search_found.0; missing = search_found.1 }
