-- The words of a medium after they were fenced.
use Rattle.std.proofs.Common.{◌≡◌, ℕ, ◌≤◌, ◌++◌, List, length, map, take, drop, refl, sym, ap, subst, ◌∙◌}
use Rattle.std.specs.List.{All}
use Rattle.std.proofs.lemmas.List.{append-nil, drop_all, take_all}
use Rattle.std.proofs.lemmas.List.Elements.{All-map}
use Rattle.pmem_model.specs.declared.medium.Mark.{Mark}
use Rattle.pmem_model.specs.declared.medium.Mark.TheVariants.{Durable, Dirty, Pending}
use Rattle.pmem_model.specs.declared.medium.Word.{Word}
use Rattle.pmem_model.specs.Medium.{IsSettled, IsSettledAt, fenced, fenced_at}

fence_settled : (m : Mark) (w : Word) → w.mark ≡ m → IsSettledAt m w → IsSettled (fenced_at m w)
fence_settled Durable w e s = subst (λ k. IsSettledAt k w) (sym e) s
fence_settled Dirty w e s = subst (λ k. IsSettledAt k w) (sym e) tt
fence_settled Pending w e s = refl

-- what was fenced is settled
pub all_fenced_settled : (ws : List Word) → All IsSettled ws → All IsSettled (map fenced ws)
all_fenced_settled ws settled = All-map IsSettled fenced ws (λ k d within. let w = settled k d within in fence_settled _ _ refl w)

-- words that were fenced to the end are all fenced
pub fenced_to_end : (old new : List Word) (n : ℕ) → length old ≤ n → new ≡ map fenced (take n old) ++ drop n old → new ≡ map fenced old
fenced_to_end old new n most is = is ∙ ap (λ ws. map fenced ws ++ drop n old) (take_all n old most) ∙ ap (λ ws. map fenced old ++ ws) (drop_all n old most) ∙ append-nil (map fenced old)
