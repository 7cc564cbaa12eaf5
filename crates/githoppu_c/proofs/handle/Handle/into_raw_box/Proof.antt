-- Two fields are put into another struct, and what they own goes with them.
use mathlib.Core.Path.{refl, sym, subst}
use mathlib.Core.List.{List, [], ◌∷◌, ◌++◌}
use mir.Val.{Val}
use base.Logic.{ent, emp, id⊢}
use base.Fml.{ftrue, fsep}
use prog.Wp.{WpFn}
use contract.Running.{tables}
use types.Kit.{Item, ⋆, ‵, raw, ◌⊛◌, ◌$◌, ◌∵◌, !, qed, by, keep, use1, join, split, fsplit, fjoin, suffices, done}
use types.Part.{whole, sub, agg}
use types.Run.{stop, fld, no_more, and_then, of_opd, returns, enter}
use types.ByLocal.{alloc_all, pass_all, free_all, look_at, get_in, sets, get}
use denote.Exit.{yes}
use denote.Signature.{type_at}
use denote.Steps.{nothing}
use denote.Triple.Walked.{says, Stays, stay_dropped, walk_of, ends_at, Goes-dropped}
use Rattle.std.proofs.raw_atomic.Walks.{proved_at}
use Rattle.std_alloc.proofs.BoxSteps.Form.{D, B, word, box_typed}
use Rattle.std_alloc.proofs.BoxSteps.Steps.{box_out, box_in}
use Rattle.githoppu_c.proofs.Boxed.{Boxed, Passed}
use Rattle.githoppu_c.specs.contracts.handle.Handle.into_raw_box as f
use Rattle.githoppu_c.proofs.handle.Handle.into_raw_box.Statement.{statement}
use Rattle.githoppu_c.proofs.handle.Handle.into_raw_box.Code as code

abbrev stayed : Stays f.ended.signature.params f.ended.kept
stayed = (stay_dropped Passed yes, tt)

-- the function `into_raw_box` meets its contract
pub into_raw_box_spec : {M : Type 1} → statement M
into_raw_box_spec 𝓤 𝓛 𝓜 𝓡 wired =
    let c = f.clauses 𝓛 𝓜.mem 𝓡.returns in let 𝓣 = tables 𝓤 𝓛.H 𝓜 𝓡 𝓡.env in
    proved_at 𝓛 f.ended stayed c 𝓜 𝓡 (Goes-dropped 𝓛 0 Passed yes (λ κs x w. refl), tt)
    f.Key.name code.function (code.unfolded 𝓤 𝓛.H 𝓜 𝓡 wired) (λ y are.
    let h = y.0.3.0 in let us = y.0.4.0 in
    let boxed : D Boxed = record { ptr = h.at; alloc = h.alloc; value = h.content } in
    let Raw = type_at f.signature.result tt in
    let made : Raw.Denot = record { ptr = h.at; alloc = h.alloc; value = h.content } in
    qed 𝓛 ((‵ ftrue ⊛ ‵ (fsep ((B Boxed).own_val boxed us) ftrue)) ∷ raw (emp 𝓤) ∷ []) ∵ split ! $ keep ! (1 ∷ []) $ fsplit ! $
    box_out Boxed ! boxed us (λ b o hv is words fits. box_in Boxed ! boxed b o h.content is refl $ keep ! (0 ∷ []) $
    let w = word Boxed hv b o in
    use1 𝓛 (‵ (Raw.own_val made (w ∷ []))) (id⊢ 𝓤 _) $
    let Γ : List (Item 𝓤) = ‵ (Raw.own_val made (w ∷ [])) ∷ [] in
    by ! (subst (λ (vs : List Val). ent 𝓤 (⋆ 𝓛 Γ) (WpFn 𝓤 𝓛.H 𝓣.C 𝓣.Λ code.function (vs ++ []) ((walk_of 𝓛 f.ended stayed c).post y))) (sym words)
    (qed 𝓛 Γ ∵ enter ! _ _ _ _ _ $ alloc_all ! (λ l. pass_all ! refl (box_typed Boxed hv b o fits, tt) $
    sets ! (of_opd ! (get_in ! (fld ! refl (stop !)) (sub ! 0 refl (whole !)))) refl (tt, tt) $
    sets ! (of_opd ! (get_in ! (fld ! refl (stop !)) (sub ! 1 refl (whole !)))) refl fits $
    sets ! (agg ! (and_then ! (get ! refl) (and_then ! (get ! refl) (no_more !)))) refl (box_typed Boxed hv b o fits) $
    returns ! (look_at ! 0 refl) $ free_all ! refl $
    suffices ! _ (ends_at 𝓛 f.ended stayed c y w made (tt, tt) (tt, tt)) $ says ! refl $
    nothing ! $ nothing ! $ fjoin ! $ join ! $ nothing ! $ join ! $ done !)))))
