-- The pointer goes to `Box::from_raw` with what it owns.
use mathlib.Core.Path.{◌≡◌, refl, sym, subst, ap}
use mathlib.Core.List.{List, [], ◌∷◌, ◌++◌}
use lib.Dec.{T}
use mir.Syntax.{Fn, Body, place, copy, assign, rv_opd, seq, return}
use mir.MapTy.{inst_fn}
use mir.Val.{Val, vptr, has_ty, WT}
use base.Logic.{ent, id⊢}
use base.Fml.{ftrue, fsep, flft}
use contract.BorrowLft.{◌⊑◌}
use prog.Wp.{WpFn}
use contract.Monad.{fact}
use contract.Running.{tables}
use types.Kit.{Item, ⋆, at_ret, ‵, raw, ◌⊛◌, some, later, ◌$◌, ◌∵◌, !, qed, by, move, drop, use1, join, split, split3, pick, rewrite, fsplit, fjoin, feq_i, suffices, await, done}
use types.Part.{whole, sub}
use types.Run.{stop, fld, no_more, and_then, of_opd, returns, enter, first, blocks, exec}
use types.ByLocal.{alloc_all, pass_all, free_all, look_at, get, get_in, sets, lands_last, env}
use denote.RattleType.{RattleType}
use denote.Exit.{no}
use denote.RawPtr.{block_ptr}
use denote.Signature.{plain}
use denote.Steps.{heard, nothing, only}
use denote.Triple.Call.{calls_at_last}
use denote.Triple.Clauses.{Ended}
use denote.Triple.Spec.{triple_of}
use denote.Triple.Table.{framed}
use denote.Triple.Walked.{says, Stays, stay_dropped, walk_of, ends_at}
use Rattle.std.proofs.alloc.Calls.{token, Goes-blank}
use Rattle.std.proofs.raw_atomic.Walks.{proved_at}
use Rattle.std_alloc.specs.Box.Ownership.{box_owns}
use Rattle.std_alloc.proofs.BoxSteps.Form.{Bx, D, R, P, B, args, box_ty, word, box_typed}
use Rattle.std_alloc.proofs.BoxSteps.Steps.{box_out, box_in}
use Rattle.std_alloc.specs.contracts.boxed.Box.from_raw as g
use Rattle.std_alloc.proofs.boxed.Box.from_raw.Met.{met as from_raw_met}
use Rattle.githoppu_c.specs.contracts.raw_box.RawBox as RawBox
use Rattle.githoppu_c.specs.contracts.raw_box.RawBox.into_box as f
use Rattle.githoppu_c.proofs.raw_box.RawBox.into_box.Statement.{statement}
use Rattle.githoppu_c.proofs.raw_box.RawBox.into_box.Code as code

-- the code behind the block
abbrev returned : Body
returned = seq (assign (place 0 []) (rv_opd (copy (place 4 [])))) return

-- the function `into_box` meets its contract, for each type of value and of allocator
pub into_box_spec : {M : Type 1} → statement M
into_box_spec 𝓤 𝓛 𝓜 𝓡 wired X Z x-laws z-laws ghosts dict drops allocates drops-met =
    let E : Bx = record { row = X; laws = x-laws; al = record { row = Z; laws = z-laws; g = ghosts; d = dict; drops = drops } } in
    let ended : Ended = f.ended X Z ghosts dict drops in
    let fn : Fn = inst_fn (args E) code.function in
    let From : RattleType = RawBox.the_row (R E) (P E) ghosts in
    let stayed : Stays ended.signature.params ended.kept = (stay_dropped (plain (λ _. From)) no, tt) in
    let c = f.clauses X Z ghosts dict drops 𝓛 𝓜.mem 𝓡.returns in let 𝓣 = tables 𝓤 𝓛.H 𝓜 𝓡 𝓡.env in
    let G = triple_of 𝓛 (g.signature X Z ghosts dict drops) (g.spec X Z ghosts dict drops 𝓛 𝓜.mem 𝓡.returns) in
    proved_at 𝓛 ended stayed c 𝓜 𝓡 (Goes-blank 𝓛 2 (plain (λ _. From)) no (λ κs x w. tt), tt)
    (f.Key.name (args E)) fn (code.unfolded 𝓤 𝓛.H 𝓜 𝓡 wired (X, (Z, tt)) dict drops) (λ y are.
    let κs = y.0.0 in let qs = y.0.1 in let r = y.0.3.0 in let us = y.0.4.0 in
    let boxed : D E = record { ptr = r.ptr; alloc = r.alloc; value = r.value } in
    let tokens : Item 𝓤 = ‵ (flft κs.0 qs.0) ⊛ ‵ (flft κs.1.0 qs.1.0) ⊛ ‵ ftrue in
    let lives : Item 𝓤 = raw (fact 𝓤 (κs.0 ⊑ X.lives)) ⊛ raw (fact 𝓤 (κs.1.0 ⊑ Z.lives)) ⊛ ‵ ftrue in
    qed 𝓛 ((tokens ⊛ ‵ (fsep ((B E).own_val boxed us) ftrue)) ∷ lives ∷ []) ∵ split ! $ move ! (1 ∷ []) $ fsplit ! $
    box_out E ! boxed us (λ b o hv is words fits. fjoin ! $
    let w = word E hv b o in let H = 𝓛.H in
    let z : G.Ghost = ((κs, qs, tt, (r.alloc, (block_ptr b o, tt)), (hv ∷ [], (vptr b o ∷ [], tt))), r.value) in
    let Γ : List (Item 𝓤) = ‵ (box_owns (token E.al r.alloc) (R E) (block_ptr b o) r.value) ∷ ‵ ((P E).own_val r.alloc (hv ∷ [])) ∷ ‵ ftrue ∷ tokens ∷ lives ∷ [] in
    let Post = (walk_of 𝓛 ended stayed c).post y in
    by ! (subst (λ (vs : List Val). ent 𝓤 (⋆ 𝓛 Γ) (WpFn 𝓤 H 𝓣.C 𝓣.Λ fn (vs ++ []) Post)) (sym words)
    (qed 𝓛 Γ ∵ enter ! 𝓣.C 𝓣.Λ fn (w ∷ []) _ $ alloc_all ! (λ l. pass_all ! refl (box_typed E hv b o fits, tt) $
    sets ! (of_opd ! (get_in ! (fld ! refl (stop !)) (sub ! 0 refl (whole !)))) refl (tt, tt) $
    sets ! (of_opd ! (get_in ! (fld ! refl (stop !)) (sub ! 1 refl (whole !)))) refl fits $
    first ! $ blocks ! $ sets ! (of_opd ! (get ! refl)) refl fits $
    -- [the box's memory; its allocator; true; the tokens; that they outlive]
    move ! (4 ∷ []) $ split3 ! $ move ! (2 ∷ []) $ drop ! $ move ! (1 ∷ 2 ∷ []) $ join ! $ move ! (1 ∷ 0 ∷ []) $ join ! $
    move ! (2 ∷ []) $ feq_i ! (List Val) (vptr b o ∷ []) (vptr b o ∷ []) refl $ fjoin ! $ move ! (2 ∷ 0 ∷ []) $ fjoin ! $ move ! (2 ∷ 0 ∷ []) $ join ! $ join ! $
    use1 𝓛 (raw (G.pre z)) (id⊢ 𝓤 _) $
    calls_at_last ! (framed 𝓤 H 𝓜 𝓣) G (from_raw_met 𝓤 𝓛 𝓜 𝓡 (code.calls-std_alloc::boxed::Box::from_raw 𝓡.env wired) X Z x-laws z-laws ghosts dict drops allocates drops-met) z
    (and_then ! (get ! refl) (and_then ! (get ! refl) (no_more !))) (λ u.
    use1 𝓛 (later (some (λ (made : D E). (tokens ⊛ ‵ ((B E).own_val made (u ∷ []))) ⊛
    some (λ (_ : Unit {0} × (Unit {0} × Unit {0})). ‵ (fsep ftrue (fsep ftrue ftrue)) ⊛ (raw (fact 𝓤 (made.value ≡ r.value)) ⊛ raw (fact 𝓤 (made.alloc ≡ r.alloc))))))) (id⊢ 𝓤 _) $
    await ! tt $ pick ! (λ made. split ! $ move ! (1 ∷ []) $ pick ! (λ _. split3 ! $ drop ! $ heard ! (made.value ≡ r.value) (λ same. drop ! $ split ! $ move ! (1 ∷ []) $
    box_out E ! made (u ∷ []) (λ b' o' hw is' word' fits'. box_in E ! made b' o' made.value is' refl $ rewrite ! 0 (λ (vs : List Val). ‵ ((B E).own_val made vs)) (sym word') refl $
    let typed : T (has_ty (box_ty E) u) × WT u = subst (λ (v : Val). T (has_ty (box_ty E) v) × WT v) (sym (ap only word')) (box_typed E hw b' o' fits') in
    lands_last ! refl typed $ exec ! 𝓣.C 𝓣.Λ (env fn.locals l) returned (at_ret (env fn.locals l) Post) $
    sets ! (of_opd ! (get ! refl)) refl typed $ returns ! (look_at ! 0 refl) $ free_all ! refl $
    suffices ! _ (ends_at 𝓛 ended stayed c y u made ((tt, (tt, tt)), tt) (tt, tt)) $ says ! same $
    nothing ! $ nothing ! $ fjoin ! $ join ! $ move ! (1 ∷ 0 ∷ []) $ join ! $ done !))))))))))
