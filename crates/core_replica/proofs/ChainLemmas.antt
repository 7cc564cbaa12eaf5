-- Codes that lead from one to another, each won over the one before.
use Rattle.std.proofs.Common.{◌≡◌, ◌≢◌, ◌<◌, ◌≤◌, ℕ, List, [], ◌∷◌, ◌++◌, set, inl, inr, refl, ap, sym, subst, ◌∙◌, arith, Some}
use Rattle.std.proofs.lemmas.Bool.{cases_eq}
use Rattle.std.proofs.lemmas.Option.{same_Some, slice_get_within}
use Rattle.std.specs.List.{Contains, slice_get}
use Rattle.cx_core.specs.declared.local.Local.{Local}
use Rattle.cx_core.specs.declared.local.WonCode.{WonCode}
use Rattle.cx_core.specs.Chain.{HasWon, Leads, WinsApart}
use Rattle.cx_core.proofs.HeldLists.{contains_cases, contains_first, contains_rest}
use Rattle.cx_core.proofs.ListLemmas.{slice_get-set_other, slice_get-set_same}
use Rattle.cx_core.proofs.Locals.{item_after}

module _ (locals : List Local) (caller : ℕ) (l l' : Local) (at : slice_get locals caller ≡ Some l) where
  -- a win that the local state put still has
  has_won_put : (before code : ℕ) → (l.won ≡ Some (record { code = code; before = before }) → l'.won ≡ Some (record { code = code; before = before })) →
      HasWon locals before code → HasWon (set locals caller l') before code
  has_won_put before code keeps won =
      elim (cases_eq won.caller caller) [
        | inl e ↦ (
            let same : won.local ≡ l = same_Some won.local l (sym won.of_caller ∙ ap (slice_get locals) e ∙ at) in
            record {
              caller = caller;
              local = l';
              of_caller = slice_get-set_same locals caller l' (slice_get_within locals caller l at);
              won = keeps (ap (λ (x : Local). x.won) (sym same) ∙ won.won);
            })
        | inr ne ↦ record {
          caller = won.caller;
          local = won.local;
          of_caller = slice_get-set_other locals caller won.caller l' ne ∙ won.of_caller;
          won = won.won;
        }
      ]

  -- codes still lead where the local state put has the wins above the first
  pub leads_put : (from : ℕ) (codes : List ℕ) (to : ℕ) →
      ((before code : ℕ) → from < code → l.won ≡ Some (record { code = code; before = before }) → l'.won ≡ Some (record { code = code; before = before })) →
      Leads locals from codes to → Leads (set locals caller l') from codes to
  leads_put from [] to keeps leads = leads
  leads_put from (code ∷ codes) to keeps leads = (
    leads.0,
    has_won_put from code (keeps from code leads.0) leads.1,
    leads_put code codes to (λ b c up. keeps b c (let first = leads.0 in omega arith)) leads.2,
  )

  -- no two callers have wins over one code, where the local state put has one over no code of another's
  pub wins_put : WinsApart locals →
      ((w : WonCode) → l'.won ≡ Some w → (d : ℕ) (x : Local) (v : WonCode) → slice_get locals d ≡ Some x → d ≢ caller → x.won ≡ Some v → v.before ≢ w.before) → WinsApart (set locals caller l')
  wins_put apart other a b la lb wa wb at_a at_b won_a won_b same =
      let within = slice_get_within locals caller l at in
      elim (item_after locals caller a l' la within at_a) [
        | inl e ↦ elim (item_after locals caller b l' lb within at_b) [
          | inl f ↦ e.0 ∙ sym f.0
          | inr f ↦ absurd (other wa (ap (λ (x : Local). x.won) e.1 ∙ won_a) b lb wb f.1 f.0 won_b (sym same))
        ]
        | inr e ↦ elim (item_after locals caller b l' lb within at_b) [
          | inl f ↦ absurd (other wb (ap (λ (x : Local). x.won) f.1 ∙ won_b) a la wa e.1 e.0 won_a same)
          | inr f ↦ apart a b la lb wa wb e.1 f.1 won_a won_b same
        ]
      ]

  -- wins stay apart where a caller's win stays or ends
  pub wins_stay : WinsApart locals → ((w : WonCode) → l'.won ≡ Some w → l.won ≡ Some w) → WinsApart (set locals caller l')
  wins_stay apart stays = wins_put apart (λ w has d x v there ne won same. ne (apart d caller x l v w there at won (stays w has) same))

-- one code more at the end
pub leads_push : (locals : List Local) (from : ℕ) (codes : List ℕ) (to code : ℕ) → to < code → HasWon locals to code →
    Leads locals from codes to → Leads locals from (codes ++ code ∷ []) code
leads_push locals from [] to code up won leads = (subst (λ n. n < code) (sym leads) up, subst (λ n. HasWon locals n code) (sym leads) won, refl)
leads_push locals from (x ∷ codes) to code up won leads = (leads.0, leads.1, leads_push locals x codes to code up won leads.2)

pub leads_up : (locals : List Local) (from : ℕ) (codes : List ℕ) (to : ℕ) → Leads locals from codes to → from ≤ to
leads_up locals from [] to leads = let e : from ≡ to = leads in omega arith
leads_up locals from (code ∷ codes) to leads = let rest = leads_up locals code codes to leads.2 in let first = leads.0 in omega arith

-- the last code is among those above
pub leads_last : (locals : List Local) (from : ℕ) (codes : List ℕ) (to : ℕ) → Leads locals from codes to → from < to → Contains codes to
leads_last locals from [] to leads up = let e : from ≡ to = leads in absurd (omega arith)
leads_last locals from (code ∷ codes) to leads up =
    elim (cases_eq code to) [
      | inl e ↦ contains_first code codes to e
      | inr ne ↦ contains_rest code codes to (leads_last locals code codes to leads.2 (let le = leads_up locals code codes to leads.2 in omega arith))
    ]

-- each code above is above
among_above : (locals : List Local) (from : ℕ) (codes : List ℕ) (to x : ℕ) → Leads locals from codes to → Contains codes x → from < x
among_above locals from [] to x leads among = (let below : among.0 < 0 = among.1 in absurd (omega arith))
among_above locals from (code ∷ codes) to x leads among =
    let first = leads.0 in
    elim (contains_cases code codes x among) [
      | inl e ↦ let same : code ≡ x = e in omega arith
      | inr a ↦ let rest = among_above locals code codes to x leads.2 a in omega arith
    ]

-- what is left of the codes from one of them on
pub record LeadsFrom (locals : List Local) (x : ℕ) (codes : List ℕ) (to : ℕ) : Type 0 where
  pub rest : List ℕ
  pub leads : Leads locals x rest to
  pub keeps : (y : ℕ) → Contains codes y → x < y → Contains rest y

pub leads_from : (locals : List Local) (from : ℕ) (codes : List ℕ) (to x : ℕ) → Leads locals from codes to → Contains codes x → LeadsFrom locals x codes to
leads_from locals from [] to x leads among = (let below : among.0 < 0 = among.1 in absurd (omega arith))
leads_from locals from (code ∷ codes) to x leads among =
    elim (contains_cases code codes x among) [
      | inl e ↦ record {
        rest = codes;
        leads = subst (λ n. Leads locals n codes to) e leads.2;
        keeps = λ y there up. elim (contains_cases code codes y there) [ inl same ↦ (let a : code ≡ x = e in let b : code ≡ y = same in absurd (omega arith)) | inr a ↦ a ];
      }
      | inr a ↦ (
          let below = among_above locals code codes to x leads.2 a in
          let r = leads_from locals code codes to x leads.2 a in
          record {
            rest = r.rest;
            leads = r.leads;
            keeps = λ y there up. elim (contains_cases code codes y there) [ inl same ↦ (let b : code ≡ y = same in absurd (omega arith)) | inr b ↦ r.keeps y b up ];
          })
    ]
