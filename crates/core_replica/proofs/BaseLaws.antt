-- What was recovered is a lawful base.
use Rattle.std.proofs.Common.{◌≡◌, ◌+◌, ◌^◌, ◌<◌, ◌≤◌, ℕ, List, length, sym, subst, ◌∙◌}
use Rattle.std.proofs.lemmas.List.{ext_get_or}
use Rattle.cx_core.specs.declared.entry.Base.{Base}
use Rattle.cx_core.specs.declared.entry.Entry.{Entry}
use Rattle.cx_core.specs.Base.{LawfulBase}
use Rattle.cx_core.specs.Crash.{IsKept}
use Rattle.cx_core.specs.History.{AreLawful, full_image}
use Rattle.cx_core.specs.State.{Instance, State}
use Rattle.cx_core.proofs.HistoryLemmas.{ObjectLaws, full_lawful}

pub kept_lawful : (lines : ℕ) (lawful : List ℕ → Type 0) (instance : Instance) (history : List Entry) (s : State) (kept : Base) → ObjectLaws lines lawful instance.step → LawfulBase lines lawful instance.base →
    AreLawful instance.base.place history → instance.base.place + length history ≤ 2 ^ 40 → IsKept instance history s kept →
    LawfulBase lines lawful kept × (kept.words ≡ full_image instance.step instance.base history kept.place)
kept_lawful lines lawful instance history s kept laws base entries small is =
    let full = full_image instance.step instance.base history kept.place in
    let law = full_lawful lines lawful instance laws history base entries small kept.place is.from is.to in
    let long : length kept.words ≡ length full = is.long ∙ base.size.long ∙ sym law.size.long in
    let same : kept.words ≡ full = ext_get_or 0 kept.words full long (λ i below. is.full i (subst (λ n. i < n) is.long below)) in
    (subst (λ ws. LawfulBase lines lawful (let b : Base = record { place = kept.place; words = ws } in b)) (sym same) law, same)
