-- The lines of clients that were stopped, and of those that ran out of free cells, are read off their text.
use Rattle.std.proofs.Common.{◌≡◌, ℕ, ◌^◌, ◌<◌, Bool, true, false, List, [], ◌∷◌, ◌++◌, cond, codes, sym, ap, ◌∙◌, refl, arith, lit≤, append_assoc}
use Rattle.std.specs.Fmt.{decimal}
use Rattle.std.proofs.lemmas.List.{append_cancel_left}
use Rattle.life_records.specs.Records.{FullLine, StopLine}
use Rattle.script_text.specs.Report.{stop_text, full_text}
use Rattle.plain_text.proofs.Beginnings.{AreReadOff}
use Rattle.plain_text.proofs.Decimals.{same_numbers}

-- the numbers of a line are within 64 bits
abbrev pub HasStopNumbers : StopLine → Type 0
HasStopNumbers line = (line.client < 2 ^ 64) × (line.command < 2 ^ 64) × (line.steps < 2 ^ 64)

abbrev pub HasFullNumbers : FullLine → Type 0
HasFullNumbers line =
    (line.client < 2 ^ 64) × (line.command < 2 ^ 64) × (line.note.holder < 2 ^ 64) × (line.note.need < 2 ^ 64) × (line.note.ticket < 2 ^ 64)

-- ---- stops

abbrev kept_word : Bool → List ℕ
kept_word true = codes "kept\n"
kept_word false = codes "lost\n"

stop_text-append : (line : StopLine) (x : List ℕ)
    → stop_text line ++ x
    ≡ codes "stopped " ++ (decimal line.client ++ 46 ∷ (decimal line.command ++ 32 ∷ (codes "at " ++ (decimal line.steps ++ 32 ∷ (kept_word line.kept ++ x)))))
stop_text-append line x = by_word line.kept
  where
    by_word : (kept : Bool)
        → (codes "stopped " ++ (decimal line.client ++ codes "." ++ decimal line.command) ++ codes " at " ++ decimal line.steps
        ++ cond kept (codes " kept\n") (codes " lost\n")) ++ x
        ≡ codes "stopped " ++ (decimal line.client ++ 46 ∷ (decimal line.command ++ 32 ∷ (codes "at " ++ (decimal line.steps ++ 32 ∷ (kept_word kept ++ x)))))
    by_word true = simp append_assoc
    by_word false = simp append_assoc

abbrev first_byte : List ℕ → ℕ
first_byte [] = 0
first_byte (b ∷ text) = b

same_word : (a b : Bool) (x y : List ℕ) → kept_word a ++ x ≡ kept_word b ++ y → a ≡ b
same_word true false x y e = let first : 107 ≡ 108 = ap first_byte e in absurd (omega (arith, first))
same_word false true x y e = let first : 108 ≡ 107 = ap first_byte e in absurd (omega (arith, first))
same_word _ _ x y e = refl

same_stop : (a b : StopLine) (x y : List ℕ) → HasStopNumbers a → HasStopNumbers b → stop_text a ++ x ≡ stop_text b ++ y → a ≡ b
same_stop a b x y fits others_fit e =
    let parts = append_cancel_left (codes "stopped ")
    (decimal a.client ++ 46 ∷ (decimal a.command ++ 32 ∷ (codes "at " ++ (decimal a.steps ++ 32 ∷ (kept_word a.kept ++ x)))))
    (decimal b.client ++ 46 ∷ (decimal b.command ++ 32 ∷ (codes "at " ++ (decimal b.steps ++ 32 ∷ (kept_word b.kept ++ y)))))
    (sym (stop_text-append a x) ∙ e ∙ stop_text-append b y) in
    let client = same_numbers a.client b.client 46
    (decimal a.command ++ 32 ∷ (codes "at " ++ (decimal a.steps ++ 32 ∷ (kept_word a.kept ++ x))))
    (decimal b.command ++ 32 ∷ (codes "at " ++ (decimal b.steps ++ 32 ∷ (kept_word b.kept ++ y))))
    fits.0 others_fit.0 (lit≤ tt) parts in
    let command = same_numbers a.command b.command 32
    (codes "at " ++ (decimal a.steps ++ 32 ∷ (kept_word a.kept ++ x))) (codes "at " ++ (decimal b.steps ++ 32 ∷ (kept_word b.kept ++ y)))
    fits.1 others_fit.1 (lit≤ tt) client.1 in
    let steps = same_numbers a.steps b.steps 32 (kept_word a.kept ++ x) (kept_word b.kept ++ y) fits.2 others_fit.2 (lit≤ tt)
    (append_cancel_left (codes "at ") (decimal a.steps ++ 32 ∷ (kept_word a.kept ++ x)) (decimal b.steps ++ 32 ∷ (kept_word b.kept ++ y)) command.1) in
    let kept = same_word a.kept b.kept x y steps.1 in
    λ i. record { client = client.0 i; command = command.0 i; steps = steps.0 i; kept = kept i }

pub stops_read : AreReadOff stop_text 115 HasStopNumbers
stops_read = record { begins = λ line. (_, refl); same = same_stop }

-- ---- clients that ran out of free cells

abbrev ticket_end : FullLine → List ℕ → List ℕ
ticket_end line x = decimal line.note.ticket ++ 10 ∷ x

abbrev need_end : FullLine → List ℕ → List ℕ
need_end line x = decimal line.note.need ++ 32 ∷ (codes "ticket " ++ ticket_end line x)

abbrev holder_end : FullLine → List ℕ → List ℕ
holder_end line x = decimal line.note.holder ++ 32 ∷ (codes "need " ++ need_end line x)

abbrev command_end : FullLine → List ℕ → List ℕ
command_end line x = decimal line.command ++ 32 ∷ (codes "holder " ++ holder_end line x)

full_text-append : (line : FullLine) (x : List ℕ) → full_text line ++ x ≡ codes "full " ++ (decimal line.client ++ 46 ∷ command_end line x)
full_text-append line x = simp append_assoc

same_full : (a b : FullLine) (x y : List ℕ) → HasFullNumbers a → HasFullNumbers b → full_text a ++ x ≡ full_text b ++ y → a ≡ b
same_full a b x y fits others_fit e =
    let client = same_numbers a.client b.client 46 (command_end a x) (command_end b y) fits.0 others_fit.0 (lit≤ tt)
    (append_cancel_left (codes "full ") (decimal a.client ++ 46 ∷ command_end a x) (decimal b.client ++ 46 ∷ command_end b y)
    (sym (full_text-append a x) ∙ e ∙ full_text-append b y)) in
    let command = same_numbers a.command b.command 32 (codes "holder " ++ holder_end a x) (codes "holder " ++ holder_end b y) fits.1 others_fit.1 (lit≤ tt)
    client.1 in
    let holder = same_numbers a.note.holder b.note.holder 32 (codes "need " ++ need_end a x) (codes "need " ++ need_end b y) fits.2 others_fit.2 (lit≤ tt)
    (append_cancel_left (codes "holder ") (holder_end a x) (holder_end b y) command.1) in
    let need = same_numbers a.note.need b.note.need 32 (codes "ticket " ++ ticket_end a x) (codes "ticket " ++ ticket_end b y) fits.3 others_fit.3 (lit≤ tt)
    (append_cancel_left (codes "need ") (need_end a x) (need_end b y) holder.1) in
    let ticket = same_numbers a.note.ticket b.note.ticket 10 x y fits.4 others_fit.4 (lit≤ tt)
    (append_cancel_left (codes "ticket ") (ticket_end a x) (ticket_end b y) need.1) in
    λ i. record { client = client.0 i; command = command.0 i; note = record { holder = holder.0 i; need = need.0 i; ticket = ticket.0 i } }

pub fulls_read : AreReadOff full_text 102 HasFullNumbers
fulls_read = record { begins = λ line. (_, refl); same = same_full }
