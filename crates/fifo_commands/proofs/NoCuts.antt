-- Lives without cuts, and lives of the queue.
use Rattle.std.proofs.Common.{◌≡◌, List, [], ◌∷◌, map, refl, sym, ap, ap₂, ◌∙◌}
use Rattle.std.specs.Prelude.{All}
use Rattle.std.proofs.lemmas.List.Elements.{All-head, All-tail}
use Rattle.life_records.specs.Records.{Life, Script}
use Rattle.fifo_commands.specs.FifoLives.{uncut}
use Rattle.fifo_commands.specs.declared.record.FifoLife.{FifoLife}
use Rattle.fifo_commands.specs.declared.record.FifoScript.{FifoScript}
use Rattle.fifo_object.specs.declared.operations.FifoOp.{FifoOp}
use Rattle.fifo_commands.specs.Uncut.{cutless, uncut_script}

abbrev IsUncut : Life FifoOp → Type 0
IsUncut life = life.cuts ≡ []

life_again : (life : Life FifoOp) → IsUncut life → uncut (cutless life) ≡ life
life_again life none = ap (λ cuts. record { clients = life.clients; choice = life.choice; cuts = cuts; commands = life.commands }) (sym none)

pub lives_again : (lives : List (Life FifoOp)) → All IsUncut lives → map uncut (map cutless lives) ≡ lives
lives_again [] all = refl
lives_again (life ∷ lives) all =
    ap₂ (λ l ls. l ∷ ls) (life_again life (All-head IsUncut life lives all)) (lives_again lives (All-tail IsUncut life lives all))

cutless_again : (lives : List FifoLife) → map cutless (map uncut lives) ≡ lives
cutless_again [] = refl
cutless_again (life ∷ lives) = ap (λ ls. life ∷ ls) (cutless_again lives)

-- scripts that are the same with no cuts are one
pub uncut_one : (one other : FifoScript) → uncut_script one ≡ uncut_script other → one ≡ other
uncut_one one other same =
    let lines : one.lines ≡ other.lines = ap (λ (s : Script FifoOp). s.lines) same in
    let lives : one.lives ≡ other.lives =
    sym (cutless_again one.lives) ∙ ap (λ (s : Script FifoOp). map cutless s.lives) same ∙ cutless_again other.lives in
    ap₂ (λ lines lives. record { lines = lines; lives = lives }) lines lives
