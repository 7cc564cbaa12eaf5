-- What work on a replica held exclusively keeps.
use Rattle.std.proofs.Common.{◌≡◌, ◌+◌, true, false, ℕ, Bool, List, [], ◌∷◌, map, min, refl, ap, sym, ◌∙◌, arith, Option, Some, None}
use Rattle.std.specs.Option.{option_map}
use Rattle.cx_core.specs.declared.local.Cell.{Cell}
use Rattle.cx_core.specs.declared.local.HeldExclusive.{HeldExclusive}
use Rattle.cx_core.specs.declared.local.HeldShared.{HeldShared}
use Rattle.cx_core.specs.Layout.{max_word}
use Rattle.cx_core.specs.Rights.{shared_on}
use Rattle.table_invariant.specs.Seats.{Seated}
use Rattle.cx_attempts.specs.Replaying.{unchanged_by_bringing, unchanged_by_replay, unchanged_by_work, except_shared_loads}
use Rattle.cx_attempts.specs.Attempts.{KeepsCount, except_sets, unguarded}
use Rattle.replica.specs.Held.{unchanged_by_access, except_loaded, except_words}
use Rattle.redo_set.specs.Taking.{CountsTaken, sets_read}
use Rattle.redo_replay.specs.Offered.{unchanged_by_offered}
use Rattle.redo_replay.specs.Own.{unchanged_by_own_set, except_set}
use Rattle.strong_trylock.specs.Held.{AllRights, all_rights}

words_once : (o : Option HeldExclusive) → option_map except_words (option_map except_words o) ≡ option_map except_words o
words_once None = refl
words_once (Some h) = refl

loads_once : (r : ℕ) (o : Option HeldShared) → option_map except_shared_loads (option_map (except_loaded r) o) ≡ option_map except_shared_loads o
loads_once r None = refl
loads_once r (Some h) = refl

with_rights : Seated → Option HeldExclusive → Option HeldShared → Seated
with_rights s exclusive shared = record (unchanged_by_work s) { known = record (unchanged_by_work s).known { local = record (unchanged_by_work s).known.local { exclusive = exclusive; shared = shared } } }

work_beside : (r : ℕ) (s : Seated) → unchanged_by_work (unchanged_by_access r s) ≡ unchanged_by_work s
unfolding with_rights
work_beside r s =
    ap (λ o. with_rights s o (option_map except_shared_loads (option_map (except_loaded r) s.known.local.shared))) (words_once s.known.local.exclusive)
    ∙ ap (λ o. with_rights s (option_map except_words s.known.local.exclusive) o) (loads_once r s.known.local.shared)

-- what an access of the replica changes, work on the replica may change
pub work_held : (r : ℕ) (before after : Seated) → unchanged_by_access r after ≡ unchanged_by_access r before → unchanged_by_work after ≡ unchanged_by_work before
work_held r before after same = sym (work_beside r after) ∙ ap unchanged_by_work same ∙ work_beside r before

-- what an access of the replica changes, replay may change
pub replay_held : (r : ℕ) (before after : Seated) → unchanged_by_access r after ≡ unchanged_by_access r before → unchanged_by_replay after ≡ unchanged_by_replay before
replay_held r before after same = ap except_sets (work_held r before after same)

offered_beside : (r : ℕ) (s : Seated) → unchanged_by_replay (unchanged_by_offered r s) ≡ unchanged_by_replay s
offered_beside r s = ap except_sets (work_beside r s)

-- what bringing the replica on by another's write set changes, replay may change
pub replay_offered : (r : ℕ) (before after : Seated) → unchanged_by_offered r after ≡ unchanged_by_offered r before → unchanged_by_replay after ≡ unchanged_by_replay before
replay_offered r before after same = sym (offered_beside r after) ∙ ap unchanged_by_replay same ∙ offered_beside r before

cells_once : (cells : List Cell) → map except_set (map except_set cells) ≡ map except_set cells
cells_once [] = refl
cells_once (c ∷ cells) = ap (λ cs. except_set c ∷ cs) (cells_once cells)

with_cells : Seated → List Cell → Seated
with_cells s cells = record (unchanged_by_replay s) { known = record (unchanged_by_replay s).known { local = record (unchanged_by_replay s).known.local { cells = cells } } }

own_beside : (r : ℕ) (s : Seated) → unchanged_by_replay (unchanged_by_own_set r s) ≡ unchanged_by_replay s
unfolding with_cells
own_beside r s = ap (with_cells (unchanged_by_access r s)) (cells_once s.known.local.cells) ∙ ap except_sets (work_beside r s)

-- what doing an own entry's step and offering its write set changes, replay may change
pub replay_own : (r : ℕ) (before after : Seated) → unchanged_by_own_set r after ≡ unchanged_by_own_set r before → unchanged_by_replay after ≡ unchanged_by_replay before
replay_own r before after same = sym (own_beside r after) ∙ ap unchanged_by_replay same ∙ own_beside r before

replica_once : (o : Option HeldExclusive) → option_map (λ (h : HeldExclusive). h.replica) (option_map except_words o) ≡ option_map (λ (h : HeldExclusive). h.replica) o
replica_once None = refl
replica_once (Some h) = refl

shared_once : (o : Option HeldShared) → option_map (λ (h : HeldShared). h.replica) (option_map except_shared_loads o) ≡ option_map (λ (h : HeldShared). h.replica) o
shared_once None = refl
shared_once (Some h) = refl

rights_beside : (s : Seated) → all_rights (unchanged_by_work s) ≡ all_rights s
rights_beside s =
    ap (λ o. (let x : AllRights = record (all_rights s) { exclusive = o; shared = shared_on (unchanged_by_work s).known.local } in x)) (replica_once s.known.local.exclusive)
    ∙ ap (λ o. (let x : AllRights = record (all_rights s) { shared = o } in x)) (shared_once s.known.local.shared)

-- the rights stay
pub rights_kept : (before after : Seated) → unchanged_by_replay after ≡ unchanged_by_replay before → all_rights after ≡ all_rights before
rights_kept before after same = sym (rights_beside after) ∙ ap all_rights same ∙ rights_beside before

one_more_counted : (n most : ℕ) → min (min n most + 1) most ≡ min (n + 1) most
one_more_counted n most = omega arith

-- one set more was read, and is counted
pub counted_more : (taken : ℕ) (before after : Seated) → sets_read after.known.sets ≡ sets_read before.known.sets + 1 → KeepsCount taken before (min (taken + 1) max_word) after
counted_more taken before after more was = ap (λ n. min (n + 1) max_word) was ∙ one_more_counted (sets_read before.known.sets) max_word ∙ sym (ap (λ n. min n max_word) more)

-- whether a set was taken from `s` to `v` is counted as from `u` to `v`, where no word of a set was read from `s` to `u`
pub counts_since : (s u v : Seated) (taken : Bool) → u.known.sets ≡ s.known.sets → CountsTaken u v taken → CountsTaken s v taken
counts_since s u v true same more = more ∙ ap (λ ns. sets_read ns + 1) same
counts_since s u v false same none = none ∙ same

-- a replica is brought up by such replay, then the protection is removed, and then such work is done
pub still_bringing : (before mid then last : Seated) → unchanged_by_work last ≡ unchanged_by_work then → unguarded then ≡ unguarded mid → unchanged_by_replay mid ≡ unchanged_by_replay before → unchanged_by_bringing last ≡ unchanged_by_bringing before
still_bringing before mid then last work guard replay = ap (λ s. except_sets (unguarded s)) work ∙ ap unchanged_by_replay guard ∙ ap unguarded replay
