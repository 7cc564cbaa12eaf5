-- What calls bring on by write sets, one after another.
use Rattle.std.proofs.Common.{◌≡◌, ◌+◌, inl, inr, ℕ, List, min, refl, ap, sym, ◌∙◌, arith}
use Rattle.cx_core.specs.Layout.{max_word}
use Rattle.table_invariant.specs.Seats.{Seated}
use Rattle.cx_attempts.specs.Bringing.{BringsAtMost, BringsEntries, BringsOn, CountsEntries, none_yet, one_more}
use Rattle.cx_attempts.specs.Attempts.{KeepsCount}
use Rattle.redo_set.specs.Taking.{sets_read}
use Rattle.redo_replay.specs.Offered.{StoresSet}

none_more : (n : ℕ) → n ≡ n + 0
none_more n = omega arith

-- none
pub brings_none : (s v : Seated) → v.known.sets ≡ s.known.sets → BringsEntries s v
brings_none s v same = record { count = 0; on = none_yet 0 v refl same; read = ap sets_read same ∙ none_more (sets_read s.known.sets) }

-- one
brings_one : (s v : Seated) (ticket : ℕ) (set : List ℕ) → StoresSet ticket set s v → BringsEntries s v
brings_one s v ticket set stores = record { count = 1; on = one_more 1 v 0 s v ticket set refl (none_yet 0 s refl refl) stores refl; read = stores.read }

-- the sets read from `s` to `u` are those read from `s` to `v`, where no word of a set was read from `u` to `v`
on_later : (s : Seated) (n : ℕ) (u : Seated) → BringsOn s n u → (k : ℕ) (v : Seated) → k ≡ n → v.known.sets ≡ u.known.sets → BringsOn s k v
on_later s n u (none_yet _ _ zero same) k v is still = none_yet k v (is ∙ zero) (still ∙ same)
on_later s n u (one_more _ _ first mid next ticket set more on stores kept) k v is still = one_more k v first mid next ticket set (is ∙ more) on stores (still ∙ kept)

-- n sets read from `s` to `u`, and m from `u` to `v`, are n + m sets read from `s` to `v`
on_then : (s : Seated) (n : ℕ) (u : Seated) → BringsOn s n u → (m : ℕ) (v : Seated) → BringsOn u m v → BringsOn s (n + m) v
on_then s n u before m v (none_yet _ _ zero same) = on_later s n u before (n + m) v (omega (arith, zero)) same
on_then s n u before m v (one_more _ _ first mid next ticket set more on stores kept) =
    one_more (n + m) v (n + first) mid next ticket set (omega (arith, more)) (on_then s n u before first mid on) stores kept

-- the sets read from `s` to `u` and those read from `u` to `v`, one after another, are the sets read from `s` to `v`
pub brings_then : (s u v : Seated) → BringsEntries s u → BringsEntries u v → BringsEntries s v
brings_then s u v a b = record { count = a.count + b.count; on = on_then s a.count u a.on b.count v b.on; read = omega (arith, a.read, b.read) }

-- the sets read from `t` to `u` are those read from `s` to `v`, where no word of a set was read from `s` to `t` and from `u` to `v`
pub brings_around : (s t u v : Seated) → t.known.sets ≡ s.known.sets → BringsEntries t u → v.known.sets ≡ u.known.sets → BringsEntries s v
brings_around s t u v before brought after = brings_then s u v (brings_then s t u (brings_none s t before) brought) (brings_none u v after)

-- where no word of a set was read from `s` to `u`, and at most the set of this ticket from `u` to `v`, the sets read from `s` to `v` are counted
pub brings_at : (ticket : ℕ) (s u v : Seated) → u.known.sets ≡ s.known.sets → BringsAtMost ticket u v → BringsEntries s v
brings_at ticket s u v before (inl same) = brings_none s v (same ∙ before)
brings_at ticket s u v before (inr (set, mid, same, stores)) = brings_then s mid v (brings_none s mid (same ∙ before)) (brings_one mid v ticket set stores)

-- at most the set of this ticket was read from `s` to `v`, where no word of a set was read from `s` to `u` and at most that set from `u` to `v`
pub at_most_behind : (ticket : ℕ) (s u v : Seated) → u.known.sets ≡ s.known.sets → BringsAtMost ticket u v → BringsAtMost ticket s v
at_most_behind ticket s u v before (inl same) = inl (same ∙ before)
at_most_behind ticket s u v before (inr (set, mid, same, stores)) = inr (set, mid, same ∙ before, stores)

-- nothing more is noted of sets, and nothing more is counted
pub counted_same : (taken now : ℕ) (before after : Seated) → now ≡ taken → after.known.sets ≡ before.known.sets → KeepsCount taken before now after
counted_same taken now before after still same was = still ∙ was ∙ sym (ap (λ ns. min (sets_read ns) max_word) same)

-- where sets stay counted from `t` to `u`, they do from `s` to `v`, where no word of a set was read from `s` to `t` and from `u` to `v`
pub counts_around : (taken now : ℕ) (s t u v : Seated) → t.known.sets ≡ s.known.sets → CountsEntries taken t now u → v.known.sets ≡ u.known.sets → CountsEntries taken s now v
counts_around taken now s t u v before counts after = record {
  counted = λ was. counted_same now now u v refl after (counts.counted (counted_same taken taken s t refl before was));
  by_sets = brings_around s t u v before counts.by_sets after;
}

-- where no word of a set was read from `s` to `v`, the sets that were read stay counted, with the number `now` that is `taken`
pub counts_none : (taken now : ℕ) (s v : Seated) → now ≡ taken → v.known.sets ≡ s.known.sets → CountsEntries taken s now v
counts_none taken now s v still same = record { counted = counted_same taken now s v still same; by_sets = brings_none s v same }

-- Sets of others were counted, `taken` up to the seat `s`, `mid` up to `u` and `now` up to `v`. Where the count is kept from `s` to `u` and from `u` to
-- `v`, it is kept from `s` to `v`.
pub counts_then : (taken mid now : ℕ) (s u v : Seated) → CountsEntries taken s mid u → CountsEntries mid u now v → CountsEntries taken s now v
counts_then taken mid now s u v a b = record { counted = λ was. b.counted (a.counted was); by_sets = brings_then s u v a.by_sets b.by_sets }
