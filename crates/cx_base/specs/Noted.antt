-- What the loads and stores of a memory tell of its words.
use Rattle.std.specs.Prelude.{◌≡◌, ◌^◌, ◌<◌, ℕ, Bool, true, false, List, [], ◌∷◌, ◌++◌, length, slice_index, slice_set, refl}
use Rattle.std.proofs.Common.{sym, subst, ap, ◌∙◌}
use Rattle.std.proofs.Math.Logic.{∥∥₁_map}
use Rattle.std.proofs.lemmas.List.{length-set}
use Rattle.std.proofs.lemmas.List.Elements.{All-set}
use Rattle.cx_base.specs.Memory.{Words, Loaded, Stored}

-- a load (false) or a store (true) of a word at a place
abbrev pub Note : Type 0
Note = Bool × ℕ × ℕ

-- from the words ws these notes lead to the words now: each load gave the word that was there, and each store put one
abbrev pub NotesLead : List Note → List ℕ → List ℕ → Type 0
NotesLead [] ws now = now ≡ ws
NotesLead ((false, at, v) ∷ notes) ws now = (slice_index ws at ≡ v) × NotesLead notes ws now
NotesLead ((true, at, v) ∷ notes) ws now = (v < 2 ^ 64) × NotesLead notes (slice_set ws at v) now

-- a pair of words first and now that fits the notes
pub record NotesShow (n : ℕ) (notes : List Note) (first now : List ℕ) : Type 0 where
  pub words : Words n first
  pub leads : NotesLead notes first now

-- what notes lead to from a list of 64-bit words is such a list, as long
leads_to_words : (n : ℕ) (notes : List Note) (ws now : List ℕ) → Words n ws → NotesLead notes ws now → Words n now
leads_to_words n [] ws now w l = subst (Words n) (sym l) w
leads_to_words n ((false, at, v) ∷ notes) ws now w l = leads_to_words n notes ws now w l.1
leads_to_words n ((true, at, v) ∷ notes) ws now w l =
    leads_to_words n notes (slice_set ws at v) now
    (record { long = length-set ws at v ∙ w.long; fit = All-set (λ x. x < 2 ^ 64) ws at v l.0 w.fit })
    l.1

-- the words now of a pair that fits notes are as many words as the first ones
pub shown_words : (n : ℕ) (notes : List Note) (first now : List ℕ) → NotesShow n notes first now → Words n now
shown_words n notes first now s = leads_to_words n notes first now s.words s.leads

-- notes with a load of `v` at a place behind them lead to the words `now`, where notes lead there and `v` stands at the place
pub load_leads : (notes : List Note) (at v : ℕ) (ws now : List ℕ) → NotesLead notes ws now → slice_index now at ≡ v → NotesLead (notes ++ (false, at, v) ∷ []) ws now
load_leads [] at v ws now l e = (ap (λ x. slice_index x at) (sym l) ∙ e, l)
load_leads ((false, a, b) ∷ notes) at v ws now l e = (l.0, load_leads notes at v ws now l.1 e)
load_leads ((true, a, b) ∷ notes) at v ws now l e = (l.0, load_leads notes at v (slice_set ws a b) now l.1 e)

-- where notes with a load of `v` at a place behind them lead to the words `now`, the notes lead there, and `v` stands at the place
pub led_by_load : (notes : List Note) (at v : ℕ) (ws now : List ℕ) → NotesLead (notes ++ (false, at, v) ∷ []) ws now → NotesLead notes ws now × (slice_index now at ≡ v)
led_by_load [] at v ws now l = (l.1, ap (λ x. slice_index x at) l.1 ∙ l.0)
led_by_load ((false, a, b) ∷ notes) at v ws now l = (let p = led_by_load notes at v ws now l.1 in ((l.0, p.0), p.1))
led_by_load ((true, a, b) ∷ notes) at v ws now l = (let p = led_by_load notes at v (slice_set ws a b) now l.1 in ((l.0, p.0), p.1))

-- a load that is noted is a load of the words that fit the notes
pub shows_load : (n : ℕ) (notes : List Note) (at v : ℕ) → Loaded at v (NotesShow n notes) (NotesShow n (notes ++ (false, at, v) ∷ []))
shows_load n notes at v = record {
  back = λ first now s. (let p = led_by_load notes at v first now s.leads in (record { words = s.words; leads = p.0 }, p.1));
  on = λ first now s e. record { words = s.words; leads = load_leads notes at v first now s.leads e };
}

-- notes with a store of `v` at a place behind them lead to words with `v` put there, where the notes lead to the words before
pub store_leads : (notes : List Note) (at v : ℕ) (ws before : List ℕ) → v < 2 ^ 64 → NotesLead notes ws before → NotesLead (notes ++ (true, at, v) ∷ []) ws (slice_set before at v)
store_leads [] at v ws before small l = (small, ap (λ x. slice_set x at v) l)
store_leads ((false, a, b) ∷ notes) at v ws before small l = (l.0, store_leads notes at v ws before small l.1)
store_leads ((true, a, b) ∷ notes) at v ws before small l = (l.0, store_leads notes at v (slice_set ws a b) before small l.1)

-- where notes with a store of `v` at a place behind them lead to the words `now`, the notes lead to words of which `now` is made by putting `v` there
pub led_by_store : (notes : List Note) (at v : ℕ) (ws now : List ℕ) → NotesLead (notes ++ (true, at, v) ∷ []) ws now → (before : List ℕ) × NotesLead notes ws before × (now ≡ slice_set before at v)
led_by_store [] at v ws now l = (ws, refl, l.1)
led_by_store ((false, a, b) ∷ notes) at v ws now l = (let p = led_by_store notes at v ws now l.1 in (p.0, (l.0, p.1), p.2))
led_by_store ((true, a, b) ∷ notes) at v ws now l = (let p = led_by_store notes at v (slice_set ws a b) now l.1 in (p.0, (l.0, p.1), p.2))

-- a store that is noted is a store into the words that fit the notes
pub shows_store : (n : ℕ) (notes : List Note) (at v : ℕ) → v < 2 ^ 64 → Stored at v (NotesShow n notes) (NotesShow n (notes ++ (true, at, v) ∷ []))
shows_store n notes at v small = record {
  back = λ first now s. (let p = led_by_store notes at v first now s.leads in (p.0, record { words = s.words; leads = p.1 }, p.2));
  on = λ first before s. record { words = s.words; leads = store_leads notes at v first before small s.leads };
}

-- the words that are really there fit the notes: from some first words the notes lead to them
abbrev pub IsShownByNotes : List Note → List ℕ → Type 0
IsShownByNotes notes words = ∥ ((first : List ℕ) × NotesShow (length words) notes first words) ∥₁

-- where the words that are there fit the notes, some pair does
pub some_shown : (notes : List Note) (words : List ℕ) → IsShownByNotes notes words → ∥ ((first : List ℕ) × (now : List ℕ) × NotesShow (length words) notes first now) ∥₁
some_shown notes words shown = ∥∥₁_map shown (λ p. (p.0, words, p.1))

-- the words that are there fit the notes also after a load is noted of what it gave
pub shown_after_load : (notes : List Note) (words : List ℕ) (at v : ℕ) → slice_index words at ≡ v → IsShownByNotes notes words → IsShownByNotes (notes ++ (false, at, v) ∷ []) words
shown_after_load notes words at v e shown = ∥∥₁_map shown (λ p. (p.0, (shows_load (length words) notes at v).on p.0 words p.1 e))

-- the words that are there fit the notes also after a store was made and is noted
pub shown_after_store : (notes : List Note) (words : List ℕ) (at v : ℕ) → v < 2 ^ 64 → IsShownByNotes notes words → IsShownByNotes (notes ++ (true, at, v) ∷ []) (slice_set words at v)
shown_after_store notes words at v small shown =
    subst (λ n. ∥ ((first : List ℕ) × NotesShow n (notes ++ (true, at, v) ∷ []) first (slice_set words at v)) ∥₁) (sym (length-set words at v))
    (∥∥₁_map shown (λ p. (p.0, (shows_store (length words) notes at v small).on p.0 words p.1)))
