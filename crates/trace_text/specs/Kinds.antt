-- Kinds of step as text: a name, the numbers of its arguments in their order, and what stands behind them.
use Rattle.std.specs.Prelude.{◌≡◌, ◌^◌, ◌<◌, ℕ, true, All, List, [], ◌∷◌, ◌++◌, codes, Option, None, Some, option_and_then, if◌then◌else◌}
use Rattle.std.specs.Fmt.{decimal}
use Rattle.plain_text.specs.Number.{number_of}
use Rattle.plain_text.specs.Words.{first_word, rest_of, is_word}
use Rattle.cx_core.specs.declared.kinds.Kind.{Kind}
use Rattle.cx_core.specs.declared.kinds.Kind.TheVariants.{WriteCell, Link, Look, ReadCell, LoadFree, TryExclusive, TryShared, BackOff, Downgrade, ReleaseExclusive, LoadWord, StoreWord, Persist, LoadCur, Publish, Raise, Retire, Protect, Confirm, Unprotect, CloseLow, Scan, OpenFree, WriteSet, Offer, LoadOffer, ReadSet, NoteGap, LoadGap}
use Rattle.doc_model.specs.Words.{op_words}
use Rattle.doc_model.specs.declared.operations.Op.{Op}
use Rattle.trace_text.specs.Commands.{AsksReading}

-- the name of a kind of step, as it is written in a trace
abbrev pub kind_name : Kind → List ℕ
kind_name (WriteCell j i v) = codes "write_cell"
kind_name (Link j) = codes "link"
kind_name (Look s) = codes "look"
kind_name (ReadCell t k i) = codes "read_cell"
kind_name LoadFree = codes "load_free"
kind_name (TryExclusive r) = codes "try_exclusive"
kind_name (TryShared r) = codes "try_shared"
kind_name (BackOff r) = codes "back_off"
kind_name (Downgrade r) = codes "downgrade"
kind_name (ReleaseExclusive r) = codes "release_exclusive"
kind_name (LoadWord r i refused) = codes "load_word"
kind_name (StoreWord r i v) = codes "store_word"
kind_name (Persist r i) = codes "persist"
kind_name LoadCur = codes "load_cur"
kind_name Publish = codes "publish"
kind_name (Raise code read) = codes "raise"
kind_name Retire = codes "retire"
kind_name (Protect p) = codes "protect"
kind_name Confirm = codes "confirm"
kind_name Unprotect = codes "unprotect"
kind_name (CloseLow target) = codes "close_low"
kind_name (Scan d) = codes "scan"
kind_name OpenFree = codes "open_free"
kind_name (WriteSet j i v) = codes "write_set"
kind_name (Offer j) = codes "offer"
kind_name (LoadOffer k t) = codes "load_offer"
kind_name (ReadSet k t i) = codes "read_set"
kind_name (NoteGap s i v) = codes "note_gap"
kind_name (LoadGap s i) = codes "load_gap"

-- the numbers that are written behind the name of a kind of step, in their order
abbrev pub kind_numbers : Kind → List ℕ
kind_numbers (WriteCell j i v) = j ∷ i ∷ v ∷ []
kind_numbers (Link j) = j ∷ []
kind_numbers (Look s) = s ∷ []
kind_numbers (ReadCell t k i) = t ∷ k ∷ i ∷ []
kind_numbers LoadFree = []
kind_numbers (TryExclusive r) = r ∷ []
kind_numbers (TryShared r) = r ∷ []
kind_numbers (BackOff r) = r ∷ []
kind_numbers (Downgrade r) = r ∷ []
kind_numbers (ReleaseExclusive r) = r ∷ []
kind_numbers (LoadWord r i refused) = r ∷ i ∷ []
kind_numbers (StoreWord r i v) = r ∷ i ∷ v ∷ []
kind_numbers (Persist r i) = r ∷ i ∷ []
kind_numbers LoadCur = []
kind_numbers Publish = []
kind_numbers (Raise code read) = code ∷ []
kind_numbers Retire = []
kind_numbers (Protect p) = p ∷ []
kind_numbers Confirm = []
kind_numbers Unprotect = []
kind_numbers (CloseLow target) = target ∷ []
kind_numbers (Scan d) = d ∷ []
kind_numbers OpenFree = []
kind_numbers (WriteSet j i v) = j ∷ i ∷ v ∷ []
kind_numbers (Offer j) = j ∷ []
kind_numbers (LoadOffer k t) = k ∷ t ∷ []
kind_numbers (ReadSet k t i) = k ∷ t ∷ i ∷ []
kind_numbers (NoteGap s i v) = s ∷ i ∷ v ∷ []
kind_numbers (LoadGap s i) = s ∷ i ∷ []

-- numbers as text, each behind a space
abbrev pub numbers_text : List ℕ → List ℕ
numbers_text [] = []
numbers_text (n ∷ ns) = codes " " ++ (decimal n ++ numbers_text ns)

-- what stands behind the numbers: the mark of a refusal, or the command of the read that a raise names
abbrev pub EndsKindLine : Kind → List ℕ → Type 0
EndsKindLine (LoadWord r i true) end_ = end_ ≡ codes " refused"
EndsKindLine (Raise code (Some words)) end_ =
    (op : Op) × (command : List ℕ) × AsksReading op command × (words ≡ op_words op) × (end_ ≡ codes " read " ++ command)
EndsKindLine kind end_ = end_ ≡ []

-- the text of a kind of step: its name, its numbers, each of 64 bits, and what stands behind them
pub record IsKindText (kind : Kind) (text : List ℕ) : Type 0 where
  pub end_ : List ℕ
  pub spelled : text ≡ kind_name kind ++ (numbers_text (kind_numbers kind) ++ end_)
  pub ends : EndsKindLine kind end_
  pub fits : All (λ n. n < 2 ^ 64) (kind_numbers kind)

-- ---- how one is read

-- a kind of step without numbers, by its NAME
unfoldable pub kind_without : List ℕ → Option Kind
kind_without name =
    if is_word (codes "load_free") name then Some LoadFree
    else if is_word (codes "load_cur") name then Some LoadCur
    else if is_word (codes "publish") name then Some Publish
    else if is_word (codes "retire") name then Some Retire
    else if is_word (codes "confirm") name then Some Confirm
    else if is_word (codes "unprotect") name then Some Unprotect
    else if is_word (codes "open_free") name then Some OpenFree
    else None

-- a kind of step with one number: NAME A
unfoldable pub kind_with_one : List ℕ → ℕ → Option Kind
kind_with_one name a =
    if is_word (codes "link") name then Some (Link a)
    else if is_word (codes "look") name then Some (Look a)
    else if is_word (codes "try_exclusive") name then Some (TryExclusive a)
    else if is_word (codes "try_shared") name then Some (TryShared a)
    else if is_word (codes "back_off") name then Some (BackOff a)
    else if is_word (codes "downgrade") name then Some (Downgrade a)
    else if is_word (codes "release_exclusive") name then Some (ReleaseExclusive a)
    else if is_word (codes "protect") name then Some (Protect a)
    else if is_word (codes "close_low") name then Some (CloseLow a)
    else if is_word (codes "scan") name then Some (Scan a)
    else if is_word (codes "offer") name then Some (Offer a)
    else None

-- a kind of step with two numbers: NAME A B
unfoldable pub kind_with_two : List ℕ → ℕ → ℕ → Option Kind
kind_with_two name a b =
    if is_word (codes "persist") name then Some (Persist a b)
    else if is_word (codes "load_offer") name then Some (LoadOffer a b)
    else if is_word (codes "load_gap") name then Some (LoadGap a b)
    else None

-- a kind of step with three numbers: NAME A B C
unfoldable pub kind_with_three : List ℕ → ℕ → ℕ → ℕ → Option Kind
kind_with_three name a b c =
    if is_word (codes "write_cell") name then Some (WriteCell a b c)
    else if is_word (codes "read_cell") name then Some (ReadCell a b c)
    else if is_word (codes "store_word") name then Some (StoreWord a b c)
    else if is_word (codes "write_set") name then Some (WriteSet a b c)
    else if is_word (codes "read_set") name then Some (ReadSet a b c)
    else if is_word (codes "note_gap") name then Some (NoteGap a b c)
    else None

-- a kind of step with two numbers or three, of which two were read: nothing is left, or C
unfoldable pub with_third : List ℕ → ℕ → ℕ → Option (List ℕ) → Option Kind
with_third name a b None = kind_with_two name a b
with_third name a b (Some text) = option_and_then (kind_with_three name a b) (number_of text)

-- a kind of step with one number or more, of which one was read: nothing is left, or B, or B C
unfoldable pub with_second : List ℕ → ℕ → Option (List ℕ) → Option Kind
with_second name a None = kind_with_one name a
with_second name a (Some text) = option_and_then (λ b. with_third name a b (rest_of text)) (number_of (first_word text))

-- a kind of step with numbers, of which none was read: A, or A B, or A B C
unfoldable pub with_first : List ℕ → List ℕ → Option Kind
with_first name text = option_and_then (λ a. with_second name a (rest_of text)) (number_of (first_word text))

-- a kind of step by its NAME and its numbers, if it has some
abbrev pub numbered : List ℕ → Option (List ℕ) → Option Kind
numbered name None = kind_without name
numbered name (Some text) = with_first name text
