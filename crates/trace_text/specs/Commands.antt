-- The commands that only read, as text.
use Rattle.std.specs.Prelude.{◌≡◌, ℕ, List, [], ◌∷◌, ◌++◌, codes, IfSome, Option, None, Some, is_some, ◌&&◌, not, if◌then◌else◌}
use Rattle.cx_base.specs.Store.{IsKey}
use Rattle.plain_text.specs.Words.{first_word, rest_of, is_word}
use Rattle.doc_model.specs.Meaning.{IsOp}
use Rattle.doc_model.specs.WordParts.{is_key}
use Rattle.doc_model.specs.declared.operations.Op.{Op}
use Rattle.doc_model.specs.declared.operations.Op.TheVariants.{Get, Next, Count, Rev}

-- a command of a script asks for an operation that only reads: `get KEY`, `rev KEY`, `next`, `next KEY` or `count`
abbrev pub AsksReading : Op → List ℕ → Type 0
AsksReading (Get key) text = (text ≡ codes "get " ++ key) × IsKey key
AsksReading (Rev key) text = (text ≡ codes "rev " ++ key) × IsKey key
AsksReading (Next []) text = text ≡ codes "next"
AsksReading (Next (b ∷ above)) text = (text ≡ codes "next " ++ (b ∷ above)) × IsKey (b ∷ above)
AsksReading Count text = text ≡ codes "count"
AsksReading op text = ⊥

-- ---- how one is read

-- an operation with this key, where it is a key
abbrev pub keyed : (List ℕ → Op) → List ℕ → Option Op
keyed make key = if is_key key then Some (make key) else None

-- behind `get` or `rev`: KEY
abbrev pub keyed_of : (List ℕ → Op) → Option (List ℕ) → Option Op
keyed_of make None = None
keyed_of make (Some key) = keyed make key

-- behind `next`: nothing, or KEY
abbrev pub next_of : Option (List ℕ) → Option Op
next_of None = Some (Next [])
next_of (Some key) = keyed Next key

-- a command by its VERB and what stands behind it: `get` KEY, `rev` KEY, `next`, `next` KEY, or `count`
unfoldable pub reading_by : List ℕ → Option (List ℕ) → Option Op
reading_by verb rest =
    if is_word (codes "get") verb then keyed_of Get rest
    else if is_word (codes "rev") verb then keyed_of Rev rest
    else if is_word (codes "next") verb then next_of rest
    else if is_word (codes "count") verb && not (is_some rest) then Some Count
    else None

-- a command that only reads: VERB, and what stands behind it
unfoldable pub reading_of : List ℕ → Option Op
reading_of text = reading_by (first_word text) (rest_of text)

-- what is asked for is read, and it keeps to the limits
pub record IsCommandRead (wanted read : Option Op) : Type 0 where
  pub is : read ≡ wanted
  pub within : IfSome read IsOp
