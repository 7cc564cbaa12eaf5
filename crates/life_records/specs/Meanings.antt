-- What the entries of a history mean where the base stands for a store.
use Rattle.std.specs.Prelude.{◌≡◌, ◌+◌, ◌-◌, ◌*◌, ◌≤◌, ℕ, Bool, List, Some, length, take, slice_get}
use Rattle.cx_base.specs.Memory.{Words}
use Rattle.cx_base.specs.declared.object.Object.{Ghosts}
use Rattle.cx_core.specs.declared.entry.Base.{Base}
use Rattle.cx_core.specs.declared.entry.Entry.{Entry}
use Rattle.cx_core.specs.History.{image_after, reply_at}
use Rattle.cx_core.specs.Region.{object_part}
use Rattle.cx_core.specs.RootEvents.{reply_after}
use Rattle.cx_core.specs.State.{Instance}
use Rattle.life_records.specs.Works.{HasCommandWords}
use Rattle.life_records.specs.Lives.{store_at}
use Rattle.life_records.specs.Scripts.{named_op}
use Rattle.life_records.specs.Records.{Encoding, HasMeaning, JournalLine, Life, Meaning}

-- the instance of the construction that runs an object with these steps
abbrev pub object_instance : (List ℕ → List ℕ → List ℕ × List ℕ) → (List ℕ → Bool) → ℕ → Base → Instance
object_instance step reads callers base = record { callers = callers; base = base; step = step; reads = reads }

-- the entries of a history have the words of the commands that the lines name
pub record HaveWordsOfLines {Op Reply : Type 0} (encoding : Encoding Op Reply) (life : Life Op) (history : List Entry) (journal : List (JournalLine Reply)) : Type 0 where
  pub long : length journal ≡ length history
  pub words : (i : ℕ) (line : JournalLine Reply) (entry : Entry) →
      slice_get journal i ≡ Some line → slice_get history i ≡ Some entry → HasCommandWords encoding life line.client line.command entry.op

-- From a base that stands for a store on: the image after the first n entries stands for the store after their commands; the reply at a
-- ticket has the words of the reply to its command in the store before it; and so has the reply to an operation at a place.
pub record MeanStores {Op Reply Store : Type 0} (m : Meaning Op Reply Store) (step : List ℕ → List ℕ → List ℕ × List ℕ) (reads : List ℕ → Bool)
    (life : Life Op) (base : Base) (history : List Entry) (journal : List (JournalLine Reply)) (store : Store) : Type 0 where
  pub images : (n : ℕ) → n ≤ length history →
      m.stands (image_after step (object_part base.words) (take n history)) (store_at m store life journal n)
  pub replies : (i : ℕ) (line : JournalLine Reply) (op : Op) →
      slice_get journal i ≡ Some line → named_op life line.client line.command ≡ Some op →
      reply_at step base.place (object_part base.words) history (base.place + i)
      ≡ Some (m.encoding.reply_words (m.reply_to (store_at m store life journal i) op))
  pub answers : (callers place : ℕ) (op : Op) →
      m.is_op op → m.is_op_value op → place ≤ base.place + length history →
      reply_after (object_instance step reads callers base) history place (m.encoding.op_words op)
      ≡ m.encoding.reply_words (m.reply_to (store_at m store life journal (place - base.place)) op)

-- the laws of the steps of an object
pub record AreLaws (lines : ℕ) (lawful : List ℕ → Type 0) (step : List ℕ → List ℕ → List ℕ × List ℕ) : Type 0 where
  pub keeps : (image op : List ℕ) → lawful image → Words 144 op → lawful (step image op).0
  pub shape : (image : List ℕ) → lawful image → Words (8 * lines) image
  pub replies : (image op : List ℕ) → lawful image → Words 144 op → Words 144 (step image op).1

-- the laws of an object: of its steps, and that they are what its operations mean
pub record IsMeant {O Op Reply Store : Type 0} (o : Ghosts O) (it : O) (m : Meaning Op Reply Store) : Type 0 where
  pub object : AreLaws (o.line_count it) (o.lawful it) (o.step it)
  pub means : HasMeaning (o.lawful it) (o.opening it) (o.step it) (o.only_reads it) m
