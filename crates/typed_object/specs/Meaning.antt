-- What the operations of an object mean, over what its images stand for, and how operations and replies stand in words.
use Rattle.std.specs.Prelude.{◌≡◌, ◌≢◌, ℕ, Bool, List, Option, None, Some}
use Rattle.cx_base.specs.Memory.{Words}

-- the words of operations and of replies
pub record Encoding (Op Reply : Type 0) : Type 0 where
  pub op_words : Op → List ℕ
  pub reply_words : Reply → List ℕ

-- what operations mean over a store
pub record Meaning (Op Reply Store : Type 0) : Type 1 where
  pub encoding : Encoding Op Reply
  -- an operation: whether it only reads, its reply in a store, and the store after it
  pub is_reading : Op → Bool
  pub reply_to : Store → Op → Reply
  pub store_after : Store → Op → Store
  -- the store of the opening image, the number of items in a store, and which image stands for which store
  pub opening : Store
  pub items : Store → ℕ
  pub stands : List ℕ → Store → Type 0
  -- the operations and replies within the limits, and what each value of their types is, as a number of 64 bits
  pub is_op : Op → Type 0
  pub is_op_value : Op → Type 0
  pub is_reply : Reply → Type 0
  pub is_reply_value : Reply → Type 0

module _ {Op Reply Store : Type 0} where
  -- The steps of lawful images are what the operations mean. A reply is told by its words among those that operations have.
  pub record HasMeaning (lawful : List ℕ → Type 0) (opening : List ℕ) (step : List ℕ → List ℕ → List ℕ × List ℕ) (reads : List ℕ → Bool)
      (m : Meaning Op Reply Store) : Type 0 where
    pub some : (image : List ℕ) → lawful image → (store : Store) × m.stands image store
    pub opens : m.stands opening m.opening
    pub fit : (op : Op) → m.is_op op → m.is_op_value op → Words 144 (m.encoding.op_words op)
    pub readings : (op : Op) → m.is_op op → m.is_op_value op → reads (m.encoding.op_words op) ≡ m.is_reading op
    pub after : (image : List ℕ) (store : Store) (op : Op) → lawful image → m.stands image store → m.is_op op → m.is_op_value op →
        m.stands (step image (m.encoding.op_words op)).0 (m.store_after store op)
    pub answer : (image : List ℕ) (store : Store) (op : Op) → lawful image → m.stands image store → m.is_op op → m.is_op_value op →
        (step image (m.encoding.op_words op)).1 ≡ m.encoding.reply_words (m.reply_to store op)
    pub replies : (image : List ℕ) (store : Store) (op : Op) → lawful image → m.stands image store → m.is_op op → m.is_op_value op →
        m.is_reply (m.reply_to store op)
    pub told : (one other : Reply) → m.is_reply_value one → m.is_reply other →
        m.encoding.reply_words one ≡ m.encoding.reply_words other → one ≡ other

  -- no reply within the limits has these words
  abbrev pub AreOfNoReply : Meaning Op Reply Store → List ℕ → Type 0
  AreOfNoReply m words = (reply : Reply) → m.is_reply reply → m.encoding.reply_words reply ≢ words

  -- the reply has these words; where none has, there is no reply
  abbrev pub IsReadAs : Meaning Op Reply Store → List ℕ → Option Reply → Type 0
  IsReadAs m words (Some reply) = m.encoding.reply_words reply ≡ words
  IsReadAs m words None = AreOfNoReply m words

  -- an operation within the limits, which has these words
  pub record OpHasWords (m : Meaning Op Reply Store) (words : List ℕ) (op : Op) : Type 0 where
    pub limits : m.is_op op
    pub value : m.is_op_value op
    pub has : m.encoding.op_words op ≡ words
