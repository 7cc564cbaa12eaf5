-- The operations of a life's clients as lists.
use Rattle.std.specs.Prelude.{◌≡◌, ℕ, List, length, map, slice_get, Some}
use Rattle.std.specs.Global.{Vec}
use Rattle.std.specs.Borrow.{Bor}
use Rattle.life_records.specs.Scripts.{own_ops}
use Rattle.life_records.specs.Records.{Command, Life}

module _ {Op : Type 0} where
  -- the lists are those of the operations of clients 0, 1 and so on among commands
  abbrev pub AreOwnOps : List (Command Op) → List (Vec (Bor Op)) → Type 0
  AreOwnOps commands lists =
      (client : ℕ) (own : Vec (Bor Op)) → slice_get lists client ≡ Some own → map (λ op. op.now) own.items ≡ own_ops client commands

  -- the lists are those of the operations of the clients of a life, one list for each client
  pub record IsLifeIndex (life : Life Op) (lists : List (Vec (Bor Op))) : Type 0 where
    pub clients : length lists ≡ life.clients
    pub ops : AreOwnOps life.commands lists
