-- The operations of each client among commands, one command after another.
use Rattle.std.proofs.Common.{◌≡◌, ◌≢◌, ℕ, zero, suc, ◌+◌, ◌<◌, ◌≤◌, ◌==◌, List, [], ◌∷◌, ◌++◌, length, get_or, set, map, filter, slice_get, Option, None, Some, sym, ap, ◌∙◌, refl, inl, inr, ◌⊎◌, ⊎_elim, arith, take, ◌-◌}
use Rattle.std.specs.Option.{option_map, option_copied, IfSome, MatchOption}
use Rattle.std.specs.List.{HoldsAt}
use Rattle.std.specs.Global.{Vec}
use Rattle.std.specs.Borrow.{Bor}
use Rattle.std.proofs.lemmas.List.{map-append, append-nil, take_more}
use Rattle.std.proofs.lemmas.List.Elements.{filter-append}
use Rattle.std.proofs.lemmas.Option.{slice_get_within, slice_get_past, slice_get_read, slice_get-map}
use Rattle.life_records.specs.Records.{Command, Life}
use Rattle.life_records.specs.Scripts.{own_ops, named_op}
use Rattle.script_text.specs.Index.{AreOwnOps}

-- an item of a list in which one was changed
slice_get-set : {X : Type 0} (xs : List X) (k i : ℕ) (v own : X) → slice_get (set xs k v) i ≡ Some own
    → ((k ≡ i) × (own ≡ v)) ⊎ ((k ≢ i) × (slice_get xs i ≡ Some own))
slice_get-set [] k i v own is = cc
slice_get-set (x ∷ xs) zero zero v own is = inl (refl, cc)
slice_get-set (x ∷ xs) (suc k) (suc i) v own is =
    ⊎_elim (λ same. inl (ap suc same.0, same.1)) (λ other. inr (λ e. other.0 (omega (arith, e)), other.1)) (slice_get-set xs k i v own is)
slice_get-set (x ∷ xs) k i v own is = inr (λ e. omega (arith, e), is)

-- what a slice's `get` answers
pub got : {X : Type 0} (xs : List X) (i : ℕ) (r : Option (Bor X)) → IfSome r (λ x. x.now ≡ get_or xs i x.now)
    → MatchOption r (length xs ≤ i) (λ x. (i < length xs) × HoldsAt (λ y. x.now ≡ y) xs i) → option_copied r ≡ slice_get xs i
got xs i None value within = sym (slice_get_past xs i within)
got xs i (Some x) value within = sym (slice_get_read xs (length xs) i x.now refl within.0 value)

module _ {Op : Type 0} where
  own_ops-push : (client : ℕ) (commands : List (Command Op)) (command : Command Op)
      → own_ops client (commands ++ command ∷ []) ≡ own_ops client commands ++ own_ops client (command ∷ [])
  own_ops-push client commands command =
      ap (map (λ (c : Command Op). c.op)) (filter-append (λ c. c.client == client) commands (command ∷ []))
      ∙ map-append (λ (c : Command Op). c.op) (filter (λ c. c.client == client) commands) (filter (λ c. c.client == client) (command ∷ []))

  own_ops_own : (client : ℕ) (command : Command Op) → command.client ≡ client → own_ops client (command ∷ []) ≡ command.op ∷ []
  own_ops_own client command own = grind arith

  own_ops_other : (client : ℕ) (command : Command Op) → command.client ≢ client → own_ops client (command ∷ []) ≡ []
  own_ops_other client command other = grind arith

  own_ops-push_other : (client : ℕ) (commands : List (Command Op)) (command : Command Op) → command.client ≢ client
      → own_ops client (commands ++ command ∷ []) ≡ own_ops client commands
  own_ops-push_other client commands command other =
      own_ops-push client commands command ∙ ap (λ ops. own_ops client commands ++ ops) (own_ops_other client command other)
      ∙ append-nil (own_ops client commands)

  own_ops-push_own : (commands : List (Command Op)) (command : Command Op)
      → own_ops command.client (commands ++ command ∷ []) ≡ own_ops command.client commands ++ command.op ∷ []
  own_ops-push_own commands command =
      own_ops-push command.client commands command ∙ ap (λ ops. own_ops command.client commands ++ ops) (own_ops_own command.client command refl)

  -- one more command, with its operation at the end of its client's list
  pub AreOwnOps-more : (commands : List (Command Op)) (command : Command Op) (lists : List (Vec (Bor Op))) (before after : Vec (Bor Op))
      → AreOwnOps commands lists → slice_get lists command.client ≡ Some before
      → map (λ op. op.now) after.items ≡ map (λ op. op.now) before.items ++ command.op ∷ []
      → AreOwnOps (commands ++ command ∷ []) (set lists command.client after)
  AreOwnOps-more commands command lists before after are there pushed client own is =
      ⊎_elim
      (λ same. ap (λ (list : Vec (Bor Op)). map (λ op. op.now) list.items) same.1 ∙ pushed
      ∙ ap (λ ops. ops ++ command.op ∷ []) (are command.client before there)
      ∙ sym (own_ops-push_own commands command)
      ∙ ap (λ n. own_ops n (commands ++ command ∷ [])) same.0)
      (λ other. are client own other.1 ∙ sym (own_ops-push_other client commands command other.0))
      (slice_get-set lists command.client client after own is)

  -- one more command, of a client that has no list
  pub AreOwnOps-past : (commands : List (Command Op)) (command : Command Op) (lists : List (Vec (Bor Op)))
      → AreOwnOps commands lists → length lists ≤ command.client → AreOwnOps (commands ++ command ∷ []) lists
  AreOwnOps-past commands command lists are past client own is =
      let within : client < length lists = slice_get_within lists client own is in
      let other : command.client ≢ client = omega arith in
      are client own is ∙ sym (own_ops-push_other client commands command other)

  -- a step of the loop that goes through commands: this command's operation is put at the end of its client's list
  pub AreOwnOps-step : (commands : List (Command Op)) (i : ℕ) (command : Command Op) (lists : List (Vec (Bor Op))) (before after : Vec (Bor Op)) (op : Bor Op)
      → i < length commands → command ≡ get_or commands i command → AreOwnOps (take i commands) lists
      → command.client < length lists → before ≡ get_or lists command.client before
      → after.items ≡ before.items ++ op ∷ [] → op.now ≡ command.op
      → AreOwnOps (take (i + 1) commands) (set lists command.client after)
  AreOwnOps-step commands i command lists before after op within this are takes_part is pushed now =
      let taken : take (i + 1) commands ≡ take i commands ++ command ∷ [] =
      take_more commands i command within ∙ ap (λ (c : Command Op). take i commands ++ c ∷ []) (sym this) in
      let mapped : map (λ (o : Bor Op). o.now) after.items ≡ map (λ (o : Bor Op). o.now) before.items ++ command.op ∷ [] =
      ap (map (λ (o : Bor Op). o.now)) pushed ∙ map-append (λ (o : Bor Op). o.now) before.items (op ∷ [])
      ∙ ap (λ (x : Op). map (λ (o : Bor Op). o.now) before.items ++ x ∷ []) now in
      rw taken
      (AreOwnOps-more (take i commands) command lists before after are
      (slice_get_read lists (length lists) command.client before refl takes_part is) mapped)

  -- a step that passes over the command, since its client has no list
  pub AreOwnOps-step_past : (commands : List (Command Op)) (i : ℕ) (command : Command Op) (lists : List (Vec (Bor Op)))
      → i < length commands → command ≡ get_or commands i command → AreOwnOps (take i commands) lists
      → length lists ≤ command.client → AreOwnOps (take (i + 1) commands) lists
  AreOwnOps-step_past commands i command lists within this are past =
      let taken : take (i + 1) commands ≡ take i commands ++ command ∷ [] =
      take_more commands i command within ∙ ap (λ (c : Command Op). take i commands ++ c ∷ []) (sym this) in
      rw taken (AreOwnOps-past (take i commands) command lists are past)

  -- what stands at a place in a client's list
  pub op_of_at : (life : Life Op) (client before command : ℕ) (lists : List (Vec (Bor Op))) (own : Vec (Bor Op))
      → AreOwnOps life.commands lists → client < length lists → own ≡ get_or lists client own → 1 ≤ command → before ≡ command - 1
      → option_map (λ (op : Bor Op). op.now) (slice_get own.items before) ≡ named_op life client command
  op_of_at life client before zero lists own are within is some e = absurd (omega arith)
  op_of_at life client before (suc n) lists own are within is some e =
      let same : before ≡ n = omega arith in
      sym (slice_get-map (λ (op : Bor Op). op.now) own.items before)
      ∙ ap (λ ops. slice_get ops before) (are client own (slice_get_read lists (length lists) client own refl within is))
      ∙ ap (slice_get (own_ops client life.commands)) same
