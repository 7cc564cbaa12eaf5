-- A client's commands among the first ones of a life.
use Rattle.std.proofs.Common.{◌≡◌, ◌≢◌, ℕ, ◌+◌, ◌<◌, ◌≤◌, ◌==◌, cond, List, [], ◌∷◌, ◌++◌, length, get_or, take, drop, map, filter, slice_get, Some, sym, ap, subst, ◌∙◌, refl, arith, length-append, add-one}
use Rattle.std.proofs.lemmas.Bool.{eq-eqb, ne_eqb}
use Rattle.std.proofs.lemmas.List.{map-append, take_all, take_more, take-append-drop}
use Rattle.std.proofs.lemmas.List.Elements.{filter-append}
use Rattle.std.proofs.lemmas.Option.{get_or_from_slice_get, slice_get_within}
use Rattle.life_records.specs.Records.{Command, Life}
use Rattle.life_records.specs.Scripts.{named_op, own_ops}

module _ {Op : Type 0} where
  own_ops-append : (client : ℕ) (xs ys : List (Command Op)) → own_ops client (xs ++ ys) ≡ own_ops client xs ++ own_ops client ys
  own_ops-append client xs ys =
      ap (map (λ (c : Command Op). c.op)) (filter-append (λ c. c.client == client) xs ys)
      ∙ map-append (λ (c : Command Op). c.op) (filter (λ c. c.client == client) xs) (filter (λ c. c.client == client) ys)

get_middle : {X : Type 0} (xs : List X) (x : X) (ys : List X) → slice_get ((xs ++ x ∷ []) ++ ys) (length xs) ≡ Some x
get_middle [] x ys = refl
get_middle (z ∷ xs) x ys = get_middle xs x ys

module _ {Op : Type 0} where
  own_ops_next : (client : ℕ) (commands : List (Command Op)) (i : ℕ) (command : Command Op) → i < length commands → command ≡ get_or commands i command
      → own_ops client (take (i + 1) commands) ≡ own_ops client (take i commands) ++ own_ops client (command ∷ [])
  own_ops_next client commands i command within at =
      ap (own_ops client) (take_more commands i command within ∙ ap (λ (c : Command Op). take i commands ++ c ∷ []) (sym at))
      ∙ own_ops-append client (take i commands) (command ∷ [])

  -- how many commands a client has among the first ones
  own_more : (client : ℕ) (commands : List (Command Op)) (i : ℕ) (command : Command Op) → i < length commands → command ≡ get_or commands i command → command.client ≡ client
      → length (own_ops client (take (i + 1) commands)) ≡ length (own_ops client (take i commands)) + 1
  own_more client commands i command within at own =
      let one : own_ops client (command ∷ []) ≡ command.op ∷ [] = ap (λ b. map (λ (c : Command Op). c.op) (cond b (command ∷ []) [])) (eq-eqb command.client client own) in
      omega (arith, ap length (own_ops_next client commands i command within at), length-append (own_ops client (take i commands)) (own_ops client (command ∷ [])), ap length one)

  own_none : (client : ℕ) (commands : List (Command Op)) (i : ℕ) (command : Command Op) → i < length commands → command ≡ get_or commands i command → command.client ≢ client
      → length (own_ops client (take (i + 1) commands)) ≡ length (own_ops client (take i commands))
  own_none client commands i command within at other =
      let none : own_ops client (command ∷ []) ≡ [] = ap (λ b. map (λ (c : Command Op). c.op) (cond b (command ∷ []) [])) (ne_eqb command.client client other) in
      omega (arith, ap length (own_ops_next client commands i command within at), length-append (own_ops client (take i commands)) (own_ops client (command ∷ [])), ap length none)

  -- the next of a client's commands
  named_next : (life : Life Op) (i number : ℕ) (command : Command Op) → i < length life.commands → command ≡ get_or life.commands i command → number ≡ length (own_ops command.client (take i life.commands))
      → named_op life command.client (number + 1) ≡ Some command.op
  named_next life i number command within at e =
      let me = command.client in
      let front = own_ops me (take i life.commands) in
      let rest = own_ops me (drop (i + 1) life.commands) in
      let one : own_ops me (command ∷ []) ≡ command.op ∷ [] = ap (λ b. map (λ (c : Command Op). c.op) (cond b (command ∷ []) [])) (eq-eqb me me refl) in
      let parts : own_ops me life.commands ≡ (front ++ command.op ∷ []) ++ rest =
      ap (own_ops me) (sym (take-append-drop (i + 1) life.commands))
      ∙ own_ops-append me (take (i + 1) life.commands) (drop (i + 1) life.commands)
      ∙ ap (λ ops. ops ++ rest) (own_ops_next me life.commands i command within at ∙ ap (λ ops. front ++ ops) one) in
      rw add-one (ap (λ (ops : List Op). slice_get ops number) parts ∙ ap (λ n. slice_get ((front ++ command.op ∷ []) ++ rest) n) e ∙ get_middle front command.op rest)

-- what a loop over a life's commands knows of the one that it is at
module _ {Op : Type 0} (life : Life Op) (items : List (Command Op)) (same : items ≡ life.commands) (i : ℕ) (command : Command Op) (is_at : slice_get items i ≡ Some command)
    (me number : ℕ) (count : number ≡ length (own_ops me (take i life.commands))) where
  at : slice_get life.commands i ≡ Some command
  at = subst (λ (all : List (Command Op)). slice_get all i ≡ Some command) same is_at

  here : i < length life.commands
  here = slice_get_within life.commands i command at

  there : command ≡ get_or life.commands i command
  there = sym (get_or_from_slice_get life.commands i command command at)

  pub named_here : command.client ≡ me → named_op life command.client (number + 1) ≡ Some command.op
  named_here own = named_next life i number command here there (count ∙ ap (λ (client : ℕ). length (own_ops client (take i life.commands))) (sym own))

  pub count_more : (next : ℕ) → next ≡ number + 1 → command.client ≡ me → next ≡ length (own_ops me (take (i + 1) life.commands))
  count_more next is own = is ∙ omega (arith, count, own_more me life.commands i command here there own)

  pub count_none : (next : ℕ) → next ≡ number → command.client ≢ me → next ≡ length (own_ops me (take (i + 1) life.commands))
  count_none next is other = is ∙ omega (arith, count, own_none me life.commands i command here there other)

-- no command is left
module _ {Op : Type 0} where
  pub count_all : (life : Life Op) (items : List (Command Op)) (i me number : ℕ) → items ≡ life.commands → length items ≤ i → number ≡ length (own_ops me (take i life.commands)) → number ≡ length (own_ops me life.commands)
  count_all life items i me number same over count =
      count ∙ ap (λ (cs : List (Command Op)). length (own_ops me cs)) (take_all i life.commands (omega (arith, over, ap length same)))
