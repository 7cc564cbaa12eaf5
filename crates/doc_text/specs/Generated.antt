-- The script of a load: one life, in which each client adds to numbers.
use Rattle.std.specs.Prelude.{◌+◌, ◌*◌, ◌%◌, ◌^◌, ◌<◌, ◌≤◌, ℕ, pos, List, [], ◌∷◌, ◌++◌, map, flat_map, codes}
use Rattle.std.specs.List.{range_with_len}
use Rattle.std.specs.Fmt.{decimal}
use Rattle.doc_model.specs.declared.operations.Op.TheVariants.{Add}
use Rattle.doc_model.specs.declared.operations.Op.{Op}
use Rattle.life_records.specs.Records.{Command, Life, Script}

-- what a load may be: 1 to 8 clients, with 10,000 commands each at the most
pub record IsLoad (from clients ops : ℕ) : Type 0 where
  pub fits : from < 2 ^ 64
  pub some : 1 ≤ clients
  pub few : clients ≤ 8
  pub short : ops ≤ 10000

-- the n-th command of all, where it is one of this client
abbrev pub generated_command : ℕ → ℕ → ℕ → Command Op
generated_command from client n = record {
  client = client;
  op = Add (codes "k" ++ decimal ((from % 100 + n) % 100)) (pos ((from % 1000 + 7 * n) % 1000));
}

-- the commands of a client
abbrev pub generated_commands : ℕ → ℕ → ℕ → List (Command Op)
generated_commands from ops client = map (λ i. generated_command from client (client * ops + i)) (range_with_len 0 ops)

-- the life of a load: its clients, each with its commands, and power choice 0
abbrev pub generated_life : ℕ → ℕ → ℕ → Life Op
generated_life from clients ops = record {
  clients = clients;
  choice = 0;
  cuts = [];
  commands = flat_map (generated_commands from ops) (range_with_len 0 clients);
}

-- the script of a load: 1,024 lines and its one life
abbrev pub generated_script : ℕ → ℕ → ℕ → Script Op
generated_script from clients ops = record { lines = 1024; lives = generated_life from clients ops ∷ [] }
