-- The script of a load keeps the limits of scripts.
use Rattle.std.proofs.Common.{◌≡◌, ◌∙◌, sym, ap, ap₂, ℕ, zero, suc, ◌+◌, ◌*◌, ◌%◌, ◌^◌, ◌<◌, ◌≤◌, List, [], ◌++◌, flat_map, length, arith, codes, All, append_assoc, append-nil, length-append}
use Rattle.std.specs.List.{range_with_len}
use Rattle.std.specs.Fmt.{decimal}
use Rattle.std.proofs.Math.Nat.{mul-le-mul_left, mul-le-mul_right}
use Rattle.std.proofs.lemmas.Fmt.{decimal_is_IsNumeral, length-decimal-le}
use Rattle.std.proofs.lemmas.Str.Parse.{digit_at}
use Rattle.std.proofs.lemmas.List.Elements.{All-append, All-cons, All-from_get_or, All-map, All-nil}
use Rattle.std.proofs.lemmas.List.FromFn.{length-map-range_with_len}
use Rattle.cx_base.specs.Store.{IsKey}
use Rattle.doc_model.specs.Meaning.{IsOp}
use Rattle.doc_model.specs.declared.operations.Op.{Op}
use Rattle.life_records.specs.Limits.{IsCommandOf, IsCutOf, IsLifeInLimits, KeepsLimits}
use Rattle.life_records.specs.Records.{Command, Life}
use Rattle.doc_text.specs.Generated.{IsLoad, generated_command, generated_commands, generated_life, generated_script}

-- the number of the commands of n clients
count_commands : (from ops a n : ℕ) → length (flat_map (generated_commands from ops) (range_with_len a n)) ≡ n * ops
count_commands from ops a zero = omega arith
count_commands from ops a (suc n) =
    let own : length (generated_commands from ops a) ≡ ops = length-map-range_with_len (λ i. generated_command from a (a * ops + i)) 0 ops in
    let rest = count_commands from ops (a + 1) n in
    let both : length (generated_commands from ops a ++ flat_map (generated_commands from ops) (range_with_len (a + 1) n)) ≡ length (generated_commands from ops a) + length (flat_map (generated_commands from ops) (range_with_len (a + 1) n)) =
    length-append (generated_commands from ops a) (flat_map (generated_commands from ops) (range_with_len (a + 1) n)) in
    both ∙ (ap₂ (λ (x y : ℕ). x + y) own rest ∙ grind arith)

-- the commands of the clients from `a` to `j` end with those of the last one, `j`
last_commands : (from ops a n j : ℕ) → a + n ≡ j → flat_map (generated_commands from ops) (range_with_len a (suc n)) ≡ flat_map (generated_commands from ops) (range_with_len a n) ++ generated_commands from ops j
last_commands from ops a zero j e =
    let same : a ≡ j = omega arith in append-nil (generated_commands from ops a) ∙ ap (generated_commands from ops) same
last_commands from ops a (suc n) j e =
    let on : a + 1 + n ≡ j = omega arith in
    ap (λ (cs : List (Command Op)). generated_commands from ops a ++ cs) (last_commands from ops (a + 1) n j on)
    ∙ sym (append_assoc (generated_commands from ops a) (flat_map (generated_commands from ops) (range_with_len (a + 1) n)) (generated_commands from ops j))

-- the commands of one client more
pub commands_more : (from ops a n j : ℕ) → a + n ≡ j → flat_map (generated_commands from ops) (range_with_len a (n + 1)) ≡ flat_map (generated_commands from ops) (range_with_len a n) ++ generated_commands from ops j
commands_more from ops a n j e = let on : n + 1 ≡ suc n = omega arith in rw on (last_commands from ops a n j e)

-- the digits of a number are visible
digits_visible : (n : ℕ) → n < 2 ^ 64 → All (λ b. (33 ≤ b) × (b ≤ 126)) (decimal n)
digits_visible n h = All-from_get_or (λ b. (33 ≤ b) × (b ≤ 126)) (decimal n) 0 (λ i lt.
    let digit = digit_at (decimal n) i (decimal_is_IsNumeral n h).0.1 lt in
    (omega arith, omega arith))

-- the letter k and a number below 100 are a key
is_key : (m : ℕ) → m < 100 → IsKey (codes "k" ++ decimal m)
is_key m h =
    let small : m < 2 ^ 64 = omega arith in
    record {
      some = omega arith;
      short = omega (arith, length-decimal-le 2 m (omega arith) (omega arith) small);
      visible = All-cons (λ b. (33 ≤ b) × (b ≤ 126)) 107 (decimal m) (omega arith, omega arith) (digits_visible m small);
    }

each_command : (life : Life Op) (from client n : ℕ) → client < life.clients → IsCommandOf IsOp life (generated_command from client n)
each_command life from client n part = record { client = part; op = is_key ((from % 100 + n) % 100) (omega arith) }

-- the commands of a client of the life
own_commands : (life : Life Op) (from ops client : ℕ) → client < life.clients → All (IsCommandOf IsOp life) (generated_commands from ops client)
own_commands life from ops client part =
    All-map (IsCommandOf IsOp life) (λ (i : ℕ). generated_command from client (client * ops + i)) (range_with_len 0 ops) (λ k d lt. each_command life from client _ part)

-- the commands of all clients
all_commands : (life : Life Op) (from ops a n : ℕ) → a + n ≤ life.clients → All (IsCommandOf IsOp life) (flat_map (generated_commands from ops) (range_with_len a n))
all_commands life from ops a zero within = All-nil (IsCommandOf IsOp life)
all_commands life from ops a (suc n) within =
    All-append (IsCommandOf IsOp life) (generated_commands from ops a) (flat_map (generated_commands from ops) (range_with_len (a + 1) n)) (own_commands life from ops a (omega arith)) (all_commands life from ops (a + 1) n (omega arith))

pub generated_scripts_keep_limits : (from clients ops : ℕ) → IsLoad from clients ops → KeepsLimits IsOp 8 (generated_script from clients ops)
generated_scripts_keep_limits from clients ops load =
    let life : Life Op = generated_life from clients ops in
    let in_limits : IsLifeInLimits IsOp 8 life = record {
      some = load.some;
      few = load.few;
      choice = omega arith;
      commands = all_commands life from ops 0 clients (omega arith);
      cuts = All-nil (IsCutOf life);
      apart = λ i j d lt past. absurd (omega arith);
    } in
    record {
      lines = λ some. (omega arith, omega arith);
      lives = omega arith;
      commands = omega (arith, count_commands from ops 0 clients, mul-le-mul_right ops load.few, mul-le-mul_left 8 load.short);
      each = All-cons (IsLifeInLimits IsOp 8) life [] in_limits (All-nil (IsLifeInLimits IsOp 8));
    }
