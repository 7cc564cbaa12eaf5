use Rattle.std.proofs.Common.{◌≡◌, ◌*◌, sum, take}
use Rattle.cx_base.specs.Memory.{Always, Becomes, Framed}
use Rattle.bank.specs.Meaning.{IsBank, accounts_in}
use Rattle.bank.proofs.accounts.Bank.audit.Given as goal

-- the first accounts have the sum so far
abbrev pub invariant-loop-account : goal.invariant-loop-account
invariant-loop-account g l = record {
  kept : Becomes (g.M.Memory.stands l.fn.mem) (g.M.Memory.stands l.mem) ◌≡◌;
  lawful : Always (g.M.Memory.stands l.mem) (IsBank l.self.lines l.self.count l.self.total);
  sum_is : Always (g.M.Memory.stands l.mem) (λ now. sum (take l.account (accounts_in l.self.count now)) ≡ l.sum);
  size : g.M.Memory.size l.mem ≡ 8 * l.self.lines;
  framed : Framed g.M.Memory.size g.M.Memory.fixed g.M.Memory.writable g.M.Memory.left l.fn.mem l.mem;
}
