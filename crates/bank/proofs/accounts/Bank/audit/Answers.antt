use Rattle.std.proofs.Common.{◌≡◌, ◌+◌, ◌≤◌, ◌∙◌, ℕ, List, arith, sum, take}
use Rattle.cx_base.proofs.MemoryLemmas.{Always-loaded, Becomes-load, Framed-access, Framed-then, always_at_most}
use Rattle.bank.proofs.Sums.{next_at_most, next_sum}
use Rattle.bank.specs.Meaning.{IsBank, accounts_in, amount_of}
use Rattle.bank.proofs.accounts.Bank.audit.Goals as goal

pub overflow_add-sum : goal.overflow_add-sum
overflow_add-sum g c =
    let b = c.args.self.now in
    let i = c.loop-account.invariant in
    let stands = c.in_ok-amount.ensures.stands in
    let at_most : c.loop-account.sum + c.in_ok-amount.amount ≤ b.total =
    always_at_most (g.M.Memory.stands c.load.new.self) (g.met.M.Memory.some_stands c.load.new.self) (c.loop-account.sum + c.in_ok-amount.amount) b.total (λ first now s. (
    let q = stands.back first now s in
    omega (arith, q.1, i.sum_is first now q.0, next_at_most b.lines b.count b.total b.fits now (i.lawful first now q.0) c.loop-account.account c.loop-account-test.true))) in
    omega (arith, at_most, b.fits.small)

pub loop-account-preserved : goal.loop-account-preserved
loop-account-preserved g c =
    let b = c.args.self.now in
    let i = c.loop-account.invariant in
    let e = c.in_ok-amount.ensures in
    let account = c.loop-account.account in
    record {
      kept = Becomes-load i.kept e.stands (λ first x y s same _. same);
      lawful = Always-loaded (IsBank b.lines b.count b.total) e.stands i.lawful;
      sum_is = λ first now s. (
          let q = e.stands.back first now s in
          let all : List ℕ = accounts_in b.count now in
          let next : sum (take (account + 1) all) ≡ sum (take account all) + amount_of now account = next_sum b.lines b.count b.total b.fits now (i.lawful first now q.0) account c.loop-account-test.true in
          omega (arith, next, i.sum_is first now q.0, q.1));
      size = e.access.size_kept ∙ i.size;
      framed = Framed-then i.framed (Framed-access e.access);
    }
