-- Clients that call come back, and are all the clients of their pool.
use Rattle.std.proofs.Common.{◌≡◌, ◌<◌, ℕ, suc, List, [], ◌∷◌, ◌++◌, length, get_or, map, refl, ap, ap₂, ◌∙◌, subst, arith}
use Rattle.std.specs.Prelude.{All}
use Rattle.std.specs.List.{AllZip, range_with_len}
use Rattle.std.proofs.lemmas.List.Elements.{All-cons, All-nil, length_all_zip}
use Rattle.bounded_counters.specs.declared.counters.Counters.{Counters}
use Rattle.client_pool.specs.Pools.{IsClosing}
use Rattle.client_pool.specs.declared.client.Client.{Client}
use Rattle.client_pool.specs.declared.pool.Pool.{Pool}
use Rattle.life_tests.specs.Tests.{AreCounterClients, IsClientBack, IsCounterClient}

module _ (pool : Pool Counters) where
  -- each at its place
  pub zipped : (olds news : List Client) → length news ≡ length olds → ((k : ℕ) (d e : Client) → k < length olds → IsClientBack pool (get_or olds k d) (get_or news k e)) → AllZip (IsClientBack pool) olds news
  zipped [] [] long each = tt
  zipped [] (n ∷ news) long each = absurd (omega (arith, long))
  zipped (o ∷ olds) [] long each = absurd (omega (arith, long))
  zipped (o ∷ olds) (n ∷ news) long each = (each 0 o n (omega arith), zipped olds news (omega (arith, long)) (λ k d e below. each (suc k) d e (omega (arith, below))))

  abbrev number : Client → ℕ
  number c = c.number

  both : (olds news : List Client) → AllZip (IsClientBack pool) olds news → All (IsCounterClient pool) news × (map number news ≡ map number olds)
  both [] [] back = (All-nil (IsCounterClient pool), refl)
  both [] (n ∷ news) back = absurd back
  both (o ∷ olds) [] back = absurd back
  both (o ∷ olds) (n ∷ news) back =
      let rest = both olds news back.1 in
      (All-cons (IsCounterClient pool) n news back.0.client rest.0, ap₂ (λ (k : ℕ) (ks : List ℕ). k ∷ ks) back.0.same.number rest.1)

  -- the last one has what closing takes
  last_of : (front news : List Client) (last : Client) → AllZip (IsClientBack pool) (front ++ last ∷ []) news → (f : List Client) × (l : Client) × (news ≡ f ++ l ∷ []) × (l.closing ≡ last.closing)
  last_of [] [] last back = absurd back
  last_of [] (n ∷ []) last back = ([], n, refl, back.0.same.closing)
  last_of [] (n ∷ m ∷ news) last back = absurd back.1
  last_of (o ∷ front) [] last back = absurd back
  last_of (o ∷ front) (n ∷ news) last back = (let rest = last_of front news last back.1 in (n ∷ rest.0, rest.1, ap (λ l. n ∷ l) rest.2, rest.3))

  pub all_back : (olds news : List Client) → AllZip (IsClientBack pool) olds news → AreCounterClients pool olds → AreCounterClients pool news
  all_back olds news back all =
      let r = pool.service in
      let table = pool.line.table.shared.table_id in
      let b = both olds news back in
      let long : length olds ≡ length news = length_all_zip (IsClientBack pool) olds news back in
      let e = all.ends in
      let l = last_of e.front news e.last (subst (λ os. AllZip (IsClientBack pool) os news) e.are back) in
      record {
        each = b.0;
        numbers = b.1 ∙ all.numbers ∙ ap (range_with_len 0) long;
        ends = record { front = l.0; last = l.1; are = l.2; closing = e.closing; has = l.3 ∙ e.has; is = subst (λ n. IsClosing r table n e.closing) long e.is };
      }
