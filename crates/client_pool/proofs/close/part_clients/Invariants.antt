use Rattle.std.proofs.Common.{◌≡◌, ◌++◌, ◌+◌, ◌≤◌, length, map, vec_capacity, vec_len}
use Rattle.std.specs.Vec.Iter.{into_iter_items, into_iter_len}
use Rattle.client_pool.specs.Pools.{former_of}
use Rattle.client_pool.specs.declared.client.Client.{Client}
use Rattle.client_pool.proofs.close.part_clients.Given as goal

-- the first clients were parted into what was lent to them and what is left of them, and both lists have room for the others
abbrev pub invariant-loop-client : goal.invariant-loop-client
invariant-loop-client l = record {
  lents_are : l.lents.items ≡ map (λ (c : Client). c.lent) l.yielded;
  former_are : l.former.items ≡ map former_of l.yielded;
  all : l.yielded ++ into_iter_items l.client-iterator ≡ l.fn.clients.items;
  left : into_iter_len l.client-iterator ≡ length (into_iter_items l.client-iterator);
  lents_room : vec_len l.lents + into_iter_len l.client-iterator ≤ vec_capacity l.lents;
  former_room : vec_len l.former + into_iter_len l.client-iterator ≤ vec_capacity l.former;
  same : (vec_capacity l.lents ≡ vec_capacity l.fn.lents) × (vec_capacity l.former ≡ vec_capacity l.fn.former);
}
