-- A pool that is closed: what was lent to its clients is gathered.
use Rattle.std.proofs.Common.{◌≡◌, List, [], ◌∷◌, ◌++◌, map, sym, refl, ap, ◌∙◌, subst, Option, Some, None}
use Rattle.std.specs.Prelude.{All}
use Rattle.std.proofs.lemmas.List.{map-append}
use Rattle.std.proofs.lemmas.List.Elements.{All-map, All-weaker}
use Rattle.atomic_table.specs.Seated.{TableId}
use Rattle.crossbeam_queue.specs.Passes.{view}
use Rattle.table_invariant.specs.Running.{Running}
use Rattle.cx_service.specs.declared.close.Handed.{Handed}
use Rattle.cx_service.specs.declared.close.Handed.TheVariants.{Idle, Linked, Stopped}
use Rattle.seat_pool.specs.Gathering.{Gathers, IsLentOf, kept_list}
use Rattle.seat_pool.specs.declared.hand.LenderPass.{LenderPass}
use Rattle.seat_pool.specs.declared.lent.Lent.{Lent}
use Rattle.seat_pool.proofs.Gatherings.{gathers_none}
use Rattle.seat_pool.proofs.Telling.{idle_kept}
use Rattle.client_pool.specs.Clients.{IsClientOf}
use Rattle.client_pool.specs.Lending.{HoldsKept, IsLentTo}
use Rattle.client_pool.specs.Pools.{lents_of}
use Rattle.client_pool.specs.declared.client.Client.{Client}

module _ {O : Type 0} (r : Running O) (table : TableId) where
  gathers_kept : (v : LenderPass) (kept : Option Handed) → HoldsKept r v kept → Gathers r v.held (kept_list kept)
  gathers_kept v None holds = gathers_none r table v.held [] holds refl
  gathers_kept v (Some (Idle now)) holds = subst (λ l. Gathers r l (Idle now ∷ [])) (sym holds.held) (idle_kept r holds.taken now holds.idle)
  gathers_kept v (Some (Linked seat)) holds = absurd holds
  gathers_kept v (Some (Stopped s)) holds = holds.0

  lent_of : (lent : Lent) → IsLentTo r table lent → IsLentOf r table lent
  lent_of lent is = record { pass = is.part.pass; parts = is.part.parts; placed = is.part.placed; kept = gathers_kept (view lent.pass) lent.kept is.kept }

  pub lents_are : (lents : List Lent) (clients : List Client) → lents ≡ lents_of clients → All (IsClientOf r table) clients → All (IsLentOf r table) lents
  lents_are lents clients are each =
      subst (All (IsLentOf r table)) (sym are) (All-map (IsLentOf r table) (λ (c : Client). c.lent) clients (All-weaker (IsClientOf r table) (λ (c : Client). IsLentOf r table c.lent) (λ c is. lent_of c.lent is) clients each))

-- what all clients have, in order, is what the others have, with what the last one has behind it
pub all_of : {A : Type 0} (f : Client → A) (xs ys : List A) (clients front : List Client) (last : Client) → ys ≡ xs ++ f last ∷ [] → xs ≡ map f front → clients ≡ front ++ last ∷ [] → ys ≡ map f clients
all_of f xs ys clients front last more are all = more ∙ ap (λ l. l ++ f last ∷ []) are ∙ sym (map-append f front (last ∷ [])) ∙ ap (map f) (sym all)
