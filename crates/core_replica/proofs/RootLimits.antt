-- What the part on fronts needs of the root: each code is at most CUR, and each place at most the history's end.
use Rattle.std.proofs.Common.{◌≡◌, ℕ, List, Some, slice_index, arith}
use Rattle.std.specs.List.{slice_get}
use Rattle.cx_core.specs.declared.entry.Entry.{Entry}
use Rattle.cx_core.specs.declared.local.HeldDowngraded.{HeldDowngraded}
use Rattle.cx_core.specs.declared.local.Local.{Local}
use Rattle.cx_core.specs.Lawful.{Shape}
use Rattle.cx_core.specs.LawfulLocks.{Locks}
use Rattle.cx_core.specs.LawfulRegions.{IsReplicaImage, Regions}
use Rattle.cx_core.specs.LawfulRoot.{Root, RootBounds}
use Rattle.cx_core.specs.Layout.{cur_at, dur_at}
use Rattle.cx_core.specs.State.{Instance}
use Rattle.cx_core.proofs.Claims.{unheld_none}
use Rattle.core_replica.proofs.ChainLemmas.{leads_up}
use Rattle.core_replica.proofs.Unheld.{NobodyHolds, current_unheld, downgraded_unheld}

module _ (instance : Instance) (history : List Entry) (words : List ℕ) (locals : List Local) (shape : Shape instance words locals) (locks : Locks instance.callers words locals) (regions : Regions instance history words locals)
    (root : Root instance words locals) where
  -- a replica that nobody holds exclusively is the full image after its place
  nobody_image : (r : ℕ) → NobodyHolds instance.callers locals r → IsReplicaImage instance history words r
  nobody_image r nobody = regions.unheld r nobody.below (unheld_none locals r nobody.unheld)

  pub root_bounds : RootBounds instance history words locals
  root_bounds =
      let cur = slice_index words cur_at in
      let downgraded = λ (d : ℕ) (x : Local) (h : HeldDowngraded) (there : slice_get locals d ≡ Some x) (has : x.downgraded ≡ Some h).
      downgraded_unheld instance.callers words locals shape.some locks d x h there has in
      record {
        dur = leads_up locals (slice_index words dur_at) root.above cur root.leads;
        current = (let image = nobody_image _ (current_unheld instance.callers words locals shape.some locks) in omega (arith, image.to, root.current));
        each = λ d x there. (
            let its = root.each d x there in
            record {
              seen = its.seen.most;
              won = λ w has. (its.won w has).stands.most;
              replica = λ h has. (downgraded d x h there has).below;
              place = λ h has. (let image = nobody_image h.replica (downgraded d x h there has) in omega (arith, image.to, its.downgraded h has));
            });
      }
