-- A handle and a raw box are laid out as a box at the same types, and own what it owns.
use mir.Syntax.{impl, tnil, dnil}
use mathlib.Core.List.{[]}
use denote.Signature.{Slot, plain}
use Rattle.std_alloc.proofs.BoxSteps.Form.{Bx}
use Rattle.std_heap.specs.contracts.Global as Heap
use Rattle.std_heap.specs.contracts.GlobalAllocator.TheImpl.{ghosts, dict}
use Rattle.std_heap.proofs.Global.TheLaws as heap
use Rattle.githoppu_c.specs.contracts.content.AnyHandleState as HandleState
use Rattle.githoppu_c.proofs.content.AnyHandleState.TheLaws as content
use Rattle.githoppu_c.specs.contracts.handle.Handle as Handle

-- the box of a content
abbrev pub Boxed : Bx
Boxed = record { row = HandleState.the_row; laws = content.the_row_laws; al = record { row = Heap.the_row; laws = heap.the_row_laws; g = ghosts; d = dict; drops = impl [] tnil dnil } }

-- a handle as a parameter
abbrev pub Passed : Slot 0
Passed = plain (λ _. Handle.the_row)
