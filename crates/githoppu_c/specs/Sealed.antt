-- What a handle owns: a box of what it holds.
use base.Fml.{Fml}
use base.Stored.{Coded}
use denote.RawPtr.{Ptr}
use Rattle.std.specs.Box.Ownership.{box_owns}
use Rattle.std.specs.Global.{Global}
use Rattle.std_heap.specs.contracts.GlobalAllocator.TheImpl.{ghosts}
use Rattle.githoppu_c.specs.contracts.content.AnyHandleState.{the_row}

-- a handle owns a box from the allocator `alloc`: the memory at its pointer, and what stands there
abbrev pub handle_owns : Global → Ptr → the_row.Denot → Fml
handle_owns alloc = box_owns (ghosts.dealloc_token alloc) the_row

-- how a content is laid out in memory
abbrev pub content_coded : Coded the_row.Denot
content_coded = the_row.coded
