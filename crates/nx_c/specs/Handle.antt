-- What a receiver's handle owns (this profile).
use base.Fml.{Fml, feq}
use base.Stored.{Coded}
use denote.RawPtr.{Ptr, null_ptr}
use Rattle.std.specs.Coded.{coded_option}
use Rattle.std.specs.Prelude.{Option, None, Some}
use Rattle.std.specs.Box.Ownership.{box_owns}
use Rattle.std.specs.declared.alloc.Global.{Global}
use Rattle.std.specs.contracts.impls.GlobalAllocator.TheImpl.{ghosts}
use Rattle.nx_c.specs.contracts.receiver.open_receiver.OpenReceiver.{the_row}

-- the C library's heap, of which there is one
abbrev pub heap : Global
heap = record { memory = record { seal = tt } }

-- nothing at null, and else a box's block at the address
abbrev pub handle_owns : Ptr → Option the_row.Denot → Fml
handle_owns p None = feq Ptr p null_ptr
handle_owns p (Some x) = box_owns (ghosts.dealloc_token heap) the_row p x

abbrev pub open_coded : Coded (Option the_row.Denot)
open_coded = coded_option the_row.coded
