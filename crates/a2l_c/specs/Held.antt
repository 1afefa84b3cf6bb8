-- What a handle owns: the box of its session, where it holds one.
use base.Fml.{Fml, ftrue}
use base.Stored.{Coded}
use denote.RawPtr.{Ptr}
use Rattle.std.specs.Prelude.{Option, Some, None}
use Rattle.std.specs.Coded.{coded_option}
use Rattle.std.specs.Box.Ownership.{box_owns}
use Rattle.std.specs.Global.{Global}
use Rattle.std_heap.specs.contracts.GlobalAllocator.TheImpl.{ghosts}
use Rattle.a2l_c.specs.contracts.session.Session.{the_row}
use Rattle.a2l_c.specs.SessionState.{SessionState, session_code}

abbrev pub held : Global → Ptr → Option SessionState → Fml
held alloc at None = ftrue
held alloc at (Some session) = box_owns (ghosts.dealloc_token alloc) the_row at session

abbrev pub held_code : Coded (Option SessionState)
held_code = coded_option session_code
