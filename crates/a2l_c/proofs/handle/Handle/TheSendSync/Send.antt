-- A handle may go to another thread, since a session may, and what it owns is freed from any.
use mir.Raw.{raw}
use denote.Memory.{lone}
use denote.RawPtr.{Ptr}
use denote.Struct.Struct.{exits_of}
use denote.Struct.Owning.{shape, fields, to}
use base.Shift.{Keyless}
use denote.Param.Send.{IsSend, AllSend, owning_send, struct_send, sendable}
use Rattle.std.specs.Prelude.{Option, Some, None}
use Rattle.std.specs.Global.{Global}
use Rattle.std.proofs.Crossing as heap
use Rattle.std_alloc.proofs.SendSync.{quiet, lies}
use Rattle.std_heap.proofs.Global.TheSendSync as handle
use Rattle.a2l_c.specs.SessionState.{SessionState}
use Rattle.a2l_c.specs.Held.{held}
use Rattle.a2l_c.specs.contracts.session.Session as Session
use Rattle.a2l_c.proofs.session.Session.TheSendSync.{the_send as session}
use Rattle.a2l_c.specs.contracts.handle.Handle.{the_row, the_type}

keyless : (alloc : Global) (at : Ptr) (o : Option SessionState) → Keyless (held alloc at o)
keyless alloc at None = tt
keyless alloc at (Some x) = (lies Session.the_row session at x, heap.frees.frees alloc (raw (lone Session.the_row.mir)) at)

pub send : IsSend the_row
send =
    let all : AllSend (fields the_type) = (search sendable, (handle.the_field_send, tt)) in
    owning_send the_type all (λ d. keyless d.alloc d.at d.session)
    (λ k. quiet (to the_type) (exits_of k (fields the_type)) ((struct_send (shape the_type) all).leaving k))
