-- The limits of a core's shape.
use Rattle.std.specs.Prelude.{◌≤◌, ◌^◌}
use Rattle.ticket_core.specs.declared.shape.Shape.{Shape}

-- 1 to 64 senders, 1 to 64 workers, a window of 1 to 1024, and at most 1 to 2 ^ 60 queries a sender
abbrev pub Fits : Shape → Type 0
Fits shape =
    (1 ≤ shape.senders) × (shape.senders ≤ 64) × (1 ≤ shape.workers) × (shape.workers ≤ 64)
    × (1 ≤ shape.window) × (shape.window ≤ 1024) × (1 ≤ shape.most) × (shape.most ≤ 2 ^ 60)
