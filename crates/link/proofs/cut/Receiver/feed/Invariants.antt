-- What the rest of the run gives from here is what the whole of it gives.
-- Assumes nothing.
use Rattle.std.proofs.Common.{◌≡◌, drop}
use Rattle.link.specs.Cut.{fed_of}
use Rattle.link.proofs.cut.Receiver.feed.Given as goal

abbrev pub invariant-loop-i : goal.invariant-loop-i
invariant-loop-i l = fed_of l.self l.i (drop l.i l.bytes) ≡ fed_of l.fn.self 0 l.bytes
