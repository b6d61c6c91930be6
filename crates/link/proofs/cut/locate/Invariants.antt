-- The byte at `at` is next for a receiver that holds `count` bytes, the last ones before `at`.
-- Assumes nothing.
use Rattle.link.proofs.Held.{Held}
use Rattle.link.proofs.cut.locate.Given as goal

abbrev pub invariant-loop-at : goal.invariant-loop-at
invariant-loop-at l = Held l.capture l.start l.count l.at
