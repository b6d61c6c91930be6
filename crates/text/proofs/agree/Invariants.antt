-- The bytes passed agree, and what is left to count is what the rest of both agrees in.
-- Assumes nothing.
use Rattle.std.proofs.Common.{drop, ◌≡◌, ◌+◌}
use Rattle.text.specs.Text.{agree as agree_of}
use Rattle.text.proofs.agree.Given as goal

abbrev pub invariant-loop-i : goal.invariant-loop-i
invariant-loop-i l = agree_of l.word l.part ≡ l.i + agree_of (drop l.i l.word) (drop l.i l.part)
