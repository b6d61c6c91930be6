-- The finder yields the frames that it has left.
-- Assumes nothing.
use Rattle.std.proofs.lemmas.Iterator.Consumers.{count_from_yields_List}
use Rattle.link.proofs.Frames.{left_yields}
use Rattle.link.proofs.cut.frames_after.Goals as goal

pub returns : goal.returns
returns c = count_from_yields_List _ c.count.result c.count.ensures.ran (left_yields _)
