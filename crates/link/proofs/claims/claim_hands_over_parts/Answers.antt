-- The theorem is proved in Claimed.
-- Assumes nothing.
use Rattle.link.proofs.Claimed.{hands_over_parts}
use Rattle.link.proofs.claims.claim_hands_over_parts.Goals as goal

pub returns : goal.returns
returns c = hands_over_parts
