-- The theorem is proved in Claimed.
-- Assumes nothing.
use Rattle.link.proofs.Claimed.{feed_uses}
use Rattle.link.proofs.claims.claim_feed_uses.Goals as goal

pub returns : goal.returns
returns c = feed_uses
