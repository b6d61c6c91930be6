-- The chain keeps its sum in one byte.
-- Assumes nothing.
use Rattle.std.proofs.Common.{rules, ◌≡◌, ℕ, ◌+◌, ◌%◌, ◌∙◌}
use Rattle.std.specs.List.{fold}
use Rattle.link.proofs.Laws.{sum_wraps}
use Rattle.link.proofs.characters.sum_of.Goals as goal

pub returns : goal.returns
returns c =
    let e : c.fold.result ≡ fold (λ (x y : ℕ). (x + y) % 256) 0 c.args.bytes.now = search rules in
    e ∙ sum_wraps c.args.bytes.now
