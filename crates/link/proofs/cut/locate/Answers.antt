-- Each act keeps what is held in step with the capture.
-- Assumes nothing.
use Rattle.std.proofs.Common.{ap, ◌∙◌}
use Rattle.std.specs.Prelude.{Ok}
use Rattle.link.proofs.Held.{held_begin, held_keep, held_skip, held_drop, refused_not}
use Rattle.link.proofs.cut.locate.Goals as goal
use Rattle.link.proofs.cut.locate.Goals.{in-Ok-Begin, in-Ok-Keep, in-Ok-Skip, in-Ok-Drop, in-Err}

pub loop-at-preserved : goal.loop-at-preserved
loop-at-preserved c =
    let s = c.args.capture.now in
    let l = c.loop-at in
    let j = c.judge in
    elim c.match-judge.branch [
      | in-Ok-Begin w ↦ rw w.count-is (held_begin s c.args.start l.count l.at c.loop-at-test.true l.invariant j.result j.ensures (w.in-Ok-Begin.is ∙ ap Ok w.in-Ok-Begin.field-0-is))
      | in-Ok-Keep w ↦ rw w.count-is (held_keep s c.args.start l.count l.at c.loop-at-test.true l.invariant j.result j.ensures (w.in-Ok-Keep.is ∙ ap Ok w.in-Ok-Keep.field-0-is))
      | in-Ok-Skip w ↦ rw w.count-is (held_skip s c.args.start l.count l.at c.loop-at-test.true l.invariant j.result j.ensures (w.in-Ok-Skip.is ∙ ap Ok w.in-Ok-Skip.field-0-is))
      | in-Ok-Drop w ↦ rw w.count-is (held_drop s c.args.start l.count l.at c.loop-at-test.true l.invariant j.result j.ensures (w.in-Ok-Drop.is ∙ ap Ok w.in-Ok-Drop.field-0-is))
      | in-Err w ↦ absurd (refused_not s c.args.start l.count l.at c.loop-at-test.true l.invariant j.result j.ensures w.in-Err.field-0 w.in-Err.is)
    ]
