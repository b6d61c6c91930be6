-- A frame that is closed over a front from STX to ETX, of 3 to 252 bytes, is in shape and has the test characters due.
-- Assumes nothing.
use Rattle.std.proofs.Common.{◌≡◌, ℕ, ◌+◌, ◌-◌, ◌≤◌, true, List, [], ◌∷◌, length, get_or, take, refl, ◌∙◌, arith, length-append, get_or-append-add, eq-eqb}
use lib.ListN.{get_or-append}
use lib.Seq.{take-append_seam}
use Rattle.link.specs.Characters.{pair_of}
use Rattle.link.specs.Characters.{STX, ETX, CR, shaped}
use Rattle.link.specs.Control.{closed}
use Rattle.link.specs.Outer.{marked}
use Rattle.link.specs.declared.settings.Procedure.{Procedure}
use Rattle.link.proofs.Shapes.{shaped_by}

module _ (p : Procedure) (front : List ℕ) where
  abbrev tail : List ℕ
  tail = (pair_of p front).first ∷ (pair_of p front).second ∷ CR ∷ []

  pub closed_long : length (closed p front) ≡ length front + 3
  closed_long = length-append front tail

  pub closed_front : take (length front) (closed p front) ≡ front
  closed_front = take-append_seam front tail

  pub closed_shaped : 3 ≤ length front → length front ≤ 252 → get_or front 0 0 ≡ STX → get_or front (length front - 1) 0 ≡ ETX → shaped (closed p front) ≡ true
  closed_shaped l h s e =
      let n = length front in
      let k1 : n + 3 - 1 ≡ n + 2 = omega arith in
      let k4 : n + 3 - 4 ≡ n - 1 = omega arith in
      shaped_by (closed p front)
      record {
        least = rw closed_long (omega arith);
        most = rw closed_long (omega arith);
        opens = get_or-append front tail 0 0 (omega arith) ∙ s;
        ends = rw (closed_long, k4) (get_or-append front tail 0 (n - 1) (omega arith) ∙ e);
        closes = rw (closed_long, k1) (get_or-append-add front tail 2 0);
      }

  pub closed_marked : marked p (closed p front) ≡ true
  closed_marked =
      let n = length front in
      let m = pair_of p front in
      let k2 : n + 3 - 2 ≡ n + 1 = omega arith in
      let k3 : n + 3 - 3 ≡ n + 0 = omega arith in
      let k0 : n + 0 ≡ n = omega arith in
      rw (
        closed_long,
        k3,
        get_or-append-add front tail 0 0,
        k0,
        closed_front,
        k2,
        get_or-append-add front tail 1 0,
        eq-eqb m.first m.first refl,
        eq-eqb m.second m.second refl,
      )
