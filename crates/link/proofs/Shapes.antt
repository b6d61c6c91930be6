-- What the shape of a frame says, and how it is shown.
-- Assumes nothing.
use Rattle.std.proofs.Common.{◌≡◌, ℕ, ◌-◌, ◌≤◌, Bool, true, false, not, eqb, ltb, List, length, get_or, refl, arith, ltb-false, le-ltb, eq-eqb, eqb-true, if◌then◌else◌}
use borrow.Author.Tests.{not-false}
use Rattle.std.specs.Prelude.{◌&&◌}
use Rattle.link.specs.Characters.{STX, ETX, CR, shaped}

-- a test that must be passed: where the whole is true, it was false and the rest is true
pub passed : (t r : Bool) → (if t then false else r) ≡ true → (t ≡ false) × (r ≡ true)
passed true r e = absurd (let z : ◌≡◌ {A = ℕ} 0 1 = cc in omega arith)
passed false r e = (refl, e)

pub both_true : (a b : Bool) → (a && b) ≡ true → (a ≡ true) × (b ≡ true)
both_true true b e = (refl, e)
both_true false b e = (e, absurd (let z : ◌≡◌ {A = ℕ} 0 1 = cc in omega arith))

pub record Shaped (f : List ℕ) : Type 0 where
  pub least : 6 ≤ length f
  pub most : length f ≤ 255
  pub opens : get_or f 0 0 ≡ STX
  pub ends : get_or f (length f - 4) 0 ≡ ETX
  pub closes : get_or f (length f - 1) 0 ≡ CR

module _ (f : List ℕ) where
  pub shaped_is : shaped f ≡ true → Shaped f
  shaped_is e =
      let p1 = passed (ltb (length f) 6) _ e in
      let p2 = passed (ltb 255 (length f)) _ p1.1 in
      let p3 = passed (not (eqb (get_or f 0 0) STX)) _ p2.1 in
      let p4 = passed (not (eqb (get_or f (length f - 4) 0) ETX)) _ p3.1 in
      record {
        least = ltb-false (length f) 6 p1.0;
        most = ltb-false 255 (length f) p2.0;
        opens = eqb-true (get_or f 0 0) STX (not-false _ p3.0);
        ends = eqb-true (get_or f (length f - 4) 0) ETX (not-false _ p4.0);
        closes = eqb-true (get_or f (length f - 1) 0) CR p4.1;
      }

  pub shaped_by : Shaped f → shaped f ≡ true
  shaped_by S =
      rw (
        le-ltb (length f) 6 S.least,
        le-ltb 255 (length f) S.most,
        eq-eqb (get_or f 0 0) STX S.opens,
        eq-eqb (get_or f (length f - 4) 0) ETX S.ends,
        eq-eqb (get_or f (length f - 1) 0) CR S.closes,
      )
