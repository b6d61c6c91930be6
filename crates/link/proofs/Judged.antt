-- What each act says of the count and the byte: to match on it in the place of five tests.
-- Assumes nothing.
use Rattle.std.proofs.Common.{◌≡◌, ℕ, ◌<◌, ◌≤◌, Bool, true, false, eqb, ltb, refl, subst, arith, ltb-false, ltb-true, eqb-true, if◌then◌else◌}
use borrow.Author.Tests.{eqb-false}
use Rattle.std.specs.Prelude.{Result, Ok, Err}
use Rattle.link.specs.Characters.{STX, CR}
use Rattle.link.specs.Cut.{act_of}
use Rattle.link.specs.Refusals.{refused}
use Rattle.link.specs.declared.settings.Why.TheVariants.{BadState}
use Rattle.link.specs.declared.settings.Refusal.{Refusal}
use Rattle.link.specs.declared.cut.Act.{Act}
use Rattle.link.specs.declared.cut.Act.TheVariants.{Begin, Skip, Drop, Close, Keep}

abbrev pub Judged : ℕ → ℕ → Result Act Refusal → Type 0
Judged n b (Err e) = 255 < n
Judged n b (Ok Begin) = (n ≤ 255) × (b ≡ STX)
Judged n b (Ok Skip) = (n ≡ 0) × (b ≡ STX → ⊥)
Judged n b (Ok Drop) = (n ≡ 255) × (b ≡ STX → ⊥)
Judged n b (Ok Close) = (0 < n) × (n < 255) × (b ≡ CR)
Judged n b (Ok Keep) = (0 < n) × (n < 255) × (b ≡ STX → ⊥) × (b ≡ CR → ⊥)

module _ (n b : ℕ) where
  by_byte : n ≤ 255 → (b ≡ STX → ⊥) → (n ≡ 0 → ⊥) → (n ≡ 255 → ⊥) → (t : Bool) → eqb b CR ≡ t → Judged n b (if t then Ok Close else Ok Keep)
  by_byte h s z f true e = (omega arith, omega arith, eqb-true b CR e)
  by_byte h s z f false e = (omega arith, omega arith, s, eqb-false b CR e)

  by_full : n ≤ 255 → (b ≡ STX → ⊥) → (n ≡ 0 → ⊥) → (t : Bool) → eqb n 255 ≡ t
      → Judged n b (if t then Ok Drop else if eqb b CR then Ok Close else Ok Keep)
  by_full h s z true e = (eqb-true n 255 e, s)
  by_full h s z false e = by_byte h s z (eqb-false n 255 e) (eqb b CR) refl

  by_none : n ≤ 255 → (b ≡ STX → ⊥) → (t : Bool) → eqb n 0 ≡ t
      → Judged n b (if t then Ok Skip else if eqb n 255 then Ok Drop else if eqb b CR then Ok Close else Ok Keep)
  by_none h s true e = (eqb-true n 0 e, s)
  by_none h s false e = by_full h s (eqb-false n 0 e) (eqb n 255) refl

  by_start : n ≤ 255 → (t : Bool) → eqb b STX ≡ t
      → Judged n b (if t then Ok Begin else if eqb n 0 then Ok Skip else if eqb n 255 then Ok Drop else if eqb b CR then Ok Close else Ok Keep)
  by_start h true e = (h, eqb-true b STX e)
  by_start h false e = by_none h (eqb-false b STX e) (eqb n 0) refl

  by_count : (t : Bool) → ltb 255 n ≡ t
      → Judged n b (if t then refused BadState 0 else if eqb b STX then Ok Begin else if eqb n 0 then Ok Skip else if eqb n 255 then Ok Drop else if eqb b CR then Ok Close else Ok Keep)
  by_count true e = ltb-true 255 n e
  by_count false e = by_start (ltb-false 255 n e) (eqb b STX) refl

  pub judged : (a : Result Act Refusal) → act_of n b ≡ a → Judged n b a
  judged a e = subst (Judged n b) e (by_count (ltb 255 n) refl)
