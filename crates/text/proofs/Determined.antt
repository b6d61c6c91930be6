-- For each call, that two outcomes which its promise allows are equal.
-- Assumes nothing.
use mathlib.Core.Path.{◌≡◌}
use mathlib.Core.Bool.{Bool}
use mathlib.Core.List.{List}
use Prim.Native.Nat.{ℕ}
use Rattle.text.specs.Text.{eq_l, agree, digit_of, laid_at}
use Rattle.text.proofs.Settled.{settled}

pub same-determined : (a b : List ℕ) {x y : Bool} → x ≡ eq_l a b → y ≡ eq_l a b → x ≡ y
same-determined a b = settled

pub agree-determined : (w t : List ℕ) {x y : ℕ} → x ≡ agree w t → y ≡ agree w t → x ≡ y
agree-determined w t = settled

pub digit_of-determined : (c : ℕ) {x y : ℕ} → x ≡ digit_of c → y ≡ digit_of c → x ≡ y
digit_of-determined c = settled

pub lay-determined : (t : List ℕ) (n : ℕ) (w : List ℕ) {x y : List ℕ} → x ≡ laid_at t n w → y ≡ laid_at t n w → x ≡ y
lay-determined t n w = settled
