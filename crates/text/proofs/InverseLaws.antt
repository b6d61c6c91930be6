-- Reading by a guess that is shown and compared: both inverse laws, from one law of the guess.
-- Assumes nothing.
use Prim.Native.Nat.{ℕ}
use native.Mathlib.Omega.{arith}
use mathlib.Core.Path.{◌≡◌, refl, sym, ap, ◌∙◌}
use mathlib.Core.Bool.{Bool, true, false}
use Rattle.std.specs.Prelude.{Option, Some, None}
use lib.ListN.{length}
use mathlib.Core.List.{List}
use Rattle.std.proofs.Common.{if◌then◌else◌}
use Rattle.text.specs.Text.{eq_l}
use Rattle.text.specs.Inverse.{checked, Reads, below, Faithful}
use Rattle.text.proofs.Texts.{eq_l-eq, eq_l-refl}

pub none_not_some : {A : Type 0} (v : A) → None ≡ Some v → ⊥
none_not_some v e = let z : ◌≡◌ {A = ℕ} 0 1 = cc in omega arith

module _ {A X : Type 0} (show : A → X) (fits : A → Bool) (same : X → X → Bool)
    (is : (x y : X) → same x y ≡ true → x ≡ y) (self : (x : X) → same x x ≡ true) where
  -- what was read shows the same, and fits
  pub checked-sound : (w : A) (x : X) (v : A) → checked show fits same w x ≡ Some v → (show v ≡ x) × (fits v ≡ true)
  checked-sound w x v e = go (fits w) refl (same (show w) x) refl e
    where
      go : (a : Bool) → fits w ≡ a → (b : Bool) → same (show w) x ≡ b → (if a then (if b then Some w else None) else None) ≡ Some v → (show v ≡ x) × (fits v ≡ true)
      go true p true q e = let h : w ≡ v = cc in (rw (← h) (is (show w) x q), rw (← h) p)
      go true p false q e = absurd (none_not_some v e)
      go false p true q e = absurd (none_not_some v e)
      go false p false q e = absurd (none_not_some v e)

  module _ (guess : X → A) (law : (v : A) → fits v ≡ true → guess (show v) ≡ v) where
    abbrev got : X → Option A
    got x = checked show fits same (guess x) x

    -- reading what was shown gives the value
    pub shown : (v : A) → fits v ≡ true → got (show v) ≡ Some v
    shown v e = ap (λ w. checked show fits same w (show v)) (law v e) ∙ rw (e, self (show v))

    -- what this finds is what reading means
    pub means : (x : X) → Reads show fits x (got x)
    means x = record { sound = λ v e. checked-sound (guess x) x v e; complete = λ v e p. ap got (sym p) ∙ shown v e }

-- the three ways through `checked`
module _ {A X : Type 0} (show : A → X) (fits : A → Bool) (same : X → X → Bool) (v : A) (x : X) where
  pub unfit : fits v ≡ false → None ≡ checked show fits same v x
  unfit e = rw e

  pub other : fits v ≡ true → same (show v) x ≡ false → None ≡ checked show fits same v x
  other e f = rw (e, f)

  pub its : fits v ≡ true → same (show v) x ≡ true → Some v ≡ checked show fits same v x
  its e f = rw (e, f)

-- and nothing else is
pub only_one : {A X : Type 0} (show : A → X) (fits : A → Bool) (x : X) (r q : Option A) → Reads show fits x r → Reads show fits x q → r ≡ q
only_one show fits x (Some v) q a b = sym (b.complete v (a.sound v refl).1 (a.sound v refl).0)
only_one show fits x None (Some w) a b = a.complete w (b.sound w refl).1 (b.sound w refl).0
only_one show fits x None None a b = refl

-- a kind is faithful whose guesses, of a text and of packed numbers, find each value that fits
module _ {A : Type 0} (width : ℕ) (bits : List ℕ) (text codes : A → List ℕ) (fits : A → Bool) (guess loose : List ℕ → A) where
  pub faithful : ((v : A) → fits v ≡ true → guess (text v) ≡ v) → ((v : A) → fits v ≡ true → loose (codes v) ≡ v)
      → ((v : A) → fits v ≡ true → length (text v) ≡ width) → ((v : A) → fits v ≡ true → below bits (codes v) ≡ true)
      → Faithful width bits text codes fits (λ t. checked text fits eq_l (guess t) t) (λ cs. checked codes fits eq_l (loose cs) cs)
  faithful g l w b =
      record {
        texts = means text fits eq_l eq_l-eq eq_l-refl guess g;
        packs = means codes fits eq_l eq_l-eq eq_l-refl loose l;
        wide = w;
        low = b;
      }

-- what callers take from it
module _ {A : Type 0} {width : ℕ} {bits : List ℕ} {text codes : A → List ℕ} {fits : A → Bool} {read of : List ℕ → Option A}
    (F : Faithful width bits text codes fits read of) where
  -- what was written reads back the same value
  pub read-text : (v : A) → fits v ≡ true → read (text v) ≡ Some v
  read-text v e = (F.texts (text v)).complete v e refl

  -- what was read writes back the same bytes
  pub text-read : (t : List ℕ) (v : A) → read t ≡ Some v → (text v ≡ t) × (fits v ≡ true)
  text-read t v e = (F.texts t).sound v e

  pub of-codes : (v : A) → fits v ≡ true → of (codes v) ≡ Some v
  of-codes v e = (F.packs (codes v)).complete v e refl

  pub codes-of : (cs : List ℕ) (v : A) → of cs ≡ Some v → (codes v ≡ cs) × (fits v ≡ true)
  codes-of cs v e = (F.packs cs).sound v e
