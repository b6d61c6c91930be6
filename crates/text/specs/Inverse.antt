-- Reading as the inverse of writing. A field's value has a text, and numbers in the packed record; reading either is told by what
-- values show, so that the grammar is written once: the value that shows so, or none.
-- Assumes nothing.
use Rattle.std.specs.Prelude.{ℕ, ◌^◌, ◌≡◌, Bool, true, false, ◌&&◌, List, [], ◌∷◌, length, nat_lt, Option, Some, None, if◌then◌else◌}

-- what reading x means, said by what values show alone: the value that fits and shows as x, or none
pub record Reads {A X : Type 0} (show : A → X) (fits : A → Bool) (x : X) (r : Option A) : Type 0 where
  pub sound : (v : A) → r ≡ Some v → (show v ≡ x) × (fits v ≡ true)
  pub complete : (v : A) → fits v ≡ true → show v ≡ x → r ≡ Some v

-- how it is done: a guess v, where it fits and shows as x
module _ {A X : Type 0} (show : A → X) (fits : A → Bool) (same : X → X → Bool) where
  abbrev pub checked : A → X → Option A
  checked v x = if fits v then (if same (show v) x then Some v else None) else None

-- as many numbers as widths, each with no more bits than its width
abbrev pub below : List ℕ → List ℕ → Bool
below [] [] = true
below [] (v ∷ vs) = false
below (w ∷ ws) [] = false
below (w ∷ ws) (v ∷ vs) = nat_lt v (2 ^ w) && below ws vs

-- what every kind of field owes: what was read writes back the same bytes, what was written reads back the same value, what is no
-- value's text is refused; the same of its packed numbers; texts of one width, numbers within their bits
pub record Faithful {A : Type 0} (width : ℕ) (bits : List ℕ) (text codes : A → List ℕ) (fits : A → Bool) (read of : List ℕ → Option A) : Type 0 where
  pub texts : (t : List ℕ) → Reads text fits t (read t)
  pub packs : (cs : List ℕ) → Reads codes fits cs (of cs)
  pub wide : (v : A) → fits v ≡ true → length (text v) ≡ width
  pub low : (v : A) → fits v ≡ true → below bits (codes v) ≡ true
