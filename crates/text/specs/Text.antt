-- Texts are lists of bytes: equality as a test, digits, right alignment, a run of bytes laid over another.
-- Assumes nothing.
use Rattle.std.specs.Prelude.{ℕ, zero, suc, ◌+◌, ◌-◌, ◌/◌, ◌%◌, Bool, true, false, List, [], ◌∷◌, ◌++◌, length, take, drop, replicate, ◌==◌, nat_lt, nat_le, Option, Some, None, if◌then◌else◌}

-- whether two lists are the same, element by element
abbrev pub eq_l : List ℕ → List ℕ → Bool
eq_l [] [] = true
eq_l [] (y ∷ ys) = false
eq_l (x ∷ xs) [] = false
eq_l (x ∷ xs) (y ∷ ys) = if x == y then eq_l xs ys else false

-- the first of the values whose text is t
abbrev pub first_with : {A : Type 0} → (A → List ℕ) → List A → List ℕ → Option A
first_with text [] t = None
first_with text (v ∷ vs) t = if eq_l (text v) t then Some v else first_with text vs t

-- how many bytes of w stand at the front of t, up to the first that does not
abbrev pub agree : List ℕ → List ℕ → ℕ
agree [] t = 0
agree (b ∷ w) [] = 0
agree (b ∷ w) (x ∷ t) = if x == b then suc (agree w t) else 0

abbrev pub space : ℕ
space = 32

-- the digit that a character is, if it is one: 30 hex is 0
abbrev pub digit_of : ℕ → ℕ
digit_of c = (c + 2) % 10

-- the last f + 1 decimal digits of n before r: all of them, with no leading zero, where n has no more
unfoldable pub dec_to : ℕ → ℕ → List ℕ → List ℕ
dec_to zero n r = (48 + n % 10) ∷ r
dec_to (suc f) n r = if nat_lt n 10 then (48 + n % 10) ∷ r else dec_to f (n / 10) ((48 + n % 10) ∷ r)

-- t right-aligned in w characters; as it is, where it has more
abbrev pub pad : ℕ → List ℕ → List ℕ
pad w t = replicate (w - length t) space ++ t

-- w in the place of as many bytes of t, from offset n on; t as it is, where they are not there
abbrev pub laid_at : List ℕ → ℕ → List ℕ → List ℕ
laid_at t n w = if nat_le (n + length w) (length t) then take n t ++ (w ++ drop (n + length w) t) else t
