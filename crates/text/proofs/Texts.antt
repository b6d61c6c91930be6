-- Laws of texts as tests, and of a field with finitely many texts.
-- Assumes nothing.
use Prim.Native.Nat.{ℕ, zero, suc, ◌+◌, ◌-◌, ◌/◌, ◌%◌, ◌≤◌, ◌<◌}
use mathlib.Core.Path.{◌≡◌, refl, sym, ap, ap₂, ◌∙◌}
use mathlib.Core.Bool.{Bool, true, false}
use Rattle.std.specs.Prelude.{Some, min}
use mathlib.Core.List.{List, [], ◌∷◌, ◌++◌, append-nil}
use lib.Dec.{eqb}
use lib.Pointwise.{pointwise}
use lib.ListN.{length, take, drop, get_or, set, drop_of_length-le}
use lib.Seq.{drop-cons, drop-length, set_split, drop_at, length-take-le}
use native.Mathlib.Omega.{arith}
use native.Mathlib.Numerals.{add-one}
use borrow.Author.Tests.{eqb-true, eq-eqb, lt-ltb, le-ltb}
use Rattle.std.proofs.Common.{if◌then◌else◌}
use Rattle.text.specs.Text.{eq_l, agree, first_with, dec_to}

pub eq_l-refl : (a : List ℕ) → eq_l a a ≡ true
eq_l-refl [] = refl
eq_l-refl (x ∷ xs) = rw (eq-eqb x x refl, eq_l-refl xs)

pub eq_l-eq : (a b : List ℕ) → eq_l a b ≡ true → a ≡ b
eq_l-eq [] [] e = refl
eq_l-eq [] (y ∷ ys) e = cc
eq_l-eq (x ∷ xs) [] e = cc
eq_l-eq (x ∷ xs) (y ∷ ys) e = go (eqb x y) refl e (eq_l-eq xs ys)
  where
    go : (q : Bool) → eqb x y ≡ q → (if q then eq_l xs ys else false) ≡ true → (eq_l xs ys ≡ true → xs ≡ ys) → ◌≡◌ {A = List ℕ} (x ∷ xs) (y ∷ ys)
    go true p e ih = ap₂ {C = List ℕ} (λ a l. a ∷ l) (eqb-true x y p) (ih e)
    go false p e ih = cc

pub eq_l-ne : (a b : List ℕ) → (a ≡ b → ⊥) → eq_l a b ≡ false
eq_l-ne a b n = go (eq_l a b) refl
  where
    go : (q : Bool) → eq_l a b ≡ q → q ≡ false
    go false e = refl
    go true e = absurd (n (eq_l-eq a b e))

-- what is found has the text that was sought
pub first_with-text : {A : Type 0} (text : A → List ℕ) (vs : List A) (t : List ℕ) (v : A) → first_with text vs t ≡ Some v → text v ≡ t
first_with-text text [] t v e = cc
first_with-text text (w ∷ vs) t v e = go (eq_l (text w) t) refl e (first_with-text text vs t v)
  where
    go : (q : Bool) → eq_l (text w) t ≡ q → (if q then Some w else first_with text vs t) ≡ Some v → (first_with text vs t ≡ Some v → text v ≡ t) → text v ≡ t
    go true p e ih = let h : w ≡ v = cc in rw (← h) (eq_l-eq (text w) t p)
    go false p e ih = ih e

-- a search over the values from place k on: the value there has the text, or the search goes on past it
module _ {A : Type 0} (text : A → List ℕ) (vs : List A) (d : A) (t : List ℕ) (k : ℕ) (h : k < length vs) (v : A) (at : v ≡ get_or vs k d) where
  pub hit : text v ≡ t → first_with text (drop k vs) t ≡ Some v
  hit e = rw (drop-cons vs k d, ← at, ← e, eq_l-refl)

  pub miss : (text v ≡ t → ⊥) → first_with text (drop k vs) t ≡ first_with text (drop (k + 1) vs) t
  miss n = rw (drop-cons vs k d, ← at, eq_l-ne (text v) t n, add-one)

-- a byte stored before what has been laid from the right
pub laid : (l : List ℕ) (a c : ℕ) → a < length l → drop a (set l a c) ≡ c ∷ drop (a + 1) l
laid l a c h = rw (set_split l a c h, drop_at (take a l) (c ∷ drop (suc a) l) a (length-take-le a l (omega arith)), add-one)

pub put_none : (l w : List ℕ) (a : ℕ) → drop a l ≡ drop (length w) w ++ drop a l
put_none l w a = rw drop-length

pub put_more : (l w r : List ℕ) (a i : ℕ) → 0 < a → a ≤ length l → 0 < i → i ≤ length w → drop a l ≡ drop i w ++ r
    → drop (a - 1) (set l (a - 1) (get_or w (i - 1) 0)) ≡ drop (i - 1) w ++ r
put_more l w r a i ha la hi li e =
    let p : a - 1 + 1 ≡ a = omega arith in
    let q : suc (i - 1) ≡ i = omega arith in
    let g = get_or w (i - 1) 0 in
    let d : drop (i - 1) w ≡ g ∷ drop i w = drop-cons w (i - 1) 0 (omega arith) ∙ ap {B = List ℕ} (λ (k : ℕ). g ∷ drop k w) q in
    laid l (a - 1) g (omega arith) ∙ rw (p, e, d)

-- decimal digits laid from the right: m is what is left of the number, x what has been laid once its last digit is
pub stop : (f m : ℕ) (x y : List ℕ) → x ≡ (48 + m % 10) ∷ y → m < 10 → x ≡ dec_to f m y
unfolding dec_to
stop zero m x y e h = e
stop (suc f) m x y e h = rw (lt-ltb m 10 h) e

pub more : (f m : ℕ) (x y : List ℕ) → x ≡ (48 + m % 10) ∷ y → 10 ≤ m → dec_to f (m / 10) x ≡ dec_to (suc f) m y
unfolding dec_to
more f m x y e h = rw (le-ltb m 10 h, e)

pub all : (m : ℕ) (x y : List ℕ) → x ≡ (48 + m % 10) ∷ y → x ≡ dec_to 0 m y
unfolding dec_to
all m x y e = e

-- a text laid over the whole of a part of its length
pub whole : (e s d : List ℕ) (r : ℕ) → length s ≡ length d → r + length s ≡ length s → drop r e ≡ s ++ drop (length s) d → e ≡ s
whole e s d r l h p =
    let z : r ≡ 0 = omega arith in
    let q : drop r e ≡ e = rw z in
    sym q ∙ p ∙ rw (l, drop-length) (append-nil s)

pub eq_l-length : (a b : List ℕ) → (length a ≡ length b → ⊥) → eq_l a b ≡ false
eq_l-length a b n = eq_l-ne a b (λ e. n (ap length e))

-- two runs compared byte by byte, as the library compares slices
pub eq_l_pointwise : (a b : List ℕ) → pointwise eqb a b ≡ eq_l a b
eq_l_pointwise [] [] = refl
eq_l_pointwise [] (y ∷ ys) = refl
eq_l_pointwise (x ∷ xs) [] = refl
eq_l_pointwise (x ∷ xs) (y ∷ ys) = grind (arith, eq_l_pointwise xs ys)

agree_none : (w : List ℕ) → agree w [] ≡ 0
agree_none [] = refl
agree_none (b ∷ w) = refl

-- a comparison byte by byte ends where the shorter run does
pub agree_end : (w t : List ℕ) (i : ℕ) → min (length w) (length t) ≤ i → agree (drop i w) (drop i t) ≡ 0
agree_end [] t i h = let z : length {A = ℕ} [] ≤ i = omega arith in rw (drop_of_length-le [] z) refl
agree_end (b ∷ w) [] i h = let z : length {A = ℕ} [] ≤ i = omega arith in rw (drop_of_length-le [] z) (agree_none (drop i (b ∷ w)))
agree_end (b ∷ w) (x ∷ t) zero h = absurd (omega arith)
agree_end (b ∷ w) (x ∷ t) (suc i) h = agree_end w t i (omega arith)
