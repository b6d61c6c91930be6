-- Runs of bytes, one byte a step.
-- Assumes nothing.
use Rattle.std.proofs.Common.{◌≡◌, ℕ, ◌+◌, ◌%◌, ◌<◌, List, ◌∷◌, length, get_or, drop, ap, refl, add-one, arith, drop-cons}
use Rattle.std.specs.List.{fold, sum}
use Rattle.std.proofs.lemmas.List.Folds.{fold_along}
use Rattle.link.specs.Cut.{act_of, holding, done, receive_of}
use Rattle.std.specs.Prelude.{Result}
use Rattle.link.specs.declared.settings.Refusal.{Refusal}
use Rattle.link.specs.declared.cut.Act.{Act}

-- the rest from i is the byte at i and the rest from i + 1
pub rest : (l : List ℕ) (i : ℕ) → i < length l → drop i l ≡ get_or l i 0 ∷ drop (i + 1) l
rest l i h = rw (add-one, drop-cons l i 0)

-- a sum kept in one byte is the whole sum, modulo 256
pub sum_wraps : (bs : List ℕ) → fold (λ (x y : ℕ). (x + y) % 256) 0 bs ≡ sum bs % 256
sum_wraps bs = fold_along (λ (x y : ℕ). (x + y) % 256) (λ (x y : ℕ). x + y) (λ (x y : ℕ). x ≡ y % 256) (λ x y z e. rw e (omega arith)) 0 0 bs refl

-- a receiver does what its act says
pub taken : (held : List ℕ) (n b : ℕ) (a : Result Act Refusal) → act_of n b ≡ a → receive_of (holding held n) b ≡ done a (holding held n) b
taken held n b a e = ap (λ (x : Result Act Refusal). done x (holding held n) b) e
