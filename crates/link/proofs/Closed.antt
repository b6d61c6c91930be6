-- What is written is a frame that a receiver hands over: STX first, CR last, and neither in between.
-- Assumes nothing.
use Rattle.std.proofs.Common.{◌≡◌, ℕ, zero, suc, ◌+◌, ◌-◌, ◌/◌, ◌%◌, ◌<◌, ◌≤◌, Bool, true, false, ltb, List, [], ◌∷◌, length, get_or, take, drop, refl, ◌∙◌, arith, length-append, get_or-append-add, below_more, if◌then◌else◌}
use lib.Bits.{bit_or, or_add_and, and_le_l}
use lib.ListN.{get_or-append}
use lib.Seq.{get_or-append_seam}
use Rattle.link.specs.Characters.{hex_of, pair_of, xor_of}
use Rattle.std.specs.List.{sum}
use Rattle.link.specs.declared.settings.Procedure.{Procedure}
use Rattle.link.specs.declared.settings.Procedure.TheVariants.{A, B}
use Rattle.link.specs.Characters.{STX, ETX, CR}
use Rattle.link.specs.Control.{closed}
use Rattle.link.specs.Framed.{Plain, Framed}

or_above : (a b : ℕ) → b ≤ bit_or a b
or_above a b = omega (arith, or_add_and a b, and_le_l a b)

chosen : (t : Bool) (h : ℕ) → 48 ≤ (if t then h + 48 else h + 55)
chosen true h = omega arith
chosen false h = omega arith

hex_above : (h : ℕ) → 48 ≤ hex_of h
hex_above h = chosen (ltb h 10) h

-- both test characters are 30 hex or above
pub pair_above : (p : Procedure) (front : List ℕ) → (48 ≤ (pair_of p front).first) × (48 ≤ (pair_of p front).second)
pair_above A front = (or_above (xor_of front / 16) 48, or_above (xor_of front % 16) 48)
pair_above B front = let x = sum (take (length front - 2) (drop 1 front)) % 256 in (hex_above (x / 16), hex_above (x % 16))

plain : (b : ℕ) → 48 ≤ b → Plain b
plain b h = (omega arith, omega arith)

pub closed_framed : (p : Procedure) (front : List ℕ) → 1 ≤ length front → length front ≤ 252 → get_or front 0 0 ≡ STX
    → ((i : ℕ) → 0 < i → i < length front → Plain (get_or front i 0)) → Framed (closed p front)
closed_framed p front l h s q =
    let n = length front in
    let m = pair_of p front in
    let ys = m.first ∷ m.second ∷ CR ∷ [] in
    let f = closed p front in
    let len : length f ≡ n + 3 = length-append front ys in
    let z : n + 3 - 1 ≡ n + 2 = omega arith in
    let P : ℕ → Type 0 = λ (i : ℕ). 0 < i → Plain (get_or f i 0) in
    let front-plain : (i : ℕ) → i < n → P i = λ i k o. rw (get_or-append front ys 0 i k) (q i o k) in
    let first_plain : P n = λ o. rw (get_or-append_seam front m.first (m.second ∷ CR ∷ []) 0) (plain m.first (pair_above p front).0) in
    let second_plain : P (n + 1) = λ o. rw (get_or-append-add front ys 1 0) (plain m.second (pair_above p front).1) in
    record {
      least = omega arith;
      most = omega arith;
      opens = get_or-append front ys 0 0 (omega arith) ∙ s;
      closes = rw (len, z) (get_or-append-add front ys 2 0);
      inner = λ i o k. below_more P (n + 1) (below_more P n front-plain first_plain) second_plain i (omega arith) o;
    }

inner3 : (code : ℕ) → Plain code → (i : ℕ) → 0 < i → i < 3 → Plain (get_or (STX ∷ code ∷ ETX ∷ []) i 0)
inner3 code q zero o k = absurd (omega arith)
inner3 code q (suc zero) o k = q
inner3 code q (suc (suc zero)) o k = (omega arith, omega arith)
inner3 code q (suc (suc (suc i))) o k = absurd (omega arith)

-- a control frame, of a code that is neither STX nor CR
pub control_framed : (p : Procedure) (code : ℕ) → Plain code → Framed (closed p (STX ∷ code ∷ ETX ∷ []))
control_framed p code q = closed_framed p (STX ∷ code ∷ ETX ∷ []) (omega arith) (omega arith) refl (inner3 code q)
