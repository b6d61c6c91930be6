-- Test characters. Bytes are numbers; `bit_xor` and `bit_or` are the logic's, digit by digit, and compute at bytes.
-- Assumes nothing.
use Rattle.std.specs.Prelude.{ℕ, ◌+◌, ◌-◌, ◌/◌, ◌%◌, ◌≡◌, Bool, true, false, not, List, length, take, drop, fold, sum, Result, Ok, Err, ◌==◌, bit_or, bit_xor, nat_lt, slice_index, if◌then◌else◌}
use Rattle.link.specs.Refusals.{refused, and_then}
use Rattle.link.specs.Settings.{procedure_of}
use Rattle.link.specs.declared.settings.Why.TheVariants.{Misshapen}
use Rattle.link.specs.declared.settings.Refusal.{Refusal}
use Rattle.link.specs.declared.settings.Procedure.{Procedure}
use Rattle.link.specs.declared.settings.Procedure.TheVariants.{A, B}
use Rattle.link.specs.declared.characters.Pair.{Pair}
use Rattle.link.specs.declared.characters.Shaped.{Shaped}

abbrev pub STX : ℕ
STX = 0x02

abbrev pub ETX : ℕ
ETX = 0x03

abbrev pub CR : ℕ
CR = 0x0D

-- the XOR of all bytes
abbrev pub xor_of : List ℕ → ℕ
xor_of bs = fold bit_xor 0 bs

-- 0..9, A..F
abbrev pub hex_of : ℕ → ℕ
hex_of h = if nat_lt h 10 then h + 48 else h + 55

-- procedure a: each half-byte of the XOR, OR 30 hex
abbrev pub pair_a : List ℕ → Pair
pair_a bs = record { first = bit_or (xor_of bs / 16) 0x30; second = bit_or (xor_of bs % 16) 0x30 }

-- procedure b: the sum modulo 256, as two hexadecimal digits
abbrev pub pair_b : List ℕ → Pair
pair_b bs = record { first = hex_of (sum bs % 256 / 16); second = hex_of (sum bs % 256 % 16) }

-- of a frame's bytes 1 to L−3, its front: a covers them all, b leaves out STX and ETX
abbrev pub pair_of : Procedure → List ℕ → Pair
pair_of A front = pair_a front
pair_of B front = pair_b (take (length front - 2) (drop 1 front))

-- the shape of a frame as whoever reads it judges it, where the receiver cuts from 2 bytes on: 6 to 255 bytes, with STX first, ETX at L−3 and CR last
abbrev pub shaped : List ℕ → Bool
shaped f =
    let L = length f in
    if nat_lt L 6 then false
    else if nat_lt 255 L then false
    else if not (slice_index f 0 == STX) then false
    else if not (slice_index f (L - 4) == ETX) then false
    else (slice_index f (L - 1) == CR)

-- the test characters that a frame has
abbrev pub marks_of : List ℕ → Pair
marks_of f = record { first = slice_index f (length f - 3); second = slice_index f (length f - 2) }

-- a frame in shape, taken apart: its front and its test characters; any other is refused 2
abbrev pub IsShaped : List ℕ → Result Shaped Refusal → Type 0
IsShaped f (Ok p) = (shaped f ≡ true) × (p.front.now ≡ take (length f - 3) f) × (p.marks ≡ marks_of f)
IsShaped f (Err e) = (shaped f ≡ false) × (e ≡ record { why = Misshapen; place = 0 })

-- the test characters due for a frame, whatever two stand in their place: refusals 1 and 2
abbrev pub due_of : ℕ → List ℕ → Result Pair Refusal
due_of p f =
    and_then (procedure_of p) (λ procedure.
    if not (shaped f) then refused Misshapen 0
    else Ok (pair_of procedure (take (length f - 3) f)))
