-- What a handed frame looks like, and what a receiver holds between two bytes.
-- Assumes nothing.
use Rattle.std.specs.Prelude.{◌≡◌, ℕ, ◌+◌, ◌-◌, ◌<◌, ◌≤◌, List, [], ◌∷◌, length, take, Some, None, Ok, Err, ◌≢◌, slice_index, slice_index_or}
use Rattle.link.specs.Characters.{STX, CR}
use Rattle.link.specs.Cut.{Answer, Handed, none, after, holds}
use Rattle.link.specs.declared.cut.Received.TheVariants.{Frame, Dropped}
use Rattle.link.specs.declared.cut.Receiver.{Receiver}

-- neither STX nor CR
abbrev pub Plain : ℕ → Type 0
Plain b = (b ≢ STX) × (b ≢ CR)

-- a frame as the receiver cuts it: STX first, CR last, neither in between; 2 to 255 bytes
pub record Framed (f : List ℕ) : Type 0 where
  pub least : 2 ≤ length f
  pub most : length f ≤ holds
  pub opens : slice_index_or f 0 0 ≡ STX
  pub closes : slice_index_or f (length f - 1) 0 ≡ CR
  pub inner : (i : ℕ) → 0 < i → i + 1 < length f → Plain (slice_index f i)

-- it has room for 255 bytes, and the first so many are held: an STX, and no further STX or CR
pub record Sound (r : Receiver) : Type 0 where
  pub long : length r.held ≡ holds
  pub few : r.count ≤ holds
  pub opens : 0 < r.count → slice_index r.held 0 ≡ STX
  pub inner : (i : ℕ) → 0 < i → i < r.count → Plain (slice_index r.held i)

-- an answer and the receiver after it, which holds nothing after a frame or a loss
abbrev pub After : Answer × Receiver → Type 0
After (Ok None, r) = Sound r
After (Ok (Some (Frame m)), r) = Framed (take m r.held) × (r.count ≡ 0) × Sound r
After (Ok (Some Dropped), r) = (r.count ≡ 0) × Sound r
After (Err e, r) = ⊥

abbrev pub FramedIf : Handed → Type 0
FramedIf none = Unit {0}
FramedIf (after e f) = Framed f

-- every one of them
abbrev pub AllFramed : List (List ℕ) → Type 0
AllFramed [] = Unit {0}
AllFramed (f ∷ fs) = Framed f × AllFramed fs
