-- The outer form of a frame: refusals 1 to 5, in this order, or what kind of frame it is.
-- Assumes nothing.
use Rattle.std.specs.Prelude.{ℕ, ◌-◌, Bool, ◌&&◌, not, List, length, take, Result, Ok, ◌==◌, slice_index, if◌then◌else◌}
use Rattle.link.specs.Refusals.{refused, and_then}
use Rattle.link.specs.Settings.{offered_of}
use Rattle.link.specs.Characters.{shaped, pair_of}
use Rattle.link.specs.Control.{SPE, control_of, control_length}
use Rattle.link.specs.declared.settings.Why.TheVariants.{Misshapen, Untrue, Unknown, Mislength}
use Rattle.link.specs.declared.settings.Refusal.{Refusal}
use Rattle.link.specs.declared.settings.Settings.{Settings}
use Rattle.link.specs.declared.settings.Procedure.{Procedure}
use Rattle.link.specs.declared.settings.IdLength.{IdLength}
use Rattle.link.specs.declared.settings.IdLength.TheVariants.{Short, Long}
use Rattle.link.specs.declared.outer.Kind.{Kind}
use Rattle.link.specs.declared.outer.Kind.TheVariants.{E, D}
use Rattle.link.specs.declared.outer.Outer.{Outer}
use Rattle.link.specs.declared.outer.Outer.TheVariants.{Control, Strip}

-- whether both test characters are those due
abbrev pub marked : Procedure → List ℕ → Bool
marked p f =
    let L = length f in
    slice_index f (L - 3) == (pair_of p (take (L - 3) f)).first && slice_index f (L - 2) == (pair_of p (take (L - 3) f)).second

-- 'E' or 'D' in a result frame: refusal 4 at its place for any other
abbrev pub kind_of : ℕ → Result Kind Refusal
kind_of k =
    if k == 0x45 then Ok E
    else if k == 0x44 then Ok D
    else refused Unknown 3

-- what byte 2, the code, and byte 3 say: with SPE a result frame, of a strip
abbrev pub named : ℕ → ℕ → Result Outer Refusal
named code k =
    if code == SPE then and_then (kind_of k) (λ kind. Ok (Strip kind))
    else and_then (control_of code) (λ control. Ok (Control control))

-- L of a result frame, by the ID length
abbrev pub strip_length : Kind → IdLength → ℕ
strip_length E Short = 236
strip_length E Long = 239
strip_length D Short = 78
strip_length D Long = 81

-- L of any frame
abbrev pub length_of : Outer → IdLength → ℕ
length_of (Control control) l = control_length
length_of (Strip kind) l = strip_length kind l

-- a frame of L bytes, if that is its length
abbrev pub sized : IdLength → ℕ → Outer → Result Outer Refusal
sized l L o = if L == length_of o l then Ok o else refused Mislength 0

abbrev pub outer_of : Settings → List ℕ → Result Outer Refusal
outer_of s f =
    and_then (offered_of s) (λ link.
    if not (shaped f) then refused Misshapen 0
    else if not (marked link.procedure f) then refused Untrue (length f - 2)
    else and_then (named (slice_index f 1) (slice_index f 2)) (sized link.id (length f)))
