-- Control frames. An outcome is the answer and every byte of the lent output, as the call leaves it.
-- Assumes nothing.
use Rattle.std.specs.Prelude.{ℕ, Bool, List, [], ◌∷◌, ◌++◌, length, drop, Result, Ok, Err, is_ok, ◌==◌, nat_lt, if◌then◌else◌}
use Rattle.link.specs.Refusals.{refused, and_then}
use Rattle.link.specs.Settings.{procedure_of}
use Rattle.link.specs.Characters.{STX, ETX, CR, pair_of}
use Rattle.link.specs.declared.settings.Why.TheVariants.{Unknown, NoRoom}
use Rattle.link.specs.declared.settings.Refusal.{Refusal}
use Rattle.link.specs.declared.settings.Procedure.{Procedure}
use Rattle.link.specs.declared.control.Control.{Control}
use Rattle.link.specs.declared.control.Control.TheVariants.{End, Spm, More, Repeat}

-- the frame codes; MOR from the host and ANY from the reader are one byte
abbrev pub END : ℕ
END = 0x3A

abbrev pub SPE : ℕ
SPE = 0x3B

abbrev pub SPM : ℕ
SPM = 0x3C

abbrev pub MOR : ℕ
MOR = 0x3E

abbrev pub REP : ℕ
REP = 0x3F

abbrev pub code_of : Control → ℕ
code_of End = END
code_of Spm = SPM
code_of More = MOR
code_of Repeat = REP

-- what a code says in a control frame: refusal 4 at its place for any other, SPE too, which `named` takes out before
abbrev pub control_of : ℕ → Result Control Refusal
control_of c =
    if c == END then Ok End
    else if c == SPM then Ok Spm
    else if c == MOR then Ok More
    else if c == REP then Ok Repeat
    else refused Unknown 2

abbrev pub control_code : ℕ → Bool
control_code c = is_ok (control_of c)

-- L of a control frame
abbrev pub control_length : ℕ
control_length = 6

-- a front, STX to ETX, with its test characters and CR
abbrev pub closed : Procedure → List ℕ → List ℕ
closed p front = front ++ ((pair_of p front).first ∷ (pair_of p front).second ∷ CR ∷ [])

abbrev pub control_frame : Procedure → Control → List ℕ
control_frame p c = closed p (STX ∷ code_of c ∷ ETX ∷ [])

-- the frame for an output of so many bytes: refusals 1, 4 at the code's place, 8
abbrev pub control_due : ℕ → ℕ → ℕ → Result (List ℕ) Refusal
control_due p code room =
    and_then (procedure_of p) (λ procedure.
    and_then (control_of code) (λ control.
    if nat_lt room control_length then refused NoRoom 0
    else Ok (control_frame procedure control)))

-- the frame before the bytes past it as they were; a refusal touches nothing
abbrev pub written : Result (List ℕ) Refusal → List ℕ → Result (Unit {0}) Refusal × List ℕ
written (Ok f) out = (Ok tt, f ++ drop (length f) out)
written (Err e) out = (Err e, out)

abbrev pub control_outcome : ℕ → ℕ → List ℕ → Result (Unit {0}) Refusal × List ℕ
control_outcome p code out = written (control_due p code (length out)) out
