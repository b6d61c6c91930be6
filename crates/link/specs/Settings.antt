-- A link's settings: a test procedure and an ID length.
-- Assumes nothing.
use Rattle.std.specs.Prelude.{ℕ, Bool, Result, Ok, is_ok, ◌==◌, if◌then◌else◌}
use Rattle.link.specs.Refusals.{refused, and_then}
use Rattle.link.specs.declared.settings.Why.TheVariants.{NotOffered}
use Rattle.link.specs.declared.settings.Refusal.{Refusal}
use Rattle.link.specs.declared.settings.Settings.{Settings}
use Rattle.link.specs.declared.settings.Link.{Link}
use Rattle.link.specs.declared.settings.Procedure.{Procedure}
use Rattle.link.specs.declared.settings.Procedure.TheVariants.{A, B}
use Rattle.link.specs.declared.settings.IdLength.{IdLength}
use Rattle.link.specs.declared.settings.IdLength.TheVariants.{Short, Long}

-- the letters 'a' and 'b'
abbrev pub procedure_a : ℕ
procedure_a = 97

abbrev pub procedure_b : ℕ
procedure_b = 98

-- the procedure of a letter: refusal 1 for any other
abbrev pub procedure_of : ℕ → Result Procedure Refusal
procedure_of p =
    if p == procedure_a then Ok A
    else if p == procedure_b then Ok B
    else refused NotOffered 0

abbrev pub short_id : ℕ
short_id = 10

abbrev pub long_id : ℕ
long_id = 13

-- an ID of a length: refusal 1 for any other
abbrev pub id_of : ℕ → Result IdLength Refusal
id_of l =
    if l == short_id then Ok Short
    else if l == long_id then Ok Long
    else refused NotOffered 0

-- the settings of a link: refusal 1 for a procedure or an ID length that is not offered
abbrev pub offered_of : Settings → Result Link Refusal
offered_of s =
    and_then (procedure_of s.procedure) (λ p.
    and_then (id_of s.id) (λ l.
    Ok (record { procedure = p; id = l })))

abbrev pub settings_offered : Settings → Bool
settings_offered s = is_ok (offered_of s)
