-- Refusals: why, and where.
-- Assumes nothing.
use Rattle.std.specs.Prelude.{ℕ, Result, Ok, Err}
use Rattle.link.specs.declared.settings.Why.{Why}
use Rattle.link.specs.declared.settings.Why.TheVariants.{NotOffered, Misshapen, Untrue, Unknown, Mislength, FixedWrong, FieldWrong, NoRoom, NotInForm, TooLong, BadState, BadEvent}
use Rattle.link.specs.declared.settings.Refusal.{Refusal}

-- the rules' number
abbrev pub number_of : Why → ℕ
number_of NotOffered = 1
number_of Misshapen = 2
number_of Untrue = 3
number_of Unknown = 4
number_of Mislength = 5
number_of FixedWrong = 6
number_of FieldWrong = 7
number_of NoRoom = 8
number_of NotInForm = 9
number_of TooLong = 10
number_of BadState = 11
number_of BadEvent = 12

-- an answer that refuses, for a reason and at a place
abbrev pub refused : {A : Type 0} → Why → ℕ → Result A Refusal
refused why place = Err (record { why = why; place = place })

-- what follows a step, unless that is refused
abbrev pub and_then : {A B : Type 0} → Result A Refusal → (A → Result B Refusal) → Result B Refusal
and_then (Ok x) go = go x
and_then (Err e) go = Err e
