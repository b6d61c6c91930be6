-- Two outcomes that one promise allows are equal: a contract that is an equation leaves no choice.
-- Assumes nothing.
use mathlib.Core.Path.{◌≡◌, sym, ◌∙◌}

pub settled : {A : Type 0} {d x y : A} → x ≡ d → y ≡ d → x ≡ y
settled p q = p ∙ sym q
