-- For each call, that two outcomes which its promise allows are equal: answer, state and every lent byte.
-- Assumes nothing.
use Rattle.std.proofs.Common.{◌≡◌, ℕ, List, length, Bor}
use Rattle.std.specs.Prelude.{Option, Result, option_copied}
use Rattle.text.proofs.Settled.{settled}
use Rattle.link.specs.Refusals.{number_of}
use Rattle.link.specs.Settings.{procedure_of, id_of, offered_of}
use Rattle.link.specs.Characters.{due_of}
use Rattle.link.specs.Control.{code_of, control_of, control_outcome}
use Rattle.link.specs.Outer.{kind_of, outer_of}
use Rattle.link.specs.Cut.{Answer, fresh, receive_of, refusal_in, first_from, span_of, bytes_of, FindsNext, frames_of, fed_of}
use Rattle.link.specs.declared.settings.Why.{Why}
use Rattle.link.specs.declared.settings.Refusal.{Refusal}
use Rattle.link.specs.declared.settings.Settings.{Settings}
use Rattle.link.specs.declared.settings.Procedure.{Procedure}
use Rattle.link.specs.declared.settings.IdLength.{IdLength}
use Rattle.link.specs.declared.settings.Link.{Link}
use Rattle.link.specs.declared.characters.Pair.{Pair}
use Rattle.link.specs.declared.control.Control.{Control}
use Rattle.link.specs.declared.outer.Kind.{Kind}
use Rattle.link.specs.declared.outer.Outer.{Outer}
use Rattle.link.specs.declared.cut.Receiver.{Receiver}
use Rattle.link.specs.declared.cut.Span.{Span}
use Rattle.link.specs.declared.cut.Fed.{Fed}
use Rattle.link.specs.declared.cut.Finder.{Finder}

-- the conversions
pub u8_from_why-determined : (w : Why) {x y : ℕ} → x ≡ number_of w → y ≡ number_of w → x ≡ y
u8_from_why-determined w = settled

pub refusal_from_why-determined : (w : Why) {x y : Refusal} → x ≡ record { why = w; place = 0 } → y ≡ record { why = w; place = 0 } → x ≡ y
refusal_from_why-determined w = settled

pub procedure-determined : (p : ℕ) {x y : Result Procedure Refusal} → x ≡ procedure_of p → y ≡ procedure_of p → x ≡ y
procedure-determined p = settled

pub id_length-determined : (l : ℕ) {x y : Result IdLength Refusal} → x ≡ id_of l → y ≡ id_of l → x ≡ y
id_length-determined l = settled

pub control-determined : (code : ℕ) {x y : Result Control Refusal} → x ≡ control_of code → y ≡ control_of code → x ≡ y
control-determined code = settled

pub u8_from_control-determined : (c : Control) {x y : ℕ} → x ≡ code_of c → y ≡ code_of c → x ≡ y
u8_from_control-determined c = settled

pub kind-determined : (k : ℕ) {x y : Result Kind Refusal} → x ≡ kind_of k → y ≡ kind_of k → x ≡ y
kind-determined k = settled

-- the calls
pub offered-determined : (s : Settings) {x y : Result Link Refusal} → x ≡ offered_of s → y ≡ offered_of s → x ≡ y
offered-determined s = settled

pub test_characters-determined : (p : ℕ) (f : List ℕ) {x y : Result Pair Refusal} → x ≡ due_of p f → y ≡ due_of p f → x ≡ y
test_characters-determined p f = settled

pub control_frame-determined : (p code : ℕ) (out : List ℕ) {x y : Result (Unit {0}) Refusal × List ℕ} → x ≡ control_outcome p code out → y ≡ control_outcome p code out → x ≡ y
control_frame-determined p code out = settled

pub outer_form-determined : (s : Settings) (f : List ℕ) {x y : Result Outer Refusal} → x ≡ outer_of s f → y ≡ outer_of s f → x ≡ y
outer_form-determined s f = settled

pub fresh-determined : {x y : Receiver} → x ≡ fresh → y ≡ fresh → x ≡ y
fresh-determined = settled

pub receive-determined : (r : Receiver) (b : ℕ) {x y : Answer × Receiver} → x ≡ receive_of r b → y ≡ receive_of r b → x ≡ y
receive-determined r b = settled

pub refusal_in-determined : (a : Answer) {x y : Result (Unit {0}) Refusal} → x ≡ refusal_in a → y ≡ refusal_in a → x ≡ y
refusal_in-determined a = settled

pub locate-determined : (s : List ℕ) (start : ℕ) {x y : Option Span} → x ≡ span_of (first_from s start) → y ≡ span_of (first_from s start) → x ≡ y
locate-determined s start = settled

pub find-determined : (s : List ℕ) (start : ℕ) {x y : List ℕ} → x ≡ bytes_of (first_from s start) → y ≡ bytes_of (first_from s start) → x ≡ y
find-determined s start = settled

pub count_frames-determined : (s : List ℕ) {x y : ℕ} → x ≡ length (frames_of s) → y ≡ length (frames_of s) → x ≡ y
count_frames-determined s = settled

pub feed-determined : (r : Receiver) (bytes : List ℕ) {x y : Result (Option Fed) Refusal × Receiver} → x ≡ fed_of r 0 bytes → y ≡ fed_of r 0 bytes → x ≡ y
feed-determined r bytes = settled

-- what is handed out, and what the finder has before it then; a part of the capture is told by its bytes
pub next-determined : (f : Finder) (x y : Option (Bor (List ℕ))) (t u : Finder) → FindsNext f x t → FindsNext f y u
    → (option_copied x ≡ option_copied y) × (t.capture.now ≡ u.capture.now) × (t.start ≡ u.start)
next-determined f x y t u p q = (settled p.0 q.0, settled p.1 q.1, settled p.2 q.2)

pub new-determined : (capture : List ℕ) (t u : Finder) → (t.capture.now ≡ capture) × (t.start ≡ 0) → (u.capture.now ≡ capture) × (u.start ≡ 0)
    → (t.capture.now ≡ u.capture.now) × (t.start ≡ u.start)
new-determined capture t u p q = (settled p.0 q.0, settled p.1 q.1)
