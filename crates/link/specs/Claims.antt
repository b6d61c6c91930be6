-- What is proved of the definitions together: each of these is the contract of a function `claim_..`.
-- Assumes nothing.
use Rattle.std.specs.Prelude.{◌≡◌, ℕ, zero, suc, ◌+◌, ◌-◌, ◌<◌, ◌≤◌, true, List, [], ◌∷◌, ◌++◌, length, take, drop, Result, Ok, Err, Option, Some, None, ◌==◌, ◌≢◌, slice_range, slice_set, if◌then◌else◌}
use Rattle.link.specs.Settings.{settings_offered}
use Rattle.link.specs.Characters.{STX, shaped}
use Rattle.link.specs.Control.{END, SPM, MOR, control_code, control_length, control_outcome}
use Rattle.link.specs.Outer.{marked, outer_of}
use Rattle.link.specs.Cut.{holds, holding, Handed, none, after, handed_from, first_from, Event, frame, loss, events_from, frames_of, fed_of}
use Rattle.link.specs.Framed.{Framed, AllFramed}
use Rattle.link.specs.declared.settings.Refusal.{Refusal}
use Rattle.link.specs.declared.settings.Settings.{Settings}
use Rattle.link.specs.declared.settings.Procedure.TheVariants.{A, B}
use Rattle.link.specs.declared.control.Control.{Control}
use Rattle.link.specs.declared.control.Control.TheVariants.{End, Spm, More, Repeat}
use Rattle.link.specs.declared.outer.Outer.TheVariants.{Control as OuterControl}
use Rattle.link.specs.declared.cut.Received.{Received}
use Rattle.link.specs.declared.cut.Received.TheVariants.{Frame, Dropped}
use Rattle.link.specs.declared.cut.Fed.{Fed}
use Rattle.link.specs.declared.cut.Receiver.{Receiver}

-- run over any bytes from the fresh state, the receiver hands over only frames that begin with STX, end with CR, hold neither in
-- between, and have 2 to 255 bytes
abbrev pub HandsOverFrames : Type 0
HandsOverFrames = (bytes : List ℕ) → AllFramed (frames_of bytes)

-- a frame so formed that is fed to a receiver, whatever it holds, is handed over as it is, at its last byte
abbrev pub Delivers : Type 0
Delivers = (f more : List ℕ) (r : Receiver) → Framed f → length r.held ≡ holds → r.count ≤ holds → handed_from r 0 (f ++ more) ≡ after (length f) f

-- the same told with losses: nothing is reported before the frame, and nothing is held after it
abbrev pub DeliversAlone : Type 0
DeliversAlone =
    (f more : List ℕ) (r : Receiver) → Framed f → length r.held ≡ holds → r.count ≤ holds
    → (q : Receiver) × (length q.held ≡ holds) × (q.count ≡ 0) × (events_from r (f ++ more) ≡ frame f ∷ events_from q more)

-- 255 bytes held: STX begins anew and reports nothing; any other byte is a loss, at once, and drops all
abbrev pub LosesAt255 : Type 0
LosesAt255 =
    (held more : List ℕ) (b : ℕ) → events_from (holding held holds) (b ∷ more)
    ≡ (if b == STX then events_from (holding (slice_set held 0 b) 1) more else loss ∷ events_from (holding held 0) more)

-- what the finder meets is a part of the capture, from its start on, and ends at the place after the CR
abbrev pub HandsOverParts : Type 0
HandsOverParts =
    (capture : List ℕ) (start e : ℕ) (f : List ℕ) → first_from capture start ≡ after e f
    → (start + length f ≤ e) × (e ≤ length capture) × (slice_range capture (e - length f) e ≡ f)

-- the frames that the finder meets, started again after each, at most k of them
abbrev pub met_next : Handed → (ℕ → List (List ℕ)) → List (List ℕ)
met_next none go = []
met_next (after e f) go = f ∷ go e

abbrev pub met : ℕ → List ℕ → ℕ → List (List ℕ)
met zero capture start = []
met (suc k) capture start = met_next (first_from capture start) (λ e. met k capture e)

-- from any start they are exactly the frames of one running receiver
abbrev pub FinderFollows : Type 0
FinderFollows = (capture : List ℕ) (start : ℕ) → met (length capture) capture start ≡ frames_of (drop start capture)

-- an event of a run of bytes, and those of the bytes that it did not use
abbrev pub event_then : Received → ℕ → Receiver → List ℕ → List Event
event_then (Frame n) used r bytes = frame (take n r.held) ∷ events_from r (drop used bytes)
event_then Dropped used r bytes = loss ∷ events_from r (drop used bytes)

-- what a run of bytes gives that is fed up to its first event, and then the bytes after it
abbrev pub fed_events : Result (Option Fed) Refusal × Receiver → List ℕ → List Event
fed_events (Ok None, r) bytes = []
fed_events (Ok (Some x), r) bytes = event_then x.received x.used r bytes
fed_events (Err e, r) bytes = []

-- fed so, again and again, a receiver meets exactly its events
abbrev pub FeedFollows : Type 0
FeedFollows = (r : Receiver) (bytes : List ℕ) → fed_events (fed_of r 0 bytes) bytes ≡ events_from r bytes

-- a run used up without an event leaves the receiver that goes on with what comes after it
abbrev pub FeedGoesOn : Type 0
FeedGoesOn = (r q : Receiver) (bytes more : List ℕ) → fed_of r 0 bytes ≡ (Ok None, q) → events_from r (bytes ++ more) ≡ events_from q more

-- an event uses at least one byte of the run, and no more than there are
abbrev pub FeedUses : Type 0
FeedUses = (r q : Receiver) (bytes : List ℕ) (x : Fed) → fed_of r 0 bytes ≡ (Ok (Some x), q) → (0 < x.used) × (x.used ≤ length bytes)

-- the judgement due for a control frame of a code
abbrev pub control_outer : ℕ → Control
control_outer code =
    if code == END then End
    else if code == SPM then Spm
    else if code == MOR then More
    else Repeat

-- what is written as a control frame passes the judgement of its outer form
abbrev pub ControlPasses : Type 0
ControlPasses =
    (s : Settings) (code : ℕ) (out : List ℕ) → settings_offered s ≡ true → control_code code ≡ true → control_length ≤ length out
    → outer_of s (take control_length (control_outcome s.procedure code out).1) ≡ Ok (OuterControl (control_outer code))

-- and it is a frame so formed: fed to a receiver, it is handed over as it is
abbrev pub ControlFramed : Type 0
ControlFramed =
    (s : Settings) (code : ℕ) (out : List ℕ) → settings_offered s ≡ true → control_code code ≡ true → control_length ≤ length out
    → Framed (take control_length (control_outcome s.procedure code out).1)

-- no frame's test characters fit both procedures
abbrev pub OneProcedure : Type 0
OneProcedure = (f : List ℕ) → shaped f ≡ true → marked A f ≡ true → marked B f ≢ true
