-- Cutting bytes into frames: the receiver, one byte at a time, and what it means to run it over many.
-- Assumes nothing.
use Rattle.std.specs.Prelude.{ℕ, ◌+◌, ◌-◌, List, [], ◌∷◌, length, take, drop, replicate, ◌≡◌, Option, Some, None, option_copied, Result, Ok, Err, ◌==◌, nat_lt, slice_set, if◌then◌else◌}
use Rattle.std.proofs.Common.{Bor}
use Rattle.link.specs.Refusals.{refused, and_then}
use Rattle.link.specs.Characters.{STX, CR}
use Rattle.link.specs.declared.settings.Why.TheVariants.{Misshapen, BadState}
use Rattle.link.specs.declared.settings.Refusal.{Refusal}
use Rattle.link.specs.declared.cut.Act.{Act}
use Rattle.link.specs.declared.cut.Act.TheVariants.{Begin, Skip, Drop, Close, Keep}
use Rattle.link.specs.declared.cut.Received.{Received}
use Rattle.link.specs.declared.cut.Received.TheVariants.{Frame, Dropped}
use Rattle.link.specs.declared.cut.Fed.{Fed}
use Rattle.link.specs.declared.cut.Receiver.{Receiver}
use Rattle.link.specs.declared.cut.Span.{Span}
use Rattle.link.specs.declared.cut.Finder.{Finder}

-- no frame has more bytes than a receiver can hold
abbrev pub holds : ℕ
holds = 255

-- what byte b does to a receiver that holds n bytes: the first of these that applies. It is outside a frame exactly when n is 0
abbrev pub act_of : ℕ → ℕ → Result Act Refusal
act_of n b =
    if nat_lt holds n then refused BadState 0
    else if b == STX then Ok Begin
    else if n == 0 then Ok Skip
    else if n == holds then Ok Drop
    else if b == CR then Ok Close
    else Ok Keep

-- a receiver's answer: what it met, if anything, or a refusal
abbrev pub Answer : Type 0
Answer = Result (Option Received) Refusal

-- a receiver with n bytes held
abbrev pub holding : List ℕ → ℕ → Receiver
holding held n = record { held = held; count = n }

-- the answer, and the receiver as it is left
abbrev pub done : Result Act Refusal → Receiver → ℕ → Answer × Receiver
done (Err e) r b = (Err e, r)
done (Ok Begin) r b = (Ok None, holding (slice_set r.held 0 b) 1)
done (Ok Skip) r b = (Ok None, r)
done (Ok Drop) r b = (Ok (Some Dropped), holding r.held 0)
done (Ok Close) r b = (Ok (Some (Frame (r.count + 1))), holding (slice_set r.held r.count b) 0)
done (Ok Keep) r b = (Ok None, holding (slice_set r.held r.count b) (r.count + 1))

abbrev pub receive_of : Receiver → ℕ → Answer × Receiver
receive_of r b = done (act_of r.count b) r b

-- the refusal that the rules see in an answer: they count a loss as a frame refused 2, though the receiver itself refuses its count alone, 11
abbrev pub refusal_of : Option Received → Result (Unit {0}) Refusal
refusal_of None = Ok tt
refusal_of (Some (Frame n)) = Ok tt
refusal_of (Some Dropped) = refused Misshapen 0

abbrev pub refusal_in : Answer → Result (Unit {0}) Refusal
refusal_in a = and_then a refusal_of

-- a fresh receiver holds nothing
unfoldable pub fresh : Receiver
fresh = holding (replicate holds 0) 0

-- ---- the finder: the first frame that a receiver hands over

-- none, or the place after its CR and its bytes
pub data Handed : Type 0 where
  none : Handed
  after : ℕ → List ℕ → Handed

-- an answer at the byte before `at`, with the receiver then; `go` is what the bytes from `at` on give
abbrev pub onward : Answer × Receiver → ℕ → (Receiver → Handed) → Handed
onward (Ok None, r) at go = go r
onward (Ok (Some (Frame n)), r) at go = after at (take n r.held)
onward (Ok (Some Dropped), r) at go = go r
onward (Err e, r) at go = none

-- the receiver fed byte after byte, the next of them at place `at`
abbrev pub handed_from : Receiver → ℕ → List ℕ → Handed
handed_from r at [] = none
handed_from r at (b ∷ bs) = onward (receive_of r b) (at + 1) (λ q. handed_from q (at + 1) bs)

-- a fresh receiver fed a capture from a start counted from 0
abbrev pub first_from : List ℕ → ℕ → Handed
first_from capture start = handed_from fresh start (drop start capture)

-- where the frame lies
abbrev pub span_of : Handed → Option Span
span_of none = None
span_of (after e f) = Some (record { at = e - length f; len = length f })

abbrev pub bytes_of : Handed → List ℕ
bytes_of none = []
bytes_of (after e f) = f

abbrev pub frame_of : Handed → Option (List ℕ)
frame_of none = None
frame_of (after e f) = Some f

-- where the finder goes on: past the frame; where there is none, it stays
abbrev pub past : Handed → ℕ → ℕ
past none start = start
past (after e f) start = e

-- the finder's next frame, told by its bytes, and the finder past it
abbrev pub FindsNext : Finder → Option (Bor (List ℕ)) → Finder → Type 0
FindsNext s r t =
    (option_copied r ≡ frame_of (first_from s.capture.now s.start))
    × (t.capture.now ≡ s.capture.now)
    × (t.start ≡ past (first_from s.capture.now s.start) s.start)

-- ---- the events of a capture: frames and losses at 255, in order

pub data Event : Type 0 where
  frame : List ℕ → Event
  loss : Event

-- what a receiver met: a frame is the first so many of its bytes
abbrev pub event_of : Received → Receiver → Event
event_of (Frame n) r = frame (take n r.held)
event_of Dropped r = loss

abbrev pub listed : Answer × Receiver → (Receiver → List Event) → List Event
listed (Ok None, r) go = go r
listed (Ok (Some x), r) go = event_of x r ∷ go r
listed (Err e, r) go = []

abbrev pub events_from : Receiver → List ℕ → List Event
events_from r [] = []
events_from r (b ∷ bs) = listed (receive_of r b) (λ q. events_from q bs)

abbrev pub events_of : List ℕ → List Event
events_of capture = events_from fresh capture

-- the frames among events
abbrev pub frames_in : List Event → List (List ℕ)
frames_in [] = []
frames_in (frame f ∷ es) = f ∷ frames_in es
frames_in (loss ∷ es) = frames_in es

abbrev pub frames_of : List ℕ → List (List ℕ)
frames_of capture = frames_in (events_of capture)

-- those that a finder has left
abbrev pub frames_left : Finder → List (List ℕ)
frames_left f = frames_of (drop f.start f.capture.now)

-- ---- the receiver fed a run of bytes, up to the first event

-- an answer, with the receiver then and how many bytes were used so far; `go` is what the bytes after them give
abbrev pub fed_next : Answer × Receiver → ℕ → (Receiver → Result (Option Fed) Refusal × Receiver) → Result (Option Fed) Refusal × Receiver
fed_next (Ok None, r) used go = go r
fed_next (Ok (Some x), r) used go = (Ok (Some (record { received = x; used = used })), r)
fed_next (Err e, r) used go = (Err e, r)

abbrev pub fed_of : Receiver → ℕ → List ℕ → Result (Option Fed) Refusal × Receiver
fed_of r used [] = (Ok None, r)
fed_of r used (b ∷ bs) = fed_next (receive_of r b) (used + 1) (λ q. fed_of q (used + 1) bs)
