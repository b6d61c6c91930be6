-- The finder, started again after each frame, meets the frames that one receiver hands over as it runs on.
-- Assumes nothing.
use Rattle.std.proofs.Common.{◌≡◌, ℕ, suc, ◌+◌, ◌-◌, ◌<◌, ◌≤◌, List, [], ◌∷◌, length, get_or, take, drop, set, sym, refl, ap, ◌∙◌, subst, add-one, arith, length-drop, length-set, length-take-le, drop-drop, take-suc-set}
use Rattle.std.proofs.Common.{Bor}
use Rattle.std.proofs.lemmas.Iterator.{YieldsList}
use Rattle.std.proofs.lemmas.Iterator.Consumers.{YieldsList-from_shown}
use Rattle.std.specs.Prelude.{Result, Option, Some, None, Ok, Err, slice_range}
use Rattle.link.specs.Cut.{Answer, act_of, holding, done, receive_of, onward, handed_from, first_from, fresh, Handed, none, after, span_of, bytes_of, frame_of, listed, Event, loss, events_from, frames_in, frames_of, frames_left, past, FindsNext}
use Rattle.link.specs.Framed.{Sound, After}
use Rattle.link.specs.declared.cut.Receiver.{Receiver}
use Rattle.link.specs.declared.cut.Span.{Span}
use Rattle.link.specs.declared.cut.Finder.{Finder}
use Rattle.link.specs.declared.settings.Refusal.{Refusal}
use Rattle.link.specs.declared.cut.Act.{Act}
use Rattle.link.specs.declared.cut.Act.TheVariants.{Begin, Skip, Drop, Close, Keep}
use Rattle.link.specs.declared.cut.Received.TheVariants.{Frame, Dropped}
use Rattle.link.proofs.Laws.{taken}
use Rattle.link.proofs.Judged.{judged}
use Rattle.link.proofs.Held.{fresh_long, fresh_none, held_close, Ended, nothing, closing, ended}
use Rattle.link.proofs.Framed.{received, sound_fresh}

-- two receivers that hold the same n bytes, whatever stands past them
pub record Alike (g h : List ℕ) (n : ℕ) : Type 0 where
  pub one : length g ≡ 255
  pub two : length h ≡ 255
  pub few : n ≤ 255
  pub same : take n g ≡ take n h

module _ (g h : List ℕ) (n b : ℕ) (A : Alike g h n) where
  more : n < 255 → Alike (set g n b) (set h n b) (n + 1)
  more l =
      let p : n < length g = omega (arith, A.one) in
      let q : n < length h = omega (arith, A.two) in
      record {
        one = length-set g n b ∙ A.one;
        two = length-set h n b ∙ A.two;
        few = omega arith;
        same = rw (add-one, take-suc-set g n b p, take-suc-set h n b q, A.same);
      }

  reset : Alike g h 0
  reset = record { one = A.one; two = A.two; few = omega arith; same = refl }

module _ (bs : List ℕ) (ih : (g h : List ℕ) (n : ℕ) → Alike g h n → events_from (holding g n) bs ≡ events_from (holding h n) bs) where
  alike_act : (g h : List ℕ) (n b : ℕ) → Alike g h n → (a : Result Act Refusal) → act_of n b ≡ a
      → listed (done a (holding g n) b) (λ r. events_from r bs) ≡ listed (done a (holding h n) b) (λ r. events_from r bs)
  alike_act g h n b A (Err x) e = refl
  alike_act g h n b A (Ok Begin) e = ih (set g 0 b) (set h 0 b) 1 (more g h 0 b (reset g h n b A) (omega arith))
  alike_act g h n b A (Ok Skip) e = ih g h n A
  alike_act g h n b A (Ok Drop) e = ap (λ (es : List Event). loss ∷ es) (ih g h 0 (reset g h n b A))
  alike_act g h n b A (Ok Close) e =
      let B = more g h n b A (judged n b (Ok Close) e).1 in
      rw (B.same, ih (set g n b) (set h n b) 0 (reset (set g n b) (set h n b) (n + 1) b B))
  alike_act g h n b A (Ok Keep) e = ih (set g n b) (set h n b) (n + 1) (more g h n b A (judged n b (Ok Keep) e).1)

pub alike : (bs g h : List ℕ) (n : ℕ) → Alike g h n → events_from (holding g n) bs ≡ events_from (holding h n) bs
alike [] g h n A = refl
alike (b ∷ bs) g h n A =
    let a = act_of n b in
    let go = λ (o : Answer × Receiver). listed o (λ r. events_from r bs) in
    ap go (taken g n b a refl) ∙ alike_act bs (alike bs) g h n b A a refl ∙ ap go (sym (taken h n b a refl))

-- the frames of a receiver
abbrev pub frames_from : Receiver → List ℕ → List (List ℕ)
frames_from r bs = frames_in (events_from r bs)

-- of the frames L that the bytes bs give, the next at place `at`: none, or the first frame, and then those of a fresh receiver on the bytes after it
abbrev pub Told : List (List ℕ) → ℕ → List ℕ → Handed → Type 0
Told L at bs none = L ≡ []
Told L at bs (after e f) = (at < e) × (e ≤ at + length bs) × (L ≡ f ∷ frames_from fresh (drop (e - at) bs))

shift : (L : List (List ℕ)) (at b : ℕ) (bs : List ℕ) (x : Handed) → Told L (at + 1) bs x → Told L at (b ∷ bs) x
shift L at b bs none t = t
shift L at b bs (after e f) t =
    let l = t.0 in
    let m = t.1 in
    let p : e - at ≡ suc (e - (at + 1)) = omega arith in
    (omega arith, omega arith, rw p t.2)

-- a receiver with nothing held goes on as a fresh one does
pub anew : (r : Receiver) (bs : List ℕ) → length r.held ≡ 255 → r.count ≡ 0 → events_from r bs ≡ events_from fresh bs
anew r bs l z =
    ap (λ (n : ℕ). events_from (holding r.held n) bs) z
    ∙ alike bs r.held (fresh.held) 0 (record { one = l; two = fresh_long; few = omega arith; same = refl })
    ∙ ap (λ (q : Receiver). events_from q bs) (sym fresh_none)

module _ (at b : ℕ) (bs : List ℕ) (ih : (q : Receiver) → Sound q → Told (frames_from q bs) (at + 1) bs (handed_from q (at + 1) bs)) where
  answer : (o : Answer × Receiver) → After o
      → Told (frames_in (listed o (λ q. events_from q bs))) at (b ∷ bs) (onward o (at + 1) (λ q. handed_from q (at + 1) bs))
  answer (Ok None, q) a = shift (frames_from q bs) at b bs (handed_from q (at + 1) bs) (ih q a)
  answer (Ok (Some (Frame m)), q) a =
      let p : at + 1 - at ≡ 1 = omega arith in
      (omega arith, omega arith, rw (p, anew q bs a.2.long a.1))
  answer (Ok (Some Dropped), q) a = shift (frames_from q bs) at b bs (handed_from q (at + 1) bs) (ih q a.1)
  answer (Err e, q) a = absurd a

pub told : (bs : List ℕ) (r : Receiver) (at : ℕ) → Sound r → Told (frames_from r bs) at bs (handed_from r at bs)
told [] r at H = refl
told (b ∷ bs) r at H = answer at b bs (λ q S. told bs q (at + 1) S) (receive_of r b) (received r b H)

pub first_told : (s : List ℕ) (start : ℕ) → Told (frames_from fresh (drop start s)) start (drop start s) (first_from s start)
first_told s start = told (drop start s) fresh start sound_fresh

-- no more frames than bytes
module _ (bs : List ℕ) (ih : (q : Receiver) → length (frames_from q bs) ≤ length bs) where
  few_next : (o : Answer × Receiver) → length (frames_in (listed o (λ q. events_from q bs))) ≤ length bs + 1
  few_next (Ok None, q) = omega (arith, ih q)
  few_next (Ok (Some (Frame m)), q) = omega (arith, ih q)
  few_next (Ok (Some Dropped), q) = omega (arith, ih q)
  few_next (Err e, q) = omega arith

few_from : (bs : List ℕ) (r : Receiver) → length (frames_from r bs) ≤ length bs
few_from [] r = omega arith
few_from (b ∷ bs) r = omega (arith, few_next bs (λ q. few_from bs q) (receive_of r b))

pub few_frames : (s : List ℕ) (start : ℕ) → length (frames_of (drop start s)) ≤ length s
few_frames s start = omega (arith, few_from (drop start s) fresh, length-drop start s)

-- of what the finder hands over: none, and none is to come; or a frame, and then those past it
abbrev pub Rest : List ℕ → ℕ → Handed → Type 0
Rest s start none = frames_of (drop start s) ≡ []
Rest s start (after e f) = (start < e) × (frames_of (drop start s) ≡ f ∷ frames_of (drop e s))

rest_told : (s : List ℕ) (start : ℕ) (x : Handed) → Told (frames_of (drop start s)) start (drop start s) x → Rest s start x
rest_told s start none t = t
rest_told s start (after e f) t =
    let t0 = t.0 in
    let z : start + (e - start) ≡ e = omega arith in
    (t0, t.2 ∙ rw (drop-drop (e - start) start s, z))

pub rest_from : (s : List ℕ) (start : ℕ) → Rest s start (first_from s start)
rest_from s start = rest_told s start (first_from s start) (first_told s start)

-- the part of the capture that the finder gives
pub record Part (s : List ℕ) (start : ℕ) (r : Span) : Type 0 where
  pub inside : r.at + r.len ≤ length s
  pub bytes : frame_of (first_from s start) ≡ Some (slice_range s r.at (r.at + r.len))
  pub onto : r.at + r.len ≡ past (first_from s start) start
  pub fewer : length (frames_of (drop (r.at + r.len) s)) < length (frames_of (drop start s))

abbrev pub Found : List ℕ → ℕ → Option Span → Type 0
Found s start None = first_from s start ≡ none
Found s start (Some r) = Part s start r

module _ (s : List ℕ) (start : ℕ) where
  found_of : Ended s start → Found s start (span_of (first_from s start))
  found_of (nothing e) = rw e e
  found_of (closing n at l H e) =
      let f = take (n + 1) (drop (at - n) s) in
      let c = held_close s start n at l H (act_of n (get_or s at 0)) refl e in
      let k : length f ≡ n + 1 = length-take-le (n + 1) (drop (at - n) s) (simp length-drop (omega (arith, H.within))) in
      let t : Rest s start (after (at + 1) f) = rw c at (rest_from s start) in
      let p : at + 1 - (n + 1) ≡ at - n = omega arith in
      let q : at - n + (n + 1) ≡ at + 1 = omega (arith, H.within) in
      let w : at + 1 - (at - n) ≡ n + 1 = omega (arith, H.within) in
      rw (c, k, p)
      record {
        inside = omega (arith, H.within);
        bytes = rw (c, q, w) refl;
        onto = rw (c, q) refl;
        fewer = rw q (omega (arith, ap length t.1));
      }

  found : (r : Option Span) → r ≡ span_of (first_from s start) → Found s start r
  found r e = subst (Found s start) (sym e) (found_of (ended s start))

  pub found_inside : (r : Span) → Some r ≡ span_of (first_from s start) → r.at + r.len ≤ length s
  found_inside r e = (found (Some r) e).inside

  pub found_bytes : (r : Span) → Some r ≡ span_of (first_from s start) → frame_of (first_from s start) ≡ Some (slice_range s r.at (r.at + r.len))
  found_bytes r e = (found (Some r) e).bytes

  pub found_onto : (r : Span) → Some r ≡ span_of (first_from s start) → r.at + r.len ≡ past (first_from s start) start
  found_onto r e = (found (Some r) e).onto

  pub found_fewer : (r : Span) → Some r ≡ span_of (first_from s start) → length (frames_of (drop (r.at + r.len) s)) < length (frames_of (drop start s))
  found_fewer r e = (found (Some r) e).fewer

  pub found_none : None ≡ span_of (first_from s start) → first_from s start ≡ none
  found_none e = found None e

-- the part itself is what is handed over
bytes_part : (x : Handed) (f : List ℕ) → frame_of x ≡ Some f → f ≡ bytes_of x
bytes_part none f e = cc
bytes_part (after n g) f e = let p : g ≡ f = cc in sym p

module _ (s : List ℕ) (start : ℕ) where
  pub found_part : (r : Span) → Some r ≡ span_of (first_from s start) → slice_range s r.at (r.at + r.len) ≡ bytes_of (first_from s start)
  found_part r e = bytes_part (first_from s start) (slice_range s r.at (r.at + r.len)) (found_bytes s start r e)

  pub found_empty : None ≡ span_of (first_from s start) → bytes_of (first_from s start) ≡ []
  found_empty e = rw (found_none s start e)

pub ruleset parts = (found_inside, found_part, found_empty)

pub ruleset finds = (found_inside, found_bytes, found_onto, found_fewer, found_none)

-- what a finder has left is what it gives, one after the other
shown_none : (s : List ℕ) (start : ℕ) (x : Handed) → Rest s start x → None ≡ frame_of x → length (frames_of (drop start s)) ≡ 0
shown_none s start none t e = ap length t
shown_none s start (after n f) t e = cc

shown_some : (s : List ℕ) (start : ℕ) (x : Handed) (f : List ℕ) → Rest s start x → Some f ≡ frame_of x → frames_of (drop start s) ≡ f ∷ frames_of (drop (past x start) s)
shown_some s start none f t e = cc
shown_some s start (after n g) f t e = let p : g ≡ f = cc in t.1 ∙ rw p refl

pub left_yields : (f : Finder) → YieldsList FindsNext (λ x. x.now) f (frames_left f)
left_yields f =
    YieldsList-from_shown FindsNext (λ (x : Bor (List ℕ)). x.now) frames_left
    (λ s t n. shown_none s.capture.now s.start (first_from s.capture.now s.start) (rest_from s.capture.now s.start) n.0)
    (λ s x t n. shown_some s.capture.now s.start (first_from s.capture.now s.start) x.now (rest_from s.capture.now s.start) n.0 ∙ rw (n.1, n.2) refl)
    f
