-- The crate's theorems, from the laws of the receiver, of closed frames and of test characters.
-- Assumes nothing.
use Rattle.std.proofs.Common.{◌≡◌, ℕ, zero, suc, ◌+◌, ◌-◌, ◌%◌, ◌<◌, ◌≤◌, Bool, true, false, eqb, ltb, List, [], ◌∷◌, ◌++◌, length, get_or, take, drop, set, sym, refl, ap, ◌∙◌, subst, zero-add, arith, drop_of_length-le, length-take-le, take_all, get_or-take, take-suc, drop-drop, length-drop, ltb-false, le-ltb, eqb-true, if◌then◌else◌}
use lib.Bits.{bit_xor, bit_or, xor_add_and, or_shifted_r}
use Rattle.std.specs.Prelude.{Option, Some, None, Result, Ok, Err, is_ok, slice_range}
use Rattle.std.specs.List.{fold, sum}
use Rattle.std.proofs.lemmas.List.Sums.{sum_by-cons, sum_by_push}
use Rattle.link.specs.Refusals.{refused, and_then}
use Rattle.link.specs.Settings.{settings_offered, offered_of, procedure_of, id_of}
use Rattle.link.specs.Characters.{STX, ETX, xor_of, hex_of, pair_of, shaped}
use Rattle.link.specs.Control.{END, SPM, MOR, REP, code_of, control_of, control_code, control_length, control_frame, control_outcome}
use Rattle.link.specs.Outer.{marked, named, sized, outer_of}
use Rattle.link.specs.Cut.{Answer, act_of, holding, frame, loss, receive_of, first_from, fresh, Handed, none, after, listed, events_from, frames_in, fed_next, fed_of}
use Rattle.link.specs.Framed.{Plain, Framed, Sound, After, AllFramed}
use Rattle.link.specs.Claims.{HandsOverFrames, Delivers, DeliversAlone, LosesAt255, HandsOverParts, met_next, met, FinderFollows, fed_events, FeedFollows, FeedGoesOn, FeedUses, control_outer, ControlPasses, ControlFramed, OneProcedure}
use Rattle.link.specs.declared.settings.Why.TheVariants.{Unknown}
use Rattle.link.specs.declared.settings.Refusal.{Refusal}
use Rattle.link.specs.declared.settings.Settings.{Settings}
use Rattle.link.specs.declared.settings.Link.{Link}
use Rattle.link.specs.declared.settings.Procedure.{Procedure}
use Rattle.link.specs.declared.settings.Procedure.TheVariants.{A, B}
use Rattle.link.specs.declared.settings.IdLength.{IdLength}
use Rattle.link.specs.declared.control.Control.{Control}
use Rattle.link.specs.declared.control.Control.TheVariants.{End, Spm, More, Repeat}
use Rattle.link.specs.declared.outer.Outer.TheVariants.{Control as OuterControl}
use Rattle.link.specs.declared.cut.Fed.{Fed}
use Rattle.link.specs.declared.cut.Receiver.{Receiver}
use Rattle.link.specs.declared.cut.Received.TheVariants.{Frame, Dropped}
use Rattle.link.proofs.Shapes.{shaped_is, both_true}
use Rattle.link.proofs.Framed.{received, sound_fresh}
use Rattle.link.proofs.Frames.{frames_from, Told, first_told}
use Rattle.link.proofs.Held.{Ended, nothing, closing, ended, held_close}
use Rattle.link.proofs.Delivers.{delivers, delivers_alone}
use Rattle.link.proofs.Closed.{control_framed}
use Rattle.link.proofs.Whole.{closed_shaped, closed_marked}

-- ---- only frames are handed over
module _ (bs : List ℕ) (ih : (r : Receiver) → Sound r → AllFramed (frames_in (events_from r bs))) where
  framed_next : (o : Answer × Receiver) → After o → AllFramed (frames_in (listed o (λ r. events_from r bs)))
  framed_next (Ok None, r) a = ih r a
  framed_next (Ok (Some (Frame m)), r) a = (a.0, ih r a.2)
  framed_next (Ok (Some Dropped), r) a = ih r a.1
  framed_next (Err e, r) a = absurd a

events_framed : (bs : List ℕ) (r : Receiver) → Sound r → AllFramed (frames_in (events_from r bs))
events_framed [] r H = tt
events_framed (b ∷ bs) r H = framed_next bs (λ q S. events_framed bs q S) (receive_of r b) (received r b H)

pub hands_over_frames : HandsOverFrames
hands_over_frames bytes = events_framed bytes fresh sound_fresh

-- ---- a frame goes through
pub delivered : Delivers
delivered f more r F long few = delivers f more F r 0 long few ∙ ap (λ (e : ℕ). after e f) (zero-add (length f))

pub delivered_alone : DeliversAlone
delivered_alone f more r F long few = delivers_alone f more F r long few

-- ---- 255 bytes held
lost : (held more : List ℕ) (b : ℕ) (t : Bool) → eqb b STX ≡ t
    → listed (receive_of (holding held 255) b) (λ r. events_from r more)
    ≡ (if t then events_from (holding (set held 0 b) 1) more else loss ∷ events_from (holding held 0) more)
lost held more b true e = rw e refl
lost held more b false e = rw e refl

pub loses_at_255 : LosesAt255
loses_at_255 held more b = lost held more b (eqb b STX) refl

-- ---- what is handed over is a part of the capture
none_not_after : (e : ℕ) (f : List ℕ) → none ≡ after e f → ⊥
none_not_after e f h = let z : ◌≡◌ {A = ℕ} 0 1 = cc in omega arith

after_is : (d e : ℕ) (g f : List ℕ) → after d g ≡ after e f → (d ≡ e) × (g ≡ f)
after_is d e g f h = (cc, cc)

part_of : (s : List ℕ) (start e : ℕ) (f : List ℕ) → Ended s start → first_from s start ≡ after e f
    → (start + length f ≤ e) × (e ≤ length s) × (slice_range s (e - length f) e ≡ f)
part_of s start e f (nothing z) q = absurd (none_not_after e f (sym z ∙ q))
part_of s start e f (closing n at l H c) q =
    let g = take (n + 1) (drop (at - n) s) in
    let k : length g ≡ n + 1 = length-take-le (n + 1) (drop (at - n) s) (simp length-drop (omega (arith, H.within))) in
    let h : after (at + 1) g ≡ after e f = sym (held_close s start n at l H (act_of n (get_or s at 0)) refl c) ∙ q in
    let (pe, pf) = after_is (at + 1) e g f h in
    let i : at + 1 - (n + 1) ≡ at - n = omega arith in
    let j : at + 1 - (at - n) ≡ n + 1 = omega (arith, H.within) in
    rw (← pe, ← pf, k, i, j) (omega (arith, H.within), omega arith, refl)

pub hands_over_parts : HandsOverParts
hands_over_parts s start e f q = part_of s start e f (ended s start) q

-- ---- the finder, started again after each frame
met_next_told : (k : ℕ) (s : List ℕ) (start : ℕ) (L : List (List ℕ)) (x : Handed) → Told L start (drop start s) x
    → ((e : ℕ) → start < e → met k s e ≡ frames_from fresh (drop e s)) → met_next x (λ e. met k s e) ≡ L
met_next_told k s start L none t ih = sym t
met_next_told k s start L (after e f) t ih =
    let far = t.0 in
    let q : start + (e - start) ≡ e = omega arith in
    let past : drop (e - start) (drop start s) ≡ drop e s = drop-drop (e - start) start s ∙ ap (λ (i : ℕ). drop i s) q in
    let on : f ∷ met k s e ≡ f ∷ frames_from fresh (drop (e - start) (drop start s)) = ap (λ (fs : List (List ℕ)). f ∷ fs) (ih e far ∙ ap (λ (l : List ℕ). frames_from fresh l) (sym past)) in
    on ∙ sym t.2

met_all : (k : ℕ) (s : List ℕ) (start : ℕ) → length s ≤ start + k → met k s start ≡ frames_from fresh (drop start s)
met_all zero s start h = rw (drop_of_length-le s {i = start} (omega arith))
met_all (suc k) s start h =
    met_next_told k s start (frames_from fresh (drop start s)) (first_from s start) (first_told s start) (λ e far. met_all k s e (omega arith))

pub finder_follows : FinderFollows
finder_follows capture start = met_all (length capture) capture start (omega arith)

-- ---- a run fed up to its first event
module _ (all : List ℕ) where
  feed_next : (bs : List ℕ) (used : ℕ) → drop (used + 1) all ≡ bs
      → ((r : Receiver) → fed_events (fed_of r (used + 1) bs) all ≡ events_from r bs)
      → (o : Answer × Receiver) → fed_events (fed_next o (used + 1) (λ r. fed_of r (used + 1) bs)) all ≡ listed o (λ r. events_from r bs)
  feed_next bs used e ih (Ok None, r) = ih r
  feed_next bs used e ih (Ok (Some (Frame n)), r) = ap (λ (l : List ℕ). frame (take n r.held) ∷ events_from r l) e
  feed_next bs used e ih (Ok (Some Dropped), r) = ap (λ (l : List ℕ). loss ∷ events_from r l) e
  feed_next bs used e ih (Err x, r) = refl

  feed_all : (bs : List ℕ) (r : Receiver) (used : ℕ) → drop used all ≡ bs → fed_events (fed_of r used bs) all ≡ events_from r bs
  feed_all [] r used e = refl
  feed_all (b ∷ bs) r used e =
      let rest : drop (used + 1) all ≡ bs = sym (drop-drop 1 used all) ∙ ap (drop 1) e in
      feed_next bs used rest (λ q. feed_all bs q (used + 1) rest) (receive_of r b)

pub feed_follows : FeedFollows
feed_follows r bytes = feed_all bytes bytes r 0 refl

-- ---- a run used up, and what an event uses
-- which of the three answers, and the bytes used
abbrev kind : Result (Option Fed) Refusal × Receiver → ℕ
kind (Ok None, r) = 0
kind (Ok (Some x), r) = 1
kind (Err e, r) = 2

abbrev used_in : Result (Option Fed) Refusal × Receiver → ℕ
used_in (Ok None, r) = 0
used_in (Ok (Some x), r) = x.used
used_in (Err e, r) = 0

module _ (more : List ℕ) (q : Receiver) where
  goes_next : (bs : List ℕ) (used : ℕ) → ((r : Receiver) → fed_of r used bs ≡ (Ok None, q) → events_from r (bs ++ more) ≡ events_from q more)
      → (o : Answer × Receiver) → fed_next o used (λ r. fed_of r used bs) ≡ (Ok None, q) → listed o (λ r. events_from r (bs ++ more)) ≡ events_from q more
  goes_next bs used ih (Ok None, r) e = ih r e
  goes_next bs used ih (Ok (Some x), r) e = let z : ◌≡◌ {A = ℕ} 1 0 = ap kind e in absurd (omega arith)
  goes_next bs used ih (Err x, r) e = let z : ◌≡◌ {A = ℕ} 2 0 = ap kind e in absurd (omega arith)

  goes_on : (bs : List ℕ) (r : Receiver) (used : ℕ) → fed_of r used bs ≡ (Ok None, q) → events_from r (bs ++ more) ≡ events_from q more
  goes_on [] r used e = ap (λ (o : Result (Option Fed) Refusal × Receiver). events_from o.1 more) e
  goes_on (b ∷ bs) r used e = goes_next bs (used + 1) (λ p. goes_on bs p (used + 1)) (receive_of r b) e

pub feed_goes_on : FeedGoesOn
feed_goes_on r q bytes more e = goes_on more q bytes r 0 e

module _ (q : Receiver) (x : Fed) where
  uses_next : (bs : List ℕ) (used : ℕ) → ((r : Receiver) → fed_of r (used + 1) bs ≡ (Ok (Some x), q) → (used + 1 < x.used) × (x.used ≤ used + 1 + length bs))
      → (o : Answer × Receiver) → fed_next o (used + 1) (λ r. fed_of r (used + 1) bs) ≡ (Ok (Some x), q) → (used < x.used) × (x.used ≤ used + suc (length bs))
  uses_next bs used ih (Ok None, r) e = let (l, h) = ih r e in (omega arith, omega arith)
  uses_next bs used ih (Ok (Some y), r) e =
      let p : used + 1 ≡ x.used = ap used_in e in
      (omega arith, omega arith)
  uses_next bs used ih (Err y, r) e = let z : ◌≡◌ {A = ℕ} 2 1 = ap kind e in absurd (omega arith)

  uses : (bs : List ℕ) (r : Receiver) (used : ℕ) → fed_of r used bs ≡ (Ok (Some x), q) → (used < x.used) × (x.used ≤ used + length bs)
  uses [] r used e = let z : ◌≡◌ {A = ℕ} 0 1 = ap kind e in absurd (omega arith)
  uses (b ∷ bs) r used e = uses_next bs used (λ p. uses bs p (used + 1)) (receive_of r b) e

pub feed_uses : FeedUses
feed_uses r q bytes x e = let (l, h) = uses q x bytes r 0 e in (l, omega arith)

-- ---- a control frame passes
no : false ≡ true → ⊥
no e = let z : ◌≡◌ {A = ℕ} 0 1 = cc in omega arith

-- settings that are offered are those of a link
linked : (s : Settings) → settings_offered s ≡ true → (link : Link) × (offered_of s ≡ Ok link) × (procedure_of s.procedure ≡ Ok link.procedure)
linked s = go (procedure_of s.procedure) refl (id_of s.id) refl
  where
    go : (x : Result Procedure Refusal) → procedure_of s.procedure ≡ x → (y : Result IdLength Refusal) → id_of s.id ≡ y → settings_offered s ≡ true
        → (link : Link) × (offered_of s ≡ Ok link) × (procedure_of s.procedure ≡ Ok link.procedure)
    go (Ok p) e (Ok l) d o = (record { procedure = p; id = l }, rw (e, d) refl, e)
    go (Ok p) e (Err x) d o = absurd (no (rw (e, d) at o))
    go (Err x) e y d o = absurd (no (rw e at o))

-- a code that is known is that of a control frame
which : (code : ℕ) → control_code code ≡ true → (c : Control) × (code ≡ code_of c)
which code = one (eqb code END) refl
  where
    four : (t : Bool) → eqb code REP ≡ t → is_ok (if t then Ok Repeat else refused Unknown 2) ≡ true → (c : Control) × (code ≡ code_of c)
    four true e o = (Repeat, eqb-true code REP e)
    four false e o = absurd (no o)

    three : (t : Bool) → eqb code MOR ≡ t → is_ok (if t then Ok More else if eqb code REP then Ok Repeat else refused Unknown 2) ≡ true
        → (c : Control) × (code ≡ code_of c)
    three true e o = (More, eqb-true code MOR e)
    three false e o = four (eqb code REP) refl o

    two : (t : Bool) → eqb code SPM ≡ t
        → is_ok (if t then Ok Spm else if eqb code MOR then Ok More else if eqb code REP then Ok Repeat else refused Unknown 2) ≡ true
        → (c : Control) × (code ≡ code_of c)
    two true e o = (Spm, eqb-true code SPM e)
    two false e o = three (eqb code MOR) refl o

    one : (t : Bool) → eqb code END ≡ t
        → is_ok (if t then Ok End else if eqb code SPM then Ok Spm else if eqb code MOR then Ok More else if eqb code REP then Ok Repeat else refused Unknown 2) ≡ true
        → (c : Control) × (code ≡ code_of c)
    one true e o = (End, eqb-true code END e)
    one false e o = two (eqb code SPM) refl o

coded : (c : Control) → control_of (code_of c) ≡ Ok c
coded End = refl
coded Spm = refl
coded More = refl
coded Repeat = refl

judged : (c : Control) (l : IdLength) → and_then (named (code_of c) ETX) (sized l 6) ≡ Ok (OuterControl (control_outer (code_of c)))
judged End l = refl
judged Spm l = refl
judged More l = refl
judged Repeat l = refl

-- a frame in shape with its test characters is judged by its code
pub passes : (s : Settings) (link : Link) (f : List ℕ) → offered_of s ≡ Ok link → shaped f ≡ true → marked link.procedure f ≡ true
    → outer_of s f ≡ and_then (named (get_or f 1 0) (get_or f 2 0)) (sized link.id (length f))
passes s link f o h m = rw (o, h, m)

-- what is written for a known code is the control frame of that name
written_as : (s : Settings) (code : ℕ) (out : List ℕ) → settings_offered s ≡ true → control_code code ≡ true → control_length ≤ length out
    → (link : Link) × (c : Control) × (offered_of s ≡ Ok link) × (code ≡ code_of c) × (take control_length (control_outcome s.procedure code out).1 ≡ control_frame link.procedure c)
written_as s code out o k room =
    let (link, known, procedure) = linked s o in
    let (c, e) = which code k in
    let framed : take 6 (control_outcome s.procedure (code_of c) out).1 ≡ control_frame link.procedure c = rw (procedure, coded c, le-ltb (length out) 6 room) in
    (link, c, known, e, ap (λ (x : ℕ). take 6 (control_outcome s.procedure x out).1) e ∙ framed)

pub control_passes : ControlPasses
control_passes s code out o k room =
    let (link, c, known, e, written) = written_as s code out o k room in
    let p = link.procedure in
    let front = STX ∷ code_of c ∷ ETX ∷ [] in
    ap (outer_of s) written
    ∙ passes s link (control_frame p c) known (closed_shaped p front (omega arith) (omega arith) refl refl) (closed_marked p front)
    ∙ judged c link.id
    ∙ ap (λ (x : ℕ). Ok (OuterControl (control_outer x))) (sym e)

-- and is a frame so formed
plain_code : (c : Control) → Plain (code_of c)
plain_code End = (omega arith, omega arith)
plain_code Spm = (omega arith, omega arith)
plain_code More = (omega arith, omega arith)
plain_code Repeat = (omega arith, omega arith)

pub control_is_framed : ControlFramed
control_is_framed s code out o k room =
    let (link, c, known, e, written) = written_as s code out o k room in
    subst Framed (sym written) (control_framed link.procedure (code_of c) (plain_code c))

-- ---- no test characters fit both procedures: the lowest bits of XOR and sum are equal, those of STX and ETX are not
xor_parity : (a : ℕ) (bs : List ℕ) → fold bit_xor a bs % 2 ≡ (a + sum bs) % 2
xor_parity a [] = omega arith
xor_parity a (b ∷ bs) = omega (arith, xor_parity (bit_xor a b) bs, xor_add_and a b, sum_by-cons (λ x. x) b bs)

-- a front is its first byte, the bytes that b covers, and its last
sum_front : (l : List ℕ) → 2 ≤ length l → sum l ≡ get_or l 0 0 + sum (take (length l - 2) (drop 1 l)) + get_or l (length l - 1) 0
sum_front [] h = absurd (omega arith)
sum_front (x ∷ []) h = absurd (omega arith)
sum_front (x ∷ y ∷ ys) h =
    let r = y ∷ ys in
    let n = length ys in
    let e : take (suc n) r ≡ r = take_all (suc n) r (omega arith) in
    let d : r ≡ take n r ++ (get_or r n 0 ∷ []) = sym e ∙ take-suc r n 0 (omega arith) in
    let q : sum r ≡ sum (take n r) + (get_or r n 0) = ap sum d ∙ sum_by_push (λ x. x) (take n r) (get_or r n 0) in
    let k2 : length (x ∷ y ∷ ys) - 2 ≡ n = omega arith in
    let k1 : length (x ∷ y ∷ ys) - 1 ≡ suc n = omega arith in
    rw (k2, k1) (omega (arith, q, sum_by-cons (λ x. x) x r))

same_digit : (x y : ℕ) → x < 16 → y < 16 → bit_or x 48 ≡ hex_of y → x ≡ y
same_digit x y h k e = go (ltb y 10) refl e
  where
    go : (t : Bool) → ltb y 10 ≡ t → bit_or x 48 ≡ (if t then y + 48 else y + 55) → x ≡ y
    go true p q = omega (arith, or_shifted_r 3 4 x h)
    go false p q = omega (arith, or_shifted_r 3 4 x h, ltb-false y 10 p)

second_is : (p : Procedure) (f : List ℕ) → marked p f ≡ true → get_or f (length f - 2) 0 ≡ (pair_of p (take (length f - 3) f)).second
second_is p f e =
    let m = pair_of p (take (length f - 3) f) in
    eqb-true (get_or f (length f - 2) 0) m.second (both_true (eqb (get_or f (length f - 3) 0) m.first) _ e).1

pub one_procedure : OneProcedure
one_procedure f s a b =
    let S = shaped_is f s in
    let least = S.least in
    let n = length f - 3 in
    let l = take n f in
    let long : length l ≡ n = length-take-le n f (omega arith) in
    let inner = take (length l - 2) (drop 1 l) in
    let e0 : get_or l 0 0 ≡ STX = get_or-take n f 0 0 (omega arith) ∙ S.opens in
    let at : length l - 1 ≡ length f - 4 = omega arith in
    let e1 : get_or l (length l - 1) 0 ≡ ETX = ap (λ (i : ℕ). get_or l i 0) at ∙ get_or-take n f (length f - 4) 0 (omega arith) ∙ S.ends in
    let parity = xor_parity 0 l in
    let total = sum_front l (omega arith) in
    let same : bit_or (xor_of l % 16) 48 ≡ hex_of (sum inner % 256 % 16) = sym (second_is A f a) ∙ second_is B f b in
    let digit = same_digit (xor_of l % 16) (sum inner % 256 % 16) (omega arith) (omega arith) same in
    omega arith
