-- A receiver that starts fresh, or sound, hands over only frames that begin with STX, end with CR and hold neither in between, and stays sound.
-- Assumes nothing.
use Rattle.std.proofs.Common.{◌≡◌, ℕ, ◌+◌, ◌-◌, ◌<◌, List, [], ◌∷◌, length, get_or, take, drop, set, sym, refl, ◌∙◌, subst, arith, length-set, length-take-le, get_or-set_other, get_or-take, get_or-set_same, below_more}
use Rattle.std.specs.Prelude.{Some, None, Result, Ok, Err}
use Rattle.link.specs.Cut.{Answer, act_of, holding, done, receive_of, onward, handed_from, first_from, fresh, Handed}
use Rattle.link.specs.Framed.{Plain, Framed, Sound, After, FramedIf}
use Rattle.link.specs.declared.cut.Receiver.{Receiver}
use Rattle.link.specs.declared.settings.Refusal.{Refusal}
use Rattle.link.specs.declared.cut.Act.{Act}
use Rattle.link.specs.declared.cut.Act.TheVariants.{Begin, Skip, Drop, Close, Keep}
use Rattle.link.specs.declared.cut.Received.TheVariants.{Frame, Dropped}
use Rattle.link.proofs.Laws.{taken}
use Rattle.link.proofs.Judged.{judged}
use Rattle.link.proofs.Held.{fresh_long, fresh_none}

pub sound_none : (held : List ℕ) → length held ≡ 255 → Sound (holding held 0)
sound_none held l = record { long = l; few = omega arith; opens = λ p. absurd (omega arith); inner = λ i p q. absurd (omega arith) }

pub sound_fresh : Sound fresh
sound_fresh = subst Sound (sym fresh_none) (sound_none (fresh.held) fresh_long)

module _ (held : List ℕ) (n b : ℕ) (H : Sound (holding held n)) where
  long_set : (i : ℕ) → length (set held i b) ≡ 255
  long_set i = length-set held i b ∙ H.long

  -- what stands below n stays
  below : (i : ℕ) → i < n → get_or (set held n b) i 0 ≡ get_or held i 0
  below i h = get_or-set_other held n i b 0 (λ p. omega arith)

  here : n < 255 → get_or (set held n b) n 0 ≡ b
  here h = get_or-set_same held n b 0 (omega (arith, H.long))

  begins : act_of n b ≡ Ok Begin → Sound (holding (set held 0 b) 1)
  begins e =
      record {
        long = long_set 0;
        few = omega arith;
        opens = λ p. get_or-set_same held 0 b 0 (omega (arith, H.long)) ∙ (judged n b (Ok Begin) e).1;
        inner = λ i p q. absurd (omega arith);
      }

  keeps : act_of n b ≡ Ok Keep → Sound (holding (set held n b) (n + 1))
  keeps e =
      let k = judged n b (Ok Keep) e in
      record {
        long = long_set n;
        few = omega arith;
        opens = λ p. below 0 k.0 ∙ H.opens k.0;
        inner = λ i p q. below_more (λ (j : ℕ). 0 < j → Plain (get_or (set held n b) j 0)) n
            (λ j l z. rw (below j l) (H.inner j z l)) (λ z. rw (here k.1) (k.2, k.3)) i q p;
      }

  closes : act_of n b ≡ Ok Close → Framed (take (n + 1) (set held n b))
  closes e =
      let k = judged n b (Ok Close) e in
      let f = take (n + 1) (set held n b) in
      let l : length f ≡ n + 1 = length-take-le (n + 1) (set held n b) (omega (arith, long_set n)) in
      let m : n + 1 - 1 ≡ n = omega arith in
      record {
        least = omega arith;
        most = omega arith;
        opens = get_or-take (n + 1) (set held n b) 0 0 (omega arith) ∙ below 0 k.0 ∙ H.opens k.0;
        closes = rw (l, m) (get_or-take (n + 1) (set held n b) n 0 (omega arith) ∙ here k.1 ∙ k.2);
        inner = λ i p q. rw (get_or-take (n + 1) (set held n b) i 0 (omega arith), below i (omega arith)) (H.inner i p (omega arith));
      }

  by_act : (a : Result Act Refusal) → act_of n b ≡ a → After (done a (holding held n) b)
  by_act (Err x) e = let k = judged n b (Err x) e in absurd (omega (arith, H.few))
  by_act (Ok Begin) e = begins e
  by_act (Ok Skip) e = H
  by_act (Ok Drop) e = (refl, sound_none held H.long)
  by_act (Ok Close) e = (closes e, refl, sound_none (set held n b) (long_set n))
  by_act (Ok Keep) e = keeps e

-- one byte more
pub received : (r : Receiver) (b : ℕ) → Sound r → After (receive_of r b)
received r b H =
    let a = act_of r.count b in
    subst After (sym (taken r.held r.count b a refl)) (by_act r.held r.count b H a refl)

onward_framed : (o : Answer × Receiver) (at : ℕ) (go : Receiver → Handed) → After o → ((r : Receiver) → Sound r → FramedIf (go r)) → FramedIf (onward o at go)
onward_framed (Ok None, r) at go a f = f r a
onward_framed (Ok (Some (Frame n)), r) at go a f = a.0
onward_framed (Ok (Some Dropped), r) at go a f = f r a.1
onward_framed (Err e, r) at go a f = tt

pub handed_framed : (r : Receiver) (at : ℕ) (bs : List ℕ) → Sound r → FramedIf (handed_from r at bs)
handed_framed r at [] H = tt
handed_framed r at (b ∷ bs) H =
    onward_framed (receive_of r b) (at + 1) (λ q. handed_from q (at + 1) bs) (received r b H) (λ q S. handed_framed q (at + 1) bs S)

-- what the finder hands back is such a frame
pub found_framed : (s : List ℕ) (start : ℕ) → FramedIf (first_from s start)
found_framed s start = handed_framed fresh start (drop start s) sound_fresh
