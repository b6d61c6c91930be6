-- A receiver that was fed a capture from `start` up to `at`, has handed over nothing, and holds n bytes: those are the n bytes before `at`.
-- Assumes nothing.
use Rattle.std.proofs.Common.{◌≡◌, ℕ, zero, suc, ◌+◌, ◌-◌, ◌<◌, ◌≤◌, List, length, get_or, take, drop, set, sym, refl, ap, ◌∙◌, add-one, arith, length-drop, length-set, drop_of_length-le, get_or-drop, take-suc, take-suc-set}
use Rattle.link.specs.Cut.{Answer, act_of, holding, done, onward, handed_from, first_from, fresh, none, after}
use Rattle.link.specs.declared.cut.Receiver.{Receiver}
use Rattle.std.specs.Prelude.{Result, Ok, Err}
use Rattle.link.specs.declared.settings.Refusal.{Refusal}
use Rattle.link.specs.declared.cut.Act.{Act}
use Rattle.link.specs.declared.cut.Act.TheVariants.{Begin, Skip, Drop, Close, Keep}
use Rattle.link.proofs.Laws.{rest, taken}
use Rattle.link.proofs.Judged.{Judged, judged}

pub record Held (s : List ℕ) (start n at : ℕ) : Type 0 where
  pub held : List ℕ
  pub long : length held ≡ 255
  pub few : n ≤ 255
  pub within : start + n ≤ at
  pub same : take n held ≡ take n (drop (at - n) s)
  pub run : handed_from (holding held n) at (drop at s) ≡ first_from s start

-- one byte more, at n of what is held and at `at` of the capture
grow : (held s : List ℕ) (n at : ℕ) → n ≤ at → at < length s → n < length held → take n held ≡ take n (drop (at - n) s)
    → take (n + 1) (set held n (get_or s at 0)) ≡ take (n + 1) (drop (at - n) s)
grow held s n at h l f e =
    let k : n < length (drop (at - n) s) = simp length-drop (omega arith) in
    let p : at - n + n ≡ at = omega arith in
    rw (add-one, take-suc-set held n (get_or s at 0) f, take-suc (drop (at - n) s) n 0 k, get_or-drop (at - n) s n 0, p, e)

pub fresh_long : length (fresh.held) ≡ 255
unfolding fresh
fresh_long = refl

pub fresh_none : fresh ≡ holding (fresh.held) 0
unfolding fresh
fresh_none = refl

module _ (s : List ℕ) (start : ℕ) where
  pub held_none : Held s start 0 start
  held_none =
      record {
        held = fresh.held;
        long = fresh_long;
        few = omega arith;
        within = omega arith;
        same = refl;
        run = ap (λ (r : Receiver). handed_from r start (drop start s)) (sym fresh_none);
      }

  -- one byte, by what it does
  module _ (n at : ℕ) (l : at < length s) (H : Held s start n at) (act : Result Act Refusal) (was : act ≡ act_of n (get_or s at 0)) where
    fed : (a : Result Act Refusal) → act ≡ a
        → onward (done a (holding H.held n) (get_or s at 0)) (at + 1) (λ r. handed_from r (at + 1) (drop (at + 1) s)) ≡ first_from s start
    fed a e =
        ap (λ (x : Answer × Receiver). onward x (at + 1) (λ r. handed_from r (at + 1) (drop (at + 1) s))) (sym (taken H.held n (get_or s at 0) a (sym was ∙ e)))
        ∙ sym (ap (handed_from (holding H.held n) at) (rest s at l))
        ∙ H.run

    does : (a : Result Act Refusal) → act ≡ a → Judged n (get_or s at 0) a
    does a e = judged n (get_or s at 0) a (sym was ∙ e)

    pub refused_not : (x : Refusal) → act ≡ Err x → ⊥
    refused_not x e = let k = does (Err x) e in absurd (omega (arith, H.few))

    -- nothing is held from here on
    clear : (k : ℕ) → handed_from (holding H.held k) (at + 1) (drop (at + 1) s) ≡ first_from s start → k ≡ 0 → Held s start 0 (at + 1)
    clear k r z = record { held = H.held; long = H.long; few = omega arith; within = omega arith; same = refl; run = rw z at r }

    pub held_begin : act ≡ Ok Begin → Held s start 1 (at + 1)
    held_begin e =
        let b = get_or s at 0 in
        let p : at + 1 - 1 ≡ at - 0 = omega arith in
        record {
          held = set H.held 0 b;
          long = length-set H.held 0 b ∙ H.long;
          few = omega arith;
          within = omega arith;
          same = rw p (grow H.held s 0 at (omega arith) l (omega (arith, H.long)) refl);
          run = fed (Ok Begin) e;
        }

    pub held_keep : act ≡ Ok Keep → Held s start (n + 1) (at + 1)
    held_keep e =
        let b = get_or s at 0 in
        let k = does (Ok Keep) e in
        let p : at + 1 - (n + 1) ≡ at - n = omega arith in
        record {
          held = set H.held n b;
          long = length-set H.held n b ∙ H.long;
          few = omega arith;
          within = omega arith;
          same = rw p (grow H.held s n at (omega (arith, H.within)) l (omega (arith, H.long)) H.same);
          run = fed (Ok Keep) e;
        }

    pub held_skip : act ≡ Ok Skip → Held s start 0 (at + 1)
    held_skip e = clear n (fed (Ok Skip) e) (does (Ok Skip) e).0

    pub held_drop : act ≡ Ok Drop → Held s start 0 (at + 1)
    held_drop e = clear 0 (fed (Ok Drop) e) refl

    pub held_close : act ≡ Ok Close → first_from s start ≡ after (at + 1) (take (n + 1) (drop (at - n) s))
    held_close e =
        let k = does (Ok Close) e in
        sym (fed (Ok Close) e) ∙ ap (after (at + 1)) (grow H.held s n at (omega (arith, H.within)) l (omega (arith, H.long)) H.same)

  pub held_end : (n at : ℕ) → length s ≤ at → Held s start n at → first_from s start ≡ none
  held_end n at l H = sym H.run ∙ rw (drop_of_length-le s l)

-- how a run ends: nothing is handed over, or a byte closes what is held
pub data Ended (s : List ℕ) (start : ℕ) : Type 0 where
  nothing : first_from s start ≡ none → Ended s start
  closing : (n at : ℕ) → at < length s → Held s start n at → act_of n (get_or s at 0) ≡ Ok Close → Ended s start

module _ (s : List ℕ) (start : ℕ) where
  step : (n at : ℕ) (l : at < length s) (H : Held s start n at) → ((m : ℕ) → Held s start m (at + 1) → Ended s start)
      → (a : Result Act Refusal) → a ≡ act_of n (get_or s at 0) → Ended s start
  step n at l H go (Err x) e = absurd (refused_not s start n at l H (Err x) e x refl)
  step n at l H go (Ok Begin) e = go 1 (held_begin s start n at l H (Ok Begin) e refl)
  step n at l H go (Ok Skip) e = go 0 (held_skip s start n at l H (Ok Skip) e refl)
  step n at l H go (Ok Drop) e = go 0 (held_drop s start n at l H (Ok Drop) e refl)
  step n at l H go (Ok Close) e = closing n at l H (sym e)
  step n at l H go (Ok Keep) e = go (n + 1) (held_keep s start n at l H (Ok Keep) e refl)

  walk : (k n at : ℕ) → length s - at ≡ k → Held s start n at → Ended s start
  walk zero n at e H = nothing (held_end s start n at (omega arith) H)
  walk (suc k) n at e H = step n at (omega arith) H (λ m. walk k m (at + 1) (omega arith)) (act_of n (get_or s at 0)) refl

  pub ended : Ended s start
  ended = walk (length s - start) 0 start refl (held_none s start)
