-- A frame goes through: whatever a receiver holds, it hands over exactly the frame that it is fed, at its last byte.
-- Assumes nothing.
use Rattle.std.proofs.Common.{le-ltb, ◌≡◌, ℕ, zero, suc, ◌+◌, ◌-◌, ◌<◌, ◌≤◌, List, [], ◌∷◌, ◌++◌, length, get_or, take, drop, set, sym, refl, ap, ◌∙◌, add-one, arith, length-set, drop_of_length-le, take_all, take-suc, take-suc-set, eq-eqb, ne_eqb}
use Rattle.link.specs.Characters.{STX, CR}
use Rattle.link.specs.Cut.{Answer, act_of, holding, done, receive_of, onward, handed_from, after, listed, frame, events_from}
use Rattle.link.specs.Framed.{Plain, Framed}
use Rattle.link.specs.declared.cut.Receiver.{Receiver}
use Rattle.std.specs.Prelude.{Some, None, Result, Ok}
use Rattle.link.specs.declared.settings.Refusal.{Refusal}
use Rattle.link.specs.declared.cut.Act.{Act}
use Rattle.link.specs.declared.cut.Act.TheVariants.{Begin, Close, Keep}
use Rattle.link.specs.declared.cut.Received.TheVariants.{Frame}
use Rattle.link.proofs.Laws.{rest, taken}

-- the acts, from what holds of the count and the byte
module _ (n b : ℕ) where
  act_begin : n ≤ 255 → b ≡ STX → act_of n b ≡ Ok Begin
  act_begin l e = rw (le-ltb 255 n l, eq-eqb b STX e)

  act_keep : 0 < n → n < 255 → Plain b → act_of n b ≡ Ok Keep
  act_keep p l q = rw (le-ltb 255 n (omega arith), ne_eqb b STX q.0, ne_eqb n 0 (omega arith), ne_eqb n 255 (omega arith), ne_eqb b CR q.1)

  act_close : 0 < n → n < 255 → b ≡ CR → act_of n b ≡ Ok Close
  act_close p l e = rw (le-ltb 255 n (omega arith), ne_eqb b STX (omega arith), ne_eqb n 0 (omega arith), ne_eqb n 255 (omega arith), eq-eqb b CR e)

-- one byte of a frame more, at k
grown : (f : List ℕ) → Framed f → (k : ℕ) (held : List ℕ) → length held ≡ 255 → k < length f → take k held ≡ take k f
    → take (k + 1) (set held k (get_or f k 0)) ≡ take (k + 1) f
grown f F k held l h e =
    let p : k < length held = omega (arith, F.most) in
    rw (add-one, take-suc-set held k (get_or f k 0) p, take-suc f k 0 h, e)

-- whatever watches a receiver, told by what it makes of one answer, the place after that byte, and the bytes from there on
module _ {X : Type 0} (watch : Receiver → ℕ → List ℕ → X) (make : Answer × Receiver → ℕ → (Receiver → X) → X)
    (steps : (r : Receiver) (at b : ℕ) (bs : List ℕ) → watch r at (b ∷ bs) ≡ make (receive_of r b) (at + 1) (λ q. watch q (at + 1) bs))
    (waits : (r : Receiver) (at : ℕ) (go : Receiver → X) → make (Ok None, r) at go ≡ go r)
    (f more : List ℕ) (F : Framed f) where
  -- one byte of f, at k, to a receiver that holds n bytes
  fed : (k at : ℕ) (held : List ℕ) (n : ℕ) (a : Result Act Refusal) → k < length f → act_of n (get_or f k 0) ≡ a
      → watch (holding held n) at (drop k f ++ more) ≡ make (done a (holding held n) (get_or f k 0)) (at + 1) (λ q. watch q (at + 1) (drop (k + 1) f ++ more))
  fed k at held n a l e =
      rw (rest f k l)
      (steps (holding held n) at (get_or f k 0) (drop (k + 1) f ++ more)
      ∙ ap (λ (x : Answer × Receiver). make x (at + 1) (λ q. watch q (at + 1) (drop (k + 1) f ++ more))) (taken held n (get_or f k 0) a e))

  -- it makes of f one frame, before the bytes after it
  abbrev Over : ℕ → X → Type 0
  Over at x =
      (h : List ℕ) × (length h ≡ 255) × (take (length f) h ≡ f) × (x ≡ make (Ok (Some (Frame (length f))), holding h 0) at (λ q. watch q at more))

  carry : (m k at : ℕ) (held : List ℕ) → k + suc m ≡ length f → 0 < k → length held ≡ 255 → take k held ≡ take k f
      → Over (at + suc m) (watch (holding held k) at (drop k f ++ more))
  carry zero k at held q p l e =
      let h : k < length f = omega arith in
      let z : length f - 1 ≡ k = omega arith in
      let b = get_or f k 0 in
      let n : k + 1 ≡ length f = omega arith in
      let whole : take (k + 1) (set held k b) ≡ f = grown f F k held l h e ∙ take_all (k + 1) f (omega arith) in
      let past : drop (k + 1) f ≡ [] = drop_of_length-le f (omega arith) in (
        set held k b,
        length-set held k b ∙ l,
        ap (λ (i : ℕ). take i (set held k b)) (sym n) ∙ whole,
        fed k at held k (Ok Close) h (act_close k b p (omega (arith, F.most)) (rw z at F.closes)) ∙ rw (past, n) refl,
      )
  carry (suc m) k at held q p l e =
      let h : k < length f = omega arith in
      let z : at + 1 + suc m ≡ at + suc (suc m) = omega arith in
      let b = get_or f k 0 in
      let (g, long, same, over) = carry m (k + 1) (at + 1) (set held k b) (omega arith) (omega arith) (length-set held k b ∙ l) (grown f F k held l h e) in (
        g,
        long,
        same,
        fed k at held k (Ok Keep) h (act_keep k b p (omega (arith, F.most)) (F.inner k p (omega arith)))
            ∙ waits (holding (set held k b) (k + 1)) (at + 1) (λ q. watch q (at + 1) (drop (k + 1) f ++ more))
            ∙ over
            ∙ ap (λ (i : ℕ). make (Ok (Some (Frame (length f))), holding g 0) i (λ q. watch q i more)) z,
      )

  goes_through : (r : Receiver) (at : ℕ) → length r.held ≡ 255 → r.count ≤ 255 → Over (at + length f) (watch r at (f ++ more))
  goes_through r at long few =
      let h : 0 < length f = omega (arith, F.least) in
      let b = get_or f 0 0 in
      let z : at + 1 + suc (length f - 2) ≡ at + length f = omega (arith, F.least) in
      let (g, full, same, over) = carry (length f - 2) 1 (at + 1) (set r.held 0 b) (omega (arith, F.least)) (omega arith) (length-set r.held 0 b ∙ long) (grown f F 0 r.held long h refl) in (
        g,
        full,
        same,
        fed 0 at r.held r.count (Ok Begin) h (act_begin r.count b few F.opens)
            ∙ waits (holding (set r.held 0 b) 1) (at + 1) (λ q. watch q (at + 1) (drop 1 f ++ more))
            ∙ over
            ∙ ap (λ (i : ℕ). make (Ok (Some (Frame (length f))), holding g 0) i (λ q. watch q i more)) z,
      )

module _ (f more : List ℕ) (F : Framed f) where
  pub delivers : (r : Receiver) (at : ℕ) → length r.held ≡ 255 → r.count ≤ 255 → handed_from r at (f ++ more) ≡ after (at + length f) f
  delivers r at long few =
      let (g, full, same, over) = goes_through handed_from onward (λ q i b bs. refl) (λ q i go. refl) f more F r at long few in
      over ∙ ap (after (at + length f)) same

  -- the same frame, told by events
  pub delivers_alone : (r : Receiver) → length r.held ≡ 255 → r.count ≤ 255
      → (q : Receiver) × (length q.held ≡ 255) × (q.count ≡ 0) × (events_from r (f ++ more) ≡ frame f ∷ events_from q more)
  delivers_alone r long few =
      let (g, full, same, over) = goes_through (λ q i bs. events_from q bs) (λ o i go. listed o go) (λ q i b bs. refl) (λ q i go. refl) f more F r 0 long few in
      (holding g 0, full, refl, over ∙ ap (λ (x : List ℕ). frame x ∷ events_from (holding g 0) more) same)
