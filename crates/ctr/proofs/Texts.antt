-- Counter mode by its bytes and parts; it is its own inverse.
-- Assumes nothing.
use Rattle.std.proofs.Common.{◌≡◌, ℕ, zero, suc, ◌+◌, ◌-◌, ◌*◌, ◌/◌, ◌%◌, ◌<◌, ◌≤◌, List, ◌++◌, length, get_or, take, drop, sym, refl, ap, ◌∙◌, ap₂, ⊎_elim, arith, lit<, length-append, length-drop, length-take-le, get_or-drop, get_or-take, drop-drop, get_or-append-add, ext_get_or, drop_at}
use lib.ListN.{get_or-append}
use lib.Bits.{bit_xor}
use Rattle.octets.specs.Bytes.{Bytes, filled}
use Rattle.octets.specs.Xors.{xors}
use Rattle.octets.proofs.Bytes.{below_nil, below_append, bytes-xors}
use Rattle.octets.proofs.Lists.{le_or_lt, fill_part, filled-length}
use Rattle.octets.proofs.Xors.{get_d_xors, length-xors, xors_twice}
use Rattle.ctr.specs.Ctr.{blocks, after, BlockCipher, keystream, ctr}

-- ---- over any counter

module _ (inc e : List ℕ → List ℕ) (le : BlockCipher e) where
  pub length-keystream : (c : List ℕ) (m : ℕ) → length (keystream inc e c m) ≡ 16 * m
  unfolding keystream
  length-keystream c zero = refl
  length-keystream c (suc m) = length-append (e c) (keystream inc e (inc c) m) ∙ omega (arith, le c, length-keystream (inc c) m)

  pub length-ctr : (c s : List ℕ) → length (ctr inc e c s) ≡ length s
  unfolding ctr
  length-ctr c s = length-xors s (keystream inc e c (blocks (length s))) (omega (arith, length-keystream c (blocks (length s))))

  again : (c s t : List ℕ) → length t ≡ length s → t ≡ ctr inc e c s → ctr inc e c t ≡ s
  unfolding ctr
  again c s t l p =
      ap₂ (λ (x : List ℕ) (n : ℕ). xors x (keystream inc e c (blocks n))) p l
      ∙ xors_twice s (keystream inc e c (blocks (length s))) (omega (arith, length-keystream c (blocks (length s))))

  pub ctr_twice : (c s : List ℕ) → ctr inc e c (ctr inc e c s) ≡ s
  ctr_twice c s = again c s (ctr inc e c s) (length-ctr c s) refl

-- ---- byte strings

module _ (inc e : List ℕ → List ℕ) (bs : (s : List ℕ) → Bytes (e s)) where
  keystream-bytes : (c : List ℕ) (m : ℕ) → Bytes (keystream inc e c m)
  unfolding keystream
  keystream-bytes c zero = below_nil (lit< tt)
  keystream-bytes c (suc m) = below_append (bs c) (keystream-bytes (inc c) m)

  pub ctr-bytes : (c : List ℕ) {s : List ℕ} → Bytes s → Bytes (ctr inc e c s)
  unfolding ctr
  ctr-bytes c h = bytes-xors h (keystream-bytes c _)

-- ---- by bytes and parts

-- The w places from j on become those of t, as the first j places of out are.
part_more : (t d out part : List ℕ) (j w : ℕ) → j + w ≤ length t → j + w ≤ length d → out ≡ filled t j d → part ≡ take w (drop j t)
    → (length (take j out ++ (part ++ drop (j + w - j) (drop j out))) ≡ length d) × (take j out ++ (part ++ drop (j + w - j) (drop j out)) ≡ filled t (j + w) d)
part_more t d out part j w h i f p =
    let r = ap (λ (x : List ℕ). take j x ++ (part ++ drop (j + w - j) (drop j x))) f ∙ fill_part t d part j w h i p in
    (ap length r ∙ filled-length t d (j + w) h i, r)

module _ (inc e : List ℕ → List ℕ) (le : BlockCipher e) where
  keystream-at : (m : ℕ) (c : List ℕ) (k : ℕ) → k < 16 * m → get_or (keystream inc e c m) k 0 ≡ get_or (e (after inc (k / 16) c)) (k % 16) 0
  unfolding keystream after
  keystream-at zero c k i = absurd (omega arith)
  keystream-at (suc m) c k i =
      let rest = keystream inc e (inc c) m in
      ⊎_elim (λ (q : 16 ≤ k).
      let p : k ≡ length (e c) + (k - 16) = omega (arith, le c) in
      let b : suc ((k - 16) / 16) ≡ k / 16 = omega arith in
      let d : (k - 16) % 16 ≡ k % 16 = omega arith in
      ap (λ (x : ℕ). get_or (e c ++ rest) x 0) p
      ∙ get_or-append-add (e c) rest (k - 16) 0
      ∙ keystream-at m (inc c) (k - 16) (omega arith) ∙ ap₂ (λ (x y : ℕ). get_or (e (after inc x c)) y 0) b d)
      (λ (q : k < 16).
      let b : 0 ≡ k / 16 = omega arith in
      let d : k ≡ k % 16 = omega arith in
      get_or-append (e c) rest 0 k (omega (arith, le c)) ∙ ap₂ (λ (x y : ℕ). get_or (e (after inc x c)) y 0) b d)
      (le_or_lt 16 k)

  module _ (first src : List ℕ) where
    text_at : (k : ℕ) → k < length src → get_or (ctr inc e first src) k 0 ≡ bit_xor (get_or src k 0) (get_or (e (after inc (k / 16) first)) (k % 16) 0)
    unfolding ctr
    text_at k i =
        let m = blocks (length src) in
        get_d_xors src (keystream inc e first m) k i (omega (arith, length-keystream inc e le first m))
        ∙ ap (bit_xor (get_or src k 0)) (keystream-at m first k (omega arith))

    -- A part of the text that lies in one block of the key stream.
    text-part : (p w : ℕ) → p + w ≤ length src → p % 16 + w ≤ 16
        → xors (take w (drop p src)) (drop (p % 16) (e (after inc (p / 16) first))) ≡ take w (drop p (ctr inc e first src))
    text-part p w i k =
        let t = ctr inc e first src in
        let b = e (after inc (p / 16) first) in
        let m : length b ≡ 16 = le (after inc (p / 16) first) in
        let u : length (drop (p % 16) b) ≡ 16 - p % 16 = length-drop (p % 16) b ∙ ap (λ (x : ℕ). x - p % 16) m in
        let l1 : length (take w (drop p src)) ≡ w = length-take-le w (drop p src) (rw length-drop (omega arith)) in
        let l2 : length (take w (drop p t)) ≡ w = length-take-le w (drop p t) (rw (length-drop, length-ctr inc e le first src) (omega arith)) in
        let l3 : length (xors (take w (drop p src)) (drop (p % 16) b)) ≡ w = length-xors (take w (drop p src)) (drop (p % 16) b) (omega arith) ∙ l1 in
        ext_get_or 0 (xors (take w (drop p src)) (drop (p % 16) b)) (take w (drop p t)) (l3 ∙ sym l2)
        (λ j f.
        let v : j < w = omega arith in
        let q : p / 16 ≡ (p + j) / 16 = omega arith in
        let r : p % 16 + j ≡ (p + j) % 16 = omega arith in
        get_d_xors (take w (drop p src)) (drop (p % 16) b) j (omega arith) (omega arith)
        ∙ ap₂ bit_xor (get_or-take w (drop p src) j 0 v ∙ get_or-drop p src j 0) (get_or-drop (p % 16) b j 0 ∙ ap₂ (λ (x y : ℕ). get_or (e (after inc x first)) y 0) q r)
        ∙ sym (get_or-take w (drop p t) j 0 v ∙ get_or-drop p t j 0 ∙ text_at (p + j) (omega arith)))

    -- One part more of the text, of w bytes that lie in one block, where the first j bytes of d are those of the text from lo on.
    pub text_more : (d out : List ℕ) (lo j w : ℕ) {k part : List ℕ} → lo + length d ≤ length src → j + w ≤ length d → (lo + j) % 16 + w ≤ 16
        → out ≡ filled (drop lo (ctr inc e first src)) j d
        → k ≡ e (after inc ((lo + j) / 16) first)
        → part ≡ xors (take (lo + j + w - (lo + j)) (drop (lo + j) src)) (drop ((lo + j) % 16) k)
        → (length (take j out ++ (part ++ drop (j + w - j) (drop j out))) ≡ length d)
        × (take j out ++ (part ++ drop (j + w - j) (drop j out)) ≡ filled (drop lo (ctr inc e first src)) (j + w) d)
    text_more d out lo j w {k} {part} h i m f b g =
        let text = ctr inc e first src in
        let t = drop lo text in
        let u : length t ≡ length src - lo = length-drop lo text ∙ ap (λ (x : ℕ). x - lo) (length-ctr inc e le first src) in
        let q : lo + j + w - (lo + j) ≡ w = omega arith in
        let p : part ≡ take w (drop j t) =
        g ∙ ap₂ (λ (x : ℕ) (y : List ℕ). xors (take x (drop (lo + j) src)) (drop ((lo + j) % 16) y)) q b
        ∙ text-part (lo + j) w (omega arith) m ∙ ap (take w) (sym (drop-drop j lo text)) in
        part_more t d out part j w (omega arith) i f p

    -- The same in place: out was src itself, and what is added to stands in out.
    pub text_more_in_place : (out : List ℕ) (j w : ℕ) {k part : List ℕ} → j + w ≤ length src → j % 16 + w ≤ 16
        → out ≡ filled (ctr inc e first src) j src
        → k ≡ e (after inc (j / 16) first)
        → part ≡ xors (take (j + w - j) (drop j out)) (drop (j % 16) k)
        → (length (take j out ++ (part ++ drop (j + w - j) (drop j out))) ≡ length src)
        × (take j out ++ (part ++ drop (j + w - j) (drop j out)) ≡ filled (ctr inc e first src) (j + w) src)
    text_more_in_place out j w {k} {part} i m f b g =
        let t = ctr inc e first src in
        let u : length t ≡ length src = length-ctr inc e le first src in
        let q : j + w - j ≡ w = omega arith in
        let r : drop j out ≡ drop j src = ap (drop j) f ∙ drop_at (take j t) (drop j src) j (length-take-le j t (omega arith)) in
        let p : part ≡ take w (drop j t) =
        g ∙ ap₂ (λ (x y : List ℕ). xors (take (j + w - j) x) (drop (j % 16) y)) r b ∙ ap (λ (x : ℕ). xors (take x (drop j src)) (drop (j % 16) (e (after inc (j / 16) first)))) q
        ∙ text-part j w i m in
        part_more t src out part j w (omega arith) i f p
