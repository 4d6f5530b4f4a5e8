-- Sheets that are drawn pixel by pixel.
use Rattle.std.proofs.Common.{◌≡◌, ℕ, ◌+◌, ◌<◌, ◌≤◌, ◌&&◌, ◌||◌, Bool, true, false, cond, suc, zero, List, [], ◌∷◌, map, get_or, refl, ap, sym, ◌∙◌, arith}
use Rattle.std.specs.List.{range_with_len}
use Rattle.std.proofs.lemmas.List.FromFn.{get_or-map-range_with_len}
use Rattle.ps_shapes.specs.Sheet.{Sheet, drawn, rows_of, pixel, repainted, IsWhole}

pub pixel_drawn : (w h : ℕ) (f : ℕ → ℕ → Bool) (x y : ℕ) → x < w → y < h → pixel (drawn w h f) x y ≡ f x y
unfolding pixel rows_of
pixel_drawn w h f x y p q =
    ap (λ row. get_or row x false) (get_or-map-range_with_len (λ v. map (λ u. f u v) (range_with_len 0 w)) 0 h y y [] q (omega arith))
    ∙ get_or-map-range_with_len (λ u. f u y) 0 w x x false p (omega arith)

map_same : {A : Type 0} (f g : ℕ → A) (a n : ℕ) → ((k : ℕ) → k < a + n → f k ≡ g k) → map f (range_with_len a n) ≡ map g (range_with_len a n)
map_same f g a zero h = refl
map_same {A} f g a (suc n) h =
    let first : f a ≡ g a = h a (omega arith) in
    let rest : map f (range_with_len (a + 1) n) ≡ map g (range_with_len (a + 1) n) = map_same f g (a + 1) n (λ k p. h k (omega arith)) in
    cc

-- sheets that agree at each pixel are one
pub drawn_same : (w h : ℕ) (f g : ℕ → ℕ → Bool) → ((x y : ℕ) → x < w → y < h → f x y ≡ g x y) → drawn w h f ≡ drawn w h g
unfolding rows_of
drawn_same w h f g e =
    ap (λ (rows : List (List Bool)). record { width = w; height = h; rows = rows })
    (map_same (λ y. map (λ x. f x y) (range_with_len 0 w)) (λ y. map (λ x. g x y) (range_with_len 0 w)) 0 h
    (λ y q. map_same (λ x. f x y) (λ x. g x y) 0 w (λ x p. e x y (omega arith) (omega arith))))

cond_twice : (p q : Bool) (i b : Bool) → cond q i (cond p i b) ≡ cond (p || q) i b
cond_twice true true i b = refl
cond_twice true false i b = refl
cond_twice false true i b = refl
cond_twice false false i b = refl

inked : (b : Bool) (i j k : Bool) → (b ≡ true → i ≡ j) → cond b i k ≡ cond b j k
inked true i j k h = h refl
inked false i j k h = refl

-- one change after another, with one ink
pub repainted_twice : (s : Sheet) (p q ink : ℕ → ℕ → Bool) → repainted (repainted s p ink) q ink ≡ repainted s (λ x y. p x y || q x y) ink
repainted_twice s p q ink =
    drawn_same s.width s.height _ _ (λ x y i j. ap (cond (q x y) (ink x y)) (pixel_drawn s.width s.height (λ u v. cond (p u v) (ink u v) (pixel s u v)) x y i j) ∙ cond_twice (p x y) (q x y) (ink x y) (pixel s x y))

pub repainted_same : (s : Sheet) (p q ink jnk : ℕ → ℕ → Bool) → ((x y : ℕ) → p x y ≡ q x y) → ((x y : ℕ) → p x y ≡ true → ink x y ≡ jnk x y) → repainted s p ink ≡ repainted s q jnk
repainted_same s p q ink jnk e same =
    drawn_same s.width s.height _ _ (λ x y i j. ap (λ t. cond t (ink x y) (pixel s x y)) (e x y) ∙ inked (q x y) (ink x y) (jnk x y) (pixel s x y) (λ h. same x y (e x y ∙ h)))

-- a change of p and then of q, told as one change of r
pub repainted_more : (s t u : Sheet) (p q r ink : ℕ → ℕ → Bool) → t ≡ repainted s p ink → u ≡ repainted t q ink → ((x y : ℕ) → (p x y || q x y) ≡ r x y) → u ≡ repainted s r ink
repainted_more s t u p q r ink a b e = b ∙ ap (λ (k : Sheet). repainted k q ink) a ∙ repainted_twice s p q ink ∙ repainted_same s _ r ink ink e (λ _ _ _. refl)

pub whole_drawn : (w h : ℕ) (f : ℕ → ℕ → Bool) → IsWhole (drawn w h f)
whole_drawn w h f = drawn_same w h f _ (λ x y p q. sym (pixel_drawn w h f x y p q))

-- no change
pub repainted_none : (s : Sheet) (p ink : ℕ → ℕ → Bool) → IsWhole s → ((x y : ℕ) → p x y ≡ false) → s ≡ repainted s p ink
repainted_none s p ink h none = h ∙ drawn_same s.width s.height _ _ (λ x y _ _. ap (λ t. cond t (ink x y) (pixel s x y)) (sym (none x y)))
