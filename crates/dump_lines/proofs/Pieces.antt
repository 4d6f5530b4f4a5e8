-- A text that grew by pieces in turn grew by all of them.
use Rattle.std.proofs.Common.{◌≡◌, ℕ, suc, zero, ◌+◌, ◌-◌, ◌<◌, ◌≤◌, List, [], ◌∷◌, ◌++◌, length, take, drop, refl, ap, sym, ◌∙◌, append-nil, append_assoc, arith}
use Rattle.std.specs.Prelude.{flat_map, slice_index_or, slice_get, reverse, codes, Some, Option}
use Rattle.std.proofs.lemmas.Grind.{flat_map-append}
use Rattle.std.proofs.lemmas.List.{take_more, get_or-reverse, length-reverse}
use Rattle.dump_lines.specs.Values.{spaced}

pub two_pieces : (t a b x y : List ℕ) → x ≡ t ++ a → y ≡ x ++ b → y ≡ t ++ (a ++ b)
two_pieces t a b x y p q = q ∙ ap (λ s. s ++ b) p ∙ append_assoc t a b

pub three_pieces : (t a b c x y z : List ℕ) → x ≡ t ++ a → y ≡ x ++ b → z ≡ y ++ c → z ≡ t ++ (a ++ b ++ c)
three_pieces t a b c x y z p q r = two_pieces t (a ++ b) c y z (two_pieces t a b x y p q) r

pub four_pieces : (t a b c d w x y z : List ℕ) → w ≡ t ++ a → x ≡ w ++ b → y ≡ x ++ c → z ≡ y ++ d → z ≡ t ++ (a ++ b ++ c ++ d)
four_pieces t a b c d w x y z o p q r = two_pieces t (a ++ b ++ c) d y z (three_pieces t a b c w x y o p q) r

pub five_pieces : (t a b c d e v w x y z : List ℕ) → v ≡ t ++ a → w ≡ v ++ b → x ≡ w ++ c → y ≡ x ++ d → z ≡ y ++ e → z ≡ t ++ (a ++ b ++ c ++ d ++ e)
five_pieces t a b c d e v w x y z n o p q r = two_pieces t (a ++ b ++ c ++ d) e y z (four_pieces t a b c d v w x y n o p q) r

pub six_pieces : (t a b c d e f u v w x y z : List ℕ) → u ≡ t ++ a → v ≡ u ++ b → w ≡ v ++ c → x ≡ w ++ d → y ≡ x ++ e → z ≡ y ++ f → z ≡ t ++ (a ++ b ++ c ++ d ++ e ++ f)
six_pieces t a b c d e f u v w x y z m n o p q r = two_pieces t (a ++ b ++ c ++ d ++ e) f y z (five_pieces t a b c d e u v w x y m n o p q) r

pub seven_pieces : (t a b c d e f g s u v w x y z : List ℕ) → s ≡ t ++ a → u ≡ s ++ b → v ≡ u ++ c → w ≡ v ++ d → x ≡ w ++ e → y ≡ x ++ f → z ≡ y ++ g
    → z ≡ t ++ (a ++ b ++ c ++ d ++ e ++ f ++ g)
seven_pieces t a b c d e f g s u v w x y z l m n o p q r = two_pieces t (a ++ b ++ c ++ d ++ e ++ f) g y z (six_pieces t a b c d e f s u v w x y l m n o p q) r

found_at : {X : Type 0} (xs : List X) (k : ℕ) (x : X) → slice_get xs k ≡ Some x → slice_index_or xs k x ≡ x
found_at [] k x e = refl
found_at (y ∷ xs) zero x e = cc
found_at (y ∷ xs) (suc k) x e = found_at xs k x e

module _ {X : Type 0} (f : X → List ℕ) where
  -- one more item was written
  pub one_more : (xs : List X) (k : ℕ) (x : X) (start text after : List ℕ) → k < length xs → x ≡ slice_index_or xs k x → text ≡ start ++ flat_map f (take k xs) →
      after ≡ text ++ f x → after ≡ start ++ flat_map f (take (k + 1) xs)
  one_more xs k x start text after h i t a =
      a ∙ ap (λ s. s ++ f x) t ∙ append_assoc start (flat_map f (take k xs)) (f x)
      ∙ ap (λ m. start ++ (flat_map f (take k xs) ++ m)) (ap f i ∙ sym (append-nil (f (slice_index_or xs k x))))
      ∙ ap (λ m. start ++ m) (sym (flat_map-append f (take k xs) (slice_index_or xs k x ∷ [])))
      ∙ ap (λ ys. start ++ flat_map f ys) (sym (take_more xs k x h))

module _ {X : Type 0} (f : X → List ℕ) where
  behind_space : (xs : List X) (k : ℕ) (x : X) (start text after : List ℕ) → k < length xs → x ≡ slice_index_or xs k x → text ≡ start ++ spaced f (take k xs) →
      after ≡ text ++ (codes " " ++ f x) → after ≡ start ++ spaced f (take (k + 1) xs)
  behind_space xs k x start text after h i t a = one_more (λ y. codes " " ++ f y) xs k x start text after h i t a

  -- the same behind a space
  pub one_more_spaced : (xs : List X) (k : ℕ) (x : X) (start text middle after : List ℕ) → k < length xs → x ≡ slice_index_or xs k x → text ≡ start ++ spaced f (take k xs) →
      middle ≡ text ++ codes " " → after ≡ middle ++ f x → after ≡ start ++ spaced f (take (k + 1) xs)
  one_more_spaced xs k x start text middle after h i t m a = behind_space xs k x start text after h i t (two_pieces text (codes " ") (f x) middle after m a)

  -- one more of a stack, from the oldest on
  pub one_older : (xs : List X) (k count : ℕ) (x : X) (start text middle after : List ℕ) → k < count → count ≡ length xs → slice_get xs (count - 1 - k) ≡ Some x → text ≡ start ++ spaced f (take k (reverse xs)) →
      middle ≡ text ++ codes " " → after ≡ middle ++ f x → after ≡ start ++ spaced f (take (k + 1) (reverse xs))
  one_older xs k count x start text middle after h e i t m a =
      let within : k < length xs = omega (arith, h, e) in
      let place : slice_get xs (length xs - 1 - k) ≡ Some x = sym (ap (λ n. slice_get xs (n - 1 - k)) e) ∙ i in
      one_more_spaced (reverse xs) k x start text middle after (omega (arith, within, length-reverse xs)) (sym (get_or-reverse xs k x within ∙ found_at xs (length xs - 1 - k) x place)) t m a

  -- one more of a stack, from the newest on
  pub one_newer : (xs : List X) (k : ℕ) (x : X) (start text after : List ℕ) → k < length xs → slice_get xs k ≡ Some x → text ≡ start ++ flat_map f (take k xs) →
      after ≡ text ++ f x → after ≡ start ++ flat_map f (take (k + 1) xs)
  one_newer xs k x start text after h i t a = one_more f xs k x start text after h (sym (found_at xs k x i)) t a
