-- A list of bytes, index by index, is one of bytes.
use Rattle.std.proofs.Common.{◌≡◌, ℕ, suc, ◌<◌, true, ◌&&◌, nat_lt, List, [], ◌∷◌, slice_index, refl, ap, ◌∙◌, arith}
use Rattle.text_ops.specs.Parts.{are_bytes}

pub by_index : (bs : List ℕ) → ((i : ℕ) → slice_index bs i < 256) → are_bytes bs ≡ true
unfolding are_bytes
by_index [] h = refl
by_index (b ∷ bs) h = ap (λ t. t && are_bytes bs) (low b (h 0)) ∙ by_index bs (λ i. h (suc i))
  where
    low : (b : ℕ) → b < 256 → nat_lt b 256 ≡ true
    low b l = grind arith
