-- A text that grew by pieces in turn grew by all of them.
use Rattle.std.proofs.Common.{◌≡◌, ℕ, List, ◌++◌}

pub five_pieces : (a b c d e t u v w x : List ℕ) → t ≡ a → u ≡ t ++ b → v ≡ u ++ c → w ≡ v ++ d → x ≡ w ++ e →
    x ≡ a ++ b ++ c ++ d ++ e
five_pieces a b c d e t u v w x p q r s z = cc

pub six_pieces : (a b c d e f t u v w x y : List ℕ) → t ≡ a → u ≡ t ++ b → v ≡ u ++ c → w ≡ v ++ d → x ≡ w ++ e → y ≡ x ++ f →
    y ≡ a ++ b ++ c ++ d ++ e ++ f
six_pieces a b c d e f t u v w x y p q r s z o = cc
